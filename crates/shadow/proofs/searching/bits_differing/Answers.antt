use Rattle.std.proofs.Common.{◌*◌, arith, inl, inr}
use Rattle.std.proofs.lemmas.Bool.{cases_lt}
use Rattle.shadow.proofs.searching.bits_differing.Goals as goal

pub loop-group-preserved : goal.loop-group-preserved
loop-group-preserved c = λ place before inside clear. elim (cases_lt place (8 * c.loop-group.group)) [
  | inl earlier ↦ c.loop-group.invariant place earlier inside (c.marked_eight-bits.ensures.others place clear)
  | inr later ↦ c.marked_eight-bits.ensures.here place later (omega (arith, before)) inside clear
]

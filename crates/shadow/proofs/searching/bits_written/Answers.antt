use Rattle.std.proofs.Common.{◌≡◌, ◌+◌, ◌*◌, subst, arith, inl, inr, get_or}
use Rattle.std.specs.Int.{bit_at}
use Rattle.std.proofs.lemmas.Bool.{cases_eq}
use Rattle.shadow.proofs.searching.bits_written.Goals as goal

pub loop-place-preserved : goal.loop-place-preserved
loop-place-preserved c = λ place before inside clear. elim (cases_eq place c.loop-place.place) [
  | inl same ↦
      let now : bit_at c.marked-bits.result c.loop-place.place ≡ 0 = subst (λ p. bit_at c.marked-bits.result p ≡ 0) same clear in
      let there : 64 * c.args.word + c.loop-place.place ≡ 64 * c.args.word + place = omega (arith, same) in
      subst (λ cell. get_or c.args.bytes.now cell 0 ≡ 0) there
      (c.is_written.ensures (c.marked-bits.ensures.here now) (omega (arith, same)))
  | inr apart ↦ c.loop-place.invariant place (omega (arith, apart)) inside (c.marked-bits.ensures.others place clear)
]

use Rattle.std.proofs.Common.{◌≡◌, ◌∙◌, ◌*◌, ◌^◌, ◌%◌, sym, arith}
use Rattle.std.specs.Int.{w64}
use Rattle.std.proofs.lemmas.Nat.Bits.{bit_at_set_same}
use Rattle.shadow.proofs.Looking.{or_clear}
use Rattle.shadow.proofs.searching.marked.Goals as goal

pub returns-then-differ-clause-here : goal.returns-then-differ-clause-here
returns-then-differ-clause-here c = λ clear. absurd (let both : 0 ≡ 1 = sym clear ∙ bit_at_set_same w64 c.args.bits c.args.place c.requires in omega (arith, both))

pub returns-then-differ-clause-others : goal.returns-then-differ-clause-others
returns-then-differ-clause-others c = λ other clear. (or_clear c.args.bits (1 * 2 ^ c.args.place % 2 ^ 64) other clear).0

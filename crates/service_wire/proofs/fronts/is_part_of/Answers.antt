use Rattle.std.proofs.Common.{◌∷◌}
use Rattle.std.proofs.lemmas.Bool.Decides.{Decides-eqb}
use Rattle.std.proofs.lemmas.Slice.Eq.{starts_is}
use Rattle.service_wire.proofs.Parts.{part_of}
use Rattle.service_wire.proofs.fronts.is_part_of.Goals as goal

pub returns-then-bytes-mark-clause-part : goal.returns-then-bytes-mark-clause-part
returns-then-bytes-mark-clause-part c = λ yes.
    part_of _ _ c.if-bytes-mark.true ((starts_is Decides-eqb c.args.mark.now c.args.bytes.now c.starts_with.result c.starts_with.ensures.value).0 yes)

pub returns-then-bytes-mark-clause-only : goal.returns-then-bytes-mark-clause-only
returns-then-bytes-mark-clause-only c = λ part.
    (starts_is Decides-eqb c.args.mark.now c.args.bytes.now c.starts_with.result c.starts_with.ensures.value).1 (part.next ∷ part.rest) part.spelled

use Rattle.std.proofs.Common.{arith, ◌≡◌, ◌<◌, [], ◌∷◌, length, refl, List, ℕ}
use Rattle.std.specs.List.{prefix_len}
use Rattle.codes3270.specs.Storable.{is_storable}
use Rattle.std.proofs.lemmas.Bool.Decides.{nat_tests}
use Rattle.datastream.proofs.InboundData.{alone_read, are_none, not_alone_read}
use Rattle.datastream.proofs.inbound.short_read.Goals as goal

no_characters : (text : List ℕ) → length text ≡ 0 → 0 ≡ prefix_len is_storable text
no_characters [] none = refl
no_characters (byte ∷ text) none = absurd (omega arith)

pub invariant_of-result : goal.invariant_of-result
invariant_of-result c =
    let none : length c.args.rest.now ≡ 0 = grind (arith, nat_tests) in
    ((c.args.byte ∷ c.args.rest.now, alone_read _ _ _ _ _ c.requires.known c.requires.alone none), are_none _ _ _ none, no_characters _ none, omega arith)

pub returns-then-is_empty : goal.returns-then-is_empty
returns-then-is_empty c =
    let none : length c.args.rest.now ≡ 0 = grind (arith, nat_tests) in
    (refl, refl, alone_read _ _ _ _ _ c.requires.known c.requires.alone none)

pub returns-else-is_empty : goal.returns-else-is_empty
returns-else-is_empty c =
    let some : 0 < length c.args.rest.now = grind (arith, nat_tests) in
    not_alone_read _ _ _ _ _ c.requires.known c.requires.alone some

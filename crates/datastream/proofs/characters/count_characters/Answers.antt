use Rattle.std.proofs.Common.{ap, length, arith}
use Rattle.std.specs.List.{prefix_len}
use Rattle.std.proofs.lemmas.List.{length-drop}
use Rattle.std.proofs.lemmas.List.Sums.{prefix_len-le-length}
use Rattle.codes3270.specs.Storable.{is_storable}
use Rattle.datastream.proofs.characters.count_characters.Goals as goal

pub returns-then-has_one_character-clause-value : goal.returns-then-has_one_character-clause-value
returns-then-has_one_character-clause-value c =
    let text = c.args.text.now in
    let some = c.has_one_character.ensures.some c.if-has_one_character.true in
    let left = ap length (c.has_one_character.ensures.one c.if-has_one_character.true) in
    omega (arith, some, left, length-drop (prefix_len is_storable text) text, length-drop 1 text, prefix_len-le-length is_storable text)

pub returns-else-has_one_character-clause-value : goal.returns-else-has_one_character-clause-value
returns-else-has_one_character-clause-value c =
    let text = c.args.text.now in
    let left = ap length c.behind_run.ensures in
    omega (arith, left, length-drop (prefix_len is_storable text) text, prefix_len-le-length is_storable text)

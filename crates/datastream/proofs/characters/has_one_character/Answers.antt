use Rattle.std.proofs.Common.{ℕ, w8}
use Rattle.std.proofs.Math.Facts.{Fits-lt-pow}
use Rattle.datastream.proofs.CharacterRuns.{one_character}
use Rattle.datastream.proofs.characters.has_one_character.Goals as goal

pub returns-in-len8-up-clause-one : goal.returns-in-len8-up-clause-one
returns-in-len8-up-clause-one c = λ found.
    one_character c.args.text.now c.word_of.result c.in-len8-up.len_at_least (λ (place : ℕ). Fits-lt-pow {w = w8} (c.type_inv.text place)) c.word_of.ensures (c.is_high_before_field.ensures found)

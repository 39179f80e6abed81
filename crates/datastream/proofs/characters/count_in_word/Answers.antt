use Rattle.std.proofs.Common.{ℕ, w8}
use Rattle.std.proofs.Math.Facts.{Fits-lt-pow}
use Rattle.datastream.proofs.CharacterRuns.{eight_of, eight_are, eight_text}
use Rattle.datastream.proofs.characters.count_in_word.Goals as goal

pub returns-in-len8-up-clause-text : goal.returns-in-len8-up-clause-text
returns-in-len8-up-clause-text c =
    let text = c.args.text.now in
    let small = λ (place : ℕ). Fits-lt-pow {w = w8} (c.type_inv.text place) in
    eight_text text _ small c.count_high.ensures.few (c.count_high.ensures.high (eight_of text) (eight_are text _ small c.word_of.ensures))

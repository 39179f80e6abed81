use Rattle.std.proofs.Common.{◌≡◌, ◌∙◌, sym, true}
use Rattle.jobs.specs.LineParts.{is_digits}
use Rattle.jobs.proofs.LineParts.{number_parsed, number_is, no_number}
use Rattle.jobs.proofs.word.number_of.Goals as goal

-- src/word.rt:33:9
pub returns-then-not-is_digits : goal.returns-then-not-is_digits
returns-then-not-is_digits c = no_number c.args.word.now (sym c.is_digits.ensures ∙ c.if-not-is_digits.true)

-- src/word.rt:29:1
pub returns : goal.returns
returns c =
    let digits : is_digits c.args.word.now ≡ true = sym c.is_digits.ensures ∙ c.if-not-is_digits.false in
    number_is c.args.word.now c.unwrap_or.result digits (c.unwrap_or.ensures ∙ number_parsed c.args.word.now c.parse.result c.parse.ensures.value.0 digits)

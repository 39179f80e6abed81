use Rattle.std.proofs.Common.{ap, length, sym, ◌∙◌}
use Rattle.tty.proofs.Characters.{first_is, no_character}
use Rattle.tty.proofs.key_sequences.first_of.Goals as goal

pub returns-in-Some : goal.returns-in-Some
returns-in-Some c = sym (first_is c.args.text.now _ c.in-Some.letter c.utf8.text (sym c.chars.ensures.rest ∙ c.in-Some.ensures.steps.0))

pub returns-in-None : goal.returns-in-None
returns-in-None c = sym (no_character c.args.text.now (ap length (sym c.chars.ensures.rest) ∙ c.in-None.ensures.steps.0.0))

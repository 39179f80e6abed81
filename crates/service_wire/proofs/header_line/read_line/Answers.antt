use Rattle.std.proofs.Common.{refl, sym, ap, ◌∙◌}
use Rattle.service_wire.specs.HeaderLine.{line_in}
use Rattle.service_wire.proofs.Headers.{line_awaited, line_found}
use Rattle.service_wire.proofs.header_line.read_line.Goals as goal

pub returns-then-bytes-lt-LONGEST_LINE-clause-awaited : goal.returns-then-bytes-lt-LONGEST_LINE-clause-awaited
returns-then-bytes-lt-LONGEST_LINE-clause-awaited c =
    line_awaited _ (sym (c.in_default.ensures ∙ ap line_in c.front_of.ensures.front)) c.if-bytes-lt-LONGEST_LINE.true

pub returns-in-Some-read_words-clause-found : goal.returns-in-Some-read_words-clause-found
returns-in-Some-read_words-clause-found c =
    line_found _ _ _ _ (sym (c.in-Some.ensures ∙ ap line_in c.front_of.ensures.front)) c.in-Some-read_words.ensures refl

pub returns-in-None-clause-refused : goal.returns-in-None-clause-refused
returns-in-None-clause-refused c =
    (c.in-Some.line.now, sym (c.in-Some.ensures ∙ ap line_in c.front_of.ensures.front), c.in-None.ensures)

use Rattle.std.proofs.Common.{sym, ◌∙◌, arith}
use Rattle.jobs.proofs.LineParts.{HasNoBlank, SplitsAtBlank}
use Rattle.scripts.proofs.TermLines.{read_by_text, read_by_verb}
use Rattle.scripts.proofs.term_line.TerminalCommand.read.Goals as goal

pub returns-in-Some : goal.returns-in-Some
returns-in-Some c =
    let parts = c.in-Some.ensures.byte (omega arith) (λ text found is. is) in
    let cut : SplitsAtBlank c.args.line.now c.in-Some.verb.now c.in-Some.text.now = (parts.2, parts.0, parts.1) in
    c.command_of_text.ensures ∙ sym (read_by_text _ _ _ cut)

pub returns-in-None : goal.returns-in-None
returns-in-None c =
    let whole : HasNoBlank c.args.line.now = c.in-None.ensures.byte (omega arith) (λ text found is. is) in
    c.command_of_verb.ensures ∙ sym (read_by_verb c.args.line.now whole)

use Rattle.std.proofs.Common.{sym, ap, ◌∙◌, arith, option_and_then}
use Rattle.scripts.specs.ScriptLines.{command_of_number, command_of_text}
use Rattle.jobs.proofs.LineParts.{SplitsAtBlank, HasNoBlank}
use Rattle.scripts.proofs.ScriptLines.{read_by_verb, read_by_number, read_by_text}
use Rattle.scripts.proofs.script_line.ScriptCommand.read.Goals as goal

pub returns-in_default : goal.returns-in_default
returns-in_default c =
    let whole : HasNoBlank c.args.line.now = c.in_default.ensures.byte (omega arith) (λ text found is. is) in
    c.command_of_verb.ensures ∙ sym (read_by_verb c.args.line.now whole)

pub returns-in_err-number_of-in-Some-split_once : goal.returns-in_err-number_of-in-Some-split_once
returns-in_err-number_of-in-Some-split_once c =
    let parts = c.in-Some.ensures.byte (omega arith) (λ text found is. is) in
    let cut : SplitsAtBlank c.args.line.now c.in-Some.verb.now c.in-Some.rest.now = (parts.2, parts.0, parts.1) in
    let more_parts = c.in-Some-split_once.ensures.byte (omega arith) (λ text found is. is) in
    let more : SplitsAtBlank c.in-Some.rest.now c.in-Some-split_once.number.now c.in-Some-split_once.text.now = (more_parts.2, more_parts.0, more_parts.1) in
    c.from_residual.ensures
    ∙ ap (option_and_then (λ number. command_of_text c.in-Some.verb.now number c.in-Some-split_once.text.now)) (sym c.in_err-number_of-in-Some-split_once.was ∙ c.number_of.ensures)
    ∙ sym (read_by_text _ _ _ cut _ _ more)

pub returns-in_err-number_of-in-None : goal.returns-in_err-number_of-in-None
returns-in_err-number_of-in-None c =
    let parts = c.in-Some.ensures.byte (omega arith) (λ text found is. is) in
    let cut : SplitsAtBlank c.args.line.now c.in-Some.verb.now c.in-Some.rest.now = (parts.2, parts.0, parts.1) in
    let whole : HasNoBlank c.in-Some.rest.now = c.in-None.ensures.byte (omega arith) (λ text found is. is) in
    c.from_residual-in_err-number_of-in-None.ensures
    ∙ ap (option_and_then (command_of_number c.in-Some.verb.now)) (sym c.in_err-number_of-in-None.was ∙ c.number_of-in-None.ensures)
    ∙ sym (read_by_number _ _ _ cut whole)

pub returns-in_ok-number_of-in-Some-split_once : goal.returns-in_ok-number_of-in-Some-split_once
returns-in_ok-number_of-in-Some-split_once c =
    let parts = c.in-Some.ensures.byte (omega arith) (λ text found is. is) in
    let cut : SplitsAtBlank c.args.line.now c.in-Some.verb.now c.in-Some.rest.now = (parts.2, parts.0, parts.1) in
    let more_parts = c.in-Some-split_once.ensures.byte (omega arith) (λ text found is. is) in
    let more : SplitsAtBlank c.in-Some.rest.now c.in-Some-split_once.number.now c.in-Some-split_once.text.now = (more_parts.2, more_parts.0, more_parts.1) in
    c.command_of_text.ensures
    ∙ ap (option_and_then (λ number. command_of_text c.in-Some.verb.now number c.in-Some-split_once.text.now)) (sym c.in_ok-number_of-in-Some-split_once.was ∙ c.number_of.ensures)
    ∙ sym (read_by_text _ _ _ cut _ _ more)

pub returns-in_ok-number_of-in-None : goal.returns-in_ok-number_of-in-None
returns-in_ok-number_of-in-None c =
    let parts = c.in-Some.ensures.byte (omega arith) (λ text found is. is) in
    let cut : SplitsAtBlank c.args.line.now c.in-Some.verb.now c.in-Some.rest.now = (parts.2, parts.0, parts.1) in
    let whole : HasNoBlank c.in-Some.rest.now = c.in-None.ensures.byte (omega arith) (λ text found is. is) in
    c.command_of_number.ensures
    ∙ ap (option_and_then (command_of_number c.in-Some.verb.now)) (sym c.in_ok-number_of-in-None.was ∙ c.number_of-in-None.ensures)
    ∙ sym (read_by_number _ _ _ cut whole)

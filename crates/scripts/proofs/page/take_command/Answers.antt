use Rattle.std.proofs.Common.{◌≡◌, ◌∙◌, ap, refl, sym, [], string_bytes}
use Rattle.std.proofs.lemmas.List.{append-nil}
use Rattle.std.proofs.lemmas.Result.{IfOk-weaker}
use Rattle.datastream.specs.Senses.{sense_of}
use Rattle.scripts.specs.Pages.{TakesCommand, refusal_line, sense_text}
use Rattle.scripts.proofs.page.take_command.Goals as goal

pub returns-in-Ok : goal.returns-in-Ok
returns-in-Ok c =
    let found = rw (c.size.ensures.size, c.alternate.ensures, c.model.ensures) at c.in-Ok.ensures.found in
    ([], TakesCommand.accepted c.in-Ok.command found c.apply.ensures.screen refl, sym (append-nil (string_bytes c.args.text.now)))

pub returns-in-Err : goal.returns-in-Err
returns-in-Err c =
    let found = rw (c.size.ensures.size, c.alternate.ensures, c.model.ensures) at c.in-Err.ensures.found in
    let text : c.sense_text-response.result.now ≡ sense_text (sense_of c.in-Err.fault) = c.sense_text-response.ensures ∙ ap sense_text c.sense.ensures in
    IfOk-weaker c.write.result _ _
    (λ _ written. (refusal_line c.in-Err.fault, TakesCommand.refused c.in-Err.fault found refl refl, rw (← text) written))
    c.write.ensures.bytes

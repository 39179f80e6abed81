use Rattle.std.proofs.Common.{ap, subst, ◌∙◌}
use Rattle.datastream.specs.InboundText.{IsNoInbound}
use Rattle.datastream.specs.declared.inbound_part.Form.{Form}
use Rattle.host_core.specs.Session.{Session}
use Rattle.host_core.proofs.RecordsTaken.{of_data}
use Rattle.host_core.proofs.session.Session.take_data.Goals as goal

pub returns-in-Ok-clause-taken : goal.returns-in-Ok-clause-taken
returns-in-Ok-clause-taken c =
    let read = c.in-Ok.ensures.found in
    of_data c.args.self.now c.hear.new.self c.hear.result c.args.body.now c.form_awaited.result c.in-Ok.inbound
    c.form_awaited.ensures read.0 (read.1 ∙ ap (λ (session : Session). session.size) c.self.view_is) read.2 c.hear.ensures.came

pub take_second_key-requires : goal.take_second_key-requires
take_second_key-requires c = (
  c.in-Err.field-0,
  subst (λ (form : Form). IsNoInbound c.args.self.now.size form c.in-Err.field-0 c.args.body.now) c.form_awaited.ensures
      (subst (λ (session : Session). IsNoInbound session.size c.form_awaited.result c.in-Err.field-0 c.args.body.now) c.self.view_is c.in-Err.ensures.found),
)

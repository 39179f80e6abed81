use Rattle.std.proofs.Common.{ap, sym, ◌∙◌}
use Rattle.host_core.specs.Application.{application_of}
use Rattle.host_core.specs.Does.{acted_by}
use Rattle.host_core.specs.Representation.{shown_by}
use Rattle.host_core.specs.declared.connection.HostEnd.{HostEnd}
use Rattle.host_core.proofs.ConnectionActs.{does_connection, act_holds}
use Rattle.host_core.proofs.connection.Connection.act.Goals as goal

pub returns-in-Open-clause-acted : goal.returns-in-Open-clause-acted
returns-in-Open-clause-acted c =
    does_connection (acted_by (application_of c.args.panels.now)) c.args.self.now c.self.inside.service c.in-Open.end c.deref_mut.result.now c.act-acted.new.self c.self.inside.out c.act-acted.new.out c.act-acted.result _ _
    (sym c.self.view_is) c.self.invariant c.in-Open.is c.deref_mut.ensures.value c.act-acted.ensures.acted
    (c.keep_sent.ensures ∙ ap (λ (x : HostEnd). shown_by c.act-acted.result x.session c.self.inside.reports) c.deref.ensures)

pub returns-in-Open-clause-held : goal.returns-in-Open-clause-held
returns-in-Open-clause-held c =
    act_holds c.args.self.now c.self.inside.service c.in-Open.end c.deref_mut.result.now c.act-acted.new.self c.self.inside.out c.act-acted.new.out c.act-acted.result _
    (sym c.self.view_is) c.in-Open.is c.deref_mut.ensures.value (application_of c.args.panels.now) c.act-acted.ensures.acted

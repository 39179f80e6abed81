use Rattle.std.proofs.Common.{ap, sym, ◌∙◌}
use Rattle.host_core.specs.Application.{application_of}
use Rattle.host_core.specs.Questions.{answered_by}
use Rattle.host_core.specs.Representation.{shown_by}
use Rattle.host_core.specs.declared.connection.HostEnd.{HostEnd}
use Rattle.host_core.proofs.ConnectionActs.{answers_connection, answer_holds}
use Rattle.host_core.proofs.connection.Connection.answer.Goals as goal

pub returns-in-Open-clause-answered : goal.returns-in-Open-clause-answered
returns-in-Open-clause-answered c =
    answers_connection (application_of c.args.panels.now) c.args.answer.now (answered_by (application_of c.args.panels.now) c.args.session c.args.ticket c.args.answer.now) c.args.self.now c.self.inside.service c.in-Open.end c.deref_mut.result.now c.answer_to-acted.new.self c.self.inside.out c.answer_to-acted.new.out c.answer_to-acted.result _ _
    (sym c.self.view_is) c.self.invariant c.in-Open.is c.deref_mut.ensures.value c.answer_to-acted.ensures.answered
    (c.keep_sent.ensures ∙ ap (λ (x : HostEnd). shown_by c.answer_to-acted.result x.session c.self.inside.reports) c.deref.ensures)

pub returns-in-Open-clause-held : goal.returns-in-Open-clause-held
returns-in-Open-clause-held c =
    answer_holds c.args.self.now c.self.inside.service c.in-Open.end c.deref_mut.result.now c.answer_to-acted.new.self c.self.inside.out c.answer_to-acted.new.out c.answer_to-acted.result _
    (sym c.self.view_is) c.in-Open.is c.deref_mut.ensures.value (application_of c.args.panels.now) c.args.session c.args.ticket c.args.answer.now c.answer_to-acted.ensures.answered

use Rattle.std.proofs.Common.{◌≡◌, ◌∙◌, ap, sym, true, false}
use Rattle.host_core.specs.Session.{Session}
use Rattle.host_core.specs.Takes.{may_have_changed}
use Rattle.host_core.proofs.RecordsTaken.{of_any_data, plain_else, plain_then, replacing_else, replacing_then}
use Rattle.host_core.proofs.session.Session.take_any_data.Goals as goal

pub returns-then-may_have_changed-clause-taken : goal.returns-then-may_have_changed-clause-taken
returns-then-may_have_changed-clause-taken c =
    let may : may_have_changed c.args.self.now.unheard ≡ true = ap (λ (s : Session). may_have_changed s.unheard) (sym c.self.view_is) ∙ sym c.may_have_changed.ensures ∙ c.if-may_have_changed.true in
    of_any_data c.args.self.now c.take_data.new.self c.take_data.result c.args.body.now c.as_slice.result.now c.has_escapes.result
    (sym c.is_other_key.ensures ∙ c.if-is_other_key.false)
    (plain_then c.args.self.now c.args.body.now c.as_slice.result.now may (c.as_slice.ensures.value ∙ c.plain_data-plain.ensures))
    (replacing_then c.args.self.now c.args.body.now c.has_escapes.result may c.has_escapes.ensures) c.take_data.ensures.taken

pub returns-else-may_have_changed-clause-taken : goal.returns-else-may_have_changed-clause-taken
returns-else-may_have_changed-clause-taken c =
    let may : may_have_changed c.args.self.now.unheard ≡ false = ap (λ (s : Session). may_have_changed s.unheard) (sym c.self.view_is) ∙ sym c.may_have_changed.ensures ∙ c.if-may_have_changed.false in
    of_any_data c.args.self.now c.take_data-else-may_have_changed.new.self c.take_data-else-may_have_changed.result c.args.body.now c.args.body.now false
    (sym c.is_other_key.ensures ∙ c.if-is_other_key.false)
    (plain_else c.args.self.now c.args.body.now may) (replacing_else c.args.self.now c.args.body.now may) c.take_data-else-may_have_changed.ensures.taken

use Rattle.std.proofs.Common.{sym, ◌∙◌}
use Rattle.panels.proofs.Setting.{set_again}
use Rattle.panels.proofs.values.Values.exchange.Goals as goal

pub returns-clause-back : goal.returns-clause-back
returns-clause-back c =
    rw (← c.self.view_is)
    (set_again c.self.inside.values.entries c.args.field c.in-Ok-Some.former c.in-Ok-Some.ensures.was_ordered (sym c.in-Ok-Some.ensures.old ∙ c.in-Ok-Some.field-0-is))

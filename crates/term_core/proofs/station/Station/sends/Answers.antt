use Rattle.std.proofs.Common.{sym, ◌∙◌, ap}
use Rattle.term_core.specs.State.{Station}
use Rattle.term_core.proofs.Sends.{is_silent}
use Rattle.term_core.proofs.station.Station.sends.Goals as goal

pub returns-in_default : goal.returns-in_default
returns-in_default c =
    is_silent c.args.self.now.screen.size.columns c.args.key.now c.args.self.now.keyboard c.args.self.now.screen.screen
    (sym c.in-Free.is ∙ c.lock.ensures ∙ ap (λ (station : Station). station.keyboard.lock) c.self.view_is)
    c.in_default.not-Enter c.in_default.not-Pf c.in_default.not-Pa c.in_default.not-Clear

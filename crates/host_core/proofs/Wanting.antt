-- Which screen is wanted.
use Rattle.std.proofs.Common.{◌≡◌, ℕ, Bool, ap, ◌∙◌}
use Rattle.datastream.specs.Wanted.{WantedScreen}
use Rattle.panels.specs.Panel.{PanelParts, Panels}
use Rattle.panels.specs.Screen.{Values, screen_of}
use Rattle.panels.specs.declared.message.Message.{Message}
use Rattle.host_core.specs.Application.{application_of, panel_at}

-- the screen of a panel of the set is the application's
pub screen_asked : (set : Panels) (panel : ℕ) (shown : PanelParts) (values : Values) (message : Message) (keep : Bool) (wanted : WantedScreen)
    → shown ≡ panel_at set panel → wanted ≡ screen_of shown values message keep → wanted ≡ (application_of set).screen panel values message keep
screen_asked set panel shown values message keep wanted is asked = asked ∙ ap (λ (p : PanelParts). screen_of p values message keep) is

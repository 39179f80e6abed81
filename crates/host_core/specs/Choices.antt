-- What a host decides, as the code has it (our profile); only private contracts need it.
use Rattle.std.specs.Prelude.{◌≡◌, ◌<◌, ⊤, ℕ, Bool, false, length, Option, Some, None, if◌then◌else◌}
use Rattle.codes3270.specs.Size.{cells_in}
use Rattle.panels.specs.Panel.{Panels}
use Rattle.panels.specs.Screen.{Values}
use Rattle.panels.specs.declared.message.Message.TheVariants.{Fresh}
use Rattle.shadow.specs.Belief.{IsOfSize}
use Rattle.host_core.specs.Acts.{Act, Decision as DecisionValue, learned}
use Rattle.host_core.specs.Application.{Application}
use Rattle.host_core.specs.Session.{Session}
use Rattle.host_core.specs.declared.acting.Decision.{Decision}
use Rattle.host_core.specs.declared.acting.Decision.TheVariants.{Nothing, Read, Ask, Show}
use Rattle.host_core.specs.declared.acting.Shown.{Shown}

-- the act by which a panel is shown, with these values of fields
abbrev pub act_of : Values → Shown → Act
act_of values shown = Act.Show shown.panel shown.message shown.keep values

-- the values of fields with which a panel is shown; if `learn` is set, the known texts are set first
abbrev pub values_with : Application → Session → Bool → Values
values_with app conn learn = if learn then learned conn.shadow (app.fields conn.panel) conn.values else conn.values

-- what the code's decision means, if it is to do something
abbrev pub decision_of : Application → Session → Decision → Option DecisionValue
decision_of app conn Nothing = None
decision_of app conn Read = Some (DecisionValue.Do Act.Read)
decision_of app conn Ask = Some DecisionValue.Asks
decision_of app conn (Show shown learn) = Some (DecisionValue.Do (act_of (values_with app conn learn) shown))

-- Holds if there is such a panel, `count` being the number of panels, and one that is shown fresh keeps nothing.
abbrev pub CanBeShown : ℕ → Shown → Type 0
CanBeShown count shown = (shown.panel < count) × (shown.message ≡ Fresh → shown.keep ≡ false)

-- Holds if the belief has the size of the screen when something is decided, and what is shown can be shown.
abbrev pub CanBeDone : Panels → Session → Decision → Type 0
CanBeDone panels conn Nothing = ⊤
CanBeDone panels conn Read = IsOfSize (cells_in conn.size) conn.shadow
CanBeDone panels conn Ask = IsOfSize (cells_in conn.size) conn.shadow
CanBeDone panels conn (Show shown learn) =
    IsOfSize (cells_in conn.size) conn.shadow × CanBeShown (length panels.panels) shown

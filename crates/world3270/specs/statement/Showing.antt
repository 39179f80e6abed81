-- The screens that show a panel, after a decision of the host or an answer of the application (our profile).
use Rattle.std.specs.Prelude.{◌≡◌, ⊤, ℕ, Bool, true, false}
use Rattle.datastream.specs.Screen.{Screen}
use Rattle.datastream.specs.Wanted.{WantedScreen}
use Rattle.shadow.specs.Belief.{Shadow}
use Rattle.shadow.specs.Fits.{is_paintable}
use Rattle.shadow.specs.Meets.{Meets}
use Rattle.shadow.specs.Painted.{plainly_painted}
use Rattle.shadow.specs.Settled.{IsSettled}
use Rattle.panels.specs.Screen.{Values}
use Rattle.panels.specs.declared.message.Message.{Message}
use Rattle.tn3270e_msg.specs.Talk.{Talk}
use Rattle.tn3270e_msg.specs.declared.host_talk.HostState.{HostState}
use Rattle.host_core.specs.Acts.{Act, Decision, decision_on, values_shown, wanted_by, when_shown}
use Rattle.host_core.specs.Application.{Application}
use Rattle.host_core.specs.Questions.{act_by, is_ask, panel_for}
use Rattle.host_core.specs.Session.{Session, model_in}
use Rattle.host_core.specs.declared.question.Answer.{Answer as ApplicationAnswer}
use Rattle.host_core.specs.declared.turn_reason.TurnReason.{TurnReason}
use Rattle.host_core.specs.declared.turn_reason.TurnReason.TheVariants as turn_reasons

-- ---- a panel on a screen

-- Holds if the host decides on this act, or the application does by some answer to the open question.
pub data IsDecided (app : Application) (conn : Session) (act : Act) : Type 0 where
  by_host : decision_on app conn conn.turn_reason ≡ Decision.Do act → IsDecided app conn act
  by_application : (said : ApplicationAnswer) → is_ask (decision_on app conn conn.turn_reason) ≡ true
      → act ≡ act_by app conn said (panel_for app conn said) → IsDecided app conn act

-- Holds if the screen wasn't read since the key, or the text of each field is known, but for its nulls.
abbrev pub IsKnownIfRead : TurnReason → Shadow → Type 0
IsKnownIfRead turn_reasons.Agreement shadow = ⊤
IsKnownIfRead (turn_reasons.Key aid true) shadow = IsSettled shadow
IsKnownIfRead (turn_reasons.Key aid false) shadow = ⊤
IsKnownIfRead turn_reasons.Refusal shadow = ⊤
IsKnownIfRead turn_reasons.Restoration shadow = ⊤

-- Holds if the connection has a panel in the form for its terminal's model, and the host, if it read the screen, knows
-- the text of each field.
pub record KnowsItsFields (app : Application) (conn : Session) : Type 0 where
  pub earlier : ℕ
  pub shown : conn.panel ≡ app.shown (model_in conn) earlier
  pub read : IsKnownIfRead conn.turn_reason conn.shadow

-- Holds if `wanted` is a screen of the panel with these values and this message. Some connection in this state of
-- negotiation decides to show it, with the values `given`, of which a fresh panel's own are dropped; `over` is its
-- belief at that time, with input in doubt if the host doesn't rely on the wait. With `keep`, fields keep what the
-- operator left in them, if it fits.
pub record IsWantedFor (app : Application) (talk : Talk HostState) (panel : ℕ) (values : Values) (message : Message)
    (over : Shadow) (wanted : WantedScreen) : Type 0 where
  pub conn : Session
  pub same_talk : conn.talk ≡ talk
  pub asked : ℕ
  pub keep : Bool
  pub given : Values
  pub is_decided : IsDecided app conn (Act.Show asked message keep given)
  pub knows : keep ≡ true → KnowsItsFields app conn
  pub panel_is : panel ≡ app.shown (model_in conn) asked
  pub values_are : values ≡ values_shown app panel message given
  pub over_is : over ≡ (when_shown conn).shadow
  pub wanted_is : wanted ≡ wanted_by app (when_shown conn) panel message keep values

-- Holds if `screen` is such a screen, painted on the screen `before`, which meets the belief `over`; so each field that
-- is kept was there, with the same attribute and length. If the terminal waits, `before` also meets the belief by which
-- the host decided.
pub record IsPaintedFor (app : Application) (waits : Bool) (talk : Talk HostState) (panel : ℕ) (values : Values)
    (message : Message) (before screen : Screen) : Type 0 where
  pub wanted : WantedScreen
  pub over : Shadow
  pub wanted_for : IsWantedFor app talk panel values message over wanted
  pub told : waits ≡ true → Meets wanted_for.conn.shadow before
  pub meets : Meets over before
  pub fits : is_paintable over wanted ≡ true
  pub is : screen ≡ plainly_painted wanted before

-- Holds if `wanted` is a screen of the connection's panel, values and message.
abbrev pub WantsItsPanel : Application → Session → Shadow → WantedScreen → Type 0
WantsItsPanel app host over wanted = IsWantedFor app host.talk host.panel host.values host.message over wanted

-- Holds if `screen` shows the connection's panel, painted on the screen `before`.
abbrev pub ShowsItsPanel : Application → Bool → Session → (before screen : Screen) → Type 0
ShowsItsPanel app waits host before screen =
    IsPaintedFor app waits host.talk host.panel host.values host.message before screen

-- Holds if `wanted` is a screen of the connection's panel, to be painted on `screen`. If the terminal waits, `screen`
-- meets the belief by which the host decided.
pub record WantsItsPanelOn (app : Application) (waits : Bool) (host : Session) (over : Shadow) (wanted : WantedScreen)
    (screen : Screen) : Type 0 where
  pub wants : WantsItsPanel app host over wanted
  pub told : waits ≡ true → Meets wants.conn.shadow screen

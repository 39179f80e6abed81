-- Where a key leads (our profile): which panel the host shows by itself after a key, with which message, and whether it
-- is shown fresh or again.
use Rattle.std.specs.Prelude.{◌≡◌, ◌≢◌, ℕ, Bool, true, false, List, Some, None, Option, slice_get, take}
use Rattle.codes3270.specs.declared.attention.Aid.TheVariants.{Enter}
use Rattle.codes3270.specs.declared.size.Model.{Model}
use Rattle.datastream.specs.Screen.{Screen}
use Rattle.panels.specs.declared.message.Message.{Message}
use Rattle.panels.specs.declared.message.Message.TheVariants.{Fresh, KeyNotActive, Required}
use Rattle.panels.specs.declared.next.Next.TheVariants.{Go, Again}
use Rattle.panels.specs.declared.panel.Field.{Field as PanelField}
use Rattle.host_core.specs.Acts.{is_blank}
use Rattle.host_core.specs.Application.{Application}
use Rattle.host_core.specs.Questions.{is_screen_empty}
use Rattle.host_core.specs.Session.{Session, model_in}
use Rattle.host_core.specs.declared.question.Answer.{Answer as ApplicationAnswer}
use Rattle.world3270.specs.statement.Asked.{AreFilledIn, IsAskedAbout, IsFieldShown, panel_with_keys}
use Rattle.world3270.specs.statement.ShownSince.{IsAnswered}

-- ---- required fields

-- Holds if the field has nulls and blanks alone on the screen.
pub record IsLeftBlank (field : PanelField) (screen : Screen) : Type 0 where
  pub text : List ℕ
  pub shown : IsFieldShown field text screen
  pub blank : is_blank text ≡ true

-- Holds if the first required field of the panel that isn't filled in has this number.
pub record IsFirstLeftBlank (panel : List PanelField) (number : ℕ) (screen : Screen) : Type 0 where
  pub index : ℕ
  pub field : PanelField
  pub listed : slice_get panel index ≡ Some field
  pub number_is : field.number ≡ number
  pub required : field.required ≡ true
  pub blank : IsLeftBlank field screen
  pub earlier : AreFilledIn (take index panel) screen

-- ---- the cases

-- Holds if the key whose AID the screen has leads from the panel `from` to this panel and this message, for a terminal
-- of this model. With `keep` the fields keep what the operator left in them, if the host may keep fields. (`app.next` is
-- where the `keys` of a panel lead: `next_of` of panels.)
--
-- target: the key has a target, and after Enter no required field is left blank. The target is shown fresh.
-- required: after Enter a required field is left blank, and the key has a target or asks the application.
-- not_active: the panel's keys don't have the key.
-- same_fresh: there is no key, at connect, or Clear was pressed, and the panel's keys don't have it.
pub data IsLedTo (app : Application) (model : Model) (from : ℕ) (screen : Screen) (panel : ℕ) (message : Message)
    (keep : Bool) : Type 0 where
  target : (to : ℕ) → app.next from screen.aid ≡ Go to
      → (screen.aid ≡ Enter → AreFilledIn (app.fields from) screen)
      → panel ≡ app.shown model to → message ≡ Fresh → keep ≡ false → IsLedTo app model from screen panel message keep
  required : (number : ℕ) → screen.aid ≡ Enter → app.next from screen.aid ≢ Again
      → IsFirstLeftBlank (app.fields from) number screen
      → panel ≡ from → message ≡ Required number → keep ≡ true → IsLedTo app model from screen panel message keep
  not_active : app.next from screen.aid ≡ Again → is_screen_empty screen.aid ≡ false
      → panel ≡ from → message ≡ KeyNotActive → keep ≡ true → IsLedTo app model from screen panel message keep
  same_fresh : app.next from screen.aid ≡ Again → is_screen_empty screen.aid ≡ true
      → panel ≡ from → message ≡ Fresh → keep ≡ false → IsLedTo app model from screen panel message keep

-- Holds if the session `conn` decided on the screen `screen` what `host` shows: by itself, where the key leads; or by
-- this answer of the application, if it is asked about the key.
abbrev pub IsWhereItLeads : Application → (conn : Session) → Screen → (host : Session) → (keep : Bool)
    → Option ApplicationAnswer → Type 0
IsWhereItLeads app conn screen host keep None =
    IsLedTo app (model_in conn) (panel_with_keys app conn screen.aid) screen host.panel host.message keep
IsWhereItLeads app conn screen host keep (Some said) =
    IsAskedAbout app (panel_with_keys app conn screen.aid) screen × IsAnswered app conn said host

-- ---- a law

-- A key leads to one panel, with one message, and either fresh or again. So a host that shows the first panel after each
-- key doesn't show where the key leads, if the key's target is another.
abbrev pub KeysLeadToOne : Type 0
KeysLeadToOne = (app : Application) (model : Model) (from : ℕ) (screen : Screen) (one other : ℕ) (first second : Message)
    (keeps keep : Bool)
    → IsLedTo app model from screen one first keeps → IsLedTo app model from screen other second keep
    → (one ≡ other) × (first ≡ second) × (keeps ≡ keep)

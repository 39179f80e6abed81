-- What holds of a host's acts (our profile).
use Rattle.std.specs.Prelude.{◌≡◌, ⊤, ℕ, Bool, true}
use Rattle.codes3270.specs.Size.{ScreenSize}
use Rattle.datastream.specs.KeptByKeys.{KeptByKeys}
use Rattle.datastream.specs.Screen.{Screen}
use Rattle.datastream.specs.Wanted.{WantedScreen}
use Rattle.shadow.specs.Belief.{Shadow}
use Rattle.shadow.specs.Fits.{is_paintable}
use Rattle.shadow.specs.Meets.{Meets}
use Rattle.shadow.specs.Settled.{WantsInputReturned}
use Rattle.panels.specs.Panel.{PanelParts, Panels, AreLaidOut, AreApart, AreOfCharacters, HaveOtherwise}
use Rattle.panels.specs.declared.message.Message.{Message}
use Rattle.panels.specs.Screen.{Values, IsWantedOf, screen_of}
use Rattle.host_core.specs.Application.{Application, application_of, WantsProperScreens, IsApplication, IsShowable, IsSizeOf}
use Rattle.host_core.specs.Messages.{ToTerminal}
use Rattle.host_core.specs.Session.{Session, model_in, unheard_of}
use Rattle.host_core.specs.State.{served_by}
use Rattle.host_core.specs.Takes.{may_have_changed}
use Rattle.host_core.specs.declared.terminals.Terminals.{Terminals}
use Rattle.host_core.specs.Acts.{Act, done, when_shown}
use Rattle.host_core.specs.declared.unheard.Unheard.{Unheard}
use Rattle.host_core.specs.declared.unheard.Unheard.TheVariants as unheards

-- holds if the wanted screen fits the belief or keeps nothing, and is a screen of this size
pub record IsPaintable (size : ScreenSize) (shadow : Shadow) (wanted : WantedScreen) : Type 0 where
  pub fits : is_paintable shadow wanted ≡ true
  pub showable : IsShowable size wanted

-- holds for a Read Buffer, and for a paint over this belief that is paintable
abbrev pub PaintsWhatFits : ScreenSize → Shadow → ToTerminal → Type 0
PaintsWhatFits size shadow (ToTerminal.Paint number wanted over) = IsPaintable size shadow wanted × (over ≡ shadow)
PaintsWhatFits size shadow (ToTerminal.ReadBuffer number) = Unit {0}
PaintsWhatFits size shadow (ToTerminal.TalksDown saying) = ⊥
PaintsWhatFits size shadow (ToTerminal.Note number command) = ⊥

-- Holds if each act paints what fits the belief of then, or what keeps nothing, in the connection's size from then on.
abbrev pub ActsFit : Type 0
ActsFit = (app : Application) (conn : Session) (act : Act) → IsApplication app → let sent = done app conn act in
    PaintsWhatFits sent.conn.size sent.conn.shadow sent.message

-- Holds if the size after an act is one that the terminal may have, provided that the size before was one.
abbrev pub SizesAreTheModels : Type 0
SizesAreTheModels = (app : Application) (conn : Session) (act : Act) → IsApplication app
    → IsSizeOf app (model_in conn) conn.size
    → IsSizeOf app (model_in conn) (done app conn act).conn.size

-- ---- what may have happened unheard

-- holds for the screens that there may be now, if the host last heard of `told`
abbrev pub MayBeNow : Unheard → Screen → Screen → Type 0
MayBeNow unheards.Nothing told now = now ≡ told
MayBeNow unheards.Input told now = (erased : Bool) × KeptByKeys erased told.cells now.cells
MayBeNow unheards.Clear told now = ⊤

-- Holds if the belief over which a panel is shown allows each screen that there may be now.
abbrev pub UnheardIsAllowed : Type 0
UnheardIsAllowed = (conn : Session) (told now : Screen) → Meets conn.shadow told → MayBeNow conn.unheard told now
    → Meets (when_shown conn).shadow now

-- ---- panels

-- Holds if each input field is written with MDT on, so that each Enter or PF key returns it.
abbrev pub MarksInput : Application → Type 0
MarksInput app = (panel : ℕ) (values : Values) (message : Message) (keep : Bool)
    → WantsInputReturned (app.screen panel values message keep)

-- Holds if the panels of a host that doesn't rely on the wait are such an application.
abbrev pub ServedIsMarked : Type 0
ServedIsMarked = (terminals : Terminals) (set : Panels) → may_have_changed (unheard_of terminals) ≡ true
    → served_by terminals set ≡ set
    → MarksInput (application_of set)

-- Holds if panels are an application that are laid out on the screens of their models, no two items of a panel share
-- a cell, and each panel of another model has one of model 2 in its place.
abbrev pub PanelsAreShown : Type 0
PanelsAreShown = (set : Panels) → HaveOtherwise set → AreLaidOut set → AreApart set → IsApplication (application_of set)

-- Holds if panels of characters ask for screens of our profile, as long as the values are characters too.
abbrev pub PanelsAskForScreens : Type 0
PanelsAskForScreens = (set : Panels) → AreLaidOut set → AreOfCharacters set → WantsProperScreens (application_of set)

-- Holds if each screen of a panel is the one that the panel asks for, cell by cell.
abbrev pub ScreensAreWanted : Type 0
ScreensAreWanted = (panel : PanelParts) (values : Values) (message : Message) (keep : Bool)
    → IsWantedOf panel values message keep (screen_of panel values message keep)

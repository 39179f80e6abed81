-- The host acts on the key that was pressed last (our profile).
use Rattle.std.specs.Prelude.{◌≡◌, ⊤, ℕ, Bool, true, false, List, [], ◌∷◌, replicate, All, Some}
use Rattle.codes3270.specs.Aid.{is_short_aid}
use Rattle.codes3270.specs.Size.{ScreenSize, cells_in}
use Rattle.codes3270.specs.declared.attention.Aid.{Aid}
use Rattle.codes3270.specs.declared.attention.Aid.TheVariants.{NoAid, Enter, Clear, Pf, Pa}
use Rattle.datastream.specs.Grammar.{CommandParts}
use Rattle.shadow.specs.Belief.{Shadow}
use Rattle.shadow.specs.TextUnknown.{NothingIsOpen}
use Rattle.shadow.specs.Taken.{taken}
use Rattle.host_core.specs.NoteLaws.{IsNoteOf}
use Rattle.host_core.specs.declared.turn_reason.TurnReason.{TurnReason}
use Rattle.host_core.specs.declared.turn_reason.TurnReason.TheVariants as turn_reasons
use Rattle.host_core.specs.declared.unheard.Unheard.TheVariants as unheards
use Rattle.world3270.specs.statement.Headline.{IsHostsTurn, SentFields}
use Rattle.world3270.specs.statement.Observation.{seen_link}
use Rattle.world3270.specs.model.World.{World}

-- Holds if the reason of the turn fits the screen's AID: no key was pressed since both ends agreed, or it is the key
-- with this AID. No refusal is ever the reason, nor data that couldn't be believed: no screen is restored.
abbrev pub IsOccasion : TurnReason → Aid → Type 0
IsOccasion turn_reasons.Agreement aid = aid ≡ NoAid
IsOccasion (turn_reasons.Key pressed buffered) aid = (pressed ≡ aid) × (aid ≡ NoAid → ⊥)
IsOccasion turn_reasons.Refusal aid = ⊥
IsOccasion turn_reasons.Restoration aid = ⊥

-- When the host decides, it does so for the key whose AID the screen has.
abbrev pub ActsOnTheKey : World → Type 0
ActsOnTheKey world = (number : ℕ) → let link = world.link number in
    IsHostsTurn (seen_link link) → IsOccasion link.host.turn_reason link.term.display.screen.aid

-- Holds if no field is open, or the AID is a PA key's and the screen wasn't read since. (An unprotected field is open
-- if the host knows neither its text nor that it is either some text or all nulls.)
abbrev pub IsOpenBy : Aid → (buffered : Bool) → Shadow → Type 0
IsOpenBy (Pa key) false shadow = ⊤
IsOpenBy (Pa key) true shadow = NothingIsOpen shadow
IsOpenBy NoAid buffered shadow = NothingIsOpen shadow
IsOpenBy Enter buffered shadow = NothingIsOpen shadow
IsOpenBy Clear buffered shadow = NothingIsOpen shadow
IsOpenBy (Pf key) buffered shadow = NothingIsOpen shadow

abbrev pub IsOpenFor : TurnReason → Shadow → Type 0
IsOpenFor turn_reasons.Agreement shadow = NothingIsOpen shadow
IsOpenFor (turn_reasons.Key aid buffered) shadow = IsOpenBy aid buffered shadow
IsOpenFor turn_reasons.Refusal shadow = ⊥
IsOpenFor turn_reasons.Restoration shadow = ⊥

-- Holds if the cursor is at 0 after Clear.
abbrev pub IsHome : Aid → (place : ℕ) → Type 0
IsHome aid place = aid ≡ Clear → place ≡ 0

-- Holds if the host knows the cursor address, unless the key was sent short, as PA and Clear are, and the screen wasn't
-- read since. The cursor is at 0 before a first panel is shown, and after Clear.
abbrev pub IsCursorFor : TurnReason → (known place : ℕ) → Type 0
IsCursorFor turn_reasons.Agreement known place = place ≡ 0
IsCursorFor (turn_reasons.Key aid true) known place = (known ≡ place) × IsHome aid place
IsCursorFor (turn_reasons.Key aid false) known place = (is_short_aid aid ≡ false → known ≡ place) × IsHome aid place
IsCursorFor turn_reasons.Refusal known place = ⊤
IsCursorFor turn_reasons.Restoration known place = ⊤

-- After Enter or a PF key a host that relies on the terminal's wait knows each unprotected field's text, or knows that
-- it is either that text or all nulls. (A host that doesn't may have fields in doubt; then it reads the screen.)
abbrev pub LeavesNothingOpen : World → Type 0
LeavesNothingOpen world = (number : ℕ) → let link = world.link number in
    IsHostsTurn (seen_link link) → link.host.unheard ≡ unheards.Nothing → SentFields link.term.display.screen.aid
    → NothingIsOpen link.host.shadow

-- the belief after these notes are written; the last note is first in the list
abbrev pub after_notes : ScreenSize → List CommandParts → Shadow → Shadow
after_notes size [] shadow = shadow
after_notes size (note ∷ notes) shadow = taken (cells_in size) note (after_notes size notes shadow)

-- Holds if the belief is an unformatted screen of nulls, with some notes written over it.
pub record IsCleared (size : ScreenSize) (shadow : Shadow) : Type 0 where
  pub notes : List CommandParts
  pub are_notes : All (IsNoteOf size) notes
  pub is : shadow ≡ after_notes size notes (Shadow.Unformatted (replicate (cells_in size) (Some 0)))

-- After Clear the host believes that the screen is unformatted and all nulls, but for notes.
abbrev pub KnowsTheCleared : World → Type 0
KnowsTheCleared world = (number : ℕ) → let link = world.link number in
    IsHostsTurn (seen_link link) → link.term.display.screen.aid ≡ Clear → IsCleared link.host.size link.host.shadow

-- Input in doubt (our profile): what a host believes if the operator may have changed input since the last inbound
-- data. A 3278 locks its keyboard after a key that sends; on some terminals Reset unlocks it.
use Rattle.std.specs.Prelude.{◌≡◌, ℕ, Bool}
use Rattle.datastream.specs.KeptByKeys.{KeptByKeys}
use Rattle.datastream.specs.Screen.{Screen}
use Rattle.shadow.specs.Belief.{Shadow, IsOfSize}
use Rattle.shadow.specs.Exactness.{KnownIsExact, ProtectedIsExact}
use Rattle.shadow.specs.Heard.{heard_attention}
use Rattle.shadow.specs.Meets.{Meets, Knows, ListsFields}
use Rattle.shadow.specs.Storable.{CanBeStored}

-- The belief is the one after a PA key, which sends no fields: each unprotected field may have any characters, and its
-- MDT isn't known; protected characters and attributes stay known. On an unformatted screen each cell takes input, so
-- nothing stays known.
abbrev pub doubted : Shadow → Shadow
doubted shadow = heard_attention shadow

-- ---- which screens it allows

-- A screen that meets a belief meets the doubted belief.
abbrev pub DoubtAllowsTheScreen : Type 0
DoubtAllowsTheScreen = (shadow : Shadow) (screen : Screen) → Meets shadow screen → Meets (doubted shadow) screen

-- So does a screen that differs from such a screen only in what the operator may have changed.
abbrev pub DoubtAllowsInput : Type 0
DoubtAllowsInput = (erased : Bool) (shadow : Shadow) (left now : Screen) → Meets shadow left
    → KeptByKeys erased left.cells now.cells → Meets (doubted shadow) now

-- ---- what it preserves

-- The doubted belief lists the fields of the screen, also if that differs in input since.
abbrev pub DoubtListsFields : Type 0
DoubtListsFields = (erased : Bool) (shadow : Shadow) (left now : Screen) → Knows shadow → Meets shadow left
    → KeptByKeys erased left.cells now.cells → ListsFields (doubted shadow) now

-- Doubt preserves the believed size.
abbrev pub DoubtKeepsTheSize : Type 0
DoubtKeepsTheSize = (size : ℕ) (shadow : Shadow) → IsOfSize size shadow → IsOfSize size (doubted shadow)

-- Doubt preserves that fields whose characters are all known have exact facts.
abbrev pub DoubtStaysExact : Type 0
DoubtStaysExact = (shadow : Shadow) → KnownIsExact shadow → KnownIsExact (doubted shadow)

-- Doubt preserves that protected fields have exact facts.
abbrev pub DoubtStaysProtected : Type 0
DoubtStaysProtected = (shadow : Shadow) → ProtectedIsExact shadow → ProtectedIsExact (doubted shadow)

-- Doubt preserves that each known character can be stored.
abbrev pub DoubtCanBeStored : Type 0
DoubtCanBeStored = (shadow : Shadow) → CanBeStored shadow → CanBeStored (doubted shadow)

-- A second doubt changes nothing.
abbrev pub DoubtIsOnce : Type 0
DoubtIsOnce = (shadow : Shadow) → doubted (doubted shadow) ≡ doubted shadow

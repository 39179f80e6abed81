-- The fields of a painted screen (our profile): a written field is the wanted one, a kept one is that which was there.
use Rattle.std.specs.Prelude.{◌≡◌, ◌+◌, ◌<◌, ℕ, true, false, length, Some, slice_get, slice_index_or}
use Rattle.std.specs.List.{Contains, list_any}
use Rattle.codes3270.specs.Size.{cells_in}
use Rattle.codes3270.specs.declared.attribute.Attr.{Attr as Attribute}
use Rattle.datastream.specs.Fields.{Field, fields}
use Rattle.datastream.specs.KeptByKeys.{without_mdt}
use Rattle.datastream.specs.Screen.{Screen}
use Rattle.datastream.specs.Wanted.{WantedScreen}
use Rattle.datastream.specs.declared.wanted.Want.TheVariants.{Char as WantChar, Attr as WantAttr, Keep}
use Rattle.shadow.specs.Belief.{Shadow}
use Rattle.shadow.specs.Fits.{is_keep, is_paintable}
use Rattle.shadow.specs.Meets.{Meets}
use Rattle.shadow.specs.Painted.{plainly_painted}

-- holds if the screen has the field
abbrev pub HasField : Screen → Field → Type 0
HasField screen field = Contains (fields screen.cells) field

-- ---- what is wanted

-- holds if the field is wanted without Keep: its attribute, its characters, and an attribute after them
pub record WantsWritten (wanted : WantedScreen) (field : Field) : Type 0 where
  pub attribute : slice_get wanted.cells field.place ≡ Some (WantAttr field.attr)
  pub characters : (index : ℕ) → index < length field.text
      → slice_get wanted.cells (field.place + 1 + index) ≡ Some (WantChar (slice_index_or field.text index 0))
  pub ends : (behind : Attribute)
      × (slice_get wanted.cells (field.place + 1 + length field.text) ≡ Some (WantAttr behind))

-- holds if a field is wanted with Keep alone: its attribute, one or more Keep, and an attribute after them
pub record WantsKept (wanted : WantedScreen) (place count : ℕ) (attribute : Attribute) : Type 0 where
  pub attribute_is : slice_get wanted.cells place ≡ Some (WantAttr attribute)
  pub some : 0 < count
  pub characters : (index : ℕ) → index < count → slice_get wanted.cells (place + 1 + index) ≡ Some Keep
  pub ends : (behind : Attribute) × (slice_get wanted.cells (place + 1 + count) ≡ Some (WantAttr behind))

-- ---- what is on the painted screen

-- holds if both screens have a field with this address, this length and, but for MDT, this attribute, and its attribute
-- and characters are the same on both
pub record StaysThere (place count : ℕ) (attribute : Attribute) (before now : Screen) : Type 0 where
  pub field : Field
  pub place_is : field.place ≡ place
  pub length_is : length field.text ≡ count
  pub attribute_is : without_mdt field.attr ≡ without_mdt attribute
  pub was : HasField before field
  pub is : HasField now field

-- If there is no Keep, each field that is wanted is on the painted screen.
abbrev pub WrittenIsThere : Type 0
WrittenIsThere =
    (wanted : WantedScreen) (before : Screen) (field : Field) → list_any is_keep wanted.cells ≡ false
    → WantsWritten wanted field
    → HasField (plainly_painted wanted before) field

-- If the wanted screen can be painted and doesn't reset MDT, each field that is kept stays as it was, with its MDT.
abbrev pub KeptStaysThere : Type 0
KeptStaysThere =
    (over : Shadow) (wanted : WantedScreen) (before : Screen) (place count : ℕ) (attribute : Attribute)
    → length wanted.cells ≡ cells_in wanted.size
    → is_paintable over wanted ≡ true → Meets over before → wanted.reset ≡ false
    → WantsKept wanted place count attribute
    → StaysThere place count attribute before (plainly_painted wanted before)

-- How things are put on a wanted screen, one over another (our profile; only for the contracts of private functions).
use Rattle.std.specs.Prelude.{◌≡◌, codes, ℕ, ◌+◌, ◌-◌, ◌<◌, nat_lt, true, List, [], ◌++◌, Option, Some, None, option_and_then, unwrap_or, slice_index_or, if◌then◌else◌}
use Rattle.codes3270.specs.Size.{ScreenSize, cells_in}
use Rattle.codes3270.specs.declared.attribute.Attr.{Attr}
use Rattle.datastream.specs.Wanted.{WantedScreen}
use Rattle.datastream.specs.declared.wanted.Want.{Want}
use Rattle.panels.specs.declared.extent.Extent.{Extent}
use Rattle.panels.specs.declared.message.Message.{Message}
use Rattle.panels.specs.declared.message.Message.TheVariants.{Fresh, Plain, KeyNotActive, Required, Told}
use Rattle.panels.specs.declared.panel.Field.{Field}
use Rattle.panels.specs.Screen.{autoskip_attr, item_cell, kept_cell, coded, field_meant, field_numbered}

-- holds if each of the first `count` cells has what is put there, or else what it had
abbrev pub ArePut : ℕ → (ℕ → Option Want) → List Want → List Want → Type 0
ArePut count put old new = (cell : ℕ) (default : Want) → cell < count
    → slice_index_or new cell default ≡ unwrap_or (put cell) (slice_index_or old cell default)

-- holds if the screen's size is the same, and each cell has what is put there, or else what it had
abbrev pub IsPut : (ℕ → Option Want) → WantedScreen → WantedScreen → Type 0
IsPut put old new = (new.size ≡ old.size) × ArePut (cells_in old.size) put old.cells new.cells

-- holds if an item and the cell after it are on a screen
abbrev pub FitsOn : ScreenSize → Extent → Type 0
FitsOn size extent = extent.first + extent.length < cells_in size

-- the cell of an item with this content, or of a kept field, at a distance from the attribute
abbrev pub cell_with : Attr → Option (List ℕ) → ℕ → Want
cell_with attr (Some content) distance = item_cell attr content distance
cell_with attr None distance = kept_cell attr distance

-- the field that a message names, or puts the cursor in
abbrev pub field_spoken : List Field → Message → Option Field
field_spoken fields message = option_and_then (λ number. field_numbered number fields) (field_meant message)

-- the cell of the message row, which starts at an address and has a text
abbrev pub row_cell : ℕ → List ℕ → ℕ → Option Want
row_cell start text cell = if nat_lt cell start then None else Some (item_cell (autoskip_attr true) text (cell - start))

-- the text of a message that names a field with this title, in the host's code
abbrev pub text_with : List ℕ → Message → List ℕ
text_with title Fresh = []
text_with title Plain = []
text_with title KeyNotActive = coded (codes "KEY NOT ACTIVE")
text_with title (Required number) = coded (codes "REQUIRED: ") ++ title
text_with title (Told text cursor) = coded text.characters

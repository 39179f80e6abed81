-- A wanted screen, cell by cell (our profile).
use Rattle.std.specs.Prelude.{◌≡◌, ◌<◌, ◌≤◌, ℕ, Bool, true, false, IsTrue, List, All, length, map}
use Rattle.codes3270.specs.Attribute.{attr_of, attr_byte}
use Rattle.codes3270.specs.Size.{ScreenSize, cells_in, most_cells}
use Rattle.codes3270.specs.Storable.{is_storable}
use Rattle.datastream.specs.CellBits.{has_bit, kept, Marks}
use Rattle.datastream.specs.declared.wanted.Want.{Want}
use Rattle.datastream.specs.declared.wanted.Want.TheVariants.{Char, Attr, Keep}

-- whether a cell can have what is wanted: a wanted character must be storable
abbrev pub is_proper : Want → Bool
is_proper (Char byte) = is_storable byte
is_proper (Attr attr) = true
is_proper Keep = true

-- holds if a cell can have what is wanted
abbrev pub IsProper : Want → Type 0
IsProper want = IsTrue (is_proper want)

-- a wanted screen: its size, its cells, its cursor's address, and whether MDT of all fields is reset first
pub record WantedScreen : Type 0 where
  pub size : ScreenSize
  pub cells : List Want
  pub cursor : ℕ
  pub reset : Bool

-- holds if a wanted screen has a proper want for each of its cells, and its cursor is on it
pub record IsScreen (screen : WantedScreen) : Type 0 where
  pub size : length screen.cells ≡ cells_in screen.size
  pub few : cells_in screen.size ≤ most_cells
  pub proper : All IsProper screen.cells
  pub cursor_in_range : screen.cursor < cells_in screen.size

-- ---- how the cells are kept, for proofs alone

-- whether an attribute is wanted
abbrev pub is_attribute : Want → Bool
is_attribute (Char byte) = false
is_attribute (Attr attr) = true
is_attribute Keep = false

-- whether a character is wanted
abbrev pub is_character : Want → Bool
is_character (Char byte) = true
is_character (Attr attr) = false
is_character Keep = false

-- the byte that is stored for a want: a character, or an attribute's code
abbrev pub byte_of : Want → ℕ
byte_of (Char byte) = byte
byte_of (Attr attr) = attr_byte attr
byte_of Keep = 0

-- the want that is stored as an attribute's bit, a character's bit, and a byte
abbrev pub want_kept : Bool → Bool → ℕ → Want
want_kept true character byte = Attr (attr_of byte)
want_kept false true byte = Char byte
want_kept false false byte = Keep

-- the want of the cell at an address, by the stored bits and its byte
abbrev pub want_by : List ℕ → List ℕ → ℕ → ℕ → Want
want_by attributes characters at byte = want_kept (has_bit attributes at) (has_bit characters at) byte

-- holds if the stored bytes are those of the wants, and each bit is set exactly if the want is of its kind
pub record AreKept (attributes characters bytes : List ℕ) : Type 0 where
  pub bytes_are : bytes ≡ map byte_of (kept (want_by attributes characters) 0 bytes)
  pub attributes_are : Marks is_attribute attributes (kept (want_by attributes characters) 0 bytes)
  pub characters_are : Marks is_character characters (kept (want_by attributes characters) 0 bytes)

-- The characters that a screen displays (our profile; code page 037).
use Rattle.std.specs.Prelude.{ℕ, ◌==◌, Bool, true, false, List, [], ◌∷◌, length, map, Option, Some, None, if◌then◌else◌, slice_index_or, unwrap_or}
use Rattle.std.specs.List.{range_with_len}
use Rattle.codes3270.specs.CodePage.{character_of}
use Rattle.codes3270.specs.declared.attribute.Cell.{Cell}
use Rattle.codes3270.specs.declared.attribute.Cell.TheVariants.{Char, Attr}
use Rattle.codes3270.specs.declared.attribute.Attr.{Attr as Attribute}
use Rattle.codes3270.specs.declared.attribute.Display.{Display}
use Rattle.codes3270.specs.declared.attribute.Display.TheVariants.{Normal, Detectable, Bright, Hidden}
use Rattle.datastream.specs.Screen.{attribute_over}

abbrev pub blank : ℕ
blank = 0x20

-- the displayed character of a code: the control codes DUP and FM are `*` and `;`, all others a blank
abbrev pub glyph_of_code : ℕ → ℕ
glyph_of_code code = if code == 0x1C then 0x2A else if code == 0x1E then 0x3B else unwrap_or (character_of code) blank

abbrev pub glyph_of : Cell → ℕ
glyph_of (Char code) = glyph_of_code code
glyph_of (Attr attribute) = blank

abbrev pub is_hidden_display : Display → Bool
is_hidden_display Normal = false
is_hidden_display Detectable = false
is_hidden_display Bright = false
is_hidden_display Hidden = true

abbrev pub is_hidden : Option Attribute → Bool
is_hidden None = false
is_hidden (Some attribute) = is_hidden_display attribute.display

-- the displayed character of the cell at an address: a blank in a hidden field
abbrev pub glyph_at : List Cell → ℕ → ℕ
glyph_at cells at = if is_hidden (attribute_over cells at) then blank else glyph_of (slice_index_or cells at (Char 0))

-- the displayed characters of all cells, by address
abbrev pub all_glyphs : List Cell → List ℕ
all_glyphs cells = map (glyph_at cells) (range_with_len 0 (length cells))

-- ---- the list as a walk over the cells finds it

-- whether cells are hidden from a cell on; `before`: whether the one before it is
abbrev pub hidden_from : Bool → Cell → Bool
hidden_from before (Char code) = before
hidden_from before (Attr attribute) = is_hidden_display attribute.display

abbrev pub shown : Bool → ℕ → ℕ
shown hidden glyph = if hidden then blank else glyph

-- the displayed characters of these cells; `before`: whether the cell before them is hidden
abbrev pub glyphs_from : Bool → List Cell → List ℕ
glyphs_from before [] = []
glyphs_from before (cell ∷ cells) = shown (hidden_from before cell) (glyph_of cell)
    ∷ glyphs_from (hidden_from before cell) cells

-- A picture says nothing of hidden fields.
use Rattle.std.proofs.Common.{◌≡◌, ℕ, ◌+◌, Bool, true, false, List, [], ◌∷◌, ◌++◌, length, drop, take, get_or, map, Option, None, Some, suc, zero, refl, sym, ◌∙◌, ap, if◌then◌else◌}
use Rattle.std.specs.Option.{option_or}
use Rattle.std.specs.List.{range_with_len}
use Rattle.std.proofs.lemmas.List.{map-append, drop-map, take-map, length-map}
use Rattle.codes3270.specs.declared.attribute.Cell.{Cell}
use Rattle.codes3270.specs.declared.attribute.Cell.TheVariants.{Char, Attr}
use Rattle.codes3270.specs.declared.attribute.Attr.{Attr as Attribute}
use Rattle.datastream.specs.Screen.{attribute_in, attribute_over, last_attribute, ring}
use Rattle.presentation.specs.Glyph.{blank, glyph_of, glyph_at, is_hidden}
use Rattle.tty.specs.declared.look.Look.{Look}
use Rattle.tty.specs.declared.picture.PictureCell.{PictureCell}
use Rattle.tty.specs.Looks.{look_of}
use Rattle.tty.specs.Painting.{drawn_as, painted_at}
use Rattle.tty.specs.DrawingLaws.{AreBlank, DifferInHidden, AreUntold}

hidden_glyph : (cells : List Cell) (at : ℕ) → is_hidden (attribute_over cells at) ≡ true → glyph_at cells at ≡ blank
hidden_glyph cells at hidden = ap (λ (hides : Bool). if hides then blank else glyph_of (get_or cells at (Char 0))) hidden

pub hidden_blank : AreBlank
hidden_blank cells at hidden = ap drawn_as (hidden_glyph cells at hidden)

last_of : List (Option Attribute) → Option Attribute
last_of [] = None
last_of (attribute ∷ more) = option_or (last_of more) attribute

last_by : (cells : List Cell) → last_attribute cells ≡ last_of (map attribute_in cells)
unfolding last_of
last_by [] = refl
last_by (cell ∷ cells) = ap (λ (last : Option Attribute). option_or last (attribute_in cell)) (last_by cells)

over_by : (cells : List Cell) (at : ℕ)
    → attribute_over cells at ≡ last_of (drop (at + 1) (map attribute_in cells) ++ take (at + 1) (map attribute_in cells))
over_by cells at =
    last_by (ring (at + 1) cells)
    ∙ ap last_of (map-append attribute_in (drop (at + 1) cells) (take (at + 1) cells)
    ∙ ap (λ (front : List (Option Attribute)). front ++ map attribute_in (take (at + 1) cells)) (sym (drop-map attribute_in (at + 1) cells))
    ∙ ap (λ (back : List (Option Attribute)). drop (at + 1) (map attribute_in cells) ++ back) (sym (take-map attribute_in (at + 1) cells)))

same_over : (one other : List Cell) (at : ℕ) → map attribute_in one ≡ map attribute_in other → attribute_over one at ≡ attribute_over other at
same_over one other at same =
    over_by one at ∙ ap (λ (all : List (Option Attribute)). last_of (drop (at + 1) all ++ take (at + 1) all)) same ∙ sym (over_by other at)

got_mapped : (cells : List Cell) (at : ℕ) → get_or (map attribute_in cells) at None ≡ attribute_in (get_or cells at (Char 0))
got_mapped [] at = refl
got_mapped (cell ∷ cells) zero = refl
got_mapped (cell ∷ cells) (suc at) = got_mapped cells at

is_some : Option Attribute → Bool
is_some None = false
is_some (Some attribute) = true

same_look_of : (one other : Cell) (over : Option Attribute) → attribute_in one ≡ attribute_in other → look_of one over ≡ look_of other over
unfolding is_some
same_look_of (Char code) (Char next) over same = refl
same_look_of (Char code) (Attr next) over same = absurd (let no : false ≡ true = ap is_some same in cc)
same_look_of (Attr attribute) (Char next) over same = absurd (let no : true ≡ false = ap is_some same in cc)
same_look_of (Attr attribute) (Attr next) over same = refl

painted_with : ℕ → Look → PictureCell
painted_with glyph look = record { glyph = glyph; look = look }

same_glyph : (hidden : Bool) (one other : List Cell) (at : ℕ) → is_hidden (attribute_over one at) ≡ hidden → DifferInHidden one other
    → glyph_at one at ≡ glyph_at other at
same_glyph true one other at hides differ =
    hidden_glyph one at hides ∙ sym (hidden_glyph other at (ap is_hidden (sym (same_over one other at differ.attributes)) ∙ hides))
same_glyph false one other at hides differ =
    ap (λ (over : Option Attribute). if is_hidden over then blank else glyph_of (get_or one at (Char 0))) (same_over one other at differ.attributes)
    ∙ ap (λ (cell : Cell). if is_hidden (attribute_over other at) then blank else glyph_of cell) (differ.shown at hides)

same_painted : (one other : List Cell) (at : ℕ) → DifferInHidden one other → painted_at one at ≡ painted_at other at
unfolding painted_with
same_painted one other at differ =
    let over = same_over one other at differ.attributes in
    let inside : attribute_in (get_or one at (Char 0)) ≡ attribute_in (get_or other at (Char 0)) =
    sym (got_mapped one at) ∙ ap (λ (all : List (Option Attribute)). get_or all at None) differ.attributes ∙ got_mapped other at in
    ap (λ (glyph : ℕ). painted_with (drawn_as glyph) (look_of (get_or one at (Char 0)) (attribute_over one at))) (same_glyph (is_hidden (attribute_over one at)) one other at refl differ)
    ∙ ap (λ (above : Option Attribute). painted_with (drawn_as (glyph_at other at)) (look_of (get_or one at (Char 0)) above)) over
    ∙ ap (painted_with (drawn_as (glyph_at other at))) (same_look_of (get_or one at (Char 0)) (get_or other at (Char 0)) (attribute_over other at) inside)

same_mapped : (f g : ℕ → PictureCell) (from count : ℕ) → ((at : ℕ) → f at ≡ g at) → map f (range_with_len from count) ≡ map g (range_with_len from count)
same_mapped f g from zero same = refl
same_mapped f g from (suc count) same =
    ap (λ (first : PictureCell). first ∷ map f (range_with_len (from + 1) count)) (same from)
    ∙ ap (λ (rest : List PictureCell). g from ∷ rest) (same_mapped f g (from + 1) count same)

pub hidden_untold : AreUntold
hidden_untold one other differ =
    let many : length one ≡ length other = sym (length-map one attribute_in) ∙ ap length differ.attributes ∙ length-map other attribute_in in
    ap (λ (count : ℕ). map (painted_at one) (range_with_len 0 count)) many
    ∙ same_mapped (painted_at one) (painted_at other) 0 (length other) (λ at. same_painted one other at differ)

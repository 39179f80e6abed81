-- The fields as a walk over the cells finds them: the text of each from the cells that are left, and then from address 0 on.
-- Inductions over fields use this form.
use Rattle.std.proofs.Common.{◌≡◌, ℕ, ◌+◌, ◌-◌, ◌<◌, List, [], ◌∷◌, ◌++◌, length, get_or, take, drop, arith, sym, ◌∙◌, ap, refl, suc, false, append_assoc, length-drop}
use Rattle.std.specs.List.{list_all}
use Rattle.std.proofs.lemmas.List.{take_more, drop_more, take-append-drop}
use Rattle.codes3270.specs.declared.attribute.Cell.{Cell}
use Rattle.codes3270.specs.declared.attribute.Cell.TheVariants.{Char, Attr}
use Rattle.codes3270.specs.declared.attribute.Attr.{Attr as Attribute}
use Rattle.datastream.specs.Screen.{is_char, text_before_attribute, field_text}
use Rattle.datastream.specs.Fields.{Field, fields, fields_from}

-- the fields whose attributes are in `rest`, the cells of `whole` from an address on
abbrev pub fields_walked : List Cell → ℕ → List Cell → List Field
fields_walked whole at [] = []
fields_walked whole at (Char byte ∷ rest) = fields_walked whole (at + 1) rest
fields_walked whole at (Attr attribute ∷ rest) =
    record { place = at; attr = attribute; text = text_before_attribute (rest ++ whole) } ∷ fields_walked whole (at + 1) rest

-- a text ends at the first attribute, whatever lies behind it
pub text_stops : (front back : List Cell) → list_all is_char front ≡ false → text_before_attribute (front ++ back) ≡ text_before_attribute front
text_stops [] back e = cc
text_stops (Char byte ∷ front) back e = ap (λ (text : List ℕ). byte ∷ text) (text_stops front back e)
text_stops (Attr attribute ∷ front) back e = refl

has_attribute : (front back : List Cell) (attribute : Attribute) → list_all is_char (front ++ Attr attribute ∷ back) ≡ false
has_attribute [] back attribute = refl
has_attribute (Char byte ∷ front) back attribute = has_attribute front back attribute
has_attribute (Attr other ∷ front) back attribute = refl

heads : (x y : Cell) (xs ys : List Cell) → x ∷ xs ≡ y ∷ ys → (x ≡ y) × (xs ≡ ys)
heads x y xs ys e = (cc, cc)

-- the cell at a place, and those behind it
pub at_drop : (whole : List Cell) (at : ℕ) (cell : Cell) (rest : List Cell) → drop at whole ≡ cell ∷ rest → (at < length whole) × (get_or whole at (Char 0) ≡ cell) × (drop (at + 1) whole ≡ rest)
at_drop whole at cell rest e =
    let long : length whole - at ≡ suc (length rest) = sym (length-drop at whole) ∙ ap length e in
    let below : at < length whole = omega arith in
    let both = heads (get_or whole at (Char 0)) cell (drop (at + 1) whole) rest (sym (drop_more whole at (Char 0) below) ∙ e) in
    (below, both.0, both.1)

-- what lies behind an attribute up to the next one, round the end
pub text_is : (whole : List Cell) (at : ℕ) (attribute : Attribute) (rest : List Cell) → drop at whole ≡ Attr attribute ∷ rest → text_before_attribute (rest ++ whole) ≡ field_text whole at
text_is whole at attribute rest e =
    let there = at_drop whole at (Attr attribute) rest e in
    let upto : take (at + 1) whole ≡ take at whole ++ Attr attribute ∷ [] =
    rw there.1 at (take_more whole at (Char 0) there.0) in
    let stops : list_all is_char (rest ++ take (at + 1) whole) ≡ false =
    rw (upto, ← append_assoc rest (take at whole) (Attr attribute ∷ [])) (has_attribute (rest ++ take at whole) [] attribute) in
    ap (λ (all : List Cell). text_before_attribute (rest ++ all)) (sym (take-append-drop (at + 1) whole))
    ∙ ap text_before_attribute (sym (append_assoc rest (take (at + 1) whole) (drop (at + 1) whole)))
    ∙ text_stops (rest ++ take (at + 1) whole) (drop (at + 1) whole) stops
    ∙ ap (λ (behind : List Cell). text_before_attribute (behind ++ take (at + 1) whole)) (sym there.2)

-- a walk that has come to an address finds the fields from there on
pub walk_finds : (whole : List Cell) (at : ℕ) (rest : List Cell) → drop at whole ≡ rest → fields_from whole at rest ≡ fields_walked whole at rest
walk_finds whole at [] e = refl
walk_finds whole at (Char byte ∷ rest) e = walk_finds whole (at + 1) rest (at_drop whole at (Char byte) rest e).2
walk_finds whole at (Attr attribute ∷ rest) e =
    ap (λ (text : List ℕ). record { place = at; attr = attribute; text = text } ∷ fields_from whole (at + 1) rest) (sym (text_is whole at attribute rest e))
    ∙ ap (λ (others : List Field). record { place = at; attr = attribute; text = text_before_attribute (rest ++ whole) } ∷ others) (walk_finds whole (at + 1) rest (at_drop whole at (Attr attribute) rest e).2)

pub fields_are_walked : (cells : List Cell) → fields cells ≡ fields_walked cells 0 cells
fields_are_walked cells = walk_finds cells 0 cells refl

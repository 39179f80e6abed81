-- Which screens take notes: those that are painted, what keys leave of them, and those with attributes in the same places.
use Rattle.std.proofs.Common.{◌≡◌, ◌+◌, ◌==◌, ◌&&◌, ◌||◌, not, ℕ, zero, suc, Bool, true, false, List, [], ◌∷◌, ◌++◌, length, map, drop, refl, ap, sym, subst, ◌∙◌, arith, if◌then◌else◌}
use Rattle.std.specs.List.{list_all, list_any}
use Rattle.std.specs.Prelude.{replicate}
use Rattle.std.proofs.lemmas.Bool.{and_parts, eqb-true}
use Rattle.std.proofs.lemmas.List.{length-replicate}
use Rattle.codes3270.specs.declared.attribute.Attr.{Attr as Attribute}
use Rattle.codes3270.specs.declared.attribute.Cell.{Cell}
use Rattle.codes3270.specs.declared.attribute.Cell.TheVariants.{Char, Attr}
use Rattle.datastream.specs.KeptByKeys.{Hold, hold_of, hold_under}
use Rattle.datastream.specs.HeldLaws.{HeldIsRound}
use Rattle.datastream.specs.HeldRound.{HeldFrom}
use Rattle.datastream.specs.Screen.{attribute_in, is_char, last_attribute}
use Rattle.datastream.specs.declared.wanted.Want.{Want}
use Rattle.datastream.specs.declared.wanted.Want.TheVariants.{Char as WantChar, Attr as WantAttr, Keep}
use Rattle.shadow.specs.Belief.{Belief, fields_of}
use Rattle.shadow.specs.Fits.{is_field, fits_field, fits_from}
use Rattle.shadow.specs.Painted.{keeps_ahead, count_ahead, attr_or_kept, cells_under, painted_from}
use Rattle.host_core.proofs.Fitting.{paintable_fields}
use Rattle.host_core.specs.Application.{is_wanted_char, IsMessageRow, message_place}
use Rattle.host_core.specs.NoteLaws.{IsProtectedRow, PaintsTakeNotes, HeldTakesNotes, SameAttributesTakeNotes}

-- ---- what is painted

chars_painted : (reset : Bool) (whole wants : List Want) (cells : List Cell) → list_all is_wanted_char wants ≡ true → list_all is_char (painted_from reset whole wants cells) ≡ true
chars_painted reset whole [] cells all = refl
chars_painted reset whole (want ∷ wants) [] all = refl
chars_painted reset whole (WantChar byte ∷ wants) (there ∷ cells) all = chars_painted reset whole wants cells all
chars_painted reset whole (WantAttr attribute ∷ wants) (there ∷ cells) all = absurd (cc)
chars_painted reset whole (Keep ∷ wants) (there ∷ cells) all = absurd (cc)

-- a protected field that fits keeps nothing
keeps_none : (keeps protected believed : Bool) → protected ≡ true → (not keeps || (not protected && believed)) ≡ true → keeps ≡ false
keeps_none false protected believed guards fits = refl
keeps_none true true believed guards fits = absurd (cc)
keeps_none true false believed guards fits = absurd (cc)

row_painted : (beliefs : List Belief) (reset : Bool) (whole : List Want) (at row : ℕ) (wants : List Want) (cells : List Cell) → length cells ≡ length wants → fits_from beliefs whole at wants ≡ true
    → IsMessageRow (drop row wants) → IsProtectedRow (drop row (painted_from reset whole wants cells))
row_painted beliefs reset whole at zero [] cells sized fits is = absurd is
row_painted beliefs reset whole at (suc row) [] cells sized fits is = absurd is
row_painted beliefs reset whole at row (want ∷ wants) [] sized fits is = absurd (cc)
row_painted beliefs reset whole at zero (WantChar byte ∷ wants) (there ∷ cells) sized fits is = absurd is
row_painted beliefs reset whole at zero (Keep ∷ wants) (there ∷ cells) sized fits is = absurd is
row_painted beliefs reset whole at zero (WantAttr attribute ∷ wants) (there ∷ cells) sized fits is =
    let parts = and_parts (fits_field beliefs at attribute (wants ++ whole)) (fits_from beliefs whole (at + 1) wants) fits in
    let none : keeps_ahead (wants ++ whole) ≡ false =
    keeps_none (keeps_ahead (wants ++ whole)) attribute.protected (list_any (is_field at attribute (count_ahead (wants ++ whole))) beliefs) is.0 parts.0 in
    subst (λ (keeps : Bool). IsProtectedRow (attr_or_kept keeps reset attribute there ∷ painted_from reset whole wants cells)) (sym none) (is.0, chars_painted reset whole wants cells is.1)
row_painted beliefs reset whole at (suc row) (WantChar byte ∷ wants) (there ∷ cells) sized fits is = row_painted beliefs reset whole (at + 1) row wants cells (omega arith) fits is
row_painted beliefs reset whole at (suc row) (Keep ∷ wants) (there ∷ cells) sized fits is = row_painted beliefs reset whole (at + 1) row wants cells (omega arith) fits is
row_painted beliefs reset whole at (suc row) (WantAttr attribute ∷ wants) (there ∷ cells) sized fits is =
    row_painted beliefs reset whole (at + 1) row wants cells (omega arith) (and_parts (fits_field beliefs at attribute (wants ++ whole)) (fits_from beliefs whole (at + 1) wants) fits).1 is

-- a paint has as many cells under it as are wanted
under_sized : (size : ℕ) (cells : List Cell) → length (cells_under size cells) ≡ size
under_sized size cells = by_size (length cells == size) refl
  where
    by_size : (b : Bool) → (length cells == size) ≡ b → length (if b then cells else replicate size (Char 0)) ≡ size
    by_size true e = eqb-true (length cells) size e
    by_size false e = length-replicate size (Char 0)

pub paints_take_notes : PaintsTakeNotes
paints_take_notes shape shadow wanted screen is =
    row_painted (fields_of shadow) wanted.reset wanted.cells 0 (message_place shape) wanted.cells (cells_under (length wanted.cells) screen.cells)
    (under_sized (length wanted.cells) screen.cells) (paintable_fields shadow wanted is.fits) is.showable.messages

-- ---- what keys leave

chars_held : (erased : Bool) (hold : Hold) (left now : List Cell) → HeldFrom erased hold left now → list_all is_char left ≡ true → list_all is_char now ≡ true
chars_held erased hold [] [] held all = refl
chars_held erased hold [] (cell ∷ now) held all = absurd held
chars_held erased hold (cell ∷ left) [] held all = absurd held
chars_held erased hold (Char byte ∷ left) (Char typed ∷ now) held all = chars_held erased hold left now held.1 all
chars_held erased hold (Char byte ∷ left) (Attr attribute ∷ now) held all = absurd held
chars_held erased hold (Attr attribute ∷ left) now held all = absurd (cc)

row_held : (erased : Bool) (hold : Hold) (row : ℕ) (left now : List Cell) → HeldFrom erased hold left now → IsProtectedRow (drop row left) → IsProtectedRow (drop row now)
row_held erased hold zero [] now held is = absurd is
row_held erased hold (suc row) [] now held is = absurd is
row_held erased hold row (Char byte ∷ left) [] held is = absurd held
row_held erased hold row (Attr attribute ∷ left) [] held is = absurd held
row_held erased hold row (Char byte ∷ left) (Attr attribute ∷ now) held is = absurd held
row_held erased hold row (Attr attribute ∷ left) (Char byte ∷ now) held is = absurd held
row_held erased hold zero (Char byte ∷ left) (Char typed ∷ now) held is = absurd is
row_held erased hold zero (Attr before ∷ left) (Attr attribute ∷ now) held is =
    (ap (λ (a : Attribute). a.protected) held.0.0 ∙ is.0, chars_held erased (hold_of erased attribute) left now held.1 is.1)
row_held erased hold (suc row) (Char byte ∷ left) (Char typed ∷ now) held is = row_held erased hold row left now held.1 is
row_held erased hold (suc row) (Attr before ∷ left) (Attr attribute ∷ now) held is = row_held erased (hold_of erased attribute) row left now held.1 is

pub held_takes_notes : HeldIsRound → HeldTakesNotes
held_takes_notes round shape erased left now held is =
    row_held erased (hold_under erased (last_attribute now)) (message_place shape) left now ((round erased left now).0 held) is

-- ---- attributes in the same places

chars_same : (before after : List Cell) → map attribute_in after ≡ map attribute_in before → list_all is_char before ≡ true → list_all is_char after ≡ true
chars_same [] [] same all = refl
chars_same [] (cell ∷ after) same all = absurd (cc)
chars_same (cell ∷ before) [] same all = refl
chars_same (Char byte ∷ before) (Char other ∷ after) same all = chars_same before after (cc) all
chars_same (Char byte ∷ before) (Attr attribute ∷ after) same all = absurd (cc)
chars_same (Attr attribute ∷ before) (cell ∷ after) same all = absurd (cc)

row_same : (row : ℕ) (before after : List Cell) → map attribute_in after ≡ map attribute_in before → IsProtectedRow (drop row before) → IsProtectedRow (drop row after)
row_same zero [] after same is = absurd is
row_same (suc row) [] after same is = absurd is
row_same row (cell ∷ before) [] same is = absurd (cc)
row_same zero (Char byte ∷ before) (cell ∷ after) same is = absurd is
row_same zero (Attr attribute ∷ before) (Char byte ∷ after) same is = absurd (cc)
row_same zero (Attr attribute ∷ before) (Attr other ∷ after) same is =
    let here : other ≡ attribute = cc in
    (ap (λ (a : Attribute). a.protected) here ∙ is.0, chars_same before after (cc) is.1)
row_same (suc row) (cell ∷ before) (other ∷ after) same is = row_same row before after (cc) is

pub same_attributes_take_notes : SameAttributesTakeNotes
same_attributes_take_notes shape before after same is = row_same (message_place shape) before after same is

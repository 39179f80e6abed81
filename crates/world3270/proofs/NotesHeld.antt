-- A note on two screens of which one is held from the other: so are they afterwards.
use Rattle.std.proofs.Common.{◌≡◌, Bool, true, Option, None, List, [], ◌∷◌, length, map, refl, ap, sym, subst, ◌∙◌}
use Rattle.std.specs.List.{list_all}
use Rattle.std.specs.Option.{option_or}
use Rattle.codes3270.specs.Size.{ScreenSize, cells_in}
use Rattle.codes3270.specs.declared.attribute.Attr.{Attr as Attribute}
use Rattle.codes3270.specs.declared.attribute.Cell.{Cell}
use Rattle.codes3270.specs.declared.attribute.Cell.TheVariants.{Char, Attr}
use Rattle.datastream.specs.Grammar.{CommandParts}
use Rattle.datastream.specs.KeptByKeys.{KeptByKeys, Hold, hold_under}
use Rattle.datastream.specs.HeldLaws.{HeldIsRound}
use Rattle.datastream.specs.HeldRound.{HeldFrom}
use Rattle.datastream.specs.Meaning.{after_command}
use Rattle.datastream.specs.Screen.{Screen, attribute_in, is_char, last_attribute}
use Rattle.host_core.specs.Application.{IsValidSize}
use Rattle.host_core.specs.NoteLaws.{IsNoteOf, TakesNotes}
use Rattle.world3270.specs.refinement.LowerLaws.{LowerLaws}

-- ---- screens without fields

pub no_attributes : (cells others : List Cell) → map attribute_in others ≡ map attribute_in cells → list_all is_char cells ≡ true → list_all is_char others ≡ true
no_attributes [] [] same chars = refl
no_attributes [] (other ∷ others) same chars = absurd (cc)
no_attributes (cell ∷ cells) [] same chars = absurd (cc)
no_attributes (Char one ∷ cells) (Char other ∷ others) same chars = no_attributes cells others (cc) chars
no_attributes (Char one ∷ cells) (Attr attribute ∷ others) same chars = absurd (cc)
no_attributes (Attr attribute ∷ cells) (other ∷ others) same chars = absurd (cc)

none_last : (cells : List Cell) → list_all is_char cells ≡ true → last_attribute cells ≡ None
none_last [] chars = refl
none_last (Char byte ∷ cells) chars = ap (λ (last : Option Attribute). option_or last None) (none_last cells chars)
none_last (Attr attribute ∷ cells) chars = absurd (cc)

chars_stay : (erased : Bool) (hold : Hold) (left now : List Cell) → HeldFrom erased hold left now → list_all is_char left ≡ true → list_all is_char now ≡ true
chars_stay erased hold [] [] held chars = refl
chars_stay erased hold [] (now ∷ nows) held chars = absurd held
chars_stay erased hold (left ∷ lefts) [] held chars = absurd (held_none left held)
  where
    held_none : (left : Cell) → HeldFrom erased hold (left ∷ lefts) [] → ⊥
    held_none (Char byte) held = held
    held_none (Attr attribute) held = held
chars_stay erased hold (Char left ∷ lefts) (Char now ∷ nows) held chars = chars_stay erased hold lefts nows held.1 chars
chars_stay erased hold (Char left ∷ lefts) (Attr now ∷ nows) held chars = absurd held
chars_stay erased hold (Attr left ∷ lefts) (now ∷ nows) held chars = absurd (cc)

chars_held : (erased : Bool) (left now : List Cell) → list_all is_char left ≡ true → list_all is_char now ≡ true → length now ≡ length left → HeldFrom erased Hold.Free left now
chars_held erased [] [] left_chars now_chars same = tt
chars_held erased [] (now ∷ nows) left_chars now_chars same = absurd (cc)
chars_held erased (left ∷ lefts) [] left_chars now_chars same = absurd (cc)
chars_held erased (Char left ∷ lefts) (Char now ∷ nows) left_chars now_chars same = (tt, chars_held erased lefts nows left_chars now_chars (cc))
chars_held erased (Char left ∷ lefts) (Attr now ∷ nows) left_chars now_chars same = absurd (cc)
chars_held erased (Attr left ∷ lefts) (now ∷ nows) left_chars now_chars same = absurd (cc)

-- screens of one size without fields differ in input alone
pub bare_held : HeldIsRound → (erased : Bool) (left now : List Cell) → list_all is_char left ≡ true → list_all is_char now ≡ true → length now ≡ length left → KeptByKeys erased left now
bare_held round erased left now left_chars now_chars same =
    (round erased left now).1
    (subst (λ (last : Option Attribute). HeldFrom erased (hold_under erased last) left now) (sym (none_last now now_chars)) (chars_held erased left now left_chars now_chars same))

-- ---- any screen that takes notes

pub note_held : LowerLaws → HeldIsRound → (shape : ScreenSize) (command : CommandParts) (erased : Bool) (left now : Screen) → IsValidSize shape → IsNoteOf shape command → length left.cells ≡ cells_in shape → TakesNotes shape left.cells
    → KeptByKeys erased left.cells now.cells → KeptByKeys erased (after_command command left).cells (after_command command now).cells
note_held given round shape command erased left now is note whole takes held = by_form takes
  where
    now_whole : length now.cells ≡ cells_in shape
    now_whole = held.same_length ∙ whole

    size : (screen : Screen) → length (after_command command screen).cells ≡ length screen.cells
    size screen = (given.notes.bounds command screen (given.notes.are_notes shape command is note).note).size

    still_chars : (screen : Screen) → length screen.cells ≡ cells_in shape → list_all is_char screen.cells ≡ true → list_all is_char (after_command command screen).cells ≡ true
    still_chars screen whole chars =
        no_attributes screen.cells (after_command command screen).cells (given.notes.form command screen (given.notes.over_characters shape command screen.cells is note whole (TakesNotes.unformatted chars))).attributes chars

    by_form : TakesNotes shape left.cells → KeptByKeys erased (after_command command left).cells (after_command command now).cells
    by_form (TakesNotes.formatted row) = given.notes.held erased command left now (given.notes.writes_protected shape command left.cells is note whole row) held
    by_form (TakesNotes.unformatted chars) =
        let now_chars : list_all is_char now.cells ≡ true = chars_stay erased (hold_under erased (last_attribute now.cells)) left.cells now.cells ((round erased left.cells now.cells).0 held) chars in
        let after_now : list_all is_char (after_command command now).cells ≡ true = still_chars now now_whole now_chars in
        (round erased (after_command command left).cells (after_command command now).cells).1
        (subst (λ (last : Option Attribute). HeldFrom erased (hold_under erased last) (after_command command left).cells (after_command command now).cells) (sym (none_last (after_command command now).cells after_now))
        (chars_held erased (after_command command left).cells (after_command command now).cells (still_chars left whole chars) after_now (size now ∙ held.same_length ∙ sym (size left))))

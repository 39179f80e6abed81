-- What a note makes of the cells, and what it keeps of them.
use Rattle.std.proofs.Common.{◌≡◌, ℕ, ◌+◌, ◌%◌, ◌<◌, ◌≤◌, not, Bool, true, false, List, [], ◌∷◌, ◌++◌, length, map, get_or, set, take, drop, Option, Some, None, sym, ◌∙◌, ap, refl, inl, inr, suc, zero, subst}
use Rattle.std.specs.Prelude.{All}
use Rattle.std.specs.List.{Contains}
use Rattle.std.specs.Option.{option_or}
use Rattle.std.proofs.lemmas.List.{length-map, length-set, get_or-set_same, get_or-set_other, map-append, drop-map, take-map}
use Rattle.std.proofs.lemmas.List.Elements.{All-head, All-tail, All-weaker, All-set, All-contains, All-contains_itself}
use Rattle.std.proofs.lemmas.Bool.{cases_eq}
use Rattle.codes3270.specs.Size.{cells_in, most_cells}
use Rattle.codes3270.specs.declared.attention.Aid.{Aid}
use Rattle.codes3270.specs.declared.attribute.Cell.{Cell}
use Rattle.codes3270.specs.declared.attribute.Cell.TheVariants.{Char, Attr}
use Rattle.codes3270.specs.declared.attribute.Attr.{Attr as Attribute}
use Rattle.datastream.specs.declared.command_code.CommandCode.TheVariants.{Write}
use Rattle.datastream.specs.declared.order.Order.{Order}
use Rattle.datastream.specs.declared.order.Order.TheVariants.{Sf, Sba, Ic, Pt, Ra, Eua, Char as CharData}
use Rattle.datastream.specs.Grammar.{CommandParts, IsProper}
use Rattle.datastream.specs.Screen.{Screen, attribute_in, last_attribute, attribute_over, ring, protects, is_protected, is_char, is_char_at, places_from}
use Rattle.datastream.specs.Meaning.{all_executed, restored, after_code, after_command}
use Rattle.datastream.specs.KeptByKeys.{Hold, hold_under, CharHeld, KeptByKeys}
use Rattle.datastream.specs.HeldRound.{HeldFrom}
use Rattle.datastream.specs.InboundFields.{IsStorableCell, IsSendable}
use Rattle.datastream.specs.Note.{quiet, IsNoteOrder, IsNote, places_from_on, places_noted, OverCharacters, IsProtectedChar, WritesProtected}
use Rattle.datastream.specs.NoteLaws.{NoteKeepsBounds, NoteKeepsForm, NoteKeepsSendable, NoteLeavesUnprotected, NoteKeepsHeld, HeldStaysProtected, ProtectedAreCharacters, NotesCompose}
use Rattle.datastream.proofs.Texts.{last_attribute-same}
use Rattle.datastream.proofs.HeldRounds.{held_round}

-- ---- the cells after a note

-- what orders of a note make of cells, from an address on
abbrev noted : ℕ → List Order → List Cell → List Cell
noted at [] cells = cells
noted at (CharData byte ∷ orders) cells = noted ((at + 1) % length cells) orders (set cells at (Char byte))
noted at (Sba address ∷ orders) cells = noted address orders cells
noted at (Sf attribute ∷ orders) cells = noted at orders cells
noted at (Ic ∷ orders) cells = noted at orders cells
noted at (Pt ∷ orders) cells = noted at orders cells
noted at (Ra stop byte ∷ orders) cells = noted at orders cells
noted at (Eua stop ∷ orders) cells = noted at orders cells

abbrev screen_of : List Cell → ℕ → Aid → Screen
screen_of cells cursor aid = record { cells = cells; cursor = cursor; aid = aid }

executed_note : (orders : List Order) (after_data : Bool) (cells : List Cell) (cursor : ℕ) (aid : Aid) (at : ℕ) → All IsNoteOrder orders → (all_executed orders (record { screen = screen_of cells cursor aid; address = at; after_data = after_data })).screen ≡ screen_of (noted at orders cells) cursor aid
executed_note [] after_data cells cursor aid at each = refl
executed_note (CharData byte ∷ orders) after_data cells cursor aid at each =
    executed_note orders true (set cells at (Char byte)) cursor aid ((at + 1) % length cells) (All-tail IsNoteOrder (CharData byte) orders each)
executed_note (Sba address ∷ orders) after_data cells cursor aid at each =
    executed_note orders false cells cursor aid address (All-tail IsNoteOrder (Sba address) orders each)
executed_note (Sf attribute ∷ orders) after_data cells cursor aid at each = absurd (All-head IsNoteOrder (Sf attribute) orders each)
executed_note (Ic ∷ orders) after_data cells cursor aid at each = absurd (All-head IsNoteOrder Ic orders each)
executed_note (Pt ∷ orders) after_data cells cursor aid at each = absurd (All-head IsNoteOrder Pt orders each)
executed_note (Ra stop byte ∷ orders) after_data cells cursor aid at each = absurd (All-head IsNoteOrder (Ra stop byte) orders each)
executed_note (Eua stop ∷ orders) after_data cells cursor aid at each = absurd (All-head IsNoteOrder (Eua stop) orders each)

after_note : (command : CommandParts) (screen : Screen) (note : IsNote command) → after_command command screen ≡ screen_of (noted note.first note.others screen.cells) screen.cursor screen.aid
after_note command screen note =
    ap (λ code. after_code code (cells_in command.size) command.wcc command.orders screen) note.code
    ∙ ap (λ wcc. after_code Write (cells_in command.size) wcc command.orders screen) note.wcc
    ∙ ap (λ orders. after_code Write (cells_in command.size) (Some quiet) orders screen) note.orders
    ∙ ap (restored quiet) (executed_note note.others false screen.cells screen.cursor screen.aid note.first note.each)

cells_after : (command : CommandParts) (screen : Screen) (note : IsNote command) → (after_command command screen).cells ≡ noted note.first note.others screen.cells
cells_after command screen note = ap (λ (s : Screen). s.cells) (after_note command screen note)

places_are : (size : ℕ) (command : CommandParts) (note : IsNote command) → places_noted size command ≡ places_from_on size note.first note.others
places_are size command note = ap (places_from_on size 0) note.orders

length-noted : (at : ℕ) (orders : List Order) (cells : List Cell) → length (noted at orders cells) ≡ length cells
length-noted at [] cells = refl
length-noted at (CharData byte ∷ orders) cells = length-noted ((at + 1) % length cells) orders (set cells at (Char byte)) ∙ length-set cells at (Char byte)
length-noted at (Sba address ∷ orders) cells = length-noted address orders cells
length-noted at (Sf attribute ∷ orders) cells = length-noted at orders cells
length-noted at (Ic ∷ orders) cells = length-noted at orders cells
length-noted at (Pt ∷ orders) cells = length-noted at orders cells
length-noted at (Ra stop byte ∷ orders) cells = length-noted at orders cells
length-noted at (Eua stop ∷ orders) cells = length-noted at orders cells

-- What each stored character keeps, the note keeps; `At` is known of the places.
module _ (P : List Cell → Type 0) (At : ℕ → Type 0) (size : ℕ) (sized : (cells : List Cell) → P cells → length cells ≡ size) (stores : (cells : List Cell) (at byte : ℕ) → At at → P cells → P (set cells at (Char byte))) where
  noted_keeps : (at : ℕ) (orders : List Order) (cells : List Cell) → All At (places_from_on size at orders) → P cells → P (noted at orders cells)
  noted_keeps at [] cells each holds = holds
  noted_keeps at (CharData byte ∷ orders) cells each holds =
      subst (λ (n : ℕ). P (noted ((at + 1) % n) orders (set cells at (Char byte)))) (sym (sized cells holds))
      (noted_keeps ((at + 1) % size) orders (set cells at (Char byte)) (All-tail At at (places_from_on size ((at + 1) % size) orders) each)
      (stores cells at byte (All-head At at (places_from_on size ((at + 1) % size) orders) each) holds))
  noted_keeps at (Sba address ∷ orders) cells each holds = noted_keeps address orders cells each holds
  noted_keeps at (Sf attribute ∷ orders) cells each holds = noted_keeps at orders cells each holds
  noted_keeps at (Ic ∷ orders) cells each holds = noted_keeps at orders cells each holds
  noted_keeps at (Pt ∷ orders) cells each holds = noted_keeps at orders cells each holds
  noted_keeps at (Ra stop byte ∷ orders) cells each holds = noted_keeps at orders cells each holds
  noted_keeps at (Eua stop ∷ orders) cells each holds = noted_keeps at orders cells each holds

-- ---- cells with the same attributes, or with the same protection

-- whether the cell's attribute protects, if it holds one
abbrev guard : Cell → Option Bool
guard (Char byte) = None
guard (Attr attribute) = Some attribute.protected

abbrev guard_of : Option Attribute → Option Bool
guard_of None = None
guard_of (Some attribute) = Some attribute.protected

abbrev guards_char : Option Bool → Bool
guards_char None = true
guards_char (Some protected) = false

abbrev guards : Option Bool → Bool
guards None = false
guards (Some protected) = protected

guard_is : (cell : Cell) → guard cell ≡ guard_of (attribute_in cell)
guard_is (Char byte) = refl
guard_is (Attr attribute) = refl

is_char_is : (cell : Cell) → is_char cell ≡ guards_char (guard cell)
is_char_is (Char byte) = refl
is_char_is (Attr attribute) = refl

protects_is : (over : Option Attribute) → protects over ≡ guards (guard_of over)
protects_is None = refl
protects_is (Some attribute) = refl

guard_or : (a b : Option Attribute) → guard_of (option_or a b) ≡ option_or (guard_of a) (guard_of b)
guard_or None b = refl
guard_or (Some attribute) b = refl

same_guards : (xs ys : List Cell) → map attribute_in xs ≡ map attribute_in ys → map guard xs ≡ map guard ys
same_guards [] [] same = refl
same_guards [] (y ∷ ys) same = cc
same_guards (x ∷ xs) [] same = cc
same_guards (x ∷ xs) (y ∷ ys) same =
    let here : attribute_in x ≡ attribute_in y = cc in
    let others : map attribute_in xs ≡ map attribute_in ys = cc in
    let first : guard x ≡ guard y = guard_is x ∙ ap guard_of here ∙ sym (guard_is y) in
    rw (first, same_guards xs ys others)

guard_at : (cells : List Cell) (at : ℕ) → get_or (map guard cells) at None ≡ guard (get_or cells at (Char 0))
guard_at [] zero = refl
guard_at [] (suc at) = refl
guard_at (cell ∷ cells) zero = refl
guard_at (cell ∷ cells) (suc at) = guard_at cells at

same_chars : (xs ys : List Cell) → map guard xs ≡ map guard ys → (at : ℕ) → is_char_at xs at ≡ is_char_at ys at
same_chars xs ys same at =
    is_char_is (get_or xs at (Char 0))
    ∙ ap guards_char (sym (guard_at xs at) ∙ ap (λ (all : List (Option Bool)). get_or all at None) same ∙ guard_at ys at)
    ∙ sym (is_char_is (get_or ys at (Char 0)))

same_length : (xs ys : List Cell) → map guard xs ≡ map guard ys → length xs ≡ length ys
same_length xs ys same = sym (length-map xs guard) ∙ ap length same ∙ length-map ys guard

same_places : (at : ℕ) (xs ys : List Cell) → map guard xs ≡ map guard ys → places_from (λ cell. not (is_char cell)) at xs ≡ places_from (λ cell. not (is_char cell)) at ys
same_places at [] [] same = refl
same_places at [] (y ∷ ys) same = cc
same_places at (x ∷ xs) [] same = cc
same_places at (x ∷ xs) (y ∷ ys) same =
    let here : guard x ≡ guard y = cc in
    let others : map guard xs ≡ map guard ys = cc in
    let first : is_char x ≡ is_char y = is_char_is x ∙ ap guards_char here ∙ sym (is_char_is y) in
    rw (first, same_places (at + 1) xs ys others)

map_ring : {X : Type 0} (f : Cell → X) (from : ℕ) (cells : List Cell) → map f (ring from cells) ≡ drop from (map f cells) ++ take from (map f cells)
map_ring f from cells =
    map-append f (drop from cells) (take from cells)
    ∙ sym (ap (λ all. all ++ take from (map f cells)) (drop-map f from cells) ∙ ap (λ all. map f (drop from cells) ++ all) (take-map f from cells))

same_ring : {X : Type 0} (f : Cell → X) (from : ℕ) (xs ys : List Cell) → map f xs ≡ map f ys → map f (ring from xs) ≡ map f (ring from ys)
same_ring f from xs ys same = map_ring f from xs ∙ ap (λ all. drop from all ++ take from all) same ∙ sym (map_ring f from ys)

same_over : (xs ys : List Cell) → map attribute_in xs ≡ map attribute_in ys → (at : ℕ) → attribute_over xs at ≡ attribute_over ys at
same_over xs ys same at = last_attribute-same (ring (at + 1) xs) (ring (at + 1) ys) (same_ring attribute_in (at + 1) xs ys same)

last_guard : (xs ys : List Cell) → map guard xs ≡ map guard ys → guard_of (last_attribute xs) ≡ guard_of (last_attribute ys)
last_guard [] [] same = refl
last_guard [] (y ∷ ys) same = cc
last_guard (x ∷ xs) [] same = cc
last_guard (x ∷ xs) (y ∷ ys) same =
    let here : guard x ≡ guard y = cc in
    let others : map guard xs ≡ map guard ys = cc in
    let first : guard_of (attribute_in x) ≡ guard_of (attribute_in y) = sym (guard_is x) ∙ here ∙ guard_is y in
    guard_or (last_attribute xs) (attribute_in x)
    ∙ ap (λ last. option_or last (guard_of (attribute_in x))) (last_guard xs ys others)
    ∙ ap (λ last. option_or (guard_of (last_attribute ys)) last) first
    ∙ sym (guard_or (last_attribute ys) (attribute_in y))

same_protected : (xs ys : List Cell) → map guard xs ≡ map guard ys → (at : ℕ) → is_protected xs at ≡ is_protected ys at
same_protected xs ys same at =
    protects_is (attribute_over xs at)
    ∙ ap guards (last_guard (ring (at + 1) xs) (ring (at + 1) ys) (same_ring guard (at + 1) xs ys same))
    ∙ sym (protects_is (attribute_over ys at))

still_protected_char : (xs ys : List Cell) → map guard xs ≡ map guard ys → (at : ℕ) → IsProtectedChar xs at → IsProtectedChar ys at
still_protected_char xs ys same at is = record {
  inside = subst (λ (n : ℕ). at < n) (same_length xs ys same) is.inside;
  character = sym (same_chars xs ys same at) ∙ is.character;
  protected = sym (same_protected xs ys same at) ∙ is.protected;
}

-- ---- one character stored

attributes_set : (cells : List Cell) (at byte : ℕ) → is_char_at cells at ≡ true → map attribute_in (set cells at (Char byte)) ≡ map attribute_in cells
attributes_set [] zero byte is = refl
attributes_set [] (suc at) byte is = refl
attributes_set (Char old ∷ cells) zero byte is = refl
attributes_set (Attr attribute ∷ cells) zero byte is = cc
attributes_set (cell ∷ cells) (suc at) byte is = ap (λ all. attribute_in cell ∷ all) (attributes_set cells at byte is)

stored_held : (erased : Bool) (over : Option Attribute) (byte : ℕ) → protects over ≡ true → CharHeld (hold_under erased over) byte byte
stored_held erased None byte is = tt
stored_held erased (Some attribute) byte is = rw is refl

held_set : (erased : Bool) (lefts nows : List Cell) (at byte : ℕ) → IsProtectedChar nows at → KeptByKeys erased lefts nows → KeptByKeys erased (set lefts at (Char byte)) (set nows at (Char byte))
held_set erased lefts nows at byte is held =
    let new_lefts : List Cell = set lefts at (Char byte) in
    let new_nows : List Cell = set nows at (Char byte) in
    let inside : at < length lefts = subst (λ (n : ℕ). at < n) held.same_length is.inside in
    let over : (place : ℕ) → attribute_over new_nows place ≡ attribute_over nows place = same_over new_nows nows (attributes_set nows at byte is.character) in
    record {
      same_length = length-set nows at (Char byte) ∙ held.same_length ∙ sym (length-set lefts at (Char byte));
      each = λ place below.
          rw (over place)
          (elim (cases_eq place at) [
            | inl here ↦
                rw (here, get_or-set_same lefts at (Char byte) (Char 0) inside, get_or-set_same nows at (Char byte) (Char 0) is.inside)
                (stored_held erased (attribute_over nows at) byte is.protected)
            | inr apart ↦
                rw (get_or-set_other lefts at place (Char byte) (Char 0) apart, get_or-set_other nows at place (Char byte) (Char 0) apart)
                (held.each place (subst (λ (n : ℕ). place < n) (length-set nows at (Char byte)) below))
          ]);
    }

-- ---- what a note keeps

pub keeps_bounds : NoteKeepsBounds
keeps_bounds command screen note = record {
  size = ap length (cells_after command screen note) ∙ length-noted note.first note.others screen.cells;
  cursor = ap (λ (s : Screen). s.cursor) (after_note command screen note);
  aid = ap (λ (s : Screen). s.aid) (after_note command screen note);
}

-- attributes are as on `before`, and a place there is a character
attributes_noted : (before : List Cell) (at : ℕ) (orders : List Order) → All (λ place. is_char_at before place ≡ true) (places_from_on (length before) at orders) → map attribute_in (noted at orders before) ≡ map attribute_in before
attributes_noted before at orders each =
    noted_keeps (λ cells. map attribute_in cells ≡ map attribute_in before) (λ place. is_char_at before place ≡ true) (length before)
    (λ cells same. same_length cells before (same_guards cells before same))
    (λ cells place byte is same. attributes_set cells place byte (same_chars cells before (same_guards cells before same) place ∙ is) ∙ same)
    at orders before each refl

attributes_after : (command : CommandParts) (screen : Screen) → OverCharacters command screen.cells → map attribute_in (after_command command screen).cells ≡ map attribute_in screen.cells
attributes_after command screen over =
    ap (map attribute_in) (cells_after command screen over.note)
    ∙ attributes_noted screen.cells over.note.first over.note.others
    (subst (All (λ place. is_char_at screen.cells place ≡ true)) (places_are (length screen.cells) command over.note) over.each)

-- a place at which nothing is stored
elsewhere_noted : (before : List Cell) (place at : ℕ) (orders : List Order) → (Contains (places_from_on (length before) at orders) place → ⊥) → get_or (noted at orders before) place (Char 0) ≡ get_or before place (Char 0)
elsewhere_noted before place at orders none =
    let places : List ℕ = places_from_on (length before) at orders in
    let kept = noted_keeps (λ cells. (length cells ≡ length before) × (get_or cells place (Char 0) ≡ get_or before place (Char 0))) (λ other. place ≡ other → ⊥) (length before)
    (λ cells same. same.0)
    (λ cells other byte apart same. (length-set cells other (Char byte) ∙ same.0, get_or-set_other cells other place (Char byte) (Char 0) apart ∙ same.1))
    at orders before
    (All-weaker (Contains places) (λ other. place ≡ other → ⊥) (λ other there here. none (subst (Contains places) (sym here) there)) places (All-contains_itself places))
    (refl, refl) in
    kept.1

pub keeps_form : NoteKeepsForm
keeps_form command screen over =
    let same = attributes_after command screen over in
    let after : List Cell = (after_command command screen).cells in
    record {
      attributes = same;
      places = same_places 0 after screen.cells (same_guards after screen.cells same);
      over = same_over after screen.cells same;
      elsewhere = λ at none.
          ap (λ (cells : List Cell). get_or cells at (Char 0)) (cells_after command screen over.note)
          ∙ elsewhere_noted screen.cells at over.note.first over.note.others
          (λ there. none (subst (λ places. Contains places at) (sym (places_are (length screen.cells) command over.note)) there));
    }

storable_noted : (size : ℕ) (at : ℕ) (orders : List Order) (cells : List Cell) → All (IsProper size) orders → All IsStorableCell cells → All IsStorableCell (noted at orders cells)
storable_noted size at [] cells proper storable = storable
storable_noted size at (CharData byte ∷ orders) cells proper storable =
    storable_noted size ((at + 1) % length cells) orders (set cells at (Char byte)) (All-tail (IsProper size) (CharData byte) orders proper)
    (All-set IsStorableCell cells at (Char byte) (All-head (IsProper size) (CharData byte) orders proper) storable)
storable_noted size at (Sba address ∷ orders) cells proper storable = storable_noted size address orders cells (All-tail (IsProper size) (Sba address) orders proper) storable
storable_noted size at (Sf attribute ∷ orders) cells proper storable = storable_noted size at orders cells (All-tail (IsProper size) (Sf attribute) orders proper) storable
storable_noted size at (Ic ∷ orders) cells proper storable = storable_noted size at orders cells (All-tail (IsProper size) Ic orders proper) storable
storable_noted size at (Pt ∷ orders) cells proper storable = storable_noted size at orders cells (All-tail (IsProper size) Pt orders proper) storable
storable_noted size at (Ra stop byte ∷ orders) cells proper storable = storable_noted size at orders cells (All-tail (IsProper size) (Ra stop byte) orders proper) storable
storable_noted size at (Eua stop ∷ orders) cells proper storable = storable_noted size at orders cells (All-tail (IsProper size) (Eua stop) orders proper) storable

pub keeps_sendable : NoteKeepsSendable
keeps_sendable command screen note proper is =
    let size : ℕ = length screen.cells in
    let others : All (IsProper size) note.others = All-tail (IsProper size) (Sba note.first) note.others (subst (All (IsProper size)) note.orders proper) in
    subst IsSendable (sym (after_note command screen note))
    (record {
      few = subst (λ (n : ℕ). n ≤ most_cells) (sym (length-noted note.first note.others screen.cells)) is.few;
      cursor = subst (λ (n : ℕ). screen.cursor < n) (sym (length-noted note.first note.others screen.cells)) is.cursor;
      aid = is.aid;
      storable = storable_noted size note.first note.others screen.cells others is.storable;
    })

-- ---- what keys kept

guards_held : (erased : Bool) (hold : Hold) (lefts nows : List Cell) → HeldFrom erased hold lefts nows → map guard lefts ≡ map guard nows
guards_held erased hold [] [] held = refl
guards_held erased hold [] (now ∷ nows) held = absurd held
guards_held erased hold (left ∷ lefts) [] held = absurd held
guards_held erased hold (Char left ∷ lefts) (Attr now ∷ nows) held = absurd held
guards_held erased hold (Attr left ∷ lefts) (Char now ∷ nows) held = absurd held
guards_held erased hold (Char left ∷ lefts) (Char now ∷ nows) held = ap (λ all. None ∷ all) (guards_held erased hold lefts nows held.1)
guards_held erased hold (Attr left ∷ lefts) (Attr now ∷ nows) held =
    let here : left.protected ≡ now.protected = sym (ap (λ (a : Attribute). a.protected) held.0.0) in
    rw (here, guards_held erased _ lefts nows held.1)

same_guards_held : (erased : Bool) (lefts nows : List Cell) → KeptByKeys erased lefts nows → map guard lefts ≡ map guard nows
same_guards_held erased lefts nows held = guards_held erased _ lefts nows (held_round erased lefts nows held)

both_noted : (erased : Bool) (at : ℕ) (orders : List Order) (lefts nows : List Cell) → All (IsProtectedChar nows) (places_from_on (length nows) at orders) → KeptByKeys erased lefts nows → KeptByKeys erased (noted at orders lefts) (noted at orders nows)
both_noted erased at [] lefts nows each held = held
both_noted erased at (CharData byte ∷ orders) lefts nows each held =
    let next : ℕ = (at + 1) % length nows in
    let new_lefts : List Cell = set lefts at (Char byte) in
    let new_nows : List Cell = set nows at (Char byte) in
    let is : IsProtectedChar nows at = All-head (IsProtectedChar nows) at (places_from_on (length nows) next orders) each in
    let others : All (IsProtectedChar nows) (places_from_on (length nows) next orders) = All-tail (IsProtectedChar nows) at (places_from_on (length nows) next orders) each in
    let same : map guard nows ≡ map guard new_nows = sym (same_guards new_nows nows (attributes_set nows at byte is.character)) in
    let still : All (IsProtectedChar new_nows) (places_from_on (length nows) next orders) = All-weaker (IsProtectedChar nows) (IsProtectedChar new_nows) (still_protected_char nows new_nows same) (places_from_on (length nows) next orders) others in
    subst (λ (n : ℕ). KeptByKeys erased (noted ((at + 1) % n) orders new_lefts) (noted next orders new_nows)) held.same_length
    (both_noted erased next orders new_lefts new_nows
    (subst (λ (n : ℕ). All (IsProtectedChar new_nows) (places_from_on n next orders)) (sym (length-set nows at (Char byte))) still)
    (held_set erased lefts nows at byte is held))
both_noted erased at (Sba address ∷ orders) lefts nows each held = both_noted erased address orders lefts nows each held
both_noted erased at (Sf attribute ∷ orders) lefts nows each held = both_noted erased at orders lefts nows each held
both_noted erased at (Ic ∷ orders) lefts nows each held = both_noted erased at orders lefts nows each held
both_noted erased at (Pt ∷ orders) lefts nows each held = both_noted erased at orders lefts nows each held
both_noted erased at (Ra stop byte ∷ orders) lefts nows each held = both_noted erased at orders lefts nows each held
both_noted erased at (Eua stop ∷ orders) lefts nows each held = both_noted erased at orders lefts nows each held

-- what may be written over on one list of cells, may on another with the same protection
protected_there : (command : CommandParts) (xs ys : List Cell) → map guard xs ≡ map guard ys → WritesProtected command xs → WritesProtected command ys
protected_there command xs ys same writes = record {
  note = writes.note;
  each = subst (λ (n : ℕ). All (IsProtectedChar ys) (places_noted n command)) (same_length xs ys same)
      (All-weaker (IsProtectedChar xs) (IsProtectedChar ys) (still_protected_char xs ys same) (places_noted (length xs) command) writes.each);
}

characters_there : (command : CommandParts) (xs ys : List Cell) → map guard xs ≡ map guard ys → OverCharacters command xs → OverCharacters command ys
characters_there command xs ys same over = record {
  note = over.note;
  each = subst (λ (n : ℕ). All (λ at. is_char_at ys at ≡ true) (places_noted n command)) (same_length xs ys same)
      (All-weaker (λ at. is_char_at xs at ≡ true) (λ at. is_char_at ys at ≡ true) (λ at is. sym (same_chars xs ys same at) ∙ is) (places_noted (length xs) command) over.each);
}

pub stays_protected : HeldStaysProtected
stays_protected erased command left now writes held = protected_there command left now (same_guards_held erased left now held) writes

pub keeps_held : NoteKeepsHeld
keeps_held erased command left now writes held =
    let note : IsNote command = writes.note in
    let here : WritesProtected command now.cells = stays_protected erased command left.cells now.cells writes held in
    rw (cells_after command left note, cells_after command now note)
    (both_noted erased note.first note.others left.cells now.cells
    (subst (All (IsProtectedChar now.cells)) (places_are (length now.cells) command note) here.each) held)

pub are_characters : ProtectedAreCharacters
are_characters command cells writes = record {
  note = writes.note;
  each = All-weaker (IsProtectedChar cells) (λ at. is_char_at cells at ≡ true) (λ at is. is.character) (places_noted (length cells) command) writes.each;
}

pub compose : NotesCompose
compose note other screen over =
    let after : List Cell = (after_command note screen).cells in
    let same : map guard screen.cells ≡ map guard after = sym (same_guards after screen.cells (attributes_after note screen over)) in
    (protected_there other screen.cells after same, characters_there other screen.cells after same)

pub leaves_unprotected : NoteLeavesUnprotected
leaves_unprotected command screen writes at unprotected =
    (keeps_form command screen (are_characters command screen.cells writes)).elsewhere at
    (λ there.
    let is : IsProtectedChar screen.cells at = All-contains (IsProtectedChar screen.cells) (places_noted (length screen.cells) command) at writes.each there in
    let wrong : true ≡ false = sym is.protected ∙ unprotected in
    cc)

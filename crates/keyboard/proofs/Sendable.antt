-- A key leaves a screen that can be sent, where it found one.
use Rattle.std.proofs.Common.{◌≡◌, ◌≤◌, ◌+◌, ◌-◌, ◌%◌, ◌==◌, ◌&&◌, not, ℕ, zero, suc, Bool, true, false, Option, None, Some, Result, Ok, Err, List, [], ◌∷◌, ◌++◌, length, take, drop, replicate, arith, refl, sym, subst, IfSome, IfOk, if◌then◌else◌}
use Rattle.std.specs.Prelude.{slice_index_or, option_map}
use Rattle.std.specs.List.{All, list_all}
use Rattle.std.proofs.lemmas.Bool.Decides.{nat_tests}
use Rattle.std.proofs.lemmas.List.Elements.{All-nil, All-cons, All-head, All-tail, All-append, All-set, All-take, All-drop, All-replicate, All-map}
use Rattle.codes3270.specs.Aid.{IsRealAid}
use Rattle.codes3270.proofs.CodeRange.{code_in_range}
use Rattle.codes3270.specs.CodePage.{code_of}
use Rattle.codes3270.specs.Storable.{is_storable}
use Rattle.codes3270.specs.declared.attribute.Cell.{Cell}
use Rattle.codes3270.specs.declared.attribute.Cell.TheVariants.{Char as CharCell, Attr as AttrCell}
use Rattle.datastream.specs.InboundFields.{IsStorableCell, IsSendable}
use Rattle.datastream.specs.Meaning.{modified, opened, open_unmodified}
use Rattle.datastream.specs.Screen.{Screen, is_char, text_before_attribute, attribute_over}
use Rattle.keyboard.specs.declared.key.Key.{Key}
use Rattle.keyboard.specs.declared.key.Key.TheVariants.{Char, Tab, BackTab, NewLine, Home, CursorUp, CursorDown, CursorLeft, CursorRight, Backspace, Insert, Delete, EraseEof, EraseInput, Reset, Enter, Pf, Pa, Clear}
use Rattle.keyboard.specs.declared.key.Lock.{Lock}
use Rattle.keyboard.specs.declared.key.Lock.TheVariants.{Free, Wait, Error}
use Rattle.keyboard.specs.declared.key.Refusal.{Refusal}
use Rattle.keyboard.specs.declared.key.Refusal.TheVariants.{Protected, NotNumeric}
use Rattle.keyboard.specs.Edits.{reach, text_from, laid, marked_at, rewritten, without_null, with_room, within_row, deleted, wants_numbers, is_numeric_letter, typed_before, typed_code, typed, changed, with_deleted, with_field_erased}
use Rattle.keyboard.specs.Keys.{edited, acted, locked_out, at_lock, pressed}
use Rattle.keyboard.specs.Laws.{KeysStayOnTheScreen}
use Rattle.keyboard.specs.Places.{is_free_at, governing_place}
use Rattle.keyboard.specs.State.{Keyboard}
use Rattle.presentation.proofs.Storable.{storable_modified, storable_open_unmodified, storable_across, with_opened}
use Rattle.keyboard.specs.Sendable.{IsKey, KeysKeepSendable}

abbrev pub IsStored : ℕ → Type 0
IsStored byte = is_storable byte ≡ true

-- each character of a text can be stored
abbrev pub AreStored : List ℕ → Type 0
AreStored text = All IsStored text

-- each cell has an attribute or such a character
abbrev pub CellsAreStored : List Cell → Type 0
CellsAreStored cells = All IsStorableCell cells

-- ---- texts

stored_in_range : (byte : ℕ) → 0x40 ≤ byte → byte ≤ 0xFE → IsStored byte
stored_in_range byte low high = grind (arith, nat_tests)

-- the code of a character can be stored
coded_stored : (letter byte : ℕ) → code_of letter ≡ Some byte → IsStored byte
coded_stored letter byte is = stored_in_range byte (code_in_range byte letter is).0 (code_in_range byte letter is).1

stored_at : (text : List ℕ) (index : ℕ) → AreStored text → IsStored (slice_index_or text index 0)
stored_at [] index each = refl
stored_at (byte ∷ text) zero each = All-head IsStored byte text each
stored_at (byte ∷ text) (suc index) each = stored_at text index (All-tail IsStored byte text each)

cell_at : (cells : List Cell) (index : ℕ) → CellsAreStored cells → IsStorableCell (slice_index_or cells index (CharCell 0))
cell_at [] index each = refl
cell_at (cell ∷ cells) zero each = All-head IsStorableCell cell cells each
cell_at (cell ∷ cells) (suc index) each = cell_at cells index (All-tail IsStorableCell cell cells each)

pub text_stored : (cells : List Cell) → CellsAreStored cells → AreStored (text_before_attribute cells)
text_stored [] each = All-nil IsStored
text_stored (CharCell byte ∷ cells) each =
    All-cons IsStored byte (text_before_attribute cells) (All-head IsStorableCell (CharCell byte) cells each) (text_stored cells (All-tail IsStorableCell (CharCell byte) cells each))
text_stored (AttrCell attribute ∷ cells) each = All-nil IsStored

reach_stored : (cells : List Cell) (at : ℕ) → CellsAreStored cells → CellsAreStored (reach cells at)
reach_stored cells at each = by_test (list_all is_char cells)
  where
    by_test : (b : Bool) → CellsAreStored (if b then drop at cells else drop at cells ++ take at cells)
    by_test true = All-drop IsStorableCell at cells each
    by_test false = All-append IsStorableCell (drop at cells) (take at cells) (All-drop IsStorableCell at cells each) (All-take IsStorableCell at cells each)

from_stored : (cells : List Cell) (at : ℕ) → CellsAreStored cells → AreStored (text_from cells at)
from_stored cells at each = text_stored (reach cells at) (reach_stored cells at each)

more_stored : (byte : ℕ) (rest : Option (List ℕ)) → IsStored byte → IfSome rest AreStored → IfSome (option_map (λ r. byte ∷ r) rest) AreStored
more_stored byte None is each = tt
more_stored byte (Some rest) is each = All-cons IsStored byte rest is each

without_null_stored : (text : List ℕ) → AreStored text → IfSome (without_null text) AreStored
without_null_stored [] each = tt
without_null_stored (byte ∷ text) each = by_test (byte == 0) (without_null_stored text (All-tail IsStored byte text each))
  where
    by_test : (b : Bool) → IfSome (without_null text) AreStored → IfSome (if b then Some text else option_map (λ r. byte ∷ r) (without_null text)) AreStored
    by_test true rest = All-tail IsStored byte text each
    by_test false rest = more_stored byte (without_null text) (All-head IsStored byte text each) rest

room_stored : (inserting : Bool) (text : List ℕ) → AreStored text → IfSome (with_room inserting text) AreStored
room_stored false text each = All-drop IsStored 1 text each
room_stored true text each = without_null_stored text each

deleted_stored : (text : List ℕ) → AreStored text → AreStored (deleted text)
deleted_stored text each = All-append IsStored (drop 1 text) (0 ∷ []) (All-drop IsStored 1 text each) (All-cons IsStored 0 [] refl (All-nil IsStored))

-- ---- edits

laid_stored : (at count : ℕ) (text : List ℕ) (cells : List Cell) → AreStored text → CellsAreStored cells → CellsAreStored (laid at count text cells)
laid_stored at count text cells each all =
    storable_across at count (λ place old. CharCell (slice_index_or text ((place + length cells - at) % length cells) 0)) cells
    (λ place old is. stored_at text ((place + length cells - at) % length cells) each) all

marked_stored : (place : Option ℕ) (cells : List Cell) → CellsAreStored cells → CellsAreStored (marked_at place cells)
marked_stored None cells all = all
marked_stored (Some place) cells all =
    let old : Cell = slice_index_or cells place (CharCell 0) in
    All-set IsStorableCell cells place (modified old) (storable_modified old (cell_at cells place all)) all

-- what a key has to keep beside the size
pub record IsFine (screen : Screen) : Type 0 where
  pub cells : CellsAreStored screen.cells
  pub aid : IsRealAid screen.aid

fine : (screen : Screen) → IsSendable screen → IsFine screen
fine screen is = record { cells = is.storable; aid = is.aid }

rewritten_stored : (text : List ℕ) (screen : Screen) → AreStored text → IsFine screen → CellsAreStored (rewritten text screen).cells
rewritten_stored text screen each is =
    let new : List Cell = laid screen.cursor (length text) text screen.cells in
    marked_stored (governing_place new screen.cursor) new (laid_stored screen.cursor (length text) text screen.cells each is.cells)

typed_fine : (inserting : Bool) (letter : ℕ) (screen : Screen) → IsFine screen → IfOk (typed inserting letter screen) IsFine
typed_fine inserting letter screen is = by_code (code_of letter) refl
  where
    by_room : (byte : ℕ) (room : Option (List ℕ)) → IsStored byte → IfSome room AreStored → IfOk (typed_before byte room screen) IsFine
    by_room byte None stored each = tt
    by_room byte (Some rest) stored each = record { cells = rewritten_stored (byte ∷ rest) screen (All-cons IsStored byte rest stored each) is; aid = is.aid }

    by_test : (free wrong : Bool) (rest : Result Screen Refusal) → IfOk rest IsFine → IfOk (if not free then Err Protected else if wrong then Err NotNumeric else rest) IsFine
    by_test true true rest made = tt
    by_test true false rest made = made
    by_test false wrong rest made = tt

    by_code : (code : Option ℕ) → code_of letter ≡ code → IfOk (typed_code inserting letter code screen) IsFine
    by_code None e = tt
    by_code (Some byte) e =
        let cells : List Cell = screen.cells in
        let text : List ℕ = text_from cells screen.cursor in
        by_test (is_free_at cells screen.cursor) (wants_numbers (attribute_over cells screen.cursor) && not (is_numeric_letter letter)) (typed_before byte (with_room inserting text) screen)
        (by_room byte (with_room inserting text) (coded_stored letter byte e) (room_stored inserting text (from_stored cells screen.cursor is.cells)))

changed_fine : (text : List ℕ) (screen : Screen) → AreStored text → IsFine screen → IfOk (changed text screen) IsFine
changed_fine text screen each is = by_test (is_free_at screen.cells screen.cursor)
  where
    by_test : (free : Bool) → IfOk (if free then Ok (rewritten text screen) else Err Protected) IsFine
    by_test true = record { cells = rewritten_stored text screen each is; aid = is.aid }
    by_test false = tt

-- ---- keys

edited_fine : (edit : Result Screen Refusal) (keyboard : Keyboard) (screen : Screen) → IsFine screen → IfOk edit IsFine → IsFine (edited edit keyboard screen).screen
edited_fine (Ok new) keyboard screen is made = made
edited_fine (Err why) keyboard screen is made = is

moved_fine : (screen : Screen) (to : ℕ) → IsFine screen → IsFine (record screen { cursor = to })
moved_fine screen to is = record { cells = is.cells; aid = is.aid }

free_fine : (columns : ℕ) (key : Key) (keyboard : Keyboard) (screen : Screen) → IsKey key → IsSendable screen → IsFine (acted columns key keyboard screen).screen
free_fine columns (Char letter) keyboard screen real is = edited_fine (typed keyboard.inserting letter screen) keyboard screen (fine screen is) (typed_fine keyboard.inserting letter screen (fine screen is))
free_fine columns Tab keyboard screen real is = moved_fine screen _ (fine screen is)
free_fine columns BackTab keyboard screen real is = moved_fine screen _ (fine screen is)
free_fine columns NewLine keyboard screen real is = moved_fine screen _ (fine screen is)
free_fine columns Home keyboard screen real is = moved_fine screen _ (fine screen is)
free_fine columns CursorUp keyboard screen real is = moved_fine screen _ (fine screen is)
free_fine columns CursorDown keyboard screen real is = moved_fine screen _ (fine screen is)
free_fine columns CursorLeft keyboard screen real is = moved_fine screen _ (fine screen is)
free_fine columns CursorRight keyboard screen real is = moved_fine screen _ (fine screen is)
free_fine columns Backspace keyboard screen real is = moved_fine screen _ (fine screen is)
free_fine columns Insert keyboard screen real is = fine screen is
free_fine columns Delete keyboard screen real is =
    let text : List ℕ = within_row columns screen.cursor (text_from screen.cells screen.cursor) in
    edited_fine (with_deleted columns screen) keyboard screen (fine screen is)
    (changed_fine (deleted text) screen (deleted_stored text (All-take IsStored (columns - screen.cursor % columns) (text_from screen.cells screen.cursor) (from_stored screen.cells screen.cursor is.storable))) (fine screen is))
free_fine columns EraseEof keyboard screen real is =
    edited_fine (with_field_erased screen) keyboard screen (fine screen is)
    (changed_fine (replicate (length (text_from screen.cells screen.cursor)) 0) screen (All-replicate IsStored (length (text_from screen.cells screen.cursor)) 0 refl) (fine screen is))
free_fine columns EraseInput keyboard screen real is =
    let cells : List Cell = opened 0 (length screen.cells) screen.cells in
    record {
      cells = All-map IsStorableCell open_unmodified cells (λ k d below. storable_open_unmodified _ ((with_opened screen 0 (length screen.cells) is).storable k d below));
      aid = is.aid;
    }
free_fine columns Reset keyboard screen real is = fine screen is
free_fine columns Enter keyboard screen real is = record { cells = is.storable; aid = tt }
free_fine columns (Pf number) keyboard screen real is = record { cells = is.storable; aid = real }
free_fine columns (Pa number) keyboard screen real is = record { cells = is.storable; aid = real }
free_fine columns Clear keyboard screen real is = record { cells = All-replicate IsStorableCell (length screen.cells) (CharCell 0) refl; aid = tt }

-- a key at a lock leaves the screen
locked_same : (key : Key) (keyboard : Keyboard) (screen : Screen) → (locked_out key keyboard screen).screen ≡ screen
locked_same (Char letter) keyboard screen = refl
locked_same Tab keyboard screen = refl
locked_same BackTab keyboard screen = refl
locked_same NewLine keyboard screen = refl
locked_same Home keyboard screen = refl
locked_same CursorUp keyboard screen = refl
locked_same CursorDown keyboard screen = refl
locked_same CursorLeft keyboard screen = refl
locked_same CursorRight keyboard screen = refl
locked_same Backspace keyboard screen = refl
locked_same Insert keyboard screen = refl
locked_same Delete keyboard screen = refl
locked_same EraseEof keyboard screen = refl
locked_same EraseInput keyboard screen = refl
locked_same Reset keyboard screen = refl
locked_same Enter keyboard screen = refl
locked_same (Pf number) keyboard screen = refl
locked_same (Pa number) keyboard screen = refl
locked_same Clear keyboard screen = refl

key_fine : (columns : ℕ) (key : Key) (keyboard : Keyboard) (screen : Screen) → IsKey key → IsSendable screen → IsFine (pressed columns key keyboard screen).screen
key_fine columns key keyboard screen real is = by_lock keyboard.lock
  where
    stays : IsFine (locked_out key keyboard screen).screen
    stays = subst IsFine (sym (locked_same key keyboard screen)) (fine screen is)

    by_lock : (lock : Lock) → IsFine (at_lock lock columns key keyboard screen).screen
    by_lock Free = free_fine columns key keyboard screen real is
    by_lock Wait = stays
    by_lock Error = stays

pub keys_keep_sendable : KeysStayOnTheScreen → KeysKeepSendable
keys_keep_sendable stay columns key keyboard screen real is =
    let on = stay columns key keyboard screen is.cursor in
    let kept = key_fine columns key keyboard screen real is in
    record { few = omega (arith, on.0, is.few); cursor = omega (arith, on.0, on.1); aid = kept.aid; storable = kept.cells }

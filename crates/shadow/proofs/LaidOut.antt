-- The cells of a shadow's fields, laid out, are those of each screen that meets it; so is what a plain write makes of both.
use Rattle.std.proofs.Common.{◌≡◌, ◌+◌, ◌-◌, ℕ, suc, Bool, true, false, ◌&&◌, List, [], ◌∷◌, ◌++◌, length, map, flat_map, take, drop, Option, Some, None, refl, ap, sym, subst, arith, ◌∙◌, append_assoc, append-nil, if◌then◌else◌, length-append, drop_at, take_at}
use Rattle.std.specs.List.{list_all}
use Rattle.std.proofs.lemmas.List.{length-map, take-append-drop}
use Rattle.codes3270.specs.Size.{cells_in}
use Rattle.codes3270.specs.declared.attribute.Cell.{Cell}
use Rattle.codes3270.specs.declared.attribute.Cell.TheVariants.{Char, Attr}
use Rattle.codes3270.specs.declared.write_control.Wcc.{Wcc}
use Rattle.codes3270.specs.WriteControl.{wcc_of}
use Rattle.datastream.specs.Grammar.{CommandParts, IsCommand, write, other, IsSpelt, is_write}
use Rattle.datastream.specs.Screen.{Screen, text_before_attribute, blank_screen}
use Rattle.datastream.specs.Fields.{Field, fields, fields_from}
use Rattle.datastream.proofs.FieldWalk.{fields_walked, fields_are_walked}
use Rattle.datastream.specs.Meaning.{unmodified, prepared, written, cleared, after_code, after_command}
use Rattle.datastream.specs.declared.order.Order.{Order}
use Rattle.datastream.specs.declared.command_code.CommandCode.{CommandCode}
use Rattle.datastream.specs.declared.command_code.CommandCode.TheVariants.{Write, EraseWrite, EraseWriteAlternate, ReadBuffer, ReadModified, ReadModifiedAll, EraseAllUnprotected}
use Rattle.shadow.specs.declared.known.Known.{Known}
use Rattle.shadow.specs.Pairs.{Pairwise}
use Rattle.shadow.specs.Belief.{Belief, Shadow, cells_of_fields}
use Rattle.shadow.specs.Meets.{FieldMeets, KnownIs, Meets}
use Rattle.shadow.specs.AfterReadBuffer.{known_chars, seen}
use Rattle.shadow.specs.Stores.{stores, stores_unplaced, is_plain_order, is_plain}
use Rattle.shadow.specs.Taken.{old_char, field_cells, first_place, laid_out, marks_off_if, believed, known_after, after_write, taken_write, taken}
use Rattle.shadow.specs.Laws.{WrittenIsTaken}
use Rattle.shadow.specs.Sized.{MeetsIsOfSize}
use Rattle.shadow.proofs.Pairs.{pairwise-length, pairwise-append, pairwise-drop, pairwise-take}
use Rattle.shadow.proofs.HeardMeets.{none_left}
use Rattle.shadow.proofs.HeardOthers.{chars_known, seen_meets}
use Rattle.shadow.proofs.Stored.{stored, plain_orders}
use Rattle.shadow.proofs.TakenMeets.{SlotIs, Slotted, puts, reset, Before, old_fact, believed_meets, placed}

-- the cells after a plain write
pub cells_written : (wcc : Wcc) (orders : List Order) (s : Screen) → list_all is_plain_order orders ≡ true → (written (Some wcc) orders s).cells ≡ stored (stores (length s.cells) s.cursor orders) (prepared wcc s).cells
cells_written wcc orders s plain =
    ap (λ (t : Screen). t.cells) (plain_orders (length s.cells) orders (record { screen = prepared wcc s; address = s.cursor; after_data = false }) plain (length-prepared wcc s))
  where
    length-prepared : (wcc : Wcc) (s : Screen) → length (prepared wcc s).cells ≡ length s.cells
    length-prepared wcc s = cases wcc.reset
      where
        cases : (r : Bool) → length (if r then map unmodified s.cells else s.cells) ≡ length s.cells
        cases true = length-map s.cells unmodified
        cases false = refl

-- each write has a write control character
pub has_wcc : (command : CommandParts) → IsSpelt command → is_write command.code ≡ true → (wcc : Wcc) × (command.wcc ≡ Some wcc)
has_wcc command encoded writes = by_spelling encoded.3
  where
    by_spelling : IsCommand encoded.0 encoded.1 command encoded.2 → (wcc : Wcc) × (command.wcc ≡ Some wcc)
    by_spelling (write byte wcc text is code sized has orders bytes) = (wcc_of wcc, has)
    by_spelling (other byte ignored is code sized has orders bytes) = absurd (cc)

abbrev pub CellFits : Known → Cell → Type 0
CellFits slot cell = SlotIs slot cell cell

pub slotted : (ss : List Known) (cells : List Cell) → Pairwise CellFits ss cells → Slotted ss cells cells
slotted [] [] h = tt
slotted [] (c ∷ cs) h = h
slotted (s ∷ ss) [] h = h
slotted (s ∷ ss) (c ∷ cs) h = (h.0, slotted ss cs h.1)

abbrev char_cells : List ℕ → List Cell
char_cells = map (λ c. Char c)

length-char_cells : (cs : List ℕ) → length (char_cells cs) ≡ length cs
length-char_cells [] = refl
length-char_cells (c ∷ cs) = ap suc (length-char_cells cs)

-- the cells from the first attribute on
abbrev from_attr : List Cell → List Cell
from_attr [] = []
from_attr (Char c ∷ cells) = from_attr cells
from_attr (Attr a ∷ cells) = Attr a ∷ cells

parted : (cells : List Cell) → char_cells (text_before_attribute cells) ++ from_attr cells ≡ cells
parted [] = refl
parted (Char c ∷ cells) = ap (λ cs. Char c ∷ cs) (parted cells)
parted (Attr a ∷ cells) = refl

-- the last field goes on at address 0
ring_last : (whole more : List Cell) (n : ℕ) (rest : List Cell) → fields_walked whole n rest ≡ [] → char_cells (text_before_attribute (rest ++ more)) ≡ rest ++ char_cells (text_before_attribute more)
ring_last whole more n [] e = refl
ring_last whole more n (Char c ∷ rest) e = ap (λ cs. Char c ∷ cs) (ring_last whole more (n + 1) rest e)
ring_last whole more n (Attr a ∷ rest) e = absurd (cc)

-- Any other ends at the next attribute
ring_inner : (whole more : List Cell) (n : ℕ) (rest : List Cell) → (fields_walked whole n rest ≡ [] → ⊥) → char_cells (text_before_attribute (rest ++ more)) ++ from_attr rest ≡ rest
ring_inner whole more n [] h = absurd (h refl)
ring_inner whole more n (Char c ∷ rest) h = ap (λ cs. Char c ∷ cs) (ring_inner whole more (n + 1) rest h)
ring_inner whole more n (Attr a ∷ rest) h = refl

old_chars_fit : (ks : List (Option ℕ)) (text : List ℕ) → Pairwise KnownIs ks text → Pairwise CellFits (map old_char ks) (char_cells text)
old_chars_fit [] [] h = tt
old_chars_fit [] (c ∷ cs) h = h
old_chars_fit (k ∷ ks) [] h = h
old_chars_fit (k ∷ ks) (c ∷ cs) h = ((h.0, λ _. refl), old_chars_fit ks cs h.1)

no_beliefs : (bs : List Belief) (fs : List Field) → Pairwise FieldMeets bs fs → fs ≡ [] → bs ≡ []
no_beliefs = none_left FieldMeets

fields_fit : (whole : List Cell) (n : ℕ) (rest : List Cell) (bs : List Belief) → Pairwise FieldMeets bs (fields_walked whole n rest) → (fields_walked whole n rest ≡ [] → ⊥)
    → Pairwise CellFits (flat_map field_cells bs) (from_attr rest ++ char_cells (text_before_attribute whole))
fields_fit whole n [] bs h some = absurd (some refl)
fields_fit whole n (Char c ∷ rest) bs h some = fields_fit whole (n + 1) rest bs h some
fields_fit whole n (Attr a ∷ rest) [] h some = absurd h
fields_fit whole n (Attr a ∷ rest) (b ∷ bs) h some = ((h.0.same_attr, h.0.mark_is), cases (fields_walked whole (n + 1) rest) refl (fields_fit whole (n + 1) rest bs h.1))
  where
    mine : Pairwise CellFits (map old_char (known_chars b.length b.fact)) (char_cells (text_before_attribute (rest ++ whole)))
    mine = old_chars_fit _ _ (chars_known b.length b.fact (text_before_attribute (rest ++ whole)) h.0.same_length h.0.holds)

    cases : (fs : List Field) → fields_walked whole (n + 1) rest ≡ fs
        → ((fields_walked whole (n + 1) rest ≡ [] → ⊥) → Pairwise CellFits (flat_map field_cells bs) (from_attr rest ++ char_cells (text_before_attribute whole)))
        → Pairwise CellFits (map old_char (known_chars b.length b.fact) ++ flat_map field_cells bs) (rest ++ char_cells (text_before_attribute whole))
    cases [] e ih = rw (no_beliefs bs (fields_walked whole (n + 1) rest) h.1 e, append-nil, ← ring_last whole whole (n + 1) rest e) mine
    cases (f ∷ fs) e ih =
        let some : fields_walked whole (n + 1) rest ≡ [] → ⊥ = λ none. absurd (cc) in
        subst (Pairwise CellFits (map old_char (known_chars b.length b.fact) ++ flat_map field_cells bs))
        (sym (append_assoc (char_cells (text_before_attribute (rest ++ whole))) (from_attr rest) (char_cells (text_before_attribute whole))) ∙ ap (λ cs. cs ++ char_cells (text_before_attribute whole)) (ring_inner whole whole (n + 1) rest some))
        (pairwise-append CellFits _ _ _ _ mine (ih some))

pub first_at : (whole : List Cell) (n : ℕ) (rest : List Cell) (bs : List Belief) → Pairwise FieldMeets bs (fields_from whole n rest) → (fields_from whole n rest ≡ [] → ⊥)
    → first_place bs ≡ n + length (text_before_attribute rest)
first_at whole n [] bs h some = absurd (some refl)
first_at whole n (Char c ∷ rest) bs h some = let ih = first_at whole (n + 1) rest bs h some in omega arith
first_at whole n (Attr a ∷ rest) [] h some = absurd h
first_at whole n (Attr a ∷ rest) (b ∷ bs) h some = let same = h.0.same_place in omega arith

pub laid_out_fits : (size : ℕ) (cells : List Cell) (bs : List Belief) → length cells ≡ size → Pairwise FieldMeets bs (fields cells) → (fields cells ≡ [] → ⊥) → Pairwise CellFits (laid_out size bs) cells
laid_out_fits size cells bs whole h some =
    let walked = fields_are_walked cells in
    let flat = fields_fit cells 0 cells bs (subst (Pairwise FieldMeets bs) walked h) (λ none. some (walked ∙ none)) in
    let first = first_at cells 0 cells bs h some in
    let tail : length (from_attr cells) ≡ size - first_place bs =
    omega (arith, length-append (char_cells (text_before_attribute cells)) (from_attr cells), length-char_cells (text_before_attribute cells), ap length (parted cells)) in
    let back = pairwise-drop CellFits (size - first_place bs) _ _ flat in
    let front = pairwise-take CellFits (size - first_place bs) _ _ flat in
    subst (Pairwise CellFits (laid_out size bs)) (parted cells)
    (pairwise-append CellFits _ _ _ _
    (rw (drop_at (from_attr cells) (char_cells (text_before_attribute cells)) (size - first_place bs) tail) at back)
    (rw (take_at (from_attr cells) (char_cells (text_before_attribute cells)) (size - first_place bs) tail) at front))

-- a screen without attributes
pub bare_fits : (whole : List Cell) (n : ℕ) (known : List (Option ℕ)) (cells : List Cell) → fields_from whole n cells ≡ [] → Pairwise KnownIs known (text_before_attribute cells) → Pairwise CellFits (map old_char known) cells
bare_fits whole n [] [] e h = tt
bare_fits whole n (k ∷ ks) [] e h = absurd h
bare_fits whole n ks (Attr a ∷ cells) e h = absurd (cc)
bare_fits whole n [] (Char c ∷ cells) e h = absurd h
bare_fits whole n (k ∷ ks) (Char c ∷ cells) e h = ((h.0, λ _. refl), bare_fits whole (n + 1) ks cells e h.1)

reset_fits : (resets : Bool) (ss : List Known) (os : List Cell) → Slotted ss os os → Slotted (marks_off_if resets ss) os (if resets then map unmodified os else os)
reset_fits true ss os h = reset ss os os h
reset_fits false ss os h = h

after_write_meets : (wcc : Wcc) (orders : List Order) (bs : List Belief) (ss : List Known) (s : Screen) → list_all is_plain_order orders ≡ true → Slotted ss s.cells s.cells → ((place : ℕ) → Before bs place (drop (place + 1) s.cells ++ s.cells))
    → Meets (after_write (length s.cells) (Some wcc) orders bs ss) (written (Some wcc) orders s)
after_write_meets wcc orders bs ss s plain h before = cases (stores_unplaced orders) refl
  where
    size : ℕ
    size = length s.cells

    cases : (t : Bool) → stores_unplaced orders ≡ t
        → Meets (if t then Shadow.NothingKnown else believed bs (known_after (length s.cells) (Some wcc) orders ss)) (written (Some wcc) orders s)
    cases true e = tt
    cases false e =
        believed_meets bs (known_after (length s.cells) (Some wcc) orders ss) s.cells (written (Some wcc) orders s)
        (subst (Slotted (known_after (length s.cells) (Some wcc) orders ss) s.cells)
        (ap (λ more. stored more (prepared wcc s).cells) (placed (length s.cells) 0 s.cursor orders e plain) ∙ sym (cells_written wcc orders s plain))
        (puts (stores (length s.cells) 0 orders) _ s.cells _ (reset_fits wcc.reset ss s.cells h)))
        before

write_meets : (wcc : Wcc) (orders : List Order) (shadow : Shadow) (s : Screen) → list_all is_plain_order orders ≡ true → Meets shadow s → Meets (taken_write (length s.cells) (Some wcc) orders shadow) (written (Some wcc) orders s)
write_meets wcc orders Shadow.NothingKnown s plain meets = tt
write_meets wcc orders (Shadow.Unformatted known) s plain meets =
    after_write_meets wcc orders [] (map old_char known) s plain (slotted _ s.cells (bare_fits s.cells 0 known s.cells meets.0 meets.1)) (λ place len fact e. absurd (cc))
write_meets wcc orders (Shadow.Formatted bs) s plain meets =
    after_write_meets wcc orders bs (laid_out (length s.cells) bs) s plain (slotted _ s.cells (laid_out_fits (length s.cells) s.cells bs refl meets.1 meets.0)) (λ place. old_fact s.cells 0 s.cells bs meets.1 refl place)

-- what an erase leaves doesn't depend on the screen, nor on its size
erase_meets : (size : ℕ) (wcc : Wcc) (orders : List Order) (blank s : Screen) → list_all is_plain_order orders ≡ true → Meets (seen (written (Some wcc) orders (cleared size blank)).cells) (written (Some wcc) orders (cleared size s))
erase_meets size wcc orders blank s plain =
    subst (λ (cells : List Cell). Meets (seen cells) (written (Some wcc) orders (cleared size s)))
    (cells_written wcc orders (cleared size s) plain ∙ sym (cells_written wcc orders (cleared size blank) plain))
    (seen_meets (written (Some wcc) orders (cleared size s)))

-- a command that is no Write, or is one for a screen of this size
abbrev pub IsFor : CommandCode → ℕ → List Cell → Type 0
IsFor code size cells = code ≡ Write → length cells ≡ size

pub written_with : (n : ℕ) (command : CommandParts) → (is_write command.code ≡ true → (wcc : Wcc) × (command.wcc ≡ Some wcc)) → (shadow : Shadow) (s : Screen) → is_plain command ≡ true
    → IsFor command.code n s.cells → Meets shadow s → Meets (taken n command shadow) (after_command command s)
written_with n command control shadow s plain for meets = go command.code command.wcc control plain for
  where
    go : (code : CommandCode) (wcc : Option Wcc) → (is_write code ≡ true → (w : Wcc) × (wcc ≡ Some w)) → (is_write code && list_all is_plain_order command.orders) ≡ true
        → IsFor code n s.cells
        → Meets (taken n (record { code = code; size = command.size; wcc = wcc; orders = command.orders }) shadow) (after_code code (cells_in command.size) wcc command.orders s)
    go Write (Some wcc) has p is =
        subst (λ (m : ℕ). Meets (taken_write m (Some wcc) command.orders shadow) (written (Some wcc) command.orders s)) (is refl) (write_meets wcc command.orders shadow s p meets)
    go EraseWrite (Some wcc) has p is = erase_meets (cells_in command.size) wcc command.orders (blank_screen (cells_in command.size)) s p
    go EraseWriteAlternate (Some wcc) has p is = erase_meets (cells_in command.size) wcc command.orders (blank_screen (cells_in command.size)) s p
    go Write None has p is = absurd (let w = has refl in cc)
    go EraseWrite None has p is = absurd (let w = has refl in cc)
    go EraseWriteAlternate None has p is = absurd (let w = has refl in cc)
    go ReadBuffer wcc has p is = absurd (cc)
    go ReadModified wcc has p is = absurd (cc)
    go ReadModifiedAll wcc has p is = absurd (cc)
    go EraseAllUnprotected wcc has p is = absurd (cc)

pub written_taken : WrittenIsTaken
written_taken command shadow s encoded plain for meets = written_with (cells_in command.size) command (has_wcc command encoded) shadow s plain for meets

-- ---- the size of what is believed

pub length-field_cells : (b : Belief) (f : Field) → FieldMeets b f → length (field_cells b) ≡ suc b.length
length-field_cells b f h =
    ap suc (length-map (known_chars b.length b.fact) old_char ∙ sym (pairwise-length KnownIs _ _ (chars_known b.length b.fact f.text h.same_length h.holds)) ∙ h.same_length)

flat_length : (bs : List Belief) (fs : List Field) → Pairwise FieldMeets bs fs → length (flat_map field_cells bs) ≡ cells_of_fields bs
flat_length [] [] h = refl
flat_length [] (f ∷ fs) h = absurd h
flat_length (b ∷ bs) [] h = absurd h
flat_length (b ∷ bs) (f ∷ fs) h =
    omega (arith, length-append (field_cells b) (flat_map field_cells bs), length-field_cells b f h.0, flat_length bs fs h.1)

pub fields_size : (cells : List Cell) (bs : List Belief) → Pairwise FieldMeets bs (fields cells) → (fields cells ≡ [] → ⊥) → cells_of_fields bs ≡ length cells
fields_size cells bs h some =
    let flat : List Known = flat_map field_cells bs in
    let k : ℕ = length cells - first_place bs in
    let laid = pairwise-length CellFits (laid_out (length cells) bs) cells (laid_out_fits (length cells) cells bs refl h some) in
    omega (arith, flat_length bs (fields cells) h, laid, length-append (drop k flat) (take k flat), length-append (take k flat) (drop k flat), ap length (take-append-drop k flat))

pub meets_size : MeetsIsOfSize
meets_size Shadow.NothingKnown s meets = tt
meets_size (Shadow.Unformatted known) s meets =
    sym (length-map known old_char) ∙ sym (pairwise-length CellFits (map old_char known) s.cells (bare_fits s.cells 0 known s.cells meets.0 meets.1))
meets_size (Shadow.Formatted bs) s meets = fields_size s.cells bs meets.1 meets.0

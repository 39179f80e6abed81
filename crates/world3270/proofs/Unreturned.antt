-- Fields that weren't returned, while keys and notes go over them.
use Rattle.std.proofs.Common.{◌≡◌, ◌⊎◌, inl, inr, ◌<◌, ◌≤◌, ◌+◌, ◌==◌, ℕ, zero, suc, arith, Bool, true, false, Option, None, Some, List, [], ◌∷◌, ◌++◌, length, take, drop, refl, ap, sym, subst, ◌∙◌, if◌then◌else◌}
use Rattle.std.specs.Prelude.{slice_index_or, is_none, map, option_map}
use Rattle.std.specs.List.{All, Contains, list_all}
use Rattle.std.specs.Option.{option_or}
use Rattle.std.proofs.lemmas.Bool.{and_parts, cases_lt, eqb-true}
use Rattle.std.proofs.lemmas.List.{get_or-map, get_or_past, length-map}
use Rattle.std.proofs.lemmas.Bool.Decides.{Decides-eqb}
use Rattle.std.proofs.lemmas.List.Elements.{All-nil, All-cons, All-head, All-tail}
use Rattle.std.proofs.lemmas.Map.Made.{Contains-tail}
use Rattle.codes3270.specs.Size.{model_2}
use Rattle.codes3270.specs.declared.attribute.Attr.{Attr as Attribute}
use Rattle.codes3270.specs.declared.attribute.Cell.{Cell}
use Rattle.codes3270.specs.declared.attribute.Cell.TheVariants.{Char, Attr}
use Rattle.datastream.specs.Grammar.{CommandParts}
use Rattle.datastream.specs.KeptByKeys.{Hold, KeptByKeys, CharHeld, CellHeld, without_mdt}
use Rattle.datastream.specs.Meaning.{after_command}
use Rattle.datastream.specs.Note.{IsNote, IsNoteOrder, IsProtectedChar, OverCharacters, WritesProtected, places_noted, quiet}
use Rattle.datastream.specs.NoteLaws.{HeldStaysProtected, NoteKeepsForm, NotesCompose, SameForm}
use Rattle.datastream.specs.Screen.{Screen, attribute_in, attribute_over, is_char, is_char_at, is_protected, last_attribute, protects, ring}
use Rattle.datastream.specs.declared.command_code.CommandCode.TheVariants.{Write}
use Rattle.datastream.specs.declared.order.Order.TheVariants.{Sba, Char as CharData}
use Rattle.datastream.proofs.Fields.{attribute_over_is}
use Rattle.world3270.specs.statement.AsLeft.{ProtectedIsAsLeft, attribute_at}
use Rattle.world3270.specs.refinement.Unreturned.{IsInUnmodified, IsKept, NotedSince, SamePlaces, UnmodifiedIsKept}

-- ---- one place

-- a note of one character
abbrev single : ℕ → CommandParts
single place = record { code = Write; size = model_2; wcc = Some quiet; orders = Sba place ∷ CharData 0 ∷ [] }

single_is : (place : ℕ) → IsNote (single place)
single_is place = record { first = place; others = CharData 0 ∷ []; code = refl; wcc = refl; orders = refl; each = All-cons IsNoteOrder (CharData 0) [] tt (All-nil IsNoteOrder) }

writes_single : (cells : List Cell) (place : ℕ) → IsProtectedChar cells place → WritesProtected (single place) cells
writes_single cells place is = record { note = single_is place; each = All-cons (IsProtectedChar cells) place [] is (All-nil (IsProtectedChar cells)) }

-- a protected character stays one under keys
protected_held : HeldStaysProtected → (erased : Bool) (shown now : List Cell) (place : ℕ) → KeptByKeys erased shown now → IsProtectedChar shown place → IsProtectedChar now place
protected_held stays erased shown now place held is =
    All-head (IsProtectedChar now) place [] (stays erased (single place) shown now (writes_single shown place is) held).each

-- a field with MDT off isn't protected
not_protected : (cells : List Cell) (place : ℕ) (over : Option Attribute) → attribute_over cells place ≡ over → IsInUnmodified over → IsProtectedChar cells place → ⊥
not_protected cells place None e unmodified is = absurd unmodified
not_protected cells place (Some attribute) e unmodified is =
    let guarded : attribute.protected ≡ true = sym (ap protects e) ∙ is.protected in
    let open_field = unmodified.0 in
    absurd (cc)

-- ---- keys

char_by : (erased protected mdt : Bool) (left now : ℕ) → protected ≡ false → mdt ≡ false
    → CharHeld (if protected then Hold.Same else if mdt then Hold.Free else if erased then Hold.Null else Hold.Same) left now → now ≡ (if erased then 0 else left)
char_by erased true mdt left now p m h = absurd (cc)
char_by erased false true left now p m h = absurd (cc)
char_by true false false left now p m h = h
char_by false false false left now p m h = h

pub cell_kept : (erased : Bool) (over : Option Attribute) (shown now : Cell) → IsInUnmodified over → CellHeld erased over shown now → IsKept erased shown now
cell_kept erased over shown (Attr now) unmodified h = tt
cell_kept erased over (Attr shown) (Char now) unmodified h = absurd h
cell_kept erased None (Char shown) (Char now) unmodified h = absurd unmodified
cell_kept erased (Some attribute) (Char shown) (Char now) unmodified h = char_by erased attribute.protected attribute.mdt shown now unmodified.0 unmodified.1 h

-- a cell that is held is of the kind that it was
held_kind : (erased : Bool) (over : Option Attribute) (shown now : Cell) → CellHeld erased over shown now → is_char now ≡ is_char shown
held_kind erased over (Char shown) (Char now) h = refl
held_kind erased over (Char shown) (Attr now) h = absurd h
held_kind erased over (Attr shown) (Char now) h = absurd h
held_kind erased over (Attr shown) (Attr now) h = refl

pub held_places : (erased : Bool) (shown now : List Cell) → KeptByKeys erased shown now → SamePlaces shown now
held_places erased shown now held = record { size = held.same_length; kinds = λ place. by_place place (cases_lt place (length now)) }
  where
    by_place : (place : ℕ) → (place < length now) ⊎ (length now ≤ place) → is_char_at now place ≡ is_char_at shown place
    by_place place (inl within) = held_kind erased (attribute_over now place) (slice_index_or shown place (Char 0)) (slice_index_or now place (Char 0)) (held.each place within)
    by_place place (inr beyond) = rw (get_or_past now place (Char 0) beyond, get_or_past shown place (Char 0) (subst (λ n. n ≤ place) held.same_length beyond)) refl

-- places that are the same in two steps
pub places_compose : (left shown now : List Cell) → SamePlaces left shown → SamePlaces shown now → SamePlaces left now
places_compose left shown now first second =
    record { size = second.size ∙ first.size; kinds = λ place. second.kinds place ∙ first.kinds place }

-- what keys kept of the screen that was shown they kept of what was left
pub kept_of : HeldStaysProtected → (erased : Bool) (row : ℕ) (left shown now : List Cell) → KeptByKeys erased shown now → NotedSince row left shown → UnmodifiedIsKept erased left now
kept_of stays erased row left shown now held noted =
    record { places = places_compose left shown now noted.places (held_places erased shown now held); each = λ place within unmodified. by_note place within unmodified (noted.each place) }
  where
    by_note : (place : ℕ) → place < length now → IsInUnmodified (attribute_over now place) → IsProtectedChar shown place ⊎ (slice_index_or shown place (Char 0) ≡ slice_index_or left place (Char 0))
        → IsKept erased (slice_index_or left place (Char 0)) (slice_index_or now place (Char 0))
    by_note place within unmodified (inl is) = absurd (not_protected now place (attribute_over now place) refl unmodified (protected_held stays erased shown now place held is))
    by_note place within unmodified (inr same) =
        subst (λ cell. IsKept erased cell (slice_index_or now place (Char 0))) same
        (cell_kept erased (attribute_over now place) (slice_index_or shown place (Char 0)) (slice_index_or now place (Char 0)) unmodified (held.each place within))

-- at first all is kept
kept_same : (cell : Cell) → IsKept false cell cell
kept_same (Char byte) = refl
kept_same (Attr attribute) = tt

pub all_kept : (cells : List Cell) → UnmodifiedIsKept false cells cells
all_kept cells = record { places = record { size = refl; kinds = λ place. refl }; each = λ place within unmodified. kept_same (slice_index_or cells place (Char 0)) }

-- ---- notes

-- a place is among those of a list, or isn't
is_among : (P : ℕ → Type 0) (places : List ℕ) (place : ℕ) → All P places → P place ⊎ (Contains places place → ⊥)
is_among P [] place each = inr (λ there. absurd (omega (arith, there.1)))
is_among P (first ∷ places) place each = by_test (first == place) refl (is_among P places place (All-tail P first places each))
  where
    by_test : (b : Bool) → (first == place) ≡ b → P place ⊎ (Contains places place → ⊥) → P place ⊎ (Contains (first ∷ places) place → ⊥)
    by_test true e more = inl (subst P (eqb-true first place e) (All-head P first places each))
    by_test false e more = by_rest more
      where
        other : first ≡ place → ⊥
        other same = let yes = (Decides-eqb first place).1 same in absurd (cc)

        by_rest : P place ⊎ (Contains places place → ⊥) → P place ⊎ (Contains (first ∷ places) place → ⊥)
        by_rest (inl is) = inl is
        by_rest (inr isnt) = inr (λ there. isnt (Contains-tail first places place other there))

-- a note behind an address writes nothing up to it
above_note : (row : ℕ) (places : List ℕ) (place : ℕ) → All (λ (at : ℕ). row < at) places → place ≤ row → Contains places place → ⊥
above_note row places place each before = by_case (is_among (λ (at : ℕ). row < at) places place each)
  where
    by_case : (row < place) ⊎ (Contains places place → ⊥) → Contains places place → ⊥
    by_case (inl behind) there = absurd (omega (arith, behind, before))
    by_case (inr isnt) there = isnt there

-- cells that have the same attributes have them at the same places
kind_of : (cell : Cell) → is_char cell ≡ is_none (attribute_in cell)
kind_of (Char byte) = refl
kind_of (Attr attribute) = refl

form_places : (command : CommandParts) (before after : Screen) → SameForm command before after → SamePlaces before.cells after.cells
form_places command before after same = record { size = size; kinds = λ place. by_place place (cases_lt place (length after.cells)) }
  where
    size : length after.cells ≡ length before.cells
    size = sym (length-map after.cells attribute_in) ∙ ap length same.attributes ∙ length-map before.cells attribute_in

    attribute_at : (cells : List Cell) (place : ℕ) → place < length cells → is_char_at cells place ≡ is_none (slice_index_or (map attribute_in cells) place None)
    attribute_at cells place within = kind_of (slice_index_or cells place (Char 0)) ∙ ap is_none (sym (get_or-map attribute_in cells place (Char 0) None within))

    by_place : (place : ℕ) → (place < length after.cells) ⊎ (length after.cells ≤ place) → is_char_at after.cells place ≡ is_char_at before.cells place
    by_place place (inl within) =
        attribute_at after.cells place within ∙ ap (λ (xs : List (Option Attribute)). is_none (slice_index_or xs place None)) same.attributes
        ∙ sym (attribute_at before.cells place (subst (λ n. place < n) size within))
    by_place place (inr beyond) = rw (get_or_past after.cells place (Char 0) beyond, get_or_past before.cells place (Char 0) (subst (λ n. n ≤ place) size beyond)) refl

-- where a note is written over protected characters, the others stay
pub noted_on : NoteKeepsForm → (command : CommandParts) (row : ℕ) (left : List Cell) (shown : Screen) → OverCharacters command shown.cells → WritesProtected command shown.cells
    → All (λ (at : ℕ). row < at) (places_noted (length shown.cells) command)
    → ((place : ℕ) → IsProtectedChar shown.cells place → IsProtectedChar (after_command command shown).cells place)
    → NotedSince row left shown.cells → NotedSince row left (after_command command shown).cells
noted_on form command row left shown over writes behind stays noted = record {
  places = places_compose left shown.cells (after_command command shown).cells noted.places (form_places command shown (after_command command shown) (form command shown over));
  each = λ place. by_place place (is_among (IsProtectedChar shown.cells) (places_noted (length shown.cells) command) place writes.each) (noted.each place);
  above = λ place before.
      (form command shown over).elsewhere place (above_note row (places_noted (length shown.cells) command) place behind before) ∙ noted.above place before;
}
  where
    new : Screen
    new = after_command command shown

    by_note : (place : ℕ) → (Contains (places_noted (length shown.cells) command) place → ⊥) → IsProtectedChar shown.cells place ⊎ (slice_index_or shown.cells place (Char 0) ≡ slice_index_or left place (Char 0))
        → IsProtectedChar new.cells place ⊎ (slice_index_or new.cells place (Char 0) ≡ slice_index_or left place (Char 0))
    by_note place isnt (inl is) = inl (stays place is)
    by_note place isnt (inr same) = inr ((form command shown over).elsewhere place isnt ∙ same)

    by_place : (place : ℕ) → IsProtectedChar shown.cells place ⊎ (Contains (places_noted (length shown.cells) command) place → ⊥)
        → IsProtectedChar shown.cells place ⊎ (slice_index_or shown.cells place (Char 0) ≡ slice_index_or left place (Char 0))
        → IsProtectedChar new.cells place ⊎ (slice_index_or new.cells place (Char 0) ≡ slice_index_or left place (Char 0))
    by_place place (inl is) was = inl (stays place is)
    by_place place (inr isnt) was = by_note place isnt was

-- a note over protected characters keeps what wasn't returned
pub kept_noted : NoteKeepsForm → (erased : Bool) (command : CommandParts) (left : List Cell) (now : Screen) → length (after_command command now).cells ≡ length now.cells → OverCharacters command now.cells
    → WritesProtected command now.cells → UnmodifiedIsKept erased left now.cells → UnmodifiedIsKept erased left (after_command command now).cells
kept_noted form erased command left now size over writes kept = record {
  places = places_compose left now.cells (after_command command now).cells kept.places (form_places command now (after_command command now) same);
  each = λ place within unmodified.
      by_place place within (subst IsInUnmodified (same.over place) unmodified) (is_among (IsProtectedChar now.cells) (places_noted (length now.cells) command) place writes.each);
}
  where
    same : SameForm command now (after_command command now)
    same = form command now over

    by_place : (place : ℕ) → place < length (after_command command now).cells → IsInUnmodified (attribute_over now.cells place)
        → IsProtectedChar now.cells place ⊎ (Contains (places_noted (length now.cells) command) place → ⊥)
        → IsKept erased (slice_index_or left place (Char 0)) (slice_index_or (after_command command now).cells place (Char 0))
    by_place place within was (inl is) = absurd (not_protected now.cells place (attribute_over now.cells place) refl was is)
    by_place place within was (inr isnt) =
        subst (λ cell. IsKept erased (slice_index_or left place (Char 0)) cell) (sym (same.elsewhere place isnt)) (kept.each place (subst (λ n. place < n) size within) was)

-- ---- what is protected

-- a character has no attribute
none_in : (cell : Cell) → is_char cell ≡ true → attribute_in cell ≡ None
none_in (Char byte) e = refl
none_in (Attr attribute) e = absurd (cc)

-- notes leave the attributes
noted_attribute : (row : ℕ) (left shown : List Cell) → NotedSince row left shown → (place : ℕ) → attribute_at shown place ≡ attribute_at left place
noted_attribute row left shown noted place = by_note (noted.each place)
  where
    by_note : IsProtectedChar shown place ⊎ (slice_index_or shown place (Char 0) ≡ slice_index_or left place (Char 0)) → attribute_at shown place ≡ attribute_at left place
    by_note (inl is) =
        ap (λ (found : Option Attribute). option_map without_mdt found)
        (none_in (slice_index_or shown place (Char 0)) is.character ∙ sym (none_in (slice_index_or left place (Char 0)) (sym (noted.places.kinds place) ∙ is.character)))
    by_note (inr same) = ap (λ (cell : Cell). option_map without_mdt (attribute_in cell)) same

-- keys leave them but for MDT
cell_attribute : (erased : Bool) (over : Option Attribute) (shown now : Cell) → CellHeld erased over shown now
    → option_map without_mdt (attribute_in now) ≡ option_map without_mdt (attribute_in shown)
cell_attribute erased over (Char shown) (Char now) h = refl
cell_attribute erased over (Char shown) (Attr now) h = absurd h
cell_attribute erased over (Attr shown) (Char now) h = absurd h
cell_attribute erased over (Attr shown) (Attr now) h = ap (λ (a : Attribute). Some a) h.0

pub held_attribute : (erased : Bool) (shown now : List Cell) → KeptByKeys erased shown now → (place : ℕ) → attribute_at now place ≡ attribute_at shown place
held_attribute erased shown now held place = by_place (cases_lt place (length now))
  where
    by_place : (place < length now) ⊎ (length now ≤ place) → attribute_at now place ≡ attribute_at shown place
    by_place (inl within) = cell_attribute erased (attribute_over now place) (slice_index_or shown place (Char 0)) (slice_index_or now place (Char 0)) (held.each place within)
    by_place (inr beyond) = rw (get_or_past now place (Char 0) beyond, get_or_past shown place (Char 0) (subst (λ n. n ≤ place) held.same_length beyond)) refl

-- and each protected cell
same_by : (protected mdt erased : Bool) (shown now : ℕ) → protected ≡ true
    → CharHeld (if protected then Hold.Same else if mdt then Hold.Free else if erased then Hold.Null else Hold.Same) shown now → now ≡ shown
same_by true mdt erased shown now p h = h
same_by false mdt erased shown now p h = absurd (cc)

whole_attribute : (one other : Attribute) → without_mdt one ≡ without_mdt other → one.mdt ≡ other.mdt → one ≡ other
whole_attribute one other e m = λ i. record { protected = (e i).protected; numeric = (e i).numeric; display = (e i).display; mdt = m i }

cell_same : (erased : Bool) (over : Option Attribute) (shown now : Cell) → protects over ≡ true → ((attribute : Attribute) → now ≡ Attr attribute → over ≡ Some attribute)
    → CellHeld erased over shown now → now ≡ shown
cell_same erased None shown now guarded itself h = absurd (cc)
cell_same erased (Some over) (Char shown) (Char now) guarded itself h = ap (λ (byte : ℕ). Char byte) (same_by over.protected over.mdt erased shown now guarded h)
cell_same erased (Some over) (Char shown) (Attr now) guarded itself h = absurd h
cell_same erased (Some over) (Attr shown) (Char now) guarded itself h = absurd h
cell_same erased (Some over) (Attr shown) (Attr now) guarded itself h =
    let here : over ≡ now = let both : Some over ≡ Some now = itself now refl in cc in
    let still : now.protected ≡ true = sym (ap (λ (a : Attribute). a.protected) here) ∙ guarded in
    ap (λ (a : Attribute). Attr a) (whole_attribute now shown h.0 (h.1 still))

pub held_cell : (erased : Bool) (shown now : List Cell) → KeptByKeys erased shown now → (place : ℕ) → is_protected now place ≡ true
    → slice_index_or now place (Char 0) ≡ slice_index_or shown place (Char 0)
held_cell erased shown now held place guarded = by_place (cases_lt place (length now))
  where
    governs : place < length now → (attribute : Attribute) → slice_index_or now place (Char 0) ≡ Attr attribute → attribute_over now place ≡ Some attribute
    governs within attribute at =
        attribute_over_is now place (Char 0) within ∙ ap (λ (cell : Cell). option_or (attribute_in cell) (last_attribute (ring place now))) at

    by_place : (place < length now) ⊎ (length now ≤ place) → slice_index_or now place (Char 0) ≡ slice_index_or shown place (Char 0)
    by_place (inl within) =
        cell_same erased (attribute_over now place) (slice_index_or shown place (Char 0)) (slice_index_or now place (Char 0)) guarded (governs within) (held.each place within)
    by_place (inr beyond) = rw (get_or_past now place (Char 0) beyond, get_or_past shown place (Char 0) (subst (λ n. n ≤ place) held.same_length beyond)) refl

-- what keys kept of the screen that was shown they kept of what was left
pub as_left_of : (erased : Bool) (row : ℕ) (left shown now : List Cell) → KeptByKeys erased shown now → NotedSince row left shown → ProtectedIsAsLeft row left now
as_left_of erased row left shown now held noted = record {
  size = held.same_length ∙ noted.places.size;
  attributes = λ place. held_attribute erased shown now held place ∙ noted_attribute row left shown noted place;
  cells = λ place before guarded. held_cell erased shown now held place guarded ∙ noted.above place before;
}

-- at first it is as it was left
pub all_as_left : (row : ℕ) (cells : List Cell) → ProtectedIsAsLeft row cells cells
all_as_left row cells = record { size = refl; attributes = λ place. refl; cells = λ place before guarded. refl }

-- a note in the row of messages leaves it so
attribute_there : (cells : List Cell) (place : ℕ) → attribute_in (slice_index_or cells place (Char 0)) ≡ slice_index_or (map attribute_in cells) place None
attribute_there cells place = by_place (cases_lt place (length cells))
  where
    by_place : (place < length cells) ⊎ (length cells ≤ place) → attribute_in (slice_index_or cells place (Char 0)) ≡ slice_index_or (map attribute_in cells) place None
    by_place (inl within) = sym (get_or-map attribute_in cells place (Char 0) None within)
    by_place (inr beyond) =
        rw (get_or_past cells place (Char 0) beyond, get_or_past (map attribute_in cells) place None (subst (λ n. n ≤ place) (sym (length-map cells attribute_in)) beyond)) refl

pub as_left_noted : NoteKeepsForm → (command : CommandParts) (row : ℕ) (left : List Cell) (now : Screen) → OverCharacters command now.cells
    → All (λ (at : ℕ). row < at) (places_noted (length now.cells) command) → ProtectedIsAsLeft row left now.cells → ProtectedIsAsLeft row left (after_command command now).cells
as_left_noted form command row left now over behind kept = record {
  size = (form_places command now new same).size ∙ kept.size;
  attributes = λ place. ap (λ (found : Option Attribute). option_map without_mdt found) (stays place) ∙ kept.attributes place;
  cells = λ place before guarded.
      same.elsewhere place (above_note row (places_noted (length now.cells) command) place behind before)
      ∙ kept.cells place before (sym (ap protects (same.over place)) ∙ guarded);
}
  where
    new : Screen
    new = after_command command now

    same : SameForm command now new
    same = form command now over

    stays : (place : ℕ) → attribute_in (slice_index_or new.cells place (Char 0)) ≡ attribute_in (slice_index_or now.cells place (Char 0))
    stays place =
        attribute_there new.cells place ∙ ap (λ (xs : List (Option Attribute)). slice_index_or xs place None) same.attributes ∙ sym (attribute_there now.cells place)

-- ---- a screen without fields

all_append : {X : Type 0} (p : X → Bool) (xs ys : List X) → list_all p xs ≡ true → list_all p ys ≡ true → list_all p (xs ++ ys) ≡ true
all_append p [] ys h k = k
all_append p (x ∷ xs) ys h k = let both = and_parts (p x) (list_all p xs) h in rw both.0 (all_append p xs ys both.1 k)

all_take : {X : Type 0} (p : X → Bool) (count : ℕ) (xs : List X) → list_all p xs ≡ true → list_all p (take count xs) ≡ true
all_take p zero xs h = refl
all_take p (suc count) [] h = refl
all_take p (suc count) (x ∷ xs) h = let both = and_parts (p x) (list_all p xs) h in rw both.0 (all_take p count xs both.1)

all_drop : {X : Type 0} (p : X → Bool) (count : ℕ) (xs : List X) → list_all p xs ≡ true → list_all p (drop count xs) ≡ true
all_drop p zero xs h = h
all_drop p (suc count) [] h = refl
all_drop p (suc count) (x ∷ xs) h = let both = and_parts (p x) (list_all p xs) h in all_drop p count xs both.1

no_attribute : (cells : List Cell) → list_all is_char cells ≡ true → last_attribute cells ≡ None
no_attribute [] h = refl
no_attribute (Char byte ∷ cells) h = rw (no_attribute cells h) refl
no_attribute (Attr attribute ∷ cells) h = absurd (cc)

-- no field is there that could be kept
pub kept_bare : (form : NoteKeepsForm) (erased : Bool) (command : CommandParts) (left : List Cell) (now : Screen) → OverCharacters command now.cells
    → list_all is_char (after_command command now).cells ≡ true → UnmodifiedIsKept erased left now.cells → UnmodifiedIsKept erased left (after_command command now).cells
kept_bare form erased command left now over bare kept = record {
  places = places_compose left now.cells cells kept.places (form_places command now (after_command command now) (form command now over));
  each = λ place within unmodified. absurd (subst IsInUnmodified (none place) unmodified);
}
  where
    cells : List Cell
    cells = (after_command command now).cells

    none : (place : ℕ) → attribute_over cells place ≡ None
    none place = no_attribute (ring (place + 1) cells) (all_append is_char (drop (place + 1) cells) (take (place + 1) cells) (all_drop is_char (place + 1) cells bare) (all_take is_char (place + 1) cells bare))

-- no attribute is among the cells
bare_by : (cells : List Cell) → list_all is_char cells ≡ list_all is_none (map attribute_in cells)
bare_by [] = refl
bare_by (Char byte ∷ cells) = bare_by cells
bare_by (Attr attribute ∷ cells) = refl

-- a screen without fields still has none, where its attributes are the same
pub still_bare : (before after : List Cell) → map attribute_in after ≡ map attribute_in before → list_all is_char before ≡ true → list_all is_char after ≡ true
still_bare before after same bare = bare_by after ∙ ap (list_all is_none) same ∙ sym (bare_by before) ∙ bare

-- a protected character stays one under a note
pub still_one : NotesCompose → (command : CommandParts) (shown : Screen) → OverCharacters command shown.cells → (place : ℕ) → IsProtectedChar shown.cells place → IsProtectedChar (after_command command shown).cells place
still_one composes command shown over place is =
    All-head (IsProtectedChar (after_command command shown).cells) place [] ((composes command (single place) shown over).0 (writes_single shown.cells place is)).each

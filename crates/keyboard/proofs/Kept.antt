-- What an edit leaves of the cells.
use Rattle.std.proofs.Common.{◌≡◌, ℕ, ◌+◌, ◌-◌, ◌%◌, ◌<◌, ◌≤◌, Bool, true, false, not, ◌&&◌, List, length, get_or, set, Option, Some, None, arith, sym, ◌∙◌, ap, refl, inl, inr, cond, subst}
use Rattle.std.proofs.Math.Nat.{mod-lt}
use Rattle.std.specs.List.{list_all}
use Rattle.std.proofs.lemmas.List.{length-set, get_or-set_same, get_or-set_other}
use Rattle.std.proofs.lemmas.Bool.{cases_lt, cases_eq}
use Rattle.std.proofs.lemmas.Bool.Decides.{nat_tests}
use Rattle.codes3270.specs.declared.attribute.Cell.{Cell}
use Rattle.codes3270.specs.declared.attribute.Cell.TheVariants.{Char, Attr}
use Rattle.codes3270.specs.declared.attribute.Attr.{Attr as Attribute}
use Rattle.datastream.specs.Screen.{Screen, is_char, is_char_at, attribute_in, attribute_over, protects, IsGoverned}
use Rattle.datastream.specs.Span.{is_within}
use Rattle.datastream.specs.Meaning.{modified}
use Rattle.datastream.proofs.Rounds.{at_distance}
use Rattle.datastream.proofs.Places.{get_or-across}
use Rattle.datastream.proofs.Fields.{attribute_over_governed}
use Rattle.keyboard.specs.Places.{governing_place, is_free_at}
use Rattle.keyboard.specs.Edits.{text_from, laid, marked_at, rewritten}
use Rattle.datastream.specs.KeptByKeys.{Hold, hold_under, CharHeld, CellHeld, KeptByKeys}
use Rattle.keyboard.proofs.Texts.{letter_at, length-laid, text_is_char, free_is_char}
use Rattle.keyboard.proofs.Governing.{each_is_char, attribute_over_none, governing_place_governs, governing_place_absent, governed_alike, governed_along}

-- a cell of the text, and any other
pub laid_within : (at count : ℕ) (text : List ℕ) (cells : List Cell) (place : ℕ) (d : Cell) → place < length cells → (place + length cells - at) % length cells < count → get_or (laid at count text cells) place d ≡ Char (get_or text ((place + length cells - at) % length cells) 0)
laid_within at count text cells place d below lower =
    let within : is_within (length cells) at count place ≡ true = grind (arith, nat_tests) in
    rw within at (get_or-across at count (letter_at at (length cells) text) cells place d below)

pub laid_outside : (at count : ℕ) (text : List ℕ) (cells : List Cell) (place : ℕ) (d : Cell) → place < length cells → count ≤ (place + length cells - at) % length cells → get_or (laid at count text cells) place d ≡ get_or cells place d
laid_outside at count text cells place d below upper =
    let out : is_within (length cells) at count place ≡ false = grind (arith, nat_tests) in
    rw out at (get_or-across at count (letter_at at (length cells) text) cells place d below)

-- the cells of the text held characters
was_char : (at count : ℕ) (cells : List Cell) (place : ℕ) → at < length cells → count ≤ length (text_from cells at) → place < length cells → (place + length cells - at) % length cells < count → is_char_at cells place ≡ true
was_char at count cells place a c below lower =
    let size : ℕ = length cells in
    let far : ℕ = (place + size - at) % size in
    let positive : 0 < size = omega arith in
    let there : place ≡ (at + far) % size = at_distance size at far place a (mod-lt (place + size - at) positive) below refl in
    rw there (text_is_char cells at far a (omega arith))

pub laid_alike : (at count : ℕ) (text : List ℕ) (cells : List Cell) → at < length cells → count ≤ length (text_from cells at) → (place : ℕ) → place < length cells → is_char_at (laid at count text cells) place ≡ is_char_at cells place
laid_alike at count text cells a c place below =
    elim (cases_lt ((place + length cells - at) % length cells) count) [
      | inl lower ↦ ap is_char (laid_within at count text cells place (Char 0) below lower) ∙ sym (was_char at count cells place a c below lower)
      | inr upper ↦ ap is_char (laid_outside at count text cells place (Char 0) below upper)
    ]

-- a cell that stays is held

pub kept_cell : (cell : Cell) (over : Option Attribute) → CellHeld false over cell cell
kept_cell (Char byte) None = tt
kept_cell (Char byte) (Some attribute) = by_bits attribute.protected attribute.mdt
  where
    by_bits : (p m : Bool) → CharHeld (cond p Hold.Same (cond m Hold.Free Hold.Same)) byte byte
    by_bits true m = refl
    by_bits false true = tt
    by_bits false false = refl
kept_cell (Attr attribute) over = (refl, λ p. refl, λ p m e. m)

-- any characters are held in a field that holds any
free_cells : (left now : Cell) (over : Option Attribute) → is_char left ≡ true → is_char now ≡ true → hold_under false over ≡ Hold.Free → CellHeld false over left now
free_cells (Char byte) (Char other) over l n free = let P : Hold → Type 0 = λ h. CharHeld h byte other in subst P (sym free) tt
free_cells (Char byte) (Attr attribute) over l n free = cc
free_cells (Attr attribute) now over l n free = cc

-- MDT on in the attribute of an unprotected field
marked_cell : (cell : Cell) (over : Option Attribute) → is_char cell ≡ false → protects (attribute_in cell) ≡ false → CellHeld false over cell (modified cell)
marked_cell (Char byte) over there unprotected = cc
marked_cell (Attr attribute) over there unprotected = (refl, λ p. absurd (cc), λ p m e. absurd (cc))

marked_free : (cell : Cell) → is_char cell ≡ false → protects (attribute_in cell) ≡ false → hold_under false (attribute_in (modified cell)) ≡ Hold.Free
marked_free (Char byte) there unprotected = cc
marked_free (Attr attribute) there unprotected = rw unprotected

pub modified_alike : (cell : Cell) → is_char (modified cell) ≡ is_char cell
modified_alike (Char byte) = refl
modified_alike (Attr attribute) = refl

is_open_place : (cells : List Cell) (at : ℕ) → is_free_at cells at ≡ true → protects (attribute_over cells at) ≡ false
is_open_place cells at free = second (is_char_at cells at) (protects (attribute_over cells at)) free
  where
    second : (p q : Bool) → (p && not q) ≡ true → q ≡ false
    second true true e = cc
    second true false e = refl
    second false q e = cc

-- where nothing governs, anything is held
laid_held : (at : ℕ) (text : List ℕ) (cells : List Cell) → at < length cells → length text ≤ length (text_from cells at) → list_all is_char (laid at (length text) text cells) ≡ true → KeptByKeys false cells (laid at (length text) text cells)
laid_held at text cells a few all =
    let new : List Cell = laid at (length text) text cells in
    let long : length new ≡ length cells = length-laid at (length text) text cells in
    record {
      same_length = long;
      each = λ place below.
          let inside : place < length cells = rw long at below in
          let now : is_char_at new place ≡ true = each_is_char new all place in
          let left : is_char_at cells place ≡ true = sym (laid_alike at (length text) text cells a few place inside) ∙ now in
          free_cells (get_or cells place (Char 0)) (get_or new place (Char 0)) (attribute_over new place) left now
          (rw (attribute_over_none new place all));
    }

-- A text in place of the one from the cursor on, and MDT on in its field.
marked_held : (at attr : ℕ) (text : List ℕ) (cells : List Cell) → at < length cells → is_free_at cells at ≡ true → length text ≤ length (text_from cells at) → IsGoverned cells at attr → KeptByKeys false cells (marked_at (Some attr) (laid at (length text) text cells))
marked_held at attr text cells a free few governed = record { same_length = long; each = λ place below. held place (rw long at below) }
  where
    new : List Cell
    new = laid at (length text) text cells

    last : List Cell
    last = set new attr (modified (get_or new attr (Char 0)))

    long : length last ≡ length cells
    long = length-set new attr (modified (get_or new attr (Char 0))) ∙ length-laid at (length text) text cells

    attr_below : attr < length cells
    attr_below = let positive : 0 < length cells = omega arith in rw governed.place (mod-lt (at + length cells - governed.back) positive)

    same_attr : get_or new attr (Char 0) ≡ get_or cells attr (Char 0)
    same_attr = elim (cases_lt ((attr + length cells - at) % length cells) (length text)) [
      | inl lower ↦ let wrong : true ≡ false = sym (was_char at (length text) cells attr a few attr_below lower) ∙ governed.there in cc
      | inr upper ↦ laid_outside at (length text) text cells attr (Char 0) attr_below upper
    ]

    read_attr : get_or last attr (Char 0) ≡ modified (get_or cells attr (Char 0))
    read_attr =
        let inside : attr < length new = rw (length-laid at (length text) text cells) attr_below in
        get_or-set_same new attr (modified (get_or new attr (Char 0))) (Char 0) inside ∙ ap modified same_attr

    unprotected : protects (attribute_in (get_or cells attr (Char 0))) ≡ false
    unprotected = rw (attribute_over_governed cells at attr a governed) at (is_open_place cells at free)

    alike : (place : ℕ) → place < length cells → is_char_at last place ≡ is_char_at cells place
    alike place below = elim (cases_eq place attr) [
      | inl same ↦ rw (same, read_attr) (modified_alike (get_or cells attr (Char 0)))
      | inr apart ↦
          ap is_char (get_or-set_other new attr place (modified (get_or new attr (Char 0))) (Char 0) apart)
          ∙ laid_alike at (length text) text cells a few place below
    ]

    -- a cell of the text lies in the field that is marked
    in_field : (place : ℕ) → place < length cells → (place + length cells - at) % length cells < length text → hold_under false (attribute_over last place) ≡ Hold.Free
    in_field place below lower =
        let size : ℕ = length cells in
        let far : ℕ = (place + size - at) % size in
        let positive : 0 < size = omega arith in
        let there : place ≡ (at + far) % size = at_distance size at far place a (mod-lt (place + size - at) positive) below refl in
        let here : IsGoverned cells place attr =
        rw there (governed_along cells at attr far a (λ j before. text_is_char cells at j a (omega arith)) governed) in
        let inside : place < length last = rw long below in
        let over : attribute_over last place ≡ attribute_in (get_or last attr (Char 0)) =
        attribute_over_governed last place attr inside (governed_alike cells last place attr below long alike here) in
        ap (hold_under false) (over ∙ ap attribute_in read_attr) ∙ marked_free (get_or cells attr (Char 0)) governed.there unprotected

    held : (place : ℕ) → place < length cells → CellHeld false (attribute_over last place) (get_or cells place (Char 0)) (get_or last place (Char 0))
    held place below = elim (cases_eq place attr) [
      | inl same ↦
          let read : get_or last place (Char 0) ≡ modified (get_or cells place (Char 0)) = rw same read_attr in
          rw read (marked_cell (get_or cells place (Char 0)) (attribute_over last place) (rw same governed.there) (rw same unprotected))
      | inr apart ↦
          let read : get_or last place (Char 0) ≡ get_or new place (Char 0) = get_or-set_other new attr place (modified (get_or new attr (Char 0))) (Char 0) apart in
          elim (cases_lt ((place + length cells - at) % length cells) (length text)) [
            | inl lower ↦
                let was : is_char_at cells place ≡ true = was_char at (length text) cells place a few below lower in
                free_cells (get_or cells place (Char 0)) (get_or last place (Char 0)) (attribute_over last place) was (alike place below ∙ was) (in_field place below lower)
            | inr upper ↦
                rw (read ∙ laid_outside at (length text) text cells place (Char 0) below upper) (kept_cell (get_or cells place (Char 0)) (attribute_over last place))
          ]
    ]

-- An edit holds what was left.
pub rewritten_held : (text : List ℕ) (screen : Screen) → screen.cursor < length screen.cells → is_free_at screen.cells screen.cursor ≡ true → length text ≤ length (text_from screen.cells screen.cursor) → KeptByKeys false screen.cells (rewritten text screen).cells
rewritten_held text screen a free few = by_place (governing_place new screen.cursor) refl
  where
    new : List Cell
    new = laid screen.cursor (length text) text screen.cells

    long : length new ≡ length screen.cells
    long = length-laid screen.cursor (length text) text screen.cells

    inside : screen.cursor < length new
    inside = rw long a

    alike : (place : ℕ) → place < length screen.cells → is_char_at new place ≡ is_char_at screen.cells place
    alike = laid_alike screen.cursor (length text) text screen.cells a few

    here : is_char_at new screen.cursor ≡ true
    here = alike screen.cursor a ∙ free_is_char screen.cells screen.cursor free

    by_place : (place : Option ℕ) → governing_place new screen.cursor ≡ place → KeptByKeys false screen.cells (marked_at place new)
    by_place None e = laid_held screen.cursor text screen.cells a few (governing_place_absent new screen.cursor inside here e)
    by_place (Some attr) e =
        marked_held screen.cursor attr text screen.cells a free few
        (governed_alike new screen.cells screen.cursor attr inside (sym long) (λ place below. sym (alike place (rw long at below)))
        (governing_place_governs new screen.cursor attr inside here e))

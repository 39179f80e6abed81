-- The fields of a screen stand in ascending places, and their first addresses are apart.
use Rattle.std.proofs.Common.{◌≡◌, ℕ, suc, ◌≤◌, ◌<◌, ◌+◌, ◌%◌, Bool, true, false, [], ◌∷◌, length, refl, ap, sym, arith, if◌then◌else◌, ne_eqb, eq-eqb, not, ◌||◌, ◌∙◌, Some, None, option_map, inl, inr, List, Option, map, filter, cond}
use Rattle.std.specs.Prelude.{⊤}
use Rattle.std.specs.List.{list_any, list_all}
use Rattle.std.proofs.Math.Nat.{mod-eq_of_lt, mod_self}
use Rattle.std.proofs.lemmas.Bool.{cases_eq}
use Rattle.codes3270.specs.declared.attribute.Cell.{Cell}
use Rattle.codes3270.specs.declared.attribute.Cell.TheVariants.{Char, Attr}
use Rattle.datastream.specs.Screen.{text_before_attribute, is_char}
use Rattle.datastream.specs.Fields.{Field, fields_from}
use Rattle.datastream.specs.Inbound.{without_nulls}
use Rattle.shadow.specs.Pairs.{Pairwise}
use Rattle.datastream.specs.InboundFields.{Returned, is_modified_field, returned_field}
use Rattle.shadow.specs.Belief.{Belief, next_address}
use Rattle.shadow.specs.Heard.{Answer, answers, is_nowhere, starts_at}

-- the fields' places are from n on, below `size`, and ascend
abbrev pub IsAscending : ℕ → ℕ → List Field → Type 0
IsAscending size n [] = ⊤
IsAscending size n (f ∷ fs) = (n ≤ f.place) × (f.place < size) × IsAscending size (f.place + 1) fs

pub from_later : (size n m : ℕ) → n ≤ m → (fs : List Field) → IsAscending size m fs → IsAscending size n fs
from_later size n m le [] h = tt
from_later size n m le (f ∷ fs) h = (omega arith, h.1, h.2)

pub ascending : (whole : List Cell) (size n : ℕ) (rest : List Cell) → n + length rest ≤ size → IsAscending size n (fields_from whole n rest)
ascending whole size n [] h = tt
ascending whole size n (Char c ∷ rest) h = from_later size n (n + 1) (omega arith) (fields_from whole (n + 1) rest) (ascending whole size (n + 1) rest (omega arith))
ascending whole size n (Attr a ∷ rest) h = (omega arith, omega arith, ascending whole size (n + 1) rest (omega arith))

-- two attributes' first addresses differ
pub first_apart : (size a b : ℕ) → a < b → b < size → next_address size a ≡ next_address size b → ⊥
first_apart size a b lt fits e =
    let low : a + 1 < size = omega arith in
    let first : (a + 1) % size ≡ a + 1 = mod-eq_of_lt low in
    elim (cases_eq (b + 1) size) [
      | inl last ↦ let zero_ : (b + 1) % size ≡ 0 = rw last (mod_self size) in omega (arith, first, zero_, e)
      | inr inner ↦ let high : b + 1 < size = omega arith in let second : (b + 1) % size ≡ b + 1 = mod-eq_of_lt high in omega (arith, first, second, e)
    ]

-- the text of a field that has MDT on
abbrev pub answer_of : Field → Option (List ℕ)
answer_of f = if f.attr.mdt then Some (without_nulls f.text) else None

-- the fields with MDT on
abbrev pub returned : ℕ → List Field → List Returned
returned size [] = []
returned size (f ∷ fs) =
    if f.attr.mdt then record { first = next_address size f.place; text = without_nulls f.text } ∷ returned size fs
    else returned size fs

pub returned_is : (size : ℕ) (fs : List Field) → map (returned_field size) (filter is_modified_field fs) ≡ returned size fs
returned_is size [] = refl
returned_is size (f ∷ fs) = cases f.attr.mdt (returned_is size fs)
  where
    cases : (m : Bool) → map (returned_field size) (filter is_modified_field fs) ≡ returned size fs
        → map (returned_field size) (cond m (f ∷ filter is_modified_field fs) (filter is_modified_field fs)) ≡ cond m (record { first = next_address size f.place; text = without_nulls f.text } ∷ returned size fs) (returned size fs)
    cases true rest = ap (λ rs. record { first = next_address size f.place; text = without_nulls f.text } ∷ rs) rest
    cases false rest = rest

abbrev pub SamePlace : Belief → Field → Type 0
SamePlace b f = f.place ≡ b.place

-- each field of a shadow with what the screen's field sends
abbrev pub given : List Belief → List Field → List Answer
given [] fs = []
given (b ∷ bs) [] = []
given (b ∷ bs) (f ∷ fs) = record { field = b; text = answer_of f } ∷ given bs fs

abbrev HeadApart : ℕ → List Returned → Type 0
HeadApart a [] = ⊤
HeadApart a (r ∷ rs) = a ≡ r.first → ⊥

later_apart : (size p : ℕ) (fs : List Field) → IsAscending size (p + 1) fs → HeadApart (next_address size p) (returned size fs)
later_apart size p [] h = tt
later_apart size p (f ∷ fs) h = cases f.attr.mdt (later_apart size p fs (from_later size (p + 1) (f.place + 1) (omega arith) fs h.2))
  where
    cases : (m : Bool) → HeadApart (next_address size p) (returned size fs) → HeadApart (next_address size p) (if m then record { first = next_address size f.place; text = without_nulls f.text } ∷ returned size fs else returned size fs)
    cases true rest = first_apart size p f.place (omega arith) h.1
    cases false rest = rest

skipped : (size : ℕ) (b : Belief) (bs : List Belief) (rs : List Returned) → HeadApart (next_address size b.place) rs
    → answers size (b ∷ bs) rs ≡ option_map (λ found. record { field = b; text = None } ∷ found) (answers size bs rs)
skipped size b bs [] h = refl
skipped size b bs (r ∷ rs) h = rw (ne_eqb _ _ h)

-- what a screen sends is matched to its fields
pub answers_given : (size n : ℕ) (bs : List Belief) (fs : List Field) → Pairwise SamePlace bs fs → IsAscending size n fs → answers size bs (returned size fs) ≡ Some (given bs fs)
answers_given size n [] [] same h = refl
answers_given size n [] (f ∷ fs) same h = absurd same
answers_given size n (b ∷ bs) [] same h = absurd same
answers_given size n (b ∷ bs) (f ∷ fs) same h = cases f.attr.mdt (answers_given size (f.place + 1) bs fs same.1 h.2)
  where
    cases : (m : Bool) → answers size bs (returned size fs) ≡ Some (given bs fs)
        → answers size (b ∷ bs) (if m then record { first = next_address size f.place; text = without_nulls f.text } ∷ returned size fs else returned size fs)
        ≡ Some (record { field = b; text = if m then Some (without_nulls f.text) else None } ∷ given bs fs)
    cases true rest = rw (eq-eqb (next_address size b.place) (next_address size f.place) (ap (next_address size) (sym same.0)), rest)
    cases false rest = skipped size b bs (returned size fs) (rw (← same.0) (later_apart size f.place fs h.2)) ∙ ap (option_map (λ found. record { field = b; text = None } ∷ found)) rest

pub or_neither : (p q : Bool) → p ≡ false → q ≡ false → (p || q) ≡ false
or_neither true q h k = h
or_neither false q h k = k

pub both_false : (p q : Bool) → (p || q) ≡ false → (p ≡ false) × (q ≡ false)
both_false true q e = absurd (cc)
both_false false q e = (refl, e)

found_more : (p q : Bool) → not q ≡ false → not (p || q) ≡ false
found_more true q e = refl
found_more false q e = e

pub nowhere_more : (size : ℕ) (b : Belief) (bs : List Belief) (rs : List Returned) → list_any (is_nowhere size bs) rs ≡ false → list_any (is_nowhere size (b ∷ bs)) rs ≡ false
nowhere_more size b bs [] e = refl
nowhere_more size b bs (r ∷ rs) e =
    let h = both_false _ _ e in
    or_neither _ _ (found_more (starts_at size b r.first) _ h.0) (nowhere_more size b bs rs h.1)

-- each address is the first of a field
pub none_nowhere : (size : ℕ) (bs : List Belief) (fs : List Field) → Pairwise SamePlace bs fs → list_any (is_nowhere size bs) (returned size fs) ≡ false
none_nowhere size [] [] same = refl
none_nowhere size [] (f ∷ fs) same = absurd same
none_nowhere size (b ∷ bs) [] same = absurd same
none_nowhere size (b ∷ bs) (f ∷ fs) same = cases f.attr.mdt (nowhere_more size b bs (returned size fs) (none_nowhere size bs fs same.1))
  where
    cases : (m : Bool) → list_any (is_nowhere size (b ∷ bs)) (returned size fs) ≡ false → list_any (is_nowhere size (b ∷ bs)) (if m then record { first = next_address size f.place; text = without_nulls f.text } ∷ returned size fs else returned size fs) ≡ false
    cases true rest = rw (eq-eqb (next_address size b.place) (next_address size f.place) (ap (next_address size) (sym same.0))) rest
    cases false rest = rest

pub length-text_before_attribute : (cells : List Cell) → length (text_before_attribute cells) ≤ length cells
length-text_before_attribute [] = omega arith
length-text_before_attribute (Char c ∷ cells) = let h = length-text_before_attribute cells in omega arith
length-text_before_attribute (Attr a ∷ cells) = omega arith

pub unformatted-length : (whole : List Cell) (n : ℕ) (cells : List Cell) → fields_from whole n cells ≡ [] → length (text_before_attribute cells) ≡ length cells
unformatted-length whole n [] e = refl
unformatted-length whole n (Char c ∷ cells) e = ap suc (unformatted-length whole (n + 1) cells e)
unformatted-length whole n (Attr a ∷ cells) e = absurd (cc)

-- a screen without fields has characters alone
pub no_fields_all : (whole : List Cell) (n : ℕ) (cells : List Cell) → fields_from whole n cells ≡ [] → list_all is_char cells ≡ true
no_fields_all whole n [] e = refl
no_fields_all whole n (Char c ∷ cells) e = no_fields_all whole (n + 1) cells e
no_fields_all whole n (Attr a ∷ cells) e = absurd (cc)

pub fields_not_all : (whole : List Cell) (n : ℕ) (cells : List Cell) → (fields_from whole n cells ≡ [] → ⊥) → list_all is_char cells ≡ false
fields_not_all whole n [] h = absurd (h refl)
fields_not_all whole n (Char c ∷ cells) h = fields_not_all whole (n + 1) cells h
fields_not_all whole n (Attr a ∷ cells) h = refl

-- What is printed of a key is read back.
use Rattle.std.proofs.Common.{◌≡◌, ℕ, suc, ◌+◌, ◌-◌, ◌<◌, ◌++◌, ◌&&◌, Bool, true, false, nat_eq, nat_lt, List, [], ◌∷◌, length, map, get_or, Option, Some, None, refl, ap, sym, subst, arith, ◌∙◌, cond, inl, inr, append-nil}
use Rattle.std.specs.Prelude.{bytes_eq}
use Rattle.std.specs.Char.{encode_utf8}
use Rattle.std.specs.Fmt.{digits}
use Rattle.std.specs.List.{list_all, range_with_len}
use Rattle.std.proofs.Math.Bool.{and-false}
use Rattle.std.proofs.lemmas.Bool.{agree_below_at, and_parts, cases_lt, eqb-true, le-ltb, false≢true}
use Rattle.std.proofs.lemmas.Slice.Eq.{bytes_eq-Decides}
use Rattle.std.proofs.lemmas.Str.{encode_ascii, inside_one}
use Rattle.keyboard.specs.KeyNames.{name_of, plain_keys, pf_keys, pa_keys, named_among, key_named}
use Rattle.keyboard.specs.Laws.{NamesReadBack, CharactersHaveNoName}
use Rattle.keyboard.specs.declared.key.Key.{Key}
use Rattle.keyboard.specs.declared.key.Key.TheVariants.{Char, Tab, BackTab, NewLine, Home, CursorUp, CursorDown, CursorLeft, CursorRight, Backspace, Insert, Delete, EraseEof, EraseInput, Reset, Enter, Pf, Pa, Clear}

-- ---- keys that have names

abbrev is_pf : Option Key → ℕ → Bool
is_pf (Some (Pf m)) n = nat_eq m n
is_pf _ n = false

abbrev is_pa : Option Key → ℕ → Bool
is_pa (Some (Pa m)) n = nat_eq m n
is_pa _ n = false

is_pf-true : (o : Option Key) (n : ℕ) → is_pf o n ≡ true → o ≡ Some (Pf n)
is_pf-true (Some (Pf m)) n passed = ap (λ k. Some (Pf k)) (eqb-true m n passed)
is_pf-true _ n passed = absurd (false≢true passed)

is_pa-true : (o : Option Key) (n : ℕ) → is_pa o n ≡ true → o ≡ Some (Pa n)
is_pa-true (Some (Pa m)) n passed = ap (λ k. Some (Pa k)) (eqb-true m n passed)
is_pa-true _ n passed = absurd (false≢true passed)

pf_read_back : (place : ℕ) → place < 24 → key_named (name_of (Pf (place + 1))) ≡ Some (Pf (place + 1))
unfolding key_named digits
pf_read_back place below = is_pf-true _ _ (agree_below_at (λ k. is_pf (key_named (name_of (Pf (k + 1)))) (k + 1)) (λ _. true) 24 place refl below)

pa_read_back : (place : ℕ) → place < 3 → key_named (name_of (Pa (place + 1))) ≡ Some (Pa (place + 1))
unfolding key_named digits
pa_read_back place below = is_pa-true _ _ (agree_below_at (λ k. is_pa (key_named (name_of (Pa (k + 1)))) (k + 1)) (λ _. true) 3 place refl below)

pub names_read_back : NamesReadBack
unfolding key_named
names_read_back (Char letter) is has = absurd has
names_read_back Tab is has = refl
names_read_back BackTab is has = refl
names_read_back NewLine is has = refl
names_read_back Home is has = refl
names_read_back CursorUp is has = refl
names_read_back CursorDown is has = refl
names_read_back CursorLeft is has = refl
names_read_back CursorRight is has = refl
names_read_back Backspace is has = refl
names_read_back Insert is has = refl
names_read_back Delete is has = refl
names_read_back EraseEof is has = refl
names_read_back EraseInput is has = refl
names_read_back Reset is has = refl
names_read_back Enter is has = refl
names_read_back Clear is has = refl
names_read_back (Pf number) is has =
    let same : number - 1 + 1 ≡ number = omega (arith, is.0) in
    subst (λ n. key_named (name_of (Pf n)) ≡ Some (Pf n)) same (pf_read_back (number - 1) (omega (arith, is.0, is.1)))
names_read_back (Pa number) is has =
    let same : number - 1 + 1 ≡ number = omega (arith, is.0) in
    subst (λ n. key_named (name_of (Pa n)) ≡ Some (Pa n)) same (pa_read_back (number - 1) (omega (arith, is.0, is.1)))

-- ---- characters

-- longer than a byte, and the first byte is ASCII: so is each name, and no character
abbrev is_word : List ℕ → Bool
is_word text = nat_lt 1 (length text) && nat_lt (get_or text 0 0) 128

none_named : (keys : List Key) (text : List ℕ) → list_all (λ key. is_word (name_of key)) keys ≡ true → is_word text ≡ false → named_among keys text ≡ None
none_named [] text words other = refl
none_named (key ∷ keys) text words other = by_test (bytes_eq (name_of key) text) refl (none_named keys text (and_parts _ _ words).1 other)
  where
    by_test : (b : Bool) → bytes_eq (name_of key) text ≡ b → named_among keys text ≡ None → cond b (Some key) (named_among keys text) ≡ None
    by_test true is rest = absurd (false≢true (sym other ∙ ap is_word (sym ((bytes_eq-Decides (name_of key) text).0 is)) ∙ (and_parts _ _ words).0))
    by_test false is rest = rest

no_word : (letter : ℕ) → is_word (encode_utf8 letter) ≡ false
no_word letter = elim (cases_lt letter 128) [
  | inl small ↦ rw (encode_ascii letter small) refl
  | inr big ↦ elim (cases_lt (get_or (encode_utf8 letter) 0 0) 128) [
    | inl low ↦ elim (cases_lt 1 (length (encode_utf8 letter))) [
      | inl long ↦ absurd (omega (arith, inside_one letter [] (encode_utf8 letter) 0 (sym (append-nil _)) (omega arith) low))
      | inr short ↦ ap (λ b. b && nat_lt (get_or (encode_utf8 letter) 0 0) 128) (le-ltb 1 (length (encode_utf8 letter)) short)
    ]
    | inr high ↦ ap (λ b. nat_lt 1 (length (encode_utf8 letter)) && b) (le-ltb (get_or (encode_utf8 letter) 0 0) 128 high) ∙ and-false _
  ]
]

pub characters_have_no_name : CharactersHaveNoName
unfolding key_named digits
characters_have_no_name letter = none_named (plain_keys ++ (pf_keys ++ pa_keys)) (encode_utf8 letter) refl (no_word letter)

-- ---- a search among keys with numbers

-- the keys from a number on, one by one
next_named : (key : ℕ → Key) (name : List ℕ) (number end : ℕ) → number < end
    → named_among (map key (range_with_len number (end - number))) name
    ≡ cond (bytes_eq (name_of (key number)) name) (Some (key number)) (named_among (map key (range_with_len (number + 1) (end - (number + 1)))) name)
next_named key name number end below =
    let more : end - number ≡ suc (end - (number + 1)) = omega (arith, below) in
    ap (λ (count : ℕ). named_among (map key (range_with_len number count)) name) more

pub found_named : (key : ℕ → Key) (name : List ℕ) (number end : ℕ) → number < end → bytes_eq (name_of (key number)) name ≡ true
    → named_among (map key (range_with_len number (end - number))) name ≡ Some (key number)
found_named key name number end below is =
    next_named key name number end below ∙ ap (λ (b : Bool). cond b (Some (key number)) (named_among (map key (range_with_len (number + 1) (end - (number + 1)))) name)) is

pub passed_named : (key : ℕ → Key) (name : List ℕ) (number end : ℕ) → number < end → bytes_eq (name_of (key number)) name ≡ false
    → named_among (map key (range_with_len number (end - number))) name ≡ named_among (map key (range_with_len (number + 1) (end - (number + 1)))) name
passed_named key name number end below is =
    next_named key name number end below ∙ ap (λ (b : Bool). cond b (Some (key number)) (named_among (map key (range_with_len (number + 1) (end - (number + 1)))) name)) is

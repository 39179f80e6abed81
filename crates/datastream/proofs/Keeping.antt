-- Cells that are kept by bits and bytes.
use Rattle.std.proofs.Common.{◌≡◌, ℕ, zero, suc, ◌+◌, ◌*◌, ◌^◌, ◌/◌, ◌%◌, ◌<◌, ◌≤◌, Bool, true, false, List, [], ◌∷◌, length, replicate, take, set, get_or, map, refl, ap, sym, subst, arith, ◌∙◌, ne_eqb, eq-eqb, inl, inr, if◌then◌else◌, All}
use Rattle.std.specs.Prelude.{nat_eq, bit_and, bit_or}
use Rattle.std.specs.Int.{bit_at, w64, bit_not}
use Rattle.std.proofs.Math.Nat.{mod-lt}
use Rattle.std.proofs.lemmas.Bool.{cases_eq}
use Rattle.std.proofs.lemmas.List.{get_or-set_other, get_or-set_same, get_or-replicate, get_or_default, length-set, length-replicate, map-set}
use Rattle.std.proofs.lemmas.Nat.Bits.{bit_at-lt, bit_at_set_same, bit_at_set_other, bit_at_clear_same, bit_at_clear_other}
use Rattle.codes3270.specs.Attribute.{attr_of}
use Rattle.codes3270.specs.declared.attribute.Attr.{Attr as Attribute}
use Rattle.codes3270.specs.declared.attribute.Cell.TheVariants.{Char as CharCell, Attr as AttrCell}
use Rattle.datastream.specs.declared.wanted.Want.{Want}
use Rattle.datastream.specs.declared.wanted.Want.TheVariants.{Char, Attr, Keep}
use Rattle.datastream.specs.CellBits.{bit_of, has_bit, kept, Marks, AreBits}
use Rattle.datastream.specs.CellCodes.{cell_of}
use Rattle.datastream.specs.Wanted.{IsProper, is_attribute, is_character, byte_of, want_kept, want_by, AreKept}

-- ---- one word

pub bit_set : (n k other : ℕ) → k < 64 → bit_at (bit_or n (1 * 2 ^ k % 2 ^ 64)) other ≡ (if nat_eq other k then bit_of true else bit_at n other)
bit_set n k other low = elim (cases_eq other k) [
  | inl same ↦ rw (eq-eqb other k same) (ap (bit_at (bit_or n (1 * 2 ^ k % 2 ^ 64))) same ∙ bit_at_set_same w64 n k low)
  | inr apart ↦ rw (ne_eqb other k apart) (bit_at_set_other w64 n k low other apart)
]

pub bit_cleared : (n k other : ℕ) → k < 64 → other < 64 → bit_at (bit_and n (bit_not w64 (1 * 2 ^ k % 2 ^ 64))) other ≡ (if nat_eq other k then bit_of false else bit_at n other)
bit_cleared n k other low few = elim (cases_eq other k) [
  | inl same ↦ rw (eq-eqb other k same) (ap (bit_at (bit_and n (bit_not w64 (1 * 2 ^ k % 2 ^ 64)))) same ∙ bit_at_clear_same w64 n k low)
  | inr apart ↦ rw (ne_eqb other k apart) (bit_at_clear_other w64 n k low other few apart)
]

-- ---- a row

bit_is : (b : Bool) → nat_eq (bit_of b) 1 ≡ b
bit_is true = refl
bit_is false = refl

pub alike : (word count cell : ℕ) (b : Bool) → cell / 64 < count → ((i : ℕ) → i < 64 → bit_at word i ≡ bit_of b) → has_bit (replicate count word) cell ≡ b
alike word count cell b within is =
    ap (λ w. nat_eq (bit_at w (cell % 64)) 1) (get_or-replicate count (cell / 64) word 0 within) ∙ ap (λ n. nat_eq n 1) (is (cell % 64) (mod-lt cell (omega arith))) ∙ bit_is b

one_bit : (n : ℕ) → n < 2 → n ≡ bit_of (nat_eq n 1)
one_bit zero few = refl
one_bit (suc zero) few = refl
one_bit (suc (suc n)) few = absurd (omega arith)

pub word_bits : (size : ℕ) (words : List ℕ) (index word : ℕ) → word ≡ get_or words index 0 → AreBits size (has_bit words) index word
word_bits size words index word is = λ place low inside.
    let quotient : (64 * index + place) / 64 ≡ index = omega arith in
    let remainder : (64 * index + place) % 64 ≡ place = omega arith in
    one_bit (bit_at word place) (bit_at-lt word place)
    ∙ sym (ap bit_of (
    ap (λ i. nat_eq (bit_at (get_or words i 0) ((64 * index + place) % 64)) 1) quotient
    ∙ ap (λ i. nat_eq (bit_at (get_or words index 0) i) 1) remainder
    ∙ ap (λ w. nat_eq (bit_at w place) 1) (sym is)
    ))

-- ---- cells

pub take-set : {X : Type 0} (xs : List X) (k i : ℕ) (y : X) → take k (set xs i y) ≡ set (take k xs) i y
take-set [] zero i y = refl
take-set [] (suc k) i y = refl
take-set (x ∷ xs) zero zero y = refl
take-set (x ∷ xs) zero (suc i) y = refl
take-set (x ∷ xs) (suc k) zero y = refl
take-set {X} (x ∷ xs) (suc k) (suc i) y = ap (λ (l : List X). x ∷ l) (take-set xs k i y)

module _ {A : Type 0} where
  pub length_kept : (f : ℕ → ℕ → A) (at : ℕ) (bytes : List ℕ) → length (kept f at bytes) ≡ length bytes
  length_kept f at [] = refl
  length_kept f at (b ∷ bytes) = ap suc (length_kept f (at + 1) bytes)

  kept_from : (f : ℕ → ℕ → A) (at : ℕ) (bytes : List ℕ) (i : ℕ) (byte : ℕ) (d : A) → i < length bytes → byte ≡ get_or bytes i byte → get_or (kept f at bytes) i d ≡ f (at + i) byte
  kept_from f at [] i byte d within is = absurd (omega arith)
  kept_from f at (b ∷ bytes) zero byte d within is = let same : at ≡ at + 0 = omega arith in ap (λ n. f n b) same ∙ ap (f (at + 0)) (sym is)
  kept_from f at (b ∷ bytes) (suc i) byte d within is =
      let further : (at + 1) + i ≡ at + suc i = omega arith in
      kept_from f (at + 1) bytes i byte d (omega arith) is ∙ ap (λ n. f n byte) further

  pub kept_at : (f : ℕ → ℕ → A) (bytes : List ℕ) (i : ℕ) (byte : ℕ) (d : A) → i < length bytes → byte ≡ get_or bytes i byte → get_or (kept f 0 bytes) i d ≡ f i byte
  kept_at f bytes i byte d within is = let same : 0 + i ≡ i = omega arith in kept_from f 0 bytes i byte d within is ∙ ap (λ n. f n byte) same

  kept_alike : (f g : ℕ → ℕ → A) (at : ℕ) (bytes : List ℕ) → ((j byte : ℕ) → at ≤ j → g j byte ≡ f j byte) → kept g at bytes ≡ kept f at bytes
  kept_alike f g at [] same = refl
  kept_alike f g at (b ∷ bytes) same =
      ap (λ p. p ∷ kept g (at + 1) bytes) (same at b (omega arith)) ∙ ap (λ ps. f at b ∷ ps) (kept_alike f g (at + 1) bytes (λ j byte later. same j byte (omega arith)))

  kept_set_from : (f g : ℕ → ℕ → A) (at : ℕ) (bytes : List ℕ) (i byte : ℕ) → ((j other : ℕ) → (j ≡ at + i → ⊥) → g j other ≡ f j other) → kept g at (set bytes i byte) ≡ set (kept f at bytes) i (g (at + i) byte)
  kept_set_from f g at [] i byte same = refl
  kept_set_from f g at (b ∷ bytes) zero byte same =
      let here : at ≡ at + 0 = omega arith in
      ap (λ p. p ∷ kept g (at + 1) bytes) (ap (λ n. g n byte) here) ∙ ap (λ ps. g (at + 0) byte ∷ ps) (kept_alike f g (at + 1) bytes (λ j other later. same j other (λ e. omega arith)))
  kept_set_from f g at (b ∷ bytes) (suc i) byte same =
      let further : (at + 1) + i ≡ at + suc i = omega arith in
      ap (λ p. p ∷ kept g (at + 1) (set bytes i byte)) (same at b (λ e. omega arith))
      ∙ ap (λ ps. f at b ∷ ps) (kept_set_from f g (at + 1) bytes i byte (λ j other apart. same j other (λ e. apart (omega arith))) ∙ ap (λ n. set (kept f (at + 1) bytes) i (g n byte)) further)

  pub kept_set : (f g : ℕ → ℕ → A) (bytes : List ℕ) (i byte : ℕ) (p : A) → ((j other : ℕ) → (j ≡ i → ⊥) → g j other ≡ f j other) → g i byte ≡ p → kept g 0 (set bytes i byte) ≡ set (kept f 0 bytes) i p
  kept_set f g bytes i byte p same is =
      let here : 0 + i ≡ i = omega arith in
      kept_set_from f g 0 bytes i byte (λ j other apart. same j other (λ e. apart (omega arith))) ∙ ap (λ n. set (kept f 0 bytes) i (g n byte)) here ∙ ap (set (kept f 0 bytes) i) is

  -- the same cell everywhere
  pub kept_all : (f : ℕ → ℕ → A) (at n byte : ℕ) (p : A) → ((j : ℕ) → at ≤ j → j < at + n → f j byte ≡ p) → kept f at (replicate n byte) ≡ replicate n p
  kept_all f at zero byte p is = refl
  kept_all f at (suc n) byte p is =
      ap (λ q. q ∷ kept f (at + 1) (replicate n byte)) (is at (omega arith) (omega arith)) ∙ ap (λ ps. p ∷ ps) (kept_all f (at + 1) n byte p (λ j later before. is j (omega arith) (omega arith)))

  -- a bit that is put with its cell
  pub marked_set : (holds : A → Bool) (bits bits_ : List ℕ) (cells : List A) (at : ℕ) (p : A) → at < length cells → Marks holds bits cells
      → ((other : ℕ) → has_bit bits_ other ≡ (if nat_eq other at then holds p else has_bit bits other)) → Marks holds bits_ (set cells at p)
  marked_set holds bits bits_ cells at p within marked put = λ cell inside d. elim (cases_eq cell at) [
    | inl same ↦ put cell ∙ ap (λ t. if t then holds p else has_bit bits cell) (eq-eqb cell at same)
        ∙ sym (ap holds (ap (λ n. get_or (set cells at p) n d) same ∙ get_or-set_same cells at p d within))
    | inr apart ↦ put cell ∙ ap (λ t. if t then holds p else has_bit bits cell) (ne_eqb cell at apart)
        ∙ marked cell (subst (λ n. cell < n) (length-set cells at p) inside) d
        ∙ sym (ap holds (get_or-set_other cells at cell p d apart))
  ]

  pub marked_all : (holds : A → Bool) (bits : List ℕ) (n : ℕ) (p : A) → ((cell : ℕ) → cell < n → has_bit bits cell ≡ holds p) → Marks holds bits (replicate n p)
  marked_all holds bits n p put = λ cell inside d.
      let few : cell < n = subst (λ m. cell < m) (length-replicate n p) inside in
      put cell few ∙ sym (ap holds (get_or-replicate n cell p d few))

-- what a cell's code and mark are

pub attribute_got : (mark : Bool) (code : ℕ) (attribute : Attribute) → cell_of mark code ≡ AttrCell attribute → (mark ≡ true) × (attribute ≡ attr_of code)
attribute_got true code attribute is = (refl, cc)
attribute_got false code attribute is = cc

pub character_got : (mark : Bool) (code byte : ℕ) → cell_of mark code ≡ CharCell byte → (mark ≡ false) × (code ≡ byte)
character_got true code byte is = cc
character_got false code byte is = (refl, cc)

-- ---- wanted cells

-- a bit that is put is the one that a function answers
pub bits_by : (b answer : Bool) → answer ≡ b → (words words_ : List ℕ) (at : ℕ) → ((other : ℕ) → has_bit words_ other ≡ (if nat_eq other at then answer else has_bit words other))
    → (other : ℕ) → has_bit words_ other ≡ (if nat_eq other at then b else has_bit words other)
bits_by b answer e words words_ at bits other = bits other ∙ ap (λ v. if nat_eq other at then v else has_bit words other) e

map_replicate : (n : ℕ) (w : Want) → map byte_of (replicate n w) ≡ replicate n (byte_of w)
map_replicate zero w = refl
map_replicate (suc n) w = ap (λ (bytes : List ℕ). byte_of w ∷ bytes) (map_replicate n w)

-- one cell is kept anew, by what functions answer
module _ (attributes characters bytes : List ℕ) (at : ℕ) (w : Want) (within : at < length bytes) (kept_before : AreKept attributes characters bytes)
    (byte : ℕ) (is_byte : byte ≡ byte_of w) (is : want_kept (is_attribute w) (is_character w) byte ≡ w)
    (attributes_ characters_ : List ℕ) (a k : Bool) (is_a : a ≡ is_attribute w) (is_k : k ≡ is_character w)
    (a_bits : (other : ℕ) → has_bit attributes_ other ≡ (if nat_eq other at then a else has_bit attributes other))
    (k_bits : (other : ℕ) → has_bit characters_ other ≡ (if nat_eq other at then k else has_bit characters other)) where
  abbrev old_cells : List Want
  old_cells = kept (want_by attributes characters) 0 bytes

  attribute_bits : (other : ℕ) → has_bit attributes_ other ≡ (if nat_eq other at then is_attribute w else has_bit attributes other)
  attribute_bits = bits_by (is_attribute w) a is_a attributes attributes_ at a_bits

  character_bits : (other : ℕ) → has_bit characters_ other ≡ (if nat_eq other at then is_character w else has_bit characters other)
  character_bits = bits_by (is_character w) k is_k characters characters_ at k_bits

  apart_same : (j other : ℕ) → (j ≡ at → ⊥) → want_by attributes_ characters_ j other ≡ want_by attributes characters j other
  apart_same j other apart =
      let no = ne_eqb j at apart in
      let a_same = attribute_bits j ∙ ap (λ t. if t then is_attribute w else has_bit attributes j) no in
      let k_same = character_bits j ∙ ap (λ t. if t then is_character w else has_bit characters j) no in
      ap (λ b. want_kept b (has_bit characters_ j) other) a_same ∙ ap (λ b. want_kept (has_bit attributes j) b other) k_same

  here_is : want_by attributes_ characters_ at byte ≡ w
  here_is =
      let yes = eq-eqb at at refl in
      let a_here = attribute_bits at ∙ ap (λ t. if t then is_attribute w else has_bit attributes at) yes in
      let k_here = character_bits at ∙ ap (λ t. if t then is_character w else has_bit characters at) yes in
      ap (λ b. want_kept b (has_bit characters_ at) byte) a_here ∙ ap (λ b. want_kept (is_attribute w) b byte) k_here ∙ is

  pub put_kept : kept (want_by attributes_ characters_) 0 (set bytes at byte) ≡ set (kept (want_by attributes characters) 0 bytes) at w
  put_kept = kept_set (want_by attributes characters) (want_by attributes_ characters_) bytes at byte w apart_same here_is

  pub put_are_kept : AreKept attributes_ characters_ (set bytes at byte)
  put_are_kept =
      let before : at < length old_cells = subst (λ n. at < n) (sym (length_kept (want_by attributes characters) 0 bytes)) within in
      record {
        bytes_are =
            ap (λ (xs : List ℕ). set xs at byte) kept_before.bytes_are ∙ ap (set (map byte_of old_cells) at) is_byte
            ∙ sym (map-set byte_of old_cells at w) ∙ sym (ap (map byte_of) put_kept);
        attributes_are = subst (Marks is_attribute attributes_) (sym put_kept) (marked_set is_attribute attributes attributes_ old_cells at w before kept_before.attributes_are attribute_bits);
        characters_are = subst (Marks is_character characters_) (sym put_kept) (marked_set is_character characters characters_ old_cells at w before kept_before.characters_are character_bits);
      }

-- the same is wanted of each cell
module _ (n : ℕ) (attributes characters : List ℕ) (w : Want) (byte : ℕ) (is_byte : byte ≡ byte_of w) (is : want_kept (is_attribute w) (is_character w) byte ≡ w)
    (attribute_bits : (cell : ℕ) → cell < n → has_bit attributes cell ≡ is_attribute w)
    (character_bits : (cell : ℕ) → cell < n → has_bit characters cell ≡ is_character w)
    (bytes : List ℕ) (is_bytes : bytes ≡ replicate n byte) where
  each_is : (cell : ℕ) → cell < n → want_by attributes characters cell byte ≡ w
  each_is cell few =
      ap (λ b. want_kept b (has_bit characters cell) byte) (attribute_bits cell few)
      ∙ ap (λ b. want_kept (is_attribute w) b byte) (character_bits cell few) ∙ is

  pub all_kept : kept (want_by attributes characters) 0 bytes ≡ replicate n w
  all_kept =
      ap (λ (xs : List ℕ). kept (want_by attributes characters) 0 xs) is_bytes
      ∙ kept_all (want_by attributes characters) 0 n byte w (λ j later before. each_is j (omega arith))

  pub all_are_kept : AreKept attributes characters bytes
  all_are_kept = record {
    bytes_are = is_bytes ∙ ap (replicate n) is_byte ∙ sym (map_replicate n w) ∙ sym (ap (map byte_of) all_kept);
    attributes_are = subst (Marks is_attribute attributes) (sym all_kept) (marked_all is_attribute attributes n w attribute_bits);
    characters_are = subst (Marks is_character characters) (sym all_kept) (marked_all is_character characters n w character_bits);
  }

-- ---- what is read at an address

module _ (attributes characters bytes : List ℕ) (at : ℕ) (within : at < length bytes) (now : List Want)
    (view : kept (want_by attributes characters) 0 bytes ≡ now) where
  pub want_read : (w : Want) → want_kept (has_bit attributes at) (has_bit characters at) (get_or bytes at 0) ≡ w → w ≡ get_or now at w
  want_read w is =
      sym is ∙ sym (kept_at (want_by attributes characters) bytes at (get_or bytes at 0) w within (get_or_default bytes at 0 (get_or bytes at 0) within))
      ∙ ap (λ (ws : List Want). get_or ws at w) view

-- what is wanted by the cell that is kept
pub attribute_wanted : (mark character : Bool) (code : ℕ) (attribute : Attribute) → cell_of mark code ≡ AttrCell attribute → want_kept mark character code ≡ Attr attribute
attribute_wanted mark character code attribute is =
    let got = attribute_got mark code attribute is in
    ap (λ (b : Bool). want_kept b character code) got.0 ∙ ap Attr (sym got.1)

pub character_wanted : (mark character : Bool) (code byte : ℕ) → cell_of mark code ≡ CharCell byte → character ≡ true → want_kept mark character code ≡ Char byte
character_wanted mark character code byte is wanted =
    let got = character_got mark code byte is in
    ap (λ (b : Bool). want_kept b character code) got.0 ∙ ap (λ (b : Bool). want_kept false b code) wanted ∙ ap Char got.1

-- the bits of a word, by the cells
pub marked_bits : (holds : Want → Bool) (bits : List ℕ) (cells now : List Want) (size most word result : ℕ) → size ≤ length cells → size ≤ most → cells ≡ now → Marks holds bits cells
    → ((place : ℕ) → place < 64 → 64 * word + place < most → bit_at result place ≡ bit_of (has_bit bits (64 * word + place)))
    → (place : ℕ) → place < 64 → 64 * word + place < size → bit_at result place ≡ bit_of (holds (get_or now (64 * word + place) Keep))
marked_bits holds bits cells now size most word result long few view marked is = λ place low inside.
    is place low (omega arith) ∙ ap bit_of (marked (64 * word + place) (omega arith) Keep ∙ ap (λ (ws : List Want). holds (get_or ws (64 * word + place) Keep)) view)

pub proper_read : (cells now : List Want) (at : ℕ) (w : Want) → cells ≡ now → All IsProper cells → at < length cells → w ≡ get_or now at w → IsProper w
proper_read cells now at w view proper within is =
    subst IsProper (ap (λ (ws : List Want). get_or ws at w) view ∙ sym is) (proper at w within)

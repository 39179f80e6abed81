-- Characters that are filled from one address to another.
use Rattle.std.proofs.Common.{◌≡◌, ℕ, zero, suc, ◌+◌, ◌-◌, ◌<◌, ◌≤◌, Bool, true, false, List, [], ◌∷◌, ◌++◌, length, replicate, take, drop, get_or, refl, ap, sym, subst, arith, ◌∙◌, inl, inr, length-append, append_assoc, if◌then◌else◌}
use Rattle.std.specs.Prelude.{min}
use Rattle.std.proofs.Math.ListN.{drop_of_length-le}
use Rattle.std.proofs.lemmas.Bool.{cases_lt}
use Rattle.std.proofs.lemmas.Bool.Decides.{nat_tests}
use Rattle.std.proofs.lemmas.List.{get_or-drop, get_or-take, get_or-replicate, get_or_default, get_or_append_left, drop_more, take_at, drop_at, length-take-le, length-drop, length-replicate, take-append-drop}
use Rattle.shadow.specs.declared.cell_belief.CellBelief.{CellBelief}
use Rattle.shadow.specs.declared.cell_belief.CellBelief.TheVariants.{Attr, Known, Unplaced, Unknown}
use Rattle.shadow.specs.declared.cell_beliefs.AttributeKnowledge.{AttributeKnowledge}
use Rattle.shadow.specs.Filled.{Fill, filled, first_told, fill_next, fill_after, front_filled}
use Rattle.shadow.specs.InPlace.{is_attribute, chars_known}
use Rattle.datastream.specs.CellBits.{has_bit, is_within, kept}
use Rattle.shadow.specs.PackedBeliefs.{no_head, is_known, place_kept, place_by, MarksKnown}
use Rattle.datastream.proofs.Keeping.{kept_at, length_kept}
use Rattle.shadow.proofs.Passing.{fills}
use Rattle.shadow.proofs.Stretches.{attribute_bit, drop_drop}
use Rattle.shadow.proofs.Walks.{fill_here, fill_further, front_parts}

-- ---- places kept by bytes, part by part

kept_append : (f : ℕ → ℕ → CellBelief) (at : ℕ) (xs ys : List ℕ) → kept f at (xs ++ ys) ≡ kept f at xs ++ kept f (at + length xs) ys
kept_append f at [] ys = let same : at ≡ at + 0 = omega arith in ap (λ (n : ℕ). kept f n ys) same
kept_append f at (x ∷ xs) ys =
    let further : at + 1 + length xs ≡ at + suc (length xs) = omega arith in
    ap (λ (ps : List CellBelief). f at x ∷ ps) (kept_append f (at + 1) xs ys ∙ ap (λ (n : ℕ). kept f (at + 1) xs ++ kept f n ys) further)

kept_within : (f g : ℕ → ℕ → CellBelief) (at : ℕ) (bytes : List ℕ) → ((j byte : ℕ) → at ≤ j → j < at + length bytes → g j byte ≡ f j byte) → kept g at bytes ≡ kept f at bytes
kept_within f g at [] same = refl
kept_within f g at (b ∷ bytes) same =
    ap (λ (p : CellBelief). p ∷ kept g (at + 1) bytes) (same at b (omega arith) (omega arith))
    ∙ ap (λ (ps : List CellBelief). f at b ∷ ps) (kept_within f g (at + 1) bytes (λ j byte later before. same j byte (omega arith) (omega arith)))

-- each place is what fills it
abbrev Fills : (ℕ → ℕ → CellBelief) → Fill → ℕ → List ℕ → List CellBelief → Type 0
Fills f g at mid ps = (j : ℕ) → j < length mid → f (at + j) (get_or mid j 0) ≡ filled (fill_after j g) (get_or ps j Unknown)

fills_later : (f : ℕ → ℕ → CellBelief) (g : Fill) (at b : ℕ) (mid : List ℕ) (p : CellBelief) (ps : List CellBelief) → Fills f g at (b ∷ mid) (p ∷ ps) → Fills f (fill_next g) (at + 1) mid ps
fills_later f g at b mid p ps is = λ j low.
    let further : at + 1 + j ≡ at + suc j = omega arith in
    ap (λ (n : ℕ). f n (get_or mid j 0)) further ∙ is (suc j) (omega arith) ∙ ap (λ (h : Fill). filled h (get_or ps j Unknown)) (sym (fill_further j g))

fills_here : (f : ℕ → ℕ → CellBelief) (g : Fill) (at b : ℕ) (mid : List ℕ) (p : CellBelief) (ps : List CellBelief) → Fills f g at (b ∷ mid) (p ∷ ps) → kept f (at + 1) mid ≡ fills (fill_next g) ps → f at b ∷ kept f (at + 1) mid ≡ filled g p ∷ fills (fill_next g) ps
fills_here f g at b mid p ps is more =
    let same : at ≡ at + 0 = omega arith in
    ap (λ (q : CellBelief). q ∷ kept f (at + 1) mid) (ap (λ (n : ℕ). f n b) same ∙ is 0 (omega arith) ∙ ap (λ (h : Fill). filled h p) (sym (fill_here g))) ∙ ap (λ (qs : List CellBelief). filled g p ∷ qs) more

kept_fills : (f : ℕ → ℕ → CellBelief) (g : Fill) (at : ℕ) (mid : List ℕ) (ps : List CellBelief) → length mid ≡ length (chars_known ps) → Fills f g at mid ps → kept f at mid ≡ fills g ps
kept_fills f g at [] [] even is = refl
kept_fills f g at (b ∷ mid) [] even is = absurd (omega arith)
kept_fills f g at [] (Attr a m t ∷ ps) even is = refl
kept_fills f g at (b ∷ mid) (Attr a m t ∷ ps) even is = absurd (omega arith)
kept_fills f g at [] (Known c ∷ ps) even is = absurd (omega arith)
kept_fills f g at (b ∷ mid) (Known c ∷ ps) even is = fills_here f g at b mid (Known c) ps is (kept_fills f (fill_next g) (at + 1) mid ps (omega arith) (fills_later f g at b mid (Known c) ps is))
kept_fills f g at [] (Unplaced c ∷ ps) even is = absurd (omega arith)
kept_fills f g at (b ∷ mid) (Unplaced c ∷ ps) even is = fills_here f g at b mid (Unplaced c) ps is (kept_fills f (fill_next g) (at + 1) mid ps (omega arith) (fills_later f g at b mid (Unplaced c) ps is))
kept_fills f g at [] (Unknown ∷ ps) even is = absurd (omega arith)
kept_fills f g at (b ∷ mid) (Unknown ∷ ps) even is = fills_here f g at b mid Unknown ps is (kept_fills f (fill_next g) (at + 1) mid ps (omega arith) (fills_later f g at b mid Unknown ps is))

pub char_inside : (ps : List CellBelief) (j : ℕ) → j < length (chars_known ps) → is_attribute (get_or ps j Unknown) ≡ false
char_inside [] j low = refl
char_inside (Attr a m t ∷ ps) j low = absurd (omega arith)
char_inside (Known c ∷ ps) zero low = refl
char_inside (Known c ∷ ps) (suc j) low = char_inside ps j (omega arith)
char_inside (Unplaced c ∷ ps) zero low = refl
char_inside (Unplaced c ∷ ps) (suc j) low = char_inside ps j (omega arith)
char_inside (Unknown ∷ ps) zero low = refl
char_inside (Unknown ∷ ps) (suc j) low = char_inside ps j (omega arith)

known_kept : (h : AttributeKnowledge) (a k t : Bool) (byte : ℕ) → is_known (place_kept h a k t byte) ≡ (if a then true else k)
known_kept h true k t byte = refl
known_kept h false true t byte = refl
known_kept h false false true byte = refl
known_kept h false false false byte = refl

-- ---- a field's characters are kept anew

module _ (heads : List AttributeKnowledge) (attributes known told bytes : List ℕ) (now : List CellBelief) (view : kept (place_by heads attributes known told) 0 bytes ≡ now) (from k : ℕ)
    (count : k ≡ length (chars_known (drop from now))) (few : from + k ≤ length bytes) (known_ told_ mid bytes_ : List ℕ) (long : length mid ≡ k) (is_bytes : bytes_ ≡ take from bytes ++ (mid ++ drop (from + k) bytes))
    (known_apart : (j : ℕ) → (from ≤ j → j < from + k → ⊥) → has_bit known_ j ≡ has_bit known j) (told_apart : (j : ℕ) → (from ≤ j → j < from + k → ⊥) → has_bit told_ j ≡ has_bit told j) where
  abbrev before : ℕ → ℕ → CellBelief
  before = place_by heads attributes known told

  abbrev after : ℕ → ℕ → CellBelief
  after = place_by heads attributes known_ told_

  plain : (j : ℕ) → j < k → has_bit attributes (from + j) ≡ false
  plain j low =
      sym (attribute_bit heads attributes known told bytes now view (from + j) (omega arith)) ∙ ap is_attribute (sym (get_or-drop from now j Unknown)) ∙ char_inside (drop from now) j (omega arith)

  apart : (j byte : ℕ) → (from ≤ j → j < from + k → ⊥) → after j byte ≡ before j byte
  apart j byte away =
      ap (λ (b : Bool). place_kept (get_or heads j no_head) (has_bit attributes j) b (has_bit told_ j) byte) (known_apart j away)
      ∙ ap (λ (b : Bool). place_kept (get_or heads j no_head) (has_bit attributes j) (has_bit known j) b byte) (told_apart j away)

  now_parts : (n : ℕ) → n ≤ length bytes → now ≡ kept before 0 (take n bytes) ++ kept before n (drop n bytes)
  now_parts n low =
      let there : 0 + length (take n bytes) ≡ n = omega (arith, length-take-le n bytes low) in
      sym view ∙ ap (kept before 0) (sym (take-append-drop n bytes)) ∙ kept_append before 0 (take n bytes) (drop n bytes) ∙ ap (λ (i : ℕ). kept before 0 (take n bytes) ++ kept before i (drop n bytes)) there

  front_length : (n : ℕ) → n ≤ length bytes → length (kept before 0 (take n bytes)) ≡ n
  front_length n low = length_kept before 0 (take n bytes) ∙ length-take-le n bytes low

  taken : (n : ℕ) → n ≤ length bytes → take n now ≡ kept before 0 (take n bytes)
  taken n low = ap (take n) (now_parts n low) ∙ take_at (kept before 0 (take n bytes)) (kept before n (drop n bytes)) n (front_length n low)

  dropped : (n : ℕ) → n ≤ length bytes → drop n now ≡ kept before n (drop n bytes)
  dropped n low = ap (drop n) (now_parts n low) ∙ drop_at (kept before 0 (take n bytes)) (kept before n (drop n bytes)) n (front_length n low)

  pub range_filled : (g : Fill) → ((j : ℕ) → j < k → (h : AttributeKnowledge) → place_kept h false (has_bit known_ (from + j)) (has_bit told_ (from + j)) (get_or mid j 0) ≡ filled (fill_after j g) (get_or (drop from now) j Unknown))
      → kept (place_by heads attributes known_ told_) 0 bytes_ ≡ take from now ++ front_filled g (drop from now)
  range_filled g inside =
      let rest : List ℕ = drop (from + k) bytes in
      let start : 0 + length (take from bytes) ≡ from = omega (arith, length-take-le from bytes (omega arith)) in
      let behind : from + length mid ≡ from + k = omega arith in
      let size = length-drop (from + k) bytes in
      ap (kept after 0) is_bytes
      ∙ kept_append after 0 (take from bytes) (mid ++ rest)
      ∙ ap (λ (n : ℕ). kept after 0 (take from bytes) ++ kept after n (mid ++ rest)) start
      ∙ ap (λ (qs : List CellBelief). kept after 0 (take from bytes) ++ qs) (kept_append after from mid rest ∙ ap (λ (n : ℕ). kept after from mid ++ kept after n rest) behind)
      ∙ ap (λ (qs : List CellBelief). qs ++ (kept after from mid ++ kept after (from + k) rest))
      (kept_within before after 0 (take from bytes) (λ j byte later earlier. apart j byte (λ above below. omega arith)) ∙ sym (taken from (omega arith)))
      ∙ ap (λ (qs : List CellBelief). take from now ++ (qs ++ kept after (from + k) rest))
      (kept_fills after g from mid (drop from now) (long ∙ count)
      (λ j low. ap (λ (a : Bool). place_kept (get_or heads (from + j) no_head) a (has_bit known_ (from + j)) (has_bit told_ (from + j)) (get_or mid j 0)) (plain j (omega arith)) ∙ inside j (omega arith) (get_or heads (from + j) no_head)))
      ∙ ap (λ (qs : List CellBelief). take from now ++ (fills g (drop from now) ++ qs))
      (kept_within before after (from + k) rest (λ j byte later earlier. apart j byte (λ above below. omega arith)) ∙ sym (dropped (from + k) few) ∙ sym (drop_drop from k now) ∙ ap (λ (n : ℕ). drop n (drop from now)) count)
      ∙ ap (λ (qs : List CellBelief). take from now ++ qs) (sym (front_parts g (drop from now)))

  pub range_size : length bytes_ ≡ length bytes
  range_size =
      ap length is_bytes
      ∙ omega (arith, length-append (take from bytes) (mid ++ drop (from + k) bytes), length-append mid (drop (from + k) bytes), length-take-le from bytes (omega arith), length-drop (from + k) bytes)

  pub range_marked : MarksKnown known (kept (place_by heads attributes known told) 0 bytes) → MarksKnown known_ (kept (place_by heads attributes known_ told_) 0 bytes_)
  range_marked marked = λ cell inside.
      let low : cell < length bytes = subst (λ (n : ℕ). cell < n) (length_kept after 0 bytes_ ∙ range_size) inside in
      let byte : ℕ = get_or bytes cell 0 in
      let byte_ : ℕ = get_or bytes_ cell 0 in
      let was : has_bit known cell ≡ (if has_bit attributes cell then true else has_bit known cell) =
      marked cell (subst (λ (n : ℕ). cell < n) (sym (length_kept before 0 bytes)) low)
      ∙ ap is_known (kept_at before bytes cell byte Unknown low (get_or_default bytes cell 0 byte low))
      ∙ known_kept (get_or heads cell no_head) (has_bit attributes cell) (has_bit known cell) (has_bit told cell) byte in
      let there : cell < length bytes_ = subst (λ (n : ℕ). cell < n) (sym range_size) low in
      by_place cell was
      ∙ sym (ap is_known (kept_at after bytes_ cell byte_ Unknown there (get_or_default bytes_ cell 0 byte_ there))
      ∙ known_kept (get_or heads cell no_head) (has_bit attributes cell) (has_bit known_ cell) (has_bit told_ cell) byte_)
    where
      away : (cell : ℕ) → (from ≤ cell → cell < from + k → ⊥) → has_bit known cell ≡ (if has_bit attributes cell then true else has_bit known cell) → has_bit known_ cell ≡ (if has_bit attributes cell then true else has_bit known_ cell)
      away cell no_more was = subst (λ (b : Bool). b ≡ (if has_bit attributes cell then true else b)) (sym (known_apart cell no_more)) was

      by_place : (cell : ℕ) → has_bit known cell ≡ (if has_bit attributes cell then true else has_bit known cell) → has_bit known_ cell ≡ (if has_bit attributes cell then true else has_bit known_ cell)
      by_place cell was = elim (cases_lt cell from) [
        | inl less ↦ away cell (λ above below. omega arith) was
        | inr more ↦ elim (cases_lt cell (from + k)) [
          | inl less ↦
              let there : from + (cell - from) ≡ cell = omega arith in
              sym (ap (λ (a : Bool). if a then true else has_bit known_ cell) (ap (has_bit attributes) (sym there) ∙ plain (cell - from) (omega arith)))
          | inr beyond ↦ away cell (λ above below. omega arith) was
        ]
      ]

-- ---- the bits of a range

pub is_inside : (from to other : ℕ) → from ≤ other → other < to → is_within from to other ≡ true
is_inside from to other above below = grind (arith, nat_tests)

pub is_outside : (from to other : ℕ) → (from ≤ other → other < to → ⊥) → is_within from to other ≡ false
is_outside from to other apart = grind (arith, nat_tests)

pub bit_inside : (from to other : ℕ) (bit now old : Bool) → now ≡ (if is_within from to other then bit else old) → from ≤ other → other < to → now ≡ bit
bit_inside from to other bit now old is above below = is ∙ ap (λ (t : Bool). if t then bit else old) (is_inside from to other above below)

pub bit_outside : (from to other : ℕ) (bit now old : Bool) → now ≡ (if is_within from to other then bit else old) → (from ≤ other → other < to → ⊥) → now ≡ old
bit_outside from to other bit now old is apart = is ∙ ap (λ (t : Bool). if t then bit else old) (is_outside from to other apart)

-- ---- what a place's bits say

pub says_unknown : (h : AttributeKnowledge) (k t : Bool) (byte : ℕ) → k ≡ false → t ≡ false → place_kept h false k t byte ≡ Unknown
says_unknown h k t byte is_k is_t = ap (λ (b : Bool). place_kept h false b t byte) is_k ∙ ap (λ (b : Bool). place_kept h false false b byte) is_t

pub says_known : (h : AttributeKnowledge) (k t : Bool) (byte char : ℕ) → k ≡ true → byte ≡ char → place_kept h false k t byte ≡ Known char
says_known h k t byte char is_k is = ap (λ (b : Bool). place_kept h false b t byte) is_k ∙ ap Known is

pub says_told : (h : AttributeKnowledge) (k t : Bool) (byte char : ℕ) → k ≡ false → t ≡ true → byte ≡ char → place_kept h false k t byte ≡ Unplaced char
says_told h k t byte char is_k is_t is = ap (λ (b : Bool). place_kept h false b t byte) is_k ∙ ap (λ (b : Bool). place_kept h false false b byte) is_t ∙ ap Unplaced is

pub told_here : (text : List ℕ) (j : ℕ) → j < length text → first_told (drop j text) ≡ Unplaced (get_or text j 0)
told_here text j low = ap first_told (drop_more text j 0 low)

pub told_no_more : (text : List ℕ) (j : ℕ) → length text ≤ j → first_told (drop j text) ≡ Unknown
told_no_more text j over = ap first_told (drop_of_length-le text over)

-- a range of bytes that stays
pub bytes_stay : (bytes : List ℕ) (from k : ℕ) → bytes ≡ take from bytes ++ (take k (drop from bytes) ++ drop (from + k) bytes)
bytes_stay bytes from k =
    sym (take-append-drop from bytes) ∙ ap (λ (bs : List ℕ). take from bytes ++ bs) (sym (take-append-drop k (drop from bytes)) ∙ ap (λ (bs : List ℕ). take k (drop from bytes) ++ bs) (drop_drop from k bytes))

-- ---- what a call makes of a field's characters

module _ (heads : List AttributeKnowledge) (attributes known told bytes : List ℕ) (now : List CellBelief) (view : kept (place_by heads attributes known told) 0 bytes ≡ now) (from to : ℕ)
    (chars : to ≡ from + length (chars_known (drop from now))) (few : to ≤ length bytes) (marked : MarksKnown known (kept (place_by heads attributes known told) 0 bytes)) (known_ : List ℕ) where
  -- what is kept now
  abbrev pub Keeps : List ℕ → List ℕ → Fill → Type 0
  Keeps told_ bytes_ g =
      (kept (place_by heads attributes known_ told_) 0 bytes_ ≡ take from now ++ front_filled g (drop from now)) × (length bytes_ ≡ length bytes) × MarksKnown known_ (kept (place_by heads attributes known_ told_) 0 bytes_)

  keeps : (told_ mid bytes_ : List ℕ) (g : Fill) → length mid ≡ to - from → bytes_ ≡ take from bytes ++ (mid ++ drop (from + (to - from)) bytes)
      → ((j : ℕ) → (from ≤ j → j < to → ⊥) → has_bit known_ j ≡ has_bit known j) → ((j : ℕ) → (from ≤ j → j < to → ⊥) → has_bit told_ j ≡ has_bit told j)
      → ((j : ℕ) → j < to - from → (h : AttributeKnowledge) → place_kept h false (has_bit known_ (from + j)) (has_bit told_ (from + j)) (get_or mid j 0) ≡ filled (fill_after j g) (get_or (drop from now) j Unknown))
      → Keeps told_ bytes_ g
  keeps told_ mid bytes_ g long is_bytes known_apart told_apart inside =
      let k : ℕ = to - from in
      let count : k ≡ length (chars_known (drop from now)) = omega arith in
      let within : from + k ≤ length bytes = omega arith in
      let known_away : (j : ℕ) → (from ≤ j → j < from + k → ⊥) → has_bit known_ j ≡ has_bit known j = λ j away. known_apart j (λ above below. away above (omega arith)) in
      let told_away : (j : ℕ) → (from ≤ j → j < from + k → ⊥) → has_bit told_ j ≡ has_bit told j = λ j away. told_apart j (λ above below. away above (omega arith)) in (
        range_filled heads attributes known told bytes now view from k count within known_ told_ mid bytes_ long is_bytes known_away told_away g inside,
        range_size heads attributes known told bytes now view from k count within known_ told_ mid bytes_ long is_bytes known_away told_away,
        range_marked heads attributes known told bytes now view from k count within known_ told_ mid bytes_ long is_bytes known_away told_away marked,
      )

  pub forgotten : (told_ : List ℕ) → ((j : ℕ) → has_bit known_ j ≡ (if is_within from to j then false else has_bit known j)) → ((j : ℕ) → has_bit told_ j ≡ (if is_within from to j then false else has_bit told j))
      → Keeps told_ bytes Fill.Unknown
  forgotten told_ known_bits told_bits =
      let k : ℕ = to - from in
      let mid : List ℕ = take k (drop from bytes) in
      keeps told_ mid bytes Fill.Unknown (length-take-le k (drop from bytes) (omega (arith, length-drop from bytes))) (bytes_stay bytes from k)
      (λ j apart. bit_outside from to j false (has_bit known_ j) (has_bit known j) (known_bits j) apart)
      (λ j apart. bit_outside from to j false (has_bit told_ j) (has_bit told j) (told_bits j) apart)
      (λ j low h. says_unknown h (has_bit known_ (from + j)) (has_bit told_ (from + j)) (get_or mid j 0)
      (bit_inside from to (from + j) false (has_bit known_ (from + j)) (has_bit known (from + j)) (known_bits (from + j)) (omega arith) (omega arith))
      (bit_inside from to (from + j) false (has_bit told_ (from + j)) (has_bit told (from + j)) (told_bits (from + j)) (omega arith) (omega arith)))

  pub nulled : (bytes_ : List ℕ) → bytes_ ≡ take from bytes ++ (replicate (to - from) 0 ++ drop to bytes) → ((j : ℕ) → has_bit known_ j ≡ (if is_within from to j then true else has_bit known j))
      → Keeps told bytes_ Fill.Null
  nulled bytes_ is known_bits =
      let k : ℕ = to - from in
      let there : to ≡ from + k = omega arith in
      keeps told (replicate k 0) bytes_ Fill.Null (length-replicate k 0) (is ∙ ap (λ (n : ℕ). take from bytes ++ (replicate k 0 ++ drop n bytes)) there)
      (λ j apart. bit_outside from to j true (has_bit known_ j) (has_bit known j) (known_bits j) apart)
      (λ j apart. refl)
      (λ j low h. says_known h (has_bit known_ (from + j)) (has_bit told (from + j)) (get_or (replicate k 0) j 0) 0
      (bit_inside from to (from + j) true (has_bit known_ (from + j)) (has_bit known (from + j)) (known_bits (from + j)) (omega arith) (omega arith))
      (get_or-replicate k j 0 0 low))

  pub tells : (told_ told__ bytes_ text : List ℕ) (n : ℕ) → n ≡ min (length text) (to - from) → bytes_ ≡ take from bytes ++ (take n text ++ drop (from + length (take n text)) bytes)
      → ((j : ℕ) → has_bit known_ j ≡ (if is_within from to j then false else has_bit known j)) → ((j : ℕ) → has_bit told_ j ≡ (if is_within from to j then true else has_bit told j))
      → ((j : ℕ) → has_bit told__ j ≡ (if is_within (from + n) to j then false else has_bit told_ j)) → Keeps told__ bytes_ (Fill.Chars text)
  tells told_ told__ bytes_ text n is_n is known_bits first_bits last_bits =
      let k : ℕ = to - from in
      let size = length-take-le n text (omega arith) in
      let back : List ℕ = take (k - n) (drop (from + n) bytes) in
      let behind : from + length (take n text) ≡ from + n = omega arith in
      let over : from + n + (k - n) ≡ from + k = omega arith in
      let rest : drop (from + n) bytes ≡ back ++ drop (from + k) bytes =
      sym (take-append-drop (k - n) (drop (from + n) bytes)) ∙ ap (λ (bs : List ℕ). back ++ bs) (drop_drop (from + n) (k - n) bytes ∙ ap (λ (i : ℕ). drop i bytes) over) in
      keeps told__ (take n text ++ back) bytes_ (Fill.Chars text)
      (omega (arith, length-append (take n text) back, length-take-le (k - n) (drop (from + n) bytes) (omega (arith, length-drop (from + n) bytes))))
      (is ∙ ap (λ (i : ℕ). take from bytes ++ (take n text ++ drop i bytes)) behind ∙ ap (λ (bs : List ℕ). take from bytes ++ (take n text ++ bs)) rest
      ∙ ap (λ (bs : List ℕ). take from bytes ++ bs) (sym (append_assoc (take n text) back (drop (from + k) bytes))))
      (λ j apart. bit_outside from to j false (has_bit known_ j) (has_bit known j) (known_bits j) apart)
      (λ j apart. bit_outside (from + n) to j false (has_bit told__ j) (has_bit told_ j) (last_bits j) (λ above below. apart (omega arith) below)
      ∙ bit_outside from to j true (has_bit told_ j) (has_bit told j) (first_bits j) apart)
      (λ j low h. elim (cases_lt j n) [
        | inl less ↦ says_told h (has_bit known_ (from + j)) (has_bit told__ (from + j)) (get_or (take n text ++ back) j 0) (get_or text j 0)
            (bit_inside from to (from + j) false (has_bit known_ (from + j)) (has_bit known (from + j)) (known_bits (from + j)) (omega arith) (omega arith))
            (bit_outside (from + n) to (from + j) false (has_bit told__ (from + j)) (has_bit told_ (from + j)) (last_bits (from + j)) (λ above below. omega arith)
            ∙ bit_inside from to (from + j) true (has_bit told_ (from + j)) (has_bit told (from + j)) (first_bits (from + j)) (omega arith) (omega arith))
            (get_or_append_left (take n text) back 0 j (omega arith) ∙ get_or-take n text j 0 less)
            ∙ sym (told_here text j (omega arith))
        | inr more ↦ says_unknown h (has_bit known_ (from + j)) (has_bit told__ (from + j)) (get_or (take n text ++ back) j 0)
            (bit_inside from to (from + j) false (has_bit known_ (from + j)) (has_bit known (from + j)) (known_bits (from + j)) (omega arith) (omega arith))
            (bit_inside (from + n) to (from + j) false (has_bit told__ (from + j)) (has_bit told_ (from + j)) (last_bits (from + j)) (omega arith) (omega arith))
            ∙ sym (told_no_more text j (omega arith))
      ])

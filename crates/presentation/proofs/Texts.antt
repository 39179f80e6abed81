-- The characters before the first attribute of a list of cells.
use Rattle.std.proofs.Common.{◌≡◌, ℕ, ◌+◌, ◌<◌, ◌==◌, not, Bool, true, false, cond, List, [], ◌∷◌, ◌++◌, length, get_or, take, drop, arith, sym, ◌∙◌, ap, refl, suc, zero, ◌≤◌, length-append, length-drop, length-take-le}
use Rattle.std.specs.List.{list_all, flat_map, prefix_len}
use Rattle.std.proofs.lemmas.List.{drop_more, append-nil}
use Rattle.codes3270.specs.declared.attribute.Cell.{Cell}
use Rattle.codes3270.specs.declared.attribute.Cell.TheVariants.{Char, Attr}
use Rattle.datastream.specs.Screen.{text_before_attribute, is_char, is_char_at, ring, field_text, places_from}
use Rattle.datastream.specs.Inbound.{without_nulls}

-- the bytes before the first null, and those behind it
pub nulls_split : (bytes : List ℕ) → (let k = prefix_len (λ (byte : ℕ). not (byte == 0)) bytes in without_nulls bytes ≡ take k bytes ++ without_nulls (drop 1 (drop k bytes)))
nulls_split [] = refl
nulls_split (byte ∷ bytes) = by_test (byte == 0) (nulls_split bytes)
  where
    by_test : (null : Bool) → (let k = prefix_len (λ (b : ℕ). not (b == 0)) bytes in without_nulls bytes ≡ take k bytes ++ without_nulls (drop 1 (drop k bytes)))
        → (let k = cond (not null) (1 + prefix_len (λ (b : ℕ). not (b == 0)) bytes) 0 in
        cond (not null) (byte ∷ without_nulls bytes) (without_nulls bytes) ≡ take k (byte ∷ bytes) ++ without_nulls (drop 1 (drop k (byte ∷ bytes))))
    by_test true more = refl
    by_test false more =
        let k : ℕ = prefix_len (λ (b : ℕ). not (b == 0)) bytes in
        let next : 1 + k ≡ suc k = omega arith in
        ap (λ (text : List ℕ). byte ∷ text) more ∙ sym (ap (λ (n : ℕ). take n (byte ∷ bytes) ++ without_nulls (drop 1 (drop n (byte ∷ bytes)))) next)

pub nulls_split_at : (bytes front behind : List ℕ) (count : ℕ) → count ≡ prefix_len (λ (byte : ℕ). not (byte == 0)) bytes → front ≡ take count bytes → behind ≡ drop count bytes
    → without_nulls bytes ≡ front ++ without_nulls (drop 1 behind)
nulls_split_at bytes front behind count is at_front at_back =
    nulls_split bytes
    ∙ ap (λ (n : ℕ). take n bytes ++ without_nulls (drop 1 (drop n bytes))) (sym is)
    ∙ ap (λ (text : List ℕ). text ++ without_nulls (drop 1 (drop count bytes))) (sym at_front)
    ∙ ap (λ (rest : List ℕ). front ++ without_nulls (drop 1 rest)) (sym at_back)

cons-cond : (test : Bool) (byte : ℕ) (p q : List ℕ) → byte ∷ cond test p q ≡ cond test (byte ∷ p) (byte ∷ q)
cons-cond true byte p q = refl
cons-cond false byte p q = refl

-- two lists of cells, one behind the other
pub text_before_attribute-append : (xs ys : List Cell) → text_before_attribute (xs ++ ys) ≡ cond (list_all is_char xs) (text_before_attribute xs ++ text_before_attribute ys) (text_before_attribute xs)
text_before_attribute-append [] ys = refl
text_before_attribute-append (Char byte ∷ xs) ys =
    ap (λ (text : List ℕ). byte ∷ text) (text_before_attribute-append xs ys)
    ∙ cons-cond (list_all is_char xs) byte (text_before_attribute xs ++ text_before_attribute ys) (text_before_attribute xs)
text_before_attribute-append (Attr attribute ∷ xs) ys = refl

-- an attribute ends the text before it
text_stops : (cells : List Cell) (at : ℕ) → at < length cells → is_char_at cells at ≡ false → text_before_attribute (take (suc at) cells) ≡ text_before_attribute cells
text_stops [] at below stands = absurd (omega arith)
text_stops (Attr attribute ∷ cells) zero below stands = refl
text_stops (Attr attribute ∷ cells) (suc at) below stands = refl
text_stops (Char byte ∷ cells) zero below stands = cc
text_stops (Char byte ∷ cells) (suc at) below stands = ap (λ (text : List ℕ). byte ∷ text) (text_stops cells at (omega arith) stands)

-- a walk from an attribute on, round the end, finds its field's text
pub text_ahead : (cells : List Cell) (at : ℕ) → at < length cells → is_char_at cells at ≡ false → text_before_attribute (drop (at + 1) cells ++ cells) ≡ field_text cells at
text_ahead cells at below stands =
    let back : List Cell = drop (at + 1) cells in
    let behind : at + 1 ≡ suc at = omega arith in
    let stops : text_before_attribute (take (at + 1) cells) ≡ text_before_attribute cells = ap (λ (n : ℕ). text_before_attribute (take n cells)) behind ∙ text_stops cells at below stands in
    text_before_attribute-append back cells
    ∙ ap (λ (text : List ℕ). cond (list_all is_char back) (text_before_attribute back ++ text) (text_before_attribute back)) (sym stops)
    ∙ sym (text_before_attribute-append back (take (at + 1) cells))

-- the entries of one place, and of those behind it
pub places_from_more : {A : Type 0} (entry : ℕ → List A) (passes : Cell → Bool) (cells : List Cell) (place : ℕ) (d : Cell) → place < length cells → flat_map entry (places_from passes place (drop place cells)) ≡ flat_map entry (places_from passes place (take 1 (drop place cells))) ++ flat_map entry (places_from passes (place + 1) (drop (place + 1) cells))
places_from_more {A = A} entry passes cells place d below =
    rw (drop_more cells place d below)
    (at_cell (passes (get_or cells place d)))
  where
    at_cell : (test : Bool) → flat_map entry (cond test (place ∷ places_from passes (place + 1) (drop (place + 1) cells)) (places_from passes (place + 1) (drop (place + 1) cells))) ≡ flat_map entry (cond test (place ∷ []) []) ++ flat_map entry (places_from passes (place + 1) (drop (place + 1) cells))
    at_cell true = ap (λ (front : List A). front ++ flat_map entry (places_from passes (place + 1) (drop (place + 1) cells))) (sym (append-nil (entry place)))
    at_cell false = refl

pub length-text_before_attribute : (cells : List Cell) → length (text_before_attribute cells) ≡ prefix_len is_char cells
length-text_before_attribute [] = refl
length-text_before_attribute (Char byte ∷ cells) = omega (arith, length-text_before_attribute cells)
length-text_before_attribute (Attr attribute ∷ cells) = refl

-- a text ends at the first cell that holds an attribute
pub text_ends_at : (cells : List Cell) (i : ℕ) → i ≤ length cells → ((j : ℕ) → j < i → is_char_at cells j ≡ true) → (i < length cells → is_char_at cells i ≡ false) → length (text_before_attribute cells) ≡ i
text_ends_at [] zero b each last = refl
text_ends_at [] (suc i) b each last = absurd (omega arith)
text_ends_at (Char byte ∷ cells) zero b each last = let wrong : true ≡ false = last (omega arith) in cc
text_ends_at (Char byte ∷ cells) (suc i) b each last =
    ap (λ n. suc n) (text_ends_at cells i (omega arith) (λ j lower. each (suc j) (omega arith)) (λ lower. last (omega arith)))
text_ends_at (Attr attribute ∷ cells) zero b each last = refl
text_ends_at (Attr attribute ∷ cells) (suc i) b each last = let wrong : false ≡ true = each 0 (omega arith) in cc

pub length-ring : (cells : List Cell) (from : ℕ) → from ≤ length cells → length (ring from cells) ≡ length cells
length-ring cells from below = omega (arith, length-append (drop from cells) (take from cells), length-drop from cells, length-take-le from cells below)

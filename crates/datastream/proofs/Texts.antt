-- A field's text by places, and what depends on attributes alone.
use Rattle.std.proofs.Common.{◌≡◌, ℕ, ◌+◌, ◌-◌, ◌%◌, ◌<◌, ◌≤◌, List, [], ◌∷◌, length, get_or, take, drop, map, arith, ◌∙◌, refl, inl, inr, suc, zero, length-drop}
use Rattle.std.specs.List.{All}
use Rattle.std.proofs.Math.Nat.{mod-eq_of_lt}
use Rattle.std.proofs.lemmas.List.{get_or_append_left, get_or-append_right, get_or-drop, get_or-take}
use Rattle.std.proofs.lemmas.List.Elements.{All-append, All-take, All-drop}
use Rattle.std.proofs.lemmas.Bool.{cases_lt}
use Rattle.codes3270.specs.declared.attribute.Cell.{Cell}
use Rattle.codes3270.specs.declared.attribute.Cell.TheVariants.{Char, Attr}
use Rattle.datastream.specs.Screen.{attribute_in, last_attribute, ring, text_before_attribute}
use Rattle.datastream.proofs.Rounds.{round_once}

-- the cell i places on
pub get_or-ring : (cells : List Cell) (from i : ℕ) (d : Cell) → from ≤ length cells → i < length cells → get_or (ring from cells) i d ≡ get_or cells ((from + i) % length cells) d
get_or-ring cells from i d f below =
    let back : length (drop from cells) ≡ length cells - from = length-drop from cells in
    elim (cases_lt (from + i) (length cells)) [
      | inl inner ↦
          rw (mod-eq_of_lt inner)
          (get_or_append_left (drop from cells) (take from cells) d i (omega arith) ∙ get_or-drop from cells i d)
      | inr round ↦
          let there : (from + i) % length cells ≡ i - (length cells - from) = round_once (from + i) (length cells) round (omega arith) ∙ omega arith in
          rw there
          (get_or-append_right (drop from cells) (take from cells) (length cells - from) i d back (omega arith)
          ∙ get_or-take from cells (i - (length cells - from)) d (omega arith))
    ]

-- what holds of all cells does so from any address on
pub All-ring : (P : Cell → Type 0) (from : ℕ) (cells : List Cell) → All P cells → All P (ring from cells)
All-ring P from cells each = All-append P (drop from cells) (take from cells) (All-drop P from cells each) (All-take P from cells each)

-- character i of a text is what its cell holds
pub get_or-text : (cells : List Cell) (i : ℕ) (d : Cell) → i < length (text_before_attribute cells) → get_or cells i d ≡ Char (get_or (text_before_attribute cells) i 0)
get_or-text [] i d below = absurd (omega arith)
get_or-text (Char byte ∷ cells) zero d below = refl
get_or-text (Char byte ∷ cells) (suc i) d below = get_or-text cells i d (omega arith)
get_or-text (Attr attribute ∷ cells) i d below = absurd (omega arith)

-- the attributes alone say which one is the last
pub last_attribute-same : (xs ys : List Cell) → map attribute_in xs ≡ map attribute_in ys → last_attribute xs ≡ last_attribute ys
last_attribute-same [] [] same = refl
last_attribute-same [] (y ∷ ys) same = cc
last_attribute-same (x ∷ xs) [] same = cc
last_attribute-same (x ∷ xs) (y ∷ ys) same =
    let here : attribute_in x ≡ attribute_in y = cc in
    let others : map attribute_in xs ≡ map attribute_in ys = cc in
    rw (here, last_attribute-same xs ys others)

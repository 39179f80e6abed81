-- The text of a field is shorter than the screen, since the field's attribute takes a cell.
use Rattle.std.proofs.Common.{◌≡◌, ℕ, ◌+◌, ◌<◌, ◌≤◌, Bool, true, false, List, [], ◌∷◌, ◌++◌, length, drop, take, get_or, Option, Some, None, refl, ap, sym, subst, arith, ◌∙◌, append_assoc, length-append}
use Rattle.std.specs.Prelude.{slice_get, IfSome}
use Rattle.std.proofs.lemmas.List.{drop_more, length-drop, length-take, take-append-drop}
use Rattle.std.proofs.lemmas.Option.{slice_get_within}
use Rattle.codes3270.specs.declared.attribute.Attr.{Attr as Attribute}
use Rattle.shadow.specs.declared.mdt_state.MdtState.{MdtState}
use Rattle.shadow.specs.declared.cell_belief.TextKnowledge.{TextKnowledge}
use Rattle.shadow.specs.declared.cell_belief.TextKnowledge.TheVariants.{Cells, ExactOrNulls, Text, TextOrNulls}
use Rattle.shadow.specs.declared.cell_belief.CellBelief.{CellBelief}
use Rattle.shadow.specs.declared.cell_belief.CellBelief.TheVariants.{Attr, Known, Unplaced, Unknown}
use Rattle.shadow.specs.Queries.{value_of}
use Rattle.shadow.specs.Belief.{Fact}
use Rattle.shadow.specs.InPlace.{chars_known, fact_held, is_whole, known_text, text_told}
use Rattle.shadow.proofs.Placed.{exact_held, any_held}

length_known_text : (ks : List (Option ℕ)) → length (known_text ks) ≤ length ks
length_known_text [] = omega arith
length_known_text (None ∷ ks) = omega arith
length_known_text (Some c ∷ ks) = let rest = length_known_text ks in omega arith

-- ---- what is told before an attribute

chars_before : (xs ys : List CellBelief) (a : Attribute) (m : MdtState) (t : TextKnowledge) → length (chars_known (xs ++ Attr a m t ∷ ys)) ≤ length xs
chars_before [] ys a m t = omega arith
chars_before (Attr b n u ∷ xs) ys a m t = omega arith
chars_before (Known c ∷ xs) ys a m t = let rest = chars_before xs ys a m t in omega arith
chars_before (Unplaced c ∷ xs) ys a m t = let rest = chars_before xs ys a m t in omega arith
chars_before (Unknown ∷ xs) ys a m t = let rest = chars_before xs ys a m t in omega arith

told_before : (xs ys : List CellBelief) (a : Attribute) (m : MdtState) (t : TextKnowledge) → length (text_told (xs ++ Attr a m t ∷ ys)) ≤ length xs
told_before [] ys a m t = omega arith
told_before (Attr b n u ∷ xs) ys a m t = omega arith
told_before (Known c ∷ xs) ys a m t = omega arith
told_before (Unplaced c ∷ xs) ys a m t = let rest = told_before xs ys a m t in omega arith
told_before (Unknown ∷ xs) ys a m t = omega arith

cells_within : (whole : Bool) (ahead : List CellBelief) (n : ℕ) → is_whole (chars_known ahead) ≡ whole → length (chars_known ahead) ≤ n → length (value_of (fact_held Cells ahead)) ≤ n
cells_within true ahead n is few =
    let text = length_known_text (chars_known ahead) in
    subst (λ (fact : Fact). length (value_of fact) ≤ n) (sym (exact_held ahead is)) (omega arith)
cells_within false ahead n is few = subst (λ (fact : Fact). length (value_of fact) ≤ n) (sym (any_held ahead is)) (omega arith)

fact_within : (t : TextKnowledge) (ahead : List CellBelief) (n : ℕ) → length (chars_known ahead) ≤ n → length (text_told ahead) ≤ n → length (value_of (fact_held t ahead)) ≤ n
fact_within Cells ahead n known told = cells_within (is_whole (chars_known ahead)) ahead n refl known
fact_within ExactOrNulls ahead n known told = told
fact_within Text ahead n known told = told
fact_within TextOrNulls ahead n known told = told

-- ---- round the end

ring_at : (whole : List CellBelief) (p : ℕ) (x : CellBelief) → p < length whole → x ≡ get_or whole p x
    → drop (p + 1) whole ++ whole ≡ (drop (p + 1) whole ++ take p whole) ++ x ∷ drop (p + 1) whole
ring_at whole p x within is =
    ap (λ (cells : List CellBelief). drop (p + 1) whole ++ cells)
    (sym (take-append-drop p whole) ∙ ap (λ (cells : List CellBelief). take p whole ++ cells) (drop_more whole p x within ∙ ap (λ (cell : CellBelief). cell ∷ drop (p + 1) whole) (sym is)))
    ∙ sym (append_assoc (drop (p + 1) whole) (take p whole) (x ∷ drop (p + 1) whole))

ring_length : (whole : List CellBelief) (p : ℕ) → p < length whole → length (drop (p + 1) whole ++ take p whole) < length whole
ring_length whole p within =
    let both = length-append (drop (p + 1) whole) (take p whole) in
    let behind = length-drop (p + 1) whole in
    let before = length-take p whole in
    omega arith

pub value_within : (whole : List CellBelief) (p : ℕ) (a : Attribute) (m : MdtState) (t : TextKnowledge) → p < length whole → Attr a m t ≡ get_or whole p (Attr a m t)
    → length (value_of (fact_held t (drop (p + 1) whole ++ whole))) < length whole
value_within whole p a m t within is =
    let round = drop (p + 1) whole ++ take p whole in
    let behind = drop (p + 1) whole in
    let short : length round < length whole = ring_length whole p within in
    let few : length (value_of (fact_held t (round ++ Attr a m t ∷ behind))) ≤ length round =
    fact_within t (round ++ Attr a m t ∷ behind) (length round) (chars_before round behind a m t) (told_before round behind a m t) in
    subst (λ (ahead : List CellBelief). length (value_of (fact_held t ahead)) < length whole) (sym (ring_at whole p (Attr a m t) within is)) (omega arith)

-- an index at which there is a character
index_within : (whole : List CellBelief) (p : ℕ) (a : Attribute) (m : MdtState) (t : TextKnowledge) (index char : ℕ) → p < length whole → Attr a m t ≡ get_or whole p (Attr a m t)
    → slice_get (value_of (fact_held t (drop (p + 1) whole ++ whole))) index ≡ Some char → index < length whole
index_within whole p a m t index char within is there =
    let few = value_within whole p a m t within is in
    let index_few = slice_get_within (value_of (fact_held t (drop (p + 1) whole ++ whole))) index char there in
    omega arith

pub few_within : (whole : List CellBelief) (p : ℕ) (a : Attribute) (m : MdtState) (t : TextKnowledge) (index size : ℕ) (found : Option ℕ) → p < length whole → Attr a m t ≡ get_or whole p (Attr a m t)
    → length whole ≤ size → found ≡ slice_get (value_of (fact_held t (drop (p + 1) whole ++ whole))) index → IfSome found (λ char. index < size)
few_within whole p a m t index size None within is sized found = tt
few_within whole p a m t index size (Some char) within is sized found =
    omega (arith, sized, index_within whole p a m t index char within is (sym found))

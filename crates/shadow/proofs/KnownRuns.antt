-- Characters that are known, and those that were read, compared in one step.
use Rattle.std.proofs.Common.{◌≡◌, ℕ, suc, ◌+◌, ◌-◌, ◌*◌, ◌/◌, ◌%◌, ◌^◌, ◌<◌, ◌≤◌, Bool, true, false, List, [], ◌∷◌, ◌++◌, length, map, get_or, Option, Some, None, refl, ap, sym, subst, arith, ◌∙◌, eq-eqb}
use Rattle.std.specs.Prelude.{MatchOption, is_some}
use Rattle.std.specs.Int.{bit_at, bit_not, w64}
use Rattle.codes3270.specs.declared.attribute.Cell.{Cell}
use Rattle.codes3270.specs.declared.attribute.Cell.TheVariants.{Char, Attr as AttrCell}
use Rattle.datastream.specs.CellBits.{AreBits}
use Rattle.datastream.specs.Screen.{text_before_attribute}
use Rattle.shadow.specs.declared.cell_belief.CellBelief.{CellBelief}
use Rattle.shadow.specs.declared.cell_belief.CellBelief.TheVariants.{Attr, Known, Unplaced, Unknown}
use Rattle.shadow.specs.InPlace.{chars_known, known_text}
use Rattle.shadow.specs.AfterReadBuffer.{differs}
use Rattle.shadow.specs.Since.{beliefs_of_cells}
use Rattle.shadow.proofs.Looking.{not_clear, bit_true}
use Rattle.shadow.proofs.Reading.{read_text}

-- the bits of a word that are set from a place on
pub words_set : (has : ℕ → Bool) (size word at to count : ℕ) → word < 2 ^ 64 → AreBits size has (at / 64) word → ((other : ℕ) → at % 64 ≤ other → other < at % 64 + count → bit_at (bit_not w64 word) other ≡ 0) → at % 64 + count ≤ 64 → to ≤ size
    → (cell : ℕ) → at ≤ cell → cell < at + count → cell < to → has cell ≡ true
words_set has size word at to count fits bits clear within few cell above below inside =
    let place : ℕ = cell - 64 * (at / 64) in
    let there : 64 * (at / 64) + place ≡ cell = omega arith in
    ap has (sym there) ∙ bit_true (has (64 * (at / 64) + place)) (bit_at word place) (bits place (omega arith) (omega arith)) (not_clear word place fits (omega arith) (clear place (omega arith) (omega arith)))

abbrev char_of : CellBelief → ℕ
char_of (Attr a m t) = 0
char_of (Known c) = c
char_of (Unplaced c) = 0
char_of Unknown = 0

pub known_run : (ps : List CellBelief) (text : List ℕ) → length (chars_known ps) ≡ length text → ((j : ℕ) → j < length text → get_or ps j Unknown ≡ Known (get_or text j 0)) → chars_known ps ≡ map Some text
known_run [] [] even each = refl
known_run [] (c ∷ text) even each = absurd (omega arith)
known_run (Attr a m t ∷ ps) [] even each = refl
known_run (Attr a m t ∷ ps) (c ∷ text) even each = absurd (omega arith)
known_run (Known b ∷ ps) [] even each = absurd (omega arith)
known_run (Unplaced b ∷ ps) [] even each = absurd (omega arith)
known_run (Unknown ∷ ps) [] even each = absurd (omega arith)
known_run (Known b ∷ ps) (c ∷ text) even each =
    ap (λ (ks : List (Option ℕ)). Some b ∷ ks) (known_run ps text (omega arith) (λ j low. each (suc j) (omega arith)))
    ∙ ap (λ (d : ℕ). Some d ∷ map Some text) (ap char_of (each 0 (omega arith)))
known_run (Unplaced b ∷ ps) (c ∷ text) even each = absurd (let no = each 0 (omega arith) in cc)
known_run (Unknown ∷ ps) (c ∷ text) even each = absurd (let no = each 0 (omega arith) in cc)

-- an attribute ends them
chars_inner : (xs ys : List CellBelief) → length (chars_known xs) < length xs → chars_known (xs ++ ys) ≡ chars_known xs
chars_inner [] ys low = absurd (omega arith)
chars_inner (Attr a m t ∷ xs) ys low = refl
chars_inner (Known c ∷ xs) ys low = ap (λ (ks : List (Option ℕ)). Some c ∷ ks) (chars_inner xs ys (omega arith))
chars_inner (Unplaced c ∷ xs) ys low = ap (λ (ks : List (Option ℕ)). None ∷ ks) (chars_inner xs ys (omega arith))
chars_inner (Unknown ∷ xs) ys low = ap (λ (ks : List (Option ℕ)). None ∷ ks) (chars_inner xs ys (omega arith))

text_inner : (xs ys : List Cell) → length (text_before_attribute xs) < length xs → text_before_attribute (xs ++ ys) ≡ text_before_attribute xs
text_inner [] ys low = absurd (omega arith)
text_inner (AttrCell a ∷ xs) ys low = refl
text_inner (Char c ∷ xs) ys low = ap (λ (cs : List ℕ). c ∷ cs) (text_inner xs ys (omega arith))

none_differs : (text : List ℕ) → differs (map Some text) text ≡ false
none_differs [] = refl
none_differs (c ∷ text) = rw (eq-eqb c c refl) (none_differs text)

-- a cell is left
pub some_left : (next : Option Cell) (left more : List Cell) → MatchOption next ((left ≡ []) × (more ≡ [])) (λ cell. left ≡ cell ∷ more) → is_some next ≡ true → 0 < length left
some_left None left more is some = absurd (cc)
some_left (Some cell) left more is some = let long : length left ≡ suc (length more) = ap length is in omega arith

pub same_differs : (ahead places : List CellBelief) (rest whole : List Cell) (text : List ℕ) → text ≡ text_before_attribute rest → length text < length rest → chars_known ahead ≡ map Some text → length (chars_known ahead) < length ahead
    → differs (chars_known (ahead ++ places)) (known_text (chars_known (beliefs_of_cells rest ++ beliefs_of_cells whole))) ≡ false
same_differs ahead places rest whole text is more known inside =
    let ends : length (text_before_attribute rest) < length rest = subst (λ (cs : List ℕ). length cs < length rest) is more in
    ap (λ (ks : List (Option ℕ)). differs ks (known_text (chars_known (beliefs_of_cells rest ++ beliefs_of_cells whole)))) (chars_inner ahead places inside ∙ known)
    ∙ ap (differs (map Some text)) (read_text rest whole ∙ text_inner rest whole ends ∙ sym is)
    ∙ none_differs text

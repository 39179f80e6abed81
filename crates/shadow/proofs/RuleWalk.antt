-- A screen that was read, beside the places that are held, from attribute to attribute: by which field a rule is broken first.
use Rattle.std.proofs.Common.{◌≡◌, ℕ, suc, ◌+◌, ◌<◌, ◌≤◌, ◌==◌, Bool, true, false, not, ◌&&◌, ◌||◌, List, [], ◌∷◌, ◌++◌, length, drop, get_or, Option, Some, None, refl, ap, sym, subst, arith, ◌∙◌, if◌then◌else◌, ne_eqb, eq-eqb, lt-ltb, le-ltb}
use Rattle.std.specs.Option.{option_or}
use Rattle.std.proofs.lemmas.List.{drop_more, at_drop_all}
use Rattle.codes3270.specs.declared.attribute.Attr.{Attr as Attribute}
use Rattle.codes3270.specs.declared.attribute.Cell.{Cell}
use Rattle.codes3270.specs.declared.attribute.Cell.TheVariants.{Char, Attr as AttrCell}
use Rattle.datastream.specs.Screen.{text_before_attribute}
use Rattle.datastream.specs.Fields.{Field, fields}
use Rattle.datastream.proofs.FieldWalk.{fields_walked}
use Rattle.shadow.specs.declared.cell_belief.CellBelief.{CellBelief}
use Rattle.shadow.specs.declared.cell_belief.CellBelief.TheVariants.{Attr, Known, Unplaced, Unknown}
use Rattle.shadow.specs.declared.rule_break.Rule.{Rule}
use Rattle.shadow.specs.declared.rule_break.Rule.TheVariants.{Applies}
use Rattle.shadow.specs.declared.rule_break.RuleBreak.{RuleBreak}
use Rattle.shadow.specs.Belief.{Belief}
use Rattle.shadow.specs.InPlace.{chars_known, belief_held, beliefs_held, fact_held, known_text, other_here, shadow_held, AreHeld, IsHeld}
use Rattle.shadow.specs.RuleBreaks.{break_at, first_break, is_believed, lesser, rule_break, rule_broken}
use Rattle.shadow.specs.Runs.{operator_rule_at, rule_at, rule_next}
use Rattle.shadow.specs.AfterReadBuffer.{differs, known_chars, same_attr}
use Rattle.shadow.specs.Since.{belief_of_cell}
use Rattle.shadow.specs.Taken.{exact_or_any, fact_known, formatted_as, whole_text}
use Rattle.shadow.proofs.Reading.{held_drop}
use Rattle.shadow.proofs.Settling.{says_known}

-- what is left to be compared from an address on
abbrev pub BreakLeft : List CellBelief → List Cell → ℕ → List CellBelief → List Cell → Option RuleBreak
BreakLeft whole screen n ps cells = first_break (beliefs_held whole n ps) (fields_walked screen n cells)

abbrev broken_at : ℕ → Option RuleBreak
broken_at cell = break_at cell (Some Applies)

-- ---- the lesser of two

lesser_left : (one other : ℕ) → one < other → lesser one other ≡ one
lesser_left one other less = ap (λ (t : Bool). if t then one else other) (lt-ltb one other less)

lesser_right : (one other : ℕ) → other ≤ one → lesser one other ≡ other
lesser_right one other few = ap (λ (t : Bool). if t then one else other) (le-ltb one other few)

-- ---- an attribute that the other one lacks

-- fields at different addresses
apart : (b : Belief) (bs : List Belief) (f : Field) (fs : List Field) (cell : ℕ) → (f.place ≡ b.place → ⊥) → lesser b.place f.place ≡ cell → first_break (b ∷ bs) (f ∷ fs) ≡ broken_at cell
apart b bs f fs cell other least =
    ap (λ (r : Option Rule). option_or (break_at (lesser b.place f.place) r) (first_break bs fs)) (misplaced (ne_eqb f.place b.place other))
    ∙ ap broken_at least
  where
    misplaced : (f.place == b.place) ≡ false → rule_broken b f ≡ Some Applies
    misplaced e = rw e refl

later_read : (b : Belief) (bs : List Belief) (screen : List Cell) (m : ℕ) (cells : List Cell) → b.place < m → first_break (b ∷ bs) (fields_walked screen m cells) ≡ broken_at b.place
later_read b bs screen m [] later = refl
later_read b bs screen m (Char c ∷ cells) later = later_read b bs screen (m + 1) cells (omega arith)
later_read b bs screen m (AttrCell a ∷ cells) later =
    apart b bs (record { place = m; attr = a; text = text_before_attribute (cells ++ screen) }) (fields_walked screen (m + 1) cells) b.place (λ e. omega arith) (lesser_left b.place m later)

later_held : (f : Field) (fs : List Field) (whole : List CellBelief) (m : ℕ) (ps : List CellBelief) → f.place < m → first_break (beliefs_held whole m ps) (f ∷ fs) ≡ broken_at f.place
later_held f fs whole m [] later = refl
later_held f fs whole m (Attr a k t ∷ ps) later =
    apart (belief_held m a k t (ps ++ whole)) (beliefs_held whole (m + 1) ps) f fs f.place (λ e. omega arith) (lesser_right m f.place (omega arith))
later_held f fs whole m (Known c ∷ ps) later = later_held f fs whole (m + 1) ps (omega arith)
later_held f fs whole m (Unplaced c ∷ ps) later = later_held f fs whole (m + 1) ps (omega arith)
later_held f fs whole m (Unknown ∷ ps) later = later_held f fs whole (m + 1) ps (omega arith)

-- ---- the next cell

abbrev BreakOn : List CellBelief → List Cell → ℕ → CellBelief → List CellBelief → Cell → List Cell → Option RuleBreak
BreakOn whole screen n p ps c cells =
    option_or (break_at n (rule_at n p c (ps ++ whole) (text_before_attribute (cells ++ screen)))) (BreakLeft whole screen (n + 1) ps cells)

break_on : (whole : List CellBelief) (screen : List Cell) (n : ℕ) (p : CellBelief) (ps : List CellBelief) (c : Cell) (cells : List Cell) → BreakLeft whole screen n (p ∷ ps) (c ∷ cells) ≡ BreakOn whole screen n p ps c cells
break_on whole screen n (Attr a m t) ps (AttrCell b) cells =
    ap (λ (cell : ℕ). option_or (break_at cell (rule_broken (belief_held n a m t (ps ++ whole)) (record { place = n; attr = b; text = text_before_attribute (cells ++ screen) }))) (BreakLeft whole screen (n + 1) ps cells))
    (lesser_right n n (omega arith))
break_on whole screen n (Attr a m t) ps (Char c) cells = later_read (belief_held n a m t (ps ++ whole)) (beliefs_held whole (n + 1) ps) screen (n + 1) cells (omega arith)
break_on whole screen n (Known k) ps (AttrCell b) cells = later_held (record { place = n; attr = b; text = text_before_attribute (cells ++ screen) }) (fields_walked screen (n + 1) cells) whole (n + 1) ps (omega arith)
break_on whole screen n (Unplaced k) ps (AttrCell b) cells = later_held (record { place = n; attr = b; text = text_before_attribute (cells ++ screen) }) (fields_walked screen (n + 1) cells) whole (n + 1) ps (omega arith)
break_on whole screen n Unknown ps (AttrCell b) cells = later_held (record { place = n; attr = b; text = text_before_attribute (cells ++ screen) }) (fields_walked screen (n + 1) cells) whole (n + 1) ps (omega arith)
break_on whole screen n (Known k) ps (Char c) cells = refl
break_on whole screen n (Unplaced k) ps (Char c) cells = refl
break_on whole screen n Unknown ps (Char c) cells = refl

-- at the end there is none
pub next_broken : (whole : List CellBelief) (screen : List Cell) (n : ℕ) (rest : List Cell) → n + length rest ≡ length whole
    → BreakLeft whole screen n (drop n whole) rest ≡ option_or (break_at n (rule_next whole n rest screen)) (BreakLeft whole screen (n + 1) (drop (n + 1) whole) (drop 1 rest))
next_broken whole screen n [] all =
    at_drop_all (λ (ps : List CellBelief). BreakLeft whole screen n ps []) whole n (omega arith) ∙ sym (at_drop_all (λ (ps : List CellBelief). BreakLeft whole screen (n + 1) ps []) whole (n + 1) (omega arith))
next_broken whole screen n (cell ∷ rest) all =
    ap (λ (ps : List CellBelief). BreakLeft whole screen n ps (cell ∷ rest)) (drop_more whole n Unknown (omega arith))
    ∙ break_on whole screen n (get_or whole n Unknown) (drop (n + 1) whole) cell rest

-- ---- characters up to the next attribute

run_on : (whole : List CellBelief) (screen : List Cell) (n k j : ℕ) (ps : List CellBelief) (cells : List Cell) → k ≡ suc j → BreakLeft whole screen (n + 1) ps cells ≡ BreakLeft whole screen (n + 1 + j) (drop j ps) (drop j cells)
    → (p : CellBelief) (c : Cell) → BreakLeft whole screen (n + 1) ps cells ≡ BreakLeft whole screen (n + k) (drop k (p ∷ ps)) (drop k (c ∷ cells))
run_on whole screen n k j ps cells more step p c =
    let further : n + 1 + j ≡ n + suc j = omega arith in
    step ∙ ap (λ (m : ℕ). BreakLeft whole screen m (drop j ps) (drop j cells)) further ∙ ap (λ (m : ℕ). BreakLeft whole screen (n + m) (drop m (p ∷ ps)) (drop m (c ∷ cells))) (sym more)

none_on : (whole : List CellBelief) (screen : List Cell) (n k : ℕ) (ps : List CellBelief) (cells : List Cell) → 0 ≡ k → BreakLeft whole screen n ps cells ≡ BreakLeft whole screen (n + k) (drop k ps) (drop k cells)
none_on whole screen n k ps cells none =
    let same : n ≡ n + 0 = omega arith in
    ap (λ (m : ℕ). BreakLeft whole screen m ps cells) same ∙ ap (λ (m : ℕ). BreakLeft whole screen (n + m) (drop m ps) (drop m cells)) none

-- as many of both are passed
pub run_kept : (whole : List CellBelief) (screen : List Cell) (n k : ℕ) (ps : List CellBelief) (cells : List Cell) → length (chars_known ps) ≡ k → length (text_before_attribute cells) ≡ k → length ps ≡ length cells
    → BreakLeft whole screen n ps cells ≡ BreakLeft whole screen (n + k) (drop k ps) (drop k cells)
run_kept whole screen n k [] [] held read even = none_on whole screen n k [] [] held
run_kept whole screen n k [] (c ∷ cells) held read even = absurd (omega arith)
run_kept whole screen n k (p ∷ ps) [] held read even = absurd (omega arith)
run_kept whole screen n k (Attr a m t ∷ ps) (c ∷ cells) held read even = none_on whole screen n k (Attr a m t ∷ ps) (c ∷ cells) held
run_kept whole screen n k (Known b ∷ ps) (AttrCell a ∷ cells) held read even = absurd (omega arith)
run_kept whole screen n k (Unplaced b ∷ ps) (AttrCell a ∷ cells) held read even = absurd (omega arith)
run_kept whole screen n k (Unknown ∷ ps) (AttrCell a ∷ cells) held read even = absurd (omega arith)
run_kept whole screen n k (Known b ∷ ps) (Char c ∷ cells) held read even =
    run_on whole screen n k (length (chars_known ps)) ps cells (sym held) (run_kept whole screen (n + 1) (length (chars_known ps)) ps cells refl (omega arith) (omega arith)) (Known b) (Char c)
run_kept whole screen n k (Unplaced b ∷ ps) (Char c ∷ cells) held read even =
    run_on whole screen n k (length (chars_known ps)) ps cells (sym held) (run_kept whole screen (n + 1) (length (chars_known ps)) ps cells refl (omega arith) (omega arith)) (Unplaced b) (Char c)
run_kept whole screen n k (Unknown ∷ ps) (Char c ∷ cells) held read even =
    run_on whole screen n k (length (chars_known ps)) ps cells (sym held) (run_kept whole screen (n + 1) (length (chars_known ps)) ps cells refl (omega arith) (omega arith)) Unknown (Char c)

further : (n k m : ℕ) → broken_at (lesser (n + 1 + k) (n + 1 + m)) ≡ broken_at (lesser (n + suc k) (n + suc m))
further n k m =
    let one : n + 1 + k ≡ n + suc k = omega arith in
    let other : n + 1 + m ≡ n + suc m = omega arith in
    ap (λ (i : ℕ). broken_at (lesser i (n + 1 + m))) one ∙ ap (λ (j : ℕ). broken_at (lesser (n + suc k) j)) other

-- an attribute was read before one that is held
read_first : (whole : List CellBelief) (screen : List Cell) (n : ℕ) (a : Attribute) (k : ℕ) (ps : List CellBelief) (cells : List Cell)
    → first_break (beliefs_held whole (n + 1) ps) (record { place = n; attr = a; text = text_before_attribute (cells ++ screen) } ∷ fields_walked screen (n + 1) cells) ≡ broken_at (lesser (n + suc k) (n + 0))
read_first whole screen n a k ps cells =
    let here : lesser (n + suc k) (n + 0) ≡ n = lesser_right (n + suc k) (n + 0) (omega arith) ∙ (omega arith) in
    later_held (record { place = n; attr = a; text = text_before_attribute (cells ++ screen) }) (fields_walked screen (n + 1) cells) whole (n + 1) ps (omega arith) ∙ ap broken_at (sym here)

-- where more of the one come before an attribute than of the other, the screen is another
pub runs_broken : (whole : List CellBelief) (screen : List Cell) (n : ℕ) (ps : List CellBelief) (cells : List Cell) → (length (chars_known ps) ≡ length (text_before_attribute cells) → ⊥) → length ps ≡ length cells
    → BreakLeft whole screen n ps cells ≡ broken_at (lesser (n + length (chars_known ps)) (n + length (text_before_attribute cells)))
runs_broken whole screen n [] [] other even = absurd (other refl)
runs_broken whole screen n [] (c ∷ cells) other even = absurd (omega arith)
runs_broken whole screen n (p ∷ ps) [] other even = absurd (omega arith)
runs_broken whole screen n (Attr a m t ∷ ps) (AttrCell b ∷ cells) other even = absurd (other refl)
runs_broken whole screen n (Attr a m t ∷ ps) (Char c ∷ cells) other even =
    let here : lesser (n + 0) (n + suc (length (text_before_attribute cells))) ≡ n = lesser_left (n + 0) (n + suc (length (text_before_attribute cells))) (omega arith) ∙ (omega arith) in
    later_read (belief_held n a m t (ps ++ whole)) (beliefs_held whole (n + 1) ps) screen (n + 1) cells (omega arith) ∙ ap broken_at (sym here)
runs_broken whole screen n (Known b ∷ ps) (AttrCell a ∷ cells) other even = read_first whole screen n a (length (chars_known ps)) ps cells
runs_broken whole screen n (Unplaced b ∷ ps) (AttrCell a ∷ cells) other even = read_first whole screen n a (length (chars_known ps)) ps cells
runs_broken whole screen n (Unknown ∷ ps) (AttrCell a ∷ cells) other even = read_first whole screen n a (length (chars_known ps)) ps cells
runs_broken whole screen n (Known b ∷ ps) (Char c ∷ cells) other even =
    runs_broken whole screen (n + 1) ps cells (λ same. other (ap suc same)) (omega arith) ∙ further n (length (chars_known ps)) (length (text_before_attribute cells))
runs_broken whole screen n (Unplaced b ∷ ps) (Char c ∷ cells) other even =
    runs_broken whole screen (n + 1) ps cells (λ same. other (ap suc same)) (omega arith) ∙ further n (length (chars_known ps)) (length (text_before_attribute cells))
runs_broken whole screen n (Unknown ∷ ps) (Char c ∷ cells) other even =
    runs_broken whole screen (n + 1) ps cells (λ same. other (ap suc same)) (omega arith) ∙ further n (length (chars_known ps)) (length (text_before_attribute cells))

-- all was compared
pub none_broken : (whole : List CellBelief) (screen : List Cell) (n : ℕ) (rest : List Cell) → length whole ≤ n → length rest ≡ 0 → BreakLeft whole screen n (drop n whole) rest ≡ None
none_broken whole screen n [] over none = at_drop_all (λ (ps : List CellBelief). BreakLeft whole screen n ps []) whole n over
none_broken whole screen n (cell ∷ rest) over none = absurd (omega arith)

-- ---- what is compared at an attribute

-- the text that is believed, where each character is held by itself
pub believed_cells : (known : List (Option ℕ)) (text : List ℕ) → is_believed (fact_known known) text ≡ not (differs known text)
believed_cells known text = by_whole (whole_text known) (says_known known)
  where
    by_whole : (whole : Option (List ℕ)) → known_chars (length known) (exact_or_any whole known) ≡ known → is_believed (exact_or_any whole known) text ≡ not (differs known text)
    by_whole None is = refl
    by_whole (Some value) is = ap (λ (ks : List (Option ℕ)). not (differs ks text)) is

-- the rule of a cell, by whether it is another than the one that is believed
module _ (whole : List CellBelief) (n : ℕ) (ps : List CellBelief) (text : List ℕ) where
  abbrev by_other : CellBelief → Cell → Bool → Option Rule
  by_other p c other = if other then Some Applies else operator_rule_at n p c (ps ++ whole) text

  rule_by : (p : CellBelief) (c : Cell) (read : List CellBelief) → text ≡ known_text (chars_known read) → AreHeld whole (p ∷ ps)
      → rule_at n p c (ps ++ whole) text ≡ by_other p c (other_here p (belief_of_cell c) (ps ++ whole) read)
  rule_by (Attr a m t) (AttrCell b) read is held =
      ap (λ (at : Bool). by_other (Attr a m t) (AttrCell b) (not at || not (same_attr b a) || (a.protected && differs (known_chars (length (chars_known (ps ++ whole))) (fact_held t (ps ++ whole))) text))) (eq-eqb n n refl)
      ∙ ap (λ (ks : List (Option ℕ)). by_other (Attr a m t) (AttrCell b) (not (same_attr b a) || (a.protected && differs ks text))) held.0
      ∙ ap (λ (cs : List ℕ). by_other (Attr a m t) (AttrCell b) (not (same_attr b a) || (a.protected && differs (chars_known (ps ++ whole)) cs))) is
  rule_by (Attr a m t) (Char c) read is held = refl
  rule_by (Known k) (AttrCell b) read is held = refl
  rule_by (Unplaced k) (AttrCell b) read is held = refl
  rule_by Unknown (AttrCell b) read is held = refl
  rule_by (Known k) (Char c) read is held = refl
  rule_by (Unplaced k) (Char c) read is held = refl
  rule_by Unknown (Char c) read is held = refl

pub rule_here : (whole : List CellBelief) (n : ℕ) (cell : Cell) (read : List CellBelief) → n < length whole → IsHeld whole
    → (let p = get_or whole n Unknown in let ahead = drop (n + 1) whole ++ whole in let text = known_text (chars_known read) in
    rule_at n p cell ahead text ≡ (if other_here p (belief_of_cell cell) ahead read then Some Applies else operator_rule_at n p cell ahead text))
rule_here whole n cell read within held =
    rule_by whole n (drop (n + 1) whole) (known_text (chars_known read)) (get_or whole n Unknown) cell read refl
    (subst (AreHeld whole) (drop_more whole n Unknown within) (held_drop whole n whole held))

-- ---- the whole screen

pub broken_held : (places : List CellBelief) (cells : List Cell) → rule_break (shadow_held true places) cells ≡ first_break (beliefs_held places 0 places) (fields cells)
broken_held places cells = by_fields (beliefs_held places 0 places)
  where
    by_fields : (beliefs : List Belief) → rule_break (formatted_as beliefs (chars_known places)) cells ≡ first_break beliefs (fields cells)
    by_fields [] = refl
    by_fields (belief ∷ beliefs) = refl

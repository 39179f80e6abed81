-- A screen that was read, beside the places that are held.
use Rattle.std.proofs.Common.{◌≡◌, ℕ, zero, suc, ◌+◌, ◌-◌, ◌<◌, ◌≤◌, Bool, true, false, not, ◌&&◌, ◌||◌, List, [], ◌∷◌, ◌++◌, length, map, take, drop, set, get_or, Option, Some, None, refl, ap, sym, subst, arith, ◌∙◌, ne_eqb, eq-eqb, append_assoc, length-append}
use Rattle.std.specs.Prelude.{MatchOption, is_some}
use Rattle.std.proofs.lemmas.List.{drop_more, take_more_set, take_at, at_drop_all, length-map, length-take-le, length-drop}
use Rattle.codes3270.specs.declared.attribute.Attr.{Attr as Attribute}
use Rattle.codes3270.specs.declared.attribute.Cell.{Cell}
use Rattle.codes3270.specs.declared.attribute.Cell.TheVariants.{Char, Attr as AttrCell}
use Rattle.datastream.specs.Screen.{text_before_attribute}
use Rattle.datastream.specs.Fields.{Field, fields}
use Rattle.datastream.proofs.FieldWalk.{fields_walked, fields_are_walked}
use Rattle.datastream.specs.KeptByKeys.{without_mdt}
use Rattle.shadow.specs.declared.cell_belief.TextKnowledge.TheVariants.{Cells}
use Rattle.shadow.specs.declared.cell_belief.CellBelief.{CellBelief}
use Rattle.shadow.specs.declared.cell_belief.CellBelief.TheVariants.{Attr, Known, Unplaced, Unknown}
use Rattle.shadow.specs.Belief.{Fact, Belief}
use Rattle.shadow.specs.InPlace.{chars_known, fact_held, belief_held, beliefs_held, shadow_held, known_text, misses_here, other_here, AreHeld, IsHeld}
use Rattle.shadow.specs.Runs.{placed, other_next}
use Rattle.shadow.specs.AfterReadBuffer.{differs, others, same_attr, mark_seen, belief_seen, seen}
use Rattle.shadow.specs.Since.{belief_of_cell, beliefs_of_cells}
use Rattle.shadow.specs.Taken.{fact_known, exact_or_any}
use Rattle.shadow.proofs.AfterReadBuffer.{both, whole_fresh}
use Rattle.shadow.proofs.Settling.{says_known}

-- ---- characters one by one

abbrev pub NextIs : Option ℕ → List ℕ → List ℕ → Type 0
NextIs None text rest = text ≡ []
NextIs (Some char) text rest = text ≡ char ∷ rest

pub differs_step : (p : CellBelief) (ps : List CellBelief) (char : Option ℕ) (text rest : List ℕ) → NextIs char text rest → misses_here p char ≡ true → differs (chars_known (p ∷ ps)) text ≡ true
differs_step (Attr a m t) ps None text rest is e = absurd (cc)
differs_step (Attr a m t) ps (Some c) text rest is e = ap (differs []) is
differs_step (Known k) ps None text rest is e = ap (differs (Some k ∷ chars_known ps)) is
differs_step (Known k) ps (Some c) text rest is e = ap (differs (Some k ∷ chars_known ps)) is ∙ ap (λ t. t || differs (chars_known ps) rest) e
differs_step (Unplaced k) ps None text rest is e = ap (differs (None ∷ chars_known ps)) is
differs_step (Unplaced k) ps (Some c) text rest is e = absurd (cc)
differs_step Unknown ps None text rest is e = ap (differs (None ∷ chars_known ps)) is
differs_step Unknown ps (Some c) text rest is e = absurd (cc)

-- an attribute ends both; else both go on
abbrev OrOn : CellBelief → List CellBelief → List ℕ → Bool
OrOn (Attr a m t) ps rest = false
OrOn (Known k) ps rest = differs (chars_known ps) rest
OrOn (Unplaced k) ps rest = differs (chars_known ps) rest
OrOn Unknown ps rest = differs (chars_known ps) rest

pub differs_on : (p : CellBelief) (ps : List CellBelief) (char : Option ℕ) (text rest : List ℕ) → NextIs char text rest → misses_here p char ≡ false → differs (chars_known (p ∷ ps)) text ≡ OrOn p ps rest
differs_on (Attr a m t) ps None text rest is e = ap (differs []) is
differs_on (Attr a m t) ps (Some c) text rest is e = absurd (cc)
differs_on (Known k) ps None text rest is e = absurd (cc)
differs_on (Known k) ps (Some c) text rest is e = ap (differs (Some k ∷ chars_known ps)) is ∙ ap (λ t. t || differs (chars_known ps) rest) e
differs_on (Unplaced k) ps None text rest is e = absurd (cc)
differs_on (Unplaced k) ps (Some c) text rest is e = ap (differs (None ∷ chars_known ps)) is
differs_on Unknown ps None text rest is e = absurd (cc)
differs_on Unknown ps (Some c) text rest is e = ap (differs (None ∷ chars_known ps)) is

pub next_is : (char : Option ℕ) (text rest : List ℕ) → MatchOption char (text ≡ []) (λ c. text ≡ c ∷ rest) → NextIs char text rest
next_is None text rest h = h
next_is (Some c) text rest h = h

pub differs_end : (char : Option ℕ) (text rest : List ℕ) → NextIs char text rest → is_some char ≡ differs [] text
differs_end None text rest is = sym (ap (differs []) is)
differs_end (Some c) text rest is = sym (ap (differs []) is)

-- ---- fields one by one

pub read_text : (cells more : List Cell) → known_text (chars_known (beliefs_of_cells cells ++ beliefs_of_cells more)) ≡ text_before_attribute (cells ++ more)
read_text [] [] = refl
read_text [] (Char c ∷ more) = ap (λ cs. c ∷ cs) (read_text [] more)
read_text [] (AttrCell a ∷ more) = refl
read_text (Char c ∷ cells) more = ap (λ cs. c ∷ cs) (read_text cells more)
read_text (AttrCell a ∷ cells) more = refl

later_read : (b : Belief) (bs : List Belief) (screen : List Cell) (m : ℕ) (cells : List Cell) → b.place < m → others (b ∷ bs) (fields_walked screen m cells) ≡ true
later_read b bs screen m [] later = refl
later_read b bs screen m (Char c ∷ cells) later = later_read b bs screen (m + 1) cells (omega arith)
later_read b bs screen m (AttrCell a ∷ cells) later = rw (ne_eqb m b.place (λ e. omega arith)) refl

later_held : (f : Field) (fs : List Field) (whole : List CellBelief) (m : ℕ) (ps : List CellBelief) → f.place < m → others (beliefs_held whole m ps) (f ∷ fs) ≡ true
later_held f fs whole m [] later = refl
later_held f fs whole m (Attr a k t ∷ ps) later = rw (ne_eqb f.place m (λ e. omega arith)) refl
later_held f fs whole m (Known c ∷ ps) later = later_held f fs whole (m + 1) ps (omega arith)
later_held f fs whole m (Unplaced c ∷ ps) later = later_held f fs whole (m + 1) ps (omega arith)
later_held f fs whole m (Unknown ∷ ps) later = later_held f fs whole (m + 1) ps (omega arith)

abbrev OtherOn : List CellBelief → List Cell → ℕ → CellBelief → List CellBelief → Cell → List Cell → Bool
OtherOn whole screen n p ps c cells =
    other_here p (belief_of_cell c) (ps ++ whole) (beliefs_of_cells cells ++ beliefs_of_cells screen) || others (beliefs_held whole (n + 1) ps) (fields_walked screen (n + 1) cells)

other_on : (whole : List CellBelief) (screen : List Cell) (n : ℕ) (p : CellBelief) (ps : List CellBelief) (c : Cell) (cells : List Cell) → AreHeld whole (p ∷ ps)
    → others (beliefs_held whole n (p ∷ ps)) (fields_walked screen n (c ∷ cells)) ≡ OtherOn whole screen n p ps c cells
other_on whole screen n (Attr a m t) ps (AttrCell b) cells held =
    rw (eq-eqb n n refl)
    (ap (λ (ks : List (Option ℕ)). (not (same_attr b a) || (a.protected && differs ks (text_before_attribute (cells ++ screen)))) || others (beliefs_held whole (n + 1) ps) (fields_walked screen (n + 1) cells)) held.0
    ∙ ap (λ (text : List ℕ). (not (same_attr b a) || (a.protected && differs (chars_known (ps ++ whole)) text)) || others (beliefs_held whole (n + 1) ps) (fields_walked screen (n + 1) cells)) (sym (read_text cells screen)))
other_on whole screen n (Attr a m t) ps (Char c) cells held = later_read (belief_held n a m t (ps ++ whole)) (beliefs_held whole (n + 1) ps) screen (n + 1) cells (omega arith)
other_on whole screen n (Known k) ps (AttrCell b) cells held = later_held (record { place = n; attr = b; text = text_before_attribute (cells ++ screen) }) (fields_walked screen (n + 1) cells) whole (n + 1) ps (omega arith)
other_on whole screen n (Unplaced k) ps (AttrCell b) cells held = later_held (record { place = n; attr = b; text = text_before_attribute (cells ++ screen) }) (fields_walked screen (n + 1) cells) whole (n + 1) ps (omega arith)
other_on whole screen n Unknown ps (AttrCell b) cells held = later_held (record { place = n; attr = b; text = text_before_attribute (cells ++ screen) }) (fields_walked screen (n + 1) cells) whole (n + 1) ps (omega arith)
other_on whole screen n (Known k) ps (Char c) cells held = refl
other_on whole screen n (Unplaced k) ps (Char c) cells held = refl
other_on whole screen n Unknown ps (Char c) cells held = refl

held_rest : (whole : List CellBelief) (p : CellBelief) (ps : List CellBelief) → AreHeld whole (p ∷ ps) → AreHeld whole ps
held_rest whole (Attr a m t) ps h = h.1
held_rest whole (Known c) ps h = h
held_rest whole (Unplaced c) ps h = h
held_rest whole Unknown ps h = h

pub held_drop : (whole : List CellBelief) (n : ℕ) (ps : List CellBelief) → AreHeld whole ps → AreHeld whole (drop n ps)
held_drop whole zero ps h = h
held_drop whole (suc n) [] h = tt
held_drop whole (suc n) (p ∷ ps) h = held_drop whole n ps (held_rest whole p ps h)

pub other_step : (whole : List CellBelief) (screen : List Cell) (n : ℕ) (cell : Cell) (rest : List Cell) → n < length whole → IsHeld whole
    → others (beliefs_held whole n (drop n whole)) (fields_walked screen n (cell ∷ rest))
    ≡ (other_here (get_or whole n Unknown) (belief_of_cell cell) (drop (n + 1) whole ++ whole) (beliefs_of_cells rest ++ beliefs_of_cells screen)
    || others (beliefs_held whole (n + 1) (drop (n + 1) whole)) (fields_walked screen (n + 1) rest))
other_step whole screen n cell rest within held =
    let here : drop n whole ≡ get_or whole n Unknown ∷ drop (n + 1) whole = drop_more whole n Unknown within in
    ap (λ (ps : List CellBelief). others (beliefs_held whole n ps) (fields_walked screen n (cell ∷ rest))) here
    ∙ other_on whole screen n (get_or whole n Unknown) (drop (n + 1) whole) cell rest (subst (AreHeld whole) here (held_drop whole n whole held))

-- ---- characters up to the next attribute

-- what is left to be compared from an address on
abbrev pub Left : List CellBelief → List Cell → ℕ → List CellBelief → List Cell → Bool
Left whole screen n ps cells = others (beliefs_held whole n ps) (fields_walked screen n cells)

run_on : (whole : List CellBelief) (screen : List Cell) (n k j : ℕ) (ps : List CellBelief) (cells : List Cell) → k ≡ suc j → Left whole screen (n + 1) ps cells ≡ Left whole screen (n + 1 + j) (drop j ps) (drop j cells)
    → (p : CellBelief) (c : Cell) → Left whole screen (n + 1) ps cells ≡ Left whole screen (n + k) (drop k (p ∷ ps)) (drop k (c ∷ cells))
run_on whole screen n k j ps cells more step p c =
    let further : n + 1 + j ≡ n + suc j = omega arith in
    step ∙ ap (λ (m : ℕ). Left whole screen m (drop j ps) (drop j cells)) further ∙ ap (λ (m : ℕ). Left whole screen (n + m) (drop m (p ∷ ps)) (drop m (c ∷ cells))) (sym more)

none_on : (whole : List CellBelief) (screen : List Cell) (n k : ℕ) (ps : List CellBelief) (cells : List Cell) → 0 ≡ k → Left whole screen n ps cells ≡ Left whole screen (n + k) (drop k ps) (drop k cells)
none_on whole screen n k ps cells none =
    let same : n ≡ n + 0 = omega arith in
    ap (λ (m : ℕ). Left whole screen m ps cells) same ∙ ap (λ (m : ℕ). Left whole screen (n + m) (drop m ps) (drop m cells)) none

-- as many of both are passed
pub run_passed : (whole : List CellBelief) (screen : List Cell) (n k : ℕ) (ps : List CellBelief) (cells : List Cell) → length (chars_known ps) ≡ k → length (text_before_attribute cells) ≡ k → length ps ≡ length cells
    → Left whole screen n ps cells ≡ Left whole screen (n + k) (drop k ps) (drop k cells)
run_passed whole screen n k [] [] held read even = none_on whole screen n k [] [] held
run_passed whole screen n k [] (c ∷ cells) held read even = absurd (omega arith)
run_passed whole screen n k (p ∷ ps) [] held read even = absurd (omega arith)
run_passed whole screen n k (Attr a m t ∷ ps) (c ∷ cells) held read even = none_on whole screen n k (Attr a m t ∷ ps) (c ∷ cells) held
run_passed whole screen n k (Known b ∷ ps) (AttrCell a ∷ cells) held read even = absurd (omega arith)
run_passed whole screen n k (Unplaced b ∷ ps) (AttrCell a ∷ cells) held read even = absurd (omega arith)
run_passed whole screen n k (Unknown ∷ ps) (AttrCell a ∷ cells) held read even = absurd (omega arith)
run_passed whole screen n k (Known b ∷ ps) (Char c ∷ cells) held read even =
    run_on whole screen n k (length (chars_known ps)) ps cells (sym held) (run_passed whole screen (n + 1) (length (chars_known ps)) ps cells refl (omega arith) (omega arith)) (Known b) (Char c)
run_passed whole screen n k (Unplaced b ∷ ps) (Char c ∷ cells) held read even =
    run_on whole screen n k (length (chars_known ps)) ps cells (sym held) (run_passed whole screen (n + 1) (length (chars_known ps)) ps cells refl (omega arith) (omega arith)) (Unplaced b) (Char c)
run_passed whole screen n k (Unknown ∷ ps) (Char c ∷ cells) held read even =
    run_on whole screen n k (length (chars_known ps)) ps cells (sym held) (run_passed whole screen (n + 1) (length (chars_known ps)) ps cells refl (omega arith) (omega arith)) Unknown (Char c)

-- where more of the one come before an attribute than of the other, the screen is another
pub runs_differ : (whole : List CellBelief) (screen : List Cell) (n : ℕ) (ps : List CellBelief) (cells : List Cell) → (length (chars_known ps) ≡ length (text_before_attribute cells) → ⊥) → length ps ≡ length cells
    → Left whole screen n ps cells ≡ true
runs_differ whole screen n [] [] other even = absurd (other refl)
runs_differ whole screen n [] (c ∷ cells) other even = absurd (omega arith)
runs_differ whole screen n (p ∷ ps) [] other even = absurd (omega arith)
runs_differ whole screen n (Attr a m t ∷ ps) (AttrCell b ∷ cells) other even = absurd (other refl)
runs_differ whole screen n (Attr a m t ∷ ps) (Char c ∷ cells) other even = later_read (belief_held n a m t (ps ++ whole)) (beliefs_held whole (n + 1) ps) screen (n + 1) cells (omega arith)
runs_differ whole screen n (Known b ∷ ps) (AttrCell a ∷ cells) other even = later_held (record { place = n; attr = a; text = text_before_attribute (cells ++ screen) }) (fields_walked screen (n + 1) cells) whole (n + 1) ps (omega arith)
runs_differ whole screen n (Unplaced b ∷ ps) (AttrCell a ∷ cells) other even = later_held (record { place = n; attr = a; text = text_before_attribute (cells ++ screen) }) (fields_walked screen (n + 1) cells) whole (n + 1) ps (omega arith)
runs_differ whole screen n (Unknown ∷ ps) (AttrCell a ∷ cells) other even = later_held (record { place = n; attr = a; text = text_before_attribute (cells ++ screen) }) (fields_walked screen (n + 1) cells) whole (n + 1) ps (omega arith)
runs_differ whole screen n (Known b ∷ ps) (Char c ∷ cells) other even = runs_differ whole screen (n + 1) ps cells (λ same. other (ap suc same)) (omega arith)
runs_differ whole screen n (Unplaced b ∷ ps) (Char c ∷ cells) other even = runs_differ whole screen (n + 1) ps cells (λ same. other (ap suc same)) (omega arith)
runs_differ whole screen n (Unknown ∷ ps) (Char c ∷ cells) other even = runs_differ whole screen (n + 1) ps cells (λ same. other (ap suc same)) (omega arith)

-- the next cell, and those behind it; at the end there is none
pub next_step : (whole : List CellBelief) (screen : List Cell) (n : ℕ) (rest : List Cell) → n + length rest ≡ length whole → IsHeld whole
    → Left whole screen n (drop n whole) rest ≡ (other_next whole n rest screen || Left whole screen (n + 1) (drop (n + 1) whole) (drop 1 rest))
next_step whole screen n [] all held =
    at_drop_all (λ (ps : List CellBelief). Left whole screen n ps []) whole n (omega arith) ∙ sym (at_drop_all (λ (ps : List CellBelief). Left whole screen (n + 1) ps []) whole (n + 1) (omega arith))
next_step whole screen n (cell ∷ rest) all held = other_step whole screen n cell rest (omega arith) held

-- all was compared
pub none_differ : (whole : List CellBelief) (screen : List Cell) (n : ℕ) (rest : List Cell) → length whole ≤ n → length rest ≡ 0 → Left whole screen n (drop n whole) rest ≡ false
none_differ whole screen n [] over none = at_drop_all (λ (ps : List CellBelief). Left whole screen n ps []) whole n over
none_differ whole screen n (cell ∷ rest) over none = absurd (omega arith)

-- ---- a screen that was read is known

chars_read : (cells more : List Cell) → chars_known (beliefs_of_cells cells ++ beliefs_of_cells more) ≡ map Some (text_before_attribute (cells ++ more))
chars_read [] [] = refl
chars_read [] (Char c ∷ more) = ap (λ (ks : List (Option ℕ)). Some c ∷ ks) (chars_read [] more)
chars_read [] (AttrCell a ∷ more) = refl
chars_read (Char c ∷ cells) more = ap (λ (ks : List (Option ℕ)). Some c ∷ ks) (chars_read cells more)
chars_read (AttrCell a ∷ cells) more = refl

field_read : (n : ℕ) (a : Attribute) (text : List ℕ) (ahead : List CellBelief) → chars_known ahead ≡ map Some text
    → belief_held n (without_mdt a) (mark_seen a.mdt) Cells ahead ≡ belief_seen (record { place = n; attr = a; text = text })
field_read n a text ahead is =
    let fact : fact_held Cells ahead ≡ Fact.Exact text = ap fact_known is ∙ ap (λ (o : Option (List ℕ)). exact_or_any o (map Some text)) (whole_fresh text) in
    λ i. record { place = n; attr = without_mdt a; mdt = mark_seen a.mdt; length = (ap length is ∙ length-map text Some) i; fact = fact i }

fields_read : (whole : List Cell) (n : ℕ) (rest : List Cell) → beliefs_held (beliefs_of_cells whole) n (beliefs_of_cells rest) ≡ map belief_seen (fields_walked whole n rest)
fields_read whole n [] = refl
fields_read whole n (Char c ∷ rest) = fields_read whole (n + 1) rest
fields_read whole n (AttrCell a ∷ rest) =
    ap (λ (b : Belief). b ∷ beliefs_held (beliefs_of_cells whole) (n + 1) (beliefs_of_cells rest)) (field_read n a (text_before_attribute (rest ++ whole)) (beliefs_of_cells rest ++ beliefs_of_cells whole) (chars_read rest whole))
    ∙ ap (λ (bs : List Belief). belief_seen (record { place = n; attr = a; text = text_before_attribute (rest ++ whole) }) ∷ bs) (fields_read whole (n + 1) rest)

pub read_seen : (cells : List Cell) → shadow_held true (beliefs_of_cells cells) ≡ seen cells
read_seen cells = both (beliefs_held (beliefs_of_cells cells) 0 (beliefs_of_cells cells)) (fields cells) (chars_known (beliefs_of_cells cells)) (text_before_attribute cells) (fields_read cells 0 cells ∙ ap (map belief_seen) (sym (fields_are_walked cells))) (chars_read [] cells)

are_read : (whole : List CellBelief) (cells : List Cell) → AreHeld whole (beliefs_of_cells cells)
are_read whole [] = tt
are_read whole (Char c ∷ cells) = are_read whole cells
are_read whole (AttrCell a ∷ cells) = (says_known (chars_known (beliefs_of_cells cells ++ whole)), are_read whole cells)

pub read_held : (cells : List Cell) → IsHeld (beliefs_of_cells cells)
read_held cells = are_read (beliefs_of_cells cells) cells

-- one more is read
pub read_more : (places : List CellBelief) (at : ℕ) (cell : Cell) (rest : List Cell) → at < length places
    → take at places ++ beliefs_of_cells (cell ∷ rest) ≡ take (at + 1) (set places at (belief_of_cell cell)) ++ beliefs_of_cells rest
read_more places at cell rest within =
    sym (append_assoc (take at places) (belief_of_cell cell ∷ []) (beliefs_of_cells rest))
    ∙ ap (λ (front : List CellBelief). front ++ beliefs_of_cells rest) (sym (take_more_set places at (belief_of_cell cell) within))

-- so are characters
stored_split : (cells : List Cell) → beliefs_of_cells cells ≡ map Known (text_before_attribute cells) ++ beliefs_of_cells (drop (length (text_before_attribute cells)) cells)
stored_split [] = refl
stored_split (Char c ∷ cells) = ap (λ (ps : List CellBelief). Known c ∷ ps) (stored_split cells)
stored_split (AttrCell a ∷ cells) = refl

pub run_read : (places : List CellBelief) (at : ℕ) (text : List ℕ) (cells rest : List Cell) → text ≡ text_before_attribute cells → rest ≡ drop (length text) cells → at + length text ≤ length places
    → take at places ++ beliefs_of_cells cells ≡ take (at + length text) (placed at text places) ++ beliefs_of_cells rest
run_read places at text cells rest ahead behind room =
    let front : List CellBelief = take at places ++ map Known text in
    let long : length front ≡ at + length text = omega (arith, length-append (take at places) (map Known text), length-take-le at places (omega arith), length-map text Known) in
    let split : beliefs_of_cells cells ≡ map Known text ++ beliefs_of_cells rest =
    stored_split cells ∙ ap (λ (cs : List ℕ). map Known cs ++ beliefs_of_cells (drop (length cs) cells)) (sym ahead) ∙ ap (λ (cs : List Cell). map Known text ++ beliefs_of_cells cs) (sym behind) in
    let taken : take (at + length text) (placed at text places) ≡ front =
    ap (take (at + length text)) (sym (append_assoc (take at places) (map Known text) (drop (at + length text) places))) ∙ take_at front (drop (at + length text) places) (at + length text) long in
    ap (λ (ps : List CellBelief). take at places ++ ps) split ∙ sym (append_assoc (take at places) (map Known text) (beliefs_of_cells rest)) ∙ ap (λ (ps : List CellBelief). ps ++ beliefs_of_cells rest) (sym taken)

text_within : (cells : List Cell) → length (text_before_attribute cells) ≤ length cells
text_within [] = omega arith
text_within (Char c ∷ cells) = omega (arith, text_within cells)
text_within (AttrCell a ∷ cells) = omega arith

-- as many are left
pub read_left : (at size : ℕ) (text : List ℕ) (cells rest : List Cell) → text ≡ text_before_attribute cells → rest ≡ drop (length text) cells → at + length cells ≡ size → (at + length text + length rest ≡ size) × (at + length text ≤ size)
read_left at size text cells rest ahead behind all =
    let few : length text ≤ length cells = subst (λ (cs : List ℕ). length cs ≤ length cells) (sym ahead) (text_within cells) in
    let left : length rest ≡ length cells - length text = ap length behind ∙ length-drop (length text) cells in
    (omega arith, omega arith)

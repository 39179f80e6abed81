use Rattle.std.proofs.Common.{◌≡◌, ◌∙◌, ◌+◌, ◌||◌, ap, sym, arith, drop, length, List, Bool, ℕ}
use Rattle.std.proofs.lemmas.List.{length-drop}
use Rattle.codes3270.specs.declared.attribute.Cell.{Cell}
use Rattle.datastream.specs.Fields.{fields}
use Rattle.datastream.specs.Screen.{text_before_attribute}
use Rattle.datastream.proofs.FieldWalk.{fields_walked, fields_are_walked}
use Rattle.shadow.specs.declared.cell_belief.CellBelief.{CellBelief}
use Rattle.shadow.specs.InPlace.{beliefs_held}
use Rattle.shadow.specs.AfterReadBuffer.{others}
use Rattle.shadow.proofs.Reading.{Left, run_passed, runs_differ, next_step, none_differ}
use Rattle.shadow.proofs.Stretches.{drop_drop}
use Rattle.shadow.proofs.buffer.any_other.Goals as goal
use Rattle.shadow.proofs.buffer.any_other.Goals.{After-is_other_at}

pub loop-from-init : goal.loop-from-init
loop-from-init c =
    let whole = c.args.beliefs.now in
    let screen = c.args.cells in
    record {
      others = ap (others (beliefs_held whole 0 whole)) (fields_are_walked screen)
          ∙ ap (λ (cs : List Cell). others (beliefs_held whole 0 whole) (fields_walked screen 0 cs)) (sym c.copy-rest.ensures);
      left = omega (arith, ap length c.copy-rest.ensures, c.requires.whole);
    }

pub returns-then-from-characters : goal.returns-then-from-characters
returns-then-from-characters c =
    let whole = c.args.beliefs.now in
    let n : ℕ = c.loop-from.from in
    let rest = c.loop-from.rest in
    let text : length c.characters.result.now ≡ length (text_before_attribute rest) = ap length c.characters.ensures.characters in
    sym (c.loop-from.invariant.others
    ∙ runs_differ whole c.args.cells n (drop n whole) rest (λ same. c.if-from-characters.true (omega (arith, same, text, c.attribute_from-place.ensures.place))) (omega (arith, length-drop n whole, c.loop-from.invariant.left)))

-- both have as many characters before the next attribute
passed : (c : After-is_other_at) → others (beliefs_held c.args.beliefs.now 0 c.args.beliefs.now) (fields c.args.cells)
    ≡ (c.is_other_at.result || Left c.args.beliefs.now c.args.cells (c.attribute_from-place.result + 1) (drop (c.attribute_from-place.result + 1) c.args.beliefs.now) c.is_other_at.new.rest)
passed c =
    let whole = c.args.beliefs.now in
    let screen = c.args.cells in
    let n : ℕ = c.loop-from.from in
    let next : ℕ = c.attribute_from-place.result in
    let rest = c.loop-from.rest in
    let left = c.characters.new.self in
    let k : ℕ = length c.characters.result.now in
    let there : n + k ≡ next = c.if-from-characters.false in
    let text : length (text_before_attribute rest) ≡ k = sym (ap length c.characters.ensures.characters) in
    let long = ap length c.characters.ensures.left in
    let all : next + length left ≡ length whole = omega (arith, there, long, length-drop k rest, c.loop-from.invariant.left, c.attribute_from-place.ensures.within, c.loop-from-test.true, c.len-count.ensures.len) in
    c.loop-from.invariant.others
    ∙ run_passed whole screen n k (drop n whole) rest (omega (arith, there, c.attribute_from-place.ensures.place)) text (omega (arith, length-drop n whole, c.loop-from.invariant.left))
    ∙ ap (λ (ps : List CellBelief). Left whole screen (n + k) ps (drop k rest)) (drop_drop n k whole)
    ∙ ap (λ (m : ℕ). Left whole screen m (drop m whole) (drop k rest)) there
    ∙ ap (Left whole screen next (drop next whole)) (sym c.characters.ensures.left)
    ∙ next_step whole screen next left all c.requires.held
    ∙ ap (λ (t : Bool). t || Left whole screen (next + 1) (drop (next + 1) whole) (drop 1 left)) (sym c.is_other_at.ensures.other)
    ∙ ap (λ (cs : List Cell). c.is_other_at.result || Left whole screen (next + 1) (drop (next + 1) whole) cs) (sym c.is_other_at.ensures.left)

pub returns-then-is_other_at : goal.returns-then-is_other_at
returns-then-is_other_at c =
    let next : ℕ = c.attribute_from-place.result in
    sym (passed c.before ∙ ap (λ (t : Bool). t || Left c.args.beliefs.now c.args.cells (next + 1) (drop (next + 1) c.args.beliefs.now) c.is_other_at.new.rest) c.if-is_other_at.true)

pub loop-from-preserved : goal.loop-from-preserved
loop-from-preserved c =
    let next : ℕ = c.attribute_from-place.result in
    let k : ℕ = length c.characters.result.now in
    let there : c.loop-from.from + k ≡ next = c.if-from-characters.false in
    let long = ap length c.characters.ensures.left in
    let less = ap length c.is_other_at.ensures.left in
    record {
      others = passed c.before ∙ ap (λ (t : Bool). t || Left c.args.beliefs.now c.args.cells (next + 1) (drop (next + 1) c.args.beliefs.now) c.is_other_at.new.rest) c.if-is_other_at.false;
      left = omega (arith, there, long, less, length-drop k c.loop-from.rest, length-drop 1 c.characters.new.self, c.loop-from.invariant.left);
    }

pub returns : goal.returns
returns c =
    sym (c.loop-from.invariant.others
    ∙ none_differ c.args.beliefs.now c.args.cells c.loop-from.from c.loop-from.rest (omega (arith, c.loop-from-test.false, c.len-count.ensures.len)) (omega (arith, c.loop-from-test.false, c.len-count.ensures.len, c.loop-from.invariant.left)))

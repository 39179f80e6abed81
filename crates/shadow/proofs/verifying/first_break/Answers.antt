use Rattle.std.proofs.Common.{◌≡◌, ◌∙◌, ◌+◌, ap, sym, arith, drop, length, List, Option, Some, ℕ}
use Rattle.std.specs.Option.{option_or}
use Rattle.std.proofs.lemmas.List.{length-drop}
use Rattle.codes3270.specs.declared.attribute.Cell.{Cell}
use Rattle.datastream.specs.Fields.{fields}
use Rattle.datastream.specs.Screen.{text_before_attribute}
use Rattle.datastream.proofs.FieldWalk.{fields_walked, fields_are_walked}
use Rattle.shadow.specs.declared.cell_belief.CellBelief.{CellBelief}
use Rattle.shadow.specs.declared.rule_break.Rule.{Rule}
use Rattle.shadow.specs.declared.rule_break.Rule.TheVariants.{Applies}
use Rattle.shadow.specs.InPlace.{beliefs_held, chars_known}
use Rattle.shadow.specs.RuleBreaks.{break_at, first_break, lesser}
use Rattle.shadow.proofs.RuleWalk.{BreakLeft, next_broken, none_broken, run_kept, runs_broken}
use Rattle.shadow.proofs.Stretches.{drop_drop}
use Rattle.shadow.proofs.verifying.first_break.Goals as goal
use Rattle.shadow.proofs.verifying.first_break.Goals.{After-rule_next}

pub loop-from-init : goal.loop-from-init
loop-from-init c =
    let whole = c.args.beliefs.now in
    let screen = c.args.cells in
    record {
      breaks = ap (first_break (beliefs_held whole 0 whole)) (fields_are_walked screen)
          ∙ ap (λ (cs : List Cell). first_break (beliefs_held whole 0 whole) (fields_walked screen 0 cs)) (sym c.copy-rest.ensures);
      left = omega (arith, ap length c.copy-rest.ensures, c.requires.whole);
    }

pub returns-then-found-place : goal.returns-then-found-place
returns-then-found-place c =
    let whole = c.args.beliefs.now in
    let n : ℕ = c.loop-from.from in
    let rest = c.loop-from.rest in
    let text : length c.characters.result.now ≡ length (text_before_attribute rest) = ap length c.characters.ensures.characters in
    c.misplaced.ensures
    ∙ ap (λ (place : ℕ). break_at (lesser place (n + length c.characters.result.now)) (Some Applies)) c.attribute_from-place.ensures.place
    ∙ ap (λ (k : ℕ). break_at (lesser (n + length (chars_known (drop n whole))) (n + k)) (Some Applies)) text
    ∙ sym (c.loop-from.invariant.breaks
    ∙ runs_broken whole c.args.cells n (drop n whole) rest (λ same. c.if-found-place.true (omega (arith, same, text, c.attribute_from-place.ensures.place))) (omega (arith, length-drop n whole, c.loop-from.invariant.left)))

-- both have as many characters before the next attribute
passed : (c : After-rule_next) → first_break (beliefs_held c.args.beliefs.now 0 c.args.beliefs.now) (fields c.args.cells)
    ≡ option_or (break_at c.attribute_from-place.result c.rule_next.result) (BreakLeft c.args.beliefs.now c.args.cells (c.attribute_from-place.result + 1) (drop (c.attribute_from-place.result + 1) c.args.beliefs.now) c.rule_next.new.rest)
passed c =
    let whole = c.args.beliefs.now in
    let screen = c.args.cells in
    let n : ℕ = c.loop-from.from in
    let next : ℕ = c.attribute_from-place.result in
    let rest = c.loop-from.rest in
    let left = c.characters.new.self in
    let k : ℕ = length c.characters.result.now in
    let there : n + k ≡ next = c.if-found-place.false in
    let text : length (text_before_attribute rest) ≡ k = sym (ap length c.characters.ensures.characters) in
    let long = ap length c.characters.ensures.left in
    let all : next + length left ≡ length whole = omega (arith, there, long, length-drop k rest, c.loop-from.invariant.left, c.attribute_from-place.ensures.within, c.loop-from-test.true, c.len-count.ensures.len) in
    c.loop-from.invariant.breaks
    ∙ run_kept whole screen n k (drop n whole) rest (omega (arith, there, c.attribute_from-place.ensures.place)) text (omega (arith, length-drop n whole, c.loop-from.invariant.left))
    ∙ ap (λ (ps : List CellBelief). BreakLeft whole screen (n + k) ps (drop k rest)) (drop_drop n k whole)
    ∙ ap (λ (m : ℕ). BreakLeft whole screen m (drop m whole) (drop k rest)) there
    ∙ ap (BreakLeft whole screen next (drop next whole)) (sym c.characters.ensures.left)
    ∙ next_broken whole screen next left all
    ∙ ap (λ (r : Option Rule). option_or (break_at next r) (BreakLeft whole screen (next + 1) (drop (next + 1) whole) (drop 1 left))) (sym c.rule_next.ensures.rule)
    ∙ ap (λ (cs : List Cell). option_or (break_at next c.rule_next.result) (BreakLeft whole screen (next + 1) (drop (next + 1) whole) cs)) (sym c.rule_next.ensures.left)

pub returns-in-Some : goal.returns-in-Some
returns-in-Some c =
    let next : ℕ = c.attribute_from-place.result in
    sym (passed c.before ∙ ap (λ (r : Option Rule). option_or (break_at next r) (BreakLeft c.args.beliefs.now c.args.cells (next + 1) (drop (next + 1) c.args.beliefs.now) c.rule_next.new.rest)) c.in-Some.is)

pub loop-from-preserved : goal.loop-from-preserved
loop-from-preserved c =
    let next : ℕ = c.attribute_from-place.result in
    let k : ℕ = length c.characters.result.now in
    let there : c.loop-from.from + k ≡ next = c.if-found-place.false in
    let long = ap length c.characters.ensures.left in
    let less = ap length c.rule_next.ensures.left in
    record {
      breaks = passed c.before ∙ ap (λ (r : Option Rule). option_or (break_at next r) (BreakLeft c.args.beliefs.now c.args.cells (next + 1) (drop (next + 1) c.args.beliefs.now) c.rule_next.new.rest)) c.in_default.is;
      left = omega (arith, there, long, less, length-drop k c.loop-from.rest, length-drop 1 c.characters.new.self, c.loop-from.invariant.left);
    }

pub returns : goal.returns
returns c =
    sym (c.loop-from.invariant.breaks
    ∙ none_broken c.args.beliefs.now c.args.cells c.loop-from.from c.loop-from.rest (omega (arith, c.loop-from-test.false, c.len-count.ensures.len)) (omega (arith, c.loop-from-test.false, c.len-count.ensures.len, c.loop-from.invariant.left)))

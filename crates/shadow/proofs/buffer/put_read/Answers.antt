use Rattle.std.proofs.Common.{◌≡◌, ◌∙◌, ◌+◌, ◌++◌, ap, sym, arith, take, length, set, suc, ℕ, List}
use Rattle.shadow.specs.declared.cell_belief.CellBelief.{CellBelief}
use Rattle.shadow.specs.Since.{beliefs_of_cells}
use Rattle.shadow.proofs.Reading.{run_read, read_left, read_more}
use Rattle.shadow.proofs.buffer.put_read.Goals as goal

pub put_run-at-requires : goal.put_run-at-requires
put_run-at-requires c =
    let size : ℕ = length c.clear.new.self in
    (read_left 0 size c.characters.result.now c.args.cells c.characters.new.self c.characters.ensures.characters c.characters.ensures.left (omega (arith, c.requires, c.clear.ensures.size))).1

pub loop-cell-init : goal.loop-cell-init
loop-cell-init c =
    let text = c.characters.result.now in
    let rest = c.characters.new.self in
    let ps = c.clear.new.self in
    let new = c.put_run-at.new.beliefs in
    let left = read_left 0 (length ps) text c.args.cells rest c.characters.ensures.characters c.characters.ensures.left (omega (arith, c.requires, c.clear.ensures.size)) in
    record {
      read = ap (λ (n : ℕ). take n new ++ beliefs_of_cells rest) c.put_run-at.ensures.behind
          ∙ ap (λ (qs : List CellBelief). take (0 + length text) qs ++ beliefs_of_cells rest) c.put_run-at.ensures.beliefs
          ∙ sym (run_read ps 0 text c.args.cells rest c.characters.ensures.characters c.characters.ensures.left left.1);
      each = omega (arith, left.0, c.put_run-at.ensures.behind, c.put_run-at.ensures.size);
      size = c.put_run-at.ensures.size ∙ c.clear.ensures.size;
    }

pub put_run-at-requires-in-Some : goal.put_run-at-requires-in-Some
put_run-at-requires-in-Some c =
    let more : length c.loop-cell.rest ≡ suc (length c.next.new.self) = ap length c.in-Some.ensures.steps in
    (read_left (c.loop-cell.at + 1) (length c.set.new.self) c.characters-in-Some.result.now c.next.new.self c.characters-in-Some.new.self c.characters-in-Some.ensures.characters c.characters-in-Some.ensures.left
    (omega (arith, more, c.loop-cell.invariant.each, c.set.ensures.size))).1

pub loop-cell-preserved : goal.loop-cell-preserved
loop-cell-preserved c =
    let at : ℕ = c.loop-cell.at in
    let before = c.loop-cell.invariant in
    let cell = c.in-Some.cell in
    let more : length c.loop-cell.rest ≡ suc (length c.next.new.self) = ap length c.in-Some.ensures.steps in
    let text = c.characters-in-Some.result.now in
    let rest = c.characters-in-Some.new.self in
    let ps = c.set.new.self in
    let new = c.put_run-at-in-Some.new.beliefs in
    let left = read_left (at + 1) (length ps) text c.next.new.self rest c.characters-in-Some.ensures.characters c.characters-in-Some.ensures.left (omega (arith, more, before.each, c.set.ensures.size)) in
    record {
      read = ap (λ (n : ℕ). take n new ++ beliefs_of_cells rest) c.put_run-at-in-Some.ensures.behind
          ∙ ap (λ (qs : List CellBelief). take (at + 1 + length text) qs ++ beliefs_of_cells rest) c.put_run-at-in-Some.ensures.beliefs
          ∙ sym (run_read ps (at + 1) text c.next.new.self rest c.characters-in-Some.ensures.characters c.characters-in-Some.ensures.left left.1)
          ∙ ap (λ (qs : List CellBelief). take (at + 1) qs ++ beliefs_of_cells c.next.new.self) (c.set.ensures.beliefs ∙ ap (set c.loop-cell.beliefs at) c.place_of.ensures)
          ∙ sym (read_more c.loop-cell.beliefs at cell c.next.new.self (omega (arith, more, before.each)))
          ∙ ap (λ (cs : List _). take at c.loop-cell.beliefs ++ beliefs_of_cells cs) (sym c.in-Some.ensures.steps)
          ∙ before.read;
      each = omega (arith, left.0, c.put_run-at-in-Some.ensures.behind, c.put_run-at-in-Some.ensures.size);
      size = c.put_run-at-in-Some.ensures.size ∙ c.set.ensures.size ∙ before.size;
    }

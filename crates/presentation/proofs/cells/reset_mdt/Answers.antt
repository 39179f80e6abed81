use Rattle.std.proofs.Common.{◌≡◌, ◌+◌, ◌≤◌, ◌++◌, ◌∙◌, List, [], length, take, map, set, ap, sym, arith}
use Rattle.std.proofs.lemmas.List.{drop_all, take_all, append-nil, length-set}
use Rattle.codes3270.specs.declared.attribute.Cell.{Cell}
use Rattle.datastream.specs.Meaning.{unmodified}
use Rattle.presentation.proofs.Steps.{change_passed, change_stored, changed_from}
use Rattle.presentation.proofs.Changes.{keeps_unmodified}
use Rattle.presentation.proofs.cells.reset_mdt.Goals as goal

pub loop-at-init : goal.loop-at-init
loop-at-init c = record {
  so_far = change_passed unmodified keeps_unmodified c.args.cells.now 0 c.attribute_from-at.result c.attribute_from-at.ensures.place c.attribute_from-at.ensures.within;
  within = omega (arith, c.attribute_from-at.ensures.within, c.len-count.ensures.len);
  same = sym c.len-count.ensures.len;
}

pub loop-at-preserved : goal.loop-at-preserved
loop-at-preserved c =
    let cells : List Cell = c.loop-at.cells in
    let at = c.loop-at.at in
    let now : List Cell = c.set.new.self in
    let changed : now ≡ set cells at (unmodified c.get.result) = c.set.ensures ∙ ap (λ (cell : Cell). set cells at cell) c.without_mdt.ensures in
    let long : length now ≡ c.len-count.result = ap length changed ∙ length-set cells at (unmodified c.get.result) ∙ c.loop-at.invariant.same in
    let found = c.attribute_from-at-in-loop-at.ensures in
    record {
      so_far =
          change_passed unmodified keeps_unmodified now (at + 1) c.attribute_from-at-in-loop-at.result found.place found.within
          ∙ ap (λ (all : List Cell). changed_from unmodified keeps_unmodified all (at + 1)) changed
          ∙ change_stored unmodified keeps_unmodified cells at c.get.result (omega (arith, c.loop-at-test.true, c.loop-at.invariant.same)) c.get.ensures
          ∙ c.loop-at.invariant.so_far;
      within = omega (arith, found.within, long);
      same = long;
    }

pub returns : goal.returns
returns c =
    let cells : List Cell = c.loop-at.cells in
    let end : length cells ≤ c.loop-at.at = omega (arith, c.loop-at-test.false, c.loop-at.invariant.same) in
    sym (append-nil cells)
    ∙ ap (λ (front : List Cell). front ++ []) (sym (take_all c.loop-at.at cells end))
    ∙ ap (λ (rest : List Cell). take c.loop-at.at cells ++ map unmodified rest) (sym (drop_all c.loop-at.at cells end))
    ∙ c.loop-at.invariant.so_far

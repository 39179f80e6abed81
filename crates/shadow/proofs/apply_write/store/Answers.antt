use Rattle.std.proofs.Common.{◌≡◌, ◌∙◌, ◌++◌, ap, sym, subst, map, ℕ, List, All}
use Rattle.std.proofs.lemmas.List.Elements.{All-head, All-tail, All-drop}
use Rattle.codes3270.specs.Size.{cells_in}
use Rattle.datastream.specs.Grammar.{IsProper}
use Rattle.datastream.specs.declared.order.Order.{Order}
use Rattle.datastream.specs.declared.order.Order.TheVariants.{Char as CharData}
use Rattle.shadow.specs.Since.{cells_written}
use Rattle.shadow.specs.Stores.{stores}
use Rattle.shadow.specs.Taken.{known_stored}
use Rattle.shadow.proofs.StoredRuns.{orders_split}
use Rattle.shadow.proofs.apply_write.store.Goals as goal

pub loop-order-init : goal.loop-order-init
loop-order-init c =
    let n : ℕ = cells_in c.args.size in
    let all = c.args.orders in
    let left = c.characters.new.self in
    let run = c.store_characters-at.ensures in
    let split : all ≡ map CharData c.characters.result.now ++ left = orders_split c.characters.result.now all left c.characters.ensures.characters c.characters.ensures.left in
    record {
      cells = ap (λ (os : List Order). known_stored (stores n 0 os) (cells_written c.args.beliefs.now c.args.pasts.now)) split
          ∙ ap (λ (at : ℕ). known_stored (stores n at (map CharData c.characters.result.now ++ left)) (cells_written c.args.beliefs.now c.args.pasts.now)) (sym c.first.ensures)
          ∙ run.cells left;
      since = run.since;
      size = run.size;
      same_size = run.same_size;
      proper = subst (All (IsProper n)) (sym c.characters.ensures.left) (All-drop (IsProper n) _ all c.requires.proper);
      placed = run.in_range;
    }

pub store_one-next-requires-clause-proper : goal.store_one-next-requires-clause-proper
store_one-next-requires-clause-proper c =
    let n : ℕ = cells_in c.args.size in
    All-head (IsProper n) c.in-Some.order c.next.new.self (subst (All (IsProper n)) c.in-Some.ensures.steps c.loop-order.invariant.proper)

pub loop-order-preserved : goal.loop-order-preserved
loop-order-preserved c =
    let n : ℕ = cells_in c.args.size in
    let before = c.loop-order.invariant in
    let steps = c.in-Some.ensures.steps in
    let one = c.store_one-next.ensures in
    let left = c.next.new.self in
    let text = c.characters-in-Some.result.now in
    let others = c.characters-in-Some.new.self in
    let run = c.store_characters-at-in-Some.ensures in
    let split : left ≡ map CharData text ++ others = orders_split text left others c.characters-in-Some.ensures.characters c.characters-in-Some.ensures.left in
    record {
      cells = before.cells
          ∙ ap (λ (os : List Order). known_stored (stores n c.loop-order.at os) (cells_written c.loop-order.beliefs c.loop-order.pasts)) steps
          ∙ one.cells left
          ∙ ap (λ (os : List Order). known_stored (stores n c.store_one-next.result os) (cells_written c.store_one-next.new.beliefs c.store_one-next.new.pasts)) split
          ∙ run.cells others;
      since = λ old since. run.since old (one.since old (before.since old since));
      size = run.size;
      same_size = run.same_size ∙ one.same_size ∙ before.same_size;
      proper = subst (All (IsProper n)) (sym c.characters-in-Some.ensures.left) (All-drop (IsProper n) _ left (All-tail (IsProper n) c.in-Some.order left (subst (All (IsProper n)) steps before.proper)));
      placed = run.in_range;
    }

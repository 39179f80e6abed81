use Rattle.std.proofs.Common.{◌≡◌, ◌<◌, ℕ, List, ◌∷◌, true, false, ◌∙◌, ap, sym, subst}
use Rattle.std.specs.List.{All}
use Rattle.std.proofs.lemmas.List.Elements.{All-drop, All-head, All-tail}
use Rattle.codes3270.specs.Size.{cells_in}
use Rattle.codes3270.specs.Storable.{is_storable}
use Rattle.datastream.specs.declared.order.Order.{Order}
use Rattle.datastream.specs.Grammar.{IsProper}
use Rattle.datastream.specs.Meaning.{WriteProgress, all_executed}
use Rattle.presentation.specs.declared.write.WritePosition.{WritePosition}
use Rattle.presentation.specs.Sizes.{SizedScreen}
use Rattle.presentation.proofs.CellRuns.{characters_proper, run_first}
use Rattle.presentation.proofs.buffer.Buffer.execute_all.Goals as goal

pub put_characters-position-requires-clause-storable : goal.put_characters-position-requires-clause-storable
put_characters-position-requires-clause-storable c =
    subst (All (λ byte. is_storable byte ≡ true)) (sym c.characters.ensures.characters) (characters_proper _ c.args.orders c.requires)

pub loop-order-init : goal.loop-order-init
loop-order-init c =
    let n : ℕ = cells_in c.args.self.now.size in
    let screen = c.args.self.now.screen in
    record {
      so_far =
          run_first c.characters.result.now c.args.orders c.characters.new.self _ _ c.characters.ensures.characters c.characters.ensures.left c.put_characters-position.ensures.write
          ∙ ap (λ (p : WritePosition). all_executed c.args.orders (record { screen = screen; address = p.address; after_data = p.nulls })) c.moved_to-start.ensures
          ∙ ap (λ (a : ℕ). all_executed c.args.orders (record { screen = screen; address = a; after_data = false })) c.cursor.ensures.cursor;
      size = c.put_characters-position.ensures.size;
      address = c.put_characters-position.ensures.in_range;
      proper = subst (All (IsProper n)) (sym c.characters.ensures.left) (All-drop (IsProper n) _ c.args.orders c.requires);
    }

pub execute-moved-requires-clause-proper : goal.execute-moved-requires-clause-proper
execute-moved-requires-clause-proper c =
    let n : ℕ = cells_in c.args.self.now.size in
    let so_far = c.loop-order.invariant in
    let order = c.in-Some.order in
    let left = c.next.new.self in
    let steps : c.loop-order.orders ≡ order ∷ left = c.in-Some.ensures.steps in
    let same : cells_in c.loop-order.self.size ≡ n = ap (λ (s : SizedScreen). cells_in s.size) so_far.size in
    subst (λ (m : ℕ). IsProper m order) (sym same) (All-head (IsProper n) order left (subst (All (IsProper n)) steps so_far.proper))

pub put_characters-position-requires-in-Some-clause-storable : goal.put_characters-position-requires-in-Some-clause-storable
put_characters-position-requires-in-Some-clause-storable c =
    let n : ℕ = cells_in c.args.self.now.size in
    let order = c.in-Some.order in
    let left = c.next.new.self in
    let steps : c.loop-order.orders ≡ order ∷ left = c.in-Some.ensures.steps in
    subst (All (λ byte. is_storable byte ≡ true)) (sym c.characters-in-Some.ensures.characters)
    (characters_proper n left (All-tail (IsProper n) order left (subst (All (IsProper n)) steps c.loop-order.invariant.proper)))

pub loop-order-preserved : goal.loop-order-preserved
loop-order-preserved c =
    let n : ℕ = cells_in c.args.self.now.size in
    let so_far = c.loop-order.invariant in
    let order = c.in-Some.order in
    let left = c.next.new.self in
    let steps : c.loop-order.orders ≡ order ∷ left = c.in-Some.ensures.steps in
    let moved = c.execute-moved.ensures in
    let put = c.put_characters-position-in-Some.ensures in
    let before : WriteProgress = record { screen = c.loop-order.self.screen; address = c.loop-order.position.address; after_data = c.loop-order.position.nulls } in
    let size : c.execute-moved.new.self ≡ record c.args.self.now { screen = c.execute-moved.new.self.screen } =
    moved.size ∙ ap (λ (s : SizedScreen). record s { screen = c.execute-moved.new.self.screen }) so_far.size in
    let same : cells_in c.execute-moved.new.self.size ≡ n = ap (λ (s : SizedScreen). cells_in s.size) size in
    record {
      so_far =
          run_first c.characters-in-Some.result.now left c.characters-in-Some.new.self _ _ c.characters-in-Some.ensures.characters c.characters-in-Some.ensures.left put.write
          ∙ ap (all_executed left) moved.write
          ∙ ap (λ (os : List Order). all_executed os before) (sym steps)
          ∙ so_far.so_far;
      size = put.size ∙ ap (λ (s : SizedScreen). record s { screen = c.put_characters-position-in-Some.new.self.screen }) size;
      address = subst (λ (m : ℕ). c.put_characters-position-in-Some.result.address < m) same put.in_range;
      proper =
          subst (All (IsProper n)) (sym c.characters-in-Some.ensures.left)
          (All-drop (IsProper n) _ left (All-tail (IsProper n) order left (subst (All (IsProper n)) steps so_far.proper)));
    }

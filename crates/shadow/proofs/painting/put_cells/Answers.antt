use Rattle.std.proofs.Common.{◌≡◌, ◌∙◌, ap, sym, List, ℕ, Option, Some, None, [], Err, refl, append-nil, ◌++◌, ◌∷◌}
use Rattle.codes3270.specs.Size.{cells_in}
use Rattle.datastream.specs.Writing.{orders_bytes}
use Rattle.shadow.specs.Base.{known_base}
use Rattle.shadow.specs.Belief.{next_address}
use Rattle.shadow.specs.Looks.{stores_from, stored_first}
use Rattle.shadow.specs.Stores.{Store}
use Rattle.shadow.specs.Paint.{painting, sba_unless, is_at, order_of}
use Rattle.shadow.specs.declared.searching.ToStore.{ToStore}
use Rattle.shadow.proofs.Appendings.{ends}
use Rattle.shadow.proofs.PaintBytes.{next_bytes}
use Rattle.shadow.proofs.painting.put_cells.Goals as goal

pub returns-in-Err : goal.returns-in-Err
returns-in-Err c =
    let at = c.loop-store.at in
    let cursor = c.args.cursor in
    let place = c.in-Some.store.place in
    let cell = c.in-Some.store.cell in
    let more = stores_from c.args.wanted.now.cells (known_base c.args.base.now) c.next_to_store.new.self.from in
    let rest : List ℕ = orders_bytes (painting (cells_in c.args.wanted.now.size) cursor (Some (next_address (cells_in c.args.wanted.now.size) place)) more) in
    let piece : ℕ → List ℕ = λ address. orders_bytes (sba_unless (is_at at address) address (order_of cell ∷ [])) in
    ends c.args.writer.now.out c.loop-store.writer.out c.put_store.new.writer.out (Err c.in-Err.error) (piece c.address_of-address.result) rest _ _
    (ap (λ (ss : List Store). orders_bytes (painting (cells_in c.args.wanted.now.size) cursor at ss)) c.in-Some.ensures.left ∙ next_bytes (cells_in c.args.wanted.now.size) cursor at place cell more ∙ ap (λ (address : ℕ). piece address ++ rest) (sym c.address_of-address.ensures))
    (λ e. absurd (cc)) c.loop-store.invariant.under_way c.in-Err.ensures

none_found : (found : Option ToStore) (more : List Store) → ((store : ToStore) → found ≡ Some store → ⊥) → stored_first found more ≡ []
none_found None more none = refl
none_found (Some store) more none = absurd (none store refl)

pub returns : goal.returns
returns c =
    let more = stores_from c.args.wanted.now.cells (known_base c.args.base.now) c.next_to_store.new.self.from in
    ends c.args.writer.now.out c.loop-store.writer.out c.put_cursor.new.writer.out c.put_cursor.result _ [] _ _
    (ap (λ (ss : List Store). orders_bytes (painting (cells_in c.args.wanted.now.size) c.args.cursor c.loop-store.at ss)) (c.next_to_store.ensures.left ∙ none_found c.next_to_store.result more c.in_default.not-Some) ∙ sym (append-nil _))
    (λ _. refl) c.loop-store.invariant.under_way c.put_cursor.ensures

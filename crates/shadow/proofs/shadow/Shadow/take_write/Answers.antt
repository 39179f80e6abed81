use Rattle.std.proofs.Common.{◌≡◌, ◌∙◌, ap, sym, subst, length, ℕ, Bool, false, if◌then◌else◌}
use Rattle.codes3270.specs.Size.{cells_in}
use Rattle.shadow.specs.Belief.{Shadow, IsOfSize}
use Rattle.shadow.specs.InPlace.{shadow_held, beliefs_held, cells_known}
use Rattle.shadow.specs.Stores.{stores_unplaced}
use Rattle.shadow.specs.Taken.{believed, known_after, taken_write}
use Rattle.shadow.proofs.Placed.{taken_held, known_size, of_size}
use Rattle.shadow.proofs.shadow.Shadow.take_write.Goals as goal

pub returns-clause-taken : goal.returns-clause-taken
returns-clause-taken c =
    let places = c.self.inside.beliefs in
    let new = c.write_over.new.beliefs in
    let command = c.args.command.now in
    let before = beliefs_held places 0 places in
    let n : ℕ = cells_in command.size in
    let size : length places ≡ n = known_size places n (subst (IsOfSize n) (sym c.self.view_is ∙ ap (λ (k : Bool). shadow_held k places) c.if-not-self.false) c.requires) in
    let placed : stores_unplaced command.orders ≡ false = ap stores_unplaced (sym c.orders.ensures.orders) ∙ sym c.stores_unplaced.ensures ∙ c.if-stores_unplaced.false in
    ap (λ (k : Bool). shadow_held k new) c.if-not-self.false ∙ c.write_over.ensures.shadow
    ∙ ap (λ (m : ℕ). believed before (known_after m command.wcc command.orders (cells_known places))) size
    ∙ sym (ap (λ (t : Bool). if t then Shadow.NothingKnown else believed before (known_after n command.wcc command.orders (cells_known places))) placed)
    ∙ sym (taken_held n command.wcc command.orders places size c.self.invariant)
    ∙ ap (λ (k : Bool). taken_write n command.wcc command.orders (shadow_held k places)) (sym c.if-not-self.false)
    ∙ ap (taken_write n command.wcc command.orders) c.self.view_is

pub write_over-requires-clause-size : goal.write_over-requires-clause-size
write_over-requires-clause-size c =
    let places = c.self.inside.beliefs in
    let n : ℕ = cells_in c.args.command.now.size in
    let size : length places ≡ n = known_size places n (subst (IsOfSize n) (sym c.self.view_is ∙ ap (λ (k : Bool). shadow_held k places) c.if-not-self.false) c.requires) in
    sym size

pub returns-clause-size : goal.returns-clause-size
returns-clause-size c =
    let places = c.self.inside.beliefs in
    let n : ℕ = cells_in c.args.command.now.size in
    let size : length places ≡ n = known_size places n (subst (IsOfSize n) (sym c.self.view_is ∙ ap (λ (k : Bool). shadow_held k places) c.if-not-self.false) c.requires) in
    of_size c.self.inside.knows c.write_over.new.beliefs n (c.write_over.ensures.size ∙ size)

use Rattle.std.proofs.Common.{◌≡◌, ◌∙◌, ap, sym, subst, ℕ, List, length, replicate, true}
use Rattle.std.proofs.lemmas.List.{length-replicate}
use Rattle.codes3270.specs.Size.{ScreenSize, cells_in}
use Rattle.codes3270.specs.declared.attribute.Cell.{Cell}
use Rattle.codes3270.specs.declared.attribute.Cell.TheVariants.{Char}
use Rattle.datastream.specs.declared.order.Order.{Order}
use Rattle.shadow.specs.declared.cell_belief.CellBelief.{CellBelief}
use Rattle.shadow.specs.declared.cell_belief.BeforeWrite.{BeforeWrite}
use Rattle.shadow.specs.InPlace.{shadow_held, beliefs_held, IsHeld}
use Rattle.shadow.specs.Since.{Since, cells_written, stored_past}
use Rattle.shadow.specs.Stores.{stores}
use Rattle.shadow.specs.Taken.{known_stored}
use Rattle.shadow.proofs.Blanks.{null_place, since_nulls, held_nulls, no_beliefs, cells_nulls}
use Rattle.shadow.proofs.Erasing.{erase_seen}
use Rattle.shadow.proofs.AfterReadBuffer.{erased}
use Rattle.shadow.proofs.Settling.{settled_shadow, settled_held}
use Rattle.shadow.proofs.apply_write.write_on_nulls.Goals as goal

since_start : (n : ℕ) (ps : List CellBelief) (qs : List BeforeWrite) → ps ≡ replicate n null_place → qs ≡ replicate n stored_past → Since (replicate n null_place) ps qs
since_start n ps qs is are =
    subst (λ (xs : List CellBelief). Since (replicate n null_place) xs qs) (sym is) (subst (λ (xs : List BeforeWrite). Since (replicate n null_place) (replicate n null_place) xs) (sym are) (since_nulls n))

pub returns-clause-shadow : goal.returns-clause-shadow
returns-clause-shadow c =
    let command = c.args.command.now in
    let n : ℕ = cells_in command.size in
    let ss = stores n 0 command.orders in
    let olds = replicate n null_place in
    let nulls : List Cell = replicate n (Char 0) in
    let since = c.store.ensures.since olds (since_start n c.args.beliefs.now c.args.pasts.now c.requires.nulls c.requires.pasts) in
    ap (shadow_held true) c.settle.ensures.settled ∙ settled_shadow olds c.store.new.beliefs c.store.new.pasts since (held_nulls n)
    ∙ erased ss nulls (beliefs_held olds 0 olds) (cells_written c.store.new.beliefs c.store.new.pasts) (no_beliefs n)
    (c.store.ensures.cells
    ∙ ap (λ (size : ScreenSize). known_stored (stores (cells_in size) 0 c.orders.result) (cells_written c.args.beliefs.now c.args.pasts.now)) c.size.ensures.size
    ∙ ap (λ (os : List Order). known_stored (stores n 0 os) (cells_written c.args.beliefs.now c.args.pasts.now)) c.orders.ensures.orders
    ∙ ap (λ (ps : List CellBelief). known_stored ss (cells_written ps c.args.pasts.now)) c.requires.nulls
    ∙ ap (λ (qs : List BeforeWrite). known_stored ss (cells_written olds qs)) c.requires.pasts
    ∙ ap (known_stored ss) (cells_nulls n))
    ∙ sym (erase_seen command c.orders.ensures.encoded c.requires.plain)

pub returns-clause-held : goal.returns-clause-held
returns-clause-held c =
    let n : ℕ = cells_in c.args.command.now.size in
    let olds = replicate n null_place in
    let since = c.store.ensures.since olds (since_start n c.args.beliefs.now c.args.pasts.now c.requires.nulls c.requires.pasts) in
    subst IsHeld (sym c.settle.ensures.settled) (settled_held olds c.store.new.beliefs c.store.new.pasts since (held_nulls n))

pub returns-clause-size : goal.returns-clause-size
returns-clause-size c =
    let n : ℕ = cells_in c.args.command.now.size in
    c.settle.ensures.size ∙ c.store.ensures.same_size ∙ ap length c.requires.nulls ∙ length-replicate n null_place

use Rattle.std.proofs.Common.{◌≡◌, ◌∙◌, ap, sym, subst, length, ℕ, List, true, Option}
use Rattle.codes3270.specs.Size.{cells_in}
use Rattle.codes3270.specs.declared.write_control.Wcc.{Wcc}
use Rattle.datastream.specs.declared.order.Order.{Order}
use Rattle.shadow.specs.declared.cell_belief.CellBelief.{CellBelief}
use Rattle.shadow.specs.InPlace.{shadow_held, beliefs_held, cells_known, IsHeld}
use Rattle.shadow.specs.Since.{cells_written}
use Rattle.shadow.specs.Stores.{stores}
use Rattle.shadow.specs.Taken.{resets, believed, known_stored, marks_off_if}
use Rattle.shadow.proofs.Changes.{reset_cells, since_reset}
use Rattle.shadow.proofs.Settling.{settled_shadow, settled_held}
use Rattle.shadow.proofs.apply_write.write_noting.Goals as goal

pub returns-clause-shadow : goal.returns-clause-shadow
returns-clause-shadow c =
    let olds = c.args.beliefs.now in
    let command = c.args.command.now in
    let pasts = c.record_before.new.pasts in
    let news = c.store.new.beliefs in
    let r = resets c.wcc.result in
    let since = c.store.ensures.since olds (rw c.reset_marks.ensures.marks (since_reset r olds pasts c.record_before.ensures.since)) in
    let prepared : cells_written c.reset_marks.new.beliefs pasts ≡ marks_off_if (resets command.wcc) (cells_known olds) =
    ap (λ (ps : List CellBelief). cells_written ps pasts) c.reset_marks.ensures.marks ∙ reset_cells r olds pasts ∙ ap (marks_off_if r) c.record_before.ensures.cells
    ∙ ap (λ (w : Option Wcc). marks_off_if (resets w) (cells_known olds)) c.wcc.ensures.wcc in
    let before = beliefs_held olds 0 olds in
    let size : cells_in c.size.result ≡ length olds = ap cells_in c.size.ensures.size ∙ c.requires.size in
    ap (shadow_held true) c.settle.ensures.settled ∙ settled_shadow olds news c.store.new.pasts since c.requires.held
    ∙ ap (believed before) (c.store.ensures.cells
    ∙ ap (λ (n : ℕ). known_stored (stores n 0 c.orders.result) (cells_written c.reset_marks.new.beliefs pasts)) size
    ∙ ap (λ (os : List Order). known_stored (stores (length olds) 0 os) (cells_written c.reset_marks.new.beliefs pasts)) c.orders.ensures.orders
    ∙ ap (known_stored (stores (length olds) 0 command.orders)) prepared)

pub returns-clause-held : goal.returns-clause-held
returns-clause-held c =
    let olds = c.args.beliefs.now in
    let pasts = c.record_before.new.pasts in
    let since = c.store.ensures.since olds (rw c.reset_marks.ensures.marks (since_reset (resets c.wcc.result) olds pasts c.record_before.ensures.since)) in
    subst IsHeld (sym c.settle.ensures.settled) (settled_held olds c.store.new.beliefs c.store.new.pasts since c.requires.held)

pub returns-clause-size : goal.returns-clause-size
returns-clause-size c = c.settle.ensures.size ∙ c.store.ensures.same_size ∙ c.reset_marks.ensures.size

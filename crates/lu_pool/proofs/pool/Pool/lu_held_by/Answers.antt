use Rattle.std.proofs.Common.{sym}
use Rattle.lu_pool.specs.declared.entry.Entry.{Entry}
use Rattle.lu_pool.specs.Pool.{is_held_by}
use Rattle.lu_pool.proofs.Finding.{finds, finds_none}
use Rattle.lu_pool.proofs.Changes.{read_held, passes_none}
use Rattle.lu_pool.proofs.pool.Pool.lu_held_by.Goals as goal

pub returns-clause-held : goal.returns-clause-held
returns-clause-held c =
    let f = finds (λ (at : Entry). is_held_by c.args.conn at.holder) c.deref.result.now c.in_ok-place.place (sym c.in_ok-place.ensures) in
    rw (← c.self.view_is) (read_held c.self.inside.entries.items c.in_ok-place.place c.args.conn c.index.result.now (rw c.deref.ensures.value at f) c.index.ensures)

pub returns-in_err-place-clause-none : goal.returns-in_err-place-clause-none
returns-in_err-place-clause-none c =
    let f = finds_none (λ (at : Entry). is_held_by c.args.conn at.holder) c.deref.result.now (sym c.in_err-place.ensures) in
    let none = (rw c.deref.ensures.value at f) in
    rw (← c.self.view_is, c.from_residual.ensures) (passes_none c.self.inside.entries.items c.args.conn none.each)

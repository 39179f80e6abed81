use Rattle.std.proofs.Common.{sym, ◌∙◌}
use Rattle.std.specs.Prelude.{Result, Ok, Err, OnErr}
use Rattle.host_core.proofs.Learned.{values_grow}
use Rattle.host_core.proofs.learning.learn_all.Goals as goal

if_err : {T E : Type 0} (result : Result T E) (P : Type 0) → P → OnErr result P
if_err (Ok value) P holds = tt
if_err (Err error) P holds = holds

pub returns-in_err-known-clause-memory : goal.returns-in_err-known-clause-memory
returns-in_err-known-clause-memory c =
    if_err c.from_residual.result _
    (values_grow c.args.shadow.now c.args.fields.now c.args.values.now c.requires.numbers (sym c.any_needs_room.ensures ∙ c.if-not-any_needs_room.false))

pub returns-in_err-learn_each-clause-memory : goal.returns-in_err-learn_each-clause-memory
returns-in_err-learn_each-clause-memory c =
    if_err c.from_residual-in_err-learn_each.result _
    (values_grow c.args.shadow.now c.args.fields.now c.args.values.now c.requires.numbers (sym c.any_needs_room.ensures ∙ c.if-not-any_needs_room.false))

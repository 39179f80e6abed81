use Rattle.std.proofs.Common.{Result, Ok, Err, OnOk, ap, ◌∙◌}
use Rattle.panels.specs.Values.{value_of}
use Rattle.panels.proofs.Setting.{Entries, put_here, put_there}
use Rattle.panels.proofs.values.Values.set.Goals as goal

on_ok : {T E : Type 0} (result : Result T E) (P Q : Type 0) → (P → Q) → OnOk result P → OnOk result Q
on_ok (Ok value) P Q leads holds = leads holds
on_ok (Err error) P Q leads holds = tt

pub returns-then-contains_key-clause-value : goal.returns-then-contains_key-clause-value
returns-then-contains_key-clause-value c =
    on_ok c.replace.result _ _ (λ set. ap (λ (values : Entries). value_of values c.args.field) set ∙ put_here c.args.self.now c.args.field c.args.bytes.now) c.replace.ensures.entries

pub returns-then-contains_key-clause-others : goal.returns-then-contains_key-clause-others
returns-then-contains_key-clause-others c =
    on_ok c.replace.result _ _
    (λ set other differ. ap (λ (values : Entries). value_of values other) set ∙ put_there c.args.self.now c.args.field other c.args.bytes.now differ) c.replace.ensures.entries

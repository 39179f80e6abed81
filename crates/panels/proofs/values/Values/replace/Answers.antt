use Rattle.std.proofs.Common.{List, ℕ, Option, Result, Ok, Err, OnOk, OnErr, IsSome, refl, ap, sym, subst, ◌∙◌}
use Rattle.std.specs.BTreeMap.{insert_entry}
use Rattle.std.specs.Ordering.{nat_cmp}
use Rattle.panels.specs.Values.{value_of}
use Rattle.panels.proofs.Setting.{Entries, put_here, set_twice}
use Rattle.panels.proofs.values.Values.replace.Goals as goal

on_ok : {T E : Type 0} (result : Result T E) (P Q : Type 0) → (P → Q) → OnOk result P → OnOk result Q
on_ok (Ok value) P Q leads holds = leads holds
on_ok (Err error) P Q leads holds = tt

on_err : {T E : Type 0} (result : Result T E) (P Q : Type 0) → (P → Q) → OnErr result P → OnErr result Q
on_err (Ok value) P Q leads holds = tt
on_err (Err error) P Q leads holds = leads holds

pub exchange-requires : goal.exchange-requires
exchange-requires c =
    subst (λ (value : Option (List ℕ)). IsSome value)
    (sym (ap (λ (values : Entries). value_of values c.args.field) c.exchange-value.ensures.new ∙ put_here c.args.self.now c.args.field c.new.result)) refl

pub returns-clause-entries : goal.returns-clause-entries
returns-clause-entries c =
    on_ok c.replace-replaced.result _ _
    (λ same. c.exchange-2.ensures.new
    ∙ ap (λ (values : Entries). insert_entry nat_cmp values c.args.field c.replace-replaced.new.self) c.exchange-value.ensures.new
    ∙ set_twice c.args.self.now c.args.field c.new.result c.replace-replaced.new.self
    ∙ ap (λ (value : List ℕ). insert_entry nat_cmp c.args.self.now c.args.field value) same)
    c.replace-replaced.ensures.ok

pub returns-clause-err : goal.returns-clause-err
returns-clause-err c =
    on_err c.replace-replaced.result _ _
    (λ same. c.exchange-2.ensures.new
    ∙ ap (λ (values : Entries). insert_entry nat_cmp values c.args.field c.replace-replaced.new.self) c.exchange-value.ensures.new
    ∙ set_twice c.args.self.now c.args.field c.new.result c.replace-replaced.new.self
    ∙ ap (λ (value : List ℕ). insert_entry nat_cmp c.args.self.now c.args.field value) same
    ∙ c.exchange-value.ensures.back)
    c.replace-replaced.ensures.err

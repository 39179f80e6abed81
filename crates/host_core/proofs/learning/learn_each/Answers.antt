use Rattle.std.proofs.Common.{List, refl, ap, sym, subst, ◌∙◌, ◌+◌, drop}
use Rattle.std.specs.Prelude.{Result, Ok, Err, OnErr}
use Rattle.panels.specs.Screen.{Values}
use Rattle.panels.specs.declared.panel.Field.{Field}
use Rattle.host_core.specs.Acts.{learned}
use Rattle.host_core.proofs.Learned.{Untouched, front, needed_at_first, still_untouched, untouched_first}
use Rattle.host_core.proofs.learning.learn_each.Goals as goal

if_err : {T E : Type 0} (result : Result T E) (P : Type 0) → P → OnErr result P
if_err (Ok value) P holds = tt
if_err (Err error) P holds = holds

pub loop-field-init : goal.loop-field-init
loop-field-init c = record { learned = refl; untouched = untouched_first c.args.values.now c.args.fields.now }

pub returns-in_err-learn-clause-memory : goal.returns-in_err-learn-clause-memory
returns-in_err-learn-clause-memory c =
    if_err c.from_residual.result _
    (needed_at_first c.args.shadow.now c.args.values.now c.loop-field.values c.args.fields.now c.loop-field.field-index c.field-item.result c.loop-field-test.true c.field-item.is
    c.loop-field.invariant.untouched c.in_err-learn.ensures.memory)

pub loop-field-preserved : goal.loop-field-preserved
loop-field-preserved c = record {
  learned = ap (λ (values : Values). learned c.args.shadow.now (drop (c.loop-field.field-index + 1) c.args.fields.now) values) c.in_ok-learn.ensures.values
      ∙ sym (ap (λ (rest : List Field). learned c.args.shadow.now rest c.loop-field.values) (front c.args.fields.now c.loop-field.field-index c.field-item.result c.loop-field-test.true c.field-item.is))
      ∙ c.loop-field.invariant.learned;
  untouched = subst (λ (values : Values). Untouched c.args.values.now values c.args.fields.now (c.loop-field.field-index + 1)) (sym c.in_ok-learn.ensures.values)
      (still_untouched c.args.shadow.now c.args.values.now c.loop-field.values c.args.fields.now c.loop-field.field-index c.field-item.result c.requires.numbers c.loop-field-test.true c.field-item.is
      c.loop-field.invariant.untouched);
}

use Rattle.std.proofs.Common.{◌≡◌, ap, sym, ◌∙◌, ℕ, true, false, Some, arith}
use Rattle.codes3270.specs.declared.attention.Aid.TheVariants.{Pf}
use Rattle.panels.specs.Panel.{is_asked}
use Rattle.applications.proofs.AskedKeys.{found_asked, passed_asked}
use Rattle.applications.proofs.asked_key.asked_pf.Goals as goal

pub returns-then-is_asked : goal.returns-then-is_asked
returns-then-is_asked c =
    let same : c.in_ok-new.field-0 ≡ c.loop-number.number = c.in_ok-new.ensures.1 in
    let test : is_asked c.args.panel.now (Pf c.loop-number.number) ≡ true = ap (λ (n : ℕ). is_asked c.args.panel.now (Pf n)) (sym same) ∙ sym c.is_asked.ensures ∙ c.if-is_asked.true in
    ap (λ (n : ℕ). Some (Pf n)) same ∙ sym (c.loop-number.invariant ∙ found_asked (λ n. Pf n) c.args.panel.now c.loop-number.number 25 (omega arith) test)

pub loop-number-preserved : goal.loop-number-preserved
loop-number-preserved c =
    let same : c.in_ok-new.field-0 ≡ c.loop-number.number = c.in_ok-new.ensures.1 in
    let test : is_asked c.args.panel.now (Pf c.loop-number.number) ≡ false = ap (λ (n : ℕ). is_asked c.args.panel.now (Pf n)) (sym same) ∙ sym c.is_asked.ensures ∙ c.if-is_asked.false in
    c.loop-number.invariant ∙ passed_asked (λ n. Pf n) c.args.panel.now c.loop-number.number 25 (omega arith) test

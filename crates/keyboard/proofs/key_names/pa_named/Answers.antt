use Rattle.std.proofs.Common.{◌≡◌, ap, sym, ◌∙◌, ℕ, List, Some, arith}
use Rattle.std.specs.Prelude.{bytes_eq}
use Rattle.keyboard.specs.KeyNames.{name_of}
use Rattle.keyboard.specs.declared.key.Key.TheVariants.{Pa}
use Rattle.keyboard.proofs.KeyNames.{found_named, passed_named}
use Rattle.keyboard.proofs.key_names.pa_named.Goals as goal

pub returns-then-eq : goal.returns-then-eq
returns-then-eq c =
    let same : c.in_ok-number.number ≡ c.loop-number.number = c.in_ok-number.ensures.1 in
    let test = ap (λ (n : ℕ). bytes_eq (name_of (Pa n)) c.args.name.now) (sym same) ∙ ap (λ (text : List ℕ). bytes_eq text c.args.name.now) (sym c.pa_name.ensures) ∙ sym c.eq.ensures ∙ c.if-eq.true in
    ap (λ (n : ℕ). Some (Pa n)) same ∙ sym (c.loop-number.invariant ∙ found_named (λ n. Pa n) c.args.name.now c.loop-number.number 4 (omega arith) test)

pub loop-number-preserved : goal.loop-number-preserved
loop-number-preserved c =
    let same : c.in_ok-number.number ≡ c.loop-number.number = c.in_ok-number.ensures.1 in
    let test = ap (λ (n : ℕ). bytes_eq (name_of (Pa n)) c.args.name.now) (sym same) ∙ ap (λ (text : List ℕ). bytes_eq text c.args.name.now) (sym c.pa_name.ensures) ∙ sym c.eq.ensures ∙ c.if-eq.false in
    c.loop-number.invariant ∙ passed_named (λ n. Pa n) c.args.name.now c.loop-number.number 4 (omega arith) test

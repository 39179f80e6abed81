use Rattle.std.proofs.Common.{◌≡◌, ◌∙◌, ap, sym, arith, false, true, length, List, ℕ, Err}
use Rattle.std.specs.Prelude.{◌==◌, nat_lt, Result}
use Rattle.std.proofs.lemmas.Bool.Decides.{nat_tests}
use Rattle.datastream.specs.InboundFields.{leading_text, returned}
use Rattle.shadow.specs.declared.fault.HeardFault.{HeardFault}
use Rattle.shadow.specs.Belief.{Shadow}
use Rattle.shadow.specs.Filled.{is_possible, any_lost}
use Rattle.shadow.specs.InPlace.{beliefs_held}
use Rattle.shadow.proofs.HeardSteps.{fault_in, lead_refused, impossible_refused, possible_heard}
use Rattle.shadow.proofs.apply_inbound.check_fields.Goals as goal

none_before : (cs : List ℕ) → (length cs == 0) ≡ true → nat_lt 0 (length cs) ≡ false
none_before cs e = grind (arith, nat_tests)

some_before : (cs : List ℕ) → (length cs == 0) ≡ false → nat_lt 0 (length cs) ≡ true
some_before cs e = grind (arith, nat_tests)

refusal : HeardFault → Result Shadow HeardFault
refusal fault = Err fault

pub returns-then-not-is_empty : goal.returns-then-not-is_empty
unfolding refusal
returns-then-not-is_empty c =
    let parts = c.args.inbound.now.parts in
    let bs = beliefs_held c.args.beliefs.now 0 c.args.beliefs.now in
    let some : nat_lt 0 (length (leading_text parts)) ≡ true =
    ap (λ (cs : List ℕ). nat_lt 0 (length cs)) (sym c.leading_text.ensures.leading_text) ∙ some_before c.leading_text.result.now (sym c.is_empty.ensures ∙ c.if-not-is_empty.true) in
    lead_refused (length c.args.beliefs.now) bs (leading_text parts) (returned parts) some ∙ ap refusal (ap (fault_in (length c.args.beliefs.now) bs) (sym c.returned.ensures.returned) ∙ sym c.fault_of.ensures)

pub returns-in-Some : goal.returns-in-Some
returns-in-Some c =
    let parts = c.args.inbound.now.parts in
    let bs = beliefs_held c.args.beliefs.now 0 c.args.beliefs.now in
    let came = c.returned-2.ensures.returned in
    let none : nat_lt 0 (length (leading_text parts)) ≡ false =
    ap (λ (cs : List ℕ). nat_lt 0 (length cs)) (sym c.leading_text.ensures.leading_text) ∙ none_before c.leading_text.result.now (sym c.is_empty.ensures ∙ c.if-not-is_empty.false) in
    let possible : is_possible (length c.args.beliefs.now) bs (returned parts) ≡ true = ap (is_possible (length c.args.beliefs.now) bs) (sym came) ∙ c.in-Some.ensures.0 in
    (possible_heard (length c.args.beliefs.now) bs (leading_text parts) (returned parts) c.in-Some.erased possible (ap (any_lost (length c.args.beliefs.now) bs) (sym came) ∙ c.in-Some.ensures.1) none, possible)

pub returns-in-None : goal.returns-in-None
unfolding refusal
returns-in-None c =
    let parts = c.args.inbound.now.parts in
    let bs = beliefs_held c.args.beliefs.now 0 c.args.beliefs.now in
    impossible_refused (length c.args.beliefs.now) bs (leading_text parts) (returned parts) (ap (is_possible (length c.args.beliefs.now) bs) (sym c.returned-2.ensures.returned) ∙ c.in-None.ensures)
    ∙ ap refusal (ap (fault_in (length c.args.beliefs.now) bs) (sym c.returned-in-None.ensures.returned) ∙ sym c.fault_of-in-None.ensures)

use Rattle.std.proofs.Common.{ℕ, true, false, List, eqb, sym, ◌∙◌, rules, tests, refl}
use Rattle.std.proofs.lemmas.Iterator.{YieldsList-from_slice}
use Rattle.std.proofs.lemmas.Iterator.Search.{all_from_yields_List}
use Rattle.tn3270e_msg.proofs.Sets.{wants_by}
use Rattle.tn3270e_msg.proofs.functions.FunctionsOffer.of.Goals as goal

pub returns-then-not-contains : goal.returns-then-not-contains
returns-then-not-contains c = sym (wants_by c.args.list.now false _ (sym c.if-not-contains.true ∙ c.contains.ensures.value) refl)

pub returns-then-all : goal.returns-then-all
returns-then-all c =
    let list : List ℕ = c.args.list.now in
    let all = all_from_yields_List (λ function. eqb function 2) _ _ c.all.result c.all.ensures.ran (YieldsList-from_slice list cc) (λ x b q k. search (rules, tests)) in
    sym (wants_by list true true (sym c.if-not-contains.false ∙ c.contains.ensures.value) (sym c.if-all.true ∙ all))

pub returns-else-all : goal.returns-else-all
returns-else-all c =
    let list : List ℕ = c.args.list.now in
    let all = all_from_yields_List (λ function. eqb function 2) _ _ c.all.result c.all.ensures.ran (YieldsList-from_slice list cc) (λ x b q k. search (rules, tests)) in
    sym (wants_by list true false (sym c.if-not-contains.false ∙ c.contains.ensures.value) (sym c.if-all.false ∙ all))

use Rattle.std.proofs.Common.{◌∙◌, ◌++◌, ◌+◌, [], ap, sym, arith, List, drop, Bool, Option, append-nil}
use Rattle.std.specs.Prelude.{unwrap_or}
use Rattle.std.proofs.lemmas.List.{at_drop_all}
use Rattle.shadow.specs.Since.{cells_written, is_touched}
use Rattle.shadow.specs.declared.known.Known.{Known}
use Rattle.shadow.specs.declared.cell_belief.BeforeWrite.{BeforeWrite}
use Rattle.shadow.proofs.Changes.{touched_on, length_written}
use Rattle.shadow.proofs.apply_write.is_field_touched.Goals as goal

pub returns-in-Some : goal.returns-in-Some
returns-in-Some c =
    let ps = c.args.beliefs.now in
    let qs = c.args.pasts.now in
    let ks = cells_written ps qs in
    let i = c.loop-at.at in
    let rest = is_touched (drop (i + 1) ks ++ ks) (drop (i + 1) qs ++ qs) in
    sym (c.loop-at.invariant ∙ touched_on ps qs ks qs i c.get.result c.past_at.result c.touch.result (omega arith) (omega arith) c.get.ensures c.past_at.ensures c.touch.ensures
    ∙ ap (λ (t : Option Bool). unwrap_or t rest) c.in-Some.is)

pub loop-at-preserved : goal.loop-at-preserved
loop-at-preserved c =
    let ps = c.args.beliefs.now in
    let qs = c.args.pasts.now in
    let ks = cells_written ps qs in
    let i = c.loop-at.at in
    let rest = is_touched (drop (i + 1) ks ++ ks) (drop (i + 1) qs ++ qs) in
    c.loop-at.invariant ∙ touched_on ps qs ks qs i c.get.result c.past_at.result c.touch.result (omega arith) (omega arith) c.get.ensures c.past_at.ensures c.touch.ensures
    ∙ ap (λ (t : Option Bool). unwrap_or t rest) c.in-None.is

pub loop-at-2-init : goal.loop-at-2-init
loop-at-2-init c =
    let ps = c.args.beliefs.now in
    let qs = c.args.pasts.now in
    let ks = cells_written ps qs in
    let i = c.loop-at.at in
    c.loop-at.invariant
    ∙ at_drop_all (λ (rest : List Known). is_touched (rest ++ ks) (drop i qs ++ qs)) ks i (omega (arith, length_written ps qs (omega arith)))
    ∙ at_drop_all (λ (rest : List BeforeWrite). is_touched ks (rest ++ qs)) qs i (omega arith)

pub returns-in-Some-touch : goal.returns-in-Some-touch
returns-in-Some-touch c =
    let ps = c.args.beliefs.now in
    let qs = c.args.pasts.now in
    let ks = cells_written ps qs in
    let i = c.loop-at-2.at in
    let rest = is_touched (drop (i + 1) ks ++ []) (drop (i + 1) qs ++ []) in
    sym (c.loop-at-2.invariant
    ∙ ap (λ (k : List Known). is_touched k (drop i qs)) (sym (append-nil (drop i ks))) ∙ ap (is_touched (drop i ks ++ [])) (sym (append-nil (drop i qs)))
    ∙ touched_on ps qs [] [] i c.get-in-loop-at-2.result c.past_at-in-loop-at-2.result c.touch-in-loop-at-2.result (omega arith) (omega arith) c.get-in-loop-at-2.ensures c.past_at-in-loop-at-2.ensures c.touch-in-loop-at-2.ensures
    ∙ ap (λ (t : Option Bool). unwrap_or t rest) c.in-Some-touch.is)

pub loop-at-2-preserved : goal.loop-at-2-preserved
loop-at-2-preserved c =
    let ps = c.args.beliefs.now in
    let qs = c.args.pasts.now in
    let ks = cells_written ps qs in
    let i = c.loop-at-2.at in
    let rest = is_touched (drop (i + 1) ks ++ []) (drop (i + 1) qs ++ []) in
    c.loop-at-2.invariant
    ∙ ap (λ (k : List Known). is_touched k (drop i qs)) (sym (append-nil (drop i ks))) ∙ ap (is_touched (drop i ks ++ [])) (sym (append-nil (drop i qs)))
    ∙ touched_on ps qs [] [] i c.get-in-loop-at-2.result c.past_at-in-loop-at-2.result c.touch-in-loop-at-2.result (omega arith) (omega arith) c.get-in-loop-at-2.ensures c.past_at-in-loop-at-2.ensures c.touch-in-loop-at-2.ensures
    ∙ ap (λ (t : Option Bool). unwrap_or t rest) c.in-None-touch.is
    ∙ ap (λ (k : List Known). is_touched k (drop (i + 1) qs ++ [])) (append-nil (drop (i + 1) ks)) ∙ ap (is_touched (drop (i + 1) ks)) (append-nil (drop (i + 1) qs))

pub returns : goal.returns
returns c =
    let ps = c.args.beliefs.now in
    let qs = c.args.pasts.now in
    let i = c.loop-at-2.at in
    sym (c.loop-at-2.invariant ∙ at_drop_all (λ (rest : List Known). is_touched rest (drop i qs)) (cells_written ps qs) i (omega (arith, length_written ps qs (omega arith))))

use Rattle.std.proofs.Common.{◌≡◌, ◌+◌, ◌∙◌, ℕ, ap, sym, subst, length, List}
use Rattle.codes3270.specs.Size.{cells_in}
use Rattle.shadow.specs.declared.cell_belief.CellBelief.{CellBelief}
use Rattle.shadow.specs.Runs.{placed}
use Rattle.shadow.proofs.StoredRuns.{run_stored, AreMarked, AreStored}
use Rattle.shadow.proofs.apply_write.store_front.Goals as goal

stored : (c : goal.After-forward) → AreStored (cells_in c.args.size) c.args.at c.forward.result c.args.text.now c.args.beliefs.now c.args.pasts.now c.hold_characters.new.self c.mark_stored.new.pasts
stored c =
    let n : ℕ = cells_in c.args.size in
    let at : ℕ = c.args.at in
    let text : List ℕ = c.args.text.now in
    let ps = c.args.beliefs.now in
    let qs = c.args.pasts.now in
    let rs = c.mark_stored.new.pasts in
    let there : c.from-from.result ≡ at = c.from-from.ensures ∙ c.get.ensures.value in
    let places : c.hold_characters.new.self ≡ placed at text ps = c.hold_characters.ensures.beliefs ∙ ap (λ (k : ℕ). placed k text ps) there in
    let marked : AreMarked at (at + length text) qs rs = subst (λ (k : ℕ). AreMarked k (k + length text) qs rs) there (c.mark_stored.ensures.size, c.mark_stored.ensures.inside, c.mark_stored.ensures.apart) in
    subst (λ (ns : List CellBelief). AreStored n at c.forward.result text ps qs ns rs) (sym places)
    (subst (λ (k : ℕ). AreStored n at k text ps qs (placed at text ps) rs) (sym c.forward.ensures.value)
    (run_stored n text at ps qs rs c.requires.some c.requires.room c.requires.whole (c.requires.size ∙ c.requires.whole) marked))

pub returns-clause-cells : goal.returns-clause-cells
returns-clause-cells c = (stored c).0

pub returns-clause-since : goal.returns-clause-since
returns-clause-since c = (stored c).1

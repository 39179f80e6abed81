use Rattle.std.proofs.Common.{inr, sym, refl, ◌∙◌}
use Rattle.std.proofs.lemmas.Bool.{false≢true}
use Rattle.panels.proofs.draft.Draft.add_if_faulty.Goals as goal

pub returns-else-has_fault : goal.returns-else-has_fault
returns-else-has_fault c = inr (λ has. false≢true (sym c.if-has_fault.false ∙ c.has_fault.ensures.1 has), refl)

use Rattle.std.proofs.Common.{◌≡◌, ◌∙◌, true, ap, sym, subst, take, All, ℕ}
use Rattle.codes3270.specs.Size.{cells_in}
use Rattle.datastream.specs.InboundText.{is_text_char}
use Rattle.datastream.specs.InboundReading.{parts_in}
use Rattle.datastream.specs.InboundFields.{leading_text}
use Rattle.datastream.proofs.InboundSlices.{split}
use Rattle.datastream.proofs.InboundData.{inbound_proper}
use Rattle.datastream.proofs.InboundViews.{lead_proper}
use Rattle.datastream.proofs.inbound.Inbound.leading_text.Goals as goal

pub returns-clause-leading_text : goal.returns-clause-leading_text
returns-clause-leading_text c = rw (← c.self.view_is) (ap (λ (n : ℕ). take n c.self.inside.text.now) c.self.invariant.2 ∙ (split _ _ _ _ c.self.invariant.1).0)

pub returns-clause-proper : goal.returns-clause-proper
returns-clause-proper c =
    let is : take c.self.inside.leading_text c.self.inside.text.now ≡ leading_text (parts_in (cells_in c.self.inside.size) c.self.inside.form c.self.inside.text.now) = ap (λ (n : ℕ). take n c.self.inside.text.now) c.self.invariant.2 ∙ (split _ _ _ _ c.self.invariant.1).0 in
    rw (← c.self.view_is) (λ other. subst (λ chars. All (λ char. is_text_char char ≡ true) chars) (sym is) (lead_proper _ c.self.inside.form _ other (inbound_proper _ c.self.invariant.0)))

pub returns-clause-sent : goal.returns-clause-sent
returns-clause-sent c = rw (← c.self.view_is) c.self.invariant.0

use Rattle.std.proofs.Common.{◌≡◌, ◌∙◌, subst, refl, length, ℕ, get_or}
use Rattle.shadow.proofs.Placed.{starts_there, address_before}
use Rattle.shadow.proofs.apply_inbound.begins_field.Goals as goal

pub returns : goal.returns
returns c =
    let whole = c.args.beliefs.now in
    let held = c.get-2.result in
    c.is_attribute.ensures
    ∙ starts_there (length whole) c.args.first c.requires whole refl held
    (subst (λ (n : ℕ). held ≡ get_or whole (address_before (length whole) n) held) c.get.ensures.value
    (subst (λ (m : ℕ). held ≡ get_or whole (address_before m c.get.result) held) c.len-cells.ensures.len c.get-2.ensures))

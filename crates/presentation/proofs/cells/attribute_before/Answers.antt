use Rattle.std.proofs.Common.{◌≡◌, ◌<◌, ◌+◌, ◌-◌, ◌%◌, ◌∙◌, ℕ, length, ap, sym, subst}
use Rattle.datastream.specs.Screen.{last_attribute, ring}
use Rattle.datastream.proofs.Fields.{attribute_before_next, back_one}
use Rattle.presentation.proofs.cells.attribute_before.Goals as goal

pub returns : goal.returns
returns c =
    let cells = c.args.cells.now in
    let n : ℕ = length cells in
    let back : c.backward.result ≡ (c.args.at + n - 1) % n = subst (λ (m : ℕ). c.backward.result ≡ (c.args.at + m - 1) % m) (sym c.requires.size) c.backward.ensures.value in
    let below : c.backward.result < n = subst (λ (m : ℕ). c.backward.result < m) (sym c.requires.size) c.backward.ensures.in_range in
    let there : (c.backward.result + 1) % n ≡ c.args.at = ap (λ (place : ℕ). (place + 1) % n) back ∙ back_one c.args.at n c.requires.address in
    c.attribute_over.ensures ∙ sym (attribute_before_next cells c.backward.result below) ∙ ap (λ (from : ℕ). last_attribute (ring from cells)) there

-- A turn of an exchange, and of one connection's among all.
use Rattle.std.proofs.Common.{◌≡◌, ◌<◌, ◌∙◌, ℕ, List, [], ◌∷◌, length, None, Option, ap, get_or, refl, slice_index_or, slice_set, subst, sym}
use Rattle.std.proofs.lemmas.List.{get_or-set_same, get_or_read_under}
use Rattle.applications.specs.ExchangeTurns.{Hears, HearsMore, slot_at}
use Rattle.applications.specs.declared.exchange.IoProgress.{IoProgress}

-- bytes that aren't the end
pub hears_more : (bytes : List ℕ) (heard : Option (List ℕ)) (progress : IoProgress) (after : Option (List ℕ)) → (length bytes ≡ 0 → ⊥)
    → HearsMore bytes heard progress after → Hears bytes heard progress after
hears_more [] heard progress after some more = absurd (some refl)
hears_more (byte ∷ bytes) heard progress after some more = more

-- what holds of a slot before and after a turn holds of that slot among all
module _ {A : Type 0} (old new : List (Option A)) (conn : ℕ) (there : conn < length old) (before after : Option A)
    (read : before ≡ slice_index_or old conn before) (set : new ≡ slice_set old conn after) where
  pub slot_before : slot_at conn old ≡ before
  slot_before = sym (get_or_read_under old conn (length old) before None read there refl)

  pub slot_after : slot_at conn new ≡ after
  slot_after = ap (λ (slots : List (Option A)). get_or slots conn None) set ∙ get_or-set_same old conn after None there

  pub turned : (Turned : Option A → Option A → Type 0) → Turned before after → Turned (slot_at conn old) (slot_at conn new)
  turned Turned turns = subst (λ it. Turned it (slot_at conn new)) (sym slot_before) (subst (λ it. Turned before it) (sym slot_after) turns)

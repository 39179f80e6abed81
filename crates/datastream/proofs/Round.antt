-- Walks over a screen, round the end.
use Rattle.std.proofs.Common.{◌≡◌, ℕ, ◌+◌, ◌-◌, ◌<◌, ◌≤◌, List, ◌∷◌, ◌++◌, length, drop, get_or, ap, sym, arith, ◌∙◌, length-append}
use Rattle.std.proofs.lemmas.List.{drop_more, get_or_append_left, get_or-append_right}

module _ {X : Type 0} (ps : List X) (n : ℕ) (size : length ps ≡ n) where
  pub step_before_end : (i : ℕ) (x : X) → i < n → x ≡ get_or ps i x → drop i (ps ++ ps) ≡ x ∷ drop (i + 1) (ps ++ ps)
  step_before_end i x low is =
      drop_more (ps ++ ps) i x (omega (arith, size, length-append ps ps))
      ∙ ap (λ (y : X). y ∷ drop (i + 1) (ps ++ ps)) (get_or_append_left ps ps x i (omega (arith, size)) ∙ sym is)

  pub step_behind_end : (i : ℕ) (x : X) → n ≤ i → i < n + n → x ≡ get_or ps (i - n) x → drop i (ps ++ ps) ≡ x ∷ drop (i + 1) (ps ++ ps)
  step_behind_end i x high low is =
      drop_more (ps ++ ps) i x (omega (arith, size, length-append ps ps))
      ∙ ap (λ (y : X). y ∷ drop (i + 1) (ps ++ ps)) (get_or-append_right ps ps n i x size high ∙ sym is)

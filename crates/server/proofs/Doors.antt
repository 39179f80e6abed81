-- How connections are held until their headers are complete.
use Rattle.std.proofs.Common.{◌≡◌, ◌++◌, ◌∷◌, [], ◌⊎◌, ◌+◌, ℕ, Bool, true, false, List, None, Result, add-one, inl, inr, refl, subst, sym}
use Rattle.std.specs.Bool.{if◌then◌else◌}
use Rattle.std.specs.declared.io.Error.{Error}
use Rattle.server.specs.ProxyListener.{AllStay, ReadsPart, ReadsParts, VisitsAt}
use Rattle.server.specs.declared.proxy_listener.HeaderProgress.TheVariants as progress
use Rattle.server.specs.declared.proxy_listener.ConnectionAwaitingHeader.{ConnectionAwaitingHeader}

pub held_if : {A : Type 0} (ok : Bool) (old new : List A) (one : A) → new ≡ (if ok then old ++ one ∷ [] else old) → (new ≡ old ++ one ∷ []) ⊎ (new ≡ old)
held_if true old new one is = inl is
held_if false old new one is = inr is

module _ {S : Type 0} (gave : S → ℕ → List ℕ → Result ℕ Error → S → Type 0) where
  pub none_read : (old : ConnectionAwaitingHeader S) → ReadsParts gave 0 old old
  unfolding ReadsParts
  none_read old = refl

  pub one_read : (count : ℕ) (old mid new : ConnectionAwaitingHeader S) → ReadsParts gave count old mid → ReadsPart gave mid progress.Moved new → ReadsParts gave (count + 1) old new
  unfolding ReadsParts
  one_read count old mid new some part =
      subst (λ n. ReadsParts gave n old new) (sym (add-one count)) (mid, some, part)

  pub none_stays : (now : ℕ) (old : List (ConnectionAwaitingHeader S)) → AllStay gave now 0 old old
  unfolding AllStay
  none_stays now old = refl

  pub one_stays : (now count : ℕ) (old mid new : List (ConnectionAwaitingHeader S)) → AllStay gave now count old mid → VisitsAt gave now count mid None new → AllStay gave now (count + 1) old new
  unfolding AllStay
  one_stays now count old mid new some visit =
      subst (λ n. AllStay gave now n old new) (sym (add-one count)) (mid, some, visit)

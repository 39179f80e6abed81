-- How visits to the numbers go on.
use Rattle.std.proofs.Common.{◌||◌, ◌+◌, add-one, refl, subst, sym, ℕ, Bool, false, Result, Ok}
use Rattle.jobs.specs.declared.fault.Fault.{Fault}
use Rattle.server.specs.Visits.{VisitsBelow}

module _ {A W : Type 0} (visited : ℕ → A → W → Result Bool Fault → A → W → Type 0) where
  pub none_yet : (old : A) (watcher : W) → VisitsBelow visited 0 old watcher false old watcher
  unfolding VisitsBelow
  none_yet old watcher = (refl, refl, refl)

  pub one_more : (conn : ℕ) (old mid new : A) (watcher hearing after : W) (before one : Bool) → VisitsBelow visited conn old watcher before mid hearing
      → visited conn mid hearing (Ok one) new after → VisitsBelow visited (conn + 1) old watcher (before || one) new after
  unfolding VisitsBelow
  one_more conn old mid new watcher hearing after before one visits visit =
      subst (λ n. VisitsBelow visited n old watcher (before || one) new after) (sym (add-one conn)) (before, one, mid, hearing, visits, visit, refl)

-- A turn more, and how a turn breaks off.
use Rattle.std.proofs.Common.{◌≡◌, ◌+◌, add-one, ℕ, Bool, false, IfErr, Result, Ok, Err, subst, sym}
use Rattle.std.specs.Result.{IsErrAnd}
use Rattle.server.specs.ServiceTurns.{BreaksOff, TakesTurns, TakesWhole}
use Rattle.jobs.specs.declared.fault.Fault.{Fault}

module _ {S : Type 0} (served timed : S → Bool → Result Bool Fault → S → Type 0) (consulted obeyed : S → Result Bool Fault → S → Type 0)
    (told : S → Bool → S → Type 0) where
  pub turn_more : (is_over : S → Bool) (count : ℕ) (old mid new : S) (before busy : Bool)
      → TakesTurns served timed consulted obeyed told is_over count old before mid → is_over mid ≡ false
      → TakesWhole served timed consulted obeyed told mid before busy new
      → TakesTurns served timed consulted obeyed told is_over (count + 1) old busy new
  turn_more is_over count old mid new before busy turns goes_on whole =
      subst (λ n. TakesTurns served timed consulted obeyed told is_over n old busy new) (sym (add-one count))
      (before, mid, turns, goes_on, whole)

  pub breaks_off : (result : Result Bool Fault) (why : Fault) (old new : S) (busy : Bool) → IsErrAnd result (λ fault. fault ≡ why)
      → BreaksOff served timed consulted obeyed told old busy why new
      → IfErr result (λ fault. BreaksOff served timed consulted obeyed told old busy fault new)
  breaks_off (Ok did) why old new busy is breaks = absurd is
  breaks_off (Err fault) why old new busy is breaks = subst (λ it. BreaksOff served timed consulted obeyed told old busy it new) (sym is) breaks

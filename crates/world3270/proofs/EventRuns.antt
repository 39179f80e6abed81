-- Events over bytes happen one after another, and one more.
use Rattle.std.proofs.Common.{◌≡◌, ◌<◌, ◌+◌, ◌++◌, take, ℕ, List, [], ◌∷◌, None, length, get_or, refl, sym, subst}
use Rattle.std.proofs.lemmas.List.{take_more}
use Rattle.world3270.specs.model.ByteRuns.{AllHappen, refused_at}
use Rattle.world3270.specs.model.ByteSteps.{Steps}
use Rattle.world3270.specs.model.ByteWorld.{ByteWorld}
use Rattle.world3270.specs.declared.event.Event.{Event}
use Rattle.world3270.specs.declared.event.Stepped.{Stepped}

happen_more : (old : ByteWorld) (events : List Event) (mid : ByteWorld) (event : Event) (answer : Stepped) (new : ByteWorld)
    → AllHappen events old mid → Steps event mid answer new → refused_at answer ≡ None → AllHappen (events ++ event ∷ []) old new
happen_more old [] mid event answer new none steps goes =
    (answer, new, subst (λ (w : ByteWorld). Steps event w answer new) none steps, goes, refl)
happen_more old (first ∷ events) mid event answer new all steps goes =
    (all.0, all.1, all.2, all.3, happen_more all.1 events mid event answer new all.4 steps goes)

pub one_more : (old : ByteWorld) (events : List Event) (index : ℕ) (d : Event) (mid : ByteWorld) (answer : Stepped) (new : ByteWorld) → index < length events
    → AllHappen (take index events) old mid → Steps (get_or events index d) mid answer new → refused_at answer ≡ None
    → AllHappen (take (index + 1) events) old new
one_more old events index d mid answer new below all steps goes =
    subst (λ (es : List Event). AllHappen es old new) (sym (take_more events index d below))
    (happen_more old (take index events) mid (get_or events index d) answer new all steps goes)

-- What takes place, and what it leaves as it is.
use Rattle.std.proofs.Common.{◌≡◌, ◌∙◌, ℕ, Bool, true, false, List, [], ◌∷◌, ◌++◌, Option, None, Some, length, refl, ap, subst, zero, suc, if◌then◌else◌}
use Rattle.std.proofs.lemmas.List.{length-set}
use Rattle.tn3270e_msg.specs.declared.cause.Stop.{Stop}
use Rattle.tn3270e_msg.specs.declared.cause.Stop.TheVariants as stop
use Rattle.world3270.specs.model.ByteRuns.{AllHappen, refused_at}
use Rattle.world3270.specs.model.ByteSteps.{Connects, IsStep, IsStepIf, Presses, Steps, GoesDown, ConnectsIf, down_came, is_enabled, host_gone, host_gone_below, host_gone_if, host_told, saw_loss, terminal_anew, terminal_gone_if, terminal_told}
use Rattle.world3270.specs.model.ByteWorld.{ByteWorld, TerminalSlot, alone, host_there, is_senders, model_at, new_slot, slot_at, terminal_at, transits_at, with_slot}
use Rattle.world3270.specs.declared.event.Event.{Event}
use Rattle.world3270.specs.declared.event.Event.TheVariants as event
use Rattle.world3270.specs.declared.event.Stepped.{Stepped}
use Rattle.scripts.specs.Happenings.{Happening, TakePlace, events_of}

pub then_take_place : (front back : List Happening) (old mid new : ByteWorld) → TakePlace front old mid → TakePlace back mid new → TakePlace (front ++ back) old new
then_take_place [] back old mid new none more = subst (λ (w : ByteWorld). TakePlace back w new) none more
then_take_place (first ∷ front) back old mid new all more = (all.0, all.1, all.2, then_take_place front back all.0 mid new all.3 more)

-- one event
pub takes_place : (event : Event) (answer : Stepped) (old new : ByteWorld) → Steps event old answer new → refused_at answer ≡ None
    → TakePlace (record { event = event; answer = answer } ∷ []) old new
takes_place event answer old new steps whole = (new, steps, whole, refl)

pub are_one_run : (happenings : List Happening) (old new : ByteWorld) → TakePlace happenings old new → AllHappen (events_of happenings) old new
are_one_run [] old new none = none
are_one_run (first ∷ others) old new all = (first.answer, all.0, all.1, all.2, are_one_run others all.0 new all.3)

-- ---- a world keeps its terminals

abbrev AsMany : ByteWorld → ByteWorld → Type 0
AsMany old new = length new.slots ≡ length old.slots

as_many : (made old new : ByteWorld) → new ≡ made → AsMany old made → AsMany old new
as_many made old new is same = ap (λ (w : ByteWorld). length w.slots) is ∙ same

one_sits : (terminal : ℕ) (slot : TerminalSlot) (old : ByteWorld) → AsMany old (with_slot terminal slot old)
one_sits terminal slot old = length-set old.slots terminal slot

host_leaves_if : (there : Bool) (number : ℕ) (old : ByteWorld) → AsMany old (if there then host_gone number old else old)
host_leaves_if true number old = refl
host_leaves_if false number old = refl

host_leaves_all : (number : ℕ) (old : ByteWorld) → AsMany old (host_gone_below number old)
unfolding host_gone_below
host_leaves_all zero old = refl
host_leaves_all (suc number) old =
    host_leaves_if (host_there number (host_gone_below number old)) number (host_gone_below number old) ∙ host_leaves_all number old

terminal_is_told : (tells : Bool) (count : ℕ) (at : Option ℕ) (old : ByteWorld) → AsMany old (terminal_told tells count at old)
terminal_is_told true count (Some terminal) old = one_sits terminal _ old
terminal_is_told true count None old = refl
terminal_is_told false count at old = refl

host_is_told : (tells : Bool) (count number : ℕ) (old : ByteWorld) → AsMany old (host_told tells count number old)
host_is_told true count number old = refl
host_is_told false count number old = refl

host_is_gone : (why : Stop) (number : ℕ) (old : ByteWorld) → AsMany old (host_gone_if why number old)
host_is_gone stop.Going number old = refl
host_is_gone stop.Memory number old = refl
host_is_gone (stop.Closed cause) number old = refl

terminal_is_gone : (why : Stop) (terminal number : ℕ) (old : ByteWorld) → AsMany old (terminal_gone_if why terminal number old)
terminal_is_gone stop.Going terminal number old = refl
terminal_is_gone stop.Memory terminal number old = refl
terminal_is_gone (stop.Closed cause) terminal number old = one_sits terminal _ old

pressed : (terminal : ℕ) (key : _) (old : ByteWorld) (answer : Stepped) (new : ByteWorld) → Presses terminal key old answer new → AsMany old new
pressed terminal key old answer new (Presses.refused lacks is same) = as_many old old new same refl
pressed terminal key old answer new (Presses.done is made) = as_many _ old new made (one_sits terminal _ old)

connects : (terminal : ℕ) (wanted : Option (List ℕ)) (number : Option ℕ) (old : ByteWorld) (answer : Stepped) (new : ByteWorld)
    → ConnectsIf terminal wanted number old answer new → AsMany old new
connects terminal wanted None old answer new made = absurd made
connects terminal wanted (Some number) old answer new (Connects.refused is same) = as_many old old new same refl
connects terminal wanted (Some number) old answer new (Connects.done is made) = as_many _ old new made (one_sits terminal _ old)

came_down : (at : Option ℕ) (number : ℕ) (bytes : List ℕ) (old : ByteWorld) (answer : Stepped) (new : ByteWorld)
    → GoesDown at number bytes old answer new → AsMany old new
came_down None number bytes old answer new comes = absurd comes
came_down (Some terminal) number bytes old answer new comes =
    let newly_tracked : ByteWorld = with_slot terminal (record (slot_at terminal old) { tracked = comes.tracked }) old in
    as_many _ old new comes.leaves
    (terminal_is_gone comes.fed.stop terminal number (down_came comes.fed.taken number newly_tracked)
    ∙ host_is_told (is_senders (transits_at number newly_tracked).down) comes.fed.taken number newly_tracked ∙ one_sits terminal _ old)

sees : (terminal : ℕ) (at : Option ℕ) (old : ByteWorld) → AsMany old (saw_loss terminal at old)
sees terminal None old = refl
sees terminal (Some number) old = one_sits terminal (alone (slot_at terminal old)) old

begins_anew : (terminal : ℕ) (at : Option ℕ) (old : ByteWorld) → AsMany old (terminal_anew terminal at old)
begins_anew terminal None old = one_sits terminal (new_slot (model_at terminal old)) old
begins_anew terminal (Some number) old = one_sits terminal (new_slot (model_at terminal old)) old

stepped_by : (event : Event) (old : ByteWorld) (answer : Stepped) (new : ByteWorld) → IsStep event old answer new → AsMany old new
stepped_by (event.Key terminal key) old answer new made = pressed terminal key old answer new made
stepped_by (event.Up number count) old answer new comes =
    as_many _ old new comes.leaves
    (host_is_gone comes.fed.stop number _ ∙ terminal_is_told (is_senders (transits_at number old).up) comes.fed.taken (terminal_at number old.slots) _)
stepped_by (event.Down number count) old answer new comes = came_down (terminal_at number old.slots) number _ old answer new comes
stepped_by (event.Act number) old answer new acts = as_many _ old new acts.leaves refl
stepped_by (event.Answer number ticket said) old answer new acts = as_many _ old new acts.leaves refl
stepped_by (event.Note number text) old answer new acts = as_many _ old new acts.leaves refl
stepped_by (event.KeepAlive number) old answer new is = as_many _ old new is.1 refl
stepped_by (event.Lose number) old answer new is = as_many _ old new is.1 refl
stepped_by (event.HostSees number) old answer new is = as_many _ old new is.1 refl
stepped_by (event.TermSees terminal) old answer new is = as_many _ old new is.1 (sees terminal (slot_at terminal old).at old)
stepped_by (event.Connect terminal wanted) old answer new made = connects terminal wanted _ old answer new made
stepped_by (event.RestartTerm terminal) old answer new is = as_many _ old new is.1 (begins_anew terminal (slot_at terminal old).at old)
stepped_by event.RestartHost old answer new is = as_many _ old new is.1 (host_leaves_all _ old)

happens_if : (place : Bool) (event : Event) (old : ByteWorld) (answer : Stepped) (new : ByteWorld) → IsStepIf place event old answer new → AsMany old new
happens_if true event old answer new made = stepped_by event old answer new made
happens_if false event old answer new same = as_many old old new same.1 refl

pub slots_stay : (happenings : List Happening) (old new : ByteWorld) → TakePlace happenings old new → length new.slots ≡ length old.slots
slots_stay [] old new none = as_many old old new none refl
slots_stay (first ∷ others) old new all =
    slots_stay others all.0 new all.3 ∙ happens_if (is_enabled first.event old) first.event old first.answer all.0 all.1

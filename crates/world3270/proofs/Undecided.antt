-- What each step but a decision keeps of a connection holds there as long as the host decides nothing: first over messages, then over bytes.
use Rattle.std.proofs.Common.{◌≡◌, ◌==◌, ◌||◌, not, ℕ, zero, suc, Bool, true, false, Option, None, Some, List, [], ◌∷◌, ◌++◌, length, refl, ap, sym, subst, ◌∙◌, if◌then◌else◌}
use Rattle.std.specs.List.{range_with_len}
use Rattle.std.specs.Prelude.{is_some, replicate}
use Rattle.std.proofs.lemmas.Bool.{eqb-true}
use Rattle.keyboard.specs.declared.key.Key.{Key}
use Rattle.lu_pool.specs.Asking.{answer_to}
use Rattle.tn3270e_msg.specs.declared.cause.Cause.{Cause}
use Rattle.host_core.specs.Acts.{acted}
use Rattle.host_core.specs.Application.{Application, application_of}
use Rattle.host_core.specs.Messages.{ToTerminal, ToHost}
use Rattle.host_core.specs.Notes.{noted}
use Rattle.host_core.specs.Questions.{answered_on}
use Rattle.host_core.specs.State.{state_at}
use Rattle.host_core.specs.Takes.{Answers, HostStep, took as host_took}
use Rattle.host_core.specs.declared.question.Answer.{Answer as ApplicationAnswer}
use Rattle.host_core.specs.declared.question.Ticket.{Ticket}
use Rattle.world3270.specs.model.ByteSteps.{IsStepIf, Steps}
use Rattle.world3270.specs.model.ByteWorld.{ByteWorld, is_there}
use Rattle.world3270.specs.model.Steps.{came_down, came_up, done, stepped_by, joined, key_went, run, term_anew, term_saw, went_down}
use Rattle.world3270.specs.model.Link.{Link, cut, host_left, host_left_if, host_sent, host_stepped, is_free, sent, term_left, term_left_if, term_stepped}
use Rattle.world3270.specs.model.Enabled.{free_number, is_enabled}
use Rattle.world3270.specs.refinement.Refines.{AreValidEvents, WorldSetup, GoesOn, IsWorldSetup, IsValidEvent, Reached, SameSkips, StepsAreSimulated, after, once, once_taken}
use Rattle.world3270.specs.statement.ScreensFound.{HostRestsOver, decides_over}
use Rattle.world3270.specs.statement.ShownSince.{DecidesNothing, HostRests}
use Rattle.world3270.specs.refinement.Represents.{all_items, without_nops}
use Rattle.world3270.specs.model.Terminal.{TermStep, key_came, took as term_took}
use Rattle.world3270.specs.model.World.{Event, Place, World, display_at, link_count, with_at}
use Rattle.world3270.specs.declared.event.Event.{Event as ByteEvent}
use Rattle.world3270.specs.declared.event.Event.TheVariants as event
use Rattle.world3270.specs.declared.event.Stepped.{Stepped}
use Rattle.world3270.specs.declared.event.Stepped.TheVariants as stepped
use Rattle.world3270.proofs.Known.{after_more}
use Rattle.world3270.proofs.Leaving.{if_placed, one_kept, other_kept}
use Rattle.world3270.proofs.Others.{closed_link}
use Rattle.world3270.proofs.Places.{found_passes}

-- what each step keeps of a connection, but a decision of the host there
pub record Keeps (Holds : Link → Type 0) : Type 0 where
  pub up : (pool : Answers) (link : Link) (message : ToHost) (rest : List ToHost) → link.up ≡ message ∷ rest → Holds link
      → let step = host_took pool link.host message in Holds (record link { up = rest; host = step.conn; down = sent link.lost link.down step.sends })
  pub down : (link : Link) (message : ToTerminal) (rest : List ToTerminal) → link.down ≡ message ∷ rest → Holds link
      → let step = term_took link.term message in Holds (record link { down = rest; term = step.end; up = sent link.lost link.up step.sends })
  pub key : (key : Key) (link : Link) → Holds link → Holds (term_stepped (key_came key link.term) link.down link)
  pub notes : (text : List ℕ) (link : Link) → Holds link → Holds (host_sent (noted text link.host) link)
  pub loses : (link : Link) → Holds link → Holds (cut link)
  pub host_leaves : (link : Link) → Holds link → Holds (host_left link)
  pub term_leaves : (link : Link) → Holds link → Holds (term_left link)

-- ---- one event over messages

abbrev IsHere : Link → Type 0
IsHere link = link.host_here ≡ true

module _ (app : Application) (Holds : Link → Type 0) (keeps : Keeps Holds) (number : ℕ) where
  abbrev HoldsIn : World → Type 0
  HoldsIn world = Holds (world.link number)

  host_left_holds : (cause : Option Cause) (link : Link) → Holds link → Holds (host_left_if cause link)
  host_left_holds None link holds = holds
  host_left_holds (Some cause) link holds = keeps.host_leaves link holds

  term_left_holds : (cause : Option Cause) (link : Link) → Holds link → Holds (term_left_if cause link)
  term_left_holds None link holds = holds
  term_left_holds (Some cause) link holds = keeps.term_leaves link holds

  came_up_holds : (at : ℕ) (up : List ToHost) (world : World) → (world.link at).up ≡ up → HoldsIn world → HoldsIn (came_up at up world)
  came_up_holds at [] world is holds = holds
  came_up_holds at (message ∷ rest) world is holds =
      let step : HostStep = host_took (answer_to world.pool) (world.link at).host message in
      subst (λ (links : ℕ → Link). Holds (links number)) (sym (closed_link step.closes _))
      (one_kept Holds at (host_stepped step rest (world.link at)) world.link
      (λ (was : Holds (world.link at)). host_left_holds step.closes _ (keeps.up (answer_to world.pool) (world.link at) message rest is was)) number holds)

  came_down_holds : (at terminal : ℕ) (down : List ToTerminal) (world : World) → (world.link at).down ≡ down → HoldsIn world → HoldsIn (came_down at terminal down world)
  came_down_holds at terminal [] world is holds = holds
  came_down_holds at terminal (message ∷ rest) world is holds =
      let step : TermStep = term_took (world.link at).term message in
      subst (λ (links : ℕ → Link). Holds (links number)) (sym (closed_link step.closes _))
      (one_kept Holds at (term_stepped step rest (world.link at)) world.link
      (λ (was : Holds (world.link at)). term_left_holds step.closes _ (keeps.down (world.link at) message rest is was)) number holds)

  went_down_holds : (at : ℕ) (here : Option ℕ) (world : World) → HoldsIn world → HoldsIn (went_down at here world)
  went_down_holds at None world holds = holds
  went_down_holds at (Some terminal) world holds = came_down_holds at terminal (world.link at).down world refl holds

  up_holds : (at : ℕ) (world : World) → HoldsIn world → HoldsIn (stepped_by app (Event.Up at) world)
  up_holds at world holds =
      if_placed HoldsIn (is_enabled app (Event.Up at) world) (done app (Event.Up at) world) world holds (came_up_holds at (world.link at).up world refl holds)

  down_holds : (at : ℕ) (world : World) → HoldsIn world → HoldsIn (stepped_by app (Event.Down at) world)
  down_holds at world holds =
      if_placed HoldsIn (is_enabled app (Event.Down at) world) (done app (Event.Down at) world) world holds (went_down_holds at (world.link at).term_here world holds)

  -- nobody connects by a number that the host holds
  joined_holds : (terminal : ℕ) (wanted : Option (List ℕ)) (found : Option ℕ) (world : World) → free_number world.link ≡ found → IsHere (world.link number) → HoldsIn world
      → HoldsIn (joined app terminal (display_at world (world.place terminal)).model wanted found world)
  joined_holds terminal wanted None world is here holds = holds
  joined_holds terminal wanted (Some at) world is here holds = by_number (number == at) refl
    where
      held : (host_here : Bool) (others : Bool) → host_here ≡ true → not (host_here || others) ≡ true → ⊥
      held true others here free = absurd (cc)
      held false others here free = absurd (cc)

      by_number : (b : Bool) → (number == at) ≡ b → HoldsIn (joined app terminal (display_at world (world.place terminal)).model wanted (Some at) world)
      by_number false differs = other_kept Holds at _ world.link number differs holds
      by_number true same =
          let free : is_free (world.link at) ≡ true = found_passes (λ n. is_free (world.link n)) (range_with_len 0 link_count) at is in
          let its : is_free (world.link number) ≡ true = ap (λ (n : ℕ). is_free (world.link n)) (eqb-true number at same) ∙ free in
          absurd (held (world.link number).host_here (is_some (world.link number).term_here) here its)

  anew_holds : (world : World) → HoldsIn world → HoldsIn (done app Event.RestartHost world)
  anew_holds world holds = by_here (world.link number).host_here
    where
      by_here : (b : Bool) → Holds (if b then host_left (world.link number) else world.link number)
      by_here true = keeps.host_leaves (world.link number) holds
      by_here false = holds

  -- an act, or an answer, that is skipped there or is elsewhere
  decided_holds : (it : Event) (at : ℕ) (link : Link) (world : World) → decides_over number it ≡ (number == at) → (decides_over number it ≡ true → is_enabled app it world ≡ false)
      → World.link (done app it world) ≡ with_at at link world.link → HoldsIn world → HoldsIn (stepped_by app it world)
  decided_holds it at link world its none made holds = by_number (number == at) refl
    where
      by_number : (b : Bool) → (number == at) ≡ b → HoldsIn (stepped_by app it world)
      by_number true same = subst (λ (place : Bool). HoldsIn (if place then done app it world else world)) (sym (none (its ∙ same))) holds
      by_number false differs =
          if_placed HoldsIn (is_enabled app it world) (done app it world) world holds
          (subst (λ (links : ℕ → Link). Holds (links number)) (sym made) (other_kept Holds at link world.link number differs holds))

  event_holds : (it : Event) (world : World) → (decides_over number it ≡ true → is_enabled app it world ≡ false) → IsHere (world.link number) → HoldsIn world → HoldsIn (stepped_by app it world)
  event_holds (Event.Press terminal key) world none here holds =
      if_placed HoldsIn (is_enabled app (Event.Press terminal key) world) (done app (Event.Press terminal key) world) world holds (by_place (world.place terminal))
    where
      by_place : (place : Place) → HoldsIn (key_went terminal key place world)
      by_place (Place.At at) = one_kept Holds at _ world.link (keeps.key key (world.link at)) number holds
      by_place (Place.Alone display) = holds
  event_holds (Event.Up at) world none here holds = up_holds at world holds
  event_holds (Event.Down at) world none here holds = down_holds at world holds
  event_holds (Event.Act at) world none here holds = decided_holds (Event.Act at) at (host_sent (acted app (world.link at).host) (world.link at)) world refl none refl holds
  event_holds (Event.Answer at said) world none here holds =
      decided_holds (Event.Answer at said) at (host_sent (answered_on app (world.link at).host said) (world.link at)) world refl none refl holds
  event_holds (Event.Note at text) world none here holds =
      if_placed HoldsIn (is_enabled app (Event.Note at text) world) (done app (Event.Note at text) world) world holds
      (one_kept Holds at _ world.link (keeps.notes text (world.link at)) number holds)
  event_holds (Event.Lose at) world none here holds =
      if_placed HoldsIn (is_enabled app (Event.Lose at) world) (done app (Event.Lose at) world) world holds (one_kept Holds at _ world.link (keeps.loses (world.link at)) number holds)
  event_holds (Event.HostSees at) world none here holds =
      if_placed HoldsIn (is_enabled app (Event.HostSees at) world) (done app (Event.HostSees at) world) world holds
      (one_kept Holds at _ world.link (keeps.host_leaves (world.link at)) number holds)
  event_holds (Event.TermSees terminal) world none here holds =
      if_placed HoldsIn (is_enabled app (Event.TermSees terminal) world) (done app (Event.TermSees terminal) world) world holds (by_place (world.place terminal))
    where
      by_place : (place : Place) → HoldsIn (term_saw terminal place world)
      by_place (Place.At at) = one_kept Holds at _ world.link (keeps.term_leaves (world.link at)) number holds
      by_place (Place.Alone display) = holds
  event_holds (Event.Connect terminal wanted) world none here holds =
      if_placed HoldsIn (is_enabled app (Event.Connect terminal wanted) world) (done app (Event.Connect terminal wanted) world) world holds
      (joined_holds terminal wanted (free_number world.link) world refl here holds)
  event_holds (Event.RestartTerm terminal) world none here holds =
      if_placed HoldsIn (is_enabled app (Event.RestartTerm terminal) world) (done app (Event.RestartTerm terminal) world) world holds (by_place (world.place terminal))
    where
      by_place : (place : Place) → HoldsIn (term_anew app terminal place world)
      by_place (Place.At at) = one_kept Holds at _ world.link (keeps.term_leaves (world.link at)) number holds
      by_place (Place.Alone display) = holds
  event_holds Event.RestartHost world none here holds =
      if_placed HoldsIn (is_enabled app Event.RestartHost world) (done app Event.RestartHost world) world holds (anew_holds world holds)

  -- ---- events, one after another

  all_hold : (it : Event) → ((world : World) → HoldsIn world → HoldsIn (stepped_by app it world)) → (count : ℕ) (world : World) → HoldsIn world → HoldsIn (run app (replicate count it) world)
  all_hold it goes zero world holds = holds
  all_hold it goes (suc count) world holds = all_hold it goes count (stepped_by app it world) (goes world holds)

  pub rests_hold_over : (events : List Event) (world : World) → HostRestsOver app number events world → HoldsIn world → HoldsIn (run app events world)
  rests_hold_over [] world rests holds = holds
  rests_hold_over (it ∷ events) world rests holds = rests_hold_over events (stepped_by app it world) rests.2 (event_holds it world rests.1 rests.0 holds)

-- ---- one event over bytes

-- it holds of the connection over messages that this one represents
pub record HoldsAt (Holds : Link → Type 0) (number : ℕ) (begin : WorldSetup) (bytes : ByteWorld) : Type 0 where
  pub events : List Event
  pub reached : Reached begin events bytes
  pub holds : Holds ((after begin events).link number)

module _ (skips : SameSkips) (begin : WorldSetup) (is : IsWorldSetup begin) (Holds : Link → Type 0) (keeps : Keeps Holds) (number : ℕ) (events : List Event) (old : ByteWorld) (answer : Stepped)
    (new : ByteWorld) (reached : Reached begin events old) (here : IsHere ((after begin events).link number)) (holds : Holds ((after begin events).link number)) where
  -- what these events leave
  abbrev Leave : List Event → Type 0
  Leave more = Holds ((run (application_of begin.panels) more (after begin events)).link number)

  once_holds : (it : Event) → (decides_over number it ≡ true → is_enabled (application_of begin.panels) it (after begin events) ≡ false) → (a : Stepped) → Leave (once it a)
  once_holds it none stepped.Done = event_holds (application_of begin.panels) Holds keeps number it (after begin events) none here holds
  once_holds it none (stepped.Refused why) = event_holds (application_of begin.panels) Holds keeps number it (after begin events) none here holds
  once_holds it none stepped.Skipped = event_holds (application_of begin.panels) Holds keeps number it (after begin events) none here holds
  once_holds it none (stepped.Part taken) = event_holds (application_of begin.panels) Holds keeps number it (after begin events) none here holds
  once_holds it none stepped.Memory = holds

  other_holds : (it : Event) → decides_over number it ≡ false → (more : List Event) → more ≡ once it answer → Leave more
  other_holds it other more comes = subst Leave (sym comes) (once_holds it (λ decides. absurd (let wrong = sym other ∙ decides in cc)) answer)

  answer_holds : (at : ℕ) (ticket : Ticket) (said : ApplicationAnswer) → DecidesNothing number (event.Answer at ticket said) old → Steps (event.Answer at ticket said) old answer new
      → (more : List Event) → more ≡ once_taken (Event.Answer at said) answer → Leave more
  answer_holds at ticket said none steps more comes = by_number (number == at) refl
    where
      by_taken : (a : Stepped) → (number == at) ≡ false → Leave (once_taken (Event.Answer at said) a)
      by_taken stepped.Done other = once_holds (Event.Answer at said) (λ decides. absurd (let wrong = sym other ∙ decides in cc)) stepped.Done
      by_taken (stepped.Refused why) other = holds
      by_taken stepped.Skipped other = holds
      by_taken (stepped.Part taken) other = holds
      by_taken stepped.Memory other = holds

      by_number : (b : Bool) → (number == at) ≡ b → Leave more
      by_number false other = subst Leave (sym comes) (by_taken answer other)
      by_number true same =
          let skipped = subst (λ (p : Bool). IsStepIf p (event.Answer at ticket said) old answer new) (none same) steps in
          subst Leave (sym (comes ∙ ap (once_taken (Event.Answer at said)) skipped.0)) holds

  leaves : (it : ByteEvent) → DecidesNothing number it old → Steps it old answer new → (goes : GoesOn begin events it old answer new) → Leave goes.more
  leaves (event.Key terminal key) none steps goes = other_holds (Event.Press terminal key) refl goes.more goes.comes_to
  leaves (event.Up at count) none steps goes =
      subst Leave (sym goes.comes_to.one_each)
      (all_hold (application_of begin.panels) Holds keeps number (Event.Up at) (up_holds (application_of begin.panels) Holds keeps number at)
      (length (all_items goes.comes_to.completed)) (after begin events) holds)
  leaves (event.Down at count) none steps goes =
      subst Leave (sym goes.comes_to.one_each)
      (all_hold (application_of begin.panels) Holds keeps number (Event.Down at) (down_holds (application_of begin.panels) Holds keeps number at)
      (length (without_nops goes.comes_to.completed)) (after begin events) holds)
  leaves (event.Act at) none steps goes =
      subst Leave (sym goes.comes_to) (once_holds (Event.Act at) (λ decides. sym (skips begin events (event.Act at) old is reached tt) ∙ none decides) answer)
  leaves (event.Answer at ticket said) none steps goes = answer_holds at ticket said none steps goes.more goes.comes_to
  leaves (event.Note at text) none steps goes = other_holds (Event.Note at text) refl goes.more goes.comes_to
  leaves (event.KeepAlive at) none steps goes = subst Leave (sym goes.comes_to) holds
  leaves (event.Lose at) none steps goes = other_holds (Event.Lose at) refl goes.more goes.comes_to
  leaves (event.HostSees at) none steps goes = other_holds (Event.HostSees at) refl goes.more goes.comes_to
  leaves (event.TermSees terminal) none steps goes = other_holds (Event.TermSees terminal) refl goes.more goes.comes_to
  leaves (event.Connect terminal wanted) none steps goes = other_holds (Event.Connect terminal wanted) refl goes.more goes.comes_to
  leaves (event.RestartTerm terminal) none steps goes = other_holds (Event.RestartTerm terminal) refl goes.more goes.comes_to
  leaves event.RestartHost none steps goes = other_holds Event.RestartHost refl goes.more goes.comes_to

module _ (go : StepsAreSimulated) (skips : SameSkips) (begin : WorldSetup) (is : IsWorldSetup begin) (Holds : Link → Type 0) (keeps : Keeps Holds) (number : ℕ) where
  pub step_holds : (it : ByteEvent) (old : ByteWorld) (answer : Stepped) (new : ByteWorld) → IsValidEvent it → Steps it old answer new → is_there (state_at number old.host) ≡ true → DecidesNothing number it old
      → HoldsAt Holds number begin old → HoldsAt Holds number begin new
  step_holds it old answer new real steps there none at =
      let goes = go begin at.events it old answer new is at.reached real steps in
      let here : IsHere ((after begin at.events).link number) = sym (at.reached.stands.links number).host_here ∙ there in
      record {
        events = at.events ++ goes.more;
        reached = goes.reached;
        holds = subst (λ (w : World). Holds (w.link number)) (sym (after_more begin at.events goes.more)) (leaves skips begin is Holds keeps number at.events old answer new at.reached here at.holds it none steps goes);
      }

  -- and so after events by which the host decides nothing there
  pub rests_hold : (events : List ByteEvent) (old new : ByteWorld) → AreValidEvents events → HostRests number events old new → HoldsAt Holds number begin old → HoldsAt Holds number begin new
  rests_hold [] old new real rests at = subst (HoldsAt Holds number begin) (sym rests) at
  rests_hold (it ∷ events) old new real rests at =
      rests_hold events rests.1 new real.1 rests.5 (step_holds it old rests.0 rests.1 real.0 rests.2 rests.3 rests.4 at)

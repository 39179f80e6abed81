-- An end leaves its connection by the events that make it leave, and by no other: first over messages, then over bytes.
use Rattle.std.proofs.Common.{◌≡◌, ◌==◌, ℕ, Bool, true, false, Option, None, Some, List, ◌++◌, refl, ap, sym, subst, ◌∙◌, if◌then◌else◌, inl, inr}
use Rattle.std.proofs.lemmas.Bool.{and_parts, eqb-true}
use Rattle.std.proofs.lemmas.List.{append-nil}
use Rattle.keyboard.specs.declared.key.Key.{Key}
use Rattle.host_core.specs.Acts.{Sent, acted}
use Rattle.host_core.specs.Application.{Application, application_of}
use Rattle.host_core.specs.Notes.{noted}
use Rattle.host_core.specs.Questions.{answered_on}
use Rattle.host_core.specs.declared.question.Answer.{Answer as ApplicationAnswer}
use Rattle.std.specs.Prelude.{◌⊎◌}
use Rattle.world3270.specs.model.ByteWorld.{ByteWorld, host_there, terminal_at}
use Rattle.world3270.specs.model.Steps.{done, stepped_by, joined, key_went, run, term_anew, term_saw}
use Rattle.world3270.specs.refinement.MessageLaws.{WorldLaws}
use Rattle.world3270.specs.model.Link.{Link, host_sent}
use Rattle.world3270.specs.model.Enabled.{free_number, is_enabled, is_terminal, may_connect}
use Rattle.world3270.specs.refinement.Refines.{WorldSetup, IsWorldSetup, Reached, GoesOn, after, once, once_taken}
use Rattle.world3270.specs.statement.Unbroken.{EndsStay, NobodyCloses}
use Rattle.world3270.specs.model.Terminal.{Display, after_key}
use Rattle.world3270.specs.model.World.{Place, World, Event, with_at, display_at}
use Rattle.world3270.specs.declared.event.Event.{Event as ByteEvent}
use Rattle.world3270.specs.declared.event.Event.TheVariants as event
use Rattle.world3270.specs.declared.event.Stepped.{Stepped}
use Rattle.world3270.specs.declared.event.Stepped.TheVariants as stepped
use Rattle.world3270.proofs.Known.{after_more, facts_now}
use Rattle.world3270.proofs.Unbroken.{down_same, up_same}

-- ---- one of many changed

-- what holds of each of them still does, where it goes on to hold of the one that changed
pub one_kept : {X : Type 0} (P : X → Type 0) (number : ℕ) (new : X) (old : ℕ → X) → (P (old number) → P new) → (other : ℕ) → P (old other) → P (with_at number new old other)
one_kept {X} P number new old keeps other was = by_test (other == number) refl
  where
    by_test : (b : Bool) → (other == number) ≡ b → P (if b then new else old other)
    by_test true e = keeps (subst (λ (n : ℕ). P (old n)) (eqb-true other number e) was)
    by_test false e = was

pub other_kept : {X : Type 0} (P : X → Type 0) (number : ℕ) (new : X) (old : ℕ → X) (other : ℕ) → (other == number) ≡ false → P (old other) → P (with_at number new old other)
other_kept {X} P number new old other differs was = subst (λ (b : Bool). P (if b then new else old other)) (sym differs) was

-- an event happened, or was skipped
pub if_placed : (P : World → Type 0) (place : Bool) (made old : World) → P old → P made → P (if place then made else old)
if_placed P true made old was now = now
if_placed P false made old was now = was

-- ---- the host

abbrev IsHere : Link → Type 0
IsHere link = link.host_here ≡ true

-- the host is still there after the event
abbrev HostKept : Application → Event → ℕ → Type 0
HostKept app event number = (world : World) → IsHere (world.link number) → IsHere ((stepped_by app event world).link number)

abbrev HostIs : ℕ → World → Type 0
HostIs number world = IsHere (world.link number)

still_sends : (sending : Option Sent) (link : Link) → IsHere link → IsHere (host_sent sending link)
still_sends None link is = is
still_sends (Some sending) link is = is

key_host : (app : Application) (terminal : ℕ) (key : Key) (number : ℕ) → HostKept app (Event.Press terminal key) number
key_host app terminal key number world is =
    if_placed (HostIs number) (is_enabled app (Event.Press terminal key) world) (done app (Event.Press terminal key) world) world is (by_place (world.place terminal))
  where
    by_place : (place : Place) → HostIs number (key_went terminal key place world)
    by_place (Place.At at) = one_kept IsHere at _ world.link (λ (h : IsHere (world.link at)). h) number is
    by_place (Place.Alone display) = is

act_host : (app : Application) (at number : ℕ) → HostKept app (Event.Act at) number
act_host app at number world is =
    if_placed (HostIs number) (is_enabled app (Event.Act at) world) (done app (Event.Act at) world) world is
    (one_kept IsHere at (host_sent (acted app (world.link at).host) (world.link at)) world.link (still_sends (acted app (world.link at).host) (world.link at)) number is)

answer_host : (app : Application) (at : ℕ) (said : ApplicationAnswer) (number : ℕ) → HostKept app (Event.Answer at said) number
answer_host app at said number world is =
    if_placed (HostIs number) (is_enabled app (Event.Answer at said) world) (done app (Event.Answer at said) world) world is
    (one_kept IsHere at (host_sent (answered_on app (world.link at).host said) (world.link at)) world.link
    (still_sends (answered_on app (world.link at).host said) (world.link at)) number is)

note_host : (app : Application) (at : ℕ) (text : List ℕ) (number : ℕ) → HostKept app (Event.Note at text) number
note_host app at text number world is =
    if_placed (HostIs number) (is_enabled app (Event.Note at text) world) (done app (Event.Note at text) world) world is
    (one_kept IsHere at (host_sent (noted text (world.link at).host) (world.link at)) world.link (still_sends (noted text (world.link at).host) (world.link at)) number is)

lose_host : (app : Application) (at number : ℕ) → HostKept app (Event.Lose at) number
lose_host app at number world is =
    if_placed (HostIs number) (is_enabled app (Event.Lose at) world) (done app (Event.Lose at) world) world is
    (one_kept IsHere at _ world.link (λ (h : IsHere (world.link at)). h) number is)

sees_host : (app : Application) (at number : ℕ) → (number == at) ≡ false → HostKept app (Event.HostSees at) number
sees_host app at number differs world is =
    if_placed (HostIs number) (is_enabled app (Event.HostSees at) world) (done app (Event.HostSees at) world) world is
    (other_kept IsHere at _ world.link number differs is)

saw_host : (app : Application) (terminal number : ℕ) → HostKept app (Event.TermSees terminal) number
saw_host app terminal number world is =
    if_placed (HostIs number) (is_enabled app (Event.TermSees terminal) world) (done app (Event.TermSees terminal) world) world is (by_place (world.place terminal))
  where
    by_place : (place : Place) → HostIs number (term_saw terminal place world)
    by_place (Place.At at) = one_kept IsHere at _ world.link (λ (h : IsHere (world.link at)). h) number is
    by_place (Place.Alone display) = is

connect_host : (app : Application) (terminal : ℕ) (wanted : Option (List ℕ)) (number : ℕ) → HostKept app (Event.Connect terminal wanted) number
connect_host app terminal wanted number world is =
    if_placed (HostIs number) (is_enabled app (Event.Connect terminal wanted) world) (done app (Event.Connect terminal wanted) world) world is (by_free (free_number world.link))
  where
    by_free : (free : Option ℕ) → HostIs number (joined app terminal (display_at world (world.place terminal)).model wanted free world)
    by_free None = is
    by_free (Some at) = one_kept IsHere at _ world.link (λ (h : IsHere (world.link at)). refl) number is

anew_host : (app : Application) (terminal number : ℕ) → HostKept app (Event.RestartTerm terminal) number
anew_host app terminal number world is =
    if_placed (HostIs number) (is_enabled app (Event.RestartTerm terminal) world) (done app (Event.RestartTerm terminal) world) world is (by_place (world.place terminal))
  where
    by_place : (place : Place) → HostIs number (term_anew app terminal place world)
    by_place (Place.At at) = one_kept IsHere at _ world.link (λ (h : IsHere (world.link at)). h) number is
    by_place (Place.Alone display) = is

-- ---- terminals

abbrev IsAt : ℕ → Place → Type 0
IsAt number place = place ≡ Place.At number

abbrev SitsAt : ℕ → ℕ → World → Type 0
SitsAt terminal number world = IsAt number (world.place terminal)

-- the terminal is still there after the event
abbrev TerminalKept : Application → Event → ℕ → ℕ → Type 0
TerminalKept app event terminal number = (world : World) → SitsAt terminal number world → SitsAt terminal number (stepped_by app event world)

not_alone : (number : ℕ) (display : Display) (place : Place) → place ≡ Place.Alone display → place ≡ Place.At number → ⊥
not_alone number display place alone at = let both : Place.Alone display ≡ Place.At number = sym alone ∙ at in absurd (cc)

-- one that was alone isn't the one that was there
alone_kept : (terminal number at : ℕ) (before after : Display) (world : World) → world.place at ≡ Place.Alone before → SitsAt terminal number world
    → IsAt number (with_at at (Place.Alone after) world.place terminal)
alone_kept terminal number at before after world alone is =
    one_kept (IsAt number) at (Place.Alone after) world.place (λ (e : IsAt number (world.place at)). absurd (not_alone number before (world.place at) alone e)) terminal is

key_terminal : (app : Application) (at : ℕ) (key : Key) (terminal number : ℕ) → TerminalKept app (Event.Press at key) terminal number
key_terminal app at key terminal number world is =
    if_placed (SitsAt terminal number) (is_enabled app (Event.Press at key) world) (done app (Event.Press at key) world) world is (by_place (world.place at) refl)
  where
    by_place : (place : Place) → world.place at ≡ place → SitsAt terminal number (key_went at key place world)
    by_place (Place.At link) e = is
    by_place (Place.Alone display) e = alone_kept terminal number at display (after_key key display) world e is

same_places : (app : Application) (event : Event) (terminal number : ℕ) → ((world : World) → SitsAt terminal number world → SitsAt terminal number (done app event world))
    → TerminalKept app event terminal number
same_places app event terminal number keeps world is =
    if_placed (SitsAt terminal number) (is_enabled app event world) (done app event world) world is (keeps world is)

saw_terminal : (app : Application) (at terminal number : ℕ) → (terminal == at) ≡ false → TerminalKept app (Event.TermSees at) terminal number
saw_terminal app at terminal number differs world is =
    if_placed (SitsAt terminal number) (is_enabled app (Event.TermSees at) world) (done app (Event.TermSees at) world) world is (by_place (world.place at))
  where
    by_place : (place : Place) → SitsAt terminal number (term_saw at place world)
    by_place (Place.At link) = other_kept (IsAt number) at _ world.place terminal differs is
    by_place (Place.Alone display) = is

anew_terminal : (app : Application) (at terminal number : ℕ) → (terminal == at) ≡ false → TerminalKept app (Event.RestartTerm at) terminal number
anew_terminal app at terminal number differs world is =
    if_placed (SitsAt terminal number) (is_enabled app (Event.RestartTerm at) world) (done app (Event.RestartTerm at) world) world is (by_place (world.place at))
  where
    by_place : (place : Place) → SitsAt terminal number (term_anew app at place world)
    by_place (Place.At link) = other_kept (IsAt number) at _ world.place terminal differs is
    by_place (Place.Alone display) = other_kept (IsAt number) at _ world.place terminal differs is

-- who connects was alone
connect_terminal : (app : Application) (at : ℕ) (wanted : Option (List ℕ)) (terminal number : ℕ) → TerminalKept app (Event.Connect at wanted) terminal number
connect_terminal app at wanted terminal number world is = by_has (is_enabled app (Event.Connect at wanted) world) refl
  where
    by_place : (place : Place) → world.place at ≡ place → may_connect world place ≡ true → (free : Option ℕ) → SitsAt terminal number (joined app at (display_at world (world.place at)).model wanted free world)
    by_place (Place.At link) e may free = absurd (cc)
    by_place (Place.Alone display) e may None = is
    by_place (Place.Alone display) e may (Some link) =
        one_kept (IsAt number) at (Place.At link) world.place (λ (was : IsAt number (world.place at)). absurd (not_alone number display (world.place at) e was)) terminal is

    by_has : (b : Bool) → is_enabled app (Event.Connect at wanted) world ≡ b
        → SitsAt terminal number (if b then done app (Event.Connect at wanted) world else world)
    by_has true e =
        by_place (world.place at) refl (and_parts (is_terminal world at) (may_connect world (world.place at)) e).1 (free_number world.link)
    by_has false e = is

-- ---- over bytes

module _ (known : WorldLaws) (begin : WorldSetup) (events : List Event) (old : ByteWorld) (answer : Stepped) (new : ByteWorld) (is : IsWorldSetup begin) (reached : Reached begin events old) where
  abbrev app : Application
  app = application_of begin.panels

  -- the event happens once, or it may not have been taken
  abbrev Comes : Event → List Event → Type 0
  Comes it more = (more ≡ once it answer) ⊎ (more ≡ once_taken it answer)

  -- what holds of the world over messages still does, where the event keeps it
  over : (P : World → Type 0) (it : Event) (more : List Event) → ((world : World) → P world → P (stepped_by app it world)) → Comes it more
      → P (after begin events) → P (after begin (events ++ more))
  over P it more keeps (inl comes) was =
      subst P (sym (after_more begin events more)) (subst (λ (es : List Event). P (run app es (after begin events))) (sym comes) (by_answer answer))
    where
      by_answer : (a : Stepped) → P (run app (once it a) (after begin events))
      by_answer stepped.Done = keeps (after begin events) was
      by_answer (stepped.Refused why) = keeps (after begin events) was
      by_answer stepped.Skipped = keeps (after begin events) was
      by_answer (stepped.Part taken) = keeps (after begin events) was
      by_answer stepped.Memory = was
  over P it more keeps (inr comes) was =
      subst P (sym (after_more begin events more)) (subst (λ (es : List Event). P (run app es (after begin events))) (sym comes) (by_taken answer))
    where
      by_taken : (a : Stepped) → P (run app (once_taken it a) (after begin events))
      by_taken stepped.Done = keeps (after begin events) was
      by_taken (stepped.Refused why) = was
      by_taken stepped.Skipped = was
      by_taken (stepped.Part taken) = was
      by_taken stepped.Memory = was

  abbrev Goes : ByteEvent → Type 0
  Goes it = GoesOn begin events it old answer new

  host_still : (it : Event) (more : List Event) (number : ℕ) → HostKept app it number → Comes it more → Reached begin (events ++ more) new
      → host_there number old ≡ true → host_there number new ≡ true
  host_still it more number keeps comes reaches there =
      (reaches.stands.links number).host_here
      ∙ over (HostIs number) it more keeps comes (sym (reached.stands.links number).host_here ∙ there)

  terminal_still : (it : Event) (more : List Event) (terminal number : ℕ) → TerminalKept app it terminal number → Comes it more → Reached begin (events ++ more) new
      → terminal_at number old.slots ≡ Some terminal → terminal_at number new.slots ≡ Some terminal
  terminal_still it more terminal number keeps comes reaches there =
      let before = facts_now known begin events old is reached in
      let behind = facts_now known begin (events ++ more) new is reaches in
      (reaches.stands.links number).term_here
      ∙ (behind.agree terminal number).0 (over (SitsAt terminal number) it more keeps comes
      ((before.agree terminal number).1 (sym (reached.stands.links number).term_here ∙ there)))

  ends_stay : (it : ByteEvent) → Goes it → EndsStay it old new
  ends_stay (event.Key at key) goes = record {
    host = λ number none. host_still (Event.Press at key) goes.more number (key_host app at key number) (inl goes.comes_to) goes.reached;
    terminal = λ terminal number none. terminal_still (Event.Press at key) goes.more terminal number (key_terminal app at key terminal number) (inl goes.comes_to) goes.reached;
  }
  ends_stay (event.Up at count) goes = record {
    host = λ number none there. (up_same known begin events at count old answer new is reached goes number).host ∙ there;
    terminal = λ terminal number none there. (up_same known begin events at count old answer new is reached goes number).terminal ∙ there;
  }
  ends_stay (event.Down at count) goes = record {
    host = λ number none there. (down_same known begin events at count old answer new is reached goes number).host ∙ there;
    terminal = λ terminal number none there. (down_same known begin events at count old answer new is reached goes number).terminal ∙ there;
  }
  ends_stay (event.Act at) goes = record {
    host = λ number none. host_still (Event.Act at) goes.more number (act_host app at number) (inl goes.comes_to) goes.reached;
    terminal = λ terminal number none. terminal_still (Event.Act at) goes.more terminal number
        (same_places app (Event.Act at) terminal number (λ world same. same)) (inl goes.comes_to) goes.reached;
  }
  ends_stay (event.Answer at ticket said) goes = record {
    host = λ number none. host_still (Event.Answer at said) goes.more number (answer_host app at said number) (inr goes.comes_to) goes.reached;
    terminal = λ terminal number none. terminal_still (Event.Answer at said) goes.more terminal number
        (same_places app (Event.Answer at said) terminal number (λ world same. same)) (inr goes.comes_to) goes.reached;
  }
  ends_stay (event.Note at text) goes = record {
    host = λ number none. host_still (Event.Note at text) goes.more number (note_host app at text number) (inl goes.comes_to) goes.reached;
    terminal = λ terminal number none. terminal_still (Event.Note at text) goes.more terminal number
        (same_places app (Event.Note at text) terminal number (λ world same. same)) (inl goes.comes_to) goes.reached;
  }
  -- nothing happens over messages
  ends_stay (event.KeepAlive at) goes =
      let same = subst (λ (es : List Event). Reached begin es new) (ap (λ (m : List Event). events ++ m) goes.comes_to ∙ append-nil events) goes.reached in
      record {
        host = λ number none there. (same.stands.links number).host_here ∙ sym (reached.stands.links number).host_here ∙ there;
        terminal = λ terminal number none there. (same.stands.links number).term_here ∙ sym (reached.stands.links number).term_here ∙ there;
      }
  ends_stay (event.Lose at) goes = record {
    host = λ number none. host_still (Event.Lose at) goes.more number (lose_host app at number) (inl goes.comes_to) goes.reached;
    terminal = λ terminal number none. terminal_still (Event.Lose at) goes.more terminal number
        (same_places app (Event.Lose at) terminal number (λ world same. same)) (inl goes.comes_to) goes.reached;
  }
  ends_stay (event.HostSees at) goes = record {
    host = λ number none. host_still (Event.HostSees at) goes.more number (sees_host app at number none) (inl goes.comes_to) goes.reached;
    terminal = λ terminal number none. terminal_still (Event.HostSees at) goes.more terminal number
        (same_places app (Event.HostSees at) terminal number (λ world same. same)) (inl goes.comes_to) goes.reached;
  }
  ends_stay (event.TermSees at) goes = record {
    host = λ number none. host_still (Event.TermSees at) goes.more number (saw_host app at number) (inl goes.comes_to) goes.reached;
    terminal = λ terminal number none. terminal_still (Event.TermSees at) goes.more terminal number (saw_terminal app at terminal number none) (inl goes.comes_to) goes.reached;
  }
  ends_stay (event.Connect at wanted) goes = record {
    host = λ number none. host_still (Event.Connect at wanted) goes.more number (connect_host app at wanted number) (inl goes.comes_to) goes.reached;
    terminal = λ terminal number none. terminal_still (Event.Connect at wanted) goes.more terminal number
        (connect_terminal app at wanted terminal number) (inl goes.comes_to) goes.reached;
  }
  ends_stay (event.RestartTerm at) goes = record {
    host = λ number none. host_still (Event.RestartTerm at) goes.more number (anew_host app at number) (inl goes.comes_to) goes.reached;
    terminal = λ terminal number none. terminal_still (Event.RestartTerm at) goes.more terminal number (anew_terminal app at terminal number none) (inl goes.comes_to) goes.reached;
  }
  ends_stay event.RestartHost goes = record {
    host = λ number none. absurd (cc);
    terminal = λ terminal number none. terminal_still Event.RestartHost goes.more terminal number
        (same_places app Event.RestartHost terminal number (λ world same. same)) (inl goes.comes_to) goes.reached;
  }

pub nobody_closes : WorldLaws → NobodyCloses
nobody_closes known begin events event old answer new is reached goes = ends_stay known begin events old answer new is reached event goes

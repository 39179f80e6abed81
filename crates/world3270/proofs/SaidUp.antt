-- What a terminal says of LUs is their names, after any list of events.
use Rattle.std.proofs.Common.{◌≡◌, ℕ, Bool, true, false, Option, None, Some, List, [], ◌∷◌, ◌++◌, map, refl, subst, if◌then◌else◌}
use Rattle.std.specs.Prelude.{⊤}
use Rattle.codes3270.specs.declared.size.Model.{Model}
use Rattle.std.specs.List.{AllByRecursion}
use Rattle.keyboard.specs.declared.key.Key.{Key}
use Rattle.keyboard.specs.declared.key.Pressed.{Pressed}
use Rattle.keyboard.specs.declared.key.Pressed.TheVariants.{Done, Refused, Send}
use Rattle.codes3270.specs.Size.{ScreenSize}
use Rattle.datastream.specs.Screen.{Screen}
use Rattle.lu_pool.specs.Asking.{answer_to}
use Rattle.lu_pool.specs.declared.entry.Entry.{Entry}
use Rattle.tn3270e_msg.specs.Talk.{IsLuIfSome, says, sayings}
use Rattle.tn3270e_msg.specs.declared.cause.Cause.{Cause}
use Rattle.tn3270e_msg.specs.declared.reply.Reply.{Reply}
use Rattle.tn3270e_msg.specs.declared.reply.Reply.TheVariants as reply
use Rattle.tn3270e_msg.specs.declared.term_talk.TermState.{TermState}
use Rattle.tn3270e_msg.specs.declared.term_talk.TermState.TheVariants as at
use Rattle.host_core.specs.Acts.{Sent, acted}
use Rattle.host_core.specs.Application.{Application}
use Rattle.host_core.specs.Messages.{ToTerminal, ToHost}
use Rattle.host_core.specs.Notes.{noted}
use Rattle.host_core.specs.Takes.{HostStep, pool_after, took as host_took}
use Rattle.host_core.specs.Questions.{answered_on}
use Rattle.host_core.specs.declared.terminals.Terminals.{Terminals}
use Rattle.world3270.specs.model.Steps.{closed_if, said, came_up, place_after, came_down, went_down, key_went, term_saw, joined, term_anew, host_left_from, done, stepped_by, run}
use Rattle.world3270.specs.model.Link.{Link, sent as sent_on, host_left, host_left_if, host_stepped, host_sent, term_left, term_left_if, term_stepped, begun}
use Rattle.world3270.specs.model.Enabled.{is_enabled, free_number}
use Rattle.world3270.specs.refinement.RepresentsEnds.{IsSaid, NamesWanted}
use Rattle.world3270.specs.model.Terminal.{TermEnd, TermStep, is_bound, once_bound, outcome_of, data_of, key_came, took as term_took}
use Rattle.world3270.specs.model.World.{Place, World, Event, IsEvent, AreEvents, new_world, with_at, display_at}
use Rattle.world3270.proofs.OneOfMany.{all_with}
use Rattle.world3270.proofs.RepresentsFits.{Fits, answer_fits}

-- what is said of LUs is their names
abbrev pub IsSaidUp : ToHost → Type 0
IsSaidUp (ToHost.TalksUp saying) = IsSaid saying
IsSaidUp (ToHost.Data parts) = ⊤
IsSaidUp (ToHost.Response number verdict) = ⊤

-- ---- what a terminal's talk sends of LUs, where it wants one by its name or any

names_wanted : (state : TermState) (wanted : Option (List ℕ)) → IsLuIfSome wanted → NamesWanted state wanted
names_wanted at.Waiting wanted is = tt
names_wanted at.Willing wanted is = is
names_wanted at.TypeAsked wanted is = tt
names_wanted (at.FunctionsAsked lu) wanted is = tt
names_wanted (at.Agreed lu) wanted is = tt
names_wanted (at.Refused reason) wanted is = tt
names_wanted (at.Closed cause) wanted is = tt

replies_said : (answer : Reply) → Fits answer → AllByRecursion IsSaidUp (map ToHost.TalksUp (sayings answer))
replies_said reply.Nothing h = tt
replies_said (reply.Opt verb code) h = (tt, tt)
replies_said (reply.Sub sending after) h = (h, tt)
replies_said (reply.AskPool name) h = tt
replies_said reply.Agreed h = tt
replies_said (reply.Refused reason) h = tt
replies_said (reply.Close cause) h = tt

-- ---- a terminal's end

once_bound_said : (bound : Bool) (end new : TermEnd) (message : ToHost) → IsSaidUp message
    → AllByRecursion IsSaidUp (once_bound bound (record { end = new; sends = message ∷ []; closes = None }) end).sends
once_bound_said true end new message is = (is, tt)
once_bound_said false end new message is = tt

once_bound_wanted : (bound : Bool) (end new : TermEnd) (sends : List ToHost) → IsLuIfSome end.talk.wanted → IsLuIfSome new.talk.wanted
    → IsLuIfSome (once_bound bound (record { end = new; sends = sends; closes = None }) end).end.talk.wanted
once_bound_wanted true end new sends is goes = goes
once_bound_wanted false end new sends is goes = is

record StepSaid (step : TermStep) : Type 0 where
  wanted : IsLuIfSome step.end.talk.wanted
  sends : AllByRecursion IsSaidUp step.sends

took_said : (end : TermEnd) (message : ToTerminal) → IsLuIfSome end.talk.wanted → StepSaid (term_took end message)
took_said end (ToTerminal.TalksDown saying) is = record {
  wanted = is;
  sends = replies_said _ (answer_fits end.talk.talk end.talk.model end.talk.wanted (names_wanted end.talk.talk.state end.talk.wanted is) (says saying));
}
took_said end (ToTerminal.Paint number wanted over) is =
    record { wanted = once_bound_wanted (is_bound end) end _ _ is is; sends = once_bound_said (is_bound end) end _ _ tt }
took_said end (ToTerminal.ReadBuffer number) is =
    record { wanted = once_bound_wanted (is_bound end) end _ _ is is; sends = once_bound_said (is_bound end) end _ _ tt }
took_said end (ToTerminal.Note number command) is =
    record { wanted = once_bound_wanted (is_bound end) end _ _ is is; sends = once_bound_said (is_bound end) end _ _ tt }

data_said : (bound : Bool) (answer : Pressed) (shape : ScreenSize) (screen : Screen) → AllByRecursion IsSaidUp (data_of bound answer shape screen)
data_said true (Send aid) shape screen = (tt, tt)
data_said false (Send aid) shape screen = tt
data_said true Done shape screen = tt
data_said false Done shape screen = tt
data_said true (Refused why) shape screen = tt
data_said false (Refused why) shape screen = tt

-- ---- a connection

-- its terminal wants an LU by its name, or any, and what it said is said so
record IsNamed (link : Link) : Type 0 where
  wanted : IsLuIfSome link.term.talk.wanted
  up : AllByRecursion IsSaidUp link.up

both_said : (some others : List ToHost) → AllByRecursion IsSaidUp some → AllByRecursion IsSaidUp others → AllByRecursion IsSaidUp (some ++ others)
both_said [] others h k = k
both_said (message ∷ some) others h k = (h.0, both_said some others h.1 k)

sent_said : (lost : Bool) (queue messages : List ToHost) → AllByRecursion IsSaidUp queue → AllByRecursion IsSaidUp messages
    → AllByRecursion IsSaidUp (sent_on lost queue messages)
sent_said true queue messages h k = h
sent_said false queue messages h k = both_said queue messages h k

term_left_named : (cause : Option Cause) (link : Link) → IsNamed link → IsNamed (term_left_if cause link)
term_left_named None link h = h
term_left_named (Some cause) link h = record { wanted = h.wanted; up = h.up }

host_left_named : (cause : Option Cause) (link : Link) → IsNamed link → IsNamed (host_left_if cause link)
host_left_named None link h = h
host_left_named (Some cause) link h = record { wanted = h.wanted; up = h.up }

-- the terminal's step
stepped_named : (step : TermStep) (rest : List ToTerminal) (link : Link) → StepSaid step → IsNamed link → IsNamed (term_stepped step rest link)
stepped_named step rest link says_it h =
    term_left_named step.closes (record link { down = rest; term = step.end; up = sent_on link.lost link.up step.sends })
    (record { wanted = says_it.wanted; up = sent_said link.lost link.up step.sends h.up says_it.sends })

sent_named : (sending : Option Sent) (link : Link) → IsNamed link → IsNamed (host_sent sending link)
sent_named None link h = h
sent_named (Some sending) link h = record { wanted = h.wanted; up = h.up }

left_named : (link : Link) → IsNamed link → IsNamed (host_left_from link)
left_named link h = by_here link.host_here
  where
    by_here : (b : Bool) → IsNamed (if b then host_left link else link)
    by_here true = record { wanted = h.wanted; up = h.up }
    by_here false = h

-- ---- the world

abbrev AreNamed : (ℕ → Link) → Type 0
AreNamed link = (number : ℕ) → IsNamed (link number)

changed : (number : ℕ) (new : Link) (link : ℕ → Link) → IsNamed new → AreNamed link → AreNamed (with_at number new link)
changed number new link h others = all_with (λ (n : ℕ) (x : Link). IsNamed x) number new link h others

closed_named : (cause : Option Cause) (world : World) → AreNamed world.link → AreNamed (closed_if cause world).link
closed_named None world h = h
closed_named (Some cause) world h = h

up_named : (world : World) (number : ℕ) (up : List ToHost) → (world.link number).up ≡ up → AreNamed world.link → AreNamed (came_up number up world).link
up_named world number [] e h = h
up_named world number (message ∷ rest) e h =
    let link : Link = world.link number in
    let step : HostStep = host_took (answer_to world.pool) link.host message in
    let said_all = subst (λ (m : List ToHost). AllByRecursion IsSaidUp m) e (h number).up in
    closed_named step.closes (record world { pool = pool_after number step world.pool; link = with_at number (host_stepped step rest link) world.link })
    (changed number (host_stepped step rest link) world.link
    (host_left_named step.closes (record link { up = rest; host = step.conn; down = sent_on link.lost link.down step.sends })
    (record { wanted = (h number).wanted; up = said_all.1 })) h)

down_named : (world : World) (number terminal : ℕ) (down : List ToTerminal) → AreNamed world.link → AreNamed (came_down number terminal down world).link
down_named world number terminal [] h = h
down_named world number terminal (message ∷ rest) h =
    let link : Link = world.link number in
    let step : TermStep = term_took link.term message in
    closed_named step.closes (said step.sends (record world {
      link = with_at number (term_stepped step rest link) world.link;
      place = with_at terminal (place_after step.closes number step.end.display) world.place;
    }))
    (changed number (term_stepped step rest link) world.link (stepped_named step rest link (took_said link.term message (h number).wanted) (h number)) h)

went_named : (world : World) (number : ℕ) (here : Option ℕ) → AreNamed world.link → AreNamed (went_down number here world).link
went_named world number None h = h
went_named world number (Some terminal) h = down_named world number terminal (world.link number).down h

key_named : (world : World) (terminal : ℕ) (key : Key) (place : Place) → AreNamed world.link → AreNamed (key_went terminal key place world).link
key_named world terminal key (Place.At number) h =
    let link : Link = world.link number in
    let outcome = outcome_of key link.term.display in
    changed number (term_stepped (key_came key link.term) link.down link) world.link
    (stepped_named (key_came key link.term) link.down link
    (record { wanted = (h number).wanted; sends = data_said (is_bound link.term) outcome.answer link.term.display.size outcome.screen }) (h number)) h
key_named world terminal key (Place.Alone display) h = h

parted_named : (world : World) (number : ℕ) → AreNamed world.link → AreNamed (with_at number (term_left (world.link number)) world.link)
parted_named world number h = changed number (term_left (world.link number)) world.link (record { wanted = (h number).wanted; up = (h number).up }) h

saw_named : (world : World) (terminal : ℕ) (place : Place) → AreNamed world.link → AreNamed (term_saw terminal place world).link
saw_named world terminal (Place.At number) h = parted_named world number h
saw_named world terminal (Place.Alone display) h = h

anew_named : (app : Application) (world : World) (terminal : ℕ) (place : Place) → AreNamed world.link → AreNamed (term_anew app terminal place world).link
anew_named app world terminal (Place.At number) h = parted_named world number h
anew_named app world terminal (Place.Alone display) h = h

joined_named : (app : Application) (world : World) (terminal : ℕ) (model : Model) (wanted : Option (List ℕ)) (free : Option ℕ) → IsLuIfSome wanted → AreNamed world.link
    → AreNamed (joined app terminal model wanted free world).link
joined_named app world terminal model wanted None is h = h
joined_named app world terminal model wanted (Some number) is h = changed number (begun app world.serves model terminal wanted) world.link (record { wanted = is; up = tt }) h

done_named : (app : Application) (event : Event) (world : World) → IsEvent event → AreNamed world.link → AreNamed (done app event world).link
done_named app (Event.Press terminal key) world is h = key_named world terminal key (world.place terminal) h
done_named app (Event.Up number) world is h = up_named world number (world.link number).up refl h
done_named app (Event.Down number) world is h = went_named world number (world.link number).term_here h
done_named app (Event.Act number) world is h =
    let link : Link = world.link number in
    changed number (host_sent (acted app link.host) link) world.link (sent_named (acted app link.host) link (h number)) h
done_named app (Event.Answer number said) world is h =
    let link : Link = world.link number in
    changed number (host_sent (answered_on app link.host said) link) world.link (sent_named (answered_on app link.host said) link (h number)) h
done_named app (Event.Note number text) world is h =
    let link : Link = world.link number in
    changed number (host_sent (noted text link.host) link) world.link (sent_named (noted text link.host) link (h number)) h
done_named app (Event.Lose number) world is h =
    changed number (record (world.link number) { lost = true }) world.link (record { wanted = (h number).wanted; up = (h number).up }) h
done_named app (Event.HostSees number) world is h =
    changed number (host_left (world.link number)) world.link (record { wanted = (h number).wanted; up = (h number).up }) h
done_named app (Event.TermSees terminal) world is h = saw_named world terminal (world.place terminal) h
done_named app (Event.Connect terminal wanted) world is h = joined_named app world terminal (display_at world (world.place terminal)).model wanted (free_number world.link) is h
done_named app (Event.RestartTerm terminal) world is h = anew_named app world terminal (world.place terminal) h
done_named app Event.RestartHost world is h = λ number. left_named (world.link number) (h number)

happens_named : (app : Application) (event : Event) (world : World) → IsEvent event → AreNamed world.link → AreNamed (stepped_by app event world).link
happens_named app event world is h = by_test (is_enabled app event world)
  where
    by_test : (b : Bool) → AreNamed (if b then done app event world else world).link
    by_test true = done_named app event world is h
    by_test false = h

run_named : (app : Application) (events : List Event) (world : World) → AreEvents events → AreNamed world.link → AreNamed (run app events world).link
run_named app [] world are h = h
run_named app (event ∷ events) world are h = run_named app events (stepped_by app event world) are.1 (happens_named app event world are.0 h)

-- Whatever comes up is said so, in any world that a list of events leads to.
pub all_said_up : (app : Application) (serves : Terminals) (pool : List Entry) (models : List Model) (events : List Event) → AreEvents events
    → (number : ℕ) → AllByRecursion IsSaidUp ((run app events (new_world app serves pool models)).link number).up
all_said_up app serves pool models events are number =
    (run_named app events (new_world app serves pool models) are (λ other. record { wanted = tt; up = tt }) number).up

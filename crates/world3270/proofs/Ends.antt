-- Who holds the ends of a connection, and LUs, after every event.
use Rattle.std.proofs.Common.{◌≡◌, ◌==◌, ℕ, Bool, true, false, Option, None, Some, List, [], ◌∷◌, refl, ap, ◌∙◌, if◌then◌else◌}
use Rattle.codes3270.specs.declared.size.Model.{Model}
use Rattle.std.proofs.lemmas.Bool.{and_parts}
use Rattle.keyboard.specs.declared.key.Key.{Key}
use Rattle.lu_pool.specs.Asking.{answer_to}
use Rattle.lu_pool.specs.Holders.{holder, granted_if, given_back}
use Rattle.lu_pool.specs.declared.entry.Entry.{Entry}
use Rattle.tn3270e_msg.specs.declared.cause.Cause.{Cause}
use Rattle.host_core.specs.Acts.{Sent, acted}
use Rattle.host_core.specs.Application.{Application}
use Rattle.host_core.specs.Messages.{ToTerminal, ToHost}
use Rattle.host_core.specs.Notes.{noted}
use Rattle.host_core.specs.Takes.{freed_if, HostStep, took as host_took}
use Rattle.host_core.specs.Questions.{answered_on}
use Rattle.host_core.specs.declared.terminals.Terminals.{Terminals}
use Rattle.world3270.specs.statement.Always.{Always}
use Rattle.world3270.specs.refinement.LowerLaws.{LowerLaws}
use Rattle.world3270.specs.model.Steps.{closed_if, came_up, left_alone, came_down, went_down, key_went, host_parted, parted, term_saw, joined, term_anew, host_left_from, host_anew, done, stepped_by, run}
use Rattle.world3270.specs.model.Link.{Link, begun, cut, host_left, host_left_if, host_stepped, host_sent, term_left, term_left_if, term_stepped}
use Rattle.world3270.specs.model.Enabled.{is_enabled, is_link, is_queued, comes_up, free_number}
use Rattle.world3270.specs.model.Places.{IsHeld, UpIsHeld, HoldersAreHere}
use Rattle.world3270.specs.model.Terminal.{Display, TermStep, new_display, key_came, took as term_took}
use Rattle.world3270.specs.model.World.{Place, World, Event, new_world, with_at, with_link, display_at}
use Rattle.world3270.proofs.OneOfMany.{all_with}
use Rattle.world3270.proofs.Others.{back_was, came_up_was, closed_pool}

-- ---- one of many changes

abbrev Held : Link → Type 0
Held link = link.lost ≡ false → IsHeld link

-- no LU is held by this number, or the host is there
abbrev Here : List Entry → ℕ → Link → Type 0
Here pool number link = (lu : List ℕ) → holder pool lu ≡ Some number → link.host_here ≡ true

record Both (pool : List Entry) (link : ℕ → Link) : Type 0 where
  held : (number : ℕ) → Held (link number)
  here : (number : ℕ) → Here pool number (link number)

abbrev BothHold : World → Type 0
BothHold world = Both world.pool world.link

changed : (pool : List Entry) (link : ℕ → Link) (number : ℕ) (new : Link) → Held new → ((link number).host_here ≡ true → new.host_here ≡ true) → Both pool link → Both pool (with_at number new link)
changed pool link number new held here b = record {
  held = all_with (λ n x. Held x) number new link held b.held;
  here = all_with (λ n x. Here pool n x) number new link (λ lu e. here (b.here number lu e)) b.here;
}

-- ---- ends that are left

host_leaves_if : (cause : Option Cause) (link : Link) → Held link → Held (host_left_if cause link)
host_leaves_if None link held = held
host_leaves_if (Some cause) link held = λ e. absurd (cc)

term_leaves_if : (cause : Option Cause) (link : Link) → Held link → Held (term_left_if cause link)
term_leaves_if None link held = held
term_leaves_if (Some cause) link held = λ e. absurd (cc)

host_stays_if : (cause : Option Cause) (link : Link) → (term_left_if cause link).host_here ≡ link.host_here
host_stays_if None link = refl
host_stays_if (Some cause) link = refl

-- what is under way, and what an end is, changes
with_host : (link : Link) (step : HostStep) (rest : List ToHost) → Held link → Held (host_stepped step rest link)
with_host link step rest held = host_leaves_if step.closes _ (λ e. let h = held e in record { host = h.host; terminal = h.terminal })

with_term : (link : Link) (step : TermStep) (rest : List ToTerminal) → Held link → Held (term_stepped step rest link)
with_term link step rest held = term_leaves_if step.closes _ (λ e. let h = held e in record { host = h.host; terminal = h.terminal })

closed_both : (cause : Option Cause) (world : World) → BothHold world → BothHold (closed_if cause world)
closed_both None world b = b
closed_both (Some cause) world b = b

-- ---- the host

here_after : LowerLaws → (pool : List Entry) (number other : ℕ) (lu : List ℕ) (cause : Option Cause) (next : Link) → next.host_here ≡ true → (other == number) ≡ true → holder (freed_if number cause pool) lu ≡ Some other
    → (host_left_if cause next).host_here ≡ true
here_after given pool number other lu None next here same e = here
here_after given pool number other lu (Some cause) next here same e = let gone = (back_was given pool number other lu e).0 in absurd (cc)

came_up_both : LowerLaws → (world : World) (number : ℕ) (up : List ToHost) → (world.link number).host_here ≡ true → BothHold world → BothHold (came_up number up world)
came_up_both given world number [] here b = b
came_up_both given world number (message ∷ rest) here b =
    closed_both step.closes (record world { pool = freed_if number step.closes (granted_if number step.grants world.pool); link = with_at number new world.link })
    (record { held = all_with (λ n x. Held x) number new world.link (with_host (world.link number) step rest (b.held number)) b.held; here = λ other lu e. by_test other lu e (other == number) refl })
  where
    step : HostStep
    step = host_took (answer_to world.pool) (world.link number).host message

    new : Link
    new = host_stepped step rest (world.link number)

    by_test : (other : ℕ) (lu : List ℕ) → holder (freed_if number step.closes (granted_if number step.grants world.pool)) lu ≡ Some other → (t : Bool) → (other == number) ≡ t
        → Link.host_here (if t then new else world.link other) ≡ true
    by_test other lu e true same = here_after given (granted_if number step.grants world.pool) number other lu step.closes _ here same e
    by_test other lu e false differs = b.here other lu (came_up_was given world number other lu (message ∷ rest) differs (ap (λ pool. holder pool lu) (closed_pool step.closes _) ∙ e))

sends_held : (sending : Option Sent) (link : Link) → Held link → Held (host_sent sending link)
sends_held None link held = held
sends_held (Some sending) link held = λ e. let h = held e in record { host = h.host; terminal = h.terminal }

sends_here : (sending : Option Sent) (link : Link) → (host_sent sending link).host_here ≡ link.host_here
sends_here None link = refl
sends_here (Some sending) link = refl

sends_both : (world : World) (number : ℕ) (sending : Option Sent) → BothHold world → BothHold (with_link number (host_sent sending (world.link number)) world)
sends_both world number sending b =
    let link : Link = world.link number in
    changed world.pool world.link number (host_sent sending link) (sends_held sending link (b.held number)) (λ e. sends_here sending link ∙ e) b

host_parted_both : LowerLaws → (world : World) (number : ℕ) → BothHold world → BothHold (host_parted number world)
host_parted_both given world number b =
    record { held = all_with (λ n x. Held x) number new world.link (λ e. absurd (cc)) b.held; here = λ other lu e. by_test other lu e (other == number) refl }
  where
    new : Link
    new = host_left (world.link number)

    by_test : (other : ℕ) (lu : List ℕ) → holder (given_back number world.pool) lu ≡ Some other → (t : Bool) → (other == number) ≡ t → Link.host_here (if t then new else world.link other) ≡ true
    by_test other lu e true same = let gone = (back_was given world.pool number other lu e).0 in absurd (cc)
    by_test other lu e false differs = b.here other lu (back_was given world.pool number other lu e).1

host_left_from_held : (link : Link) → Held link → Held (host_left_from link)
host_left_from_held link held = by_here link.host_here
  where
    by_here : (t : Bool) → Held (if t then host_left link else link)
    by_here true = λ e. absurd (cc)
    by_here false = held

host_anew_both : LowerLaws → (world : World) → BothHold world → BothHold (host_anew world)
host_anew_both given world b = record {
  held = λ number. host_left_from_held (world.link number) (b.held number);
  here = λ number lu e. let free = given.pool.nobody world.pool lu in absurd (cc);
}

-- ---- terminals

came_down_both : (world : World) (number terminal : ℕ) (down : List ToTerminal) → BothHold world → BothHold (came_down number terminal down world)
came_down_both world number terminal [] b = b
came_down_both world number terminal (message ∷ rest) b =
    let step : TermStep = term_took (world.link number).term message in
    closed_both step.closes _
    (changed world.pool world.link number (term_stepped step rest (world.link number)) (with_term (world.link number) step rest (b.held number)) (λ e. host_stays_if step.closes _ ∙ e) b)

went_down_both : (world : World) (number : ℕ) (here : Option ℕ) → BothHold world → BothHold (went_down number here world)
went_down_both world number None b = b
went_down_both world number (Some terminal) b = came_down_both world number terminal (world.link number).down b

key_went_both : (world : World) (terminal : ℕ) (key : Key) (place : Place) → BothHold world → BothHold (key_went terminal key place world)
key_went_both world terminal key (Place.At number) b =
    let link : Link = world.link number in
    changed world.pool world.link number (term_stepped (key_came key link.term) link.down link) (with_term link (key_came key link.term) link.down (b.held number)) (λ e. e) b
key_went_both world terminal key (Place.Alone display) b = record { held = b.held; here = b.here }

parted_both : (world : World) (terminal number : ℕ) (display : Display) → BothHold world → BothHold (parted terminal number display world)
parted_both world terminal number display b = changed world.pool world.link number (term_left (world.link number)) (λ e. absurd (cc)) (λ e. e) b

term_saw_both : (world : World) (terminal : ℕ) (place : Place) → BothHold world → BothHold (term_saw terminal place world)
term_saw_both world terminal (Place.At number) b = parted_both world terminal number (left_alone (world.link number).term.display) b
term_saw_both world terminal (Place.Alone display) b = b

term_anew_both : (app : Application) (world : World) (terminal : ℕ) (place : Place) → BothHold world → BothHold (term_anew app terminal place world)
term_anew_both app world terminal (Place.At number) b = parted_both world terminal number (new_display (world.link number).term.display.model app.begins) b
term_anew_both app world terminal (Place.Alone display) b = record { held = b.held; here = b.here }

-- ---- connections

joined_both : (app : Application) (world : World) (terminal : ℕ) (model : Model) (wanted : Option (List ℕ)) (free : Option ℕ) → BothHold world → BothHold (joined app terminal model wanted free world)
joined_both app world terminal model wanted None b = b
joined_both app world terminal model wanted (Some number) b =
    changed world.pool world.link number (begun app world.serves model terminal wanted) (λ e. record { host = refl; terminal = refl }) (λ e. refl) b

-- ---- any event

done_both : LowerLaws → (app : Application) (event : Event) (world : World) → is_enabled app event world ≡ true → BothHold world → BothHold (done app event world)
done_both given app (Event.Press terminal key) world here b = key_went_both world terminal key (world.place terminal) b
done_both given app (Event.Up number) world here b =
    let link : Link = world.link number in
    let comes = (and_parts (is_link number) (comes_up link) here).1 in
    came_up_both given world number link.up (and_parts link.host_here (is_queued link.up) comes).0 b
done_both given app (Event.Down number) world here b = went_down_both world number (world.link number).term_here b
done_both given app (Event.Act number) world here b = sends_both world number (acted app (world.link number).host) b
done_both given app (Event.Answer number said) world here b = sends_both world number (answered_on app (world.link number).host said) b
done_both given app (Event.Note number text) world here b = sends_both world number (noted text (world.link number).host) b
done_both given app (Event.Lose number) world here b = changed world.pool world.link number (cut (world.link number)) (λ e. absurd (cc)) (λ e. e) b
done_both given app (Event.HostSees number) world here b = host_parted_both given world number b
done_both given app (Event.TermSees terminal) world here b = term_saw_both world terminal (world.place terminal) b
done_both given app (Event.Connect terminal wanted) world here b = joined_both app world terminal (display_at world (world.place terminal)).model wanted (free_number world.link) b
done_both given app (Event.RestartTerm terminal) world here b = term_anew_both app world terminal (world.place terminal) b
done_both given app Event.RestartHost world here b = host_anew_both given world b

happens_both : LowerLaws → (app : Application) (event : Event) (world : World) → BothHold world → BothHold (stepped_by app event world)
happens_both given app event world b = by_test (is_enabled app event world) refl
  where
    by_test : (t : Bool) → is_enabled app event world ≡ t → BothHold (if t then done app event world else world)
    by_test true here = done_both given app event world here b
    by_test false here = b

run_both : LowerLaws → (app : Application) (events : List Event) (world : World) → BothHold world → BothHold (run app events world)
run_both given app [] world b = b
run_both given app (event ∷ events) world b = run_both given app events (stepped_by app event world) (happens_both given app event world b)

new_both : LowerLaws → (app : Application) (serves : Terminals) (pool : List Entry) (models : List Model) → BothHold (new_world app serves pool models)
new_both given app serves pool models = record { held = λ number e. absurd (cc); here = λ number lu e. let free = given.pool.nobody pool lu in absurd (cc) }

pub up_is_held : LowerLaws → Always UpIsHeld
up_is_held given app serves pool models events is lists few are = (run_both given app events (new_world app serves pool models) (new_both given app serves pool models)).held

pub holders_are_here : LowerLaws → Always HoldersAreHere
holders_are_here given app serves pool models events is lists few are = (run_both given app events (new_world app serves pool models) (new_both given app serves pool models)).here

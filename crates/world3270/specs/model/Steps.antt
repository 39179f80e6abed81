-- The world after each event (our profile).
use Rattle.std.specs.Prelude.{◌≡◌, ℕ, List, [], ◌∷◌, ◌++◌, filter_map, Option, Some, None, if◌then◌else◌}
use Rattle.codes3270.specs.declared.size.Model.{Model}
use Rattle.keyboard.specs.declared.key.Key.{Key}
use Rattle.keyboard.specs.State.{fresh}
use Rattle.lu_pool.specs.Asking.{answer_to}
use Rattle.lu_pool.specs.declared.entry.Entry.{Entry}
use Rattle.tn3270e_msg.specs.declared.cause.Cause.{Cause}
use Rattle.host_core.specs.Application.{Application}
use Rattle.host_core.specs.Messages.{ToTerminal, ToHost, Verdict}
use Rattle.host_core.specs.Acts.{acted}
use Rattle.host_core.specs.Notes.{noted}
use Rattle.lu_pool.specs.Holders.{given_back, all_free}
use Rattle.host_core.specs.Takes.{HostStep, pool_after, took as host_took}
use Rattle.host_core.specs.Questions.{answered_on}
use Rattle.host_core.specs.declared.question.Answer.{Answer as ApplicationAnswer}
use Rattle.world3270.specs.model.Terminal.{Display, TermStep, new_display, after_key, key_came, took as term_took}
use Rattle.world3270.specs.model.Link.{Link, begun, cut, host_left, host_stepped, host_sent, term_left, term_stepped}
use Rattle.world3270.specs.model.Enabled.{is_enabled, free_number}
use Rattle.world3270.specs.model.World.{Place, World, Event, with_at, with_link, with_place, display_at}

-- ---- history

abbrev pub closed_if : Option Cause → World → World
closed_if None world = world
closed_if (Some cause) world = record world { causes = world.causes ++ cause ∷ [] }

abbrev pub verdict_in : ToHost → Option Verdict
verdict_in (ToHost.Response number verdict) = Some verdict
verdict_in (ToHost.Data parts) = None
verdict_in (ToHost.TalksUp saying) = None

abbrev pub said : List ToHost → World → World
said messages world = record world { verdicts = world.verdicts ++ filter_map verdict_in messages }

-- ---- the host

abbrev pub freed_if : ℕ → Option Cause → List Entry → List Entry
freed_if number None pool = pool
freed_if number (Some cause) pool = given_back number pool

-- the world after the host's step with a message; `rest` is still under way to it
abbrev pub host_took_it : ℕ → HostStep → List ToHost → World → World
host_took_it number step rest world =
    closed_if step.closes (record world {
      pool = pool_after number step world.pool;
      link = with_at number (host_stepped step rest (world.link number)) world.link;
    })

-- the host takes the first message under way on a connection, if there is one
abbrev pub came_up : ℕ → List ToHost → World → World
came_up number [] world = world
came_up number (message ∷ rest) world =
    host_took_it number (host_took (answer_to world.pool) (world.link number).host message) rest world

-- the host acts on a connection, is answered by the application there, or sends a note there
abbrev pub host_acted : Application → ℕ → World → World
host_acted app number world =
    with_link number (host_sent (acted app (world.link number).host) (world.link number)) world

abbrev pub host_answered : Application → ℕ → ApplicationAnswer → World → World
host_answered app number said world =
    with_link number (host_sent (answered_on app (world.link number).host said) (world.link number)) world

abbrev pub host_noted : ℕ → List ℕ → World → World
host_noted number text world =
    with_link number (host_sent (noted text (world.link number).host) (world.link number)) world

-- ---- terminals

-- the display of a terminal that leaves its connection: the screen stays, and the keyboard is locked until a write
abbrev pub left_alone : Display → Display
left_alone display = record display { keyboard = fresh }

abbrev pub place_after : Option Cause → ℕ → Display → Place
place_after None number display = Place.At number
place_after (Some cause) number display = Place.Alone (left_alone display)

-- the world after a terminal's step with a message; `rest` is still under way to it
abbrev pub term_took_it : ℕ → ℕ → TermStep → List ToTerminal → World → World
term_took_it number terminal step rest world =
    closed_if step.closes (said step.sends (record world {
      link = with_at number (term_stepped step rest (world.link number)) world.link;
      place = with_at terminal (place_after step.closes number step.end.display) world.place;
    }))

-- the terminal takes the first message under way on its connection, if there is one
abbrev pub came_down : ℕ → ℕ → List ToTerminal → World → World
came_down number terminal [] world = world
came_down number terminal (message ∷ rest) world =
    term_took_it number terminal (term_took (world.link number).term message) rest world

abbrev pub went_down : ℕ → Option ℕ → World → World
went_down number None world = world
went_down number (Some terminal) world = came_down number terminal (world.link number).down world

-- a key is pressed at a terminal, at its connection or at none
abbrev pub key_went : ℕ → Key → Place → World → World
key_went terminal key (Place.At number) world =
    let link = world.link number in
    with_link number (term_stepped (key_came key link.term) link.down link) world
key_went terminal key (Place.Alone display) world = with_place terminal (Place.Alone (after_key key display)) world

-- ---- connections

-- the host leaves a connection, and the LU that this holds is free again
abbrev pub host_parted : ℕ → World → World
host_parted number world = record world {
  pool = given_back number world.pool;
  link = with_at number (host_left (world.link number)) world.link;
}

-- the terminal leaves its connection, and is at none, with this display
abbrev pub parted : ℕ → ℕ → Display → World → World
parted terminal number display world = record world {
  link = with_at number (term_left (world.link number)) world.link;
  place = with_at terminal (Place.Alone display) world.place;
}

abbrev pub term_saw : ℕ → Place → World → World
term_saw terminal (Place.At number) world = parted terminal number (left_alone (world.link number).term.display) world
term_saw terminal (Place.Alone display) world = world

abbrev pub joined : Application → ℕ → Model → Option (List ℕ) → Option ℕ → World → World
joined app terminal model wanted None world = world
joined app terminal model wanted (Some number) world = record world {
  link = with_at number (begun app world.serves model terminal wanted) world.link;
  place = with_at terminal (Place.At number) world.place;
}

-- ---- restarting

abbrev pub term_anew : Application → ℕ → Place → World → World
term_anew app terminal (Place.At number) world =
    parted terminal number (new_display (world.link number).term.display.model app.begins) world
term_anew app terminal (Place.Alone display) world =
    with_place terminal (Place.Alone (new_display display.model app.begins)) world

abbrev pub host_left_from : Link → Link
host_left_from link = if link.host_here then host_left link else link

abbrev pub host_anew : World → World
host_anew world = record world { pool = all_free world.pool; link = λ number. host_left_from (world.link number) }

-- ---- events

-- the world after an event that can happen in it
abbrev pub done : Application → Event → World → World
done app (Event.Press terminal key) world = key_went terminal key (world.place terminal) world
done app (Event.Up number) world = came_up number (world.link number).up world
done app (Event.Down number) world = went_down number (world.link number).term_here world
done app (Event.Act number) world = host_acted app number world
done app (Event.Answer number said) world = host_answered app number said world
done app (Event.Note number text) world = host_noted number text world
done app (Event.Lose number) world = with_link number (cut (world.link number)) world
done app (Event.HostSees number) world = host_parted number world
done app (Event.TermSees terminal) world = term_saw terminal (world.place terminal) world
done app (Event.Connect terminal wanted) world =
    joined app terminal (display_at world (world.place terminal)).model wanted (free_number world.link) world
done app (Event.RestartTerm terminal) world = term_anew app terminal (world.place terminal) world
done app Event.RestartHost world = host_anew world

-- the world after an event: one that can't happen is skipped, and changes nothing
abbrev pub stepped_by : Application → Event → World → World
stepped_by app event world = if is_enabled app event world then done app event world else world

-- the world after these events, one after another
abbrev pub run : Application → List Event → World → World
run app [] world = world
run app (event ∷ events) world = run app events (stepped_by app event world)

-- A run in two pieces leads to the world to which the whole run leads.
abbrev pub RunsCompose : Type 0
RunsCompose = (app : Application) (first second : List Event) (world : World)
    → run app (first ++ second) world ≡ run app second (run app first world)

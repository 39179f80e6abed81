-- Which events can happen in a world (our profile): the others are skipped.
use Rattle.std.specs.Prelude.{◌&&◌, not, nat_lt, ℕ, Bool, true, false, List, [], ◌∷◌, find, Option, is_some}
use Rattle.std.specs.List.{range_with_len}
use Rattle.host_core.specs.Acts.{acted}
use Rattle.host_core.specs.Application.{Application}
use Rattle.host_core.specs.Notes.{noted}
use Rattle.host_core.specs.Questions.{answered_on}
use Rattle.host_core.specs.declared.question.Answer.{Answer as ApplicationAnswer}
use Rattle.world3270.specs.model.Link.{Link, is_free, is_up}
use Rattle.world3270.specs.model.World.{Place, World, Event, link_count}

abbrev pub is_link : ℕ → Bool
is_link number = nat_lt number link_count

abbrev pub is_terminal : World → ℕ → Bool
is_terminal world terminal = nat_lt terminal world.terminals

abbrev pub is_queued : {X : Type 0} → List X → Bool
is_queued [] = false
is_queued (message ∷ more) = true

-- whether a message is under way to the host, or to a terminal, that is attached
abbrev pub comes_up : Link → Bool
comes_up link = link.host_here && is_queued link.up

abbrev pub comes_down : Link → Bool
comes_down link = is_some link.term_here && is_queued link.down

-- whether the host is attached, and has something to send: by itself, by an answer, or as a note
abbrev pub host_acts : Application → Link → Bool
host_acts app link = link.host_here && is_some (acted app link.host)

abbrev pub host_is_answered : Application → ApplicationAnswer → Link → Bool
host_is_answered app said link = link.host_here && is_some (answered_on app link.host said)

abbrev pub host_notes : List ℕ → Link → Bool
host_notes text link = link.host_here && is_some (noted text link.host)

-- whether the host, or the terminal, is attached to a lost connection
abbrev pub host_sees : Link → Bool
host_sees link = link.lost && link.host_here

abbrev pub terminal_sees : World → Place → Bool
terminal_sees world (Place.At number) = (world.link number).lost
terminal_sees world (Place.Alone display) = false

-- the least number that neither end holds
abbrev pub free_number : (ℕ → Link) → Option ℕ
free_number link = find (λ number. is_free (link number)) (range_with_len 0 link_count)

-- whether a terminal may connect: it is at no connection, and a number is free
abbrev pub may_connect : World → Place → Bool
may_connect world (Place.At number) = false
may_connect world (Place.Alone display) = is_some (free_number world.link)

-- whether an event can happen in a world
abbrev pub is_enabled : Application → Event → World → Bool
is_enabled app (Event.Press terminal key) world = is_terminal world terminal
is_enabled app (Event.Up number) world = is_link number && comes_up (world.link number)
is_enabled app (Event.Down number) world = is_link number && comes_down (world.link number)
is_enabled app (Event.Act number) world = is_link number && host_acts app (world.link number)
is_enabled app (Event.Answer number said) world = is_link number && host_is_answered app said (world.link number)
is_enabled app (Event.Note number text) world = is_link number && host_notes text (world.link number)
is_enabled app (Event.Lose number) world = is_link number && is_up (world.link number)
is_enabled app (Event.HostSees number) world = is_link number && host_sees (world.link number)
is_enabled app (Event.TermSees terminal) world = is_terminal world terminal
    && terminal_sees world (world.place terminal)
is_enabled app (Event.Connect terminal wanted) world = is_terminal world terminal
    && may_connect world (world.place terminal)
is_enabled app (Event.RestartTerm terminal) world = is_terminal world terminal
is_enabled app Event.RestartHost world = true

-- whether an event is skipped, because it can't happen
abbrev pub is_skipped : Application → Event → World → Bool
is_skipped app event world = not (is_enabled app event world)

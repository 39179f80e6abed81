-- A world over messages: a host, its connections and terminals, and the events that may happen to them (our profile).
use Rattle.std.specs.Prelude.{◌==◌, ⊤, ℕ, List, [], ◌∷◌, Option, if◌then◌else◌, length, slice_index_or}
use Rattle.codes3270.specs.declared.size.Model.TheVariants.{M2}
use Rattle.codes3270.specs.declared.size.Model.{Model}
use Rattle.keyboard.specs.declared.key.Key.{Key}
use Rattle.lu_pool.specs.declared.entry.Entry.{Entry}
use Rattle.tn3270e_msg.specs.Talk.{IsLuIfSome}
use Rattle.tn3270e_msg.specs.declared.cause.Cause.{Cause}
use Rattle.host_core.specs.Application.{Application, AreTexts}
use Rattle.host_core.specs.Messages.{Verdict}
use Rattle.host_core.specs.Notes.{IsNoteText}
use Rattle.lu_pool.specs.Holders.{all_free}
use Rattle.host_core.specs.declared.question.Answer.{Answer as ApplicationAnswer}
use Rattle.host_core.specs.declared.terminals.Terminals.{Terminals}
use Rattle.world3270.specs.model.Terminal.{Display, new_display}
use Rattle.world3270.specs.model.Link.{Link, unused}

-- where a terminal is: at a connection (by its number), whose end it holds and whose state has its display; or at none,
-- with its own display
pub data Place : Type 0 where
  At : ℕ → Place
  Alone : Display → Place

-- `serves`: which terminals the host serves. `link` and `place` are by the numbers of connections and terminals, from
-- 0. `causes` and `verdicts` are history, which no step reads: the causes for which ends have closed connections, and
-- the verdicts of responses, oldest first.
pub record World : Type 0 where
  pub serves : Terminals
  pub pool : List Entry
  pub link : ℕ → Link
  pub place : ℕ → Place
  pub terminals : ℕ  -- how many there are
  pub causes : List Cause
  pub verdicts : List Verdict

-- how many connections there are: their numbers are below this
abbrev pub link_count : ℕ
link_count = 64

-- the display of a terminal that is at this place
abbrev pub display_at : World → Place → Display
display_at world (Place.At number) = (world.link number).term.display
display_at world (Place.Alone display) = display

-- a new world, with a terminal of each of these models: no LU is held, and no connection is used
abbrev pub new_world : Application → Terminals → List Entry → List Model → World
new_world app serves pool models = record {
  serves = serves;
  pool = all_free pool;
  link = λ number. unused app serves;
  place = λ terminal. Place.Alone (new_display (slice_index_or models terminal M2) app.begins);
  terminals = length models;
  causes = [];
  verdicts = [];
}

-- An event: a key at a terminal; the next message is delivered to the host (`Up`) or to the terminal (`Down`); the host
-- acts, is answered by the application, or sends a note; the connection is lost; an end sees that; a terminal connects,
-- and requests an LU, if one; a terminal or the host restarts.
pub data Event : Type 0 where
  Press : (terminal : ℕ) → Key → Event
  Up : (number : ℕ) → Event
  Down : (number : ℕ) → Event
  Act : (number : ℕ) → Event
  Answer : (number : ℕ) → (said : ApplicationAnswer) → Event
  Note : (number : ℕ) → (text : List ℕ) → Event
  Lose : (number : ℕ) → Event
  HostSees : (number : ℕ) → Event
  TermSees : (terminal : ℕ) → Event
  Connect : (terminal : ℕ) → Option (List ℕ) → Event
  RestartTerm : (terminal : ℕ) → Event
  RestartHost : Event

-- Holds if an event is one that can be: the name that a terminal requests is the name of an LU, the values of an answer
-- are characters, and the text of a note is a note's text.
abbrev pub IsEvent : Event → Type 0
IsEvent (Event.Connect terminal wanted) = IsLuIfSome wanted
IsEvent (Event.Answer number said) = AreTexts said.values
IsEvent (Event.Note number text) = IsNoteText text
IsEvent _ = ⊤

abbrev pub AreEvents : List Event → Type 0
AreEvents [] = ⊤
AreEvents (event ∷ events) = IsEvent event × AreEvents events

-- ---- one part of the world changes

abbrev pub with_at : {X : Type 0} → ℕ → X → (ℕ → X) → ℕ → X
with_at number x old other = if other == number then x else old other

abbrev pub with_link : ℕ → Link → World → World
with_link number link world = record world { link = with_at number link world.link }

abbrev pub with_place : ℕ → Place → World → World
with_place terminal place world = record world { place = with_at terminal place world.place }

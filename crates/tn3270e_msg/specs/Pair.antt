-- A host's talk and a terminal's talk with each other (RFC 1647, section 7), and with the host's
-- pool of LUs (our profile).
use Rattle.std.specs.Prelude.{◌≡◌, ℕ, ◌≤◌, List, [], ◌∷◌, ◌++◌, length, Option, None, Some, Result, Ok, Err, IsTrue}
use Rattle.codes3270.specs.declared.size.Model.{Model}
use Rattle.telnet_wire.specs.declared.wire.Verb.TheVariants.{Do as DoVerb}
use Rattle.telnet_wire.specs.Items.{WireItem, Opt as OptItem}
use Rattle.tn3270e_msg.specs.declared.host_talk.HostState.{HostState}
use Rattle.tn3270e_msg.specs.declared.host_talk.HostState.TheVariants.{Agreed as HostAgreed, Closed as HostClosed}
use Rattle.tn3270e_msg.specs.declared.term_talk.TermState.{TermState}
use Rattle.tn3270e_msg.specs.declared.term_talk.TermState.TheVariants.{Agreed as TermAgreed, Refused as TermRefused, Closed as TermClosed}
use Rattle.tn3270e_msg.specs.declared.reply.Reason.{Reason}
use Rattle.tn3270e_msg.specs.declared.reply.Reply.{Reply}
use Rattle.tn3270e_msg.specs.Device.{device_for}
use Rattle.tn3270e_msg.specs.Lu.{is_lu}
use Rattle.tn3270e_msg.specs.Talk.{Talk, IsLuIfSome, items_sent, names_asked}
use Rattle.tn3270e_msg.specs.HostTable.{host_start, HostTakes, HostAnswered}
use Rattle.tn3270e_msg.specs.TermTable.{Term, term_start, TermTakes}

-- a pool's answer: the LU that it grants, or why it grants none
abbrev pub Answer : Type 0
Answer = Result (List ℕ) Reason

-- both ends, the items in transit to the host (`up`) and to the terminal (`down`), the names that the pool was asked
-- for and has not answered, and its answers
pub record Pair : Type 0 where
  pub host : Talk HostState
  pub term : Term
  pub up : List WireItem
  pub down : List WireItem
  pub asked : List (Option (List ℕ))
  pub answers : List Answer

-- the state at the start: the host has sent its offer, DO TN3270E
abbrev pub start : Model → Option (List ℕ) → Pair
start model wanted = record {
  host = host_start;
  term = term_start model wanted;
  up = [];
  down = OptItem DoVerb 40 ∷ [];
  asked = [];
  answers = [];
}

-- holds if the next item reaches the host
pub record ComesUp (old new : Pair) : Type 0 where
  pub item : WireItem
  pub rest : List WireItem
  pub host : Talk HostState
  pub reply : Reply
  pub is_next : old.up ≡ item ∷ rest
  pub takes : HostTakes old.host item reply host
  pub becomes : new ≡ record {
    host = host;
    term = old.term;
    up = rest;
    down = old.down ++ items_sent reply;
    asked = old.asked ++ names_asked reply;
    answers = old.answers;
  }

-- holds if the next item reaches the terminal
pub record ComesDown (old new : Pair) : Type 0 where
  pub item : WireItem
  pub rest : List WireItem
  pub term : Term
  pub reply : Reply
  pub is_next : old.down ≡ item ∷ rest
  pub takes : TermTakes old.term item reply term
  pub becomes : new ≡ record {
    host = old.host;
    term = term;
    up = old.up ++ items_sent reply;
    down = rest;
    asked = old.asked;
    answers = old.answers;
  }

-- holds if a pool can give this answer: it grants only LUs, and only the one that was named, if one was
abbrev pub IsAnswerTo : Option (List ℕ) → Answer → Type 0
IsAnswerTo name (Err reason) = Unit {0}
IsAnswerTo None (Ok lu) = IsTrue (is_lu lu)
IsAnswerTo (Some name) (Ok lu) = IsTrue (is_lu lu) × (lu ≡ name)

-- holds if the pool gives this answer
pub record Answers (answer : Answer) (old new : Pair) : Type 0 where
  pub name : Option (List ℕ)
  pub rest : List (Option (List ℕ))
  pub host : Talk HostState
  pub reply : Reply
  pub is_next : old.asked ≡ name ∷ rest
  pub is_answer : IsAnswerTo name answer
  pub takes : HostAnswered old.host answer reply host
  pub becomes : new ≡ record {
    host = host;
    term = old.term;
    up = old.up;
    down = old.down ++ items_sent reply;
    asked = rest ++ names_asked reply;
    answers = old.answers ++ answer ∷ [];
  }

-- an event: an item reaches the host or the terminal, or the pool answers
pub data Event : Type 0 where
  Up : Event
  Down : Event
  Pool : Answer → Event

-- holds if an event changes the pair from `old` to `new`
abbrev pub IsStep : Event → Pair → Pair → Type 0
IsStep Up old new = ComesUp old new
IsStep Down old new = ComesDown old new
IsStep (Pool answer) old new = Answers answer old new

-- holds if these events happen one after another, in any order that the queues allow
abbrev pub Happen : List Event → Pair → Pair → Type 0
Happen [] old new = new ≡ old
Happen (event ∷ events) old new = (mid : Pair) × IsStep event old mid × Happen events mid new

-- holds if the host's talk isn't closed
abbrev pub HostIsOpen : HostState → Type 0
HostIsOpen (HostClosed cause) = ⊥
HostIsOpen _ = Unit {0}

-- holds if the terminal's talk isn't closed
abbrev pub TermIsOpen : TermState → Type 0
TermIsOpen (TermClosed cause) = ⊥
TermIsOpen _ = Unit {0}

-- holds if no item is in transit, and the pool has answered all requests
pub record IsSettled (pair : Pair) : Type 0 where
  pub up : pair.up ≡ []
  pub down : pair.down ≡ []
  pub asked : pair.asked ≡ []

-- holds if these are the ends' last states: both agreed on the LU that the pool granted, the host for the type of
-- the terminal's model; or the terminal was rejected for the pool's reason
abbrev pub EndsBy : Model → List Answer → HostState → TermState → Type 0
EndsBy model (Ok lu ∷ []) host term = (host ≡ HostAgreed (device_for model) lu) × (term ≡ TermAgreed lu)
EndsBy model (Err reason ∷ []) host term = term ≡ TermRefused reason
EndsBy _ _ host term = ⊥

-- holds if neither end is closed, at most eight events happened, and the talks have ended if nothing more can happen
pub record TalksAgree (model : Model) (events : List Event) (pair : Pair) : Type 0 where
  pub host_is_open : HostIsOpen pair.host.state
  pub term_is_open : TermIsOpen pair.term.talk.state
  pub few : length events ≤ 8
  pub ends : IsSettled pair → EndsBy model pair.answers pair.host.state pair.term.talk.state

-- Talks agree, however items are delivered and whatever the pool answers.
abbrev pub TalksAlwaysAgree : Type 0
TalksAlwaysAgree = (model : Model) (wanted : Option (List ℕ)) (events : List Event) (pair : Pair) → IsLuIfSome wanted
    → Happen events (start model wanted) pair → TalksAgree model events pair

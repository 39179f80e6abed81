-- The host's half of a begin of `EveryTerminalOverBytes`: until the host has agreed on an LU it does nothing but
-- negotiate; and it agrees within a turn of serving, of which the rest is moves (RFC 1647, section 7; our profile).
use Rattle.std.specs.Prelude.{◌≡◌, ◌<◌, ◌++◌, ℕ, false, List, None, Some, length}
use Rattle.telnet_wire.specs.Reading.{Rest}
use Rattle.host_core.specs.Acts.{acted}
use Rattle.host_core.specs.Application.{Application, application_of}
use Rattle.host_core.specs.Bytes.{ConnectionAndPool, TakesBytes}
use Rattle.host_core.specs.Feeds.{connection_and_pool_at, with_connection_and_pool}
use Rattle.host_core.specs.Notes.{noted}
use Rattle.host_core.specs.Questions.{answered_in}
use Rattle.host_core.specs.Session.{Session, agreed_lu, is_agreed, new_conn}
use Rattle.host_core.specs.Serves.{Serves}
use Rattle.host_core.specs.State.{Host, Service, state_at}
use Rattle.host_core.specs.declared.links.LinkRead.{LinkRead}
use Rattle.host_core.specs.declared.links.LinkWrite.{LinkWrite}
use Rattle.host_core.specs.declared.question.Answer.{Answer as ApplicationAnswer}
use Rattle.host_core.specs.declared.question.Ticket.{Ticket}
use Rattle.host_core.specs.declared.serving.Served.{Served}
use Rattle.host_core.specs.declared.terminals.Terminals.{Terminals}
use Rattle.world3270.specs.model.TrackedTerminals.{TrackedTerminal}
use Rattle.world3270.specs.statement.EveryTerminalBytes.{OverBytes, Pressed}
use Rattle.world3270.specs.statement.Serving.{AreQueues, IsTurn, over_queues}

-- Holds if the session is as at the begin of its connection, but for the negotiation.
abbrev pub IsFresh : Application → Terminals → Session → Type 0
IsFresh app serves conn = conn ≡ record (new_conn serves app) { talk = conn.talk }

-- Holds if the host agrees on an LU with one of the bytes: before those behind it the session is fresh, as `FirstPaint`
-- requires it.
pub record Agrees (app : Application) (serves : Terminals) (number : ℕ) (old : ConnectionAndPool) (bytes : List ℕ)
    (new : ConnectionAndPool) : Type 0 where
  pub first : List ℕ
  pub behind : List ℕ
  pub whole : bytes ≡ first ++ behind
  pub mid : ConnectionAndPool
  pub takes : TakesBytes number old first mid
  pub rest : Rest
  pub conn : Session
  pub is_open : mid.connection.service ≡ Service.Open rest conn
  pub fresh : IsFresh app serves conn
  pub lu : List ℕ
  pub agreed : agreed_lu conn.talk.state ≡ Some lu
  pub takes_behind : TakesBytes number mid behind new

-- What bytes make of a session that is fresh, if they don't close it: it still is, or the host agrees.
pub data Negotiates (app : Application) (serves : Terminals) (number : ℕ) (old : ConnectionAndPool) (bytes : List ℕ)
    (new : ConnectionAndPool) (conn : Session) : Type 0 where
  goes_on : is_agreed conn.talk.state ≡ false → IsFresh app serves conn
      → Negotiates app serves number old bytes new conn
  agrees : Agrees app serves number old bytes new → Negotiates app serves number old bytes new conn

abbrev pub BytesNegotiate : Type 0
BytesNegotiate = (app : Application) (serves : Terminals) (number : ℕ) (old : ConnectionAndPool) (bytes : List ℕ)
    (new : ConnectionAndPool) (rest to : Rest) (conn now : Session)
    → old.connection.service ≡ Service.Open rest conn → is_agreed conn.talk.state ≡ false → IsFresh app serves conn
    → TakesBytes number old bytes new → new.connection.service ≡ Service.Open to now
    → Negotiates app serves number old bytes new now

-- Holds if the host sends nothing by itself: it neither acts, nor takes an answer, nor sends a note.
pub record SendsNothing (app : Application) (conn : Session) : Type 0 where
  pub acts : acted app conn ≡ None
  pub answers : (session : ℕ) (ticket : Ticket) (said : ApplicationAnswer) → answered_in app session ticket said conn ≡ None
  pub notes : (text : List ℕ) → noted text conn ≡ None

-- Before agreement it sends nothing by itself.
abbrev pub OnlyNegotiates : Type 0
OnlyNegotiates = (app : Application) (conn : Session) → is_agreed conn.talk.state ≡ false → SendsNothing app conn

-- ---- turns

-- Holds if the host agrees in a turn of serving: once it has taken the first bytes that the read got, its session is
-- fresh, as `FirstPaint` requires it, and what the turn does then is moves. `up`: what is under way to the host then.
pub record AgreesInTurn (app : Application) (serves : Terminals) (number : ℕ) (old new : OverBytes)
    (answer : Served) : Type 0 where
  pub first : List ℕ
  pub up : List ℕ
  pub came : old.up ≡ first ++ up
  pub host : Host
  pub takes : TakesBytes number (connection_and_pool_at number old.host) first (connection_and_pool_at number host)
  pub others : host ≡ with_connection_and_pool number (connection_and_pool_at number host) old.host
  pub rest : Rest
  pub conn : Session
  pub is_open : state_at number host ≡ Service.Open rest conn
  pub fresh : IsFresh app serves conn
  pub lu : List ℕ
  pub agreed : agreed_lu conn.talk.state ≡ Some lu
  pub goes_on : IsTurn number (record old { host = host; up = up }) new answer

-- What a turn makes of a session that is fresh, if it doesn't close it: it still is, or the host agrees.
pub data TurnNegotiates (app : Application) (serves : Terminals) (number : ℕ) (old new : OverBytes) (answer : Served)
    (conn : Session) : Type 0 where
  goes_on : is_agreed conn.talk.state ≡ false → IsFresh app serves conn
      → TurnNegotiates app serves number old new answer conn
  agrees : AgreesInTurn app serves number old new answer → TurnNegotiates app serves number old new answer conn

module _ {L : Type 0} (gave : L → ℕ → ℕ → List ℕ → LinkRead → L → Type 0)
    (took : L → ℕ → List ℕ → LinkWrite → L → Type 0) where
  abbrev pub TurnsNegotiate : Type 0
  TurnsNegotiate = (serves : Terminals) (number : ℕ) (up down : L → List ℕ) → AreQueues gave took number up down
      → (old : Host) (links : L) (answer : Served) (new : Host) (left : L) (rest to : Rest) (conn now : Session)
      → number < length old.connections → state_at number old ≡ Service.Open rest conn
      → is_agreed conn.talk.state ≡ false → IsFresh (application_of old.panels) serves conn
      → Serves gave took number old links answer new left → state_at number new ≡ Service.Open to now
      → (tracked : TrackedTerminal) (pressed : Pressed)
      → TurnNegotiates (application_of old.panels) serves number (over_queues gave took up down old links tracked pressed)
      (over_queues gave took up down new left tracked pressed) answer now

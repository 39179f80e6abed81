-- When a host believes what a command wrote, which sequence number a command has, and which response answers it (RFC
-- 1647, section 8.1: SEQ-NUMBER; the rest is our profile).
use Rattle.std.specs.Prelude.{◌≡◌, ◌≢◌, true, ℕ, List, Option, None, Some}
use Rattle.tn3270e_msg.specs.declared.cause.Cause.TheVariants.{BadResponse}
use Rattle.tn3270e_msg.specs.Header.{next_number}
use Rattle.shadow.specs.Belief.{Shadow}
use Rattle.host_core.specs.Acts.{Act, Sent, done, known_despite}
use Rattle.host_core.specs.Notes.{noted_as}
use Rattle.host_core.specs.Application.{Application}
use Rattle.host_core.specs.Messages.{ToTerminal, ToHost, Verdict}
use Rattle.host_core.specs.Session.{Session, Pending, is_agreed}
use Rattle.host_core.specs.Takes.{Answers, closed_by, took}

-- The belief between an act and its answer: as before, except for what may have changed unheard if a panel is shown.
abbrev pub believed_meanwhile : Session → Act → Shadow
believed_meanwhile conn Act.Read = conn.shadow
believed_meanwhile conn (Act.Show panel message keep values) = known_despite conn.unheard conn.shadow

-- holds if what an act shows isn't believed before it is answered
abbrev pub BelievesNoSooner : Type 0
BelievesNoSooner = (app : Application) (conn : Session) (act : Act)
    → (done app conn act).conn.shadow ≡ believed_meanwhile conn act

-- holds if a note isn't believed before it is answered
abbrev pub BelievesNotesNoSooner : Type 0
BelievesNotesNoSooner = (text : List ℕ) (conn : Session) → (noted_as text conn).conn.shadow ≡ conn.shadow

-- the sequence number of the command that waits for its answer
abbrev pub number_of : Pending → Option ℕ
number_of Pending.Nothing = None
number_of (Pending.Writing number command) = Some number
number_of (Pending.Reading number) = Some number
number_of (Pending.Noting number command) = Some number

-- the sequence number that a command carries
abbrev pub number_in : ToTerminal → Option ℕ
number_in (ToTerminal.TalksDown saying) = None
number_in (ToTerminal.Paint number wanted over) = Some number
number_in (ToTerminal.ReadBuffer number) = Some number
number_in (ToTerminal.Note number command) = Some number

-- Holds if a command carries the connection's next number, its response is awaited by it, and the number then advances.
pub record IsNumbered (old : Session) (sent : Sent) : Type 0 where
  pub carried : number_in sent.message ≡ Some old.next_seq
  pub awaited : number_of sent.conn.pending ≡ Some old.next_seq
  pub next : sent.conn.next_seq ≡ next_number old.next_seq

-- holds if acts' commands are numbered so
abbrev pub CommandsAreNumbered : Type 0
CommandsAreNumbered = (app : Application) (conn : Session) (act : Act) → IsNumbered conn (done app conn act)

-- holds if notes are numbered so
abbrev pub NotesAreNumbered : Type 0
NotesAreNumbered = (text : List ℕ) (conn : Session) → IsNumbered conn (noted_as text conn)

-- Holds if after agreement a response with another number than the pending command's closes the connection.
abbrev pub OnlyItsResponse : Type 0
OnlyItsResponse = (pool : Answers) (conn : Session) (number : ℕ) (verdict : Verdict)
    → is_agreed conn.talk.state ≡ true → number_of conn.pending ≢ Some number
    → took pool conn (ToHost.Response number verdict) ≡ closed_by BadResponse conn

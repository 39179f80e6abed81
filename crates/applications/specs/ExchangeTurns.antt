-- Exchanges with an application (our profile): a request is sent on a connection that no other exchange uses, and the
-- reply is read from it.
-- Each exchange about a question ends once: with an answer; with a fault, which is reported and for which the operator
-- sees a message; or because the operator left. The end of a session is reported once, and the reply to that is
-- ignored.
use Rattle.std.specs.Prelude.{◌≡◌, ◌<◌, ℕ, ◌+◌, ◌-◌, ◌*◌, nat_lt, ◌&&◌, Bool, true, false, List, [], ◌∷◌, ◌++◌, drop, length, if◌then◌else◌, Option, Some, None, Result, Ok, Err, IfErr, IfOk, slice_index_or, slice_set, unwrap_or, ⊤}
use Rattle.std.specs.IoError.{error_kind}
use Rattle.std.specs.declared.io.Error.{Error}
use Rattle.std.specs.declared.io.ErrorKind.{ErrorKind}
use Rattle.std.specs.declared.io.ErrorKind.TheVariants as kind
use Rattle.application_http.specs.Readings.{ReturnsNone, IsFound, IsRefused, IsRefusedAfter, Outcome, left_by}
use Rattle.application_http.specs.declared.notification.Ended.{Ended}
use Rattle.application_http.specs.declared.reply.Reply.{Reply}
use Rattle.application_http.specs.declared.request.Request.{Request}
use Rattle.host_core.specs.declared.acted.Acted.{Acted}
use Rattle.host_core.specs.declared.acted.Acted.TheVariants as acted
use Rattle.host_core.specs.declared.question.Answer.{Answer}
use Rattle.host_core.specs.declared.question.Question.{Question}
use Rattle.host_core.specs.declared.question.Ticket.{Ticket}
use Rattle.jobs.specs.declared.fault.Fault.{Fault}
use Rattle.jobs.specs.declared.fault.Fault.TheVariants.{NoMemory}
use Rattle.panels.specs.Panel.{Panels}
use Rattle.applications.specs.ApplicationRequests.{IsNotificationOf, IsRequestFor}
use Rattle.applications.specs.Applications.{IsAnswerFault, IsAnswerFor, failure_text, is_reply_late, message_for, telling}
use Rattle.applications.specs.declared.application_fault.Absence.{Absence}
use Rattle.applications.specs.declared.application_fault.Absence.TheVariants as absence
use Rattle.applications.specs.declared.application_fault.ApplicationFault.{ApplicationFault}
use Rattle.applications.specs.declared.application_fault.ApplicationFault.TheVariants as why
use Rattle.applications.specs.declared.application_fault.FailureMessage.{FailureMessage}
use Rattle.applications.specs.declared.application_reply.AnswerFault.{AnswerFault}
use Rattle.applications.specs.declared.application_request.Query.{Query}
use Rattle.applications.specs.declared.ended_session.EndedSession.{EndedSession}
use Rattle.applications.specs.declared.exchange.IoProgress.{IoProgress}
use Rattle.applications.specs.declared.exchanges.ApplicationConnection.{ApplicationConnection}
use Rattle.applications.specs.declared.exchanges.ApplicationConnection.TheVariants.{Asking, Kept}
use Rattle.applications.specs.declared.exchanges.KeptConnection.{KeptConnection}
use Rattle.applications.specs.declared.exchanges.QuestionExchange.{QuestionExchange}
use Rattle.applications.specs.Exchange.{Exchange}
use Rattle.applications.specs.declared.exchange.IoProgress.TheVariants.{Moved, Still, Over}

-- ---- one exchange

module _ {S : Type 0} where
  -- an exchange that begins: nothing is sent or received yet
  abbrev pub begun : S → (request : List ℕ) → (began : ℕ) → Exchange S
  begun stream request began = record {
    stream = stream;
    began = began;
    request = request;
    sent = 0;
    heard = Some [];
  }

  -- the exchange after a write that took this number of bytes, and after a read
  abbrev pub sending : (taken : ℕ) → S → Exchange S → Exchange S
  sending taken stream exchange = record exchange { stream = stream; sent = exchange.sent + taken }

  abbrev pub hearing : Option (List ℕ) → S → Exchange S → Exchange S
  hearing heard stream exchange = record exchange { stream = stream; heard = heard }

-- ---- what errors mean

-- the reason for which an error ends an exchange; None if the call did nothing and will be repeated
abbrev pub absence_by : ErrorKind → Option Absence
absence_by kind.WouldBlock = None
absence_by kind.Interrupted = None
absence_by kind.ConnectionRefused = Some absence.Refused
absence_by kind.OutOfMemory = Some absence.NoMemory
absence_by _ = Some absence.Broken

-- the reason for which no exchange begins, from the error of connecting; a connect call is not repeated
abbrev pub unconnected_by : ErrorKind → Absence
unconnected_by kind = unwrap_or (absence_by kind) absence.Broken

abbrev pub failed_by : Option Absence → IoProgress
failed_by None = Still
failed_by (Some absence) = Over (Err (why.Absent absence))

-- a stream that isn't connected yet takes nothing
abbrev pub unsent_by : ErrorKind → IoProgress
unsent_by kind.NotConnected = Still
unsent_by kind = failed_by (absence_by kind)

-- ---- one call of a stream

-- the effect of a read on a stream, by its room, its bytes and its answer; and of a write, by its bytes and its answer
abbrev pub ReadCall : Type 0 → Type 1
ReadCall S = S → ℕ → List ℕ → Result ℕ Error → S → Type 0

abbrev pub WriteCall : Type 0 → Type 1
WriteCall S = S → List ℕ → Result ℕ Error → S → Type 0

-- the progress after the answer to a write, and how many bytes the stream took
abbrev pub sent_as : Result ℕ Error → IoProgress
sent_as (Ok count) = Moved
sent_as (Err error) = unsent_by (error_kind error)

abbrev pub taken_by : Result ℕ Error → ℕ
taken_by (Ok count) = count
taken_by (Err error) = 0

-- Holds for one write of the rest of the request: it begins after the bytes that were sent before.
pub record Writes {S : Type 0} (took : WriteCall S) (old : Exchange S) (progress : IoProgress) (new : Exchange S)
    : Type 0 where
  pub answer : Result ℕ Error
  pub called : took old.stream (drop old.sent old.request) answer new.stream
  pub progress_is : progress ≡ sent_as answer
  pub new_is : new ≡ sending (taken_by answer) new.stream old

-- the progress after an answer of the reply's reader
abbrev pub read_as : Outcome → IoProgress
read_as (Ok None) = Moved
read_as (Ok (Some reply)) = Over (Ok reply)
read_as (Err fault) = Over (Err (why.Reply fault))

-- Holds for the progress after more bytes are received: the reply that all received bytes form, or why they form none.
-- If earlier bytes ended the exchange, more bytes have no effect.
pub record HearsMore (bytes : List ℕ) (heard : Option (List ℕ)) (progress : IoProgress) (after : Option (List ℕ))
    : Type 0 where
  pub outcome : Outcome
  pub progress_is : progress ≡ read_as outcome
  pub found : (before : List ℕ) → heard ≡ Some before → IfOk outcome (IsFound false (before ++ bytes))
  pub refused : (before : List ℕ) → heard ≡ Some before → IfErr outcome (IsRefusedAfter before bytes)
  pub heard_is : (before : List ℕ) → heard ≡ Some before → after ≡ left_by outcome (before ++ bytes)
  pub nothing : heard ≡ None → (after ≡ None) × ReturnsNone outcome

-- holds for the progress after the connection is closed: no more bytes follow
pub record HearsEnd (heard : Option (List ℕ)) (progress : IoProgress) (after : Option (List ℕ)) : Type 0 where
  pub outcome : Outcome
  pub progress_is : progress ≡ read_as outcome
  pub found : (all : List ℕ) → heard ≡ Some all → IfOk outcome (IsFound true all)
  pub refused : (all : List ℕ) → heard ≡ Some all → IfErr outcome (IsRefused true all)
  pub nothing : heard ≡ None → ReturnsNone outcome
  pub over : after ≡ None

-- a read of no bytes is the end of the connection
abbrev pub Hears : (bytes : List ℕ) → Option (List ℕ) → IoProgress → Option (List ℕ) → Type 0
Hears [] heard progress after = HearsEnd heard progress after
Hears (byte ∷ bytes) heard progress after = HearsMore (byte ∷ bytes) heard progress after

abbrev pub HearsBy : Result ℕ Error → List ℕ → Option (List ℕ) → IoProgress → Option (List ℕ) → Type 0
HearsBy (Ok count) bytes heard progress after = Hears bytes heard progress after
HearsBy (Err error) bytes heard progress after =
    (progress ≡ failed_by (absence_by (error_kind error))) × (after ≡ heard)

-- the most bytes of a read
abbrev pub read_room : ℕ
read_room = 8192

-- holds if the stream is read once
pub record Reads {S : Type 0} (gave : ReadCall S) (old : Exchange S) (progress : IoProgress) (new : Exchange S)
    : Type 0 where
  pub bytes : List ℕ
  pub answer : Result ℕ Error
  pub called : gave old.stream read_room bytes answer new.stream
  pub hears : HearsBy answer bytes old.heard progress new.heard
  pub new_is : new ≡ hearing new.heard new.stream old

-- ---- a turn of an exchange

-- an exchange whose reply is late is over
abbrev pub in_time : (late : Bool) → IoProgress → IoProgress
in_time late Moved = if late then Over (Err (why.Absent absence.Late)) else Moved
in_time late Still = if late then Over (Err (why.Absent absence.Late)) else Still
in_time late (Over outcome) = Over outcome

module _ {S : Type 0} (gave : ReadCall S) (took : WriteCall S) where
  -- Holds for one write or one read: nothing is read before the whole request is sent, and nothing is written after
  -- that.
  pub data Serves (old : Exchange S) (progress : IoProgress) (new : Exchange S) : Type 0 where
    writes : old.sent < length old.request → Writes took old progress new → Serves old progress new
    reads : old.sent ≡ length old.request → Reads gave old progress new → Serves old progress new

  -- Holds for a turn of an exchange. If its operator left, it is over, and nothing is read or written. Otherwise it is
  -- served, and it is over if its reply is late.
  pub data GoesOn (has_operator : Bool) (now most : ℕ) (old : Exchange S) (progress : IoProgress) (new : Exchange S)
      : Type 0 where
    operator_left : has_operator ≡ false → progress ≡ Over (Err why.Left)
        → GoesOn has_operator now most old progress new
    goes_on : (served : IoProgress) → has_operator ≡ true → Serves old served new
        → progress ≡ in_time (is_reply_late old.began now most) served
        → GoesOn has_operator now most old progress new

-- ---- the end of an exchange

-- The calls of a server, each between the server before and after it: the open question of a connection, the answer of
-- connecting to the application, what the host did with an answer, the reports of a fault and of a reply that was
-- shown, and the end of a session.
abbrev pub QuestionCall : Type 0 → Type 1
QuestionCall A = A → ℕ → Result (Option Query) Fault → Type 0

abbrev pub ConnectCall : Type 0 → Type 0 → Type 1
ConnectCall A S = A → Result S Error → Type 0

abbrev pub AnswerCall : Type 0 → Type 1
AnswerCall A = A → ℕ → Ticket → Answer → Result Acted Fault → A → Type 0

abbrev pub FaultCall : Type 0 → Type 1
FaultCall A = A → ℕ → ApplicationFault → Result Unit Fault → A → Type 0

abbrev pub ReplyCall : Type 0 → Type 1
ReplyCall A = A → ℕ → Reply → Result Unit Fault → A → Type 0

abbrev pub EndCall : Type 0 → Type 1
EndCall A = A → ℕ → Option EndedSession → A → Type 0

-- the result of a call: `did`, or the fault of a report
abbrev pub unless_failed : {A : Type 0} → (did : A) → Result Unit Fault → Result A Fault
unless_failed did (Ok done) = Ok did
unless_failed did (Err fault) = Err fault

abbrev pub IsNotShown : Result Bool Fault → Type 0
IsNotShown (Ok true) = ⊥
IsNotShown (Ok false) = ⊤
IsNotShown (Err fault) = ⊤

module _ {A : Type 0} (answered : AnswerCall A) (reported : FaultCall A) where
  -- Holds if the host is handed an answer to the question with a ticket. If that question is no longer open, the host
  -- drops the answer, and that is reported.
  pub data Hands (old : A) (conn : ℕ) (ticket : Ticket) (answer : Answer) (result : Result Bool Fault) (new : A)
      : Type 0 where
    is_shown : answered old conn ticket answer (Ok acted.Sent) new → result ≡ Ok true
        → Hands old conn ticket answer result new
    is_dropped : (mid : A) (report : Result Unit Fault) → answered old conn ticket answer (Ok acted.Nothing) mid
        → reported mid conn why.Left report new → result ≡ unless_failed false report
        → Hands old conn ticket answer result new
    no_memory : answered old conn ticket answer (Ok acted.Memory) new → result ≡ Err NoMemory
        → Hands old conn ticket answer result new
    breaks_off : (fault : Fault) → answered old conn ticket answer (Err fault) new → result ≡ Err fault
        → Hands old conn ticket answer result new

  -- Holds if a fault is reported, and the operator sees its message; there is none if the operator left.
  pub data Fails (old : A) (conn : ℕ) (ticket : Ticket) (fault : ApplicationFault) (result : Result Bool Fault)
      (new : A) : Type 0 where
    operator_is_told : (done : Unit) (mid : A) (message : FailureMessage) → reported old conn fault (Ok done) mid
        → message_for fault ≡ Some message → Hands mid conn ticket (telling (failure_text message)) result new
        → Fails old conn ticket fault result new
    nobody_is_told : (done : Unit) → reported old conn fault (Ok done) new → message_for fault ≡ None
        → result ≡ Ok false → Fails old conn ticket fault result new
    report_fails : (broken : Fault) → reported old conn fault (Err broken) new → result ≡ Err broken
        → Fails old conn ticket fault result new

  module _ (noted : ReplyCall A) where
    -- Holds if the host is handed the answer that a reply gives; if it is shown, the replaced characters are reported.
    pub data Shows (old : A) (conn : ℕ) (ticket : Ticket) (answer : Answer) (reply : Reply)
        (result : Result Bool Fault) (new : A) : Type 0 where
      notes : (mid : A) (report : Result Unit Fault) → Hands old conn ticket answer (Ok true) mid
          → noted mid conn reply report new → result ≡ unless_failed true report
          → Shows old conn ticket answer reply result new
      isnt_shown : Hands old conn ticket answer result new → IsNotShown result
          → Shows old conn ticket answer reply result new

    -- Holds for the end of an exchange: by a reply, given the panel of its question, or by a fault.
    pub data Ends (served : A → ℕ → Panels → Type 0) (panel : ℕ) (old : A) (conn : ℕ) (ticket : Ticket)
        (outcome : Result Reply ApplicationFault) (result : Result Bool Fault) (new : A) : Type 0 where
      answers : (reply : Reply) (panels : Panels) (answer : Answer) → outcome ≡ Ok reply → served old conn panels
          → IsAnswerFor panels panel reply answer → Shows old conn ticket answer reply result new
          → Ends served panel old conn ticket outcome result new
      refuses : (reply : Reply) (panels : Panels) (fault : AnswerFault) → outcome ≡ Ok reply → served old conn panels
          → IsAnswerFault panels panel reply fault → Fails old conn ticket (why.Answer fault) result new
          → Ends served panel old conn ticket outcome result new
      fails : (fault : ApplicationFault) → outcome ≡ Err fault → Fails old conn ticket fault result new
          → Ends served panel old conn ticket outcome result new

-- ---- connections that are kept

-- whether the application keeps a connection for more than a second from `now` on, in milliseconds; the second is for a
-- request that is on its way when the application closes the connection
abbrev pub is_kept : (since seconds now : ℕ) → Bool
is_kept since seconds now = nat_lt (now - since) (1000 * (seconds - 1))

-- what is left of the connection of an exchange that ended at `now`: it is kept if its reply says so (RFC 9112, section
-- 9.3); after a fault it is closed
abbrev pub connection_after : {S : Type 0} → Result Reply ApplicationFault → (now : ℕ) → S
    → Option (ApplicationConnection S)
connection_after (Ok reply) now stream = if nat_lt 1 reply.kept
    then Some (Kept (record { stream = stream; since = now; seconds = reply.kept })) else None
connection_after (Err fault) now stream = None

-- the connection that is kept on while no question is open: none if the operator left, or the time is over
abbrev pub still_kept : {S : Type 0} → Option (KeptConnection S) → (has_operator : Bool) → (now : ℕ)
    → Option (ApplicationConnection S)
still_kept None has_operator now = None
still_kept (Some kept) has_operator now = if has_operator && is_kept kept.since kept.seconds now
    then Some (Kept kept) else None

abbrev pub is_not_now : ErrorKind → Bool
is_not_now kind.WouldBlock = true
is_not_now _ = false

-- whether a read found nothing there: neither bytes nor the end of the connection
abbrev pub found_nothing : Result ℕ Error → Bool
found_nothing (Ok count) = false
found_nothing (Err error) = is_not_now (error_kind error)

-- holds if a kept connection is read once, and whether nothing was there
pub record IsRead {S : Type 0} (gave : ReadCall S) (old : KeptConnection S) (silent : Bool) (new : KeptConnection S)
    : Type 0 where
  pub bytes : List ℕ
  pub answer : Result ℕ Error
  pub called : gave old.stream 1 bytes answer new.stream
  pub silent_is : silent ≡ found_nothing answer
  pub new_is : new ≡ record old { stream = new.stream }

-- Holds for whether a kept connection is open: the application keeps it, and a read finds nothing there. So neither
-- bytes that nobody asked for nor a closed connection come before a reply.
pub data LooksOpen {S : Type 0} (gave : ReadCall S) (now : ℕ) (old : KeptConnection S) (usable : Bool)
    (new : KeptConnection S) : Type 0 where
  is_over : is_kept old.since old.seconds now ≡ false → usable ≡ false → new ≡ old
      → LooksOpen gave now old usable new
  is_read : is_kept old.since old.seconds now ≡ true → IsRead gave old usable new
      → LooksOpen gave now old usable new

-- holds for the connection of a request: the kept one, if it is open, or else a new one
pub data Connects {S : Type 0} (gave : ReadCall S) (connected : Result S Error → Type 0) (now : ℕ)
    (kept : Option (KeptConnection S)) (result : Result S Error) : Type 0 where
  uses : (old new : KeptConnection S) → kept ≡ Some old → LooksOpen gave now old true new → result ≡ Ok new.stream
      → Connects gave connected now kept result
  replaces : (old new : KeptConnection S) → kept ≡ Some old → LooksOpen gave now old false new → connected result
      → Connects gave connected now kept result
  opens : kept ≡ None → connected result → Connects gave connected now kept result

-- ---- a turn of a connection

-- the exchange about a question that begins
abbrev pub asked_by : {S : Type 0} → S → Question → (request : List ℕ) → (began : ℕ) → QuestionExchange S
asked_by stream question request began =
    record { ticket = question.ticket; panel = question.panel; exchange = begun stream request began }

-- Holds if an exchange begins for a question, on a connection of its own. `written` is how a request is written for its
-- application.
pub record BeginsFor {S : Type 0} (written : Request → List ℕ) (boot now : ℕ) (served : Panels → Type 0)
    (connected : Result S Error → Type 0) (query : Query) (asked : QuestionExchange S) : Type 0 where
  pub panels : Panels
  pub stream : S
  pub request : List ℕ
  pub are_served : served panels
  pub asks : IsRequestFor written boot panels query (Some request)
  pub connects : connected (Ok stream)
  pub asked_is : asked ≡ asked_by stream query.question request now

-- Holds if no exchange can begin for this reason: memory for its request is refused, or the server can't connect.
pub data CannotBegin {S : Type 0} (connected : Result S Error → Type 0) (reason : Absence) : Type 0 where
  no_request : reason ≡ absence.NoMemory → CannotBegin connected reason
  unconnected : (error : Error) → connected (Err error) → reason ≡ unconnected_by (error_kind error)
      → CannotBegin connected reason

module _ {A : Type 0} (served : A → ℕ → Panels → Type 0) (answered : AnswerCall A) (reported : FaultCall A) where
  -- Holds for a turn of the current exchange: it continues, or it ends, and its connection is kept or closed.
  pub data Goes {S : Type 0} (gave : ReadCall S) (took : WriteCall S) (noted : ReplyCall A) (has_operator : Bool)
      (now most conn : ℕ) (asked : QuestionExchange S) (old : A) (result : Result Bool Fault) (new : A)
      (after : Option (ApplicationConnection S)) : Type 0 where
    moves : (next : Exchange S) → GoesOn gave took has_operator now most asked.exchange Moved next
        → after ≡ Some (Asking (record asked { exchange = next })) → new ≡ old → result ≡ Ok true
        → Goes gave took noted has_operator now most conn asked old result new after
    waits : (next : Exchange S) → GoesOn gave took has_operator now most asked.exchange Still next
        → after ≡ Some (Asking (record asked { exchange = next })) → new ≡ old → result ≡ Ok false
        → Goes gave took noted has_operator now most conn asked old result new after
    ends : (outcome : Result Reply ApplicationFault) (last : Exchange S)
        → GoesOn gave took has_operator now most asked.exchange (Over outcome) last
        → after ≡ connection_after outcome now last.stream
        → Ends answered reported noted served asked.panel old conn asked.ticket outcome result new
        → Goes gave took noted has_operator now most conn asked old result new after

  -- Holds if an exchange for an open question begins and takes its first turn, or can't begin.
  pub data AsksAbout {S : Type 0} (gave : ReadCall S) (took : WriteCall S) (connected : ConnectCall A S)
      (noted : ReplyCall A) (written : Request → List ℕ) (boot now most : ℕ) (has_operator : Bool) (conn : ℕ)
      (kept : Option (KeptConnection S)) (query : Query) (old : A) (result : Result Bool Fault) (new : A)
      (after : Option (ApplicationConnection S)) : Type 0 where
    begins : (asks : QuestionExchange S)
        → BeginsFor written boot now (served old conn) (Connects gave (connected old) now kept) query asks
        → Goes gave took noted has_operator now most conn asks old result new after
        → AsksAbout gave took connected noted written boot now most has_operator conn kept query old result new after
    cannot_begin : (reason : Absence) → CannotBegin (Connects gave (connected old) now kept) reason → after ≡ None
        → Fails answered reported old conn query.question.ticket (why.Absent reason) result new
        → AsksAbout gave took connected noted written boot now most has_operator conn kept query old result new after

  -- Holds for a turn without a current exchange: one begins if a question is open.
  pub data Asks {S : Type 0} (gave : ReadCall S) (took : WriteCall S) (connected : ConnectCall A S)
      (asked : QuestionCall A) (noted : ReplyCall A) (written : Request → List ℕ) (boot now most : ℕ)
      (has_operator : Bool) (conn : ℕ) (kept : Option (KeptConnection S)) (old : A) (result : Result Bool Fault)
      (new : A) (after : Option (ApplicationConnection S)) : Type 0 where
    asks_about : (query : Query) → asked old conn (Ok (Some query))
        → AsksAbout gave took connected noted written boot now most has_operator conn kept query old result new after
        → Asks gave took connected asked noted written boot now most has_operator conn kept old result new after
    no_question : asked old conn (Ok None) → after ≡ still_kept kept has_operator now → new ≡ old → result ≡ Ok false
        → Asks gave took connected asked noted written boot now most has_operator conn kept old result new after
    asking_fails : (fault : Fault) → asked old conn (Err fault) → after ≡ None → new ≡ old → result ≡ Err fault
        → Asks gave took connected asked noted written boot now most has_operator conn kept old result new after

  -- holds for a turn of a connection, with or without a current exchange
  abbrev pub Turns : {S : Type 0} → ReadCall S → WriteCall S → ConnectCall A S → QuestionCall A → ReplyCall A
      → (written : Request → List ℕ) → (boot now most : ℕ) → (has_operator : Bool) → (conn : ℕ)
      → Option (ApplicationConnection S) → A → Result Bool Fault → A → Option (ApplicationConnection S) → Type 0
  Turns gave took connected asked noted written boot now most has_operator conn None old result new after =
      Asks gave took connected asked noted written boot now most has_operator conn None old result new after
  Turns gave took connected asked noted written boot now most has_operator conn (Some (Kept kept)) old result new
      after = Asks gave took connected asked noted written boot now most has_operator conn (Some kept) old result new
      after
  Turns gave took connected asked noted written boot now most has_operator conn (Some (Asking begun)) old result new
      after = Goes gave took noted has_operator now most conn begun old result new after

-- ---- a turn of a notification

-- Holds if the notification of a session's end begins, on the stream that the server connected. `written` is how it is
-- written for its application.
pub record BeginsNotification {S : Type 0} (written : Ended → List ℕ) (now : ℕ) (connected : Result S Error → Type 0)
    (ended : EndedSession) (exchange : Exchange S) : Type 0 where
  pub stream : S
  pub request : List ℕ
  pub tells : IsNotificationOf written ended request
  pub connects : connected (Ok stream)
  pub exchange_is : exchange ≡ begun stream request now

-- whether a turn of a notification did something, and the notification after it: whatever ended it, it isn't repeated
abbrev pub has_moved : IoProgress → Bool
has_moved Moved = true
has_moved Still = false
has_moved (Over outcome) = true

abbrev pub unless_over : {S : Type 0} → IoProgress → Exchange S → Option (Exchange S)
unless_over Moved next = Some next
unless_over Still next = Some next
unless_over (Over outcome) next = None

-- Holds for a turn of the current notification. Its reply is ignored.
pub record Continues {S : Type 0} (gave : ReadCall S) (took : WriteCall S) (now most : ℕ) (exchange : Exchange S)
    (did : Bool) (after : Option (Exchange S)) : Type 0 where
  pub progress : IoProgress
  pub next : Exchange S
  pub goes_on : GoesOn gave took true now most exchange progress next
  pub did_is : did ≡ has_moved progress
  pub after_is : after ≡ unless_over progress next

module _ {A : Type 0} (ended : EndCall A) where
  -- Holds for a turn of a connection without a current notification: if its session ended, one begins.
  pub data Tells {S : Type 0} (connected : ConnectCall A S) (written : Ended → List ℕ) (now conn : ℕ) (old : A)
      (did : Bool) (new : A) (after : Option (Exchange S)) : Type 0 where
    tells : (end : EndedSession) (exchange : Exchange S) → ended old conn (Some end) new
        → BeginsNotification written now (connected new) end exchange → after ≡ Some exchange → did ≡ true
        → Tells connected written now conn old did new after
    cannot_tell : (end : EndedSession) (reason : Absence) → ended old conn (Some end) new
        → CannotBegin (connected new) reason → after ≡ None → did ≡ false
        → Tells connected written now conn old did new after
    nothing_ended : ended old conn None new → after ≡ None → did ≡ false
        → Tells connected written now conn old did new after

  -- holds for a turn of a connection, with or without a current notification
  abbrev pub Notifies : {S : Type 0} → ReadCall S → WriteCall S → ConnectCall A S → (written : Ended → List ℕ)
      → (now most conn : ℕ) → Option (Exchange S) → A → (did : Bool) → A → Option (Exchange S) → Type 0
  Notifies gave took connected written now most conn None old did new after =
      Tells connected written now conn old did new after
  Notifies gave took connected written now most conn (Some exchange) old did new after =
      Continues gave took now most exchange did after × (new ≡ old)

-- what is at a connection number, and all after that was set
module _ {A : Type 0} where
  abbrev pub slot_at : ℕ → List (Option A) → Option A
  slot_at conn slots = slice_index_or slots conn None

  abbrev pub with_slot : ℕ → Option A → List (Option A) → List (Option A)
  with_slot conn slot slots = slice_set slots conn slot

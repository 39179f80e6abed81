-- What a server does for an exchange with an application (our profile): the question, the answer, the reports, and the
-- end of a session.
use Rattle.std.specs.Prelude.{◌≡◌, ℕ, Bool, List, Option, Some, None, Result, Ok, Err, slice_index_or, slice_set, unwrap_or}
use Rattle.std.specs.Option.{option_and_then, option_map}
use Rattle.applications.specs.Applications.{first_replaced}
use Rattle.applications.specs.ExchangeTurns.{unless_failed}
use Rattle.applications.specs.declared.application_fault.ApplicationFault.{ApplicationFault}
use Rattle.applications.specs.declared.application_reply.Replaced.{Replaced}
use Rattle.applications.specs.declared.application_request.Query.{Query}
use Rattle.applications.specs.declared.ended_session.EndedSession.{EndedSession}
use Rattle.applications.specs.declared.session_name.SessionName.{SessionName}
use Rattle.application_http.specs.declared.reply.Reply.{Reply}
use Rattle.codes3270.specs.declared.size.Model.TheVariants.{M2}
use Rattle.host_core.specs.Application.{application_of}
use Rattle.host_core.specs.Does.{DoesAnswer}
use Rattle.host_core.specs.Questions.{HasTexts, answered_by, question_of}
use Rattle.host_core.specs.Reports.{Reports}
use Rattle.host_core.specs.State.{Host, connection_at, model_of, state_at, session_at, with_connection, with_reports}
use Rattle.server.specs.Apart.{service_at}
use Rattle.server.specs.Hosts.{host_at, with_host}
use Rattle.host_core.specs.declared.acted.Acted.{Acted}
use Rattle.host_core.specs.declared.question.Answer.{Answer}
use Rattle.host_core.specs.declared.question.Question.{Question}
use Rattle.host_core.specs.declared.question.Ticket.{Ticket}
use Rattle.jobs.specs.declared.fault.Fault.{Fault}
use Rattle.jobs.specs.declared.fault.Fault.TheVariants as fault
use Rattle.service_events.specs.Notices.{ending_word}
use Rattle.service_events.specs.declared.notice.Client.{Client}
use Rattle.service_events.specs.declared.notice.Notice.{Notice}
use Rattle.service_events.specs.declared.notice.Usage.{Usage}
use Rattle.jobs.specs.Sockets.{slot_at}
use Rattle.server.specs.ConnectionInfos.{session_end, usage_of, with_end, with_told}
use Rattle.server.specs.NumberTurns.{info_after, open_at, reported, reports_of}
use Rattle.server.specs.Watching.{FailsAmong, HearsEach}
use Rattle.server.specs.declared.connection_info.ConnectionInfo.{ConnectionInfo}
use Rattle.server.specs.declared.connection_info.SessionEnd.{SessionEnd}
use Rattle.server.specs.declared.server.Server.{Server}

-- Holds if the host takes the answer to the question with this ticket. The answer is shown only if that question is
-- still open. No other connection changes.
pub record TakesAnswer (conn : ℕ) (ticket : Ticket) (answer : Answer) (old : Host) (acted : Acted)
    (new : Host) : Type 0 where
  pub does : DoesAnswer (application_of old.panels) answer
      (answered_by (application_of old.panels) (session_at conn old) ticket answer (state_at conn old))
      (connection_at conn old) acted (connection_at conn new)
  pub others : new ≡ with_connection conn (connection_at conn new) old

module _ {S : Type 0} where
  -- the server once its host took an answer, and all of the host's reports were handed on
  abbrev pub server_answered : ℕ → ConnectionInfo → (old : Server S) → Host → Server S
  server_answered conn info old host =
      record old {
        hosts = with_host conn (reported conn host) old.hosts;
        infos = slice_set old.infos conn (Some (info_after conn host info));
      }

  -- the client of a number's last connection, if it ever had one
  abbrev pub client_at : ℕ → Server S → Option Client
  client_at conn server = option_map (λ info. info.client) (slice_index_or server.infos conn None)

  -- the server with another record of a number's last connection; none if it never had one
  abbrev pub with_info : Option ConnectionInfo → ℕ → Server S → Server S
  with_info None conn server = server
  with_info (Some info) conn server = record server { infos = slice_set server.infos conn (Some info) }

  -- the server once a reply was shown there; `end`: the application ends the session
  abbrev pub ended_if : (end : Bool) → ℕ → Server S → Server S
  ended_if end conn server = with_info (option_map (with_end end) (slice_index_or server.infos conn None)) conn server

  -- the end of that session, if the application must get to know it
  abbrev pub end_at : ℕ → Server S → Option SessionEnd
  end_at conn server = option_and_then session_end (slice_index_or server.infos conn None)

  -- the server once this end of that session, if it ended, is reported to the application: no report follows
  abbrev pub end_told : Option SessionEnd → ℕ → Server S → Server S
  end_told None conn server = server
  end_told (Some end) conn server = with_info (option_map with_told (slice_index_or server.infos conn None)) conn server

  -- what an open connection has used so far
  abbrev pub usage_at : ℕ → Server S → Option Usage
  usage_at conn server =
      option_map (usage_of server.now (slot_at conn server.sockets).sent (slot_at conn server.sockets).received)
      (open_at conn server)

  -- a question of a connection, with its terminal's model (2 before it asked for one) and its client's address
  abbrev pub asked_on : ℕ → Server S → Question → Query
  asked_on conn server question = record {
    question = question;
    model = unwrap_or (model_of (service_at conn server.hosts)) M2;
    client = option_map (λ client. client.peer) (client_at conn server);
  }

  -- Holds if the answer is the open question of a connection and who asks it, or None. Memory is refused only if the
  -- question has texts.
  abbrev pub AsksHost : (conn : ℕ) → Server S → Result (Option Query) Fault → Type 0
  AsksHost conn server (Ok query) = query ≡ option_map (asked_on conn server)
      (question_of (application_of (host_at conn server.hosts).panels) (session_at conn (host_at conn server.hosts))
      (service_at conn server.hosts))
  AsksHost conn server (Err why) = (why ≡ fault.NoMemory)
      × HasTexts (question_of (application_of (host_at conn server.hosts).panels)
      (session_at conn (host_at conn server.hosts)) (service_at conn server.hosts))

-- the name, the LU, and the event of the log
abbrev pub words_of : SessionEnd → SessionName × List ℕ × List ℕ
words_of end = (end.session, end.lu, ending_word end.ending)

abbrev pub words_told : EndedSession → SessionName × List ℕ × List ℕ
words_told ended = (ended.session, ended.lu, ended.reason.now)

-- Holds if the server hands out the end of a number's last session, if the application must get to know it, and doesn't
-- hand it out again.
pub record TakesEnd {S : Type 0} (old : Server S) (conn : ℕ) (ended : Option EndedSession) (new : Server S)
    : Type 0 where
  pub ended_is : option_map words_told ended ≡ option_map words_of (end_at conn old)
  pub told : new ≡ end_told (end_at conn old) conn old

module _ {S W : Type 0} (noticed : W → Notice → Result Unit Fault → W → Type 0)
    (showed : W → Host → ℕ → Result Unit Fault → W → Type 0) where
  -- Holds if the watcher receives each event of a number's last connection, once and in order, and the events are
  -- recorded. Nothing is reported if the number never had a connection. The first fault of the watcher ends the call,
  -- and then nothing is recorded.
  abbrev pub ReportsOf : Option ConnectionInfo → (conn : ℕ) → Server S → Host → W → Result Unit Fault → Server S
      → W → Type 0
  ReportsOf None conn old host watcher (Ok done) new after =
      (new ≡ record old { hosts = with_host conn host old.hosts }) × (after ≡ watcher)
  ReportsOf None conn old host watcher (Err why) new after = ⊥
  ReportsOf (Some info) conn old host watcher (Ok done) new after =
      HearsEach noticed showed (reports_of info.client conn host) watcher after
      × (new ≡ server_answered conn info old host)
  ReportsOf (Some info) conn old host watcher (Err why) new after =
      FailsAmong noticed showed (reports_of info.client conn host) watcher why after
      × ((reports : Reports) × (new ≡ record old { hosts = with_host conn (with_reports conn reports host) old.hosts }))

  -- Holds if the host takes an answer, and the watcher receives what happened then. A fault of the watcher is returned.
  pub record HandsAnswer (conn : ℕ) (ticket : Ticket) (answer : Answer) (old : Server S) (watcher : W)
      (result : Result Acted Fault) (new : Server S) (after : W)
      : Type 0 where
    pub acted : Acted
    pub host : Host
    pub heard : Result Unit Fault
    pub takes : TakesAnswer conn ticket answer (host_at conn old.hosts) acted host
    pub reports : ReportsOf (slice_index_or old.infos conn None) conn old host watcher heard new after
    pub result_is : result ≡ unless_failed acted heard

module _ {W : Type 0} (reported : W → Client → ApplicationFault → Result Unit Fault → W → Type 0) where
  -- holds if the watcher receives why a client's question has no answer, or nothing if there is no client
  abbrev pub HearsFault : Option Client → ApplicationFault → W → Result Unit Fault → W → Type 0
  HearsFault (Some client) why old answer new = reported old client why answer new
  HearsFault None why old answer new = (answer ≡ Ok tt) × (new ≡ old)

module _ {W : Type 0} (noted : W → Client → Replaced → Result Unit Fault → W → Type 0) where
  -- holds if the watcher receives what was replaced in the reply to a client's question, or nothing if nothing was
  abbrev pub HearsReplaced : Option Client → Option Replaced → W → Result Unit Fault → W → Type 0
  HearsReplaced (Some client) (Some replaced) old answer new = noted old client replaced answer new
  HearsReplaced (Some client) None old answer new = (answer ≡ Ok tt) × (new ≡ old)
  HearsReplaced None replaced old answer new = (answer ≡ Ok tt) × (new ≡ old)

  -- holds if the watcher receives what was replaced in this reply
  abbrev pub HearsReply : Option Client → Reply → W → Result Unit Fault → W → Type 0
  HearsReply client reply old answer new =
      (replaced : Option Replaced) × (option_map (λ it. it.key.now) replaced ≡ first_replaced reply)
      × HearsReplaced client replaced old answer new

-- A turn of serving is moves on the connection that it serves, and happens elsewhere for each other one.
use Rattle.std.proofs.Common.{◌≡◌, ◌≢◌, inl, inr, ℕ, zero, suc, Bool, true, false, Option, Some, None, List, [], ◌∷◌, ◌++◌, drop, take, set, get_or, refl, ap, sym, subst, ◌∙◌}
use Rattle.std.proofs.Math.Seq.{drop-length}
use Rattle.lu_pool.specs.HolderLaws.{IsSound as IsSoundPool, StaysSoundBack, StaysSoundGranted}
use Rattle.lu_pool.specs.Holders.{granted_if}
use Rattle.lu_pool.specs.declared.entry.Entry.{Entry}
use Rattle.panels.specs.Panel.{AreSound}
use Rattle.tn3270e_msg.specs.declared.cause.Cause.{Cause}
use Rattle.tn3270e_msg.specs.declared.cause.Fed.{Fed}
use Rattle.tn3270e_msg.specs.declared.cause.Stop.{Stop}
use Rattle.tn3270e_msg.specs.declared.cause.Stop.TheVariants as stop
use Rattle.host_core.specs.Acts.{Sent}
use Rattle.host_core.specs.Application.{Application, application_of}
use Rattle.host_core.specs.Bytes.{ConnectionAndPool, TakesByte, TakesBytes}
use Rattle.host_core.specs.Does.{Does, acted_by, asks, with_asked, with_conn}
use Rattle.host_core.specs.Feeds.{Feeds, IsOpen, StopsFor, connection_and_pool_at, with_connection_and_pool}
use Rattle.host_core.specs.Reports.{with_question}
use Rattle.host_core.specs.Serves.{ActsHost, FeedsHost, Responds, SendsOut, Serves, sent_from, taken_by}
use Rattle.host_core.specs.Session.{Session}
use Rattle.host_core.specs.State.{Connection, Host, Service, connection_at, reports_at, state_at, unused}
use Rattle.host_core.specs.Takes.{freed_if}
use Rattle.host_core.specs.declared.acted.Acted.{Acted}
use Rattle.host_core.specs.declared.acted.Acted.TheVariants as acted_as
use Rattle.host_core.specs.declared.links.LinkRead.{LinkRead}
use Rattle.host_core.specs.declared.links.LinkWrite.{LinkWrite}
use Rattle.host_core.specs.declared.serving.Served.{Served}
use Rattle.host_core.specs.declared.serving.Served.TheVariants as served
use Rattle.host_core.proofs.OneNumber.{serves_changes}
use Rattle.world3270.specs.model.TrackedTerminals.{TrackedTerminal}
use Rattle.world3270.specs.statement.EveryTerminalBytes.{BeginsOverBytes, EveryTerminalOverBytes, LeadTo, Moves, OverBytes, Pressed}
use Rattle.world3270.specs.statement.Serving.{AreQueues, ServedState, EveryTerminalServed, Happen, Happens, IsAfterMoves, IsTurn, TurnsAreElsewhere, TurnsAreMoves, over_queues, over_served}
use Rattle.world3270.proofs.AnyHosts.{lead_on, lead_panels}

-- ---- what a turn leaves of a number that is open

-- a number's service stays, if its connection changes elsewhere
pub same_service : (connections : List Connection) (number : ℕ) (connection : Connection) → connection.service ≡ (get_or connections number unused).service
    → (get_or (set connections number connection) number unused).service ≡ (get_or connections number unused).service
same_service [] number connection same = refl
same_service (first ∷ rest) zero connection same = same
same_service (first ∷ rest) (suc number) connection same = same_service rest number connection same

open_before : (conn : Session) (service : Service) → IsOpen (with_conn conn service) → IsOpen service
open_before conn Service.Free is = is
open_before conn (Service.Open rest old) is = tt
open_before conn (Service.Closed cause) is = is

-- what is open after an act was open before
pub acts_open : (what : Option Sent) (old : Connection) (did : Acted) (new : Connection) → Does what old did new → IsOpen new.service → IsOpen old.service
acts_open None old did new does is = subst (λ (c : Connection). IsOpen c.service) does.1 is
acts_open (Some sending) old acted_as.Sent new does is = open_before sending.conn old.service (subst (λ (c : Connection). IsOpen c.service) does is)
acts_open (Some sending) old acted_as.Memory new does is = subst (λ (c : Connection). IsOpen c.service) does.0 is
acts_open (Some sending) old acted_as.Nothing new does is = absurd does

-- nothing is taken
none_taken : (number taken : ℕ) (bytes : List ℕ) (old new : ConnectionAndPool) → taken ≡ 0 → TakesBytes number old (take taken bytes) new → new ≡ old
none_taken number taken bytes old new none takes = subst (λ (count : ℕ). TakesBytes number old (take count bytes) new) none takes

-- all bytes are taken, if the number is open then
all_taken : (number : ℕ) (old : ConnectionAndPool) (bytes : List ℕ) (fed : Fed) (new : ConnectionAndPool) (why : Stop) → fed.stop ≡ why → (fed.stop ≢ stop.Memory)
    → TakesBytes number old (take fed.taken bytes) new → StopsFor why old bytes fed.taken new → IsOpen new.connection.service → drop fed.taken bytes ≡ []
all_taken number old bytes fed new stop.Going is more takes (inl whole) here = ap (λ (count : ℕ). drop count bytes) whole.0 ∙ drop-length bytes
all_taken number old bytes fed new stop.Going is more takes (inr none) here =
    absurd (subst IsOpen (ap (λ (c : ConnectionAndPool). c.connection.service) (none_taken number fed.taken bytes old new none.0 takes) ∙ none.1) here)
all_taken number old bytes fed new stop.Memory is more takes stops here = absurd (more is)
all_taken number old bytes fed new (stop.Closed cause) is more takes stops here = absurd (subst IsOpen stops here)

-- ---- the pool

module _ (granted : StaysSoundGranted) (back : StaysSoundBack) where
  granted_sound : (number : ℕ) (grants : Option (List ℕ)) (pool : List Entry) → IsSoundPool pool → IsSoundPool (granted_if number grants pool)
  granted_sound number None pool sound = sound
  granted_sound number (Some lu) pool sound = granted pool number lu sound

  freed_sound : (number : ℕ) (closes : Option Cause) (pool : List Entry) → IsSoundPool pool → IsSoundPool (freed_if number closes pool)
  freed_sound number None pool sound = sound
  freed_sound number (Some cause) pool sound = back pool number sound

  byte_sound : (number : ℕ) (old : ConnectionAndPool) (byte : ℕ) (new : ConnectionAndPool) → TakesByte number old byte new → IsSoundPool old.pool → IsSoundPool new.pool
  byte_sound number old byte new (TakesByte.goes_on rest to conn held delivers is) sound = subst (λ (c : ConnectionAndPool). IsSoundPool c.pool) (sym is) sound
  byte_sound number old byte new (TakesByte.completes rest to conn item step held delivers taken is) sound =
      subst (λ (c : ConnectionAndPool). IsSoundPool c.pool) (sym is) (freed_sound number step.closes _ (granted_sound number step.grants old.pool sound))
  byte_sound number old byte new (TakesByte.breaks rest conn fault held wrong is) sound = subst (λ (c : ConnectionAndPool). IsSoundPool c.pool) (sym is) (back old.pool number sound)

  bytes_sound : (number : ℕ) (old : ConnectionAndPool) (bytes : List ℕ) (new : ConnectionAndPool) → TakesBytes number old bytes new → IsSoundPool old.pool → IsSoundPool new.pool
  bytes_sound number old [] new same sound = subst (λ (c : ConnectionAndPool). IsSoundPool c.pool) (sym same) sound
  bytes_sound number old (byte ∷ bytes) new takes sound = bytes_sound number takes.0 bytes new takes.2 (byte_sound number old byte takes.0 takes.1 sound)

  -- the panels stay, and the pool stays sound
  record Keeps (old new : Host) : Type 0 where
    panels : new.panels ≡ old.panels
    pool : IsSoundPool old.pool → IsSoundPool new.pool

  keeps_both : (old mid new : Host) → Keeps old mid → Keeps mid new → Keeps old new
  keeps_both old mid new one other = record { panels = other.panels ∙ one.panels; pool = λ sound. other.pool (one.pool sound) }

  keeps_same : (old new : Host) (panels : new.panels ≡ old.panels) (pool : new.pool ≡ old.pool) → Keeps old new
  keeps_same old new panels pool = record { panels = panels; pool = λ sound. subst IsSoundPool (sym pool) sound }

  feeds_keep : (number : ℕ) (old : Host) (bytes : List ℕ) (fed : Fed) (new : Host) → FeedsHost number old bytes fed new → Keeps old new
  feeds_keep number old bytes fed new feeds =
      record { panels = ap (λ (h : Host). h.panels) feeds.others; pool = bytes_sound number (connection_and_pool_at number old) _ (connection_and_pool_at number new) feeds.feeds.takes }

  acts_keep : (number : ℕ) (old : Host) (did : Acted) (new : Host) → ActsHost number old did new → Keeps old new
  acts_keep number old did new acts = keeps_same old new (ap (λ (h : Host). h.panels) acts.others) (ap (λ (h : Host). h.pool) acts.others)

  responds_keep : (number : ℕ) (old : Host) (bytes : List ℕ) (sound : Bool) (new : Host) → Responds number old bytes sound new → Keeps old new
  responds_keep number old bytes sound new (Responds.unfed fed feeds memory short) = feeds_keep number old bytes fed new feeds
  responds_keep number old bytes sound new (Responds.idle fed mid feeds more acts short) =
      keeps_both old mid new (feeds_keep number old bytes fed mid feeds) (acts_keep number mid _ new acts)
  responds_keep number old bytes sound new (Responds.acts fed mid done did feeds more acts able asked whole) =
      keeps_both old done new
      (keeps_both old mid done (feeds_keep number old bytes fed mid feeds) (acts_keep number mid did done acts))
      (keeps_same done new (ap (λ (h : Host). h.panels) asked) (ap (λ (h : Host). h.pool) asked))

  module _ {L : Type 0} (gave : L → ℕ → ℕ → List ℕ → LinkRead → L → Type 0) (took : L → ℕ → List ℕ → LinkWrite → L → Type 0) where
    sends_keep : (number : ℕ) (old : Host) (links : L) (new : Host) (left : L) → SendsOut gave took number old links new left → Keeps old new
    sends_keep number old links new left (SendsOut.nothing none same stay) = keeps_same old new (ap (λ (h : Host). h.panels) same) (ap (λ (h : Host). h.pool) same)
    sends_keep number old links new left (SendsOut.handed wrote some takes is) = keeps_same old new (ap (λ (h : Host). h.panels) is) (ap (λ (h : Host). h.pool) is)

    serves_keep : (number : ℕ) (old : Host) (links : L) (answer : Served) (new : Host) (left : L) → Serves gave took number old links answer new left → Keeps old new
    serves_keep number old links answer new left (Serves.over got gives goes same lost) = keeps_same old new (ap (λ (h : Host). h.panels) same) (ap (λ (h : Host). h.pool) same)
    serves_keep number old links answer new left (Serves.starved got bytes gives goes responds memory) = responds_keep number old bytes false new responds
    serves_keep number old links answer new left (Serves.served got bytes mid between gives goes responds sends other) =
        keeps_both old mid new (responds_keep number old bytes true mid responds) (sends_keep number mid between new left sends)

    pub turns_are_elsewhere : TurnsAreElsewhere gave took
    turns_are_elsewhere number other differs old links answer new left serves sound is_host =
        let keeps = serves_keep number old links answer new left serves in
        record {
          panels = keeps.panels;
          stays = (serves_changes gave took number old links answer new left serves).others other differs;
          pool = keeps.pool sound;
          is_host = is_host;
        }

-- ---- the moves

-- these bytes are under way
abbrev pub at_host : Host → (down up : List ℕ) → TrackedTerminal → Pressed → OverBytes
at_host host down up tracked pressed = record { host = host; down = down; up = up; tracked = tracked; pressed = pressed }

-- the host is fed bytes, and changes nowhere else
pub record FedSo (number : ℕ) (old : Host) (bytes : List ℕ) (fed : Fed) (new : Host) : Type 0 where
  pub feeds : Feeds number (connection_and_pool_at number old) bytes fed (connection_and_pool_at number new)
  pub others : new ≡ with_connection_and_pool number (connection_and_pool_at number new) old

-- the response to them, as in `Responds`
pub data RespondsSo (number : ℕ) (old : Host) (bytes : List ℕ) (sound : Bool) (new : Host) : Type 0 where
  is_unfed : (fed : Fed) → FedSo number old bytes fed new → sound ≡ false → RespondsSo number old bytes sound new
  is_idle : (fed : Fed) (mid : Host) → FedSo number old bytes fed mid → ActsHost number mid acted_as.Memory new → sound ≡ false → RespondsSo number old bytes sound new
  is_acting : (fed : Fed) (mid done : Host) (did : Acted) → FedSo number old bytes fed mid → (fed.stop ≢ stop.Memory) → ActsHost number mid did done → new ≡ with_asked number done → RespondsSo number old bytes sound new

pub fed_so : (number : ℕ) (old : Host) (bytes : List ℕ) (fed : Fed) (new : Host) → FeedsHost number old bytes fed new → FedSo number old bytes fed new
fed_so number old bytes fed new feeds = record { feeds = feeds.feeds; others = feeds.others }

responds_so : (number : ℕ) (old : Host) (bytes : List ℕ) (sound : Bool) (new : Host) → Responds number old bytes sound new → RespondsSo number old bytes sound new
responds_so number old bytes sound new (Responds.unfed fed feeds memory short) = RespondsSo.is_unfed fed (fed_so number old bytes fed new feeds) short
responds_so number old bytes sound new (Responds.idle fed mid feeds more acts short) = RespondsSo.is_idle fed mid (fed_so number old bytes fed mid feeds) acts short
responds_so number old bytes sound new (Responds.acts fed mid done did feeds more acts able asked whole) = RespondsSo.is_acting fed mid done did (fed_so number old bytes fed mid feeds) more acts asked

module _ (app : Application) (number : ℕ) (tracked : TrackedTerminal) (pressed : Pressed) where
  -- moves that the host's response is, and what it leaves unread
  record Responded (old new : Host) (bytes down behind : List ℕ) (sound : Bool) : Type 0 where
    unread : List ℕ
    states : List OverBytes
    lead : LeadTo app number states (at_host old down (bytes ++ behind) tracked pressed) (at_host new down (unread ++ behind) tracked pressed)
    all_read : sound ≡ true → IsOpen (state_at number new) → unread ≡ []

  feeds_move : (old : Host) (bytes : List ℕ) (fed : Fed) (new : Host) (down behind : List ℕ) → FedSo number old bytes fed new
      → Moves app number (at_host old down (bytes ++ behind) tracked pressed) (at_host new down (drop fed.taken bytes ++ behind) tracked pressed)
  feeds_move old bytes fed new down behind feeds =
      Moves.feeds bytes behind fed (connection_and_pool_at number new) refl feeds.feeds (ap (λ (h : Host). at_host h down (drop fed.taken bytes ++ behind) tracked pressed) feeds.others)

  acts_move : (old : Host) (did : Acted) (new : Host) (down up : List ℕ) → application_of old.panels ≡ app → ActsHost number old did new
      → Moves app number (at_host old down up tracked pressed) (at_host new down up tracked pressed)
  acts_move old did new down up same acts =
      Moves.acts did (connection_at number new) (subst (λ (a : Application). Does (acted_by a (state_at number old)) (connection_at number old) did (connection_at number new)) same acts.does)
      (ap (λ (h : Host). at_host h down up tracked pressed) acts.others)

  asks_move : (old new : Host) (down up : List ℕ) → new ≡ with_asked number old → Moves app number (at_host old down up tracked pressed) (at_host new down up tracked pressed)
  asks_move old new down up is =
      Moves.reports (with_question (asks (application_of old.panels) (state_at number old)) (reports_at number old)) (ap (λ (h : Host). at_host h down up tracked pressed) is)

  responds_moves : (old : Host) (bytes : List ℕ) (sound : Bool) (new : Host) (down behind : List ℕ) → application_of old.panels ≡ app → RespondsSo number old bytes sound new → Responded old new bytes down behind sound
  responds_moves old bytes sound new down behind same (RespondsSo.is_unfed fed feeds short) = record {
    unread = drop fed.taken bytes;
    states = at_host new down (drop fed.taken bytes ++ behind) tracked pressed ∷ [];
    lead = (feeds_move old bytes fed new down behind feeds, refl);
    all_read = λ whole. absurd (let both = sym whole ∙ short in cc);
  }
  responds_moves old bytes sound new down behind same (RespondsSo.is_idle fed mid feeds acts short) =
      let up : List ℕ = drop fed.taken bytes ++ behind in
      let panels : application_of mid.panels ≡ app = ap (λ (h : Host). application_of h.panels) feeds.others ∙ same in
      record {
        unread = drop fed.taken bytes;
        states = at_host mid down up tracked pressed ∷ at_host new down up tracked pressed ∷ [];
        lead = (feeds_move old bytes fed mid down behind feeds, (acts_move mid _ new down up panels acts, refl));
        all_read = λ whole. absurd (let both = sym whole ∙ short in cc);
      }
  responds_moves old bytes sound new down behind same (RespondsSo.is_acting fed mid done did feeds more acts asked) =
      let up : List ℕ = drop fed.taken bytes ++ behind in
      let panels : application_of mid.panels ≡ app = ap (λ (h : Host). application_of h.panels) feeds.others ∙ same in
      record {
        unread = drop fed.taken bytes;
        states = at_host mid down up tracked pressed ∷ at_host done down up tracked pressed ∷ at_host new down up tracked pressed ∷ [];
        lead = (feeds_move old bytes fed mid down behind feeds, (acts_move mid did done down up panels acts, (asks_move done new down up asked, refl)));
        all_read = λ is_sound here.
            let done_open : IsOpen (state_at number done) =
            subst IsOpen (ap (state_at number) asked ∙ same_service done.connections number _ refl) here in
            let mid_open : IsOpen (state_at number mid) = acts_open (acted_by (application_of mid.panels) (state_at number mid)) (connection_at number mid) did (connection_at number done) acts.does done_open in
            all_taken number (connection_and_pool_at number old) bytes fed (connection_and_pool_at number mid) fed.stop refl more feeds.feeds.takes feeds.feeds.stops mid_open;
      }

module _ {L : Type 0} (gave : L → ℕ → ℕ → List ℕ → LinkRead → L → Type 0) (took : L → ℕ → List ℕ → LinkWrite → L → Type 0)
    (number : ℕ) (up down : L → List ℕ) (queues : AreQueues gave took number up down) (tracked : TrackedTerminal) (pressed : Pressed) where
  -- what is handed over
  record IsSent (app : Application) (old new : Host) (links left : L) (unread : List ℕ) : Type 0 where
    states : List OverBytes
    lead : LeadTo app number states (at_host old (down links) (unread ++ up links) tracked pressed) (at_host new (down left) (unread ++ up left) tracked pressed)
    still : IsOpen (state_at number new) → IsOpen (state_at number old)

  sends_moves : (app : Application) (old : Host) (links : L) (new : Host) (left : L) (unread : List ℕ) → SendsOut gave took number old links new left → IsSent app old new links left unread
  sends_moves app old links new left unread (SendsOut.nothing none same stay) = record {
    states = [];
    lead = ap (λ (h : Host). at_host h (down left) (unread ++ up left) tracked pressed) same ∙ ap (λ (l : L). at_host old (down l) (unread ++ up l) tracked pressed) stay;
    still = λ here. subst (λ (h : Host). IsOpen (state_at number h)) same here;
  }
  sends_moves app old links new left unread (SendsOut.handed wrote some takes is) =
      let line : Connection = connection_at number old in
      let wrote_so = queues.writes links left line.out wrote takes in
      record {
        states = at_host new (down left) (unread ++ up left) tracked pressed ∷ [];
        lead = (
          Moves.hands_over (taken_by wrote)
              (ap (λ (h : Host). at_host h (down left) (unread ++ up left) tracked pressed) is
              ∙ ap (λ (d : List ℕ). at_host (sent_from number (taken_by wrote) old) d (unread ++ up left) tracked pressed) wrote_so.0
              ∙ ap (λ (u : List ℕ). at_host (sent_from number (taken_by wrote) old) (down links ++ take (taken_by wrote) line.out) (unread ++ u) tracked pressed) wrote_so.1),
          refl,
        );
        still = λ here. subst IsOpen (ap (state_at number) is ∙ same_service old.connections number _ refl) here;
      }

  -- what a turn does once it has read these bytes
  pub starved_from : (old : Host) (links : L) (bytes : List ℕ) (answer : Served) (new : Host) (left : L) → RespondsSo number old bytes false new → down left ≡ down links → answer ≡ served.Memory
      → IsTurn number (at_host old (down links) (bytes ++ up left) tracked pressed) (over_queues gave took up down new left tracked pressed) answer
  starved_from old links bytes answer new left responds same memory =
      let app : Application = application_of old.panels in
      let one = responds_moves app number tracked pressed old bytes false new (down links) (up left) refl responds in
      record {
        unread = one.unread;
        states = one.states;
        lead = subst (λ (d : List ℕ). LeadTo app number one.states (at_host old (down links) (bytes ++ up left) tracked pressed) (at_host new d (one.unread ++ up left) tracked pressed)) (sym same) one.lead;
        all_read = λ here able. absurd (able memory);
      }

  pub served_from : (old : Host) (links : L) (bytes : List ℕ) (mid : Host) (between : L) (answer : Served) (new : Host) (left : L) → RespondsSo number old bytes true mid → down between ≡ down links
      → SendsOut gave took number mid between new left → IsTurn number (at_host old (down links) (bytes ++ up between) tracked pressed) (over_queues gave took up down new left tracked pressed) answer
  served_from old links bytes mid between answer new left responds same sends =
      let app : Application = application_of old.panels in
      let one = responds_moves app number tracked pressed old bytes true mid (down links) (up between) refl responds in
      let out = sends_moves app mid between new left one.unread sends in
      let first : LeadTo app number one.states (at_host old (down links) (bytes ++ up between) tracked pressed) (at_host mid (down between) (one.unread ++ up between) tracked pressed) =
      subst (λ (d : List ℕ). LeadTo app number one.states (at_host old (down links) (bytes ++ up between) tracked pressed) (at_host mid d (one.unread ++ up between) tracked pressed)) (sym same) one.lead in
      record {
        unread = one.unread;
        states = one.states ++ out.states;
        lead = lead_on app number one.states out.states (at_host old (down links) (bytes ++ up between) tracked pressed) (at_host mid (down between) (one.unread ++ up between) tracked pressed)
            (at_host new (down left) (one.unread ++ up left) tracked pressed) first out.lead;
        all_read = λ here able. one.all_read refl (out.still here);
      }

  turn_is_moves : (old : Host) (links : L) (answer : Served) (new : Host) (left : L) → Serves gave took number old links answer new left
      → IsTurn number (over_queues gave took up down old links tracked pressed) (over_queues gave took up down new left tracked pressed) answer
  turn_is_moves old links answer new left (Serves.over got gives goes same lost) =
      let read = queues.reads links left _ [] got gives in
      record {
        unread = [];
        states = [];
        lead = ap (λ (h : Host). at_host h (down left) (up left) tracked pressed) same
            ∙ ap (λ (d : List ℕ). at_host old d (up left) tracked pressed) read.1
            ∙ ap (λ (u : List ℕ). at_host old (down links) u tracked pressed) (sym read.0);
        all_read = λ here able. refl;
      }
  turn_is_moves old links answer new left (Serves.starved got bytes gives goes responds memory) =
      let read = queues.reads links left _ bytes got gives in
      subst (λ (u : List ℕ). IsTurn number (at_host old (down links) u tracked pressed) (over_queues gave took up down new left tracked pressed) answer) (sym read.0)
      (starved_from old links bytes answer new left (responds_so number old bytes false new responds) read.1 memory)
  turn_is_moves old links answer new left (Serves.served got bytes mid between gives goes responds sends other) =
      let read = queues.reads links between _ bytes got gives in
      subst (λ (u : List ℕ). IsTurn number (at_host old (down links) u tracked pressed) (over_queues gave took up down new left tracked pressed) answer) (sym read.0)
      (served_from old links bytes mid between answer new left (responds_so number old bytes true mid responds) read.1 sends)

pub turns_are_moves : {L : Type 0} (gave : L → ℕ → ℕ → List ℕ → LinkRead → L → Type 0) (took : L → ℕ → List ℕ → LinkWrite → L → Type 0) → TurnsAreMoves gave took
turns_are_moves gave took number up down queues old links answer new left serves tracked pressed =
    turn_is_moves gave took number up down queues tracked pressed old links answer new left serves

-- ---- many turns

module _ {L : Type 0} (gave : L → ℕ → ℕ → List ℕ → LinkRead → L → Type 0) (took : L → ℕ → List ℕ → LinkWrite → L → Type 0) (every : EveryTerminalOverBytes)
    (number : ℕ) (lu : List ℕ) (up down : L → List ℕ) (queues : AreQueues gave took number up down) (begin : OverBytes) (sound : AreSound begin.host.panels)
    (begins : BeginsOverBytes (application_of begin.host.panels) number lu begin) where
  abbrev app : Application
  app = application_of begin.host.panels

  abbrev over : ServedState gave took → OverBytes
  over at = over_served gave took up down at

  -- what has led so far
  record Led (now : ServedState gave took) : Type 0 where
    states : List OverBytes
    lead : LeadTo app number states begin (over now)

  same_app : (now : ServedState gave took) → Led now → application_of now.host.panels ≡ app
  same_app now led = ap application_of (lead_panels app number led.states begin (over now) led.lead)

  one_turn : (now next : ServedState gave took) (answer : Served) → Led now → (answer ≢ served.Memory) → Serves gave took number now.host now.links answer next.host next.links
      → next.tracked ≡ now.tracked → next.pressed ≡ now.pressed → Led next
  one_turn now next answer led able serves tracked pressed =
      let turn = turn_is_moves gave took number up down queues now.tracked now.pressed now.host now.links answer next.host next.links serves in
      let unread : OverBytes = record (over_queues gave took up down next.host next.links now.tracked now.pressed) { up = turn.unread ++ up next.links } in
      let more : LeadTo app number turn.states (over now) unread = subst (λ (a : Application). LeadTo a number turn.states (over now) unread) (same_app now led) turn.lead in
      let lead = lead_on app number led.states turn.states begin (over now) unread led.lead more in
      let here = (every number lu begin unread (led.states ++ turn.states) sound begins lead).represents.is_open in
      let is_next : unread ≡ over next =
      ap (λ (bytes : List ℕ). record unread { up = bytes ++ up next.links }) (turn.all_read here able)
      ∙ ap (λ (t : TrackedTerminal). over_queues gave took up down next.host next.links t now.pressed) (sym tracked)
      ∙ ap (λ (w : Pressed). over_queues gave took up down next.host next.links next.tracked w) (sym pressed) in
      record { states = led.states ++ turn.states; lead = subst (λ (b : OverBytes). LeadTo app number (led.states ++ turn.states) begin b) is_next lead }

  one_happens : (now next : ServedState gave took) → Led now → Happens gave took number up down now next → Led next
  one_happens now next led (Happens.turns answer able serves tracked pressed) = one_turn now next answer led able serves tracked pressed
  one_happens now next led (Happens.moves move) = record {
    states = led.states ++ over next ∷ [];
    lead = lead_on app number led.states (over next ∷ []) begin (over now) (over next) led.lead
        (subst (λ (a : Application). Moves a number (over now) (over next)) (same_app now led) move, refl);
  }

  all_happen : (places : List (ServedState gave took)) (now new : ServedState gave took) → Led now → Happen gave took number up down places now new → Led new
  all_happen [] now new led same = subst Led (sym same) led
  all_happen (next ∷ places) now new led on = all_happen places next new (one_happens now next led on.0) on.1

  led_to : (before : List OverBytes) (old : ServedState gave took) → LeadTo app number before begin (over old) → (places : List (ServedState gave took)) (new : ServedState gave took)
      → Happen gave took number up down places old new → IsAfterMoves number lu begins.begin begin (over new)
  led_to before old lead places new on =
      let led = all_happen places old new (record { states = before; lead = lead }) on in
      record { states = led.states; lead = led.lead; right = every number lu begin (over new) led.states sound begins led.lead }

pub every_terminal_served : {L : Type 0} (gave : L → ℕ → ℕ → List ℕ → LinkRead → L → Type 0) (took : L → ℕ → List ℕ → LinkWrite → L → Type 0) → EveryTerminalOverBytes → EveryTerminalServed gave took
every_terminal_served gave took every number lu up down queues begin old new before places sound begins lead on =
    led_to gave took every number lu up down queues begin sound begins before old lead places new on

-- Until the host has agreed on an LU it only negotiates, and its session is as at the begin but for that.
use Rattle.std.proofs.Common.{◌≡◌, ◌&&◌, ℕ, Bool, true, false, Option, None, Some, Result, List, [], ◌∷◌, refl, ap, sym, subst, ◌∙◌, if◌then◌else◌}
use Rattle.std.specs.Option.{option_and_then, option_map_or}
use Rattle.lu_pool.specs.Asking.{answer_to}
use Rattle.telnet_wire.specs.Items.{WireItem, Record, Opt, Sub, Other}
use Rattle.telnet_wire.specs.Reading.{Rest}
use Rattle.tn3270e_msg.specs.HostTable.{host_transition}
use Rattle.tn3270e_msg.specs.Talk.{Talk, follow}
use Rattle.tn3270e_msg.specs.declared.cause.Cause.{Cause}
use Rattle.tn3270e_msg.specs.declared.host_talk.HostState.{HostState}
use Rattle.tn3270e_msg.specs.declared.host_talk.HostState.TheVariants.{Offered, Asked, Asking, Named, Countered, Agreed, Closed}
use Rattle.tn3270e_msg.specs.declared.reply.Reason.{Reason}
use Rattle.tn3270e_msg.specs.declared.reply.Reply.{Reply}
use Rattle.tn3270e_msg.specs.declared.reply.Reply.TheVariants as reply
use Rattle.host_core.specs.Acts.{Sent, decided, decision_on, done, may_act}
use Rattle.host_core.specs.Application.{Application}
use Rattle.host_core.specs.Bytes.{ConnectionAndPool, TakesByte, TakesBytes, service_after}
use Rattle.host_core.specs.Items.{TakesItem, TakesRecordIf, Talks}
use Rattle.host_core.specs.Notes.{may_note, noted_as}
use Rattle.host_core.specs.Questions.{act_by, has_its_panel, is_ask, is_ticket, panel_for, ticket_of}
use Rattle.host_core.specs.Rejections.{lu_asked}
use Rattle.host_core.specs.Session.{Session, Pending, agreed_lu, is_agreed}
use Rattle.host_core.specs.State.{Service}
use Rattle.host_core.specs.Takes.{Answers, HostStep, asked, talked_on}
use Rattle.host_core.specs.declared.question.Answer.{Answer as ApplicationAnswer}
use Rattle.host_core.specs.declared.terminals.Terminals.{Terminals}
use Rattle.host_core.specs.declared.turn.Turn.{Turn}
use Rattle.host_core.specs.declared.turn.Turn.TheVariants as whose
use Rattle.world3270.specs.statement.Agreeing.{BytesNegotiate, IsFresh, Negotiates, OnlyNegotiates}

-- ---- an item

-- a step changes nothing of the session but the talk
abbrev JustTalked : Session → HostStep → Type 0
JustTalked conn step = step.conn ≡ record conn { talk = step.conn.talk }

asked_talks : (conn : Session) (lu : Option (List ℕ)) (talk : Talk HostState) (answer : Result (List ℕ) Reason) (state : HostState) → JustTalked conn (asked conn lu talk answer state)
asked_talks conn lu talk answer Offered = refl
asked_talks conn lu talk answer Asked = refl
asked_talks conn lu talk answer (Asking device) = refl
asked_talks conn lu talk answer (Named device granted) = refl
asked_talks conn lu talk answer (Countered device granted) = refl
asked_talks conn lu talk answer (Agreed device granted) = refl
asked_talks conn lu talk answer (Closed cause) = refl

answered_talks : (pool : Answers) (conn : Session) (lu : Option (List ℕ)) (talk : Talk HostState) (said : Reply) → JustTalked conn (talked_on pool conn lu talk said)
answered_talks pool conn lu talk (reply.AskPool name) = asked_talks conn lu talk (pool name) talk.state
answered_talks pool conn lu talk reply.Nothing = refl
answered_talks pool conn lu talk (reply.Opt verb code) = refl
answered_talks pool conn lu talk (reply.Sub sending behind) = refl
answered_talks pool conn lu talk reply.Agreed = refl
answered_talks pool conn lu talk (reply.Refused reason) = refl
answered_talks pool conn lu talk (reply.Close cause) = refl

talks_only : (pool : Answers) (conn : Session) (item : WireItem) (step : HostStep) → Talks pool conn item step → JustTalked conn step
talks_only pool conn item step talks =
    let next : Talk HostState × Reply = follow Closed conn.talk (host_transition conn.talk.state talks.0) in
    subst (JustTalked conn) (sym talks.2) (answered_talks pool conn (lu_asked talks.0) next.0 next.1)

item_talks : (pool : Answers) (conn : Session) (item : WireItem) (step : HostStep) → is_agreed conn.talk.state ≡ false → TakesItem pool conn item step → JustTalked conn step
item_talks pool conn (Record bytes) step unagreed taken = subst (JustTalked conn) (sym (subst (λ (b : Bool). TakesRecordIf b conn bytes step) unagreed taken)) refl
item_talks pool conn (Opt verb code) step unagreed taken = talks_only pool conn (Opt verb code) step taken
item_talks pool conn (Sub bytes) step unagreed taken = talks_only pool conn (Sub bytes) step taken
item_talks pool conn (Other code) step unagreed taken = talks_only pool conn (Other code) step taken

-- ---- a byte

-- what a byte makes of an open number: it is still open, with such a session; or it closes
data Becomes (app : Application) (serves : Terminals) (service : Service) : Type 0 where
  is_still : (rest : Rest) (conn : Session) → service ≡ Service.Open rest conn → IsFresh app serves conn → Becomes app serves service
  closes : (cause : Cause) → service ≡ Service.Closed cause → Becomes app serves service

pub open_parts : (rest to : Rest) (conn other : Session) → Service.Open rest conn ≡ Service.Open to other → conn ≡ other
open_parts rest to conn other e = cc

still_fresh : (app : Application) (serves : Terminals) (conn now : Session) → IsFresh app serves conn → now ≡ record conn { talk = now.talk } → IsFresh app serves now
still_fresh app serves conn now fresh same = same ∙ ap (λ (c : Session). record c { talk = now.talk }) fresh

by_closing : (app : Application) (serves : Terminals) (to : Rest) (conn : Session) (cause : Option Cause) → IsFresh app serves conn → Becomes app serves (service_after to conn cause)
by_closing app serves to conn None fresh = Becomes.is_still to conn refl fresh
by_closing app serves to conn (Some cause) fresh = Becomes.closes cause refl

byte_leaves : (app : Application) (serves : Terminals) (number : ℕ) (old : ConnectionAndPool) (byte : ℕ) (new : ConnectionAndPool) (rest : Rest) (conn : Session)
    → old.connection.service ≡ Service.Open rest conn → is_agreed conn.talk.state ≡ false → IsFresh app serves conn → TakesByte number old byte new → Becomes app serves new.connection.service
byte_leaves app serves number old byte new rest conn held unagreed fresh (TakesByte.goes_on from to same is delivers becomes) =
    let it : same ≡ conn = open_parts from rest same conn (sym is ∙ held) in
    Becomes.is_still to same (ap (λ (c : ConnectionAndPool). c.connection.service) becomes) (subst (IsFresh app serves) (sym it) fresh)
byte_leaves app serves number old byte new rest conn held unagreed fresh (TakesByte.completes from to same item step is delivers taken becomes) =
    let it : same ≡ conn = open_parts from rest same conn (sym is ∙ held) in
    let talks = item_talks (answer_to old.pool) same item step (ap (λ (c : Session). is_agreed c.talk.state) it ∙ unagreed) taken in
    let now = still_fresh app serves same step.conn (subst (IsFresh app serves) (sym it) fresh) talks in
    subst (Becomes app serves) (sym (ap (λ (c : ConnectionAndPool). c.connection.service) becomes)) (by_closing app serves to step.conn step.closes now)
byte_leaves app serves number old byte new rest conn held unagreed fresh (TakesByte.breaks from same fault is wrong becomes) =
    Becomes.closes _ (ap (λ (c : ConnectionAndPool). c.connection.service) becomes)

-- ---- bytes

-- a closed number takes none
closed_takes : (number : ℕ) (old : ConnectionAndPool) (bytes : List ℕ) (new : ConnectionAndPool) (cause : Cause) (to : Rest) (now : Session) → old.connection.service ≡ Service.Closed cause → TakesBytes number old bytes new
    → new.connection.service ≡ Service.Open to now → ⊥
closed_takes number old [] new cause to now closed same is = let both : Service.Closed cause ≡ Service.Open to now = sym closed ∙ sym (ap (λ (c : ConnectionAndPool). c.connection.service) same) ∙ is in cc
closed_takes number old (byte ∷ bytes) new cause to now closed taken is = by_byte taken.1
  where
    by_byte : TakesByte number old byte taken.0 → ⊥
    by_byte (TakesByte.goes_on rest next conn held delivers becomes) = let both : Service.Closed cause ≡ Service.Open rest conn = sym closed ∙ held in cc
    by_byte (TakesByte.completes rest next conn item step held delivers took becomes) = let both : Service.Closed cause ≡ Service.Open rest conn = sym closed ∙ held in cc
    by_byte (TakesByte.breaks rest conn fault held wrong becomes) = let both : Service.Closed cause ≡ Service.Open rest conn = sym closed ∙ held in cc

lu_agreed : (state : HostState) → is_agreed state ≡ true → (lu : List ℕ) × (agreed_lu state ≡ Some lu)
lu_agreed (Agreed device lu) agrees = (lu, refl)
lu_agreed Offered agrees = absurd (cc)
lu_agreed Asked agrees = absurd (cc)
lu_agreed (Asking device) agrees = absurd (cc)
lu_agreed (Named device lu) agrees = absurd (cc)
lu_agreed (Countered device lu) agrees = absurd (cc)
lu_agreed (Closed cause) agrees = absurd (cc)

-- after one byte more
one_more : (app : Application) (serves : Terminals) (number : ℕ) (old mid : ConnectionAndPool) (byte : ℕ) (bytes : List ℕ) (new : ConnectionAndPool) (now : Session) → TakesByte number old byte mid
    → Negotiates app serves number mid bytes new now → Negotiates app serves number old (byte ∷ bytes) new now
one_more app serves number old mid byte bytes new now takes (Negotiates.goes_on unagreed fresh) = Negotiates.goes_on unagreed fresh
one_more app serves number old mid byte bytes new now takes (Negotiates.agrees it) = Negotiates.agrees (record {
  first = byte ∷ it.first;
  behind = it.behind;
  whole = ap (λ (l : List ℕ). byte ∷ l) it.whole;
  mid = it.mid;
  takes = (mid, takes, it.takes);
  rest = it.rest;
  conn = it.conn;
  is_open = it.is_open;
  fresh = it.fresh;
  lu = it.lu;
  agreed = it.agreed;
  takes_behind = it.takes_behind;
})

pub bytes_negotiate : BytesNegotiate
bytes_negotiate app serves number old [] new rest to conn now held unagreed fresh same is =
    let it : now ≡ conn = open_parts to rest now conn (sym is ∙ ap (λ (c : ConnectionAndPool). c.connection.service) same ∙ held) in
    Negotiates.goes_on (ap (λ (c : Session). is_agreed c.talk.state) it ∙ unagreed) (subst (IsFresh app serves) (sym it) fresh)
bytes_negotiate app serves number old (byte ∷ bytes) new rest to conn now held unagreed fresh taken is =
    by_byte (byte_leaves app serves number old byte taken.0 rest conn held unagreed fresh taken.1)
    (λ next_rest next is_next still_unagreed still. bytes_negotiate app serves number taken.0 bytes new next_rest to next now is_next still_unagreed still taken.2 is)
  where
    by_byte : Becomes app serves taken.0.connection.service
        → ((next_rest : Rest) (next : Session) → taken.0.connection.service ≡ Service.Open next_rest next → is_agreed next.talk.state ≡ false → IsFresh app serves next → Negotiates app serves number taken.0 bytes new now)
        → Negotiates app serves number old (byte ∷ bytes) new now
    by_byte (Becomes.closes cause closed) goes_on = absurd (closed_takes number taken.0 bytes new cause to now closed taken.2 is)
    by_byte (Becomes.is_still next_rest next is_next still) goes_on = by_agreement (is_agreed next.talk.state) refl
      where
        by_agreement : (b : Bool) → is_agreed next.talk.state ≡ b → Negotiates app serves number old (byte ∷ bytes) new now
        by_agreement false e = one_more app serves number old taken.0 byte bytes new now taken.1 (goes_on next_rest next is_next e still)
        by_agreement true e =
            let name = lu_agreed next.talk.state e in
            Negotiates.agrees (record {
              first = byte ∷ [];
              behind = bytes;
              whole = refl;
              mid = taken.0;
              takes = (taken.0, taken.1, refl);
              rest = next_rest;
              conn = next;
              is_open = is_next;
              fresh = still;
              lu = name.0;
              agreed = name.1;
              takes_behind = taken.2;
            })

-- ---- nothing else

no_act : (turn : Turn) (pending : Pending) (agreed : Bool) → agreed ≡ false → may_act turn pending agreed ≡ false
no_act whose.Host Pending.Nothing agreed is = is
no_act whose.Host (Pending.Writing number command) agreed is = refl
no_act whose.Host (Pending.Reading number) agreed is = refl
no_act whose.Host (Pending.Noting number command) agreed is = refl
no_act whose.Terminal pending agreed is = refl

no_note : (turn : Turn) (pending : Pending) (agreed : Bool) → agreed ≡ false → may_note turn pending agreed ≡ false
no_note whose.Terminal Pending.Nothing agreed is = is
no_note whose.Terminal (Pending.Writing number command) agreed is = refl
no_note whose.Terminal (Pending.Reading number) agreed is = refl
no_note whose.Terminal (Pending.Noting number command) agreed is = refl
no_note whose.Host pending agreed is = refl

-- what an answer shows, if the host may act
abbrev shows : Application → Session → ApplicationAnswer → Bool → Option Sent
shows app conn said may =
    if option_map_or is_ask (if may then Some (decision_on app conn conn.turn_reason) else None) false && has_its_panel app said
    then Some (done app conn (act_by app conn said (panel_for app conn said))) else None

pub only_negotiates : OnlyNegotiates
only_negotiates app conn unagreed = record {
  acts = ap (λ (may : Bool). option_and_then (decided app conn) (if may then Some (decision_on app conn conn.turn_reason) else None)) none;
  answers = λ session ticket said. by_ticket (is_ticket ticket (ticket_of session conn)) said;
  notes = λ text. ap (λ (may : Bool). if may then Some (noted_as text conn) else None) (no_note conn.turn conn.pending (is_agreed conn.talk.state) unagreed);
}
  where
    none : may_act conn.turn conn.pending (is_agreed conn.talk.state) ≡ false
    none = no_act conn.turn conn.pending (is_agreed conn.talk.state) unagreed

    by_ticket : (b : Bool) (said : ApplicationAnswer) → (if b then shows app conn said (may_act conn.turn conn.pending (is_agreed conn.talk.state)) else None) ≡ None
    by_ticket true said = ap (shows app conn said) none
    by_ticket false said = refl

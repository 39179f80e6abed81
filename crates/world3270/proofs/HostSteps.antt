-- What a host makes of a message leaves its number and its values as they are, and its turn; it says nothing but talk.
use Rattle.std.proofs.Common.{◌≡◌, ◌⊎◌, inl, inr, ◌==◌, ℕ, Bool, true, false, Option, None, Result, Ok, Err, List, [], map, refl, sym, ◌∙◌, if◌then◌else◌, Some, not, ltb, suc}
use Rattle.codes3270.specs.declared.attention.Aid.{Aid}
use Rattle.codes3270.specs.declared.attention.Aid.TheVariants.{NoAid, Enter, Clear, Pf, Pa}
use Rattle.datastream.specs.Grammar.{CommandParts}
use Rattle.datastream.specs.InboundText.{InboundParts}
use Rattle.datastream.specs.declared.inbound_part.Form.{Form}
use Rattle.datastream.specs.declared.inbound_part.Form.TheVariants.{Modified, All as AllModified, Buffer}
use Rattle.shadow.specs.Belief.{Shadow}
use Rattle.shadow.specs.Exactness.{is_erase}
use Rattle.shadow.specs.declared.fault.HeardFault.{HeardFault}
use Rattle.tn3270e_msg.specs.HostTable.{host_transition, answer_transition}
use Rattle.tn3270e_msg.specs.Talk.{Talk, follow, NegotiationMessage, says, sayings}
use Rattle.tn3270e_msg.specs.declared.cause.Cause.{Cause}
use Rattle.tn3270e_msg.specs.declared.cause.Cause.TheVariants.{BadInbound, Negative}
use Rattle.tn3270e_msg.specs.declared.host_talk.HostState.{HostState}
use Rattle.tn3270e_msg.specs.declared.host_talk.HostState.TheVariants.{Offered, Asked, Asking, Named, Countered, Agreed, Closed}
use Rattle.tn3270e_msg.specs.declared.reply.Reason.{Reason}
use Rattle.tn3270e_msg.specs.declared.reply.Reply.{Reply}
use Rattle.tn3270e_msg.specs.declared.reply.Reply.TheVariants as reply
use Rattle.host_core.specs.Acts.{Act, done}
use Rattle.host_core.specs.Application.{Application}
use Rattle.host_core.specs.Messages.{ToTerminal, ToHost, Verdict}
use Rattle.host_core.specs.declared.disbelief.Disbelief.{Disbelief}
use Rattle.host_core.specs.declared.disbelief.Disbelief.TheVariants.{Contradicts, NoKey}
use Rattle.host_core.specs.declared.turn.Turn.{Turn}
use Rattle.host_core.specs.declared.turn.Turn.TheVariants as whose
use Rattle.host_core.specs.declared.turn_reason.TurnReason.{TurnReason}
use Rattle.host_core.specs.declared.turn_reason.TurnReason.TheVariants as turn_reasons
use Rattle.host_core.specs.declared.unheard.Unheard.{Unheard}
use Rattle.host_core.specs.declared.unheard.Unheard.TheVariants as unheards
use Rattle.host_core.specs.Session.{Session, Pending, is_agreed}
use Rattle.host_core.specs.Rejections.{lu_asked}
use Rattle.shadow.specs.declared.rule_break.RuleBreak.{RuleBreak}
use Rattle.host_core.specs.Takes.{buffer_heard, clear_came, is_read_believed, is_unread, may_be_read, only_read, paint_answered, paint_verdict_came, unheard_next, rule_broken_by, unless_broken, Answers, HostStep, quiet, closed_by, replied, granted_by, asked, talked_on, hears, believed, once_read, buffer_came, key_came, key_data_came, data_came, answered, refused, write_refused, if_answers, verdict_came, read_verdict_came, response_came, once_agreed, dropping, second_key, second_key_data, out_of_turn, may_have_changed, took, breaking, most_restored, painted_over, restoring, sends_wrong, unbelieved}

-- its command still waits for its answer, or nothing does
pub record JustTalks (old : Session) (step : HostStep) : Type 0 where
  pub number : step.conn.next_seq ≡ old.next_seq
  pub size : step.conn.size ≡ old.size
  pub panel : step.conn.panel ≡ old.panel
  pub values : step.conn.values ≡ old.values
  pub message : step.conn.message ≡ old.message
  pub turn : old.turn ≡ whose.Host → step.conn.turn ≡ whose.Host
  pub pending : (step.conn.pending ≡ old.pending) ⊎ (step.conn.pending ≡ Pending.Nothing)
  pub unheard : may_have_changed step.conn.unheard ≡ may_have_changed old.unheard
  pub reason : (step.conn.turn_reason ≡ old.turn_reason) ⊎ (step.conn.turn_reason ≡ turn_reasons.Agreement → ⊥)
  pub talk : List NegotiationMessage
  pub says : step.sends ≡ map ToTerminal.TalksDown talk

quietly : (conn : Session) → JustTalks conn (quiet conn)
quietly conn = record { number = refl; size = refl; panel = refl; values = refl; message = refl; turn = λ is. is; pending = inl refl; unheard = refl; reason = inl refl; talk = []; says = refl }

closes : (conn : Session) (cause : Cause) → JustTalks conn (closed_by cause conn)
closes conn cause = record { number = refl; size = refl; panel = refl; values = refl; message = refl; turn = λ is. is; pending = inl refl; unheard = refl; reason = inl refl; talk = []; says = refl }

-- nothing is pending then
settles : (conn new : Session) → new.next_seq ≡ conn.next_seq → new.size ≡ conn.size → new.panel ≡ conn.panel → new.values ≡ conn.values → new.message ≡ conn.message → (conn.turn ≡ whose.Host → new.turn ≡ whose.Host)
    → new.pending ≡ Pending.Nothing → may_have_changed new.unheard ≡ may_have_changed conn.unheard → (new.turn_reason ≡ conn.turn_reason) ⊎ (new.turn_reason ≡ turn_reasons.Agreement → ⊥) → JustTalks conn (quiet new)
settles conn new number shape panel values message turn none unheard reason =
    record { number = number; size = shape; panel = panel; values = values; message = message; turn = turn; pending = inr none; unheard = unheard; reason = reason; talk = []; says = refl }

replies : (conn : Session) (lu grants : Option (List ℕ)) (next : Talk HostState × Reply) → JustTalks conn (replied conn lu grants next)
replies conn lu grants next =
    record { number = refl; size = refl; panel = refl; values = refl; message = refl; turn = λ is. is; pending = inl refl; unheard = refl; reason = inl refl; talk = sayings next.1; says = refl }

asks : (conn : Session) (lu : Option (List ℕ)) (talk : Talk HostState) (answer : Result (List ℕ) Reason) (state : HostState) → JustTalks conn (asked conn lu talk answer state)
asks conn lu talk answer (Asking device) = replies conn lu (granted_by answer) (follow Closed talk (answer_transition device answer))
asks conn lu talk answer Offered = quietly conn
asks conn lu talk answer Asked = quietly conn
asks conn lu talk answer (Named device granted) = quietly conn
asks conn lu talk answer (Countered device granted) = quietly conn
asks conn lu talk answer (Agreed device granted) = quietly conn
asks conn lu talk answer (Closed cause) = quietly conn

talks : (pool : Answers) (conn : Session) (lu : Option (List ℕ)) (talk : Talk HostState) (answer : Reply) → JustTalks conn (talked_on pool conn lu talk answer)
talks pool conn lu talk (reply.AskPool name) = asks conn lu talk (pool name) talk.state
talks pool conn lu talk reply.Nothing = replies conn lu None (talk, reply.Nothing)
talks pool conn lu talk (reply.Opt verb code) = replies conn lu None (talk, reply.Opt verb code)
talks pool conn lu talk (reply.Sub sending after) = replies conn lu None (talk, reply.Sub sending after)
talks pool conn lu talk reply.Agreed = replies conn lu None (talk, reply.Agreed)
talks pool conn lu talk (reply.Refused reason) = replies conn lu None (talk, reply.Refused reason)
talks pool conn lu talk (reply.Close cause) = replies conn lu None (talk, reply.Close cause)

-- ---- data

-- data that can't be believed
paints_over : (why : Disbelief) (turn : Turn) (pending : Pending) (conn : Session) → may_have_changed conn.unheard ≡ true
    → JustTalks conn (restoring why (painted_over turn pending (record conn { restored = suc conn.restored })))
paints_over why turn (Pending.Writing number command) conn any =
    record { number = refl; size = refl; panel = refl; values = refl; message = refl; turn = λ is. is; pending = inl refl; unheard = sym any; reason = inl refl; talk = []; says = refl }
paints_over why turn (Pending.Reading number) conn any =
    record { number = refl; size = refl; panel = refl; values = refl; message = refl; turn = λ is. refl; pending = inr refl; unheard = refl; reason = inr (λ e. cc); talk = []; says = refl }
paints_over why whose.Terminal Pending.Nothing conn any =
    record { number = refl; size = refl; panel = refl; values = refl; message = refl; turn = λ is. refl; pending = inr refl; unheard = refl; reason = inr (λ e. cc); talk = []; says = refl }
paints_over why whose.Terminal (Pending.Noting number command) conn any =
    record { number = refl; size = refl; panel = refl; values = refl; message = refl; turn = λ is. refl; pending = inl refl; unheard = refl; reason = inr (λ e. cc); talk = []; says = refl }
paints_over why whose.Host Pending.Nothing conn any =
    record { number = refl; size = refl; panel = refl; values = refl; message = refl; turn = λ is. is; pending = inl refl; unheard = sym any; reason = inl refl; talk = []; says = refl }
paints_over why whose.Host (Pending.Noting number command) conn any =
    record { number = refl; size = refl; panel = refl; values = refl; message = refl; turn = λ is. is; pending = inl refl; unheard = sym any; reason = inl refl; talk = []; says = refl }

breaks : (conn : Session) (broken : RuleBreak) → JustTalks conn (breaking broken conn)
breaks conn broken = record { size = refl; number = refl; panel = refl; values = refl; message = refl; turn = λ is. is; pending = inl refl; unheard = refl; reason = inl refl; talk = []; says = refl }

disbelieves : (why : Disbelief) (conn : Session) → JustTalks conn (unbelieved why conn)
disbelieves why conn = by_tests (may_have_changed conn.unheard) conn.verifies (ltb conn.restored most_restored) refl
  where
    by_tests : (changed verifies few : Bool) → may_have_changed conn.unheard ≡ changed → JustTalks conn (if not changed then closed_by BadInbound conn else if verifies then breaking sends_wrong conn
        else if few then restoring why (painted_over conn.turn conn.pending (record conn { restored = suc conn.restored })) else closed_by BadInbound conn)
    by_tests false verifies few any = closes conn BadInbound
    by_tests true true few any = breaks conn sends_wrong
    by_tests true false true any = paints_over why conn.turn conn.pending conn any
    by_tests true false false any = closes conn BadInbound

-- what waits for an answer still does, or nothing does
believes : (turn_reason : TurnReason) (pending : Pending) (cursor : Option ℕ) (conn : Session) (result : Result Shadow HeardFault) → (pending ≡ conn.pending) ⊎ (pending ≡ Pending.Nothing)
    → (turn_reason ≡ conn.turn_reason) ⊎ (turn_reason ≡ turn_reasons.Agreement → ⊥)
    → JustTalks conn (believed turn_reason pending cursor conn result)
believes turn_reason pending cursor conn (Ok shadow) waits reason =
    record { number = refl; size = refl; panel = refl; values = refl; message = refl; turn = λ is. refl; pending = waits; unheard = refl; reason = reason; talk = []; says = refl }
believes turn_reason pending cursor conn (Err fault) waits reason = disbelieves Contradicts conn

hears_key : (parts : InboundParts) (aid : Aid) (conn : Session) → JustTalks conn (key_came parts aid conn)
hears_key parts NoAid conn = disbelieves NoKey conn
hears_key parts Enter conn = believes (turn_reasons.Key Enter false) conn.pending parts.cursor conn (hears parts conn) (inl refl) (inr (λ e. cc))
hears_key parts Clear conn = believes (turn_reasons.Key Clear false) conn.pending parts.cursor conn (hears parts conn) (inl refl) (inr (λ e. cc))
hears_key parts (Pf key) conn = believes (turn_reasons.Key (Pf key) false) conn.pending parts.cursor conn (hears parts conn) (inl refl) (inr (λ e. cc))
hears_key parts (Pa key) conn = believes (turn_reasons.Key (Pa key) false) conn.pending parts.cursor conn (hears parts conn) (inl refl) (inr (λ e. cc))

hears_key_data : (parts : InboundParts) (form : Form) (conn : Session) → JustTalks conn (key_data_came parts form conn)
hears_key_data parts Modified conn = hears_key parts parts.aid conn
hears_key_data parts AllModified conn = closes conn _
hears_key_data parts Buffer conn = closes conn _

drops : (conn new : Session) (aid : Aid) → new.next_seq ≡ conn.next_seq → new.size ≡ conn.size → new.panel ≡ conn.panel → new.values ≡ conn.values → new.message ≡ conn.message → new.turn ≡ conn.turn → new.pending ≡ conn.pending
    → may_have_changed new.unheard ≡ may_have_changed conn.unheard → new.turn_reason ≡ conn.turn_reason → JustTalks conn (dropping aid new)
drops conn new aid number shape panel values message turn pending unheard reason =
    record { number = number; size = shape; panel = panel; values = values; message = message; turn = λ is. turn ∙ is; pending = inl pending; unheard = unheard; reason = inl reason; talk = []; says = refl }

drops_clear : (conn : Session) → may_have_changed conn.unheard ≡ true → JustTalks conn (dropping Clear (record conn { unheard = unheards.Clear }))
drops_clear conn any = drops conn (record conn { unheard = unheards.Clear }) Clear refl refl refl refl refl refl refl (sym any) refl

hears_clear : (parts : InboundParts) (conn : Session) → may_have_changed conn.unheard ≡ true → JustTalks conn (clear_came parts conn)
hears_clear parts conn any = by_test (is_unread conn.turn_reason)
  where
    by_test : (b : Bool) → JustTalks conn (if b then key_came parts Clear conn else dropping Clear (record conn { unheard = unheards.Clear }))
    by_test true = hears_key parts Clear conn
    by_test false = drops_clear conn any

drops_key : (parts : InboundParts) (aid : Aid) (pending : Pending) (conn : Session) → may_have_changed conn.unheard ≡ true → JustTalks conn (second_key parts aid pending conn)
drops_key parts NoAid pending conn any = disbelieves NoKey conn
drops_key parts Enter pending conn any = drops conn conn Enter refl refl refl refl refl refl refl refl refl
drops_key parts Clear Pending.Nothing conn any = hears_clear parts conn any
drops_key parts Clear (Pending.Writing number command) conn any = drops_clear conn any
drops_key parts Clear (Pending.Reading number) conn any = hears_clear parts conn any
drops_key parts Clear (Pending.Noting number command) conn any = hears_clear parts conn any
drops_key parts (Pf key) pending conn any = drops conn conn (Pf key) refl refl refl refl refl refl refl refl refl
drops_key parts (Pa key) pending conn any = drops conn conn (Pa key) refl refl refl refl refl refl refl refl refl

drops_key_data : (parts : InboundParts) (form : Form) (conn : Session) → may_have_changed conn.unheard ≡ true → JustTalks conn (second_key_data parts form conn)
drops_key_data parts Modified conn any = drops_key parts parts.aid conn.pending conn any
drops_key_data parts AllModified conn any = closes conn _
drops_key_data parts Buffer conn any = closes conn _

comes_out_of_turn : (parts : InboundParts) (conn : Session) → JustTalks conn (out_of_turn parts conn)
comes_out_of_turn parts conn = by_test (may_have_changed conn.unheard) refl
  where
    by_test : (b : Bool) → may_have_changed conn.unheard ≡ b → JustTalks conn (if b then second_key_data parts parts.form conn else closed_by BadInbound conn)
    by_test true any = drops_key_data parts parts.form conn any
    by_test false relies = closes conn BadInbound

read_reason : (reason : TurnReason) → (once_read reason ≡ reason) ⊎ (once_read reason ≡ turn_reasons.Agreement → ⊥)
read_reason turn_reasons.Agreement = inl refl
read_reason turn_reasons.Refusal = inl refl
read_reason turn_reasons.Restoration = inl refl
read_reason (turn_reasons.Key aid buffered) = inr (λ e. cc)

hears_buffer : (parts : InboundParts) (form : Form) (conn : Session) → JustTalks conn (buffer_came parts form conn)
hears_buffer parts Buffer conn = by_break (rule_broken_by parts conn)
  where
    by_break : (broken : Option RuleBreak) → JustTalks conn (unless_broken conn broken (buffer_heard parts conn))
    by_break None = by_count (is_read_believed conn)
      where
        by_count : (b : Bool) → JustTalks conn (if b then believed (once_read conn.turn_reason) Pending.Nothing parts.cursor conn (hears parts conn) else quiet (only_read conn))
        by_count true = believes (once_read conn.turn_reason) Pending.Nothing parts.cursor conn (hears parts conn) (inr refl) (read_reason conn.turn_reason)
        by_count false = settles conn (only_read conn) refl refl refl refl refl (λ is. refl) refl refl (read_reason conn.turn_reason)
    by_break (Some broken) = breaks conn broken
hears_buffer parts Modified conn = comes_out_of_turn parts conn
hears_buffer parts AllModified conn = comes_out_of_turn parts conn

hears_data : (parts : InboundParts) (turn : Turn) (pending : Pending) (conn : Session) → JustTalks conn (data_came parts turn pending conn)
hears_data parts turn (Pending.Reading number) conn = hears_buffer parts parts.form conn
hears_data parts turn (Pending.Writing number command) conn = comes_out_of_turn parts conn
hears_data parts whose.Host Pending.Nothing conn = comes_out_of_turn parts conn
hears_data parts whose.Host (Pending.Noting number command) conn = comes_out_of_turn parts conn
hears_data parts whose.Terminal Pending.Nothing conn = hears_key_data parts parts.form conn
hears_data parts whose.Terminal (Pending.Noting number command) conn = hears_key_data parts parts.form conn

-- ---- responses

if_it_answers : (b : Bool) (step : HostStep) (conn : Session) → JustTalks conn step → JustTalks conn (if_answers b step conn)
if_it_answers true step conn just = just
if_it_answers false step conn just = closes conn _

loses_a_write : (command : CommandParts) (conn : Session) → JustTalks conn (write_refused command conn)
loses_a_write command conn = by_test (is_erase command.code)
  where
    by_test : (b : Bool) → JustTalks conn (if b then closed_by Negative conn else quiet (refused conn))
    by_test true = closes conn Negative
    by_test false = settles conn (refused conn) refl refl refl refl refl (λ is. refl) refl refl (inr (λ e. cc))

judges : (command : CommandParts) (verdict : Verdict) (conn : Session) → JustTalks conn (verdict_came command verdict conn)
judges command Verdict.Positive conn = settles conn (answered command conn) refl refl refl refl refl (λ is. is) refl refl (inl refl)
judges command Verdict.Negative conn = loses_a_write command conn

-- what is shown doesn't change whether the host relies on the wait
pub still_changed : (unheard : Unheard) → may_have_changed (unheard_next unheard) ≡ may_have_changed unheard
still_changed unheards.Nothing = refl
still_changed unheards.Input = refl
still_changed unheards.Clear = refl

paints : (command : CommandParts) (conn : Session) → JustTalks conn (quiet (paint_answered command conn))
paints command conn = by_test (may_be_read conn.unheard) (is_erase command.code)
  where
    cleared : Session
    cleared = answered command (record conn { unheard = unheard_next conn.unheard })

    by_test : (read erases : Bool) → JustTalks conn (quiet (if read then answered command conn else if erases then cleared else refused conn))
    by_test true erases = settles conn (answered command conn) refl refl refl refl refl (λ is. is) refl refl (inl refl)
    by_test false true = settles conn cleared refl refl refl refl refl (λ is. is) refl (still_changed conn.unheard) (inl refl)
    by_test false false = settles conn (refused conn) refl refl refl refl refl (λ is. refl) refl refl (inr (λ e. cc))

judges_paint : (command : CommandParts) (verdict : Verdict) (conn : Session) → JustTalks conn (paint_verdict_came command verdict conn)
judges_paint command Verdict.Positive conn = paints command conn
judges_paint command Verdict.Negative conn = loses_a_write command conn

judges_read : (answers : Bool) (verdict : Verdict) (conn : Session) → JustTalks conn (read_verdict_came answers verdict conn)
judges_read answers Verdict.Positive conn = closes conn _
judges_read answers Verdict.Negative conn = if_it_answers answers _ conn (settles conn (refused conn) refl refl refl refl refl (λ is. refl) refl refl (inr (λ e. cc)))

is_answered : (number : ℕ) (verdict : Verdict) (pending : Pending) (conn : Session) → JustTalks conn (response_came number verdict pending conn)
is_answered number verdict Pending.Nothing conn = closes conn _
is_answered number verdict (Pending.Writing pending command) conn = if_it_answers (number == pending) _ conn (judges_paint command verdict conn)
is_answered number verdict (Pending.Noting pending command) conn = if_it_answers (number == pending) _ conn (judges command verdict conn)
is_answered number verdict (Pending.Reading pending) conn = judges_read (number == pending) verdict conn

-- ---- any message

once_it_agreed : (b : Bool) (step : HostStep) (conn : Session) → JustTalks conn step → JustTalks conn (once_agreed b step conn)
once_it_agreed true step conn just = just
once_it_agreed false step conn just = quietly conn

pub just_talks : (pool : Answers) (conn : Session) (message : ToHost) → JustTalks conn (took pool conn message)
just_talks pool conn (ToHost.TalksUp saying) =
    let next : Talk HostState × Reply = follow Closed conn.talk (host_transition conn.talk.state (says saying)) in
    talks pool conn (lu_asked (says saying)) next.0 next.1
just_talks pool conn (ToHost.Data parts) = once_it_agreed (is_agreed conn.talk.state) _ conn (hears_data parts conn.turn conn.pending conn)
just_talks pool conn (ToHost.Response number verdict) =
    once_it_agreed (is_agreed conn.talk.state) _ conn (is_answered number verdict conn.pending conn)

-- ---- an act

pub act_changed : (app : Application) (conn : Session) (act : Act) → may_have_changed (done app conn act).conn.unheard ≡ may_have_changed conn.unheard
act_changed app conn Act.Read = refl
act_changed app conn (Act.Show panel message keep values) = still_changed conn.unheard

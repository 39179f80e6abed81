-- How a host takes what a terminal sends: the connection after it, what the host sends, the LU that it grants, the
-- request that it rejects, the key that it drops, the rule that it finds broken, the data that it can't believe, and
-- the cause if it closes the connection (RFC 1647, sections 7, 8.1 and 10.4; turns, beliefs and causes are our profile).
use Rattle.std.specs.Prelude.{◌==◌, ◌&&◌, ◌||◌, not, ltb, ℕ, suc, Bool, true, false, List, [], map, Option, Some, None, Result, Ok, Err, unwrap_or, if◌then◌else◌}
use Rattle.codes3270.specs.declared.attention.Aid.{Aid}
use Rattle.codes3270.specs.declared.attention.Aid.TheVariants.{NoAid, Enter, Clear, Pf, Pa}
use Rattle.codes3270.specs.Size.{cells_in}
use Rattle.datastream.specs.Grammar.{CommandParts}
use Rattle.datastream.specs.InboundFields.{cells_sent}
use Rattle.datastream.specs.InboundText.{InboundParts}
use Rattle.datastream.specs.declared.inbound_part.Form.{Form}
use Rattle.datastream.specs.declared.inbound_part.Form.TheVariants.{Modified, All as AllModified, Buffer}
use Rattle.lu_pool.specs.Holders.{granted_if, given_back}
use Rattle.lu_pool.specs.declared.entry.Entry.{Entry}
use Rattle.shadow.specs.Belief.{Shadow}
use Rattle.shadow.specs.Doubt.{doubted}
use Rattle.shadow.specs.Exactness.{is_erase}
use Rattle.shadow.specs.Heard.{heard}
use Rattle.shadow.specs.RuleBreaks.{rule_break}
use Rattle.shadow.specs.Settled.{is_settled}
use Rattle.shadow.specs.Taken.{taken}
use Rattle.shadow.specs.declared.rule_break.Rule.TheVariants.{Sends}
use Rattle.shadow.specs.declared.rule_break.RuleBreak.{RuleBreak}
use Rattle.shadow.specs.declared.fault.HeardFault.{HeardFault}
use Rattle.tn3270e_msg.specs.Talk.{Talk, Comes, follow, says, sayings, closing}
use Rattle.tn3270e_msg.specs.HostTable.{host_transition, answer_transition}
use Rattle.tn3270e_msg.specs.declared.cause.Cause.{Cause}
use Rattle.tn3270e_msg.specs.declared.cause.Cause.TheVariants.{BadInbound, BadResponse, Negative as NegativeCause, RuleBroken}
use Rattle.tn3270e_msg.specs.declared.host_talk.HostState.{HostState}
use Rattle.tn3270e_msg.specs.declared.host_talk.HostState.TheVariants.{Asking, Closed}
use Rattle.tn3270e_msg.specs.declared.reply.Reason.{Reason}
use Rattle.tn3270e_msg.specs.declared.reply.Reply.{Reply}
use Rattle.tn3270e_msg.specs.declared.reply.Reply.TheVariants as reply
use Rattle.host_core.specs.Messages.{ToTerminal, ToHost, Verdict}
use Rattle.host_core.specs.Rejections.{lu_asked, rejection_by}
use Rattle.host_core.specs.declared.disbelief.Disbelief.{Disbelief}
use Rattle.host_core.specs.declared.disbelief.Disbelief.TheVariants.{NoKey, Contradicts}
use Rattle.host_core.specs.declared.dropped_key.DroppedKey.{DroppedKey}
use Rattle.host_core.specs.declared.rejection.Rejection.{Rejection}
use Rattle.host_core.specs.declared.turn.Turn.{Turn}
use Rattle.host_core.specs.declared.turn.Turn.TheVariants as whose
use Rattle.host_core.specs.declared.turn_reason.TurnReason.{TurnReason}
use Rattle.host_core.specs.declared.turn_reason.TurnReason.TheVariants as turn_reasons
use Rattle.host_core.specs.declared.unheard.Unheard.{Unheard}
use Rattle.host_core.specs.declared.unheard.Unheard.TheVariants as unheards
use Rattle.host_core.specs.Session.{Session, Pending, is_agreed}

-- what the host does about a message, and the connection after it
pub record HostStep : Type 0 where
  pub conn : Session
  pub sends : List ToTerminal
  pub grants : Option (List ℕ)
  pub rejects : Option Rejection
  pub drops : Option DroppedKey
  pub breaks : Option RuleBreak
  pub replaces : Bool  -- characters that the client's code page lacks were replaced in the data
  pub restores : Option Disbelief  -- why the data can't be believed, so that the screen will be restored
  pub closes : Option Cause

-- a step that only changes the connection
abbrev pub quiet : Session → HostStep
quiet conn = record {
  conn = conn;
  sends = [];
  grants = None;
  rejects = None;
  drops = None;
  breaks = None;
  replaces = false;
  restores = None;
  closes = None;
}

-- the connection closes for this cause
abbrev pub closed_by : Cause → Session → HostStep
closed_by cause conn = record (quiet conn) { closes = Some cause }

-- the data of this key is dropped
abbrev pub dropping : Aid → Session → HostStep
dropping aid conn = record (quiet conn) { drops = Some (record { aid = aid }) }

-- the terminal broke this rule, so the connection closes
abbrev pub breaking : RuleBreak → Session → HostStep
breaking broken conn = record (quiet conn) { breaks = Some broken; closes = Some RuleBroken }

-- the data is dropped, since it can't be believed for this reason
abbrev pub restoring : Disbelief → Session → HostStep
restoring why conn = record (quiet conn) { restores = Some why }

-- ---- the talk

abbrev pub with_talk : Session → Talk HostState → Session
with_talk conn talk = record conn { talk = talk }

-- the negotiation's reply to a message that asks for this LU, if it asks for one
abbrev pub replied : Session → Option (List ℕ) → Option (List ℕ) → Talk HostState × Reply → HostStep
replied conn lu grants talked = record (quiet (with_talk conn talked.0)) {
  sends = map ToTerminal.TalksDown (sayings talked.1);
  grants = grants;
  rejects = rejection_by lu talked.1;
  closes = closing talked.1;
}

-- what a pool answers to a request for an LU, by its name, or for any
abbrev pub Answers : Type 0
Answers = Option (List ℕ) → Result (List ℕ) Reason

abbrev pub granted_by : Result (List ℕ) Reason → Option (List ℕ)
granted_by (Ok lu) = Some lu
granted_by (Err reason) = None

-- the negotiation asks the pool, and goes on with its answer
abbrev pub asked : Session → Option (List ℕ) → Talk HostState → Result (List ℕ) Reason → HostState → HostStep
asked conn lu talk answer (Asking device) =
    replied conn lu (granted_by answer) (follow Closed talk (answer_transition device answer))
asked conn lu talk answer _ = quiet conn

-- the negotiation's reply, after it has asked the pool if it has to
abbrev pub talked_on : Answers → Session → Option (List ℕ) → Talk HostState → Reply → HostStep
talked_on pool conn lu talk (reply.AskPool name) = asked conn lu talk (pool name) talk.state
talked_on pool conn lu talk reply = replied conn lu None (talk, reply)

-- the negotiation takes a message
abbrev pub talked : Answers → Session → Talk HostState → Comes → HostStep
talked pool conn talk comes = let next = follow Closed talk (host_transition talk.state comes) in
    talked_on pool conn (lu_asked comes) next.0 next.1

-- ---- data

-- what the host believes after this data, of a screen of the connection's size
abbrev pub hears : InboundParts → Session → Result Shadow HeardFault
hears parts conn = heard (cells_in conn.size) conn.shadow parts

-- Data doesn't say its form: it is read as the whole screen while a read is pending, else as modified fields.
abbrev pub form_awaited : Pending → Form
form_awaited (Pending.Reading number) = Buffer
form_awaited (Pending.Writing number command) = Modified
form_awaited (Pending.Noting number command) = Modified
form_awaited Pending.Nothing = Modified

-- the operator may have done something unheard: the host doesn't rely on the terminal's wait
abbrev pub may_have_changed : Unheard → Bool
may_have_changed unheards.Nothing = false
may_have_changed unheards.Input = true
may_have_changed unheards.Clear = true

-- the command is refused: nothing is known of the screen any more, and the turn is the host's
abbrev pub refused : Session → Session
refused conn =
    record conn {
      shadow = Shadow.NothingKnown;
      turn = whose.Host;
      pending = Pending.Nothing;
      turn_reason = turn_reasons.Refusal;
    }

-- the rule that data breaks if it has no form, or contradicts the belief
abbrev pub sends_wrong : RuleBreak
sends_wrong = record { rule = Sends; cell = 0 }

-- nothing is known of the screen any more, and the turn is the host's, to restore it
abbrev pub to_be_restored : Session → Session
to_be_restored conn = record (refused conn) { turn_reason = turn_reasons.Restoration }

-- What can't be believed of the screen is painted over. In the terminal's turn, and in place of the answer to Read
-- Buffer, the screen is restored; the response to a note is still awaited. At any other time nothing is believed of the
-- screen when a panel is shown next, as after Clear.
abbrev pub painted_over : Turn → Pending → Session → Session
painted_over turn (Pending.Writing number command) conn = record conn { unheard = unheards.Clear }
painted_over turn (Pending.Reading number) conn = to_be_restored conn
painted_over whose.Terminal Pending.Nothing conn = to_be_restored conn
painted_over whose.Terminal (Pending.Noting number command) conn =
    record (to_be_restored conn) { pending = conn.pending }
painted_over whose.Host Pending.Nothing conn = record conn { unheard = unheards.Clear }
painted_over whose.Host (Pending.Noting number command) conn = record conn { unheard = unheards.Clear }

-- the most times in a row, without a key that is believed, that a screen is painted over
abbrev pub most_restored : ℕ
most_restored = 8

-- the data is dropped and painted over; after too many times in a row the connection closes
abbrev pub restored_or_closed : Disbelief → Session → HostStep
restored_or_closed why conn = if ltb conn.restored most_restored
    then restoring why (painted_over conn.turn conn.pending (record conn { restored = suc conn.restored }))
    else closed_by BadInbound conn

-- Data that can't be believed. A host that relies on the wait closes the connection; to one that verifies it is a
-- broken rule; any other host paints over what it can't believe.
abbrev pub unbelieved : Disbelief → Session → HostStep
unbelieved why conn = if not (may_have_changed conn.unheard) then closed_by BadInbound conn
    else if conn.verifies then breaking sends_wrong conn
    else restored_or_closed why conn

-- The data is believed, and the turn is the host's for this reason. `pending` is the command that still waits for its
-- answer; the cursor moves if the data gives its address.
abbrev pub believed : TurnReason → Pending → Option ℕ → Session → Result Shadow HeardFault → HostStep
believed turn_reason pending cursor conn (Ok shadow) =
    quiet (record conn {
      shadow = shadow;
      turn = whose.Host;
      pending = pending;
      turn_reason = turn_reason;
      cursor = unwrap_or cursor conn.cursor;
      restored = 0;
    })
believed turn_reason pending cursor conn (Err fault) = unbelieved Contradicts conn

-- the reason for the turn after a Read Buffer is answered: the last key's screen was read
abbrev pub once_read : TurnReason → TurnReason
once_read (turn_reasons.Key aid buffered) = turn_reasons.Key aid true
once_read turn_reasons.Agreement = turn_reasons.Agreement
once_read turn_reasons.Refusal = turn_reasons.Refusal
once_read turn_reasons.Restoration = turn_reasons.Restoration

-- a key's data in the terminal's turn; a note still waits for its answer
abbrev pub key_came : InboundParts → Aid → Session → HostStep
key_came parts NoAid conn = unbelieved NoKey conn
key_came parts Enter conn = believed (turn_reasons.Key Enter false) conn.pending parts.cursor conn (hears parts conn)
key_came parts Clear conn = believed (turn_reasons.Key Clear false) conn.pending parts.cursor conn (hears parts conn)
key_came parts (Pf key) conn = believed (turn_reasons.Key (Pf key) false) conn.pending parts.cursor conn
    (hears parts conn)
key_came parts (Pa key) conn = believed (turn_reasons.Key (Pa key) false) conn.pending parts.cursor conn
    (hears parts conn)

-- the last key was PA, which sends no fields, or one without a meaning, and the screen wasn't read since
abbrev pub is_unread : TurnReason → Bool
is_unread turn_reasons.Agreement = false
is_unread (turn_reasons.Key NoAid buffered) = not buffered
is_unread (turn_reasons.Key (Pa key) buffered) = not buffered
is_unread (turn_reasons.Key _ buffered) = false
is_unread turn_reasons.Refusal = false
is_unread turn_reasons.Restoration = false

-- Clear is pressed before the last key was answered, and no paint waits for its answer. It is dropped, but nothing is
-- believed of the screen when a panel is shown next. After PA the texts that the host would read are gone: if it hasn't
-- read them yet, Clear counts in place of PA. Then a read that waits for its answer has nothing to say.
abbrev pub clear_came : InboundParts → Session → HostStep
clear_came parts conn = if is_unread conn.turn_reason then key_came parts Clear conn
    else dropping Clear (record conn { unheard = unheards.Clear })

-- A second key: one pressed before the last one was answered. It is dropped, since what is shown next is right all the
-- same. Clear was pressed before the terminal carried out a paint that waits for its answer; `paint_answered` says what
-- that means.
abbrev pub second_key : InboundParts → Aid → Pending → Session → HostStep
second_key parts NoAid pending conn = unbelieved NoKey conn
second_key parts Enter pending conn = dropping Enter conn
second_key parts Clear Pending.Nothing conn = clear_came parts conn
second_key parts Clear (Pending.Writing number command) conn = dropping Clear (record conn { unheard = unheards.Clear })
second_key parts Clear (Pending.Reading number) conn = clear_came parts conn
second_key parts Clear (Pending.Noting number command) conn = clear_came parts conn
second_key parts (Pf key) pending conn = dropping (Pf key) conn
second_key parts (Pa key) pending conn = dropping (Pa key) conn

-- data out of turn: a second key's if it has the form of modified fields, else it closes the connection
abbrev pub second_key_data : InboundParts → Form → Session → HostStep
second_key_data parts Modified conn = second_key parts parts.aid conn.pending conn
second_key_data parts AllModified conn = closed_by BadInbound conn
second_key_data parts Buffer conn = closed_by BadInbound conn

-- Data is received out of turn. A host that relies on the wait closes the connection.
abbrev pub out_of_turn : InboundParts → Session → HostStep
out_of_turn parts conn = if may_have_changed conn.unheard then second_key_data parts parts.form conn
    else closed_by BadInbound conn

-- the screen wasn't cleared out of turn
abbrev pub may_be_read : Unheard → Bool
may_be_read unheards.Nothing = true
may_be_read unheards.Input = true
may_be_read unheards.Clear = false

-- the host verifies that the terminal keeps the rules, and the screen wasn't cleared out of turn
abbrev pub is_verified : Session → Bool
is_verified conn = conn.verifies && may_be_read conn.unheard

-- the rule that the answer to Read Buffer shows to be broken, if the host verifies that
abbrev pub rule_broken_by : InboundParts → Session → Option RuleBreak
rule_broken_by parts conn = if is_verified conn then rule_break conn.shadow (cells_sent parts.parts) else None

-- the given step, unless a rule is broken
abbrev pub unless_broken : Session → Option RuleBreak → HostStep → HostStep
unless_broken conn None step = step
unless_broken conn (Some broken) step = breaking broken conn

-- Whether the answer to Read Buffer counts. A host that doesn't rely on the wait has learned from the key what there is
-- to learn, so that nothing counts that is typed in the wait: a read only verifies. It counts after PA, which sends no
-- fields, after a key without a meaning, or if the text of some field isn't known.
abbrev pub is_after_pa : TurnReason → Bool
is_after_pa turn_reasons.Agreement = false
is_after_pa (turn_reasons.Key NoAid buffered) = true
is_after_pa (turn_reasons.Key (Pa key) buffered) = true
is_after_pa (turn_reasons.Key _ buffered) = false
is_after_pa turn_reasons.Refusal = false
is_after_pa turn_reasons.Restoration = false

abbrev pub is_read_believed : Session → Bool
is_read_believed conn =
    not (may_have_changed conn.unheard) || (is_after_pa conn.turn_reason || not (is_settled conn.shadow))

-- the screen was read, and what is believed of it stays
abbrev pub only_read : Session → Session
only_read conn =
    record conn { turn = whose.Host; pending = Pending.Nothing; turn_reason = once_read conn.turn_reason }

-- the answer to Read Buffer is believed, if it counts
abbrev pub buffer_heard : InboundParts → Session → HostStep
buffer_heard parts conn = if is_read_believed conn
    then believed (once_read conn.turn_reason) Pending.Nothing parts.cursor conn (hears parts conn)
    else quiet (only_read conn)

-- the answer to Read Buffer, or a key that was pressed before it was read
abbrev pub buffer_came : InboundParts → Form → Session → HostStep
buffer_came parts Buffer conn = unless_broken conn (rule_broken_by parts conn) (buffer_heard parts conn)
buffer_came parts Modified conn = out_of_turn parts conn
buffer_came parts AllModified conn = out_of_turn parts conn

-- data in the terminal's turn: a key's if it has the form of modified fields, else it closes the connection
abbrev pub key_data_came : InboundParts → Form → Session → HostStep
key_data_came parts Modified conn = key_came parts parts.aid conn
key_data_came parts AllModified conn = closed_by BadInbound conn
key_data_came parts Buffer conn = closed_by BadInbound conn

-- Data is received in the awaited form. While a read is pending it answers the read. Else it is a key's in the
-- terminal's turn, if no paint is pending; any other is out of turn.
abbrev pub data_came : InboundParts → Turn → Pending → Session → HostStep
data_came parts turn (Pending.Reading number) conn = buffer_came parts parts.form conn
data_came parts turn (Pending.Writing number command) conn = out_of_turn parts conn
data_came parts whose.Host Pending.Nothing conn = out_of_turn parts conn
data_came parts whose.Host (Pending.Noting number command) conn = out_of_turn parts conn
data_came parts whose.Terminal Pending.Nothing conn = key_data_came parts parts.form conn
data_came parts whose.Terminal (Pending.Noting number command) conn = key_data_came parts parts.form conn

-- A key without a meaning for panels, as a light pen's, a card reader's or SYSREQ's: one that isn't active. `NoAid` is
-- its AID from then on. The fields of its data, if it has any, aren't believed: the screen is read, as after PA. Out of
-- turn it is dropped.
abbrev pub other_key_heard : Session → Session
other_key_heard conn = record conn {
  shadow = doubted conn.shadow;
  turn = whose.Host;
  turn_reason = turn_reasons.Key NoAid false;
}

abbrev pub other_key_in : Turn → Pending → Session → HostStep
other_key_in whose.Terminal Pending.Nothing conn = quiet (other_key_heard conn)
other_key_in whose.Terminal (Pending.Noting number command) conn = quiet (other_key_heard conn)
other_key_in whose.Terminal (Pending.Writing number command) conn = dropping NoAid conn
other_key_in whose.Terminal (Pending.Reading number) conn = dropping NoAid conn
other_key_in whose.Host pending conn = dropping NoAid conn

-- the data of such a key; to a host that verifies it is a broken rule
abbrev pub other_key_came : Session → HostStep
other_key_came conn = if conn.verifies then breaking sends_wrong conn else other_key_in conn.turn conn.pending conn

-- ---- responses

-- the write is accepted: what it wrote is believed now, not when it was sent
abbrev pub answered : CommandParts → Session → Session
answered command conn =
    record conn { shadow = taken (cells_in conn.size) command conn.shadow; pending = Pending.Nothing }

-- a write is refused; after an erase the host has nothing left to try
abbrev pub write_refused : CommandParts → Session → HostStep
write_refused command conn = if is_erase command.code then closed_by NegativeCause conn else quiet (refused conn)

-- the given step; but a response to another command closes the connection
abbrev pub if_answers : Bool → HostStep → Session → HostStep
if_answers true step conn = step
if_answers false step conn = closed_by BadResponse conn

-- the response to a note
abbrev pub verdict_came : CommandParts → Verdict → Session → HostStep
verdict_came command Verdict.Positive conn = quiet (answered command conn)
verdict_came command Verdict.Negative conn = write_refused command conn

-- what may have happened unheard once an erase was carried out: a screen that was cleared is written whole then
abbrev pub unheard_next : Unheard → Unheard
unheard_next unheards.Nothing = unheards.Nothing
unheard_next unheards.Input = unheards.Input
unheard_next unheards.Clear = unheards.Input

-- A paint is accepted. If Clear came while the paint waited for its answer, it was pressed before the terminal carried
-- the paint out: what an erase wrote is there all the same, but what any other paint left isn't the panel, so the host
-- shows it again as after a refusal.
abbrev pub paint_answered : CommandParts → Session → Session
paint_answered command conn = if may_be_read conn.unheard then answered command conn
    else if is_erase command.code then answered command (record conn { unheard = unheard_next conn.unheard })
    else refused conn

-- the response to a paint
abbrev pub paint_verdict_came : CommandParts → Verdict → Session → HostStep
paint_verdict_came command Verdict.Positive conn = quiet (paint_answered command conn)
paint_verdict_came command Verdict.Negative conn = write_refused command conn

-- the response to a read, which can only refuse it
abbrev pub read_verdict_came : Bool → Verdict → Session → HostStep
read_verdict_came answers Verdict.Positive conn = closed_by BadResponse conn
read_verdict_came answers Verdict.Negative conn = if_answers answers (quiet (refused conn)) conn

-- a response is received, which must have the number of the pending command
abbrev pub response_came : ℕ → Verdict → Pending → Session → HostStep
response_came number verdict Pending.Nothing conn = closed_by BadResponse conn
response_came number verdict (Pending.Writing pending command) conn =
    if_answers (number == pending) (paint_verdict_came command verdict conn) conn
response_came number verdict (Pending.Noting pending command) conn =
    if_answers (number == pending) (verdict_came command verdict conn) conn
response_came number verdict (Pending.Reading pending) conn = read_verdict_came (number == pending) verdict conn

-- ---- any message

-- before agreement records are dropped
abbrev pub once_agreed : Bool → HostStep → Session → HostStep
once_agreed true step conn = step
once_agreed false step conn = quiet conn

-- a message is received
abbrev pub took : Answers → Session → ToHost → HostStep
took pool conn (ToHost.TalksUp saying) = talked pool conn conn.talk (says saying)
took pool conn (ToHost.Data parts) =
    once_agreed (is_agreed conn.talk.state) (data_came parts conn.turn conn.pending conn) conn
took pool conn (ToHost.Response number verdict) =
    once_agreed (is_agreed conn.talk.state) (response_came number verdict conn.pending conn) conn

-- ---- the pool

-- the pool after a connection closes, if it does: its LU is free
abbrev pub freed_if : ℕ → Option Cause → List Entry → List Entry
freed_if number None pool = pool
freed_if number (Some cause) pool = given_back number pool

-- the pool after a step of the connection with this number
abbrev pub pool_after : ℕ → HostStep → List Entry → List Entry
pool_after number step pool = freed_if number step.closes (granted_if number step.grants pool)

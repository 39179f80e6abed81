-- Bytes that stand for messages: each end makes of them what it makes of the messages.
use Rattle.std.proofs.Common.{◌≡◌, ◌≤◌, ◌&&◌, ◌||◌, not, cond, if◌then◌else◌, ℕ, Bool, true, false, Option, None, List, [], ◌∷◌, ◌++◌, length, map, refl, ap, sym, subst, ◌∙◌, arith}
use Rattle.world3270.proofs.RepresentsSizes.{MayExecute, executes, paint_writes, read_as_written}
use Rattle.shadow.specs.Sized.{MeetsIsOfSize}
use Rattle.std.proofs.lemmas.Grind.{flat_map-append}
use Rattle.std.proofs.lemmas.Bool.{and_parts, eqb-true}
use Rattle.std.proofs.lemmas.List.Elements.{filter-append}
use Rattle.std.specs.List.{flat_map, AllByRecursion}
use Rattle.codes3270.specs.Size.{ScreenSize, alternate_of, cells_in, most_cells}
use Rattle.codes3270.specs.declared.size.Model.{Model}
use Rattle.presentation.specs.Sizes.{SizedScreen, applied as screen_applied}
use Rattle.datastream.specs.Grammar.{CommandParts, IsCommand, is_write}
use Rattle.datastream.specs.Inbound.{read_buffer, read_modified}
use Rattle.codes3270.specs.declared.write_control.Wcc.{Wcc}
use Rattle.datastream.specs.FieldLaws.{FieldsAscend, FieldsAreListed, FieldsTakeAll}
use Rattle.datastream.specs.InboundFields.{SentIsRead, IsSendable, buffer_data}
use Rattle.datastream.specs.InboundText.{IsInbound}
use Rattle.datastream.specs.Meaning.{after_command}
use Rattle.datastream.specs.Note.{IsNote}
use Rattle.datastream.specs.Screen.{Screen}
use Rattle.datastream.specs.Wanted.{WantedScreen}
use Rattle.datastream.specs.declared.command_code.CommandCode.{CommandCode}
use Rattle.datastream.specs.declared.command_code.CommandCode.TheVariants.{Write, EraseWrite, EraseWriteAlternate, ReadBuffer, ReadModified, ReadModifiedAll, EraseAllUnprotected}
use Rattle.datastream.proofs.Commands.{one_command, command_or_fault}
use Rattle.keyboard.specs.Keys.{Outcome, pressed}
use Rattle.keyboard.specs.State.{Keyboard, freed}
use Rattle.keyboard.specs.declared.key.Pressed.{Pressed}
use Rattle.keyboard.specs.declared.key.Pressed.TheVariants.{Done, Refused, Send}
use Rattle.presentation.specs.Applied.{asked_by, asked_by_code}
use Rattle.shadow.specs.Belief.{Shadow}
use Rattle.shadow.specs.Laws.{WantedIsPainted}
use Rattle.shadow.specs.Paint.{paint}
use Rattle.shadow.specs.Painted.{plainly_painted}
use Rattle.shadow.specs.Pairs.{Pairwise}
use Rattle.telnet_wire.specs.Items.{WireItem, Record, Opt as OptItem, item_tokens, CanCome, sent_bytes}
use Rattle.telnet_wire.specs.Laws.{NothingIsRest, ReadingNothing, DeliveriesCompose, DeliveryGoesOn, ItemIsRead, ItemsAreRead}
use Rattle.telnet_wire.specs.Reading.{nothing, Delivers}
use Rattle.telnet_wire.specs.Token.{text, spelling}
use Rattle.telnet_wire.specs.declared.wire.Verb.TheVariants.{Do}
use Rattle.tn3270e_msg.specs.Header.{Begins, record_limit, error_response, always_response}
use Rattle.tn3270e_msg.specs.Laws.{OneHeader, FaultIsNoHeader}
use Rattle.tn3270e_msg.specs.Talk.{Comes, NoTalk, Hears, Talk, items_sent, follow, NegotiationMessage, says, sayings, item_of, closing}
use Rattle.tn3270e_msg.specs.TermTable.{Term, term_transition, term_start}
use Rattle.tn3270e_msg.specs.declared.cause.Cause.{Cause}
use Rattle.tn3270e_msg.specs.declared.header.Header.{Header}
use Rattle.tn3270e_msg.specs.declared.header.DataType.TheVariants.{Data3270}
use Rattle.tn3270e_msg.specs.declared.hearing.Transition.{Transition}
use Rattle.tn3270e_msg.specs.declared.hearing.Transition.TheVariants.{Stays}
use Rattle.tn3270e_msg.specs.declared.reply.Reply.{Reply}
use Rattle.tn3270e_msg.specs.declared.reply.Reply.TheVariants as reply
use Rattle.tn3270e_msg.specs.declared.term_talk.TermState.{TermState}
use Rattle.tn3270e_msg.specs.declared.term_talk.TermState.TheVariants as at
use Rattle.tn3270e_msg.proofs.Hearings.{sent_is_heard}
use Rattle.term_core.specs.Bytes.{before_byte}
use Rattle.term_core.specs.Items.{TakesItem, TakesItemIn, TalksOn}
use Rattle.term_core.specs.Presses.{key_outcome, data_pressed, says_of_key}
use Rattle.term_core.specs.Records.{TakesRecord, SpellsCommand, SpellsNoCommand, is_restoring_write, data_read, data_sent, done_response, freed_if, answer_of, obeyed}
use Rattle.term_core.specs.State.{Station, phase_of, talk_phase, is_bound as core_is_bound}
use Rattle.term_core.specs.declared.outcome.Outcome.TheVariants.{DeviceEnd}
use Rattle.host_core.specs.KeepAlive.{no_operation}
use Rattle.host_core.specs.Messages.{ToTerminal, ToHost, Verdict}
use Rattle.term_core.proofs.Lengths.{read_buffer_fits, read_modified_fits}
use Rattle.world3270.proofs.Executing.{AnyTermTakes, ItemExecutes}
use Rattle.world3270.proofs.RepresentsFits.{talk_comes}
use Rattle.world3270.specs.refinement.Sendable.{CanBeSent}
use Rattle.host_core.specs.Says.{command_header, read_buffer_command}
use Rattle.world3270.specs.statement.EveryTerminal.{executed, paint_executed}
use Rattle.world3270.specs.refinement.Represents.{BytesRepresent, IsPaint, IsRead, IsNoted, RepresentsDown, RepresentsUp, IsEnd, all_items, is_nop, without, without_nops, sized}
use Rattle.world3270.specs.model.TrackedTerminals.{EndTakes, History, ByteEnd, ByteStep, restored_by}
use Rattle.world3270.specs.refinement.RepresentsEnds.{PaintRepresents, IsSaid, NamesWanted, IsOpen, ItemComes, TermTakes, is_painted, IsUnmoved, NopHasNoEffect, WritesAreMarked, TermPresses, MayBePainted, MayTakeNote}
use Rattle.world3270.specs.refinement.RepresentsLinks.{NothingRepresents, RepresentsCompose, RepresentsJoin, RepresentsGoOn, BeginRepresents}
use Rattle.world3270.specs.model.Terminal.{Display, TermEnd, TermStep, bound_to, is_bound, quiet, replied, paint_came, note_came, read_came, once_bound, took, erases_if, outcome_of, data_of}
use Rattle.std.specs.Prelude.{is_some}

-- ---- what is painted

pub paint_stands : WantedIsPainted → PaintRepresents
paint_stands painted number wanted believed bytes body whole begins encoded fit = record {
  bytes = bytes;
  body = body;
  is_record = refl;
  begins = begins;
  encoded = encoded;
  paints = λ screen meets. painted believed wanted screen whole fit meets;
}

-- a paint that leaves what is wanted is taken as one in a world
pub drawn_alike : (number : ℕ) (wanted : WantedScreen) (over : Shadow) (end : TermEnd) → after_command (paint (cells_in wanted.size) over wanted) end.display.screen ≡ plainly_painted wanted end.display.screen
    → paint_executed number wanted over end ≡ paint_came number wanted end
drawn_alike number wanted over end is =
    ap (λ (drawn : Screen). record {
      end = record end {
        display = record end.display { size = wanted.size; screen = drawn; keyboard = freed end.display.keyboard; last_restored = drawn; before_restored = end.display.screen; erased = false };
      };
      sends = ToHost.Response number Verdict.Positive ∷ [];
      closes = None;
    }) is

-- ---- an end, but for its history

pub record IsSide (talk : Term) (station : Station) (end : TermEnd) : Type 0 where
  pub talk_is : talk ≡ end.talk
  pub screen_is : station.screen ≡ sized end.display
  pub keyboard_is : station.keyboard ≡ end.display.keyboard

pub record SameItem (after : Term) (new : Station) (says : List WireItem) (closes : Option Cause) (marks : Bool) (step : TermStep) : Type 0 where
  pub is_end : IsSide after new step.end
  pub said : Pairwise RepresentsUp says step.sends
  pub fit : AllByRecursion (CanCome record_limit) says
  pub closed : closes ≡ step.closes
  pub wrote : new.took_write ≡ marks

pub side_of : (bytes : ByteEnd) (end : TermEnd) → IsEnd bytes end → IsSide bytes.talk (before_byte bytes.station) end
side_of bytes end is = record { talk_is = is.talk_is; screen_is = is.screen_is; keyboard_is = is.keyboard_is }

-- ---- the talk

said_is_heard : (saying : NegotiationMessage) → IsSaid saying → (comes : Comes) → Hears (item_of saying) comes → comes ≡ says saying
said_is_heard (NegotiationMessage.Opt verb code) h comes k = k
said_is_heard (NegotiationMessage.Sub sending) h comes k = sent_is_heard sending h comes k

sayings_stand : (answer : Reply) → Pairwise RepresentsUp (items_sent answer) (map ToHost.TalksUp (sayings answer))
sayings_stand reply.Nothing = tt
sayings_stand (reply.Opt verb code) = (refl, tt)
sayings_stand (reply.Sub sending behind) = (refl, tt)
sayings_stand (reply.AskPool name) = tt
sayings_stand reply.Agreed = tt
sayings_stand (reply.Refused reason) = tt
sayings_stand (reply.Close cause) = tt

term_same : (one other : Term) → one.model ≡ other.model → one.wanted ≡ other.wanted → one.talk ≡ other.talk → one ≡ other
term_same one other model wanted talk =
    ap (λ (m : Model). record { model = m; wanted = one.wanted; talk = one.talk }) model
    ∙ ap (λ (w : Option (List ℕ)). record { model = other.model; wanted = w; talk = one.talk }) wanted
    ∙ ap (λ (t : Talk TermState). record { model = other.model; wanted = other.wanted; talk = t }) talk

replied_same : (end : TermEnd) (talk next : Term) (old new : Station) (answer : Reply) (p : Talk TermState × Reply) (sent : List WireItem) (closes : Option Cause)
    → IsSide talk old end → old.took_write ≡ false → next.model ≡ talk.model → next.wanted ≡ talk.wanted → (next.talk, answer) ≡ p → sent ≡ items_sent answer → closes ≡ closing answer → new ≡ old
    → AllByRecursion (CanCome record_limit) (items_sent p.1)
    → SameItem next new sent closes false (replied end p)
replied_same end talk next old new answer p sent closes is unmarked model wanted gives said ends same fit = record {
  is_end = record {
    talk_is = term_same next (record end.talk { talk = p.0 }) (model ∙ ap (λ (t : Term). t.model) is.talk_is) (wanted ∙ ap (λ (t : Term). t.wanted) is.talk_is) (ap (λ (q : Talk TermState × Reply). q.0) gives);
    screen_is = ap (λ (s : Station). s.screen) same ∙ is.screen_is;
    keyboard_is = ap (λ (s : Station). s.keyboard) same ∙ is.keyboard_is;
  };
  said = subst (λ (r : Reply). Pairwise RepresentsUp sent (map ToHost.TalksUp (sayings r))) (ap (λ (q : Talk TermState × Reply). q.1) gives)
      (subst (λ (items : List WireItem). Pairwise RepresentsUp items (map ToHost.TalksUp (sayings answer))) (sym said) (sayings_stand answer));
  fit = subst (λ (items : List WireItem). AllByRecursion (CanCome record_limit) items)
      (sym (said ∙ ap (λ (q : Talk TermState × Reply). items_sent q.1) gives)) fit;
  closed = ends ∙ ap (λ (q : Talk TermState × Reply). closing q.1) gives;
  wrote = ap (λ (s : Station). s.took_write) same ∙ unmarked;
}

-- a negotiation or a subnegotiation is for the talk, however far it is
pub saying_talks : (state : TermState) (saying : NegotiationMessage) (talk next : Term) (old new : Station) (sent : List WireItem) (closes : Option Cause)
    → TakesItemIn state talk old (item_of saying) sent closes next new → TalksOn talk old (item_of saying) sent closes next new
saying_talks at.Waiting saying talk next old new sent closes taken = taken
saying_talks at.Willing saying talk next old new sent closes taken = taken
saying_talks at.TypeAsked saying talk next old new sent closes taken = taken
saying_talks (at.FunctionsAsked lu) saying talk next old new sent closes taken = taken
saying_talks (at.Agreed lu) (NegotiationMessage.Opt verb code) talk next old new sent closes taken = taken
saying_talks (at.Agreed lu) (NegotiationMessage.Sub sending) talk next old new sent closes taken = taken
saying_talks (at.Refused reason) saying talk next old new sent closes taken = taken
saying_talks (at.Closed cause) saying talk next old new sent closes taken = taken

takes_talk : (saying : NegotiationMessage) (talk next : Term) (old new : Station) (end : TermEnd) (sent : List WireItem) (closes : Option Cause)
    → IsSaid saying → NamesWanted end.talk.talk.state end.talk.wanted → IsSide talk old end → old.took_write ≡ false → TakesItem talk old (item_of saying) sent closes next new
    → SameItem next new sent closes false (took end (ToTerminal.TalksDown saying))
takes_talk saying talk next old new end sent closes h wish is unmarked taken =
    let talks = saying_talks talk.talk.state saying talk next old new sent closes taken in
    let heard = said_is_heard saying h talks.0.takes.comes talks.0.takes.hears in
    let gives : (next.talk, talks.0.reply) ≡ follow at.Closed end.talk.talk (term_transition end.talk.model end.talk.wanted end.talk.talk.state (says saying)) =
    talks.0.takes.gives
    ∙ ap (λ comes. follow at.Closed talk.talk (term_transition talk.model talk.wanted talk.talk.state comes)) heard
    ∙ ap (λ (t : Term). follow at.Closed t.talk (term_transition t.model t.wanted t.talk.state (says saying))) is.talk_is in
    replied_same end talk next old new talks.0.reply _ sent closes is unmarked talks.0.takes.model talks.0.takes.wanted gives talks.0.sends talks.0.ends talks.1
    (talk_comes end.talk.talk end.talk.model end.talk.wanted wish (says saying))

-- ---- records

-- what the talk answers by nothing, and that doesn't change it, leaves it as it is
pub unanswered : (what : Comes) (talk next : Term) (old new : Station) (item : WireItem) (end : TermEnd) (sent : List WireItem) (closes : Option Cause)
    → IsSide talk old end → old.took_write ≡ false → ((comes : Comes) → Hears item comes → comes ≡ what)
    → term_transition talk.model talk.wanted talk.talk.state what ≡ Stays reply.Nothing → TalksOn talk old item sent closes next new
    → SameItem next new sent closes false (quiet end)
unanswered what talk next old new item end sent closes is unmarked is_it stays talks =
    let gives : (next.talk, talks.0.reply) ≡ (talk.talk, reply.Nothing) =
    talks.0.takes.gives
    ∙ ap (λ comes. follow at.Closed talk.talk (term_transition talk.model talk.wanted talk.talk.state comes)) (is_it talks.0.takes.comes talks.0.takes.hears)
    ∙ ap (λ (transition : Transition TermState). follow at.Closed talk.talk transition) stays in
    let answer : talks.0.reply ≡ reply.Nothing = ap (λ (q : Talk TermState × Reply). q.1) gives in
    record {
      is_end = record {
        talk_is = term_same next talk talks.0.takes.model talks.0.takes.wanted (ap (λ (q : Talk TermState × Reply). q.0) gives) ∙ is.talk_is;
        screen_is = ap (λ (s : Station). s.screen) talks.1 ∙ is.screen_is;
        keyboard_is = ap (λ (s : Station). s.keyboard) talks.1 ∙ is.keyboard_is;
      };
      said = subst (λ (items : List WireItem). Pairwise RepresentsUp items []) (sym (talks.0.sends ∙ ap items_sent answer)) tt;
      fit = subst (λ (items : List WireItem). AllByRecursion (CanCome record_limit) items) (sym (talks.0.sends ∙ ap items_sent answer)) tt;
      closed = talks.0.ends ∙ ap closing answer;
      wrote = ap (λ (s : Station). s.took_write) talks.1 ∙ unmarked;
    }

-- what says nothing to the talk leaves it as it is
dropped : (talk next : Term) (old new : Station) (item : WireItem) (end : TermEnd) (sent : List WireItem) (closes : Option Cause)
    → IsSide talk old end → old.took_write ≡ false → ((comes : Comes) → Hears item comes → comes ≡ NoTalk)
    → term_transition talk.model talk.wanted talk.talk.state NoTalk ≡ Stays reply.Nothing → TalksOn talk old item sent closes next new
    → SameItem next new sent closes false (quiet end)
dropped talk next old new item end sent closes is unmarked no_talk stays talks = unanswered NoTalk talk next old new item end sent closes is unmarked no_talk stays talks

-- before it is bound a terminal drops a record
-- `marks`: whether the record marks a write where the terminal is bound
record_came : (state : TermState) (talk next : Term) (old new : Station) (bytes : List ℕ) (end : TermEnd) (sent : List WireItem) (closes : Option Cause) (step : TermStep) (marks : Bool)
    → talk.talk.state ≡ state → IsOpen state → IsSide talk old end → old.took_write ≡ false
    → (TakesRecord old bytes sent closes new → next ≡ talk → SameItem next new sent closes marks step)
    → TakesItemIn state talk old (Record bytes) sent closes next new
    → SameItem next new sent closes (is_some (bound_to state) && marks) (once_bound (is_some (bound_to state)) step end)
record_came at.Waiting talk next old new bytes end sent closes step marks e o is unmarked bound taken =
    dropped talk next old new (Record bytes) end sent closes is unmarked (λ comes heard. heard) (ap (λ (s : TermState). term_transition talk.model talk.wanted s NoTalk) e) taken
record_came at.Willing talk next old new bytes end sent closes step marks e o is unmarked bound taken =
    dropped talk next old new (Record bytes) end sent closes is unmarked (λ comes heard. heard) (ap (λ (s : TermState). term_transition talk.model talk.wanted s NoTalk) e) taken
record_came at.TypeAsked talk next old new bytes end sent closes step marks e o is unmarked bound taken =
    dropped talk next old new (Record bytes) end sent closes is unmarked (λ comes heard. heard) (ap (λ (s : TermState). term_transition talk.model talk.wanted s NoTalk) e) taken
record_came (at.FunctionsAsked lu) talk next old new bytes end sent closes step marks e o is unmarked bound taken =
    dropped talk next old new (Record bytes) end sent closes is unmarked (λ comes heard. heard) (ap (λ (s : TermState). term_transition talk.model talk.wanted s NoTalk) e) taken
record_came (at.Refused reason) talk next old new bytes end sent closes step marks e o is unmarked bound taken =
    dropped talk next old new (Record bytes) end sent closes is unmarked (λ comes heard. heard) (ap (λ (s : TermState). term_transition talk.model talk.wanted s NoTalk) e) taken
record_came (at.Agreed lu) talk next old new bytes end sent closes step marks e o is unmarked bound taken = bound taken.0 taken.1
record_came (at.Closed cause) talk next old new bytes end sent closes step marks e o is unmarked bound taken = absurd o

record_comes : (talk next : Term) (old new : Station) (bytes : List ℕ) (end : TermEnd) (sent : List WireItem) (closes : Option Cause) (step : TermStep) (marks : Bool)
    → IsOpen end.talk.talk.state → IsSide talk old end → old.took_write ≡ false
    → (TakesRecord old bytes sent closes new → next ≡ talk → SameItem next new sent closes marks step)
    → TakesItem talk old (Record bytes) sent closes next new
    → SameItem next new sent closes (is_bound end && marks) (once_bound (is_bound end) step end)
record_comes talk next old new bytes end sent closes step marks o is unmarked bound taken =
    let state : talk.talk.state ≡ end.talk.talk.state = ap (λ (t : Term). t.talk.state) is.talk_is in
    subst (λ (s : TermState). SameItem next new sent closes (is_some (bound_to s) && marks) (once_bound (is_some (bound_to s)) step end)) state
    (record_came talk.talk.state talk next old new bytes end sent closes step marks refl (subst IsOpen (sym state) o) is unmarked bound taken)

-- the command of a record is obeyed
record Obeys (old new : Station) (sent : List WireItem) (closes : Option Cause) (header : Header) (command : CommandParts) : Type 0 where
  said : sent ≡ answer_of header command old
  closed : closes ≡ None
  becomes : new ≡ obeyed command old

-- a note frees no keyboard
note_restores : (command : CommandParts) → IsNote command → (asked_by command).restore ≡ false
note_restores command note =
    ap (λ (c : CommandCode). (asked_by_code c command.wcc).restore) note.code
    ∙ ap (λ (w : Option Wcc). (asked_by_code Write w).restore) note.wcc

note_marks_nothing : (command : CommandParts) → IsNote command → is_restoring_write command ≡ false
note_marks_nothing command note =
    ap (λ (c : CommandCode). is_write c && (asked_by command).restore) note.code ∙ note_restores command note

-- ---- history

-- what a write leaves is the screen behind it; else the history stays
record Leaves (marks : Bool) (before after : Display) : Type 0 where
  last_restored : after.last_restored ≡ (if marks then after.screen else before.last_restored)
  before_restored : after.before_restored ≡ (if marks then before.screen else before.before_restored)
  erased : after.erased ≡ (if marks then false else before.erased)

leaves_painted : (bound : Bool) (number : ℕ) (wanted : WantedScreen) (end : TermEnd) → Leaves bound end.display (once_bound bound (paint_came number wanted end) end).end.display
leaves_painted true number wanted end = record { last_restored = refl; before_restored = refl; erased = refl }
leaves_painted false number wanted end = record { last_restored = refl; before_restored = refl; erased = refl }

leaves_read : (bound : Bool) (end : TermEnd) → Leaves false end.display (once_bound bound (read_came end) end).end.display
leaves_read true end = record { last_restored = refl; before_restored = refl; erased = refl }
leaves_read false end = record { last_restored = refl; before_restored = refl; erased = refl }

leaves_noted : (bound : Bool) (number : ℕ) (command : CommandParts) (end : TermEnd) → Leaves false end.display (once_bound bound (note_came number command end) end).end.display
leaves_noted true number command end = record { last_restored = refl; before_restored = refl; erased = refl }
leaves_noted false number command end = record { last_restored = refl; before_restored = refl; erased = refl }

leaves : (message : ToTerminal) (end : TermEnd) → Leaves (is_painted end message) end.display (took end message).end.display
leaves (ToTerminal.TalksDown saying) end = record { last_restored = refl; before_restored = refl; erased = refl }
leaves (ToTerminal.Paint number wanted believed) end = leaves_painted (is_bound end) number wanted end
leaves (ToTerminal.ReadBuffer number) end = leaves_read (is_bound end) end
leaves (ToTerminal.Note number command) end = leaves_noted (is_bound end) number command end

leaves_drawn : (bound : Bool) (number : ℕ) (wanted : WantedScreen) (over : Shadow) (end : TermEnd) → Leaves bound end.display (once_bound bound (paint_executed number wanted over end) end).end.display
leaves_drawn true number wanted over end = record { last_restored = refl; before_restored = refl; erased = refl }
leaves_drawn false number wanted over end = record { last_restored = refl; before_restored = refl; erased = refl }

leaves_executed : (message : ToTerminal) (end : TermEnd) → Leaves (is_painted end message) end.display (executed end message).end.display
leaves_executed (ToTerminal.Paint number wanted over) end = leaves_drawn (is_bound end) number wanted over end
leaves_executed (ToTerminal.TalksDown saying) end = leaves (ToTerminal.TalksDown saying) end
leaves_executed (ToTerminal.ReadBuffer number) end = leaves (ToTerminal.ReadBuffer number) end
leaves_executed (ToTerminal.Note number command) end = leaves (ToTerminal.Note number command) end

-- the history of the display
record IsHistory (history : History) (display : Display) : Type 0 where
  last_restored : history.last_restored ≡ display.last_restored
  before_restored : history.before_restored ≡ display.before_restored
  erased : history.erased ≡ display.erased

same_restored : (marks : Bool) (was station : Station) (old : History) (before after : Display) → IsHistory old before → was.screen.screen ≡ before.screen → station.screen.screen ≡ after.screen
    → Leaves marks before after → IsHistory (restored_by marks was.screen.screen station.screen.screen old) after
same_restored true was station old before after is found screen now = record {
  last_restored = screen ∙ sym now.last_restored;
  before_restored = found ∙ sym now.before_restored;
  erased = sym now.erased;
}
same_restored false was station old before after is found screen now = record {
  last_restored = is.last_restored ∙ sym now.last_restored;
  before_restored = is.before_restored ∙ sym now.before_restored;
  erased = is.erased ∙ sym now.erased;
}

and_true : (b : Bool) → (b && true) ≡ b
and_true true = refl
and_true false = refl

and_false : (b : Bool) → (b && false) ≡ false
and_false true = refl
and_false false = refl

module _ (sizes : MeetsIsOfSize) (one_header : OneHeader) (fault_or_header : FaultIsNoHeader) where
  obeys : (old new : Station) (bytes body : List ℕ) (sent : List WireItem) (closes : Option Cause) (header : Header) (command : CommandParts)
      → header.kind ≡ Data3270 → Begins bytes header body → SpellsCommand old command body → TakesRecord old bytes sent closes new
      → Obeys old new sent closes header command
  obeys old new bytes body sent closes header command kind begins encoded (TakesRecord.no_header fault has a b c) =
      absurd (fault_or_header bytes fault header body has begins)
  obeys old new bytes body sent closes header command kind begins encoded (TakesRecord.dropped other rest begins' k a b c) =
      absurd (k (ap (λ (h : Header). h.kind) (one_header bytes other header rest body begins' begins).0 ∙ kind))
  obeys old new bytes body sent closes header command kind begins encoded (TakesRecord.refused other rest fault begins' k bad a b c) =
      let both = one_header bytes other header rest body begins' begins in
      absurd (command_or_fault old.screen.size (alternate_of old.screen.model) command fault body encoded (subst (λ (b : List ℕ). SpellsNoCommand old fault b) both.1 bad))
  obeys old new bytes body sent closes header command kind begins encoded (TakesRecord.obeys other rest command' begins' k good a b c) =
      let both = one_header bytes other header rest body begins' begins in
      let commands = one_command old.screen.size (alternate_of old.screen.model) command' command body (subst (λ (x : List ℕ). SpellsCommand old command' x) both.1 good) encoded in
      record {
        said = a ∙ ap (λ (h : Header). answer_of h command' old) both.0 ∙ ap (λ (x : CommandParts). answer_of header x old) commands;
        closed = b;
        becomes = c ∙ ap (λ (x : CommandParts). obeyed x old) commands;
      }

  -- what is encoded for its sizes is encoded for the terminal
  spelt_for : (old : Station) (display : Display) (command : CommandParts) (body : List ℕ) → old.screen ≡ sized display → IsCommand display.size (alternate_of display.model) command body
      → SpellsCommand old command body
  spelt_for old display command body is encoded = subst (λ (s : SizedScreen). IsCommand s.size (alternate_of s.model) command body) (sym is) encoded

  -- the screen after a command has the command's size
  applied_so : (old : Station) (display : Display) (command : CommandParts) (size : ScreenSize) → old.screen ≡ sized display → command.size ≡ size
      → screen_applied command old.screen ≡ record { model = display.model; size = size; screen = after_command command display.screen }
  applied_so old display command size is same =
      ap (λ (s : SizedScreen). screen_applied command s) is
      ∙ ap (λ (n : ScreenSize). record { model = display.model; size = n; screen = after_command command display.screen }) same

  -- ---- a paint

  no_data : (code : CommandCode) (screen : Screen) → is_write code ≡ true → data_read code screen ≡ None
  no_data Write screen h = refl
  no_data EraseWrite screen h = refl
  no_data EraseWriteAlternate screen h = refl
  no_data ReadBuffer screen h = absurd (cc)
  no_data ReadModified screen h = absurd (cc)
  no_data ReadModifiedAll screen h = absurd (cc)
  no_data EraseAllUnprotected screen h = absurd (cc)

  -- it leaves what its command leaves
  executed_same : (number : ℕ) (wanted : WantedScreen) (believed : Shadow) (talk next : Term) (old new : Station) (end : TermEnd) (sent : List WireItem) (closes : Option Cause)
      (item : WireItem) (p : IsPaint item number wanted believed) → MayExecute wanted believed end → CanBeSent end.display.size end.display.screen → IsSide talk old end
      → TakesRecord old p.bytes sent closes new → next ≡ talk → SameItem next new sent closes true (paint_executed number wanted believed end)
  executed_same number wanted believed talk next old new end sent closes item p may r is taken same =
      let command : CommandParts = paint (cells_in wanted.size) believed wanted in
      let encoded = spelt_for old end.display command p.body is.screen_is (read_as_written number wanted believed item end p may r) in
      let done = obeys old new p.bytes p.body sent closes (command_header always_response number) command refl p.begins encoded taken in
      let writes : is_restoring_write command ≡ true = paint_writes (cells_in wanted.size) believed wanted in
      let parts = and_parts (is_write command.code) (asked_by command).restore writes in
      let silent = no_data command.code (after_command command old.screen.screen) parts.0 in
      record {
        is_end = record {
          talk_is = same ∙ is.talk_is;
          screen_is = ap (λ (s : Station). s.screen) done.becomes ∙ applied_so old end.display command wanted.size is.screen_is refl;
          keyboard_is = ap (λ (s : Station). s.keyboard) done.becomes ∙ ap (λ (r : Bool). freed_if r old.keyboard) parts.1 ∙ ap freed is.keyboard_is;
        };
        said = subst (λ (items : List WireItem). Pairwise RepresentsUp items (ToHost.Response number Verdict.Positive ∷ []))
            (sym (done.said ∙ ap (λ (d : Option (List ℕ)). data_sent old.number d ++ done_response always_response number) silent))
            ((DeviceEnd, refl, p.begins.number, refl), tt);
        fit = subst (λ (items : List WireItem). AllByRecursion (CanCome record_limit) items)
            (sym (done.said ∙ ap (λ (d : Option (List ℕ)). data_sent old.number d ++ done_response always_response number) silent))
            (omega arith, tt);
        closed = done.closed;
        wrote = ap (λ (s : Station). s.took_write) done.becomes ∙ writes;
      }

  -- which is what is wanted, where the screen meets the belief
  painted_same : (number : ℕ) (wanted : WantedScreen) (believed : Shadow) (talk next : Term) (old new : Station) (end : TermEnd) (sent : List WireItem) (closes : Option Cause)
      (item : WireItem) (p : IsPaint item number wanted believed) → MayBePainted wanted believed end → CanBeSent end.display.size end.display.screen → IsSide talk old end
      → TakesRecord old p.bytes sent closes new → next ≡ talk → SameItem next new sent closes true (paint_came number wanted end)
  painted_same number wanted believed talk next old new end sent closes item p b r is taken same =
      subst (λ (step : TermStep). SameItem next new sent closes true step) (drawn_alike number wanted believed end (p.paints end.display.screen b.meets))
      (executed_same number wanted believed talk next old new end sent closes item p (executes sizes wanted believed end b) r is taken same)

  -- ---- a read

  read_same : SentIsRead → (number : ℕ) (talk next : Term) (old new : Station) (end : TermEnd) (sent : List WireItem) (closes : Option Cause)
      (item : WireItem) (p : IsRead item number) → CanBeSent end.display.size end.display.screen → IsSide talk old end
      → TakesRecord old p.bytes sent closes new → next ≡ talk → SameItem next new sent closes false (read_came end)
  read_same reads number talk next old new end sent closes item p r is taken same =
      let screen_is : old.screen.screen ≡ end.display.screen = ap (λ (s : SizedScreen). s.screen) is.screen_is in
      let read : CommandParts = read_buffer_command end.display.size in
      let encoded = spelt_for old end.display read p.body is.screen_is (p.encoded end.display.size (alternate_of end.display.model)) in
      let done = obeys old new p.bytes p.body sent closes (command_header error_response number) read refl p.begins encoded taken in
      let inbound : IsInbound (buffer_data end.display.size end.display.screen) (read_buffer old.screen.screen) =
      subst (λ (s : Screen). IsInbound (buffer_data end.display.size end.display.screen) (read_buffer s)) (sym screen_is) (reads.buffer end.display.size end.display.screen r.whole r.sendable) in
      record {
        is_end = record {
          talk_is = same ∙ is.talk_is;
          screen_is = ap (λ (s : Station). s.screen) done.becomes ∙ applied_so old end.display read end.display.size is.screen_is refl;
          keyboard_is = ap (λ (s : Station). s.keyboard) done.becomes ∙ is.keyboard_is;
        };
        said = subst (λ (items : List WireItem). Pairwise RepresentsUp items (ToHost.Data (buffer_data end.display.size end.display.screen) ∷ []))
            (sym done.said) ((old.number, read_buffer old.screen.screen, refl, inbound), tt);
        fit = subst (λ (items : List WireItem). AllByRecursion (CanCome record_limit) items)
            (sym done.said) (omega (arith, read_buffer_fits old.screen.screen (subst (λ (s : Screen). length s.cells ≤ most_cells) (sym screen_is) r.sendable.few)), tt);
        closed = done.closed;
        wrote = ap (λ (s : Station). s.took_write) done.becomes;
      }

  -- ---- a note

  noted_same : (number : ℕ) (command : CommandParts) (talk next : Term) (old new : Station) (end : TermEnd) (sent : List WireItem) (closes : Option Cause)
      (item : WireItem) (p : IsNoted item number command) → MayTakeNote command end → IsSide talk old end
      → TakesRecord old p.bytes sent closes new → next ≡ talk → SameItem next new sent closes false (note_came number command end)
  noted_same number command talk next old new end sent closes item p may is taken same =
      let note : IsNote command = may.note in
      let encoded = spelt_for old end.display command p.body is.screen_is
      (subst (λ (now : ScreenSize). IsCommand now (alternate_of end.display.model) command p.body) may.size (p.encoded (alternate_of end.display.model))) in
      let done = obeys old new p.bytes p.body sent closes (command_header always_response number) command refl p.begins encoded taken in
      let restores : (asked_by command).restore ≡ false = note_restores command note in
      let silent : data_read command.code (after_command command old.screen.screen) ≡ None = ap (λ (c : CommandCode). data_read c (after_command command old.screen.screen)) note.code in
      record {
        is_end = record {
          talk_is = same ∙ is.talk_is;
          screen_is = ap (λ (s : Station). s.screen) done.becomes ∙ applied_so old end.display command end.display.size is.screen_is may.size;
          keyboard_is = ap (λ (s : Station). s.keyboard) done.becomes ∙ ap (λ (r : Bool). freed_if r old.keyboard) restores ∙ is.keyboard_is;
        };
        said = subst (λ (items : List WireItem). Pairwise RepresentsUp items (ToHost.Response number Verdict.Positive ∷ []))
            (sym (done.said ∙ ap (λ (d : Option (List ℕ)). data_sent old.number d ++ done_response always_response number) silent))
            ((DeviceEnd, refl, p.begins.number, refl), tt);
        fit = subst (λ (items : List WireItem). AllByRecursion (CanCome record_limit) items)
            (sym (done.said ∙ ap (λ (d : Option (List ℕ)). data_sent old.number d ++ done_response always_response number) silent))
            (omega arith, tt);
        closed = done.closed;
        wrote = ap (λ (s : Station). s.took_write) done.becomes ∙ note_marks_nothing command note;
      }

  -- ---- any message

  -- what comes of an item, but for the history
  same_item : SentIsRead → (message : ToTerminal) (item : WireItem) (old : ByteEnd) (end : TermEnd) (step : ByteStep) → ItemComes message item old end step
      → SameItem step.end.talk step.end.station step.says step.closes (is_painted end message) (took end message)
  same_item reads (ToTerminal.TalksDown saying) item old end step comes =
      takes_talk saying old.talk step.end.talk (before_byte old.station) step.end.station end step.says step.closes comes.may.0 comes.may.1 (side_of old end comes.is_end) refl
      (subst (λ (i : WireItem). TakesItem old.talk (before_byte old.station) i step.says step.closes step.end.talk step.end.station) comes.stands comes.takes.takes)
  same_item reads (ToTerminal.Paint number wanted believed) item old end step comes =
      subst (λ (b : Bool). SameItem step.end.talk step.end.station step.says step.closes b (once_bound (is_bound end) (paint_came number wanted end) end)) (and_true (is_bound end))
      (record_comes old.talk step.end.talk (before_byte old.station) step.end.station comes.stands.bytes end step.says step.closes (paint_came number wanted end) true
      comes.may.is_open (side_of old end comes.is_end) refl
      (painted_same number wanted believed old.talk step.end.talk (before_byte old.station) step.end.station end step.says step.closes item comes.stands comes.may comes.sendable (side_of old end comes.is_end))
      (subst (λ (i : WireItem). TakesItem old.talk (before_byte old.station) i step.says step.closes step.end.talk step.end.station) comes.stands.is_record comes.takes.takes))
  same_item reads (ToTerminal.ReadBuffer number) item old end step comes =
      subst (λ (b : Bool). SameItem step.end.talk step.end.station step.says step.closes b (once_bound (is_bound end) (read_came end) end)) (and_false (is_bound end))
      (record_comes old.talk step.end.talk (before_byte old.station) step.end.station comes.stands.bytes end step.says step.closes (read_came end) false
      comes.may (side_of old end comes.is_end) refl
      (read_same reads number old.talk step.end.talk (before_byte old.station) step.end.station end step.says step.closes item comes.stands comes.sendable (side_of old end comes.is_end))
      (subst (λ (i : WireItem). TakesItem old.talk (before_byte old.station) i step.says step.closes step.end.talk step.end.station) comes.stands.is_record comes.takes.takes))
  same_item reads (ToTerminal.Note number command) item old end step comes =
      subst (λ (b : Bool). SameItem step.end.talk step.end.station step.says step.closes b (once_bound (is_bound end) (note_came number command end) end)) (and_false (is_bound end))
      (record_comes old.talk step.end.talk (before_byte old.station) step.end.station comes.stands.bytes end step.says step.closes (note_came number command end) false
      comes.may.is_open (side_of old end comes.is_end) refl
      (noted_same number command old.talk step.end.talk (before_byte old.station) step.end.station end step.says step.closes item comes.stands comes.may (side_of old end comes.is_end))
      (subst (λ (i : WireItem). TakesItem old.talk (before_byte old.station) i step.says step.closes step.end.talk step.end.station) comes.stands.is_record comes.takes.takes))

  -- at a terminal that executes what comes
  any_item : SentIsRead → (message : ToTerminal) (item : WireItem) (old : ByteEnd) (end : TermEnd) (step : ByteStep) → ItemExecutes message item old end step
      → SameItem step.end.talk step.end.station step.says step.closes (is_painted end message) (executed end message)
  any_item reads (ToTerminal.Paint number wanted believed) item old end step comes =
      subst (λ (b : Bool). SameItem step.end.talk step.end.station step.says step.closes b (once_bound (is_bound end) (paint_executed number wanted believed end) end)) (and_true (is_bound end))
      (record_comes old.talk step.end.talk (before_byte old.station) step.end.station comes.stands.bytes end step.says step.closes (paint_executed number wanted believed end) true
      comes.may.is_open (side_of old end comes.is_end) refl
      (executed_same number wanted believed old.talk step.end.talk (before_byte old.station) step.end.station end step.says step.closes item comes.stands comes.may comes.sendable (side_of old end comes.is_end))
      (subst (λ (i : WireItem). TakesItem old.talk (before_byte old.station) i step.says step.closes step.end.talk step.end.station) comes.stands.is_record comes.takes.takes))
  any_item reads (ToTerminal.TalksDown saying) item old end step comes =
      same_item reads (ToTerminal.TalksDown saying) item old end step (record { stands = comes.stands; may = comes.may; sendable = comes.sendable; is_end = comes.is_end; takes = comes.takes })
  any_item reads (ToTerminal.ReadBuffer number) item old end step comes =
      same_item reads (ToTerminal.ReadBuffer number) item old end step (record { stands = comes.stands; may = comes.may; sendable = comes.sendable; is_end = comes.is_end; takes = comes.takes })
  any_item reads (ToTerminal.Note number command) item old end step comes =
      same_item reads (ToTerminal.Note number command) item old end step (record { stands = comes.stands; may = comes.may; sendable = comes.sendable; is_end = comes.is_end; takes = comes.takes })

  pub any_term_takes : SentIsRead → AnyTermTakes
  any_term_takes reads message item old end step comes =
      let same = any_item reads message item old end step comes in
      let history : step.end.history ≡ restored_by (is_painted end message) old.station.screen.screen step.end.station.screen.screen old.history =
      comes.takes.history ∙ ap (λ (w : Bool). restored_by w old.station.screen.screen step.end.station.screen.screen old.history) same.wrote in
      let left = same_restored (is_painted end message) old.station step.end.station old.history end.display (executed end message).end.display
      (record { last_restored = comes.is_end.last_restored_is; before_restored = comes.is_end.before_restored_is; erased = comes.is_end.erased_is })
      (ap (λ (s : SizedScreen). s.screen) comes.is_end.screen_is) (ap (λ (s : SizedScreen). s.screen) same.is_end.screen_is) (leaves_executed message end) in
      record {
        same = record {
          is_end = record {
            talk_is = same.is_end.talk_is;
            screen_is = same.is_end.screen_is;
            keyboard_is = same.is_end.keyboard_is;
            last_restored_is = ap (λ (h : History). h.last_restored) history ∙ left.last_restored;
            before_restored_is = ap (λ (h : History). h.before_restored) history ∙ left.before_restored;
            erased_is = ap (λ (h : History). h.erased) history ∙ left.erased;
          };
          said = same.said;
          fit = same.fit;
          closed = same.closed;
        };
        marked = same.wrote;
      }

  pub writes_are_marked : SentIsRead → WritesAreMarked
  writes_are_marked reads message item old end step comes = (same_item reads message item old end step comes).wrote

  pub term_takes : SentIsRead → TermTakes
  term_takes reads message item old end step comes =
      let same = same_item reads message item old end step comes in
      let history : step.end.history ≡ restored_by (is_painted end message) old.station.screen.screen step.end.station.screen.screen old.history =
      comes.takes.history ∙ ap (λ (w : Bool). restored_by w old.station.screen.screen step.end.station.screen.screen old.history) same.wrote in
      let left = same_restored (is_painted end message) old.station step.end.station old.history end.display (took end message).end.display
      (record { last_restored = comes.is_end.last_restored_is; before_restored = comes.is_end.before_restored_is; erased = comes.is_end.erased_is })
      (ap (λ (s : SizedScreen). s.screen) comes.is_end.screen_is) (ap (λ (s : SizedScreen). s.screen) same.is_end.screen_is) (leaves message end) in
      record {
        is_end = record {
          talk_is = same.is_end.talk_is;
          screen_is = same.is_end.screen_is;
          keyboard_is = same.is_end.keyboard_is;
          last_restored_is = ap (λ (h : History). h.last_restored) history ∙ left.last_restored;
          before_restored_is = ap (λ (h : History). h.before_restored) history ∙ left.before_restored;
          erased_is = ap (λ (h : History). h.erased) history ∙ left.erased;
        };
        said = same.said;
        fit = same.fit;
        closed = same.closed;
      }

-- ---- NOP

-- it is for the talk, however far that is
nop_talks : (state : TermState) (talk next : Term) (old new : Station) (sent : List WireItem) (closes : Option Cause)
    → TakesItemIn state talk old no_operation sent closes next new → TalksOn talk old no_operation sent closes next new
nop_talks at.Waiting talk next old new sent closes taken = taken
nop_talks at.Willing talk next old new sent closes taken = taken
nop_talks at.TypeAsked talk next old new sent closes taken = taken
nop_talks (at.FunctionsAsked lu) talk next old new sent closes taken = taken
nop_talks (at.Agreed lu) talk next old new sent closes taken = taken
nop_talks (at.Refused reason) talk next old new sent closes taken = taken
nop_talks (at.Closed cause) talk next old new sent closes taken = taken

-- and says nothing to it
pub no_talk_stays : (model : Model) (wanted : Option (List ℕ)) (state : TermState) → IsOpen state → term_transition model wanted state NoTalk ≡ Stays reply.Nothing
no_talk_stays model wanted at.Waiting is_open = refl
no_talk_stays model wanted at.Willing is_open = refl
no_talk_stays model wanted at.TypeAsked is_open = refl
no_talk_stays model wanted (at.FunctionsAsked lu) is_open = refl
no_talk_stays model wanted (at.Agreed lu) is_open = refl
no_talk_stays model wanted (at.Refused reason) is_open = refl
no_talk_stays model wanted (at.Closed cause) is_open = absurd is_open

-- a terminal that makes nothing of an item isn't moved by it
pub unmoved_by : (item : WireItem) (old : ByteEnd) (end : TermEnd) (step : ByteStep) → IsEnd old end → EndTakes old item step
    → SameItem step.end.talk step.end.station step.says step.closes false (quiet end) → IsUnmoved end step
unmoved_by item old end step is taken same =
    let history : step.end.history ≡ old.history = taken.history ∙ ap (λ (w : Bool). restored_by w old.station.screen.screen step.end.station.screen.screen old.history) same.wrote in
    record {
      same = record {
        is_end = record {
          talk_is = same.is_end.talk_is;
          screen_is = same.is_end.screen_is;
          keyboard_is = same.is_end.keyboard_is;
          last_restored_is = ap (λ (h : History). h.last_restored) history ∙ is.last_restored_is;
          before_restored_is = ap (λ (h : History). h.before_restored) history ∙ is.before_restored_is;
          erased_is = ap (λ (h : History). h.erased) history ∙ is.erased_is;
        };
        said = same.said;
        fit = same.fit;
        closed = same.closed;
      };
      unmarked = same.wrote;
    }

pub nop_has_no_effect : NopHasNoEffect
nop_has_no_effect old end step is_open is taken =
    let state : old.talk.talk.state ≡ end.talk.talk.state = ap (λ (t : Term). t.talk.state) is.talk_is in
    let talks = nop_talks old.talk.talk.state old.talk step.end.talk (before_byte old.station) step.end.station step.says step.closes taken.takes in
    unmoved_by no_operation old end step is taken
    (dropped old.talk step.end.talk (before_byte old.station) step.end.station no_operation end step.says step.closes (side_of old end is) refl (λ comes heard. heard)
    (no_talk_stays old.talk.model old.talk.wanted old.talk.talk.state (subst IsOpen (sym state) is_open)) talks)

pub nop_is : (item : WireItem) → is_nop item ≡ true → item ≡ no_operation
nop_is (WireItem.Other code) e = ap (λ (n : ℕ). WireItem.Other n) (eqb-true code 241 e)
nop_is (Record bytes) e = absurd (cc)
nop_is (OptItem verb code) e = absurd (cc)
nop_is (WireItem.Sub bytes) e = absurd (cc)

-- ---- keys

same_bound : (state : TermState) → core_is_bound (talk_phase state) ≡ is_some (bound_to state)
same_bound at.Waiting = refl
same_bound at.Willing = refl
same_bound at.TypeAsked = refl
same_bound (at.FunctionsAsked lu) = refl
same_bound (at.Agreed lu) = refl
same_bound (at.Refused reason) = refl
same_bound (at.Closed cause) = refl

key_says : SentIsRead → (bound : Bool) (answer : Pressed) (shape : ScreenSize) (screen : Screen) (number : ℕ) → CanBeSent shape screen
    → Pairwise RepresentsUp (data_sent number (data_pressed bound answer screen)) (data_of bound answer shape screen)
key_says reads true (Send aid) shape screen number is = ((number, read_modified false screen, refl, reads.modified shape screen is.whole is.sendable), tt)
key_says reads false (Send aid) shape screen number is = tt
key_says reads true Done shape screen number is = tt
key_says reads false Done shape screen number is = tt
key_says reads true (Refused why) shape screen number is = tt
key_says reads false (Refused why) shape screen number is = tt

key_comes : FieldsAscend → FieldsAreListed → FieldsTakeAll → (bound : Bool) (answer : Pressed) (screen : Screen) (number : ℕ) → IsSendable screen
    → AllByRecursion (CanCome record_limit) (data_sent number (data_pressed bound answer screen))
key_comes ascend listed whole true (Send aid) screen number is = (omega (arith, read_modified_fits ascend listed whole screen is.few false), tt)
key_comes ascend listed whole false (Send aid) screen number is = tt
key_comes ascend listed whole true Done screen number is = tt
key_comes ascend listed whole false Done screen number is = tt
key_comes ascend listed whole true (Refused why) screen number is = tt
key_comes ascend listed whole false (Refused why) screen number is = tt

pub term_presses : FieldsAscend → FieldsAreListed → FieldsTakeAll → SentIsRead → TermPresses
term_presses ascend listed whole reads key old rest end holds sendable =
    let is = holds.is_end in
    let station : Station = old.terminal.station in
    let knows : Bool = core_is_bound (phase_of old.terminal.link) in
    let bound : knows ≡ is_bound end =
    ap (λ l. core_is_bound (phase_of l)) holds.attached ∙ same_bound holds.talk.talk.state ∙ ap (λ (t : Term). is_some (bound_to t.talk.state)) is.talk_is in
    let outcome : key_outcome key station ≡ outcome_of key end.display =
    ap (λ (k : Keyboard). pressed station.screen.size.columns key k station.screen.screen) is.keyboard_is
    ∙ ap (λ (s : SizedScreen). pressed s.size.columns key end.display.keyboard s.screen) is.screen_is in
    record {
      holds = record {
        talk = holds.talk;
        attached = holds.attached;
        is_end = record {
          talk_is = is.talk_is;
          screen_is = ap (λ (s : SizedScreen). record s { screen = (key_outcome key station).screen }) is.screen_is ∙ ap (λ (o : Outcome). record (sized end.display) { screen = o.screen }) outcome;
          keyboard_is = ap (λ (o : Outcome). o.keyboard) outcome;
          last_restored_is = is.last_restored_is;
          before_restored_is = is.before_restored_is;
          erased_is = ap (λ (b : Bool). b || erases_if (key_outcome key station).answer key) is.erased_is
              ∙ ap (λ (o : Outcome). end.display.erased || erases_if o.answer key) outcome;
        };
      };
      items = says_of_key key knows station;
      sent = refl;
      said = subst (λ (b : Bool). Pairwise RepresentsUp (says_of_key key knows station) (data_of b (outcome_of key end.display).answer end.display.size (outcome_of key end.display).screen)) bound
          (subst (λ (o : Outcome). Pairwise RepresentsUp (says_of_key key knows station) (data_of knows o.answer end.display.size o.screen)) outcome
          (key_says reads knows (key_outcome key station).answer end.display.size (key_outcome key station).screen station.number sendable));
      fit = key_comes ascend listed whole knows (key_outcome key station).answer (key_outcome key station).screen station.number sendable.sendable;
      closed = refl;
    }

-- ---- which items represent messages

-- an item that represents a message isn't NOP
is_spoken : (item : WireItem) (message : ToTerminal) → RepresentsDown item message → is_nop item ≡ false
is_spoken item (ToTerminal.TalksDown (NegotiationMessage.Opt verb code)) stands = ap is_nop stands
is_spoken item (ToTerminal.TalksDown (NegotiationMessage.Sub sending)) stands = ap is_nop stands
is_spoken item (ToTerminal.Paint number wanted believed) stands = ap is_nop stands.is_record
is_spoken item (ToTerminal.ReadBuffer number) stands = ap is_nop stands.is_record
is_spoken item (ToTerminal.Note number command) stands = ap is_nop stands.is_record

pub all_spoken : (items : List WireItem) (messages : List ToTerminal) → Pairwise RepresentsDown items messages → without_nops items ≡ items
all_spoken [] messages pairs = refl
all_spoken (item ∷ items) [] pairs = absurd pairs
all_spoken (item ∷ items) (message ∷ messages) pairs =
    ap (λ (b : Bool). cond (not b) (item ∷ without_nops items) (without_nops items)) (is_spoken item message pairs.0)
    ∙ ap (λ (l : List WireItem). item ∷ l) (all_spoken items messages pairs.1)

-- of two lists, one behind the other
abbrev pub IsPiecewise : (List WireItem → List WireItem) → Type 0
IsPiecewise spoken = (front back : List WireItem) → spoken (front ++ back) ≡ spoken front ++ spoken back

pub all_piecewise : IsPiecewise all_items
all_piecewise front back = refl

pub nops_piecewise : IsPiecewise without_nops
nops_piecewise front back = filter-append (λ (item : WireItem). not (is_nop item)) front back

pub without_piecewise : (ignored : WireItem → Bool) → IsPiecewise (without ignored)
without_piecewise ignored front back = filter-append (λ (item : WireItem). not (ignored item)) front back

-- ---- queues

pub nothing_stands : {X : Type 0} (spoken : List WireItem → List WireItem) (Means : WireItem → X → Type 0) → spoken [] ≡ [] → ReadingNothing → NothingIsRest
    → NothingRepresents spoken Means
nothing_stands spoken Means none reads is_rest = record {
  is_rest = is_rest record_limit;
  items = [];
  delivers = record { tokens = []; reads = reads record_limit nothing; is_rest = is_rest record_limit; said = refl };
  each = subst (λ (items : List WireItem). Pairwise Means items []) (sym none) tt;
}

sent_text : (items : List WireItem) → text (flat_map item_tokens items) ≡ sent_bytes items
sent_text [] = refl
sent_text (item ∷ items) =
    flat_map-append spelling (item_tokens item) (flat_map item_tokens items) ∙ ap (λ (bytes : List ℕ). text (item_tokens item) ++ bytes) (sent_text items)

pub pairs_more : {X Y : Type 0} (R : X → Y → Type 0) (xs us : List X) (ys vs : List Y) → Pairwise R xs ys → Pairwise R us vs → Pairwise R (xs ++ us) (ys ++ vs)
pairs_more R [] us [] vs h k = k
pairs_more R [] us (y ∷ ys) vs h k = absurd h
pairs_more R (x ∷ xs) us [] vs h k = absurd h
pairs_more R (x ∷ xs) us (y ∷ ys) vs h k = (h.0, pairs_more R xs us ys vs h.1 k)

pub stands_join : {X : Type 0} (spoken : List WireItem → List WireItem) (Means : WireItem → X → Type 0) → IsPiecewise spoken → DeliveriesCompose → RepresentsJoin spoken Means
stands_join spoken Means piecewise compose rest bytes more messages others stands behind = record {
  is_rest = stands.is_rest;
  items = stands.items ++ behind.items;
  delivers = compose record_limit rest nothing nothing bytes more stands.items behind.items stands.delivers behind.delivers;
  each = subst (λ (l : List WireItem). Pairwise Means l (messages ++ others)) (sym (piecewise stands.items behind.items))
      (pairs_more Means (spoken stands.items) (spoken behind.items) messages others stands.each behind.each);
}

-- items as they are written
pub written_stand : {X : Type 0} (spoken : List WireItem → List WireItem) (Means : WireItem → X → Type 0) → ItemsAreRead → (items : List WireItem) (messages : List X)
    → AllByRecursion (CanCome record_limit) items → Pairwise Means (spoken items) messages → BytesRepresent spoken Means nothing (sent_bytes items) messages
written_stand spoken Means written items messages can each =
    let delivers = subst (λ (b : List ℕ). Delivers record_limit nothing b items nothing) (sent_text items) (written record_limit items can) in
    record { is_rest = delivers.is_rest; items = items; delivers = delivers; each = each }

pub stands_compose : {X : Type 0} (spoken : List WireItem → List WireItem) (Means : WireItem → X → Type 0) → IsPiecewise spoken → DeliveriesCompose → ItemsAreRead
    → RepresentsCompose spoken Means
stands_compose spoken Means piecewise compose written rest bytes messages more items stands can each =
    stands_join spoken Means piecewise compose rest bytes (sent_bytes items) messages more stands (written_stand spoken Means written items more can each)

-- the items behind these stand for the messages behind
record Parts {X Y : Type 0} (R : X → Y → Type 0) (xs us : List X) (ys : List Y) : Type 0 where
  taken : List Y
  others : List Y
  whole : ys ≡ taken ++ others
  first : Pairwise R xs taken
  second : Pairwise R us others

pairs_part : {X Y : Type 0} (R : X → Y → Type 0) (xs us : List X) (ys : List Y) → Pairwise R (xs ++ us) ys → Parts R xs us ys
pairs_part R [] us ys h = record { taken = []; others = ys; whole = refl; first = tt; second = h }
pairs_part R (x ∷ xs) us [] h = absurd h
pairs_part R (x ∷ xs) us (y ∷ ys) h =
    let p = pairs_part R xs us ys h.1 in
    record { taken = y ∷ p.taken; others = p.others; whole = ap (λ l. y ∷ l) p.whole; first = (h.0, p.first); second = p.second }

pub stands_go_on : {X : Type 0} (spoken : List WireItem → List WireItem) (Means : WireItem → X → Type 0) → IsPiecewise spoken → DeliveryGoesOn → RepresentsGoOn spoken Means
stands_go_on spoken Means piecewise goes_on rest mid bytes behind items messages stands delivers =
    let more = goes_on record_limit rest mid nothing bytes behind items stands.items delivers stands.delivers in
    let parts = pairs_part Means (spoken items) (spoken more.0) messages
    (subst (λ l. Pairwise Means l messages) (ap spoken more.1 ∙ piecewise items more.0) stands.each) in
    record {
      taken = parts.taken;
      others = parts.others;
      whole = parts.whole;
      each = parts.first;
      stands = record { is_rest = delivers.is_rest; items = more.0; delivers = more.2; each = parts.second };
    }

-- ---- a connection at its begin

pub begin_stands : ItemIsRead → NothingIsRest → NothingRepresents all_items RepresentsUp → BeginRepresents
begin_stands written is_rest empty serves panels model terminal wanted = record {
  lost = refl;
  host_here = refl;
  term_here = refl;
  read = nothing;
  up = empty;
  host = λ here. record { host = refl; rest_is = refl };
  term = λ which here. record {
    rest = nothing;
    holds = record {
      talk = term_start model wanted;
      attached = refl;
      is_end = record { talk_is = refl; screen_is = refl; keyboard_is = refl; last_restored_is = refl; before_restored_is = refl; erased_is = refl };
    };
    silent = refl;
    down = record { is_rest = is_rest record_limit; items = OptItem Do 40 ∷ []; delivers = written record_limit (OptItem Do 40) tt; each = (refl, tt) };
  };
}

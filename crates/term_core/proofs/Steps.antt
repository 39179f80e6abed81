-- A record, an item, a byte and bytes, as the code takes them.
use Rattle.std.proofs.Common.{◌≡◌, ◌≢◌, ℕ, ◌+◌, ◌-◌, ◌<◌, List, [], ◌∷◌, ◌++◌, length, take, drop, get_or, sym, ap, subst, arith, refl, Option, None, Some, Vec}
use Rattle.std.proofs.lemmas.List.{append-nil, length-drop, take_all, take_more}
use Rattle.std.proofs.Math.Seq.{take-add}
use Rattle.std.proofs.lemmas.Bool.{ne_eqb}
use Rattle.std.specs.Borrow.{Bor}
use Rattle.std.specs.declared.alloc.Global.{Global}
use Rattle.datastream.specs.Grammar.{CommandParts}
use Rattle.datastream.specs.declared.fault.CommandFault.{CommandFault}
use Rattle.telnet_wire.specs.declared.wire.Step.TheVariants.{More}
use Rattle.telnet_wire.specs.declared.wire.WireFault.{WireFault}
use Rattle.telnet_wire.specs.declared.wire.Item.{Item}
use Rattle.telnet_wire.specs.declared.wire.Item.TheVariants as lent
use Rattle.telnet_wire.specs.Items.{WireItem, Record, Opt, Sub, Other, item_of, sent_bytes}
use Rattle.telnet_wire.specs.DecoderValue.{DecoderValue, Takes, TakesAll, Refuses, step_of}
use Rattle.tn3270e_msg.specs.declared.cause.Cause.{Cause}
use Rattle.tn3270e_msg.specs.declared.cause.Cause.TheVariants.{BadRecord, Wire}
use Rattle.tn3270e_msg.specs.declared.header.DataType.TheVariants.{Data3270}
use Rattle.tn3270e_msg.specs.declared.header.HeadFault.{HeadFault}
use Rattle.tn3270e_msg.specs.declared.header.Header.{Header}
use Rattle.tn3270e_msg.specs.declared.term_talk.TermState.{TermState}
use Rattle.tn3270e_msg.specs.declared.term_talk.TermState.TheVariants as at
use Rattle.tn3270e_msg.specs.Header.{Begins, HasFault, record_limit}
use Rattle.tn3270e_msg.specs.declared.reply.Reply.{Reply}
use Rattle.tn3270e_msg.specs.Talk.{items_sent, closing}
use Rattle.tn3270e_msg.specs.TermTable.{Term, TermTakes}
use Rattle.telnet_wire.proofs.Running.{goes_wrong, delivers_none, delivers_item, none_completed, still_running}
use Rattle.term_core.specs.State.{Station, Terminal, Attached}
use Rattle.term_core.specs.declared.outcome.Outcome.{Outcome}
use Rattle.term_core.specs.Says.{response}
use Rattle.datastream.specs.Senses.{sense_of}
use Rattle.term_core.specs.declared.outcome.Outcome.TheVariants.{Refused}
use Rattle.term_core.specs.Records.{TakesRecord, SpellsCommand, SpellsNoCommand, refused_response, answer_of, obeyed}
use Rattle.term_core.specs.Items.{TakesItem, TakesItemIn, TalksOn}
use Rattle.term_core.specs.Bytes.{TakesByte, TakesBytes, before_byte, link_after}
use Rattle.term_core.specs.Over.{RecordTaken, ItemTaken, IsRunning, IsLeft, IsSound, terminal_of}
use Rattle.term_core.specs.declared.terminal.Attachment.{Attachment}
use Rattle.term_core.specs.declared.terminal.Attachment.TheVariants as part

-- ---- a record

none_sent : (bytes : List ℕ) → bytes ≡ bytes ++ sent_bytes []
none_sent bytes = sym (append-nil bytes)

pub without_header : (old : Station) (bytes : List ℕ) (out : Vec ℕ Global) (fault : HeadFault) → HasFault bytes fault
    → RecordTaken old bytes out out (Some BadRecord) old
without_header old bytes out fault has =
    record { says = []; takes = TakesRecord.no_header fault has refl refl refl; sent = none_sent out.items }

pub of_another_type : (old : Station) (bytes : List ℕ) (out : Vec ℕ Global) (header : Header) (body : List ℕ)
    → Begins bytes header body → header.kind ≢ Data3270 → RecordTaken old bytes out out None old
of_another_type old bytes out header body begins other =
    record { says = []; takes = TakesRecord.dropped header body begins other refl refl refl; sent = none_sent out.items }

pub with_fault : (old : Station) (bytes : List ℕ) (before after : Vec ℕ Global) (header : Header) (body : List ℕ) (fault : CommandFault)
    → Begins bytes header body → header.kind ≡ Data3270 → SpellsNoCommand old fault body
    → after.items ≡ before.items ++ sent_bytes (refused_response header.flag header.seq (Refused (sense_of fault)))
    → RecordTaken old bytes before after None old
with_fault old bytes before after header body fault begins kind wrong sent =
    record { says = refused_response header.flag header.seq (Refused (sense_of fault)); takes = TakesRecord.refused header body fault begins kind wrong refl refl refl; sent = sent }

pub with_command : (old new : Station) (bytes : List ℕ) (before after : Vec ℕ Global) (header : Header) (body : List ℕ) (command : CommandParts)
    → Begins bytes header body → header.kind ≡ Data3270 → SpellsCommand old command body → new ≡ obeyed command old
    → after.items ≡ before.items ++ sent_bytes (answer_of header command old)
    → RecordTaken old bytes before after None new
with_command old new bytes before after header body command begins kind right done sent =
    record { says = answer_of header command old; takes = TakesRecord.obeys header body command begins kind right refl refl done; sent = sent }

pub answered_if_wanted : (flag number : ℕ) (outcome : Outcome) → (flag ≡ 0 → ⊥) → response number outcome ∷ [] ≡ refused_response flag number outcome
answered_if_wanted flag number outcome wanted = rw (ne_eqb flag 0 wanted) refl

pub silent_if_not_wanted : (flag number : ℕ) (outcome : Outcome) (bytes : List ℕ) → flag ≡ 0
    → bytes ≡ bytes ++ sent_bytes (refused_response flag number outcome)
silent_if_not_wanted flag number outcome bytes none = rw none (none_sent bytes)

-- ---- an item

for_screen_in : (state : TermState) (talk : Term) (old : Station) (item : WireItem) (says : List WireItem) (closes : Option Cause) (new : Station) (lu bytes : List ℕ)
    → state ≡ at.Agreed lu → item ≡ Record bytes → TakesRecord old bytes says closes new
    → TakesItemIn state talk old item says closes talk new
for_screen_in state talk old item says closes new lu bytes agreed is takes = rw (agreed, is) (takes, refl)

pub for_screen : (talk : Term) (old new : Station) (item : WireItem) (lu bytes : List ℕ) (before after : Vec ℕ Global) (closes : Option Cause)
    → talk.talk.state ≡ at.Agreed lu → item ≡ Record bytes → RecordTaken old bytes before after closes new
    → ItemTaken talk old item before after closes talk new
for_screen talk old new item lu bytes before after closes agreed is taken = record {
  says = taken.says;
  takes = for_screen_in talk.talk.state talk old item taken.says closes new lu bytes agreed is taken.takes;
  sent = taken.sent;
}

pub in_other_state : (state : TermState) (talk : Term) (old : Station) (item : WireItem) (says : List WireItem) (closes : Option Cause) (after : Term) (new : Station)
    → ((lu : List ℕ) → state ≡ at.Agreed lu → ⊥) → TalksOn talk old item says closes after new
    → TakesItemIn state talk old item says closes after new
in_other_state at.Waiting talk old item says closes after new other on = on
in_other_state at.Willing talk old item says closes after new other on = on
in_other_state at.TypeAsked talk old item says closes after new other on = on
in_other_state (at.FunctionsAsked lu) talk old item says closes after new other on = on
in_other_state (at.Agreed lu) talk old item says closes after new other on = absurd (other lu refl)
in_other_state (at.Refused reason) talk old item says closes after new other on = on
in_other_state (at.Closed cause) talk old item says closes after new other on = on

pub of_other_kind : (state : TermState) (talk : Term) (old : Station) (item : WireItem) (says : List WireItem) (closes : Option Cause) (after : Term) (new : Station)
    → ((bytes : List ℕ) → item ≡ Record bytes → ⊥) → TalksOn talk old item says closes after new
    → TakesItemIn state talk old item says closes after new
of_other_kind at.Waiting talk old item says closes after new other on = on
of_other_kind at.Willing talk old item says closes after new other on = on
of_other_kind at.TypeAsked talk old item says closes after new other on = on
of_other_kind (at.FunctionsAsked lu) talk old item says closes after new other on = on
of_other_kind (at.Refused reason) talk old item says closes after new other on = on
of_other_kind (at.Closed cause) talk old item says closes after new other on = on
of_other_kind (at.Agreed lu) talk old (Record bytes) says closes after new other on = absurd (other bytes refl)
of_other_kind (at.Agreed lu) talk old (Opt verb code) says closes after new other on = on
of_other_kind (at.Agreed lu) talk old (Sub bytes) says closes after new other on = on
of_other_kind (at.Agreed lu) talk old (Other code) says closes after new other on = on

pub not_record : (item : Item) → ((bytes : Bor (List ℕ)) → item ≡ lent.Record bytes → ⊥) → (bytes : List ℕ) → item_of item ≡ Record bytes → ⊥
not_record (lent.Record lain) other bytes e = other lain refl
not_record (lent.Opt verb code) other bytes e = cc
not_record (lent.Sub lain) other bytes e = cc
not_record (lent.Other code) other bytes e = cc

pub for_talk : (talk after : Term) (old : Station) (item : WireItem) (reply : Reply) (before out : Vec ℕ Global) (closes : Option Cause)
    → ((bytes : List ℕ) → item ≡ Record bytes → ⊥) → TermTakes talk item reply after → closes ≡ closing reply
    → out.items ≡ before.items ++ sent_bytes (items_sent reply)
    → ItemTaken talk old item before out closes after old
for_talk talk after old item reply before out closes other takes ends sent = record {
  says = items_sent reply;
  takes = of_other_kind talk.talk.state talk old item (items_sent reply) closes after old other
      (record { reply = reply; takes = takes; sends = refl; ends = ends }, refl);
  sent = sent;
}

-- ---- a byte

pub byte_breaks : (held after : DecoderValue) (talk : Term) (old station : Station) (out : Vec ℕ Global) (byte : ℕ) (fault : WireFault)
    → IsRunning held → Refuses held byte fault → station ≡ before_byte old
    → TakesByte (terminal_of held talk None old out) byte (terminal_of after talk (Some Wire) station out)
byte_breaks held after talk old station out byte fault running refused at =
    TakesByte.breaks held.rest talk fault refl (goes_wrong record_limit held byte fault running refused)
    (ap (λ (s : Station). terminal_of after talk (Some Wire) s out) at)

pub byte_goes_on : (held after : DecoderValue) (talk : Term) (old station : Station) (out : Vec ℕ Global) (byte : ℕ)
    → IsRunning held → Takes held byte after → More ≡ step_of after.ready → station ≡ before_byte old
    → TakesByte (terminal_of held talk None old out) byte (terminal_of after talk None station out)
byte_goes_on held after talk old station out byte running takes more at =
    TakesByte.goes_on held.rest after.rest talk refl
    (delivers_none record_limit held after byte running takes more)
    (ap (λ (s : Station). terminal_of after talk None s out) at)

pub byte_completes : (held after : DecoderValue) (talk talks : Term) (old station new : Station) (before out : Vec ℕ Global) (byte : ℕ) (item : WireItem) (closes : Option Cause)
    → IsRunning held → Takes held byte after → after.ready ≡ Some item → station ≡ before_byte old
    → ItemTaken talk station item before out closes talks new
    → TakesByte (terminal_of held talk None old before) byte (terminal_of after talks closes new out)
byte_completes held after talk talks old station new before out byte item closes running takes ready at taken =
    TakesByte.completes held.rest after.rest talk talks item taken.says closes new refl
    (delivers_item record_limit held after byte item running takes ready)
    (subst (λ (s : Station). TakesItem talk s item taken.says closes talks new) at taken.takes)
    (ap (λ (bytes : List ℕ). record { link = link_after after.rest talks closes; station = new; out = bytes }) taken.sent)

pub left_running : (closes : Option Cause) (held : DecoderValue) → IsRunning held → IsLeft closes held
left_running None held running = running
left_running (Some cause) held running = running.limit_is

-- ---- bytes

pub one_more : (old : Terminal) (bytes : List ℕ) (mid : Terminal) (byte : ℕ) (new : Terminal)
    → TakesBytes old bytes mid → TakesByte mid byte new → TakesBytes old (bytes ++ byte ∷ []) new
one_more old [] mid byte new taken more = (new, subst (λ (from : Terminal). TakesByte from byte new) taken more, refl)
one_more old (first ∷ bytes) mid byte new taken more = (taken.0, taken.1, one_more taken.0 bytes mid byte new taken.2 more)

pub up_to_one_more : (old : Terminal) (bytes : List ℕ) (place : ℕ) (mid new : Terminal) → place < length bytes
    → TakesBytes old (take place bytes) mid → TakesByte mid (get_or bytes place 0) new → TakesBytes old (take (place + 1) bytes) new
up_to_one_more old bytes place mid new below taken more =
    subst (λ (some : List ℕ). TakesBytes old some new) (sym (take_more bytes place 0 below)) (one_more old (take place bytes) mid (get_or bytes place 0) new taken more)

more_bytes : (old mid new : Terminal) (bytes more : List ℕ) → TakesBytes old bytes mid → TakesBytes mid more new → TakesBytes old (bytes ++ more) new
more_bytes old mid new [] more taken then_taken = subst (λ (from : Terminal). TakesBytes from more new) taken then_taken
more_bytes old mid new (byte ∷ bytes) more taken then_taken = (taken.0, taken.1, more_bytes taken.0 mid new bytes more taken.2 then_taken)

up_to_more : (old mid new : Terminal) (bytes : List ℕ) (place count : ℕ)
    → TakesBytes old (take place bytes) mid → TakesBytes mid (take count (drop place bytes)) new → TakesBytes old (take (place + count) bytes) new
up_to_more old mid new bytes place count taken then_taken =
    subst (λ (some : List ℕ). TakesBytes old some new) (sym (take-add place count bytes)) (more_bytes old mid new (take place bytes) (take count (drop place bytes)) taken then_taken)

-- room was made, and some bytes were taken
pub some_more : (start : Terminal) (bytes : List ℕ) (place count : ℕ) (held after : DecoderValue) (talk talks : Term) (station new : Station) (out roomy sent : Vec ℕ Global) (closes is : Option Cause)
    → closes ≡ is → roomy.items ≡ out.items → TakesBytes start (take place bytes) (terminal_of held talk None station out)
    → TakesBytes (terminal_of held talk None station roomy) (take count (take (length bytes - place) (drop place bytes))) (terminal_of after talks closes new sent)
    → TakesBytes start (take (place + count) bytes) (terminal_of after talks is new sent)
some_more start bytes place count held after talk talks station new out roomy sent closes is ends same taken more =
    let as_before : terminal_of held talk None station roomy ≡ terminal_of held talk None station out =
    ap (λ (items : List ℕ). record { link = Attached held.rest talk; station = station; out = items }) same in
    let rest : take (length bytes - place) (drop place bytes) ≡ drop place bytes = take_all (length bytes - place) (drop place bytes) (omega (arith, length-drop place bytes)) in
    up_to_more start (terminal_of held talk None station out) (terminal_of after talks is new sent) bytes place count taken
    (subst (λ (from : Terminal). TakesBytes from (take count (drop place bytes)) (terminal_of after talks is new sent)) as_before
    (subst (λ (cause : Option Cause). TakesBytes (terminal_of held talk None station roomy) (take count (drop place bytes)) (terminal_of after talks cause new sent)) ends
    (subst (λ (some : List ℕ). TakesBytes (terminal_of held talk None station roomy) (take count some) (terminal_of after talks closes new sent)) rest more)))

-- the byte behind some bytes
pub byte_behind : (start mid new : Terminal) (bytes : List ℕ) (place byte : ℕ) → place < length bytes → byte ≡ get_or bytes place 0
    → TakesBytes start (take place bytes) mid → TakesByte mid byte new → TakesBytes start (take (place + 1) bytes) new
byte_behind start mid new bytes place byte below at taken more =
    up_to_one_more start bytes place mid new below taken (subst (λ (b : ℕ). TakesByte mid b new) at more)

-- ---- data up to the next IAC

-- behind its first byte
data_goes_on : (run : List ℕ) (held after : DecoderValue) (talk : Term) (station : Station) (out : Vec ℕ Global) → IsRunning held → TakesAll held run [] after
    → TakesBytes (terminal_of held talk None (before_byte station) out) run (terminal_of after talk None (before_byte station) out)
data_goes_on [] held after talk station out running taken = ap (λ (h : DecoderValue). terminal_of h talk None (before_byte station) out) taken.1
data_goes_on (byte ∷ run) held after talk station out running taken =
    let none = none_completed taken.0.ready taken.1 taken.3 in (
      terminal_of taken.0 talk None (before_byte station) out,
      byte_goes_on held taken.0 talk (before_byte station) (before_byte station) out byte running taken.2 none.0 refl,
      data_goes_on run taken.0 after talk station out (still_running record_limit held taken.0 byte running taken.2)
          (subst (λ (items : List WireItem). TakesAll taken.0 run items after) none.1 taken.4),
    )

data_begins : (byte : ℕ) (run : List ℕ) (held after : DecoderValue) (talk : Term) (station : Station) (out : Vec ℕ Global) → IsRunning held → TakesAll held (byte ∷ run) [] after
    → TakesBytes (terminal_of held talk None station out) (byte ∷ run) (terminal_of after talk None (before_byte station) out)
data_begins byte run held after talk station out running taken =
    let none = none_completed taken.0.ready taken.1 taken.3 in (
      terminal_of taken.0 talk None (before_byte station) out,
      byte_goes_on held taken.0 talk station (before_byte station) out byte running taken.2 none.0 refl,
      data_goes_on run taken.0 after talk station out (still_running record_limit held taken.0 byte running taken.2)
          (subst (λ (items : List WireItem). TakesAll taken.0 run items after) none.1 taken.4),
    )

pub data_taken : (run : List ℕ) (held after : DecoderValue) (talk : Term) (old station : Station) (out : Vec ℕ Global) → IsRunning held → TakesAll held run [] after
    → 0 < length run → station ≡ before_byte old
    → TakesBytes (terminal_of held talk None old out) run (terminal_of after talk None station out)
data_taken [] held after talk old station out running taken some at = absurd (omega arith)
data_taken (byte ∷ run) held after talk old station out running taken some at =
    subst (λ (s : Station). TakesBytes (terminal_of held talk None old out) (byte ∷ run) (terminal_of after talk None s out)) (sym at)
    (data_begins byte run held after talk old out running taken)

-- ---- the parts of a terminal

pub limit_of : (attachment : Attachment) (held : DecoderValue) → IsSound attachment held → held.limit ≡ record_limit
limit_of part.Detached held sound = sound
limit_of (part.Attached talk) held sound = sound.limit_is
limit_of (part.Closed cause) held sound = sound

-- What a host makes of an item is what it makes of the message as which it reads the item.
use Rattle.std.proofs.Common.{◌≡◌, ◌<◌, ◌≤◌, ◌/◌, ◌%◌, ◌^◌, ◌&&◌, inl, inr, ℕ, Bool, true, false, List, [], ◌∷◌, ◌++◌, length, Option, Some, None, Ok, refl, ap, sym, subst, ◌∙◌, arith, if◌then◌else◌, not, is_some, ◌==◌, ◌-◌}
use Rattle.codes3270.specs.Size.{ScreenSize, cells_in}
use Rattle.codes3270.specs.Aid.{aid_of, byte_of_aid}
use Rattle.codes3270.specs.Storable.{is_storable}
use Rattle.codes3270.specs.declared.attention.Aid.{Aid}
use Rattle.codes3270.specs.declared.attention.Aid.TheVariants.{NoAid, Enter, Clear, Pf, Pa}
use Rattle.datastream.specs.Escapes.{has_escapes, without_escapes}
use Rattle.datastream.specs.Grammar.{set_buffer_address, start_field}
use Rattle.datastream.specs.InboundText.{AreParts, InboundParts, IsCellPart, IsInbound, IsNoInbound, IsWhole, is_text_char, stands_alone}
use Rattle.datastream.specs.InboundText.IsInbound.{alone, long}
use Rattle.datastream.specs.declared.inbound_part.Form.{Form}
use Rattle.datastream.specs.declared.inbound_part.Form.TheVariants.{Buffer, Modified}
use Rattle.datastream.specs.declared.inbound_part.InboundFault.{InboundFault}
use Rattle.datastream.specs.declared.inbound_part.Part.{Part}
use Rattle.datastream.specs.declared.inbound_part.Part.TheVariants.{At, Char, Attr}
use Rattle.datastream.specs.Laws.{OneInbound}
use Rattle.datastream.proofs.InboundData.{first_inbound_fault}
use Rattle.datastream.proofs.Replacing.{read_as_it_is}
use Rattle.shadow.specs.Belief.{Shadow}
use Rattle.shadow.specs.Heard.{heard, heard_form, heard_short}
use Rattle.telnet_wire.specs.Items.{WireItem}
use Rattle.tn3270e_msg.specs.Header.{Begins, negative, spelling}
use Rattle.tn3270e_msg.specs.Laws.{OneHeader, FaultIsNoHeader}
use Rattle.tn3270e_msg.specs.Talk.{Comes, Hears, NegotiationMessage, says, item_of}
use Rattle.tn3270e_msg.specs.declared.cause.Cause.TheVariants.{BadInbound}
use Rattle.tn3270e_msg.specs.declared.header.DataType.TheVariants.{Data3270, Response}
use Rattle.tn3270e_msg.specs.declared.header.Header.{Header}
use Rattle.tn3270e_msg.proofs.Hearings.{sent_is_heard}
use Rattle.term_core.specs.Says.{outcome_flag, outcome_code, response_header, data_header}
use Rattle.term_core.specs.declared.outcome.Outcome.{Outcome}
use Rattle.term_core.specs.declared.outcome.Outcome.TheVariants.{DeviceEnd, Refused}
use Rattle.host_core.specs.Items.{TakesData, IsNoSecondKey, IsOther, TakesRecord, TakesRecordIf, Talks, TakesItem, is_paint_or_read, second_key_size, verdict_of, TakesAnyData, begins_with_other_aid, is_other_key, is_reading, is_replacing, plain_data, with_known_aid, with_replaced}
use Rattle.host_core.specs.Messages.{ToHost, Verdict}
use Rattle.host_core.specs.Session.{Session, Pending, is_agreed}
use Rattle.host_core.specs.declared.turn.Turn.{Turn}
use Rattle.host_core.specs.declared.turn_reason.TurnReason.TheVariants as turn_reasons
use Rattle.host_core.specs.declared.unheard.Unheard.TheVariants as unheards
use Rattle.host_core.specs.Takes.{Answers, HostStep, believed, buffer_came, clear_came, closed_by, dropping, form_awaited, data_came, hears, is_unread, key_came, may_have_changed, out_of_turn, response_came, once_agreed, second_key, second_key_data, talked, took}
use Rattle.world3270.specs.statement.Forms.{IsAwaitedBy}
use Rattle.world3270.specs.refinement.Readings.{IsReadAs, IsSecondKeyIn, MayBeSent, count_leading}
use Rattle.world3270.specs.refinement.Represents.{OutcomeIs, RepresentsUp}
use Rattle.world3270.specs.refinement.RepresentsEnds.{IsSaid}

-- ---- the talk

is_heard : (saying : NegotiationMessage) → IsSaid saying → (comes : Comes) → Hears (item_of saying) comes → comes ≡ says saying
is_heard (NegotiationMessage.Opt verb code) h comes k = k
is_heard (NegotiationMessage.Sub sending) h comes k = sent_is_heard sending h comes k

-- an option or a subnegotiation is for the talk
is_talk : (saying : NegotiationMessage) (answers : Answers) (conn : Session) (step : HostStep) → TakesItem answers conn (item_of saying) step → Talks answers conn (item_of saying) step
is_talk (NegotiationMessage.Opt verb code) answers conn step taken = taken
is_talk (NegotiationMessage.Sub sending) answers conn step taken = taken

takes_talk : (saying : NegotiationMessage) (answers : Answers) (conn : Session) (step : HostStep) → IsSaid saying → TakesItem answers conn (item_of saying) step
    → step ≡ talked answers conn conn.talk (says saying)
takes_talk saying answers conn step said taken =
    let talks = is_talk saying answers conn step taken in
    talks.2 ∙ ap (λ (c : Comes). talked answers conn conn.talk c) (is_heard saying said talks.0 talks.1)

-- ---- data

-- inbound data has no fault
no_fault : (size : ScreenSize) (form : Form) (parts : InboundParts) (fault : InboundFault) (body : List ℕ) → parts.form ≡ form → parts.size ≡ size → IsInbound parts body
    → IsNoInbound size form fault body → ⊥
no_fault size form parts fault body of_form of_size is bad = let same = first_inbound_fault form size (Ok parts) body (of_form, of_size, is) fault bad in absurd (cc)

heads : (x y : ℕ) (xs ys : List ℕ) → x ∷ xs ≡ y ∷ ys → x ≡ y
heads x y xs ys e = cc

not_stored : is_storable set_buffer_address ≡ true → ⊥
not_stored e = cc

other_order : start_field ≡ set_buffer_address → ⊥
other_order e = cc

-- a cell is some bytes, of which the first is no order for an address
record FirstOfCell (front : List ℕ) : Type 0 where
  byte : ℕ
  more : List ℕ
  is : front ≡ byte ∷ more
  no_address : byte ≡ set_buffer_address → ⊥

first_of_cell : (cell : Part) (front : List ℕ) → IsCellPart cell front → FirstOfCell front
first_of_cell (At address) front is = absurd is
first_of_cell (Char char) front is = record { byte = char; more = []; is = is.1; no_address = λ same. not_stored (ap is_storable (sym same) ∙ is.0) }
first_of_cell (Attr attr) front is = record { byte = start_field; more = is.0 ∷ []; is = is.2; no_address = other_order }

stored_no_order : is_text_char start_field ≡ true → ⊥
stored_no_order e = cc

behind : (x y : ℕ) (xs ys : List ℕ) → x ∷ xs ≡ y ∷ ys → xs ≡ ys
behind x y xs ys e = cc

-- the data of a key with fewer characters before its first address than a screen has is no whole screen
not_whole : (its size : ℕ) (parts cells : List Part) (text : List ℕ) → count_leading parts < length cells → AreParts its Modified parts text → AreParts size Buffer cells text → ⊥
not_whole its size parts [] text few are whole = absurd (omega (arith, few))
not_whole its size [] (cell ∷ cells) text few are whole =
    let first = first_of_cell cell whole.0 whole.2 in
    let both : [] ≡ first.byte ∷ (first.more ++ whole.1) = sym are ∙ whole.4 ∙ ap (λ (front : List ℕ). front ++ whole.1) first.is in
    absurd (cc)
not_whole its size (At address ∷ parts) (cell ∷ cells) text few are whole =
    let first = first_of_cell cell whole.0 whole.2 in
    first.no_address
    (heads first.byte set_buffer_address (first.more ++ whole.1) (are.2.0 ∷ are.2.1 ∷ are.1)
    (sym (whole.4 ∙ ap (λ (front : List ℕ). front ++ whole.1) first.is) ∙ are.4 ∙ ap (λ (front : List ℕ). front ++ are.1) are.2.3))
not_whole its size (Char char ∷ parts) (At address ∷ cells) text few are whole = absurd whole.2
not_whole its size (Char char ∷ parts) (Char byte ∷ cells) text few are whole =
    let both : char ∷ are.1 ≡ byte ∷ whole.1 =
    sym (are.4 ∙ ap (λ (front : List ℕ). front ++ are.1) are.2.1) ∙ whole.4 ∙ ap (λ (front : List ℕ). front ++ whole.1) whole.2.1 in
    not_whole its size parts cells whole.1 (omega (arith, few)) (subst (λ (t : List ℕ). AreParts its Modified parts t) (behind char byte are.1 whole.1 both) are.3) whole.3
not_whole its size (Char char ∷ parts) (Attr attr ∷ cells) text few are whole =
    let both : char ∷ are.1 ≡ start_field ∷ (whole.2.0 ∷ whole.1) =
    sym (are.4 ∙ ap (λ (front : List ℕ). front ++ are.1) are.2.1) ∙ whole.4 ∙ ap (λ (front : List ℕ). front ++ whole.1) whole.2.2 in
    stored_no_order (ap is_text_char (sym (heads char start_field are.1 (whole.2.0 ∷ whole.1) both)) ∙ are.2.0)
not_whole its size (Attr attr ∷ parts) (cell ∷ cells) text few are whole = absurd are.2

no_buffer : (size : ScreenSize) (parts buffer : InboundParts) (body : List ℕ) → count_leading parts.parts < cells_in size → parts.form ≡ Modified → IsInbound parts body
    → buffer.form ≡ Buffer → buffer.size ≡ size → IsInbound buffer body → ⊥
no_buffer size parts buffer body few form (alone byte is_alone aid none nothing encoded) of_form of_size (alone other alone_too aid_too none_too nothing_too spelt_too) =
    let both : false ≡ true = sym (ap (λ (f : Form). stands_alone f buffer.aid) of_form) ∙ alone_too in absurd (cc)
no_buffer size parts buffer body few form (long byte high low cursor text is_long aid at address are whole encoded) of_form of_size (alone other alone_too aid_too none_too nothing_too spelt_too) =
    let both : false ≡ true = sym (ap (λ (f : Form). stands_alone f buffer.aid) of_form) ∙ alone_too in absurd (cc)
no_buffer size parts buffer body few form (alone byte is_alone aid none nothing encoded) of_form of_size (long other high low cursor text is_long aid_too at address are whole spelt_too) =
    let both : byte ∷ [] ≡ other ∷ high ∷ low ∷ text = sym encoded ∙ spelt_too in absurd (cc)
no_buffer size parts buffer body few form (long byte high low cursor text is_long aid at address are whole encoded) of_form of_size (long other high' low' cursor' text' is_long' aid' at' address' are' whole' spelt') =
    let both : byte ∷ high ∷ low ∷ text ≡ other ∷ high' ∷ low' ∷ text' = sym encoded ∙ spelt' in
    let same : text ≡ text' = cc in
    not_whole (cells_in parts.size) (cells_in size) parts.parts buffer.parts text'
    (subst (λ (cells : ℕ). count_leading parts.parts < cells) (sym (subst (λ (f : Form). IsWhole (cells_in size) f buffer.parts) of_form (subst (λ (s : ScreenSize). IsWhole (cells_in s) buffer.form buffer.parts) of_size whole'))) few)
    (subst (λ (t : List ℕ). AreParts (cells_in parts.size) Modified parts.parts t) same
    (subst (λ (f : Form). AreParts (cells_in parts.size) f parts.parts text) form are))
    (subst (λ (f : Form). AreParts (cells_in size) f buffer.parts text') of_form (subst (λ (s : ScreenSize). AreParts (cells_in s) buffer.form buffer.parts text') of_size are'))

-- ---- a second key's data

-- a text on a screen is one on a larger screen, too
on_larger_text : (small large : ℕ) (parts : List Part) (text : List ℕ) → small ≤ large → AreParts small Modified parts text → AreParts large Modified parts text
on_larger_text small large [] text larger are = are
on_larger_text small large (At address ∷ parts) text larger are =
    let below = are.2.2.1 in
    (are.0, are.1, (are.2.0, are.2.1, (are.2.2.0, omega (arith, larger, below)), are.2.3), on_larger_text small large parts are.1 larger are.3, are.4)
on_larger_text small large (Char char ∷ parts) text larger are = (are.0, are.1, are.2, on_larger_text small large parts are.1 larger are.3, are.4)
on_larger_text small large (Attr attr ∷ parts) text larger are = absurd are.2

on_larger : (parts : InboundParts) (body : List ℕ) (large : ScreenSize) → parts.form ≡ Modified → cells_in parts.size ≤ cells_in large → IsInbound parts body
    → IsInbound (record parts { size = large }) body
on_larger parts body large form larger (alone byte is_alone aid none nothing encoded) = alone byte is_alone aid none nothing encoded
on_larger parts body large form larger (long byte high low cursor text is_long aid at address are whole encoded) =
    let below = address.1 in
    let modified = subst (λ (f : Form). AreParts (cells_in parts.size) f parts.parts text) form are in
    long byte high low cursor text is_long aid at (address.0, omega (arith, larger, below))
    (subst (λ (f : Form). AreParts (cells_in large) f parts.parts text) (sym form) (on_larger_text (cells_in parts.size) (cells_in large) parts.parts text larger modified))
    (subst (λ (f : Form). IsWhole (cells_in large) f parts.parts) (sym form) tt) encoded

-- the first byte says the AID, whatever else is read
record FirstOf (parts : InboundParts) (body : List ℕ) : Type 0 where
  byte : ℕ
  more : List ℕ
  is : body ≡ byte ∷ more
  aid : aid_of byte ≡ Some parts.aid

first_of : (parts : InboundParts) (body : List ℕ) → IsInbound parts body → FirstOf parts body
first_of parts body (alone byte is_alone aid none nothing encoded) = record { byte = byte; more = []; is = encoded; aid = aid }
first_of parts body (long byte high low cursor text is_long aid at address are whole encoded) = record { byte = byte; more = high ∷ low ∷ text; is = encoded; aid = aid }

the_one : (aid other : Aid) → Some aid ≡ Some other → aid ≡ other
the_one aid other e = cc

one_aid : (parts other : InboundParts) (body : List ℕ) → IsInbound parts body → IsInbound other body → parts.aid ≡ other.aid
one_aid parts other body is is_too =
    let first = first_of parts body is in
    let second = first_of other body is_too in
    the_one parts.aid other.aid (sym first.aid ∙ ap aid_of (heads first.byte second.byte first.more second.more (sym first.is ∙ second.is)) ∙ second.aid)

both_true : (one other : Bool) → (one && other) ≡ true → (one ≡ true) × (other ≡ true)
both_true true other is = (refl, is)
both_true false other is = absurd (cc)

-- Clear is sent without fields
clear_alone : (parts : InboundParts) (body : List ℕ) → IsInbound parts body → parts.form ≡ Modified → parts.aid ≡ Clear → parts.cursor ≡ None
clear_alone parts body (alone byte is_alone aid none nothing encoded) form clear = none
clear_alone parts body (long byte high low cursor text is_long aid at address are whole encoded) form clear =
    absurd (let wrong : true ≡ false = sym (ap (λ (a : Aid). stands_alone Modified a) clear) ∙ sym (ap (λ (f : Form). stands_alone f parts.aid) form) ∙ is_long in cc)

clear_heard : (size : ℕ) (shadow : Shadow) (parts : InboundParts) → parts.form ≡ Modified → parts.aid ≡ Clear → heard size shadow parts ≡ Ok (heard_short size Clear shadow)
clear_heard size shadow parts form clear = ap (λ (f : Form). heard_form f size shadow parts.aid parts.parts) form ∙ ap (λ (a : Aid). heard_form Modified size shadow a parts.parts) clear

clear_came_so : (parts : InboundParts) (body : List ℕ) (conn : Session) → IsInbound parts body → parts.form ≡ Modified → parts.aid ≡ Clear → key_came parts Clear conn ≡ believed (turn_reasons.Key Clear false) conn.pending None conn (Ok (heard_short (cells_in conn.size) Clear conn.shadow))
clear_came_so parts body conn is form clear =
    ap (λ (cursor : Option ℕ). believed (turn_reasons.Key Clear false) conn.pending cursor conn (hears parts conn)) (clear_alone parts body is form clear)
    ∙ ap (believed (turn_reasons.Key Clear false) conn.pending None conn) (clear_heard (cells_in conn.size) conn.shadow parts form clear)

-- so the host makes the same of two readings of a second key's data
same_second_key : (one other : InboundParts) (body : List ℕ) (pending : Pending) (conn : Session) → IsInbound one body → IsInbound other body → one.form ≡ Modified → other.form ≡ Modified
    → second_key one one.aid pending conn ≡ second_key other other.aid pending conn
same_second_key one other body pending conn is is_too form form_too =
    by_aid one.aid refl (sym (one_aid one other body is is_too)) ∙ ap (λ (aid : Aid). second_key other aid pending conn) (one_aid one other body is is_too)
  where
    counts : one.aid ≡ Clear → other.aid ≡ Clear → clear_came one conn ≡ clear_came other conn
    counts clear clear_too =
        ap (λ (step : HostStep). if is_unread conn.turn_reason then step else dropping Clear (record conn { unheard = unheards.Clear }))
        (clear_came_so one body conn is form clear ∙ sym (clear_came_so other body conn is_too form_too clear_too))

    by_pending : (pending : Pending) → one.aid ≡ Clear → other.aid ≡ Clear → second_key one Clear pending conn ≡ second_key other Clear pending conn
    by_pending Pending.Nothing clear clear_too = counts clear clear_too
    by_pending (Pending.Writing number command) clear clear_too = refl
    by_pending (Pending.Reading number) clear clear_too = counts clear clear_too
    by_pending (Pending.Noting number command) clear clear_too = counts clear clear_too

    by_aid : (aid : Aid) → one.aid ≡ aid → other.aid ≡ one.aid → second_key one aid pending conn ≡ second_key other aid pending conn
    by_aid NoAid same same_too = refl
    by_aid Enter same same_too = refl
    by_aid Clear same same_too = by_pending pending same (same_too ∙ same)
    by_aid (Pf key) same same_too = refl
    by_aid (Pa key) same same_too = refl

-- the host takes it as a second key's data
is_dropped : (parts : InboundParts) (conn : Session) → may_have_changed conn.unheard ≡ true → parts.form ≡ Modified → out_of_turn parts conn ≡ second_key parts parts.aid conn.pending conn
is_dropped parts conn changed form =
    ap (λ (b : Bool). if b then second_key_data parts parts.form conn else closed_by BadInbound conn) changed
    ∙ ap (λ (f : Form). second_key_data parts f conn) form

second_key_came : (parts : InboundParts) (conn : Session) (turn : Turn) (pending : Pending) → (may_have_changed conn.unheard && is_paint_or_read pending) ≡ true → parts.form ≡ Modified
    → data_came parts turn pending conn ≡ second_key parts parts.aid conn.pending conn
second_key_came parts conn turn (Pending.Writing number command) may form = is_dropped parts conn (both_true (may_have_changed conn.unheard) true may).0 form
second_key_came parts conn turn (Pending.Reading number) may form =
    ap (λ (f : Form). buffer_came parts f conn) form ∙ is_dropped parts conn (both_true (may_have_changed conn.unheard) true may).0 form
second_key_came parts conn turn Pending.Nothing may form = absurd (let none = (both_true (may_have_changed conn.unheard) false may).1 in cc)
second_key_came parts conn turn (Pending.Noting number command) may form = absurd (let none = (both_true (may_have_changed conn.unheard) false may).1 in cc)

-- where it is read in the form that is awaited, a paint is pending
heard_as_awaited : (conn : Session) (body : List ℕ) (parts read : InboundParts) (pending : Pending) → conn.pending ≡ pending → IsSecondKeyIn conn parts → IsInbound parts body
    → read.form ≡ form_awaited conn.pending → read.size ≡ conn.size → IsInbound read body → read.form ≡ Modified
heard_as_awaited conn body parts read (Pending.Reading number) pends second is form size is_read =
    let whole : form_awaited conn.pending ≡ Buffer = ap form_awaited pends in
    absurd (no_buffer conn.size parts read body (second.few whole) second.form is (form ∙ whole) size is_read)
heard_as_awaited conn body parts read Pending.Nothing pends second is form size is_read = form ∙ ap form_awaited pends
heard_as_awaited conn body parts read (Pending.Writing number command) pends second is form size is_read = form ∙ ap form_awaited pends
heard_as_awaited conn body parts read (Pending.Noting number command) pends second is form size is_read = form ∙ ap form_awaited pends

-- ---- data that can be read is read as it is

has_an_aid : (parts : InboundParts) (body : List ℕ) → IsInbound parts body → begins_with_other_aid body ≡ false
has_an_aid parts body (alone byte is_alone aid none nothing encoded) =
    ap begins_with_other_aid encoded ∙ ap (λ (a : Option Aid). not (is_some a)) aid
has_an_aid parts body (long byte high low cursor text is_long aid at address are whole encoded) =
    ap begins_with_other_aid encoded ∙ ap (λ (a : Option Aid). not (is_some a)) aid

no_other_key : (conn : Session) (parts : InboundParts) (body : List ℕ) → IsInbound parts body → is_other_key conn body ≡ false
no_other_key conn parts body is = by_tests (may_have_changed conn.unheard) (not (is_reading conn.pending)) (has_an_aid parts body is)
  where
    by_tests : (changed unread : Bool) → begins_with_other_aid body ≡ false → (changed && (unread && begins_with_other_aid body)) ≡ false
    by_tests false unread none = refl
    by_tests true false none = refl
    by_tests true true none = none

known_aid : (body : List ℕ) → begins_with_other_aid body ≡ false → with_known_aid body ≡ body
known_aid [] none = refl
known_aid (byte ∷ rest) none = by_aid (is_some (aid_of byte)) none
  where
    by_aid : (known : Bool) → not known ≡ false → ((if known then byte else byte_of_aid NoAid) ∷ rest) ≡ (byte ∷ rest)
    by_aid true none = refl
    by_aid false none = absurd (cc)

as_it_is : (conn : Session) (parts : InboundParts) (body : List ℕ) → IsInbound parts body → plain_data conn body ≡ body
as_it_is conn parts body is = by_test (may_have_changed conn.unheard)
  where
    by_test : (changed : Bool) → (if changed then with_known_aid (without_escapes body) else body) ≡ body
    by_test false = refl
    by_test true = ap with_known_aid (read_as_it_is parts body is) ∙ known_aid body (has_an_aid parts body is)

all_gone : (n : ℕ) → n - n ≡ 0
all_gone n = omega arith

none_replaced : (conn : Session) (parts : InboundParts) (body : List ℕ) → IsInbound parts body → is_replacing conn body ≡ false
none_replaced conn parts body is = by_test (may_have_changed conn.unheard)
  where
    none : has_escapes body ≡ false
    none = ap (λ (b : List ℕ). not ((length body - length b) == 0)) (read_as_it_is parts body is) ∙ ap (λ (n : ℕ). not (n == 0)) (all_gone (length body))

    by_test : (changed : Bool) → (changed && has_escapes body) ≡ false
    by_test false = refl
    by_test true = none

-- ---- records

module _ (one_header : OneHeader) (fault_or_header : FaultIsNoHeader) (one_inbound : OneInbound) where
  -- data in the form that is awaited is no second key's
  awaited_is_taken : (conn : Session) (body : List ℕ) (parts : InboundParts) (step : HostStep) → IsAwaitedBy conn parts → IsInbound parts body → TakesData conn body step → step ≡ data_came parts conn.turn conn.pending conn
  awaited_is_taken conn body parts step awaited is (TakesData.hears parts' form size is' e) =
      e ∙ ap (λ (p : InboundParts). data_came p conn.turn conn.pending conn) (one_inbound body parts' parts (form ∙ sym awaited.form) (size ∙ sym awaited.size) is' is)
  awaited_is_taken conn body parts step awaited is (TakesData.is_second_key fault parts' bad may form size is' e) =
      absurd (no_fault conn.size (form_awaited conn.pending) parts fault body awaited.form awaited.size is bad)
  awaited_is_taken conn body parts step awaited is (TakesData.no_data fault bad no_key e) =
      absurd (no_fault conn.size (form_awaited conn.pending) parts fault body awaited.form awaited.size is bad)

  -- and a second key's data is taken alike, in whatever form it is read
  second_is_taken : (conn : Session) (body : List ℕ) (parts : InboundParts) (step : HostStep) → IsSecondKeyIn conn parts → IsInbound parts body → TakesData conn body step → step ≡ data_came parts conn.turn conn.pending conn
  second_is_taken conn body parts step second is (TakesData.hears read form size is_read e) =
      let modified = heard_as_awaited conn body parts read conn.pending refl second is form size is_read in
      e ∙ second_key_came read conn conn.turn conn.pending second.may_be modified
      ∙ same_second_key read parts body conn.pending conn is_read is modified second.form
      ∙ sym (second_key_came parts conn conn.turn conn.pending second.may_be second.form)
  second_is_taken conn body parts step second is (TakesData.is_second_key fault read bad may form size is_read e) =
      e ∙ same_second_key read parts body conn.pending conn is_read is form second.form
      ∙ sym (second_key_came parts conn conn.turn conn.pending second.may_be second.form)
  second_is_taken conn body parts step second is (TakesData.no_data fault bad no_key e) =
      let large = second_key_size conn conn.pending in
      let none = subst (λ (b : Bool). IsNoSecondKey b large body) second.may_be no_key in
      absurd (no_fault large Modified (record parts { size = large }) none.0 body second.form refl (on_larger parts body large second.form second.size is) none.1)

  data_is_taken : (conn : Session) (body : List ℕ) (parts : InboundParts) (step : HostStep) → MayBeSent conn (ToHost.Data parts) → IsInbound parts body → TakesData conn body step → step ≡ data_came parts conn.turn conn.pending conn
  data_is_taken conn body parts step (inl awaited) is takes = awaited_is_taken conn body parts step awaited is takes
  data_is_taken conn body parts step (inr second) is takes = second_is_taken conn body parts step second is takes

  -- no byte of it is replaced
  any_data_is_taken : (conn : Session) (body : List ℕ) (parts : InboundParts) (step : HostStep) → MayBeSent conn (ToHost.Data parts) → IsInbound parts body → TakesAnyData (is_other_key conn body) conn body step
      → step ≡ data_came parts conn.turn conn.pending conn
  any_data_is_taken conn body parts step awaited is takes =
      let plain = subst (λ (other : Bool). TakesAnyData other conn body step) (no_other_key conn parts body is) takes in
      plain.2 ∙ ap (λ (b : Bool). with_replaced b plain.0) (none_replaced conn parts body is)
      ∙ data_is_taken conn body parts plain.0 awaited is (subst (λ (b : List ℕ). TakesData conn b plain.0) (as_it_is conn parts body is) plain.1)

  data_taken : (conn : Session) (bytes body : List ℕ) (header : Header) (parts : InboundParts) (step : HostStep) → header.kind ≡ Data3270 → Begins bytes header body
      → MayBeSent conn (ToHost.Data parts) → IsInbound parts body → TakesRecord conn bytes step → step ≡ data_came parts conn.turn conn.pending conn
  data_taken conn bytes body header parts step kind begins awaited is (TakesRecord.no_header fault has e) = absurd (fault_or_header bytes fault header body has begins)
  data_taken conn bytes body header parts step kind begins awaited is (TakesRecord.dropped other rest begins' drops e) =
      let same = (one_header bytes other header rest body begins' begins).0 in
      absurd (subst IsOther (ap (λ (h : Header). h.kind) same ∙ kind) drops)
  data_taken conn bytes body header parts step kind begins awaited is (TakesRecord.data_is other rest begins' kind' takes) =
      any_data_is_taken conn body parts step awaited is (subst (λ (b : List ℕ). TakesAnyData (is_other_key conn b) conn b step) (one_header bytes other header rest body begins' begins).1 takes)
  data_taken conn bytes body header parts step kind begins awaited is (TakesRecord.answered other rest begins' kind' e) =
      let same = ap (λ (h : Header). h.kind) (one_header bytes other header rest body begins' begins).0 in
      let both : Response ≡ Data3270 = sym kind' ∙ same ∙ kind in
      absurd (cc)

  response_taken : (conn : Session) (bytes body : List ℕ) (header : Header) (verdict : Verdict) (step : HostStep) → header.kind ≡ Response → Begins bytes header body
      → verdict_of header.flag ≡ verdict → TakesRecord conn bytes step → step ≡ response_came header.seq verdict conn.pending conn
  response_taken conn bytes body header verdict step kind begins says_it (TakesRecord.no_header fault has e) = absurd (fault_or_header bytes fault header body has begins)
  response_taken conn bytes body header verdict step kind begins says_it (TakesRecord.dropped other rest begins' drops e) =
      let same = (one_header bytes other header rest body begins' begins).0 in
      absurd (subst IsOther (ap (λ (h : Header). h.kind) same ∙ kind) drops)
  response_taken conn bytes body header verdict step kind begins says_it (TakesRecord.data_is other rest begins' kind' takes) =
      let same = ap (λ (h : Header). h.kind) (one_header bytes other header rest body begins' begins).0 in
      let both : Data3270 ≡ Response = sym kind' ∙ same ∙ kind in
      absurd (cc)
  response_taken conn bytes body header verdict step kind begins says_it (TakesRecord.answered other rest begins' kind' e) =
      let same = (one_header bytes other header rest body begins' begins).0 in
      e ∙ ap (λ (h : Header). response_came h.seq (verdict_of h.flag) conn.pending conn) same
      ∙ ap (λ (v : Verdict). response_came header.seq v conn.pending conn) says_it

  -- before agreement a record is dropped, whatever it stands for
  taken_if : (agreed : Bool) (conn : Session) (bytes : List ℕ) (step wanted : HostStep) → (TakesRecord conn bytes step → step ≡ wanted) → TakesRecordIf agreed conn bytes step
      → step ≡ once_agreed agreed wanted conn
  taken_if true conn bytes step wanted is taken = is taken
  taken_if false conn bytes step wanted is taken = taken

  -- ---- any item

  pub host_reads : (answers : Answers) (conn : Session) (item : WireItem) (message : ToHost) (step : HostStep)
      → IsReadAs item message → MayBeSent conn message → TakesItem answers conn item step → step ≡ took answers conn message
  host_reads answers conn item (ToHost.TalksUp saying) step read may taken =
      takes_talk saying answers conn step may (subst (λ (i : WireItem). TakesItem answers conn i step) read taken)
  host_reads answers conn item (ToHost.Data parts) step read may taken =
      taken_if (is_agreed conn.talk.state) conn read.bytes step (data_came parts conn.turn conn.pending conn)
      (data_taken conn read.bytes read.body read.header parts step read.kind read.begins may read.inbound)
      (subst (λ (i : WireItem). TakesItem answers conn i step) read.is_record taken)
  host_reads answers conn item (ToHost.Response number verdict) step read may taken =
      taken_if (is_agreed conn.talk.state) conn read.bytes step (response_came number verdict conn.pending conn)
      (λ takes. response_taken conn read.bytes read.body read.header verdict step read.kind read.begins read.verdict_is takes
      ∙ ap (λ (n : ℕ). response_came n verdict conn.pending conn) read.number_is)
      (subst (λ (i : WireItem). TakesItem answers conn i step) read.is_record taken)

-- ---- our terminal's items

-- data begins with a header whatever its number: the number's two low bytes count
data_begins : (number : ℕ) (body : List ℕ) → Begins (spelling (data_header number) ++ body) (data_header (number % 65536)) body
data_begins number body =
    let high : number / 256 % 256 ≡ number % 65536 / 256 % 256 = omega arith in
    let low : number % 256 ≡ number % 65536 % 256 = omega arith in
    record {
      is_header = record { kind = tt; flag = omega arith };
      number = omega arith;
      encoded = ap (λ (b : ℕ). 0 ∷ 0 ∷ 0 ∷ b ∷ (number % 256) ∷ body) high ∙ ap (λ (b : ℕ). 0 ∷ 0 ∷ 0 ∷ (number % 65536 / 256 % 256) ∷ b ∷ body) low;
    }

flag_is : (outcome : Outcome) → outcome_flag outcome ≤ negative
flag_is DeviceEnd = omega arith
flag_is (Refused sense) = omega arith

response_begins : (number : ℕ) (outcome : Outcome) (body : List ℕ) → number < 2 ^ 16
    → Begins (spelling (response_header number outcome) ++ body) (response_header number outcome) body
response_begins number outcome body below = record { is_header = record { kind = tt; flag = flag_is outcome }; number = below; encoded = refl }

-- the flag says the verdict
verdict_is : (verdict : Verdict) (outcome : Outcome) → OutcomeIs verdict outcome → verdict_of (outcome_flag outcome) ≡ verdict
verdict_is Verdict.Positive outcome is = ap (λ (o : Outcome). verdict_of (outcome_flag o)) is
verdict_is Verdict.Negative DeviceEnd is = absurd (is refl)
verdict_is Verdict.Negative (Refused sense) is = refl

-- the host reads them as what they stand for
pub stands_read : (item : WireItem) (message : ToHost) → RepresentsUp item message → IsReadAs item message
stands_read item (ToHost.TalksUp saying) stands = stands
stands_read item (ToHost.Data parts) stands = record {
  bytes = spelling (data_header stands.0) ++ stands.1;
  header = data_header (stands.0 % 65536);
  body = stands.1;
  is_record = stands.2;
  begins = data_begins stands.0 stands.1;
  kind = refl;
  inbound = stands.3;
}
stands_read item (ToHost.Response number verdict) stands =
    let body : List ℕ = outcome_code stands.0 ∷ [] in
    record {
      bytes = spelling (response_header number stands.0) ++ body;
      header = response_header number stands.0;
      body = body;
      is_record = stands.1;
      begins = response_begins number stands.0 body stands.2;
      kind = refl;
      number_is = refl;
      verdict_is = verdict_is verdict stands.0 stands.3;
    }

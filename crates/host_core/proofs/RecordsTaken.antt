-- What a record makes of a connection, as the code takes it.
use Rattle.std.proofs.Common.{◌≡◌, ◌≢◌, ◌-◌, if◌then◌else◌, not, ◌&&◌, subst, ltb, ℕ, suc, Bool, true, false, List, length, take, drop, refl, ap, sym, ◌∙◌, Option, Some, None, Result, Ok, Err, arith}
use Rattle.std.proofs.lemmas.List.{take_all, length-drop}
use Rattle.codes3270.specs.Size.{ScreenSize}
use Rattle.datastream.specs.Escapes.{has_escapes, without_escapes}
use Rattle.datastream.specs.InboundText.{InboundParts, IsInbound, IsNoInbound}
use Rattle.datastream.specs.declared.inbound_part.Form.{Form}
use Rattle.datastream.specs.declared.inbound_part.Form.TheVariants.{Modified}
use Rattle.datastream.specs.declared.inbound_part.InboundFault.{InboundFault}
use Rattle.shadow.specs.Belief.{Shadow}
use Rattle.shadow.specs.declared.fault.HeardFault.{HeardFault}
use Rattle.tn3270e_msg.specs.declared.cause.Cause.TheVariants.{BadInbound, RuleBroken}
use Rattle.tn3270e_msg.specs.declared.header.DataType.{DataType}
use Rattle.tn3270e_msg.specs.declared.header.DataType.TheVariants.{Data3270, ScsData, Response, BindImage, Unbind, NvtData, Request, SscpLuData, Unnamed}
use Rattle.host_core.specs.declared.after_record.AfterRecord.{AfterRecord}
use Rattle.host_core.specs.declared.after_record.AfterRecord.TheVariants.{Breaks, Closes, Drops, GoesOn, Restores}
use Rattle.host_core.specs.declared.disbelief.Disbelief.{Disbelief}
use Rattle.host_core.specs.declared.disbelief.Disbelief.TheVariants.{Contradicts, Unreadable}
use Rattle.host_core.specs.Items.{IsNoSecondKey, IsOther, TakesAnyData, TakesData, is_other_key, is_replacing, may_be_second_key, plain_data, second_key_size, with_known_aid, with_replaced}
use Rattle.host_core.specs.Representation.{IsKept, IsPlainWrite, pending_in, step_of}
use Rattle.host_core.specs.Parts.{IsNoPaint, IsWrite}
use Rattle.host_core.specs.Session.{Session, Pending}
use Rattle.host_core.specs.Takes.{HostStep, believed, breaking, buffer_heard, closed_by, data_came, dropping, form_awaited, hears, is_read_believed, may_have_changed, most_restored, once_read, only_read, other_key_came, painted_over, quiet, restoring, second_key, sends_wrong, unbelieved}
use Rattle.host_core.specs.declared.turn_reason.TurnReason.{TurnReason}
use Rattle.host_core.specs.declared.pending.Pending.{Pending as PendingKind}
use Rattle.host_core.specs.declared.pending.Pending.TheVariants as unanswered

-- ---- the whole screen

-- what isn't believed is dropped, or closes the connection
never_quiet : (why : Disbelief) (old mid : Session) → quiet mid ≡ unbelieved why old → ⊥
never_quiet why old mid = by_tests (may_have_changed old.unheard) old.verifies (ltb old.restored most_restored)
  where
    by_tests : (changed verifies few : Bool) → quiet mid ≡ (if not changed then closed_by BadInbound old else if verifies then breaking sends_wrong old
        else if few then restoring why (painted_over old.turn old.pending (record old { restored = suc old.restored })) else closed_by BadInbound old) → ⊥
    by_tests false verifies few came = let closes : None ≡ Some BadInbound = ap (λ (step : HostStep). step.closes) came in cc
    by_tests true true few came = let closes : None ≡ Some RuleBroken = ap (λ (step : HostStep). step.closes) came in cc
    by_tests true false true came = let restores : None ≡ Some why = ap (λ (step : HostStep). step.restores) came in cc
    by_tests true false false came = let closes : None ≡ Some BadInbound = ap (λ (step : HostStep). step.closes) came in cc

-- where what came was believed, nothing waits for an answer then
ends : (heard : Result Shadow HeardFault) (turn_reason : TurnReason) (cursor : Option ℕ) (old mid : Session) → quiet mid ≡ believed turn_reason old.pending cursor old heard
    → quiet (record mid { pending = Pending.Nothing }) ≡ believed turn_reason Pending.Nothing cursor old heard
ends (Ok shadow) turn_reason cursor old mid came = ap (λ (step : HostStep). record step { conn = record step.conn { pending = Pending.Nothing } }) came
ends (Err fault) turn_reason cursor old mid came = absurd (never_quiet Contradicts old mid came)

goes_on : (mid conn : Session) (after : AfterRecord) → step_of mid after ≡ quiet conn → after ≡ GoesOn
goes_on mid conn GoesOn came = refl
goes_on mid conn (Closes cause) came = absurd (let closes : Some cause ≡ None = ap (λ (step : HostStep). step.closes) came in cc)
goes_on mid conn (Drops aid) came = absurd (let drops : (dropping aid mid).drops ≡ None = ap (λ (step : HostStep). step.drops) came in cc)
goes_on mid conn (Restores why) came = absurd (let restores : Some why ≡ None = ap (λ (step : HostStep). step.restores) came in cc)
goes_on mid conn (Breaks broken) came = absurd (let closes : Some RuleBroken ≡ None = ap (λ (step : HostStep). step.closes) came in cc)

-- where it wasn't, all is as it was
refuses : (heard : Result Shadow HeardFault) (turn_reason : TurnReason) (cursor : Option ℕ) (old mid : Session) (after : AfterRecord) → step_of mid after ≡ believed turn_reason old.pending cursor old heard
    → after ≢ GoesOn → step_of mid after ≡ believed turn_reason Pending.Nothing cursor old heard
refuses (Ok shadow) turn_reason cursor old mid after came stops = absurd (stops (goes_on mid _ after came))
refuses (Err fault) turn_reason cursor old mid after came stops = came

-- the answer to Read Buffer counts
heard_whole : (parts : InboundParts) (turn_reason : TurnReason) (old : Session) → is_read_believed old ≡ true → turn_reason ≡ once_read old.turn_reason
    → believed turn_reason Pending.Nothing parts.cursor old (hears parts old) ≡ buffer_heard parts old
heard_whole parts turn_reason old counts read =
    ap (λ (reason : TurnReason). believed reason Pending.Nothing parts.cursor old (hears parts old)) read
    ∙ sym (ap (λ (b : Bool). if b then believed (once_read old.turn_reason) Pending.Nothing parts.cursor old (hears parts old) else quiet (only_read old)) counts)

pub buffer_believed : (parts : InboundParts) (turn_reason : TurnReason) (old mid : Session) (after : AfterRecord) → is_read_believed old ≡ true → turn_reason ≡ once_read old.turn_reason
    → step_of mid after ≡ believed turn_reason old.pending parts.cursor old (hears parts old) → after ≡ GoesOn
    → step_of (record mid { pending = Pending.Nothing }) after ≡ buffer_heard parts old
buffer_believed parts turn_reason old mid after counts read came goes =
    ap (step_of (record mid { pending = Pending.Nothing })) goes
    ∙ ends (hears parts old) turn_reason parts.cursor old mid (ap (step_of mid) (sym goes) ∙ came)
    ∙ heard_whole parts turn_reason old counts read

pub buffer_refused : (parts : InboundParts) (turn_reason : TurnReason) (old mid : Session) (after : AfterRecord) → is_read_believed old ≡ true → turn_reason ≡ once_read old.turn_reason
    → step_of mid after ≡ believed turn_reason old.pending parts.cursor old (hears parts old) → after ≢ GoesOn
    → step_of mid after ≡ buffer_heard parts old
buffer_refused parts turn_reason old mid after counts read came stops =
    refuses (hears parts old) turn_reason parts.cursor old mid after came stops ∙ heard_whole parts turn_reason old counts read

-- ---- the write that waits for its answer

pub behind : (bytes : List ℕ) → take (length bytes - 5) (drop 5 bytes) ≡ drop 5 bytes
behind bytes = take_all (length bytes - 5) (drop 5 bytes) (omega (arith, length-drop 5 bytes))

-- its bytes are there
pub write_kept : (shape : ScreenSize) (pending : PendingKind) (sent : List ℕ) → IsKept shape pending sent → IsWrite (pending_in shape pending sent) → IsPlainWrite shape (drop 5 sent)
write_kept shape unanswered.Nothing sent kept is = absurd is
write_kept shape (unanswered.Writing number) sent kept is = kept
write_kept shape (unanswered.Reading number) sent kept is = absurd is
write_kept shape (unanswered.Noting number) sent kept is = kept

-- ---- a record

pub other_type : (kind : DataType) → kind ≢ Data3270 → kind ≢ Response → IsOther kind
other_type Data3270 no_data no_response = absurd (no_data refl)
other_type Response no_data no_response = absurd (no_response refl)
other_type ScsData no_data no_response = tt
other_type BindImage no_data no_response = tt
other_type Unbind no_data no_response = tt
other_type NvtData no_data no_response = tt
other_type Request no_data no_response = tt
other_type SscpLuData no_data no_response = tt
other_type (Unnamed code) no_data no_response = tt

pub of_data : (old new : Session) (after : AfterRecord) (body : List ℕ) (form : Form) (parts : InboundParts)
    → form ≡ form_awaited old.pending → parts.form ≡ form → parts.size ≡ old.size → IsInbound parts body
    → step_of new after ≡ data_came parts old.turn old.pending old → TakesData old body (step_of new after)
of_data old new after body form parts awaited read sized is came = TakesData.hears parts (read ∙ awaited) sized is came

pub of_second_key : (old new : Session) (after : AfterRecord) (body : List ℕ) (fault : InboundFault) (parts : InboundParts)
    → IsNoInbound old.size (form_awaited old.pending) fault body → may_be_second_key old ≡ true
    → parts.form ≡ Modified → parts.size ≡ second_key_size old old.pending → IsInbound parts body
    → step_of new after ≡ second_key parts parts.aid old.pending old → TakesData old body (step_of new after)
of_second_key old new after body fault parts wrong may form sized is came = TakesData.is_second_key fault parts wrong may form sized is came

-- unless a paint waits, a second key's data has the size of the screen
pub no_paint_sized : (old : Session) (shape : ScreenSize) → shape ≡ second_key_size old old.pending → IsNoPaint old.pending → shape ≡ old.size
no_paint_sized old shape is none = is ∙ by_pending old.pending none
  where
    by_pending : (pending : Pending) → IsNoPaint pending → second_key_size old pending ≡ old.size
    by_pending Pending.Nothing none = refl
    by_pending (Pending.Writing number command) none = absurd none
    by_pending (Pending.Reading number) none = refl
    by_pending (Pending.Noting number command) none = refl

no_second_key : (may : Bool) (shape : ScreenSize) (body : List ℕ) → may ≡ false → IsNoSecondKey may shape body
no_second_key true shape body is = absurd (cc)
no_second_key false shape body is = tt

still_no_key : (may : Bool) (shape : ScreenSize) (body : List ℕ) (fault : InboundFault) → IsNoInbound shape Modified fault body → IsNoSecondKey may shape body
still_no_key true shape body fault wrong = (fault, wrong)
still_no_key false shape body fault wrong = tt

pub of_no_key : (old new : Session) (after : AfterRecord) (body : List ℕ) (fault : InboundFault) → IsNoInbound old.size (form_awaited old.pending) fault body → may_be_second_key old ≡ false
    → step_of new after ≡ unbelieved Unreadable old → TakesData old body (step_of new after)
of_no_key old new after body fault wrong may came = TakesData.no_data fault wrong (no_second_key (may_be_second_key old) (second_key_size old old.pending) body may) came

pub of_no_data : (old new : Session) (after : AfterRecord) (body : List ℕ) (fault other : InboundFault) → IsNoInbound old.size (form_awaited old.pending) fault body
    → IsNoInbound (second_key_size old old.pending) Modified other body → step_of new after ≡ unbelieved Unreadable old → TakesData old body (step_of new after)
of_no_data old new after body fault other wrong no_key came =
    TakesData.no_data fault wrong (still_no_key (may_be_second_key old) (second_key_size old old.pending) body other no_key) came

-- ---- any client's data

pub of_any_data : (old new : Session) (after : AfterRecord) (body plain : List ℕ) (replaces : Bool) → is_other_key old body ≡ false → plain ≡ plain_data old body → replaces ≡ is_replacing old body
    → TakesData old plain (step_of new after) → TakesAnyData (is_other_key old body) old body (with_replaced replaces (step_of new after))
of_any_data old new after body plain replaces none is same takes =
    subst (λ (other : Bool). TakesAnyData other old body (with_replaced replaces (step_of new after))) (sym none)
    (step_of new after, subst (λ (bytes : List ℕ). TakesData old bytes (step_of new after)) is takes, ap (λ (b : Bool). with_replaced b (step_of new after)) same)

pub plain_then : (old : Session) (body plain : List ℕ) → may_have_changed old.unheard ≡ true → plain ≡ with_known_aid (without_escapes body) → plain ≡ plain_data old body
plain_then old body plain may is = is ∙ sym (ap (λ (b : Bool). if b then with_known_aid (without_escapes body) else body) may)

pub plain_else : (old : Session) (body : List ℕ) → may_have_changed old.unheard ≡ false → body ≡ plain_data old body
plain_else old body may = sym (ap (λ (b : Bool). if b then with_known_aid (without_escapes body) else body) may)

pub replacing_then : (old : Session) (body : List ℕ) (escapes : Bool) → may_have_changed old.unheard ≡ true → escapes ≡ has_escapes body → escapes ≡ is_replacing old body
replacing_then old body escapes may is = is ∙ sym (ap (λ (b : Bool). b && has_escapes body) may)

pub replacing_else : (old : Session) (body : List ℕ) → may_have_changed old.unheard ≡ false → false ≡ is_replacing old body
replacing_else old body may = sym (ap (λ (b : Bool). b && has_escapes body) may)

pub other_key_taken : (old new : Session) (after : AfterRecord) (body : List ℕ) → is_other_key old body ≡ true → step_of new after ≡ other_key_came old
    → TakesAnyData (is_other_key old body) old body (step_of new after)
other_key_taken old new after body other came = subst (λ (is : Bool). TakesAnyData is old body (step_of new after)) (sym other) came

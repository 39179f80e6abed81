-- What is done is what there is to do.
use Rattle.std.proofs.Common.{◌≡◌, ◌<◌, ◌+◌, ◌++◌, ◌∷◌, [], ℕ, Bool, true, false, List, Option, Some, None, refl, ap, sym, subst, ◌∙◌, Vec, if◌then◌else◌}
use Rattle.std.specs.Prelude.{Result, Ok, Err, OnOk, OnErr, is_err, vec_len}
use Rattle.std.specs.Option.{option_and_then, option_map_or}
use Rattle.std.specs.Vec.{vec_capacity}
use Rattle.std.specs.declared.alloc.Global.{Global}
use Rattle.panels.specs.Screen.{Values}
use Rattle.telnet_wire.specs.Items.{sent_bytes}
use Rattle.host_core.specs.Acts.{Decision as DecisionValue, Sent, acted, decided, decision_in, done}
use Rattle.host_core.specs.Application.{Application}
use Rattle.host_core.specs.Choices.{act_of, decision_of}
use Rattle.host_core.specs.Does.{Grow}
use Rattle.host_core.specs.Representation.{DoesOn, IsSentOn, WantsMemory}
use Rattle.host_core.specs.Questions.{is_ask, is_asking}
use Rattle.host_core.specs.Rooms.{command_room, note_room}
use Rattle.host_core.specs.declared.acted.Acted.{Acted}
use Rattle.host_core.specs.declared.acted.Acted.TheVariants.{Sent as IsSent, Memory as NoMemory}
use Rattle.host_core.specs.declared.acting.Decision.{Decision}
use Rattle.host_core.specs.declared.acting.Shown.{Shown}
use Rattle.host_core.specs.Notes.{may_note, noted, noted_as}
use Rattle.host_core.specs.Says.{item_sent}
use Rattle.host_core.specs.Session.{Session, is_agreed}

-- room was made before
pub sent_behind : (sent : Sent) (before roomy after : Vec ℕ Global) (new : Session) → roomy.items ≡ before.items → IsSentOn sent roomy after new → IsSentOn sent before after new
sent_behind sent before roomy after new same on = record {
  conn = on.conn;
  bytes = on.bytes ∙ ap (λ (bytes : List ℕ). bytes ++ sent_bytes (item_sent sent.message ∷ [])) same;
}

if_done : (may : Bool) (sent : Sent) (old new : Session) (before after : Vec ℕ Global) (answer : Acted) → may ≡ true → DoesOn (Some sent) old before answer new after
    → DoesOn (if may then Some sent else None) old before answer new after
if_done may sent old new before after answer is does = rw is does

pub notes : (text : List ℕ) (old new : Session) (before roomy after : Vec ℕ Global) → may_note old.turn old.pending (is_agreed old.talk.state) ≡ true
    → roomy.items ≡ before.items → IsSentOn (noted_as text old) roomy after new
    → DoesOn (noted text old) old before IsSent new after
notes text old new before roomy after may same on =
    if_done (may_note old.turn old.pending (is_agreed old.talk.state)) (noted_as text old) old new before after IsSent may (sent_behind (noted_as text old) before roomy after new same on)

-- ---- memory

at_err : {T E : Type 0} (result : Result T E) (P : Type 0) → is_err result ≡ true → OnErr result P → P
at_err (Ok value) P is holds = absurd (cc)
at_err (Err error) P is holds = holds

at_ok : {T E : Type 0} (result : Result T E) (P : Type 0) → is_err result ≡ false → OnOk result P → P
at_ok (Ok value) P is holds = holds
at_ok (Err error) P is holds = absurd (cc)

-- the room didn't do
pub shows_without_room : {T E : Type 0} (app : Application) (old : Session) (values : Values) (shown : Shown) (before after : Vec ℕ Global) (result : Result T E) → is_err result ≡ true
    → OnErr result (vec_capacity before < vec_len before + command_room) → after.items ≡ before.items → DoesOn (Some (done app old (act_of values shown))) old before NoMemory old after
shows_without_room app old values shown before after result is full same = (refl, same, WantsMemory.room (at_err result _ is full))

-- the value of some field had to grow
pub shows_without_values : {T E : Type 0} (app : Application) (old new : Session) (values : Values) (shown : Shown) (before after : Vec ℕ Global) (result : Result T E) → is_err result ≡ true
    → OnErr result (Grow old.values (done app old (act_of values shown)).conn.values) → OnErr result (new ≡ old) → after.items ≡ before.items → DoesOn (Some (done app old (act_of values shown))) old before NoMemory new after
shows_without_values app old new values shown before after result is grow stays same = (at_err result _ is stays, same, WantsMemory.values (at_err result _ is grow))

-- a panel is shown, once the values of fields are set
pub shows_once : {T E : Type 0} (app : Application) (old mid new : Session) (values : Values) (shown : Shown) (before roomy after : Vec ℕ Global) (result : Result T E) → is_err result ≡ false
    → OnOk result (mid ≡ record old { values = values }) → roomy.items ≡ before.items → IsSentOn (done app mid (act_of mid.values shown)) roomy after new
    → DoesOn (Some (done app old (act_of values shown))) old before IsSent new after
shows_once app old mid new values shown before roomy after result went set same on =
    sent_behind (done app old (act_of values shown)) before roomy after new same
    (subst (λ (c : Session). IsSentOn (done app c (act_of c.values shown)) roomy after new) (at_ok result _ went set) on)

-- ---- what is decided

-- what is decided is done
pub acts : (app : Application) (old new : Session) (before after : Vec ℕ Global) (answer : Acted) (result decision : Decision) → decision_of app old result ≡ decision_in app old → result ≡ decision
    → DoesOn (option_and_then (decided app old) (decision_of app old decision)) old before answer new after → DoesOn (acted app old) old before answer new after
acts app old new before after answer result decision is same does =
    subst (λ (d : Option DecisionValue). DoesOn (option_and_then (decided app old) d) old before answer new after) (sym (ap (decision_of app old) same) ∙ is) does

-- a question is open exactly if the application is asked
pub asking : (app : Application) (conn : Session) (result decision : Decision) → decision_of app conn result ≡ decision_in app conn → result ≡ decision
    → option_map_or is_ask (decision_of app conn decision) false ≡ is_asking app conn
asking app conn result decision is same = ap (λ (d : Option DecisionValue). option_map_or is_ask d false) (sym (ap (decision_of app conn) same) ∙ is)

pub notes_without_room : (text : List ℕ) (old : Session) (before after : Vec ℕ Global) → may_note old.turn old.pending (is_agreed old.talk.state) ≡ true
    → vec_capacity before < vec_len before + note_room → after.items ≡ before.items → DoesOn (noted text old) old before NoMemory old after
notes_without_room text old before after may short same =
    if_done (may_note old.turn old.pending (is_agreed old.talk.state)) (noted_as text old) old old before after NoMemory may (refl, same, WantsMemory.room short)

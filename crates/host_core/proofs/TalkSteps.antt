-- What an item makes of the talk, of the pool and of what is sent, as the code takes it.
use Rattle.std.proofs.Common.{◌≡◌, ◌==◌, ◌-◌, ℕ, Bool, true, false, List, [], ◌++◌, map, refl, ap, sym, ◌∙◌, subst, Option, Some, None, Result, Ok, Err, Vec, if◌then◌else◌, ◌⊎◌, inl, inr}
use Rattle.std.specs.Prelude.{◌↔◌, ⊤, IfNone}
use Rattle.std.specs.Borrow.{Bor}
use Rattle.std.proofs.lemmas.List.{append-nil}
use Rattle.std.specs.declared.alloc.Global.{Global}
use Rattle.lu_pool.specs.Asking.{answer_to}
use Rattle.lu_pool.specs.Holders.{granted_if}
use Rattle.lu_pool.specs.Pool.{Holds, HoldsNone}
use Rattle.lu_pool.specs.declared.entry.Entry.{Entry}
use Rattle.telnet_wire.specs.Items.{WireItem, Record, Opt, Sub, Other, item_of, sent_bytes}
use Rattle.telnet_wire.specs.declared.wire.Item.{Item}
use Rattle.telnet_wire.specs.declared.wire.Item.TheVariants as lent
use Rattle.tn3270e_msg.specs.Device.{device_of}
use Rattle.tn3270e_msg.specs.HostTable.{host_transition, named_transition, request_transition, answer_transition, granted, IsAsking, HostTakes, HostAnswered}
use Rattle.tn3270e_msg.specs.Lu.{lu_of}
use Rattle.tn3270e_msg.specs.Message.{Name, Connect, Associate}
use Rattle.tn3270e_msg.specs.Talk.{Talk, Comes, Hears, follow, sayings, items_sent, closing}
use Rattle.tn3270e_msg.specs.declared.cause.Cause.{Cause}
use Rattle.tn3270e_msg.specs.declared.cause.Cause.TheVariants.{TooMany}
use Rattle.tn3270e_msg.specs.declared.reply.After.TheVariants.{Close as CloseAfter, Going}
use Rattle.tn3270e_msg.specs.declared.device.Device.{Device}
use Rattle.tn3270e_msg.specs.declared.functions.FunctionsOffer.TheVariants.{ResponsesAlone, ResponsesAndMore, NoResponses}
use Rattle.tn3270e_msg.specs.declared.hearing.Transition.{Transition}
use Rattle.tn3270e_msg.specs.declared.hearing.Transition.TheVariants.{Stays, Goes, Refuses, Closes}
use Rattle.tn3270e_msg.specs.declared.host_talk.HostState.{HostState}
use Rattle.tn3270e_msg.specs.declared.host_talk.HostState.TheVariants as at
use Rattle.tn3270e_msg.specs.declared.reply.Reason.{Reason}
use Rattle.tn3270e_msg.specs.declared.reply.Reply.{Reply}
use Rattle.tn3270e_msg.specs.declared.reply.Reply.TheVariants as reply
use Rattle.tn3270e_msg.specs.declared.reply.OwnedMessage.TheVariants as sent
use Rattle.host_core.specs.Items.{TakesItem, TakesRecord, TakesRecordIf, Talks, with_replaced as step_replaced}
use Rattle.host_core.specs.Representation.{ItemTaken, step_of}
use Rattle.host_core.specs.declared.after_record.AfterRecord.{AfterRecord}
use Rattle.host_core.specs.declared.after_record.AfterRecord.TheVariants.{GoesOn, Closes, Drops, Breaks, Restores}
use Rattle.host_core.specs.Sound.{HoldsJust, OthersHold}
use Rattle.host_core.specs.Parts.{TalkTaken}
use Rattle.host_core.specs.Messages.{ToTerminal}
use Rattle.host_core.specs.Rejections.{lu_asked, rejection_by}
use Rattle.host_core.specs.Says.{item_sent}
use Rattle.host_core.specs.Session.{Session, agreed_lu, is_agreed}
use Rattle.shadow.specs.declared.rule_break.RuleBreak.{RuleBreak}
use Rattle.host_core.specs.declared.dropped_key.DroppedKey.{DroppedKey}
use Rattle.host_core.specs.Reports.{Reports, newly_bound, reported, with_bound, with_replaced, with_restored}
use Rattle.host_core.specs.Takes.{Answers, HostStep, asked, granted_by, quiet, replied, talked, talked_on, with_talk}

-- ---- the table

-- A line that goes to the pool leads to where its answer is awaited, and nothing is granted before; any other keeps what is granted.
abbrev GoesFrom : HostState → HostState → Reply → Type 0
GoesFrom state next (reply.AskPool name) = IsAsking next × (granted state ≡ None)
GoesFrom state next _ = granted next ≡ granted state

abbrev AsksNothing : Reply → Type 0
AsksNothing (reply.AskPool name) = ⊥
AsksNothing _ = ⊤

abbrev KeepsGrant : HostState → Transition HostState → Type 0
KeepsGrant state (Stays reply) = AsksNothing reply
KeepsGrant state (Goes next reply) = GoesFrom state next reply
KeepsGrant state (Refuses next sending) = granted next ≡ granted state
KeepsGrant state (Closes cause) = ⊤

named_keeps : (device : Device) (lu : Option (List ℕ)) → KeepsGrant at.Asked (named_transition device lu)
named_keeps device None = refl
named_keeps device (Some lu) = (tt, refl)

request_keeps : (device : Option Device) (name : Option Name) → KeepsGrant at.Asked (request_transition device name)
request_keeps None name = refl
request_keeps (Some device) None = (tt, refl)
request_keeps (Some device) (Some (Connect name)) = named_keeps device (lu_of name)
request_keeps (Some device) (Some (Associate name)) = refl

-- each line of the table
transition_keeps : (state : HostState) (comes : Comes) → KeepsGrant state (host_transition state comes)
transition_keeps at.Offered Comes.Will = refl
transition_keeps at.Offered Comes.Wont = tt
transition_keeps at.Offered Comes.Do = tt
transition_keeps at.Offered Comes.Dont = tt
transition_keeps at.Offered (Comes.OtherWill code) = tt
transition_keeps at.Offered (Comes.OtherDo code) = tt
transition_keeps at.Offered Comes.SendsType = tt
transition_keeps at.Offered (Comes.RequestsType kind name) = tt
transition_keeps at.Offered (Comes.IsType kind name) = tt
transition_keeps at.Offered (Comes.RejectsType reason) = tt
transition_keeps at.Offered (Comes.RequestsFunctions wants) = tt
transition_keeps at.Offered (Comes.IsFunctions wants) = tt
transition_keeps at.Offered Comes.BreaksForm = tt
transition_keeps at.Offered Comes.NoTalk = tt
transition_keeps at.Asked Comes.Will = tt
transition_keeps at.Asked Comes.Wont = tt
transition_keeps at.Asked Comes.Do = tt
transition_keeps at.Asked Comes.Dont = tt
transition_keeps at.Asked (Comes.OtherWill code) = tt
transition_keeps at.Asked (Comes.OtherDo code) = tt
transition_keeps at.Asked Comes.SendsType = tt
transition_keeps at.Asked (Comes.RequestsType kind name) = request_keeps (device_of kind) name
transition_keeps at.Asked (Comes.IsType kind name) = tt
transition_keeps at.Asked (Comes.RejectsType reason) = tt
transition_keeps at.Asked (Comes.RequestsFunctions wants) = tt
transition_keeps at.Asked (Comes.IsFunctions wants) = tt
transition_keeps at.Asked Comes.BreaksForm = tt
transition_keeps at.Asked Comes.NoTalk = tt
transition_keeps (at.Asking device) Comes.Will = tt
transition_keeps (at.Asking device) Comes.Wont = tt
transition_keeps (at.Asking device) Comes.Do = tt
transition_keeps (at.Asking device) Comes.Dont = tt
transition_keeps (at.Asking device) (Comes.OtherWill code) = tt
transition_keeps (at.Asking device) (Comes.OtherDo code) = tt
transition_keeps (at.Asking device) Comes.SendsType = tt
transition_keeps (at.Asking device) (Comes.RequestsType kind name) = tt
transition_keeps (at.Asking device) (Comes.IsType kind name) = tt
transition_keeps (at.Asking device) (Comes.RejectsType reason) = tt
transition_keeps (at.Asking device) (Comes.RequestsFunctions wants) = tt
transition_keeps (at.Asking device) (Comes.IsFunctions wants) = tt
transition_keeps (at.Asking device) Comes.BreaksForm = tt
transition_keeps (at.Asking device) Comes.NoTalk = tt
transition_keeps (at.Named device lu) Comes.Will = tt
transition_keeps (at.Named device lu) Comes.Wont = tt
transition_keeps (at.Named device lu) Comes.Do = tt
transition_keeps (at.Named device lu) Comes.Dont = tt
transition_keeps (at.Named device lu) (Comes.OtherWill code) = tt
transition_keeps (at.Named device lu) (Comes.OtherDo code) = tt
transition_keeps (at.Named device lu) Comes.SendsType = tt
transition_keeps (at.Named device lu) (Comes.RequestsType kind name) = tt
transition_keeps (at.Named device lu) (Comes.IsType kind name) = tt
transition_keeps (at.Named device lu) (Comes.RejectsType reason) = tt
transition_keeps (at.Named device lu) (Comes.RequestsFunctions ResponsesAlone) = refl
transition_keeps (at.Named device lu) (Comes.RequestsFunctions ResponsesAndMore) = refl
transition_keeps (at.Named device lu) (Comes.RequestsFunctions NoResponses) = tt
transition_keeps (at.Named device lu) (Comes.IsFunctions wants) = tt
transition_keeps (at.Named device lu) Comes.BreaksForm = tt
transition_keeps (at.Named device lu) Comes.NoTalk = tt
transition_keeps (at.Countered device lu) Comes.Will = tt
transition_keeps (at.Countered device lu) Comes.Wont = tt
transition_keeps (at.Countered device lu) Comes.Do = tt
transition_keeps (at.Countered device lu) Comes.Dont = tt
transition_keeps (at.Countered device lu) (Comes.OtherWill code) = tt
transition_keeps (at.Countered device lu) (Comes.OtherDo code) = tt
transition_keeps (at.Countered device lu) Comes.SendsType = tt
transition_keeps (at.Countered device lu) (Comes.RequestsType kind name) = tt
transition_keeps (at.Countered device lu) (Comes.IsType kind name) = tt
transition_keeps (at.Countered device lu) (Comes.RejectsType reason) = tt
transition_keeps (at.Countered device lu) (Comes.RequestsFunctions ResponsesAlone) = refl
transition_keeps (at.Countered device lu) (Comes.RequestsFunctions ResponsesAndMore) = refl
transition_keeps (at.Countered device lu) (Comes.RequestsFunctions NoResponses) = tt
transition_keeps (at.Countered device lu) (Comes.IsFunctions ResponsesAlone) = refl
transition_keeps (at.Countered device lu) (Comes.IsFunctions ResponsesAndMore) = tt
transition_keeps (at.Countered device lu) (Comes.IsFunctions NoResponses) = tt
transition_keeps (at.Countered device lu) Comes.BreaksForm = tt
transition_keeps (at.Countered device lu) Comes.NoTalk = tt
transition_keeps (at.Agreed device lu) Comes.Will = tt
transition_keeps (at.Agreed device lu) Comes.Wont = tt
transition_keeps (at.Agreed device lu) Comes.Do = tt
transition_keeps (at.Agreed device lu) Comes.Dont = tt
transition_keeps (at.Agreed device lu) (Comes.OtherWill code) = tt
transition_keeps (at.Agreed device lu) (Comes.OtherDo code) = tt
transition_keeps (at.Agreed device lu) Comes.SendsType = tt
transition_keeps (at.Agreed device lu) (Comes.RequestsType kind name) = tt
transition_keeps (at.Agreed device lu) (Comes.IsType kind name) = tt
transition_keeps (at.Agreed device lu) (Comes.RejectsType reason) = tt
transition_keeps (at.Agreed device lu) (Comes.RequestsFunctions wants) = tt
transition_keeps (at.Agreed device lu) (Comes.IsFunctions wants) = tt
transition_keeps (at.Agreed device lu) Comes.BreaksForm = tt
transition_keeps (at.Agreed device lu) Comes.NoTalk = tt
transition_keeps (at.Closed cause) comes = tt

-- what comes of a line: the pool is asked from where nothing is granted; else what is granted stays, unless the talk closes
abbrev AfterReply : HostState → HostState → Reply → Type 0
AfterReply state next (reply.AskPool name) = IsAsking next × (granted state ≡ None)
AfterReply state next answer = closing answer ≡ None → granted next ≡ granted state

stays_after : (state : HostState) (answer : Reply) → AsksNothing answer → AfterReply state state answer
stays_after state reply.Nothing asks = λ going. refl
stays_after state (reply.Opt verb code) asks = λ going. refl
stays_after state (reply.Sub sending after) asks = λ going. refl
stays_after state (reply.AskPool name) asks = absurd asks
stays_after state reply.Agreed asks = λ going. refl
stays_after state (reply.Refused reason) asks = λ going. refl
stays_after state (reply.Close cause) asks = λ going. refl

goes_after : (state next : HostState) (answer : Reply) → GoesFrom state next answer → AfterReply state next answer
goes_after state next reply.Nothing goes = λ going. goes
goes_after state next (reply.Opt verb code) goes = λ going. goes
goes_after state next (reply.Sub sending after) goes = λ going. goes
goes_after state next (reply.AskPool name) goes = goes
goes_after state next reply.Agreed goes = λ going. goes
goes_after state next (reply.Refused reason) goes = λ going. goes
goes_after state next (reply.Close cause) goes = λ going. goes

abbrev AfterTransition : HostState → Talk HostState × Reply → Type 0
AfterTransition state next = AfterReply state next.0.state next.1

followed : (old : Talk HostState) (transition : Transition HostState) → KeepsGrant old.state transition → AfterTransition old.state (follow at.Closed old transition)
followed old (Stays answer) keeps = stays_after old.state answer keeps
followed old (Goes next answer) keeps = goes_after old.state next answer keeps
followed old (Refuses next sending) keeps = by_test (old.refusals_left - 1 == 0)
  where
    by_test : (b : Bool) → AfterTransition old.state (if b
        then (record { state = at.Closed TooMany; refusals_left = 0 }, reply.Sub sending (CloseAfter TooMany))
        else (record { state = next; refusals_left = old.refusals_left - 1 }, reply.Sub sending Going))
    by_test true = λ going. absurd (cc)
    by_test false = λ going. keeps
followed old (Closes cause) keeps = λ going. absurd (cc)

taken_after : (old new : Talk HostState) (item : WireItem) (answer : Reply) → HostTakes old item answer new → AfterReply old.state new.state answer
taken_after old new item answer takes =
    subst (AfterTransition old.state) (sym takes.gives) (followed old (host_transition old.state takes.comes) (transition_keeps old.state takes.comes))

pub awaits_answer : (old new : Talk HostState) (item : WireItem) (name : Option (List ℕ)) → HostTakes old item (reply.AskPool name) new → IsAsking new.state
awaits_answer old new item name takes = (taken_after old new item (reply.AskPool name) takes).0

pub asks_with_none : (old new : Talk HostState) (item : WireItem) (name : Option (List ℕ)) → HostTakes old item (reply.AskPool name) new → granted old.state ≡ None
asks_with_none old new item name takes = (taken_after old new item (reply.AskPool name) takes).1

asks_no_more : (state next : HostState) (answer : Reply) → ((name : Option (List ℕ)) → answer ≡ reply.AskPool name → ⊥) → AfterReply state next answer
    → closing answer ≡ None → granted next ≡ granted state
asks_no_more state next reply.Nothing other after = after
asks_no_more state next (reply.Opt verb code) other after = after
asks_no_more state next (reply.Sub sending how) other after = after
asks_no_more state next (reply.AskPool name) other after = absurd (other name refl)
asks_no_more state next reply.Agreed other after = after
asks_no_more state next (reply.Refused reason) other after = after
asks_no_more state next (reply.Close cause) other after = after

pub keeps_granted : (old new : Talk HostState) (item : WireItem) (answer : Reply) → ((name : Option (List ℕ)) → answer ≡ reply.AskPool name → ⊥) → HostTakes old item answer new
    → closing answer ≡ None → granted new.state ≡ granted old.state
keeps_granted old new item answer other takes = asks_no_more old.state new.state answer other (taken_after old new item answer takes)

-- ---- the pool

-- what holds of a pool that gave what was asked for
pub just_granted : (number : ℕ) (old new : List Entry) (answer : Result (List ℕ) Reason) → HoldsNone old number
    → ((other : ℕ) (lu : List ℕ) → Holds new other lu ↔ (Holds old other lu ⊎ ((other ≡ number) × (answer ≡ Ok lu))))
    → HoldsJust number new (granted_by answer)
just_granted number old new (Ok given) none held = λ lu. (
  λ holds. elim ((held number lu).0 holds) [ inl before ↦ absurd (none lu before) | inr now ↦ let same = now.1 in cc ],
  λ is. (held number lu).1 (inr (refl, cc)),
)
just_granted number old new (Err reason) none held = λ lu. (
  λ holds. elim ((held number lu).0 holds) [ inl before ↦ absurd (none lu before) | inr now ↦ absurd (let refused = now.1 in cc) ],
  λ is. absurd (cc),
)

pub others_hold : (number : ℕ) (old new : List Entry) (answer : Result (List ℕ) Reason)
    → ((other : ℕ) (lu : List ℕ) → Holds new other lu ↔ (Holds old other lu ⊎ ((other ≡ number) × (answer ≡ Ok lu))))
    → OthersHold number old new
others_hold number old new answer held = λ other lu differs. (
  λ holds. elim ((held other lu).0 holds) [ inl before ↦ before | inr now ↦ absurd (differs now.0) ],
  λ holds. (held other lu).1 (inl holds),
)

pub none_held : (number : ℕ) (pool : List Entry) (held : Option (List ℕ)) → HoldsJust number pool held → held ≡ None → HoldsNone pool number
none_held number pool held just none = λ lu holds. absurd (let some = (just lu).0 holds in cc)

-- ---- the talk

sends_down : (answer : Reply) → items_sent answer ≡ map item_sent (map ToTerminal.TalksDown (sayings answer))
sends_down reply.Nothing = refl
sends_down (reply.Opt verb code) = refl
sends_down (reply.Sub sending after) = refl
sends_down (reply.AskPool name) = refl
sends_down reply.Agreed = refl
sends_down (reply.Refused reason) = refl
sends_down (reply.Close cause) = refl

sent_down : (answer : Reply) (before after : List ℕ) → after ≡ before ++ sent_bytes (items_sent answer) → after ≡ before ++ sent_bytes (map item_sent (map ToTerminal.TalksDown (sayings answer)))
sent_down answer before after sent = sent ∙ ap (λ (items : List WireItem). before ++ sent_bytes items) (sends_down answer)

-- the rejection of what came is kept, if the reply to it is one
abbrev pub KeepsRejection : WireItem → Reply → Reports → Reports → Type 0
KeepsRejection item answer kept keeps = (comes : Comes) → Hears item comes → keeps ≡ reported (rejection_by (lu_asked comes) answer) None None kept

-- the talk replied by itself
talked_by : (pool : Answers) (conn : Session) (lu : Option (List ℕ)) (new : Talk HostState) (answer : Reply) → ((name : Option (List ℕ)) → answer ≡ reply.AskPool name → ⊥)
    → talked_on pool conn lu new answer ≡ replied conn lu None (new, answer)
talked_by pool conn lu new reply.Nothing other = refl
talked_by pool conn lu new (reply.Opt verb code) other = refl
talked_by pool conn lu new (reply.Sub sending after) other = refl
talked_by pool conn lu new (reply.AskPool name) other = absurd (other name refl)
talked_by pool conn lu new reply.Agreed other = refl
talked_by pool conn lu new (reply.Refused reason) other = refl
talked_by pool conn lu new (reply.Close cause) other = refl

-- what it made of what came
comes_to : (pool : Answers) (conn : Session) (old new : Talk HostState) (item : WireItem) (answer : Reply) (takes : HostTakes old item answer new) → conn.talk ≡ old
    → talked_on pool conn (lu_asked takes.comes) new answer ≡ talked pool conn conn.talk takes.comes
comes_to pool conn old new item answer takes is =
    ap (λ (next : Talk HostState × Reply). talked_on pool conn (lu_asked takes.comes) next.0 next.1) takes.gives ∙ ap (λ (talk : Talk HostState). talked pool conn talk takes.comes) (sym is)

with_closes : (step : HostStep) (closes : Option Cause) → closes ≡ step.closes → record step { closes = closes } ≡ step
with_closes step closes is = ap (λ (c : Option Cause). record step { closes = c }) is

pub replies : (number : ℕ) (pool : List Entry) (old new : Talk HostState) (item : WireItem) (answer : Reply) (before after : Vec ℕ Global) (closes : Option Cause)
    → ((name : Option (List ℕ)) → answer ≡ reply.AskPool name → ⊥) → HostTakes old item answer new → closes ≡ closing answer
    → after.items ≡ before.items ++ sent_bytes (items_sent answer) → (kept keeps : Reports) → KeepsRejection item answer kept keeps
    → TalkTaken number pool old item before after closes pool new kept keeps
replies number pool old new item answer before after closes other takes ends sent kept keeps rejection = record {
  sends = map ToTerminal.TalksDown (sayings answer);
  grants = None;
  rejects = rejection_by (lu_asked takes.comes) answer;
  talks = λ conn is. (
    takes.comes,
    takes.hears,
    with_closes (replied conn (lu_asked takes.comes) None (new, answer)) closes ends ∙ sym (talked_by (answer_to pool) conn (lu_asked takes.comes) new answer other) ∙ comes_to (answer_to pool) conn old new item answer takes is,
  );
  pool_is = refl;
  sent = sent_down answer before.items after.items sent;
  reports = rejection takes.comes takes.hears;
}

-- the pool was asked, and the talk replied by its answer
answered_by : (pool : Answers) (conn : Session) (lu : Option (List ℕ)) (mid new : Talk HostState) (name : Option (List ℕ)) (answer : Result (List ℕ) Reason) (said : Reply) → HostAnswered mid answer said new → answer ≡ pool name
    → replied conn lu (granted_by answer) (new, said) ≡ talked_on pool conn lu mid (reply.AskPool name)
answered_by pool conn lu mid new name answer said answered is =
    ap (λ (next : Talk HostState × Reply). replied conn lu (granted_by answer) next) answered.gives
    ∙ ap (λ (state : HostState). asked conn lu mid answer state) (sym answered.asking)
    ∙ ap (λ (given : Result (List ℕ) Reason). asked conn lu mid given mid.state) is

pub replies_by_pool : (number : ℕ) (pool left : List Entry) (old mid new : Talk HostState) (item : WireItem) (name : Option (List ℕ)) (answer : Result (List ℕ) Reason) (said : Reply)
    (before after : Vec ℕ Global) (closes : Option Cause) → HostTakes old item (reply.AskPool name) mid → answer ≡ answer_to pool name → HostAnswered mid answer said new
    → left ≡ granted_if number (granted_by answer) pool → closes ≡ closing said → after.items ≡ before.items ++ sent_bytes (items_sent said)
    → (kept keeps : Reports) → KeepsRejection item said kept keeps → TalkTaken number pool old item before after closes left new kept keeps
replies_by_pool number pool left old mid new item name answer said before after closes takes is answered granting ends sent kept keeps rejection = record {
  sends = map ToTerminal.TalksDown (sayings said);
  grants = granted_by answer;
  rejects = rejection_by (lu_asked takes.comes) said;
  talks = λ conn same. (
    takes.comes,
    takes.hears,
    with_closes (replied conn (lu_asked takes.comes) (granted_by answer) (new, said)) closes ends ∙ answered_by (answer_to pool) conn (lu_asked takes.comes) mid new name answer said answered is
        ∙ comes_to (answer_to pool) conn old mid item (reply.AskPool name) takes same,
  );
  pool_is = granting;
  sent = sent_down said before.items after.items sent;
  reports = rejection takes.comes takes.hears;
}

-- what is granted by the answer
abbrev granted_after : Talk HostState × Reply → Option (List ℕ)
granted_after next = granted next.0.state

granted_then : (device : Device) (mid : Talk HostState) (answer : Result (List ℕ) Reason) → granted_after (follow at.Closed mid (answer_transition device answer)) ≡ granted_by answer
granted_then device mid (Ok lu) = refl
granted_then device mid (Err reason) = by_test (mid.refusals_left - 1 == 0)
  where
    by_test : (b : Bool) → granted_after (if b
        then (record { state = at.Closed TooMany; refusals_left = 0 }, reply.Sub (sent.TypeReject reason) (CloseAfter TooMany))
        else (record { state = at.Asked; refusals_left = mid.refusals_left - 1 }, reply.Sub (sent.TypeReject reason) Going)) ≡ None
    by_test true = refl
    by_test false = refl

pub granted_by_pool : (number : ℕ) (left : List Entry) (mid new : Talk HostState) (answer : Result (List ℕ) Reason) (said : Reply) → HostAnswered mid answer said new
    → HoldsJust number left (granted_by answer) → HoldsJust number left (granted new.state)
granted_by_pool number left mid new answer said answered just =
    subst (HoldsJust number left)
    (sym (ap granted_after answered.gives ∙ granted_then answered.device mid answer)) just

unless_closed : (number : ℕ) (pool : List Entry) (closes : Option Cause) (held : Option (List ℕ)) → (closes ≡ None → HoldsJust number pool held) → IfNone closes (HoldsJust number pool held)
unless_closed number pool None held just = just refl
unless_closed number pool (Some cause) held just = tt

pub holds_unless_closed : (number : ℕ) (pool : List Entry) (old new : Talk HostState) (item : WireItem) (answer : Reply) (closes : Option Cause)
    → ((name : Option (List ℕ)) → answer ≡ reply.AskPool name → ⊥) → HostTakes old item answer new → closes ≡ closing answer → HoldsJust number pool (granted old.state)
    → IfNone closes (HoldsJust number pool (granted new.state))
holds_unless_closed number pool old new item answer closes other takes ends just =
    unless_closed number pool closes (granted new.state)
    (λ going. subst (HoldsJust number pool) (sym (keeps_granted old new item answer other takes (sym ends ∙ going))) just)

pub unless_closed_then : (number : ℕ) (pool : List Entry) (closes : Option Cause) (held : Option (List ℕ)) → HoldsJust number pool held → IfNone closes (HoldsJust number pool held)
unless_closed_then number pool closes held just = unless_closed number pool closes held (λ going. just)

-- ---- an item

pub same_others : (number : ℕ) (pool : List Entry) → OthersHold number pool pool
same_others number pool = λ other lu differs. (λ holds. holds, λ holds. holds)

pub not_record : (item : Item) → ((bytes : Bor (List ℕ)) → item ≡ lent.Record bytes → ⊥) → (bytes : List ℕ) → item_of item ≡ Record bytes → ⊥
not_record (lent.Record lain) other bytes e = other lain refl
not_record (lent.Opt verb code) other bytes e = cc
not_record (lent.Sub lain) other bytes e = cc
not_record (lent.Other code) other bytes e = cc

for_talk : (pool : Answers) (conn : Session) (item : WireItem) (step : HostStep) → ((bytes : List ℕ) → item ≡ Record bytes → ⊥) → Talks pool conn item step → TakesItem pool conn item step
for_talk pool conn (Record bytes) step other talks = absurd (other bytes refl)
for_talk pool conn (Opt verb code) step other talks = talks
for_talk pool conn (Sub bytes) step other talks = talks
for_talk pool conn (Other code) step other talks = talks

-- a terminal that was bound before isn't bound anew
not_anew : (state : HostState) (after : Option (List ℕ)) → is_agreed state ≡ true → newly_bound (agreed_lu state) after ≡ None
not_anew (at.Agreed device lu) after agreed = refl
not_anew at.Offered after agreed = cc
not_anew at.Asked after agreed = cc
not_anew (at.Asking device) after agreed = cc
not_anew (at.Named device lu) after agreed = cc
not_anew (at.Countered device lu) after agreed = cc
not_anew (at.Closed cause) after agreed = cc

not_by_nothing : (lu : Option (List ℕ)) → newly_bound lu lu ≡ None
not_by_nothing None = refl
not_by_nothing (Some lu) = refl

-- all but a record is for the talk
pub talk_taken : (number : ℕ) (pool left : List Entry) (before old new : Session) (talk : Talk HostState) (item : WireItem) (said out : Vec ℕ Global) (closes : Option Cause)
    → ((bytes : List ℕ) → item ≡ Record bytes → ⊥) → before ≡ old → (kept mid keeps : Reports) → TalkTaken number pool before.talk item said out closes left talk kept mid → new ≡ with_talk before talk
    → (was now : Option (List ℕ)) → was ≡ agreed_lu old.talk.state → now ≡ agreed_lu new.talk.state → keeps ≡ with_bound (newly_bound was now) mid
    → ItemTaken number pool old item said out closes left new kept keeps
talk_taken number pool left before old new talk item said out closes other same kept mid keeps taken is was now was_is now_is bound =
    subst (λ (from : Session). ItemTaken number pool from item said out closes left new kept keeps) same
    (record {
      step = record { conn = with_talk before talk; sends = taken.sends; grants = taken.grants; rejects = taken.rejects; drops = None; breaks = None; replaces = false; restores = None; closes = closes };
      takes = for_talk (answer_to pool) before item _ other (taken.talks before refl);
      conn = is;
      ends = refl;
      pool_is = taken.pool_is;
      sent = taken.sent;
      reports = bound ∙ ap (λ lu. with_bound (newly_bound lu now) mid) (was_is ∙ ap (λ (conn : Session). agreed_lu conn.talk.state) (sym same))
          ∙ ap (λ lu. with_bound (newly_bound (agreed_lu before.talk.state) lu) mid) (now_is ∙ ap (λ (conn : Session). agreed_lu conn.talk.state) is)
          ∙ ap (with_bound (newly_bound (agreed_lu before.talk.state) (agreed_lu talk.state))) taken.reports;
    })

if_agreed : (state : HostState) (bytes : List ℕ) (old : Session) (step : HostStep) → is_agreed state ≡ true → TakesRecord old bytes step → TakesRecordIf (is_agreed state) old bytes step
if_agreed state bytes old step agreed takes = rw agreed takes

before_agreement : (state : HostState) (bytes : List ℕ) (old : Session) → is_agreed state ≡ false → TakesRecordIf (is_agreed state) old bytes (quiet old)
before_agreement state bytes old other = rw other refl

of_record : (pool : Answers) (conn : Session) (item : WireItem) (bytes : List ℕ) (step : HostStep) → item ≡ Record bytes → TakesRecordIf (is_agreed conn.talk.state) conn bytes step → TakesItem pool conn item step
of_record pool conn item bytes step is takes = rw is takes

none_sent : (bytes : List ℕ) → bytes ≡ bytes ++ sent_bytes []
none_sent bytes = sym (append-nil bytes)

-- that characters were replaced is an event of its own
apart : (replaces : Bool) (drops : Option DroppedKey) (breaks : Option RuleBreak) (kept : Reports) → reported None drops breaks (with_replaced replaces kept) ≡ with_replaced replaces (reported None drops breaks kept)
apart true drops breaks kept = refl
apart false drops breaks kept = refl

-- a record that is taken
pub record_taken : (number : ℕ) (pool : List Entry) (old new : Session) (item : WireItem) (bytes : List ℕ) (out : Vec ℕ Global) (after : AfterRecord) (replaces : Bool) (closes : Option Cause) (kept mid keeps : Reports)
    → item ≡ Record bytes → is_agreed old.talk.state ≡ true → TakesRecord old bytes (step_replaced replaces (step_of new after)) → closes ≡ (step_of new after).closes
    → mid ≡ with_replaced replaces kept
    → keeps ≡ with_restored (step_of new after).restores (reported None (step_of new after).drops (step_of new after).breaks mid)
    → ItemTaken number pool old item out out closes pool new kept keeps
record_taken number pool old new item bytes out GoesOn true closes kept mid keeps is agreed takes ends replaced reports = record {
  step = step_replaced true (step_of new GoesOn);
  takes = of_record (answer_to pool) old item bytes (step_replaced true (step_of new GoesOn)) is (if_agreed old.talk.state bytes old (step_replaced true (step_of new GoesOn)) agreed takes);
  conn = refl;
  ends = ends;
  pool_is = refl;
  sent = none_sent out.items;
  reports = reports ∙ ap (λ (r : Reports). with_restored None (reported None None None r)) replaced ∙ ap (with_restored None) (apart true None None kept)
      ∙ ap (λ lu. with_bound lu (with_restored None (with_replaced true (reported None None None kept)))) (sym (not_anew old.talk.state (agreed_lu new.talk.state) agreed));
}
record_taken number pool old new item bytes out (Closes cause) true closes kept mid keeps is agreed takes ends replaced reports = record {
  step = step_replaced true (step_of new (Closes cause));
  takes = of_record (answer_to pool) old item bytes (step_replaced true (step_of new (Closes cause))) is (if_agreed old.talk.state bytes old (step_replaced true (step_of new (Closes cause))) agreed takes);
  conn = refl;
  ends = ends;
  pool_is = refl;
  sent = none_sent out.items;
  reports = reports ∙ ap (λ (r : Reports). with_restored None (reported None None None r)) replaced ∙ ap (with_restored None) (apart true None None kept)
      ∙ ap (λ lu. with_bound lu (with_restored None (with_replaced true (reported None None None kept)))) (sym (not_anew old.talk.state (agreed_lu new.talk.state) agreed));
}
record_taken number pool old new item bytes out (Drops aid) true closes kept mid keeps is agreed takes ends replaced reports = record {
  step = step_replaced true (step_of new (Drops aid));
  takes = of_record (answer_to pool) old item bytes (step_replaced true (step_of new (Drops aid))) is (if_agreed old.talk.state bytes old (step_replaced true (step_of new (Drops aid))) agreed takes);
  conn = refl;
  ends = ends;
  pool_is = refl;
  sent = none_sent out.items;
  reports = reports ∙ ap (λ (r : Reports). with_restored None (reported None (Some (record { aid = aid })) None r)) replaced ∙ ap (with_restored None) (apart true (Some (record { aid = aid })) None kept)
      ∙ ap (λ lu. with_bound lu (with_restored None (with_replaced true (reported None (Some (record { aid = aid })) None kept)))) (sym (not_anew old.talk.state (agreed_lu new.talk.state) agreed));
}
record_taken number pool old new item bytes out (Breaks broken) true closes kept mid keeps is agreed takes ends replaced reports = record {
  step = step_replaced true (step_of new (Breaks broken));
  takes = of_record (answer_to pool) old item bytes (step_replaced true (step_of new (Breaks broken))) is (if_agreed old.talk.state bytes old (step_replaced true (step_of new (Breaks broken))) agreed takes);
  conn = refl;
  ends = ends;
  pool_is = refl;
  sent = none_sent out.items;
  reports = reports ∙ ap (λ (r : Reports). with_restored None (reported None None (Some broken) r)) replaced ∙ ap (with_restored None) (apart true None (Some broken) kept)
      ∙ ap (λ lu. with_bound lu (with_restored None (with_replaced true (reported None None (Some broken) kept)))) (sym (not_anew old.talk.state (agreed_lu new.talk.state) agreed));
}
record_taken number pool old new item bytes out (Restores why) true closes kept mid keeps is agreed takes ends replaced reports = record {
  step = step_replaced true (step_of new (Restores why));
  takes = of_record (answer_to pool) old item bytes (step_replaced true (step_of new (Restores why))) is (if_agreed old.talk.state bytes old (step_replaced true (step_of new (Restores why))) agreed takes);
  conn = refl;
  ends = ends;
  pool_is = refl;
  sent = none_sent out.items;
  reports = reports ∙ ap (λ (r : Reports). with_restored (Some why) (reported None None None r)) replaced ∙ ap (with_restored (Some why)) (apart true None None kept)
      ∙ ap (λ lu. with_bound lu (with_restored (Some why) (with_replaced true (reported None None None kept)))) (sym (not_anew old.talk.state (agreed_lu new.talk.state) agreed));
}
record_taken number pool old new item bytes out GoesOn false closes kept mid keeps is agreed takes ends replaced reports = record {
  step = step_replaced false (step_of new GoesOn);
  takes = of_record (answer_to pool) old item bytes (step_replaced false (step_of new GoesOn)) is (if_agreed old.talk.state bytes old (step_replaced false (step_of new GoesOn)) agreed takes);
  conn = refl;
  ends = ends;
  pool_is = refl;
  sent = none_sent out.items;
  reports = reports ∙ ap (λ (r : Reports). with_restored None (reported None None None r)) replaced ∙ ap (with_restored None) (apart false None None kept)
      ∙ ap (λ lu. with_bound lu (with_restored None (with_replaced false (reported None None None kept)))) (sym (not_anew old.talk.state (agreed_lu new.talk.state) agreed));
}
record_taken number pool old new item bytes out (Closes cause) false closes kept mid keeps is agreed takes ends replaced reports = record {
  step = step_replaced false (step_of new (Closes cause));
  takes = of_record (answer_to pool) old item bytes (step_replaced false (step_of new (Closes cause))) is (if_agreed old.talk.state bytes old (step_replaced false (step_of new (Closes cause))) agreed takes);
  conn = refl;
  ends = ends;
  pool_is = refl;
  sent = none_sent out.items;
  reports = reports ∙ ap (λ (r : Reports). with_restored None (reported None None None r)) replaced ∙ ap (with_restored None) (apart false None None kept)
      ∙ ap (λ lu. with_bound lu (with_restored None (with_replaced false (reported None None None kept)))) (sym (not_anew old.talk.state (agreed_lu new.talk.state) agreed));
}
record_taken number pool old new item bytes out (Drops aid) false closes kept mid keeps is agreed takes ends replaced reports = record {
  step = step_replaced false (step_of new (Drops aid));
  takes = of_record (answer_to pool) old item bytes (step_replaced false (step_of new (Drops aid))) is (if_agreed old.talk.state bytes old (step_replaced false (step_of new (Drops aid))) agreed takes);
  conn = refl;
  ends = ends;
  pool_is = refl;
  sent = none_sent out.items;
  reports = reports ∙ ap (λ (r : Reports). with_restored None (reported None (Some (record { aid = aid })) None r)) replaced ∙ ap (with_restored None) (apart false (Some (record { aid = aid })) None kept)
      ∙ ap (λ lu. with_bound lu (with_restored None (with_replaced false (reported None (Some (record { aid = aid })) None kept)))) (sym (not_anew old.talk.state (agreed_lu new.talk.state) agreed));
}
record_taken number pool old new item bytes out (Breaks broken) false closes kept mid keeps is agreed takes ends replaced reports = record {
  step = step_replaced false (step_of new (Breaks broken));
  takes = of_record (answer_to pool) old item bytes (step_replaced false (step_of new (Breaks broken))) is (if_agreed old.talk.state bytes old (step_replaced false (step_of new (Breaks broken))) agreed takes);
  conn = refl;
  ends = ends;
  pool_is = refl;
  sent = none_sent out.items;
  reports = reports ∙ ap (λ (r : Reports). with_restored None (reported None None (Some broken) r)) replaced ∙ ap (with_restored None) (apart false None (Some broken) kept)
      ∙ ap (λ lu. with_bound lu (with_restored None (with_replaced false (reported None None (Some broken) kept)))) (sym (not_anew old.talk.state (agreed_lu new.talk.state) agreed));
}
record_taken number pool old new item bytes out (Restores why) false closes kept mid keeps is agreed takes ends replaced reports = record {
  step = step_replaced false (step_of new (Restores why));
  takes = of_record (answer_to pool) old item bytes (step_replaced false (step_of new (Restores why))) is (if_agreed old.talk.state bytes old (step_replaced false (step_of new (Restores why))) agreed takes);
  conn = refl;
  ends = ends;
  pool_is = refl;
  sent = none_sent out.items;
  reports = reports ∙ ap (λ (r : Reports). with_restored (Some why) (reported None None None r)) replaced ∙ ap (with_restored (Some why)) (apart false None None kept)
      ∙ ap (λ lu. with_bound lu (with_restored (Some why) (with_replaced false (reported None None None kept)))) (sym (not_anew old.talk.state (agreed_lu new.talk.state) agreed));
}

-- one that is dropped
pub record_dropped : (number : ℕ) (pool : List Entry) (old : Session) (item : WireItem) (bytes : List ℕ) (out : Vec ℕ Global) (kept : Reports)
    → item ≡ Record bytes → is_agreed old.talk.state ≡ false → ItemTaken number pool old item out out None pool old kept kept
record_dropped number pool old item bytes out kept is other = record {
  step = quiet old;
  takes = of_record (answer_to pool) old item bytes (quiet old) is (before_agreement old.talk.state bytes old other);
  conn = refl;
  ends = refl;
  pool_is = refl;
  sent = none_sent out.items;
  reports = ap (λ lu. with_bound lu kept) (sym (not_by_nothing (agreed_lu old.talk.state)));
}

pub same_talk : (number : ℕ) (pool : List Entry) (old new : Session) → new.talk ≡ old.talk → HoldsJust number pool (granted old.talk.state) → HoldsJust number pool (granted new.talk.state)
same_talk number pool old new same just = subst (λ (talk : Talk HostState). HoldsJust number pool (granted talk.state)) (sym same) just

-- What an event leaves as it is.
use Rattle.std.proofs.Common.{◌≡◌, ◌↔◌, ◌==◌, ℕ, Bool, true, false, Option, None, Some, Result, Ok, Err, List, [], ◌∷◌, refl, ap, sym, subst, ◌∙◌, if◌then◌else◌, not, ltb, suc}
use Rattle.codes3270.specs.declared.size.Model.{Model}
use Rattle.std.proofs.lemmas.Bool.{and_parts}
use Rattle.std.proofs.lemmas.Slice.Eq.{bytes_eq-Decides}
use Rattle.std.specs.Str.{bytes_eq}
use Rattle.codes3270.specs.declared.attention.Aid.{Aid}
use Rattle.codes3270.specs.declared.attention.Aid.TheVariants.{NoAid, Enter, Clear, Pf, Pa}
use Rattle.datastream.specs.Grammar.{CommandParts}
use Rattle.datastream.specs.InboundText.{InboundParts}
use Rattle.datastream.specs.declared.inbound_part.Form.{Form}
use Rattle.datastream.specs.declared.inbound_part.Form.TheVariants.{Modified, All as AllModified, Buffer}
use Rattle.keyboard.specs.declared.key.Key.{Key}
use Rattle.lu_pool.specs.Asking.{answer_to}
use Rattle.lu_pool.specs.HolderLaws.{IsSound, freed_for}
use Rattle.lu_pool.specs.Holders.{holder, granted_to, granted_if, given_back}
use Rattle.lu_pool.specs.declared.entry.Entry.{Entry}
use Rattle.shadow.specs.Belief.{Shadow}
use Rattle.shadow.specs.Exactness.{is_erase}
use Rattle.shadow.specs.declared.fault.HeardFault.{HeardFault}
use Rattle.tn3270e_msg.specs.HostTable.{host_transition}
use Rattle.tn3270e_msg.specs.Talk.{Talk, follow, says}
use Rattle.tn3270e_msg.specs.declared.cause.Cause.{Cause}
use Rattle.tn3270e_msg.specs.declared.cause.Cause.TheVariants.{BadInbound, Negative}
use Rattle.tn3270e_msg.specs.declared.host_talk.HostState.{HostState}
use Rattle.tn3270e_msg.specs.declared.host_talk.HostState.TheVariants.{Offered, Asked, Asking, Named, Countered, Agreed, Closed}
use Rattle.tn3270e_msg.specs.declared.reply.Reason.{Reason}
use Rattle.tn3270e_msg.specs.declared.reply.Reply.{Reply}
use Rattle.tn3270e_msg.specs.declared.reply.Reply.TheVariants as reply
use Rattle.host_core.specs.Acts.{acted}
use Rattle.host_core.specs.Application.{Application}
use Rattle.host_core.specs.Messages.{ToTerminal, ToHost, Verdict}
use Rattle.host_core.specs.Notes.{noted}
use Rattle.host_core.specs.declared.disbelief.Disbelief.{Disbelief}
use Rattle.host_core.specs.declared.disbelief.Disbelief.TheVariants.{Contradicts, NoKey}
use Rattle.host_core.specs.declared.turn.Turn.{Turn}
use Rattle.host_core.specs.declared.turn.Turn.TheVariants as whose
use Rattle.host_core.specs.declared.turn_reason.TurnReason.{TurnReason}
use Rattle.host_core.specs.declared.turn_reason.TurnReason.TheVariants as turn_reasons
use Rattle.host_core.specs.declared.unheard.Unheard.TheVariants as unheards
use Rattle.host_core.specs.Session.{Session, Pending, is_agreed}
use Rattle.host_core.specs.Rejections.{lu_asked}
use Rattle.shadow.specs.declared.rule_break.RuleBreak.{RuleBreak}
use Rattle.host_core.specs.Takes.{buffer_heard, clear_came, dropping, is_read_believed, is_unread, only_read, paint_verdict_came, rule_broken_by, unless_broken, Answers, HostStep, quiet, closed_by, asked, talked_on, hears, believed, once_read, buffer_came, key_came, key_data_came, data_came, refused, write_refused, if_answers, verdict_came, read_verdict_came, response_came, once_agreed, second_key, second_key_data, out_of_turn, may_have_changed, took as host_took, breaking, most_restored, painted_over, restoring, sends_wrong, unbelieved}
use Rattle.host_core.specs.Questions.{answered_on}
use Rattle.world3270.specs.statement.Always.{Always}
use Rattle.world3270.specs.refinement.LowerLaws.{LowerLaws}
use Rattle.world3270.specs.model.Steps.{closed_if, freed_if, came_up, came_down, went_down, key_went, term_saw, joined, term_anew, done}
use Rattle.world3270.specs.model.Link.{Link, begun, cut, host_left, host_stepped, host_sent, term_left, term_stepped}
use Rattle.world3270.specs.model.Enabled.{is_enabled, free_number, may_connect, is_terminal}
use Rattle.world3270.specs.model.Places.{is_at, is_found, takes_number, concerns, LinksStay, HoldersStay, PoolIsSound}
use Rattle.world3270.specs.model.Terminal.{TermStep, key_came as term_key_came, took as term_took}
use Rattle.world3270.specs.model.World.{Place, World, Event, new_world, with_at, display_at}
use Rattle.world3270.proofs.OneOfMany.{differs, with_other}
use Rattle.world3270.proofs.Worlds.{granted_other, new_good, run_good}

-- ---- connections that an event doesn't concern

pub closed_link : (cause : Option Cause) (world : World) → (closed_if cause world).link ≡ world.link
closed_link None world = refl
closed_link (Some cause) world = refl

came_up_link : (world : World) (at number : ℕ) (up : List ToHost) → (number == at) ≡ false → (came_up at up world).link number ≡ world.link number
came_up_link world at number [] e = refl
came_up_link world at number (message ∷ rest) e =
    let step : HostStep = host_took (answer_to world.pool) (world.link at).host message in
    let new : Link = host_stepped step rest (world.link at) in
    ap (λ (links : ℕ → Link). links number) (closed_link step.closes (record world { pool = freed_if at step.closes (granted_if at step.grants world.pool); link = with_at at new world.link }))
    ∙ with_other at number new world.link (differs number at e)

came_down_link : (world : World) (at terminal number : ℕ) (down : List ToTerminal) → (number == at) ≡ false → (came_down at terminal down world).link number ≡ world.link number
came_down_link world at terminal number [] e = refl
came_down_link world at terminal number (message ∷ rest) e =
    let step : TermStep = term_took (world.link at).term message in
    let new : Link = term_stepped step rest (world.link at) in
    ap (λ (links : ℕ → Link). links number) (closed_link step.closes _) ∙ with_other at number new world.link (differs number at e)

went_down_link : (world : World) (at number : ℕ) (here : Option ℕ) → (number == at) ≡ false → (went_down at here world).link number ≡ world.link number
went_down_link world at number None e = refl
went_down_link world at number (Some terminal) e = came_down_link world at terminal number (world.link at).down e

key_went_link : (world : World) (terminal number : ℕ) (key : Key) (place : Place) → is_at number place ≡ false → (key_went terminal key place world).link number ≡ world.link number
key_went_link world terminal number key (Place.At at) e =
    with_other at number (term_stepped (term_key_came key (world.link at).term) (world.link at).down (world.link at)) world.link (differs number at e)
key_went_link world terminal number key (Place.Alone display) e = refl

term_saw_link : (world : World) (terminal number : ℕ) (place : Place) → is_at number place ≡ false → (term_saw terminal place world).link number ≡ world.link number
term_saw_link world terminal number (Place.At at) e = with_other at number (term_left (world.link at)) world.link (differs number at e)
term_saw_link world terminal number (Place.Alone display) e = refl

joined_link : (app : Application) (world : World) (terminal number : ℕ) (model : Model) (wanted : Option (List ℕ)) (free : Option ℕ) → is_found number free ≡ false → (joined app terminal model wanted free world).link number ≡ world.link number
joined_link app world terminal number model wanted None e = refl
joined_link app world terminal number model wanted (Some found) e = with_other found number (begun app world.serves model terminal wanted) world.link (differs number found e)

term_anew_link : (app : Application) (world : World) (terminal number : ℕ) (place : Place) → is_at number place ≡ false → (term_anew app terminal place world).link number ≡ world.link number
term_anew_link app world terminal number (Place.At at) e = with_other at number (term_left (world.link at)) world.link (differs number at e)
term_anew_link app world terminal number (Place.Alone display) e = refl

-- a terminal that is at a connection doesn't connect
found_or_at : (app : Application) (world : World) (terminal number : ℕ) (model : Model) (wanted : Option (List ℕ)) (place : Place) → may_connect world place ≡ true → takes_number number (free_number world.link) place ≡ false
    → (joined app terminal model wanted (free_number world.link) world).link number ≡ world.link number
found_or_at app world terminal number model wanted (Place.At at) may e = absurd (cc)
found_or_at app world terminal number model wanted (Place.Alone display) may e = joined_link app world terminal number model wanted (free_number world.link) e

done_link : (app : Application) (event : Event) (world : World) (number : ℕ) → is_enabled app event world ≡ true → concerns event world number ≡ false → (done app event world).link number ≡ world.link number
done_link app (Event.Press terminal key) world number here e = key_went_link world terminal number key (world.place terminal) e
done_link app (Event.Up at) world number here e = came_up_link world at number (world.link at).up e
done_link app (Event.Down at) world number here e = went_down_link world at number (world.link at).term_here e
done_link app (Event.Act at) world number here e = with_other at number (host_sent (acted app (world.link at).host) (world.link at)) world.link (differs number at e)
done_link app (Event.Answer at said) world number here e =
    with_other at number (host_sent (answered_on app (world.link at).host said) (world.link at)) world.link (differs number at e)
done_link app (Event.Note at text) world number here e = with_other at number (host_sent (noted text (world.link at).host) (world.link at)) world.link (differs number at e)
done_link app (Event.Lose at) world number here e = with_other at number (cut (world.link at)) world.link (differs number at e)
done_link app (Event.HostSees at) world number here e = with_other at number (host_left (world.link at)) world.link (differs number at e)
done_link app (Event.TermSees terminal) world number here e = term_saw_link world terminal number (world.place terminal) e
done_link app (Event.Connect terminal wanted) world number here e =
    found_or_at app world terminal number (display_at world (world.place terminal)).model wanted (world.place terminal) (and_parts (is_terminal world terminal) (may_connect world (world.place terminal)) here).1 e
done_link app (Event.RestartTerm terminal) world number here e = term_anew_link app world terminal number (world.place terminal) e
done_link app Event.RestartHost world number here e = absurd (cc)

pub links_stay : LinksStay
links_stay app event world number e = by_test (is_enabled app event world) refl
  where
    by_test : (b : Bool) → is_enabled app event world ≡ b → World.link (if b then done app event world else world) number ≡ world.link number
    by_test true here = done_link app event world number here e
    by_test false here = refl

-- ---- what a host grants is what the pool answered

record IsAnswer (pool : Answers) (lu : List ℕ) : Type 0 where
  name : Option (List ℕ)
  answer : pool name ≡ Ok lu

asked_grants : (pool : Answers) (name sought : Option (List ℕ)) (conn : Session) (talk : Talk HostState) (answer : Result (List ℕ) Reason) (state : HostState) (lu : List ℕ)
    → pool name ≡ answer → (asked conn sought talk answer state).grants ≡ Some lu → IsAnswer pool lu
asked_grants pool name sought conn talk (Ok have) (Asking device) lu a e = record { name = name; answer = a ∙ cc }
asked_grants pool name sought conn talk (Err reason) (Asking device) lu a e = absurd (cc)
asked_grants pool name sought conn talk answer Offered lu a e = absurd (cc)
asked_grants pool name sought conn talk answer Asked lu a e = absurd (cc)
asked_grants pool name sought conn talk answer (Named device have) lu a e = absurd (cc)
asked_grants pool name sought conn talk answer (Countered device have) lu a e = absurd (cc)
asked_grants pool name sought conn talk answer (Agreed device have) lu a e = absurd (cc)
asked_grants pool name sought conn talk answer (Closed cause) lu a e = absurd (cc)

talked_grants : (pool : Answers) (conn : Session) (sought : Option (List ℕ)) (talk : Talk HostState) (answer : Reply) (lu : List ℕ) → (talked_on pool conn sought talk answer).grants ≡ Some lu → IsAnswer pool lu
talked_grants pool conn sought talk (reply.AskPool name) lu e = asked_grants pool name sought conn talk (pool name) talk.state lu refl e
talked_grants pool conn sought talk reply.Nothing lu e = absurd (cc)
talked_grants pool conn sought talk (reply.Opt verb code) lu e = absurd (cc)
talked_grants pool conn sought talk (reply.Sub sending after) lu e = absurd (cc)
talked_grants pool conn sought talk reply.Agreed lu e = absurd (cc)
talked_grants pool conn sought talk (reply.Refused reason) lu e = absurd (cc)
talked_grants pool conn sought talk (reply.Close cause) lu e = absurd (cc)

-- records grant nothing
unbelieved_grants : (why : Disbelief) (conn : Session) → (unbelieved why conn).grants ≡ None
unbelieved_grants why conn = by_tests (may_have_changed conn.unheard) conn.verifies (ltb conn.restored most_restored)
  where
    by_tests : (changed verifies few : Bool) → HostStep.grants (if not changed then closed_by BadInbound conn else if verifies then breaking sends_wrong conn
        else if few then restoring why (painted_over conn.turn conn.pending (record conn { restored = suc conn.restored })) else closed_by BadInbound conn) ≡ None
    by_tests false verifies few = refl
    by_tests true true few = refl
    by_tests true false true = refl
    by_tests true false false = refl

believed_grants : (turn_reason : TurnReason) (pending : Pending) (cursor : Option ℕ) (conn : Session) (result : Result Shadow HeardFault) → (believed turn_reason pending cursor conn result).grants ≡ None
believed_grants turn_reason pending cursor conn (Ok shadow) = refl
believed_grants turn_reason pending cursor conn (Err fault) = unbelieved_grants Contradicts conn

key_grants : (parts : InboundParts) (aid : Aid) (conn : Session) → (key_came parts aid conn).grants ≡ None
key_grants parts NoAid conn = unbelieved_grants NoKey conn
key_grants parts Enter conn = believed_grants (turn_reasons.Key Enter false) conn.pending parts.cursor conn (hears parts conn)
key_grants parts Clear conn = believed_grants (turn_reasons.Key Clear false) conn.pending parts.cursor conn (hears parts conn)
key_grants parts (Pf key) conn = believed_grants (turn_reasons.Key (Pf key) false) conn.pending parts.cursor conn (hears parts conn)
key_grants parts (Pa key) conn = believed_grants (turn_reasons.Key (Pa key) false) conn.pending parts.cursor conn (hears parts conn)

key_data_grants : (parts : InboundParts) (form : Form) (conn : Session) → (key_data_came parts form conn).grants ≡ None
key_data_grants parts Modified conn = key_grants parts parts.aid conn
key_data_grants parts AllModified conn = refl
key_data_grants parts Buffer conn = refl

clear_grants : (parts : InboundParts) (conn : Session) → (clear_came parts conn).grants ≡ None
clear_grants parts conn = by_test (is_unread conn.turn_reason)
  where
    by_test : (b : Bool) → HostStep.grants (if b then key_came parts Clear conn else dropping Clear (record conn { unheard = unheards.Clear })) ≡ None
    by_test true = key_grants parts Clear conn
    by_test false = refl

second_key_grants : (parts : InboundParts) (aid : Aid) (pending : Pending) (conn : Session) → (second_key parts aid pending conn).grants ≡ None
second_key_grants parts NoAid pending conn = unbelieved_grants NoKey conn
second_key_grants parts Enter pending conn = refl
second_key_grants parts Clear Pending.Nothing conn = clear_grants parts conn
second_key_grants parts Clear (Pending.Writing number command) conn = refl
second_key_grants parts Clear (Pending.Reading number) conn = clear_grants parts conn
second_key_grants parts Clear (Pending.Noting number command) conn = clear_grants parts conn
second_key_grants parts (Pf key) pending conn = refl
second_key_grants parts (Pa key) pending conn = refl

second_key_data_grants : (parts : InboundParts) (form : Form) (conn : Session) → (second_key_data parts form conn).grants ≡ None
second_key_data_grants parts Modified conn = second_key_grants parts parts.aid conn.pending conn
second_key_data_grants parts AllModified conn = refl
second_key_data_grants parts Buffer conn = refl

out_of_turn_grants : (parts : InboundParts) (conn : Session) → (out_of_turn parts conn).grants ≡ None
out_of_turn_grants parts conn = by_test (may_have_changed conn.unheard)
  where
    by_test : (b : Bool) → HostStep.grants (if b then second_key_data parts parts.form conn else closed_by BadInbound conn) ≡ None
    by_test true = second_key_data_grants parts parts.form conn
    by_test false = refl

buffer_grants : (parts : InboundParts) (form : Form) (conn : Session) → (buffer_came parts form conn).grants ≡ None
buffer_grants parts Buffer conn = by_break (rule_broken_by parts conn)
  where
    by_break : (broken : Option RuleBreak) → (unless_broken conn broken (buffer_heard parts conn)).grants ≡ None
    by_break None = by_count (is_read_believed conn)
      where
        by_count : (b : Bool) → HostStep.grants (if b then believed (once_read conn.turn_reason) Pending.Nothing parts.cursor conn (hears parts conn) else quiet (only_read conn)) ≡ None
        by_count true = believed_grants (once_read conn.turn_reason) Pending.Nothing parts.cursor conn (hears parts conn)
        by_count false = refl
    by_break (Some broken) = refl
buffer_grants parts Modified conn = out_of_turn_grants parts conn
buffer_grants parts AllModified conn = out_of_turn_grants parts conn

data_grants : (parts : InboundParts) (turn : Turn) (pending : Pending) (conn : Session) → (data_came parts turn pending conn).grants ≡ None
data_grants parts turn (Pending.Reading number) conn = buffer_grants parts parts.form conn
data_grants parts turn (Pending.Writing number command) conn = out_of_turn_grants parts conn
data_grants parts whose.Host Pending.Nothing conn = out_of_turn_grants parts conn
data_grants parts whose.Host (Pending.Noting number command) conn = out_of_turn_grants parts conn
data_grants parts whose.Terminal Pending.Nothing conn = key_data_grants parts parts.form conn
data_grants parts whose.Terminal (Pending.Noting number command) conn = key_data_grants parts parts.form conn

if_answers_grants : (b : Bool) (step : HostStep) (conn : Session) → step.grants ≡ None → (if_answers b step conn).grants ≡ None
if_answers_grants true step conn e = e
if_answers_grants false step conn e = refl

write_refused_grants : (command : CommandParts) (conn : Session) → (write_refused command conn).grants ≡ None
write_refused_grants command conn = by_test (is_erase command.code)
  where
    by_test : (b : Bool) → HostStep.grants (if b then closed_by Negative conn else quiet (refused conn)) ≡ None
    by_test true = refl
    by_test false = refl

verdict_grants : (command : CommandParts) (verdict : Verdict) (conn : Session) → (verdict_came command verdict conn).grants ≡ None
verdict_grants command Verdict.Positive conn = refl
verdict_grants command Verdict.Negative conn = write_refused_grants command conn

paint_grants : (command : CommandParts) (verdict : Verdict) (conn : Session) → (paint_verdict_came command verdict conn).grants ≡ None
paint_grants command Verdict.Positive conn = refl
paint_grants command Verdict.Negative conn = write_refused_grants command conn

read_verdict_grants : (answers : Bool) (verdict : Verdict) (conn : Session) → (read_verdict_came answers verdict conn).grants ≡ None
read_verdict_grants answers Verdict.Positive conn = refl
read_verdict_grants answers Verdict.Negative conn = if_answers_grants answers _ conn refl

response_grants : (number : ℕ) (verdict : Verdict) (pending : Pending) (conn : Session) → (response_came number verdict pending conn).grants ≡ None
response_grants number verdict Pending.Nothing conn = refl
response_grants number verdict (Pending.Writing pending command) conn = if_answers_grants (number == pending) _ conn (paint_grants command verdict conn)
response_grants number verdict (Pending.Noting pending command) conn = if_answers_grants (number == pending) _ conn (verdict_grants command verdict conn)
response_grants number verdict (Pending.Reading pending) conn = read_verdict_grants (number == pending) verdict conn

once_agreed_grants : (b : Bool) (step : HostStep) (conn : Session) → step.grants ≡ None → (once_agreed b step conn).grants ≡ None
once_agreed_grants true step conn e = e
once_agreed_grants false step conn e = refl

not_both : (granted : Option (List ℕ)) (lu : List ℕ) → granted ≡ None → granted ≡ Some lu → ⊥
not_both granted lu none some = absurd (cc)

grants : (pool : Answers) (conn : Session) (message : ToHost) (lu : List ℕ) → (host_took pool conn message).grants ≡ Some lu → IsAnswer pool lu
grants pool conn (ToHost.TalksUp saying) lu e =
    let next : Talk HostState × Reply = follow Closed conn.talk (host_transition conn.talk.state (says saying)) in
    talked_grants pool conn (lu_asked (says saying)) next.0 next.1 lu e
grants pool conn (ToHost.Data parts) lu e = absurd (not_both _ lu (once_agreed_grants (is_agreed conn.talk.state) (data_came parts conn.turn conn.pending conn) conn (data_grants parts conn.turn conn.pending conn)) e)
grants pool conn (ToHost.Response number verdict) lu e =
    absurd (not_both _ lu (once_agreed_grants (is_agreed conn.talk.state) (response_came number verdict conn.pending conn) conn (response_grants number verdict conn.pending conn)) e)

-- ---- LUs of such connections

granted_holds : LowerLaws → (pool : List Entry) (at number : ℕ) (lu : List ℕ) (granted : Option (List ℕ)) → IsSound pool → ((have : List ℕ) → granted ≡ Some have → IsAnswer (answer_to pool) have)
    → holder pool lu ≡ Some number → holder (granted_if at granted pool) lu ≡ Some number
granted_holds given pool at number lu None sound answers held = held
granted_holds given pool at number lu (Some have) sound answers held =
    let a = answers have refl in
    granted_other given pool at number have lu (given.pool.free pool a.name have sound a.answer) held

freed_holds : LowerLaws → (pool : List Entry) (at number : ℕ) (lu : List ℕ) (cause : Option Cause) → (number == at) ≡ false → holder pool lu ≡ Some number → holder (freed_if at cause pool) lu ≡ Some number
freed_holds given pool at number lu None e held = held
freed_holds given pool at number lu (Some cause) e held = given.pool.others_keep pool at number lu (differs number at e) held

pub closed_pool : (cause : Option Cause) (world : World) → (closed_if cause world).pool ≡ world.pool
closed_pool None world = refl
closed_pool (Some cause) world = refl

came_up_holds : LowerLaws → (world : World) (at number : ℕ) (lu : List ℕ) (up : List ToHost) → IsSound world.pool → (number == at) ≡ false → holder world.pool lu ≡ Some number
    → holder (came_up at up world).pool lu ≡ Some number
came_up_holds given world at number lu [] sound e held = held
came_up_holds given world at number lu (message ∷ rest) sound e held =
    let step : HostStep = host_took (answer_to world.pool) (world.link at).host message in
    ap (λ pool. holder pool lu) (closed_pool step.closes (record world { pool = freed_if at step.closes (granted_if at step.grants world.pool); link = with_at at (host_stepped step rest (world.link at)) world.link }))
    ∙ freed_holds given (granted_if at step.grants world.pool) at number lu step.closes e
    (granted_holds given world.pool at number lu step.grants sound (grants (answer_to world.pool) (world.link at).host message) held)

-- ---- and no others

-- what is held once it was given back was held before, by another
freed_was : (pool : List Entry) (at number : ℕ) (lu : List ℕ) (held : Option ℕ) → freed_for at held ≡ Some number → ((number == at) ≡ false) × (held ≡ Some number)
freed_was pool at number lu None e = absurd (cc)
freed_was pool at number lu (Some had) e = by_test (had == at) refl e
  where
    by_test : (b : Bool) → (had == at) ≡ b → (if b then None else Some had) ≡ Some number → ((number == at) ≡ false) × (Some had ≡ Some number)
    by_test true h e = absurd (cc)
    by_test false h e = let same : had ≡ number = cc in (ap (λ n. n == at) (sym same) ∙ h, e)

pub back_was : LowerLaws → (pool : List Entry) (at number : ℕ) (lu : List ℕ) → holder (given_back at pool) lu ≡ Some number → ((number == at) ≡ false) × (holder pool lu ≡ Some number)
back_was given pool at number lu e = freed_was pool at number lu (holder pool lu) (sym (given.pool.back pool at lu) ∙ e)

freed_if_was : LowerLaws → (pool : List Entry) (at number : ℕ) (lu : List ℕ) (cause : Option Cause) → holder (freed_if at cause pool) lu ≡ Some number → holder pool lu ≡ Some number
freed_if_was given pool at number lu None e = e
freed_if_was given pool at number lu (Some cause) e = (back_was given pool at number lu e).1

granted_was : LowerLaws → (pool : List Entry) (at number : ℕ) (lu : List ℕ) (granted : Option (List ℕ)) → ((have : List ℕ) → granted ≡ Some have → IsAnswer (answer_to pool) have)
    → (number == at) ≡ false → holder (granted_if at granted pool) lu ≡ Some number → holder pool lu ≡ Some number
granted_was given pool at number lu None answers other e = e
granted_was given pool at number lu (Some have) answers other e = by_test (bytes_eq lu have) refl
  where
    by_test : (b : Bool) → bytes_eq lu have ≡ b → holder pool lu ≡ Some number
    by_test true h =
        let a = answers have refl in
        let its : holder (granted_to at have pool) have ≡ Some at = given.pool.held pool a.name at have a.answer in
        let now : holder (granted_to at have pool) have ≡ Some number = subst (λ x. holder (granted_to at have pool) x ≡ Some number) ((bytes_eq-Decides lu have).0 h) e in
        let both : Some number ≡ Some at = sym now ∙ its in
        absurd (differs number at other (cc))
    by_test false h = sym (given.pool.others_stay pool at have lu (λ same. let yes = (bytes_eq-Decides lu have).1 same in absurd (cc))) ∙ e

pub came_up_was : LowerLaws → (world : World) (at number : ℕ) (lu : List ℕ) (up : List ToHost) → (number == at) ≡ false → holder (came_up at up world).pool lu ≡ Some number
    → holder world.pool lu ≡ Some number
came_up_was given world at number lu [] e held = held
came_up_was given world at number lu (message ∷ rest) e held =
    let step : HostStep = host_took (answer_to world.pool) (world.link at).host message in
    granted_was given world.pool at number lu step.grants (grants (answer_to world.pool) (world.link at).host message) e
    (freed_if_was given (granted_if at step.grants world.pool) at number lu step.closes
    (ap (λ pool. holder pool lu) (sym (closed_pool step.closes (record world { pool = freed_if at step.closes (granted_if at step.grants world.pool); link = with_at at (host_stepped step rest (world.link at)) world.link }))) ∙ held))

-- ---- the pool is the same

came_down_pool : (world : World) (at terminal : ℕ) (down : List ToTerminal) → (came_down at terminal down world).pool ≡ world.pool
came_down_pool world at terminal [] = refl
came_down_pool world at terminal (message ∷ rest) = closed_pool (term_took (world.link at).term message).closes _

went_down_pool : (world : World) (at : ℕ) (here : Option ℕ) → (went_down at here world).pool ≡ world.pool
went_down_pool world at None = refl
went_down_pool world at (Some terminal) = came_down_pool world at terminal (world.link at).down

key_went_pool : (world : World) (terminal : ℕ) (key : Key) (place : Place) → (key_went terminal key place world).pool ≡ world.pool
key_went_pool world terminal key (Place.At at) = refl
key_went_pool world terminal key (Place.Alone display) = refl

term_saw_pool : (world : World) (terminal : ℕ) (place : Place) → (term_saw terminal place world).pool ≡ world.pool
term_saw_pool world terminal (Place.At at) = refl
term_saw_pool world terminal (Place.Alone display) = refl

joined_pool : (app : Application) (world : World) (terminal : ℕ) (model : Model) (wanted : Option (List ℕ)) (free : Option ℕ) → (joined app terminal model wanted free world).pool ≡ world.pool
joined_pool app world terminal model wanted None = refl
joined_pool app world terminal model wanted (Some number) = refl

term_anew_pool : (app : Application) (world : World) (terminal : ℕ) (place : Place) → (term_anew app terminal place world).pool ≡ world.pool
term_anew_pool app world terminal (Place.At at) = refl
term_anew_pool app world terminal (Place.Alone display) = refl

-- this number holds that LU in the one pool where it does in the other
abbrev SameHolder : List Entry → List Entry → ℕ → List ℕ → Type 0
SameHolder old new number lu = (holder old lu ≡ Some number) ↔ (holder new lu ≡ Some number)

same_holder : (old new : List Entry) (number : ℕ) (lu : List ℕ) → new ≡ old → SameHolder old new number lu
same_holder old new number lu same = (λ e. ap (λ pool. holder pool lu) same ∙ e, λ e. ap (λ pool. holder pool lu) (sym same) ∙ e)

done_holds : LowerLaws → (app : Application) (event : Event) (world : World) (number : ℕ) (lu : List ℕ) → IsSound world.pool → concerns event world number ≡ false → SameHolder world.pool (done app event world).pool number lu
done_holds given app (Event.Press terminal key) world number lu sound e = same_holder world.pool _ number lu (key_went_pool world terminal key (world.place terminal))
done_holds given app (Event.Up at) world number lu sound e =
    (came_up_holds given world at number lu (world.link at).up sound e, came_up_was given world at number lu (world.link at).up e)
done_holds given app (Event.Down at) world number lu sound e = same_holder world.pool _ number lu (went_down_pool world at (world.link at).term_here)
done_holds given app (Event.Act at) world number lu sound e = same_holder world.pool world.pool number lu refl
done_holds given app (Event.Answer at said) world number lu sound e = same_holder world.pool world.pool number lu refl
done_holds given app (Event.Note at text) world number lu sound e = same_holder world.pool world.pool number lu refl
done_holds given app (Event.Lose at) world number lu sound e = same_holder world.pool world.pool number lu refl
done_holds given app (Event.HostSees at) world number lu sound e =
    (given.pool.others_keep world.pool at number lu (differs number at e), λ held. (back_was given world.pool at number lu held).1)
done_holds given app (Event.TermSees terminal) world number lu sound e = same_holder world.pool _ number lu (term_saw_pool world terminal (world.place terminal))
done_holds given app (Event.Connect terminal wanted) world number lu sound e = same_holder world.pool _ number lu (joined_pool app world terminal (display_at world (world.place terminal)).model wanted (free_number world.link))
done_holds given app (Event.RestartTerm terminal) world number lu sound e = same_holder world.pool _ number lu (term_anew_pool app world terminal (world.place terminal))
done_holds given app Event.RestartHost world number lu sound e = absurd (cc)

pub holders_stay : LowerLaws → HoldersStay
holders_stay given app event world number lu sound e = by_test (is_enabled app event world)
  where
    by_test : (b : Bool) → SameHolder world.pool (World.pool (if b then done app event world else world)) number lu
    by_test true = done_holds given app event world number lu sound e
    by_test false = same_holder world.pool world.pool number lu refl

pub pool_is_sound : LowerLaws → Always PoolIsSound
pool_is_sound given app serves pool models events is lists few are =
    (run_good given app is events (new_world app serves pool models) are (new_good given app is serves pool models lists)).sound

-- What a terminal says is within the limits of the stream.
use Rattle.std.proofs.Common.{◌≡◌, ◌≤◌, ◌-◌, ◌==◌, ℕ, Bool, true, false, not, Option, None, Some, List, [], ◌∷◌, length, length-append, arith, if◌then◌else◌}
use Rattle.std.specs.List.{list_all, AllByRecursion}
use Rattle.std.specs.Char.{is_ascii_digit}
use Rattle.std.specs.Str.{bytes_eq}
use Rattle.std.proofs.lemmas.Bool.{false≢true, and_parts}
use Rattle.std.proofs.lemmas.Bool.Decides.{nat_tests}
use Rattle.telnet_wire.specs.Items.{CanCome}
use Rattle.codes3270.specs.declared.size.Model.{Model}
use Rattle.tn3270e_msg.specs.Device.{device_for, device_text, has_text}
use Rattle.tn3270e_msg.specs.Lu.{is_lu, is_lu_letter, lu_of}
use Rattle.tn3270e_msg.specs.Talk.{Comes, Will, Wont, Do, Dont, OtherWill, OtherDo, SendsType, RequestsType, IsType, RejectsType, RequestsFunctions, IsFunctions, BreaksForm, NoTalk, Talk, follow, IsOwnedMessage, payload_sent, items_sent}
use Rattle.tn3270e_msg.specs.TermTable.{term_transition, grant_transition}
use Rattle.tn3270e_msg.specs.declared.cause.Cause.TheVariants as cause
use Rattle.tn3270e_msg.specs.declared.device.Device.{Device}
use Rattle.tn3270e_msg.specs.declared.device.Device.TheVariants as device
use Rattle.tn3270e_msg.specs.declared.functions.FunctionsOffer.TheVariants.{ResponsesAlone, ResponsesAndMore, NoResponses}
use Rattle.tn3270e_msg.specs.declared.hearing.Transition.{Transition}
use Rattle.tn3270e_msg.specs.declared.hearing.Transition.TheVariants as transition
use Rattle.tn3270e_msg.specs.declared.reply.After.TheVariants as behind
use Rattle.tn3270e_msg.specs.declared.reply.Reply.{Reply}
use Rattle.tn3270e_msg.specs.declared.reply.Reply.TheVariants as reply
use Rattle.tn3270e_msg.specs.declared.reply.OwnedMessage.{OwnedMessage}
use Rattle.tn3270e_msg.specs.declared.reply.OwnedMessage.TheVariants as sent
use Rattle.tn3270e_msg.specs.declared.term_talk.TermState.{TermState}
use Rattle.tn3270e_msg.specs.declared.term_talk.TermState.TheVariants as at
use Rattle.tn3270e_msg.specs.Header.{record_limit}
use Rattle.world3270.specs.refinement.RepresentsEnds.{NamesWanted}

-- ---- what a talk sends of LUs is their names

abbrev pub Fits : Reply → Type 0
Fits (reply.Sub sending after) = IsOwnedMessage sending
Fits _ = Unit {0}

abbrev TransitionFits : Transition TermState → Type 0
TransitionFits (transition.Stays answer) = Fits answer
TransitionFits (transition.Goes state answer) = Fits answer
TransitionFits (transition.Refuses state sending) = IsOwnedMessage sending
TransitionFits (transition.Closes cause) = Unit {0}

granted_if : (same : Bool) (lu : List ℕ) → TransitionFits (if same then transition.Goes (at.FunctionsAsked lu) (reply.Sub sent.FunRequest behind.Going) else transition.Closes cause.BadTalk)
granted_if true lu = tt
granted_if false lu = tt

grant_fits : (wanted : Option (List ℕ)) (same : Bool) (lu : Option (List ℕ)) → TransitionFits (grant_transition wanted same lu)
grant_fits None true None = tt
grant_fits None true (Some lu) = tt
grant_fits None false None = tt
grant_fits None false (Some lu) = tt
grant_fits (Some name) true None = tt
grant_fits (Some name) true (Some lu) = granted_if (bytes_eq lu name) lu
grant_fits (Some name) false None = tt
grant_fits (Some name) false (Some lu) = tt

transition_fits : (model : Model) (wanted : Option (List ℕ)) (state : TermState) → NamesWanted state wanted → (comes : Comes) → TransitionFits (term_transition model wanted state comes)
transition_fits model wanted (at.Closed cause) h comes = tt
transition_fits model wanted (at.Refused reason) h comes = tt
transition_fits model wanted at.Waiting h Will = tt
transition_fits model wanted at.Waiting h Wont = tt
transition_fits model wanted at.Waiting h Do = tt
transition_fits model wanted at.Waiting h Dont = tt
transition_fits model wanted at.Waiting h (OtherWill code) = tt
transition_fits model wanted at.Waiting h (OtherDo code) = tt
transition_fits model wanted at.Waiting h SendsType = tt
transition_fits model wanted at.Waiting h (RequestsType type name) = tt
transition_fits model wanted at.Waiting h (IsType type name) = tt
transition_fits model wanted at.Waiting h (RejectsType reason) = tt
transition_fits model wanted at.Waiting h (RequestsFunctions ResponsesAlone) = tt
transition_fits model wanted at.Waiting h (RequestsFunctions ResponsesAndMore) = tt
transition_fits model wanted at.Waiting h (RequestsFunctions NoResponses) = tt
transition_fits model wanted at.Waiting h (IsFunctions ResponsesAlone) = tt
transition_fits model wanted at.Waiting h (IsFunctions ResponsesAndMore) = tt
transition_fits model wanted at.Waiting h (IsFunctions NoResponses) = tt
transition_fits model wanted at.Waiting h BreaksForm = tt
transition_fits model wanted at.Waiting h NoTalk = tt
transition_fits model wanted at.Willing h Will = tt
transition_fits model wanted at.Willing h Wont = tt
transition_fits model wanted at.Willing h Do = tt
transition_fits model wanted at.Willing h Dont = tt
transition_fits model wanted at.Willing h (OtherWill code) = tt
transition_fits model wanted at.Willing h (OtherDo code) = tt
transition_fits model wanted at.Willing h SendsType = h
transition_fits model wanted at.Willing h (RequestsType type name) = tt
transition_fits model wanted at.Willing h (IsType type name) = tt
transition_fits model wanted at.Willing h (RejectsType reason) = tt
transition_fits model wanted at.Willing h (RequestsFunctions ResponsesAlone) = tt
transition_fits model wanted at.Willing h (RequestsFunctions ResponsesAndMore) = tt
transition_fits model wanted at.Willing h (RequestsFunctions NoResponses) = tt
transition_fits model wanted at.Willing h (IsFunctions ResponsesAlone) = tt
transition_fits model wanted at.Willing h (IsFunctions ResponsesAndMore) = tt
transition_fits model wanted at.Willing h (IsFunctions NoResponses) = tt
transition_fits model wanted at.Willing h BreaksForm = tt
transition_fits model wanted at.Willing h NoTalk = tt
transition_fits model wanted at.TypeAsked h Will = tt
transition_fits model wanted at.TypeAsked h Wont = tt
transition_fits model wanted at.TypeAsked h Do = tt
transition_fits model wanted at.TypeAsked h Dont = tt
transition_fits model wanted at.TypeAsked h (OtherWill code) = tt
transition_fits model wanted at.TypeAsked h (OtherDo code) = tt
transition_fits model wanted at.TypeAsked h SendsType = tt
transition_fits model wanted at.TypeAsked h (RequestsType type name) = tt
transition_fits model wanted at.TypeAsked h (IsType type name) = grant_fits wanted (has_text (device_for model) type) (lu_of name)
transition_fits model wanted at.TypeAsked h (RejectsType reason) = tt
transition_fits model wanted at.TypeAsked h (RequestsFunctions ResponsesAlone) = tt
transition_fits model wanted at.TypeAsked h (RequestsFunctions ResponsesAndMore) = tt
transition_fits model wanted at.TypeAsked h (RequestsFunctions NoResponses) = tt
transition_fits model wanted at.TypeAsked h (IsFunctions ResponsesAlone) = tt
transition_fits model wanted at.TypeAsked h (IsFunctions ResponsesAndMore) = tt
transition_fits model wanted at.TypeAsked h (IsFunctions NoResponses) = tt
transition_fits model wanted at.TypeAsked h BreaksForm = tt
transition_fits model wanted at.TypeAsked h NoTalk = tt
transition_fits model wanted (at.FunctionsAsked lu) h Will = tt
transition_fits model wanted (at.FunctionsAsked lu) h Wont = tt
transition_fits model wanted (at.FunctionsAsked lu) h Do = tt
transition_fits model wanted (at.FunctionsAsked lu) h Dont = tt
transition_fits model wanted (at.FunctionsAsked lu) h (OtherWill code) = tt
transition_fits model wanted (at.FunctionsAsked lu) h (OtherDo code) = tt
transition_fits model wanted (at.FunctionsAsked lu) h SendsType = tt
transition_fits model wanted (at.FunctionsAsked lu) h (RequestsType type name) = tt
transition_fits model wanted (at.FunctionsAsked lu) h (IsType type name) = tt
transition_fits model wanted (at.FunctionsAsked lu) h (RejectsType reason) = tt
transition_fits model wanted (at.FunctionsAsked lu) h (RequestsFunctions ResponsesAlone) = tt
transition_fits model wanted (at.FunctionsAsked lu) h (RequestsFunctions ResponsesAndMore) = tt
transition_fits model wanted (at.FunctionsAsked lu) h (RequestsFunctions NoResponses) = tt
transition_fits model wanted (at.FunctionsAsked lu) h (IsFunctions ResponsesAlone) = tt
transition_fits model wanted (at.FunctionsAsked lu) h (IsFunctions ResponsesAndMore) = tt
transition_fits model wanted (at.FunctionsAsked lu) h (IsFunctions NoResponses) = tt
transition_fits model wanted (at.FunctionsAsked lu) h BreaksForm = tt
transition_fits model wanted (at.FunctionsAsked lu) h NoTalk = tt
transition_fits model wanted (at.Agreed lu) h Will = tt
transition_fits model wanted (at.Agreed lu) h Wont = tt
transition_fits model wanted (at.Agreed lu) h Do = tt
transition_fits model wanted (at.Agreed lu) h Dont = tt
transition_fits model wanted (at.Agreed lu) h (OtherWill code) = tt
transition_fits model wanted (at.Agreed lu) h (OtherDo code) = tt
transition_fits model wanted (at.Agreed lu) h SendsType = tt
transition_fits model wanted (at.Agreed lu) h (RequestsType type name) = tt
transition_fits model wanted (at.Agreed lu) h (IsType type name) = tt
transition_fits model wanted (at.Agreed lu) h (RejectsType reason) = tt
transition_fits model wanted (at.Agreed lu) h (RequestsFunctions ResponsesAlone) = tt
transition_fits model wanted (at.Agreed lu) h (RequestsFunctions ResponsesAndMore) = tt
transition_fits model wanted (at.Agreed lu) h (RequestsFunctions NoResponses) = tt
transition_fits model wanted (at.Agreed lu) h (IsFunctions ResponsesAlone) = tt
transition_fits model wanted (at.Agreed lu) h (IsFunctions ResponsesAndMore) = tt
transition_fits model wanted (at.Agreed lu) h (IsFunctions NoResponses) = tt
transition_fits model wanted (at.Agreed lu) h BreaksForm = tt
transition_fits model wanted (at.Agreed lu) h NoTalk = tt

abbrev AnswerFits : Talk TermState × Reply → Type 0
AnswerFits answer = Fits answer.1

refused_fits : (last : Bool) (talk : Talk TermState) (state : TermState) (sending : OwnedMessage) → IsOwnedMessage sending
    → AnswerFits
    (if last then (record { state = at.Closed cause.TooMany; refusals_left = 0 }, reply.Sub sending (behind.Close cause.TooMany))
    else (record { state = state; refusals_left = talk.refusals_left - 1 }, reply.Sub sending behind.Going))
refused_fits true talk state sending h = h
refused_fits false talk state sending h = h

follow_fits : (talk : Talk TermState) (next : Transition TermState) → TransitionFits next → AnswerFits (follow at.Closed talk next)
follow_fits talk (transition.Stays answer) h = h
follow_fits talk (transition.Goes state answer) h = h
follow_fits talk (transition.Refuses state sending) h = refused_fits (talk.refusals_left - 1 == 0) talk state sending h
follow_fits talk (transition.Closes cause) h = tt

-- ---- names are short

name_fits : (lu : List ℕ) → is_lu lu ≡ true → length lu ≤ 8
name_fits [] h = absurd (false≢true h)
name_fits (x ∷ xs) h =
    let parts = and_parts (not (is_ascii_digit x)) _ h in
    let few = (and_parts (list_all is_lu_letter (x ∷ xs)) _ parts.1).1 in
    grind (arith, nat_tests, few)

type_fits : (type : Device) → length (device_text type) ≤ 12
type_fits device.Model2 = omega arith
type_fits device.Model2E = omega arith
type_fits device.Model3 = omega arith
type_fits device.Model3E = omega arith
type_fits device.Model4 = omega arith
type_fits device.Model4E = omega arith
type_fits device.Model5 = omega arith
type_fits device.Model5E = omega arith

pub payload_fits : (sending : OwnedMessage) → IsOwnedMessage sending → length (payload_sent sending) ≤ 256
payload_fits sent.SendType h = omega arith
payload_fits (sent.TypeRequest model None) h = simp length-append (omega (arith, type_fits (device_for model)))
payload_fits (sent.TypeRequest model (Some lu)) h = simp length-append (omega (arith, type_fits (device_for model), name_fits lu h))
payload_fits (sent.TypeIs type lu) h = simp length-append (omega (arith, type_fits type, name_fits lu h))
payload_fits (sent.TypeReject reason) h = omega arith
payload_fits sent.FunRequest h = omega arith
payload_fits sent.FunIs h = omega arith

reply_comes : (answer : Reply) → Fits answer → AllByRecursion (CanCome record_limit) (items_sent answer)
reply_comes reply.Nothing h = tt
reply_comes (reply.Opt verb code) h = (tt, tt)
reply_comes (reply.Sub sending after) h = (payload_fits sending h, tt)
reply_comes (reply.AskPool name) h = tt
reply_comes reply.Agreed h = tt
reply_comes (reply.Refused reason) h = tt
reply_comes (reply.Close cause) h = tt

-- what a talk answers
pub answer_fits : (talk : Talk TermState) (model : Model) (wanted : Option (List ℕ)) → NamesWanted talk.state wanted → (comes : Comes)
    → Fits (follow at.Closed talk (term_transition model wanted talk.state comes)).1
answer_fits talk model wanted h comes = follow_fits talk (term_transition model wanted talk.state comes) (transition_fits model wanted talk.state h comes)

-- what a talk says can come
pub talk_comes : (talk : Talk TermState) (model : Model) (wanted : Option (List ℕ)) → NamesWanted talk.state wanted → (comes : Comes)
    → AllByRecursion (CanCome record_limit) (items_sent (follow at.Closed talk (term_transition model wanted talk.state comes)).1)
talk_comes talk model wanted h comes = reply_comes _ (answer_fits talk model wanted h comes)

-- Two talks with each other, moment by moment.
use Rattle.std.proofs.Common.{◌≡◌, ℕ, ◌+◌, ◌≤◌, true, Option, None, Some, Ok, Err, List, [], ◌∷◌, ◌++◌, length, refl, ap, ◌∙◌, arith}
use Rattle.std.specs.Str.{bytes_eq}
use Rattle.std.proofs.lemmas.Slice.Eq.{bytes_eq-Decides}
use Rattle.telnet_wire.specs.declared.wire.Verb.TheVariants.{Do as DoVerb, Will as WillVerb}
use Rattle.telnet_wire.specs.Items.{WireItem, Opt, Sub}
use Rattle.tn3270e_msg.specs.declared.device.Device.{Device}
use Rattle.codes3270.specs.declared.size.Model.{Model}
use Rattle.codes3270.specs.declared.size.Model.TheVariants.{M2, M3, M4, M5}
use Rattle.tn3270e_msg.specs.declared.functions.FunctionsOffer.TheVariants.{ResponsesAlone}
use Rattle.tn3270e_msg.specs.declared.host_talk.HostState.{HostState}
use Rattle.tn3270e_msg.specs.declared.host_talk.HostState.TheVariants.{Offered, Asked, Asking, Named, Agreed as HostAgreed, Closed as HostClosed}
use Rattle.tn3270e_msg.specs.declared.term_talk.TermState.{TermState}
use Rattle.tn3270e_msg.specs.declared.term_talk.TermState.TheVariants.{Waiting, Willing, TypeAsked, FunctionsAsked, Agreed as TermAgreed, Refused, Closed as TermClosed}
use Rattle.tn3270e_msg.specs.declared.reply.After.TheVariants.{Going, Agreed as AgreedAfter}
use Rattle.tn3270e_msg.specs.declared.reply.Reason.{Reason}
use Rattle.tn3270e_msg.specs.declared.reply.Reply.{Reply}
use Rattle.tn3270e_msg.specs.declared.reply.Reply.TheVariants as reply
use Rattle.tn3270e_msg.specs.declared.reply.OwnedMessage.TheVariants as sent
use Rattle.tn3270e_msg.specs.Device.{device_for, device_of, device_text, has_text}
use Rattle.tn3270e_msg.specs.Functions.{offer, responses}
use Rattle.tn3270e_msg.specs.Talk.{Comes, Will, Do, Hears, Talk, IsLuIfSome, IsOwnedMessage, items_sent, names_asked, payload_sent, message_says, message_sent, follow}
use Rattle.tn3270e_msg.specs.HostTable.{host_transition, answer_transition}
use Rattle.tn3270e_msg.specs.TermTable.{Term, term_transition}
use Rattle.tn3270e_msg.specs.Pair.{Pair, ComesUp, ComesDown, Answer, Answers, Event, Up, Down, Pool, IsStep, Happen, start, IsAnswerTo, HostIsOpen, TermIsOpen, IsSettled, EndsBy, TalksAgree, TalksAlwaysAgree}
use Rattle.tn3270e_msg.proofs.Sets.{wants_by}
use Rattle.tn3270e_msg.proofs.Hearings.{sent_is_heard}
use Rattle.tn3270e_msg.proofs.Letters.{name_is_read_as_itself}

pub data Moment : Type 0 where
  offered : Moment
  willing : Moment
  asked : Moment
  requested : Moment
  asking : Moment
  granted : List ℕ → Moment
  rejected : Reason → Moment
  refused : Reason → Moment
  functions_asked : List ℕ → Moment
  functions_given : List ℕ → Moment
  both_agreed : List ℕ → Moment

abbrev pub host_at : HostState → ℕ → Talk HostState
host_at state left = record { state = state; refusals_left = left }

abbrev pub term_at : Model → Option (List ℕ) → TermState → Term
term_at model wanted state = record { model = model; wanted = wanted; talk = record { state = state; refusals_left = 8 } }

abbrev pub pair_at : Model → Option (List ℕ) → Moment → Pair
pair_at model wanted offered = record { host = host_at Offered 8; term = term_at model wanted Waiting; up = []; down = Opt DoVerb 40 ∷ []; asked = []; answers = [] }
pair_at model wanted willing = record { host = host_at Offered 8; term = term_at model wanted Willing; up = Opt WillVerb 40 ∷ []; down = []; asked = []; answers = [] }
pair_at model wanted asked = record { host = host_at Asked 8; term = term_at model wanted Willing; up = []; down = Sub (payload_sent sent.SendType) ∷ []; asked = []; answers = [] }
pair_at model wanted requested = record { host = host_at Asked 8; term = term_at model wanted TypeAsked; up = Sub (payload_sent (sent.TypeRequest model wanted)) ∷ []; down = []; asked = []; answers = [] }
pair_at model wanted asking = record { host = host_at (Asking (device_for model)) 8; term = term_at model wanted TypeAsked; up = []; down = []; asked = wanted ∷ []; answers = [] }
pair_at model wanted (granted lu) = record { host = host_at (Named (device_for model) lu) 8; term = term_at model wanted TypeAsked; up = []; down = Sub (payload_sent (sent.TypeIs (device_for model) lu)) ∷ []; asked = []; answers = Ok lu ∷ [] }
pair_at model wanted (rejected reason) = record { host = host_at Asked 7; term = term_at model wanted TypeAsked; up = []; down = Sub (payload_sent (sent.TypeReject reason)) ∷ []; asked = []; answers = Err reason ∷ [] }
pair_at model wanted (refused reason) = record { host = host_at Asked 7; term = term_at model wanted (Refused reason); up = []; down = []; asked = []; answers = Err reason ∷ [] }
pair_at model wanted (functions_asked lu) = record { host = host_at (Named (device_for model) lu) 8; term = term_at model wanted (FunctionsAsked lu); up = Sub (payload_sent sent.FunRequest) ∷ []; down = []; asked = []; answers = Ok lu ∷ [] }
pair_at model wanted (functions_given lu) = record { host = host_at (HostAgreed (device_for model) lu) 8; term = term_at model wanted (FunctionsAsked lu); up = []; down = Sub (payload_sent sent.FunIs) ∷ []; asked = []; answers = Ok lu ∷ [] }
pair_at model wanted (both_agreed lu) = record { host = host_at (HostAgreed (device_for model) lu) 8; term = term_at model wanted (TermAgreed lu); up = []; down = []; asked = []; answers = Ok lu ∷ [] }

-- how many events led to a moment
abbrev pub events_at : Moment → ℕ
events_at offered = 0
events_at willing = 1
events_at asked = 2
events_at requested = 3
events_at asking = 4
events_at (granted lu) = 5
events_at (rejected reason) = 5
events_at (refused reason) = 6
events_at (functions_asked lu) = 6
events_at (functions_given lu) = 7
events_at (both_agreed lu) = 8

-- what is known at a moment
abbrev pub IsMoment : Option (List ℕ) → Moment → Type 0
IsMoment wanted (granted lu) = IsAnswerTo wanted (Ok lu)
IsMoment wanted _ = Unit {0}

-- a pair is at a moment, after this many events
pub record IsAt (model : Model) (wanted : Option (List ℕ)) (pair : Pair) (count : ℕ) : Type 0 where
  pub moment : Moment
  pub pair_is : pair ≡ pair_at model wanted moment
  pub is_moment : IsMoment wanted moment
  pub counted : events_at moment ≡ count

pub responses_alone : offer responses ≡ ResponsesAlone
responses_alone = wants_by (2 ∷ []) true true refl refl

-- the type of a model is read as its device
pub own_device : (model : Model) → device_of (device_text (device_for model)) ≡ Some (device_for model)
unfolding device_of
own_device M2 = refl
own_device M3 = refl
own_device M4 = refl
own_device M5 = refl

pub own_text : (model : Model) → has_text (device_for model) (device_text (device_for model)) ≡ true
own_text M2 = refl
own_text M3 = refl
own_text M4 = refl
own_text M5 = refl

pub same_bytes : (lu : List ℕ) → bytes_eq lu lu ≡ true
same_bytes lu = (bytes_eq-Decides lu lu).1 refl

firsts : {A B : Type 0} (a c : A) (b d : B) → ◌≡◌ {A = A × B} (a, b) (c, d) → a ≡ c
firsts {A = A} {B = B} a c b d e = ap (λ (p : A × B). p.0) e

seconds : {A B : Type 0} (a c : A) (b d : B) → ◌≡◌ {A = A × B} (a, b) (c, d) → b ≡ d
seconds {A = A} {B = B} a c b d e = ap (λ (p : A × B). p.1) e

abbrev term_of : Model → Option (List ℕ) → Talk TermState → Term
term_of model wanted talk = record { model = model; wanted = wanted; talk = talk }

-- what an item makes of a pair, where it can say one thing only
host_gave : (old new : Pair) → ComesUp old new → (item : WireItem) (rest : List WireItem) (comes : Comes) → old.up ≡ item ∷ rest
    → ((other : Comes) → Hears item other → other ≡ comes) → (host : Talk HostState) (reply : Reply)
    → follow HostClosed old.host (host_transition old.host.state comes) ≡ (host, reply)
    → new ≡ record { host = host; term = old.term; up = rest; down = old.down ++ items_sent reply; asked = old.asked ++ names_asked reply; answers = old.answers }
host_gave old new g item rest comes next one host reply e =
    let items : g.item ≡ item = let n = g.is_next in cc in
    let rests : g.rest ≡ rest = let n = g.is_next in cc in
    let says : g.takes.comes ≡ comes = one g.takes.comes (rw items at g.takes.hears) in
    let gave : (g.host, g.reply) ≡ (host, reply) = (rw says at g.takes.gives) ∙ e in
    let hosts : g.host ≡ host = firsts g.host host g.reply reply gave in
    let replies : g.reply ≡ reply = seconds g.host host g.reply reply gave in
    rw (hosts, replies, rests) at g.becomes

term_gave : (old new : Pair) → ComesDown old new → (item : WireItem) (rest : List WireItem) (comes : Comes) → old.down ≡ item ∷ rest
    → ((other : Comes) → Hears item other → other ≡ comes) → (talk : Talk TermState) (reply : Reply)
    → follow TermClosed old.term.talk (term_transition old.term.model old.term.wanted old.term.talk.state comes) ≡ (talk, reply)
    → new ≡ record { host = old.host; term = record { model = old.term.model; wanted = old.term.wanted; talk = talk }; up = old.up ++ items_sent reply; down = rest; asked = old.asked; answers = old.answers }
term_gave old new g item rest comes next one talk reply e =
    let items : g.item ≡ item = let n = g.is_next in cc in
    let rests : g.rest ≡ rest = let n = g.is_next in cc in
    let says : g.takes.comes ≡ comes = one g.takes.comes (rw items at g.takes.hears) in
    let gave : (g.term.talk, g.reply) ≡ (talk, reply) = (rw says at g.takes.gives) ∙ e in
    let terms : g.term ≡ term_of old.term.model old.term.wanted talk =
    ap (λ (model : Model). term_of model g.term.wanted g.term.talk) g.takes.model
    ∙ ap (λ (wanted : Option (List ℕ)). term_of old.term.model wanted g.term.talk) g.takes.wanted
    ∙ ap (λ (other : Talk TermState). term_of old.term.model old.term.wanted other) (firsts g.term.talk talk g.reply reply gave) in
    let replies : g.reply ≡ reply = seconds g.term.talk talk g.reply reply gave in
    rw (terms, replies, rests) at g.becomes

pool_gave : (answer : Answer) (old new : Pair) → Answers answer old new → (name : Option (List ℕ)) (rest : List (Option (List ℕ))) (device : Device)
    → old.asked ≡ name ∷ rest → old.host.state ≡ Asking device → (host : Talk HostState) (reply : Reply)
    → follow HostClosed old.host (answer_transition device answer) ≡ (host, reply)
    → new ≡ record { host = host; term = old.term; up = old.up; down = old.down ++ items_sent reply; asked = rest ++ names_asked reply; answers = old.answers ++ answer ∷ [] }
pool_gave answer old new g name rest device next state host reply e =
    let rests : g.rest ≡ rest = let n = g.is_next in cc in
    let devices : g.takes.device ≡ device = let s = g.takes.asking in cc in
    let gave : (g.host, g.reply) ≡ (host, reply) = (rw devices at g.takes.gives) ∙ e in
    let hosts : g.host ≡ host = firsts g.host host g.reply reply gave in
    let replies : g.reply ≡ reply = seconds g.host host g.reply reply gave in
    rw (hosts, replies, rests) at g.becomes

-- what was answered is an answer to the name that was asked for
answer_to : (answer : Answer) (old new : Pair) → Answers answer old new → (name : Option (List ℕ)) (rest : List (Option (List ℕ))) → old.asked ≡ name ∷ rest → IsAnswerTo name answer
answer_to answer old new g name rest next =
    let names : g.name ≡ name = let n = g.is_next in cc in
    rw names at g.is_answer

-- the next moment
record IsNext (model : Model) (wanted : Option (List ℕ)) (moment : Moment) (pair : Pair) : Type 0 where
  pub next : Moment
  pub pair_is : pair ≡ pair_at model wanted next
  pub is_moment : IsMoment wanted next
  pub counted : events_at next ≡ events_at moment + 1

pool_step : (model : Model) (wanted : Option (List ℕ)) (answer : Answer) (new : Pair) → Answers answer (pair_at model wanted asking) new → IsNext model wanted asking new
pool_step model wanted (Ok lu) new g = record {
  next = granted lu;
  pair_is = pool_gave (Ok lu) _ new g wanted [] (device_for model) refl refl (host_at (Named (device_for model) lu) 8) (reply.Sub (sent.TypeIs (device_for model) lu) Going) refl;
  is_moment = answer_to (Ok lu) _ new g wanted [] refl;
  counted = refl;
}
pool_step model wanted (Err reason) new g = record {
  next = rejected reason;
  pair_is = pool_gave (Err reason) _ new g wanted [] (device_for model) refl refl (host_at Asked 7) (reply.Sub (sent.TypeReject reason) Going) refl;
  is_moment = tt;
  counted = refl;
}

request_gives : (model : Model) (wanted : Option (List ℕ)) → IsLuIfSome wanted
    → follow HostClosed (host_at Asked 8) (host_transition Asked (message_says (message_sent (sent.TypeRequest model wanted)))) ≡ (host_at (Asking (device_for model)) 8, reply.AskPool wanted)
request_gives model None wish = rw (own_device model) refl
request_gives model (Some lu) wish = rw (own_device model, name_is_read_as_itself lu wish) refl

grant_gives : (model : Model) (wanted : Option (List ℕ)) (lu : List ℕ) → IsAnswerTo wanted (Ok lu)
    → follow TermClosed (record { state = TypeAsked; refusals_left = 8 }) (term_transition model wanted TypeAsked (message_says (message_sent (sent.TypeIs (device_for model) lu))))
    ≡ (record { state = FunctionsAsked lu; refusals_left = 8 }, reply.Sub sent.FunRequest Going)
grant_gives model None lu h = rw (own_text model, name_is_read_as_itself lu h) refl
grant_gives model (Some other) lu h = rw (own_text model, name_is_read_as_itself lu h.0, ← h.1, same_bytes lu) refl

granted_lu : (model : Model) (wanted : Option (List ℕ)) (lu : List ℕ) → IsAnswerTo wanted (Ok lu) → IsOwnedMessage (sent.TypeIs (device_for model) lu)
granted_lu model None lu h = h
granted_lu model (Some other) lu h = h.0

functions_gives : (model : Model) (lu : List ℕ)
    → follow HostClosed (host_at (Named (device_for model) lu) 8) (host_transition (Named (device_for model) lu) (message_says (message_sent sent.FunRequest))) ≡ (host_at (HostAgreed (device_for model) lu) 8, reply.Sub sent.FunIs AgreedAfter)
functions_gives model lu = rw responses_alone refl

agreement_gives : (model : Model) (wanted : Option (List ℕ)) (lu : List ℕ)
    → follow TermClosed (record { state = FunctionsAsked lu; refusals_left = 8 }) (term_transition model wanted (FunctionsAsked lu) (message_says (message_sent sent.FunIs)))
    ≡ (record { state = TermAgreed lu; refusals_left = 8 }, reply.Agreed)
agreement_gives model wanted lu = rw responses_alone refl

step : (model : Model) (wanted : Option (List ℕ)) → IsLuIfSome wanted → (moment : Moment) → IsMoment wanted moment → (event : Event) (new : Pair) → IsStep event (pair_at model wanted moment) new → IsNext model wanted moment new
step model wanted wish offered h Down new g = record {
  next = willing;
  pair_is = term_gave _ new g (Opt DoVerb 40) [] Do refl (λ c k. k) (record { state = Willing; refusals_left = 8 }) (reply.Opt WillVerb 40) refl;
  is_moment = tt;
  counted = refl;
}
step model wanted wish willing h Up new g = record {
  next = asked;
  pair_is = host_gave _ new g (Opt WillVerb 40) [] Will refl (λ c k. k) (host_at Asked 8) (reply.Sub sent.SendType Going) refl;
  is_moment = tt;
  counted = refl;
}
step model wanted wish asked h Down new g = record {
  next = requested;
  pair_is = term_gave _ new g (Sub (payload_sent sent.SendType)) [] _ refl (sent_is_heard sent.SendType tt) (record { state = TypeAsked; refusals_left = 8 }) (reply.Sub (sent.TypeRequest model wanted) Going) refl;
  is_moment = tt;
  counted = refl;
}
step model wanted wish requested h Up new g = record {
  next = asking;
  pair_is = host_gave _ new g (Sub (payload_sent (sent.TypeRequest model wanted))) [] _ refl (sent_is_heard (sent.TypeRequest model wanted) wish) (host_at (Asking (device_for model)) 8) (reply.AskPool wanted) (request_gives model wanted wish);
  is_moment = tt;
  counted = refl;
}
step model wanted wish asking h (Pool answer) new g = pool_step model wanted answer new g
step model wanted wish (granted lu) h Down new g = record {
  next = functions_asked lu;
  pair_is = term_gave _ new g (Sub (payload_sent (sent.TypeIs (device_for model) lu))) [] _ refl (sent_is_heard (sent.TypeIs (device_for model) lu) (granted_lu model wanted lu h)) (record { state = FunctionsAsked lu; refusals_left = 8 }) (reply.Sub sent.FunRequest Going) (grant_gives model wanted lu h);
  is_moment = tt;
  counted = refl;
}
step model wanted wish (rejected reason) h Down new g = record {
  next = refused reason;
  pair_is = term_gave _ new g (Sub (payload_sent (sent.TypeReject reason))) [] _ refl (sent_is_heard (sent.TypeReject reason) tt) (record { state = Refused reason; refusals_left = 8 }) (reply.Refused reason) refl;
  is_moment = tt;
  counted = refl;
}
step model wanted wish (functions_asked lu) h Up new g = record {
  next = functions_given lu;
  pair_is = host_gave _ new g (Sub (payload_sent sent.FunRequest)) [] _ refl (sent_is_heard sent.FunRequest tt) (host_at (HostAgreed (device_for model) lu) 8) (reply.Sub sent.FunIs AgreedAfter) (functions_gives model lu);
  is_moment = tt;
  counted = refl;
}
step model wanted wish (functions_given lu) h Down new g = record {
  next = both_agreed lu;
  pair_is = term_gave _ new g (Sub (payload_sent sent.FunIs)) [] _ refl (sent_is_heard sent.FunIs tt) (record { state = TermAgreed lu; refusals_left = 8 }) reply.Agreed (agreement_gives model wanted lu);
  is_moment = tt;
  counted = refl;
}
step model wanted wish moment h Up new g = absurd (let e = g.is_next in cc)
step model wanted wish moment h Down new g = absurd (let e = g.is_next in cc)
step model wanted wish moment h (Pool answer) new g = absurd (let e = g.is_next in cc)

host_is_open : (model : Model) (wanted : Option (List ℕ)) (moment : Moment) → HostIsOpen (pair_at model wanted moment).host.state
host_is_open model wanted offered = tt
host_is_open model wanted willing = tt
host_is_open model wanted asked = tt
host_is_open model wanted requested = tt
host_is_open model wanted asking = tt
host_is_open model wanted (granted lu) = tt
host_is_open model wanted (rejected reason) = tt
host_is_open model wanted (refused reason) = tt
host_is_open model wanted (functions_asked lu) = tt
host_is_open model wanted (functions_given lu) = tt
host_is_open model wanted (both_agreed lu) = tt

term_is_open : (model : Model) (wanted : Option (List ℕ)) (moment : Moment) → TermIsOpen (pair_at model wanted moment).term.talk.state
term_is_open model wanted offered = tt
term_is_open model wanted willing = tt
term_is_open model wanted asked = tt
term_is_open model wanted requested = tt
term_is_open model wanted asking = tt
term_is_open model wanted (granted lu) = tt
term_is_open model wanted (rejected reason) = tt
term_is_open model wanted (refused reason) = tt
term_is_open model wanted (functions_asked lu) = tt
term_is_open model wanted (functions_given lu) = tt
term_is_open model wanted (both_agreed lu) = tt

few_at : (moment : Moment) → events_at moment ≤ 8
few_at offered = omega arith
few_at willing = omega arith
few_at asked = omega arith
few_at requested = omega arith
few_at asking = omega arith
few_at (granted lu) = omega arith
few_at (rejected reason) = omega arith
few_at (refused reason) = omega arith
few_at (functions_asked lu) = omega arith
few_at (functions_given lu) = omega arith
few_at (both_agreed lu) = omega arith

ends_at : (model : Model) (wanted : Option (List ℕ)) (moment : Moment) → IsSettled (pair_at model wanted moment)
    → EndsBy model (pair_at model wanted moment).answers (pair_at model wanted moment).host.state (pair_at model wanted moment).term.talk.state
ends_at model wanted offered s = absurd (let e = s.down in cc)
ends_at model wanted willing s = absurd (let e = s.up in cc)
ends_at model wanted asked s = absurd (let e = s.down in cc)
ends_at model wanted requested s = absurd (let e = s.up in cc)
ends_at model wanted asking s = absurd (let e = s.asked in cc)
ends_at model wanted (granted lu) s = absurd (let e = s.down in cc)
ends_at model wanted (rejected reason) s = absurd (let e = s.down in cc)
ends_at model wanted (refused reason) s = refl
ends_at model wanted (functions_asked lu) s = absurd (let e = s.up in cc)
ends_at model wanted (functions_given lu) s = absurd (let e = s.down in cc)
ends_at model wanted (both_agreed lu) s = (refl, refl)

stays_at : (model : Model) (wanted : Option (List ℕ)) → IsLuIfSome wanted → (event : Event) (old new : Pair) (count : ℕ) → IsAt model wanted old count → IsStep event old new → IsAt model wanted new (count + 1)
stays_at model wanted wish event old new count at g =
    let next = step model wanted wish at.moment at.is_moment event new (rw at.pair_is at g) in
    record { moment = next.next; pair_is = next.pair_is; is_moment = next.is_moment; counted = next.counted ∙ ap (λ (n : ℕ). n + 1) at.counted }

runs_at : (model : Model) (wanted : Option (List ℕ)) → IsLuIfSome wanted → (events : List Event) (old new : Pair) (count : ℕ) → IsAt model wanted old count → Happen events old new → IsAt model wanted new (count + length events)
runs_at model wanted wish [] old new count at g = record { moment = at.moment; pair_is = g ∙ at.pair_is; is_moment = at.is_moment; counted = omega (arith, at.counted) }
runs_at model wanted wish (event ∷ events) old new count at g =
    let end = runs_at model wanted wish events g.0 new (count + 1) (stays_at model wanted wish event old g.0 count at g.1) g.2 in
    record { moment = end.moment; pair_is = end.pair_is; is_moment = end.is_moment; counted = omega (arith, end.counted) }

pub talks_always_agree : TalksAlwaysAgree
talks_always_agree model wanted events pair wish g =
    let at = runs_at model wanted wish events (start model wanted) pair 0 (record { moment = offered; pair_is = refl; is_moment = tt; counted = refl }) g in
    let few : length events ≤ 8 = omega (arith, few_at at.moment, at.counted) in
    let agree : TalksAgree model events (pair_at model wanted at.moment) = record {
      host_is_open = host_is_open model wanted at.moment;
      term_is_open = term_is_open model wanted at.moment;
      few = few;
      ends = ends_at model wanted at.moment;
    } in
    rw at.pair_is agree

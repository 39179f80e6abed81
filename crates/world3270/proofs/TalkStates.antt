-- How far the talks of both ends are, read off the moment.
use Rattle.std.proofs.Common.{◌≡◌, true, ℕ, Option, List, Some, refl, ap, sym, ◌∙◌}
use Rattle.std.specs.Prelude.{is_some}
use Rattle.codes3270.specs.declared.size.Model.{Model}
use Rattle.codes3270.specs.declared.size.Model.TheVariants.{M2, M3, M4, M5}
use Rattle.tn3270e_msg.specs.Device.{device_for, model_of}
use Rattle.tn3270e_msg.specs.Talk.{Talk}
use Rattle.tn3270e_msg.specs.TermTable.{Term}
use Rattle.tn3270e_msg.specs.declared.host_talk.HostState.{HostState}
use Rattle.host_core.specs.Session.{agreed_lu, is_agreed}
use Rattle.world3270.specs.refinement.Phases.{IsAgreed, IsHostIn, IsTermTalk, LinkPhase, NegotiationPhase, term_in_talk, term_state_at}
use Rattle.world3270.specs.model.Terminal.{bound_to}

-- the device that a terminal of ours asks for has its model
pub own_model : (model : Model) → model_of (device_for model) ≡ model
own_model M2 = refl
own_model M3 = refl
own_model M4 = refl
own_model M5 = refl

pub is_agreed_on : {model : Model} {lu : List ℕ} (talk : Talk HostState) → IsAgreed model lu talk → is_agreed talk.state ≡ true
is_agreed_on talk a = ap is_agreed a.state_is

pub agreed_on : {model : Model} {lu : List ℕ} (talk : Talk HostState) → IsAgreed model lu talk → agreed_lu talk.state ≡ Some lu
agreed_on talk a = ap agreed_lu a.state_is

-- while it talks the host has agreed at one moment alone
pub agreed_there : (model : Model) (talking : NegotiationPhase) (talk : Talk HostState) → IsHostIn model talking talk → is_agreed talk.state ≡ true → (lu : List ℕ) × (talking ≡ NegotiationPhase.Agreeing lu)
agreed_there model (NegotiationPhase.Agreeing lu) talk is agrees = (lu, refl)
agreed_there model NegotiationPhase.Offering talk is agrees = absurd (let wrong = sym (ap (λ (t : Talk HostState). is_agreed t.state) is) ∙ agrees in cc)
agreed_there model NegotiationPhase.Accepting talk is agrees = absurd (let wrong = sym (ap (λ (t : Talk HostState). is_agreed t.state) is) ∙ agrees in cc)
agreed_there model NegotiationPhase.AskingType talk is agrees = absurd (let wrong = sym (ap (λ (t : Talk HostState). is_agreed t.state) is) ∙ agrees in cc)
agreed_there model NegotiationPhase.NamingType talk is agrees = absurd (let wrong = sym (ap (λ (t : Talk HostState). is_agreed t.state) is) ∙ agrees in cc)
agreed_there model (NegotiationPhase.Granting lu) talk is agrees = absurd (let wrong = sym (ap (λ (t : Talk HostState). is_agreed t.state) is) ∙ agrees in cc)
agreed_there model (NegotiationPhase.AskingFunctions lu) talk is agrees = absurd (let wrong = sym (ap (λ (t : Talk HostState). is_agreed t.state) is) ∙ agrees in cc)
agreed_there model (NegotiationPhase.Rejecting reason) talk is agrees = absurd (let wrong = sym (ap (λ (t : Talk HostState). is_agreed t.state) is) ∙ agrees in cc)
agreed_there model (NegotiationPhase.Rejected reason) talk is agrees = absurd (let wrong = sym (ap (λ (t : Talk HostState). is_agreed t.state) is) ∙ agrees in cc)

-- the state of the terminal's talk
pub term_state : (model : Model) (wanted : Option (List ℕ)) (moment : LinkPhase) (term : Term) → IsTermTalk model wanted moment term → term.talk.state ≡ term_state_at moment
term_state model wanted (LinkPhase.FirstPaint lu number command paints over) term is = is
term_state model wanted (LinkPhase.InSession lu serving) term is = is
term_state model wanted (LinkPhase.Negotiating talking) term is = by_talk talking is
  where
    by_talk : (talking : NegotiationPhase) → IsTermTalk model wanted (LinkPhase.Negotiating talking) term → term.talk.state ≡ term_in_talk talking
    by_talk (NegotiationPhase.Agreeing lu) is = is
    by_talk NegotiationPhase.Offering is = ap (λ (t : Term). t.talk.state) is
    by_talk NegotiationPhase.Accepting is = ap (λ (t : Term). t.talk.state) is
    by_talk NegotiationPhase.AskingType is = ap (λ (t : Term). t.talk.state) is
    by_talk NegotiationPhase.NamingType is = ap (λ (t : Term). t.talk.state) is
    by_talk (NegotiationPhase.Granting lu) is = ap (λ (t : Term). t.talk.state) is
    by_talk (NegotiationPhase.AskingFunctions lu) is = ap (λ (t : Term). t.talk.state) is
    by_talk (NegotiationPhase.Rejecting reason) is = ap (λ (t : Term). t.talk.state) is
    by_talk (NegotiationPhase.Rejected reason) is = ap (λ (t : Term). t.talk.state) is

-- a terminal that is bound serves a session
pub talking_unbound : (model : Model) (wanted : Option (List ℕ)) (talking : NegotiationPhase) (term : Term) → IsTermTalk model wanted (LinkPhase.Negotiating talking) term → is_some (bound_to term.talk.state) ≡ true → ⊥
talking_unbound model wanted talking term is bound = by_talk talking (sym (ap (λ state. is_some (bound_to state)) (term_state model wanted (LinkPhase.Negotiating talking) term is)) ∙ bound)
  where
    by_talk : (talking : NegotiationPhase) → is_some (bound_to (term_in_talk talking)) ≡ true → ⊥
    by_talk NegotiationPhase.Offering bound = absurd (cc)
    by_talk NegotiationPhase.Accepting bound = absurd (cc)
    by_talk NegotiationPhase.AskingType bound = absurd (cc)
    by_talk NegotiationPhase.NamingType bound = absurd (cc)
    by_talk (NegotiationPhase.Granting lu) bound = absurd (cc)
    by_talk (NegotiationPhase.AskingFunctions lu) bound = absurd (cc)
    by_talk (NegotiationPhase.Agreeing lu) bound = absurd (cc)
    by_talk (NegotiationPhase.Rejecting reason) bound = absurd (cc)
    by_talk (NegotiationPhase.Rejected reason) bound = absurd (cc)

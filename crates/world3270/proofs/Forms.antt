-- The data that comes up next has the form and the size that the host awaits.
use Rattle.std.proofs.Common.{◌≡◌, ℕ, Bool, Option, List, [], ◌∷◌, ap, sym, subst, ◌∙◌}
use Rattle.codes3270.specs.declared.size.Model.{Model}
use Rattle.std.specs.Prelude.{⊤}
use Rattle.codes3270.specs.Size.{ScreenSize}
use Rattle.datastream.specs.InboundText.{InboundParts}
use Rattle.datastream.specs.declared.inbound_part.Form.{Form}
use Rattle.host_core.specs.Application.{Application}
use Rattle.host_core.specs.Messages.{ToHost}
use Rattle.world3270.specs.statement.Always.{Always}
use Rattle.host_core.specs.Takes.{form_awaited}
use Rattle.world3270.specs.statement.Forms.{FormsAreAwaited, IsAwaitedBy}
use Rattle.world3270.specs.refinement.LowerLaws.{LowerLaws}
use Rattle.world3270.specs.model.Steps.{run}
use Rattle.world3270.specs.refinement.Phases.{NegotiationPhase, SessionPhase, LinkPhase, IsInFlight, talk_up, served_up, up_at, pending_in, pending_at}
use Rattle.world3270.specs.refinement.Invariant.{LocalState, local_state_of, ServingFact, Fact, ConnectionInvariant}
use Rattle.world3270.specs.refinement.View.{View, view_of}
use Rattle.world3270.specs.model.World.{World, new_world}
use Rattle.world3270.proofs.Queues.{front, nothing}
use Rattle.world3270.proofs.Worlds.{run_good, new_good}

-- where data comes first, it has this form and size
abbrev FirstHas : Form → ScreenSize → List ToHost → Type 0
FirstHas form size [] = ⊤
FirstHas form size (ToHost.TalksUp saying ∷ messages) = ⊤
FirstHas form size (ToHost.Response number verdict ∷ messages) = ⊤
FirstHas form size (ToHost.Data parts ∷ messages) = (parts.form ≡ form) × (parts.size ≡ size)

comes : (form : Form) (size : ScreenSize) (lost : Bool) (queue messages : List ToHost) (parts : InboundParts) (rest : List ToHost) → IsInFlight lost queue messages → queue ≡ ToHost.Data parts ∷ rest → FirstHas form size messages
    → (parts.form ≡ form) × (parts.size ≡ size)
comes form size lost queue [] parts rest under e first = absurd (nothing lost queue (ToHost.Data parts) rest e under)
comes form size lost queue (message ∷ messages) parts rest under e first =
    subst (λ m. FirstHas form size (m ∷ messages)) (sym (front lost queue (ToHost.Data parts) rest message messages e under).0) first

talk_has : (form : Form) (size : ScreenSize) (model : Model) (wanted : Option (List ℕ)) (talking : NegotiationPhase) → FirstHas form size (talk_up model wanted talking)
talk_has form size model wanted NegotiationPhase.Offering = tt
talk_has form size model wanted NegotiationPhase.Accepting = tt
talk_has form size model wanted NegotiationPhase.AskingType = tt
talk_has form size model wanted NegotiationPhase.NamingType = tt
talk_has form size model wanted (NegotiationPhase.Granting lu) = tt
talk_has form size model wanted (NegotiationPhase.AskingFunctions lu) = tt
talk_has form size model wanted (NegotiationPhase.Agreeing lu) = tt
talk_has form size model wanted (NegotiationPhase.Rejecting reason) = tt
talk_has form size model wanted (NegotiationPhase.Rejected reason) = tt

served_has : (scene : LocalState) (serving : SessionPhase) → ServingFact scene serving → FirstHas (form_awaited (pending_in serving)) scene.size (served_up serving)
served_has scene SessionPhase.Deciding fact = tt
served_has scene (SessionPhase.Reading number) fact = tt
served_has scene (SessionPhase.BufferReturning number parts) fact = (ap (λ (p : InboundParts). p.form) fact.says, ap (λ (p : InboundParts). p.size) fact.says)
served_has scene (SessionPhase.DecidingNoteSent number command) fact = tt
served_has scene (SessionPhase.DecidingNoteAnswered number command) fact = tt
served_has scene (SessionPhase.Painting number command wanted over) fact = tt
served_has scene (SessionPhase.AwaitingWriteResponse kind number command) fact = tt
served_has scene SessionPhase.OperatorTyping fact = tt
served_has scene (SessionPhase.Noting number command) fact = tt
served_has scene (SessionPhase.KeySent parts) fact = (fact.0.form, fact.0.size)
served_has scene (SessionPhase.KeySentAfterResponse kind number command parts) fact = tt
served_has scene (SessionPhase.KeyCrossingNote number command parts) fact = (fact.0.form, fact.0.size)
served_has scene (SessionPhase.KeyBeforeNoteResponse number command parts) fact = (fact.0.form, fact.0.size)

first_has : (scene : LocalState) (model : Model) (wanted : Option (List ℕ)) (moment : LinkPhase) → Fact wanted scene moment → FirstHas (form_awaited (pending_at moment)) scene.size (up_at model wanted moment)
first_has scene model wanted (LinkPhase.Negotiating talking) fact = talk_has _ _ model wanted talking
first_has scene model wanted (LinkPhase.FirstPaint lu number command paints over) fact = tt
first_has scene model wanted (LinkPhase.InSession lu serving) fact = served_has scene serving fact

pub awaited : (app : Application) (v : View) (parts : InboundParts) (rest : List ToHost) → ConnectionInvariant app v → v.up ≡ ToHost.Data parts ∷ rest → IsAwaitedBy v.host parts
awaited app v parts rest k e =
    let both = comes (form_awaited (pending_at k.moment)) v.host.size v.lost v.up (up_at v.model k.wanted k.moment) parts rest k.at.goes_up e (first_has (local_state_of v) v.model k.wanted k.moment k.fact) in
    record { form = both.0 ∙ sym (ap form_awaited k.at.pending); size = both.1 }

pub forms_awaited : LowerLaws → Always FormsAreAwaited
forms_awaited given app serves pool models events is lists few are =
    let world : World = run app events (new_world app serves pool models) in
    let g = run_good given app is events (new_world app serves pool models) are (new_good given app is serves pool models lists) in
    λ number parts rest e. awaited app (view_of (world.link number)) parts rest (g.links number) e

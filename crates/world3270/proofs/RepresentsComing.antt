-- What comes down to a terminal may come, at each moment of its connection.
use Rattle.std.proofs.Common.{◌≡◌, ℕ, List, [], ◌∷◌, sym, subst, refl, ◌∙◌, inl, inr, ap}
use Rattle.codes3270.specs.Size.{ScreenSize}
use Rattle.tn3270e_msg.specs.Device.{device_for}
use Rattle.presentation.specs.Sizes.{HasSize}
use Rattle.codes3270.specs.declared.size.Model.{Model}
use Rattle.datastream.specs.Grammar.{CommandParts}
use Rattle.telnet_wire.specs.declared.wire.Verb.TheVariants.{Do}
use Rattle.tn3270e_msg.specs.Talk.{NegotiationMessage}
use Rattle.tn3270e_msg.specs.declared.term_talk.TermState.TheVariants.{Willing}
use Rattle.tn3270e_msg.specs.TermTable.{Term}
use Rattle.tn3270e_msg.specs.declared.reply.OwnedMessage.TheVariants.{SendType, TypeIs, TypeReject, FunIs}
use Rattle.tn3270e_msg.specs.declared.term_talk.TermState.TheVariants.{Willing}
use Rattle.host_core.specs.Application.{Application, IsApplication, IsSizeOf}
use Rattle.host_core.specs.Messages.{ToTerminal}
use Rattle.host_core.specs.NoteLaws.{IsNoteOf}
use Rattle.world3270.specs.statement.Always.{AlwaysOf}
use Rattle.world3270.specs.refinement.LowerLaws.{LowerLaws}
use Rattle.world3270.specs.model.Steps.{run}
use Rattle.world3270.specs.model.Link.{Link}
use Rattle.world3270.specs.refinement.Phases.{IsInFlight, NegotiationPhase, SessionPhase, LinkPhase, IsAt, term_in_talk, term_state_at, down_at, served_down}
use Rattle.world3270.specs.refinement.Invariant.{local_state_of, Fact, ConnectionInvariant, Sizes}
use Rattle.world3270.specs.refinement.RepresentsEnds.{IsSaid, IsOpen, NamesWanted, MayCome}
use Rattle.world3270.specs.refinement.RepresentsLinks.{MayComeAll, NoneCloses, WhatComesMayCome, HasTheSizes}
use Rattle.world3270.specs.model.Terminal.{took}
use Rattle.world3270.specs.refinement.View.{view_of}
use Rattle.world3270.specs.model.World.{World, new_world}
use Rattle.world3270.proofs.Down.{term_view, shape_of_model}
use Rattle.world3270.proofs.Obeys.{obeys}
use Rattle.world3270.proofs.Queues.{front, nothing}
use Rattle.world3270.proofs.Worlds.{run_good, new_good}
use Rattle.world3270.proofs.TalkStates.{term_state}

-- where the application's sizes are the models', so are those that its terminals may have
pub has_size : (app : Application) (model : Model) (size : ScreenSize) → HasTheSizes app → IsSizeOf app model size → HasSize model size
has_size app model size sizes (inl base) = inl (base ∙ sizes.begins)
has_size app model size sizes (inr alternate) = inr (alternate ∙ sizes.alternate model)

module _ (given : LowerLaws) (app : Application) (is : IsApplication app) (sizes : HasTheSizes app) (link : Link) (message : ToTerminal) (rest : List ToTerminal) (e : link.down ≡ message ∷ rest)
    (k : ConnectionInvariant app (view_of link)) where
  -- what comes is the first message that is under way
  is_first : (moment : LinkPhase) (first : ToTerminal) (behind : List ToTerminal) → IsAt (view_of link) k.wanted moment → down_at link.term.display.model moment ≡ first ∷ behind → message ≡ first
  is_first moment first behind at down =
      (front link.lost link.down message rest first behind e (subst (IsInFlight link.lost link.down) down at.goes_down)).0

  -- a saying, in the state that the talk is in
  saying_may : (moment : LinkPhase) (saying : NegotiationMessage) (behind : List ToTerminal) → IsAt (view_of link) k.wanted moment → down_at link.term.display.model moment ≡ ToTerminal.TalksDown saying ∷ behind
      → IsSaid saying → NamesWanted (term_state_at moment) link.term.talk.wanted → MayCome link.term message
  saying_may moment saying behind at down said wish =
      subst (λ m. MayCome link.term m) (sym (is_first moment (ToTerminal.TalksDown saying) behind at down))
      (said, subst (λ state. NamesWanted state link.term.talk.wanted) (sym (term_state link.term.display.model k.wanted moment link.term.talk at.term_talk)) wish)

  -- a record, while the talk goes on
  record_may : (lu : List ℕ) (serving : SessionPhase) (first : ToTerminal) → IsAt (view_of link) k.wanted (LinkPhase.InSession lu serving) → served_down serving ≡ first ∷ []
      → (IsOpen link.term.talk.talk.state → MayCome link.term first) → MayCome link.term message
  record_may lu serving first at down may =
      subst (λ m. MayCome link.term m) (sym (is_first (LinkPhase.InSession lu serving) first [] at down))
      (may (subst IsOpen (sym at.term_talk) tt))

  none : (moment : LinkPhase) → IsAt (view_of link) k.wanted moment → down_at link.term.display.model moment ≡ [] → MayCome link.term message
  none moment at down = absurd (nothing link.lost link.down message rest e (subst (IsInFlight link.lost link.down) down at.goes_down))

  note_may : (lu : List ℕ) (serving : SessionPhase) (number : ℕ) (command : CommandParts) → IsAt (view_of link) k.wanted (LinkPhase.InSession lu serving)
      → link.term.display.size ≡ link.host.size → served_down serving ≡ ToTerminal.Note number command ∷ [] → IsNoteOf link.host.size command → MayCome link.term message
  note_may lu serving number command at same down note =
      record_may lu serving (ToTerminal.Note number command) at down
      (λ is_open. record {
        is_open = is_open;
        note = (given.notes.are_notes link.host.size command (shape_of_model app link.term.display.model link.host.size is k.sizes.host) note).note;
        size = ap (λ (c : CommandParts). c.size) note.is ∙ sym same;
      })

  talk_may : (talking : NegotiationPhase) → IsAt (view_of link) k.wanted (LinkPhase.Negotiating talking) → Fact k.wanted (local_state_of (view_of link)) (LinkPhase.Negotiating talking) → MayCome link.term message
  talk_may NegotiationPhase.Offering at f = saying_may (LinkPhase.Negotiating NegotiationPhase.Offering) (NegotiationMessage.Opt Do 40) [] at refl tt tt
  talk_may NegotiationPhase.AskingType at f = saying_may (LinkPhase.Negotiating NegotiationPhase.AskingType) (NegotiationMessage.Sub SendType) [] at refl tt (subst (λ (t : Term). NamesWanted Willing t.wanted) (sym at.term_talk) f.1)
  talk_may (NegotiationPhase.Granting lu) at f = saying_may (LinkPhase.Negotiating (NegotiationPhase.Granting lu)) (NegotiationMessage.Sub (TypeIs (device_for link.term.display.model) lu)) [] at refl f.1.is_lu tt
  talk_may (NegotiationPhase.Agreeing lu) at f = saying_may (LinkPhase.Negotiating (NegotiationPhase.Agreeing lu)) (NegotiationMessage.Sub FunIs) [] at refl tt tt
  talk_may (NegotiationPhase.Rejecting reason) at f = saying_may (LinkPhase.Negotiating (NegotiationPhase.Rejecting reason)) (NegotiationMessage.Sub (TypeReject reason)) [] at refl tt tt
  talk_may NegotiationPhase.Accepting at f = none (LinkPhase.Negotiating NegotiationPhase.Accepting) at refl
  talk_may NegotiationPhase.NamingType at f = none (LinkPhase.Negotiating NegotiationPhase.NamingType) at refl
  talk_may (NegotiationPhase.AskingFunctions lu) at f = none (LinkPhase.Negotiating (NegotiationPhase.AskingFunctions lu)) at refl
  talk_may (NegotiationPhase.Rejected reason) at f = none (LinkPhase.Negotiating (NegotiationPhase.Rejected reason)) at refl

  serving_may : (lu : List ℕ) (serving : SessionPhase) → Sizes app (view_of link) (LinkPhase.InSession lu serving) → IsAt (view_of link) k.wanted (LinkPhase.InSession lu serving) → Fact k.wanted (local_state_of (view_of link)) (LinkPhase.InSession lu serving)
      → MayCome link.term message
  serving_may lu (SessionPhase.Reading number) s at f = record_may lu (SessionPhase.Reading number) (ToTerminal.ReadBuffer number) at refl (λ is_open. is_open)
  serving_may lu (SessionPhase.Painting number command wanted over) s at f =
      record_may lu (SessionPhase.Painting number command wanted over) (ToTerminal.Paint number wanted over) at refl
      (λ is_open. record {
        is_open = is_open;
        meets = f.meets;
        size = has_size app link.term.display.model wanted.size sizes (subst (λ (s : ScreenSize). IsSizeOf app link.term.display.model s) (sym f.paintable.showable.size) k.sizes.host);
        now = has_size app link.term.display.model link.term.display.size sizes k.sizes.screen;
      })
  serving_may lu (SessionPhase.DecidingNoteSent number command) s at f = note_may lu (SessionPhase.DecidingNoteSent number command) number command at (s.same refl) refl f.1.note
  serving_may lu (SessionPhase.Noting number command) s at f = note_may lu (SessionPhase.Noting number command) number command at (s.same refl) refl f.1
  serving_may lu (SessionPhase.KeyCrossingNote number command parts) s at f = note_may lu (SessionPhase.KeyCrossingNote number command parts) number command at (s.same refl) refl f.2.note
  serving_may lu SessionPhase.Deciding s at f = none (LinkPhase.InSession lu SessionPhase.Deciding) at refl
  serving_may lu (SessionPhase.BufferReturning number parts) s at f = none (LinkPhase.InSession lu (SessionPhase.BufferReturning number parts)) at refl
  serving_may lu (SessionPhase.DecidingNoteAnswered number command) s at f = none (LinkPhase.InSession lu (SessionPhase.DecidingNoteAnswered number command)) at refl
  serving_may lu (SessionPhase.AwaitingWriteResponse kind number command) s at f = none (LinkPhase.InSession lu (SessionPhase.AwaitingWriteResponse kind number command)) at refl
  serving_may lu SessionPhase.OperatorTyping s at f = none (LinkPhase.InSession lu SessionPhase.OperatorTyping) at refl
  serving_may lu (SessionPhase.KeySent parts) s at f = none (LinkPhase.InSession lu (SessionPhase.KeySent parts)) at refl
  serving_may lu (SessionPhase.KeySentAfterResponse kind number command parts) s at f = none (LinkPhase.InSession lu (SessionPhase.KeySentAfterResponse kind number command parts)) at refl
  serving_may lu (SessionPhase.KeyBeforeNoteResponse number command parts) s at f = none (LinkPhase.InSession lu (SessionPhase.KeyBeforeNoteResponse number command parts)) at refl

  moment_may : (moment : LinkPhase) → Sizes app (view_of link) moment → IsAt (view_of link) k.wanted moment → Fact k.wanted (local_state_of (view_of link)) moment → MayCome link.term message
  moment_may (LinkPhase.Negotiating talking) s at f = talk_may talking at f
  moment_may (LinkPhase.FirstPaint lu number command wanted over) s at f =
      saying_may (LinkPhase.FirstPaint lu number command wanted over) (NegotiationMessage.Sub FunIs) (ToTerminal.Paint number wanted over ∷ []) at refl tt tt
  moment_may (LinkPhase.InSession lu serving) s at f = serving_may lu serving s at f

  pub may_come : MayCome link.term message
  may_come = moment_may k.moment k.sizes k.at k.fact

-- the talk goes on at each moment
open_in_talk : (talking : NegotiationPhase) → IsOpen (term_in_talk talking)
open_in_talk NegotiationPhase.Offering = tt
open_in_talk NegotiationPhase.AskingType = tt
open_in_talk (NegotiationPhase.Granting lu) = tt
open_in_talk (NegotiationPhase.Agreeing lu) = tt
open_in_talk (NegotiationPhase.Rejecting reason) = tt
open_in_talk NegotiationPhase.Accepting = tt
open_in_talk NegotiationPhase.NamingType = tt
open_in_talk (NegotiationPhase.AskingFunctions lu) = tt
open_in_talk (NegotiationPhase.Rejected reason) = tt

open_at : (moment : LinkPhase) → IsOpen (term_state_at moment)
open_at (LinkPhase.Negotiating talking) = open_in_talk talking
open_at (LinkPhase.FirstPaint lu number command wanted over) = tt
open_at (LinkPhase.InSession lu serving) = tt

pub is_open : (app : Application) (link : Link) → ConnectionInvariant app (view_of link) → IsOpen link.term.talk.talk.state
is_open app link k = subst IsOpen (sym (term_state link.term.display.model k.wanted k.moment link.term.talk k.at.term_talk)) (open_at k.moment)

all_may : LowerLaws → (app : Application) → IsApplication app → HasTheSizes app → (messages : List ToTerminal) (link : Link) → link.down ≡ messages → ConnectionInvariant app (view_of link)
    → MayComeAll link.term messages × NoneCloses link.term messages
all_may given app is sizes [] link e k = (is_open app link k, tt)
all_may given app is sizes (message ∷ messages) link e k =
    let first = obeys given app is link message messages e k in
    let others = all_may given app is sizes messages (term_view (took link.term message) messages link) refl first.kept in
    ((is_open app link k, may_come given app is sizes link message messages e k, others.0), (first.open_end, others.1))

pub what_comes_may_come : LowerLaws → AlwaysOf WhatComesMayCome
what_comes_may_come given app serves pool models events is lists few are sizes number =
    let world : World = run app events (new_world app serves pool models) in
    let g = run_good given app is events (new_world app serves pool models) are (new_good given app is serves pool models lists) in
    all_may given app is sizes (world.link number).down (world.link number) refl (g.links number)

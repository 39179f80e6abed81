-- Each terminal of a world that represents one over messages has its model.
use Rattle.std.proofs.Common.{◌≡◌, ℕ, Some, ap, refl, subst}
use Rattle.presentation.specs.Sizes.{SizedScreen}
use Rattle.world3270.specs.model.ByteWorld.{ByteWorld, model_at, slot_at}
use Rattle.world3270.specs.model.Places.{EndsAgree}
use Rattle.world3270.specs.refinement.Representation.{IsAt, WorldRepresents}
use Rattle.world3270.specs.model.World.{Place, World, display_at}
use Rattle.world3270.proofs.ByteTerms.{stands_here}

pub model_here : (terminal : ℕ) (old : ByteWorld) (was : World) → EndsAgree was → WorldRepresents old was → (place : Place) → was.place terminal ≡ place
    → model_at terminal old ≡ (display_at was place).model
model_here terminal old was agree stands (Place.Alone display) is =
    let at = subst (λ (p : Place). IsAt (slot_at terminal old) p) is (stands.places terminal) in
    ap (λ (s : SizedScreen). s.model) at.1.screen
model_here terminal old was agree stands (Place.At number) is =
    let here : (was.link number).term_here ≡ Some terminal = (agree terminal number).0 is in
    let stood = stands_here number terminal old was agree stands here in
    ap (λ (s : SizedScreen). s.model) ((stood.term terminal here).holds).is_end.screen_is

pub model_is : (terminal : ℕ) (old : ByteWorld) (was : World) → EndsAgree was → WorldRepresents old was → model_at terminal old ≡ (display_at was (was.place terminal)).model
model_is terminal old was agree stands = model_here terminal old was agree stands (was.place terminal) refl

use Rattle.std.proofs.Common.{◌≡◌, ◌∙◌, ◌<◌, ◌≤◌, ap, sym, arith, Bool, true, false, List, [], length, refl}
use Rattle.codes3270.specs.Size.{cells_in}
use Rattle.datastream.specs.InboundFields.{Returned, returned, leading_text}
use Rattle.shadow.specs.Belief.{Shadow}
use Rattle.shadow.specs.Heard.{heard_long}
use Rattle.shadow.specs.InPlace.{shadow_held, has_fields}
use Rattle.shadow.proofs.Whole.{bare_refused, bare_forgotten}
use Rattle.shadow.proofs.shadow.Shadow.hear_unformatted.Goals as goal
use Rattle.shadow.proofs.shadow.Shadow.hear_unformatted.Goals.{then-self+else-len-leading_text, else-self}

pub returns-in-None : goal.returns-in-None
returns-in-None c =
    let places = c.self.inside.beliefs in
    let parts = c.args.inbound.now.parts in
    let none : returned parts ≡ [] = sym c.returned.ensures.returned ∙ c.in-None.ensures.steps.0 in
    let now : c.args.self.now ≡ shadow_held true places = sym c.self.view_is ∙ ap (λ (k : Bool). shadow_held k places) c.if-self.true in
    let bare : has_fields (shadow_held true places) ≡ false = ap has_fields (sym now) ∙ c.requires in
    let longer : length places < length (leading_text parts) = omega (arith, c.len.ensures.len, ap length c.leading_text.ensures.leading_text) in (
      ap (λ (s : Shadow). heard_long (cells_in c.args.inbound.now.size) s (leading_text parts) (returned parts)) now
          ∙ ap (λ (rs : List Returned). heard_long (cells_in c.args.inbound.now.size) (shadow_held true places) (leading_text parts) rs) none
          ∙ bare_refused (cells_in c.args.inbound.now.size) places (leading_text parts) bare longer,
      refl,
    )

pub returns-in-None-2 : goal.returns-in-None-2
returns-in-None-2 c =
    let places = c.self.inside.beliefs in
    let parts = c.args.inbound.now.parts in
    let knows = c.self.inside.knows in
    let none : returned parts ≡ [] = sym c.returned.ensures.returned ∙ c.in-None.ensures.steps.0 in
    let bare : has_fields (shadow_held knows places) ≡ false = ap has_fields c.self.view_is ∙ c.requires in
    let short : knows ≡ true → length (leading_text parts) ≤ length places =
    λ is. elim c.if-self.branch [
      | then-self+else-len-leading_text w ↦ omega (arith, w.len.ensures.len, ap length w.leading_text.ensures.leading_text)
      | else-self w ↦ absurd (let no = sym is ∙ w.if-self.false in cc)
    ] in
    ap (λ (s : Shadow). heard_long (cells_in c.args.inbound.now.size) s (leading_text parts) (returned parts)) (sym c.self.view_is)
    ∙ ap (λ (rs : List Returned). heard_long (cells_in c.args.inbound.now.size) (shadow_held knows places) (leading_text parts) rs) none
    ∙ bare_forgotten (cells_in c.args.inbound.now.size) knows places (leading_text parts) bare short

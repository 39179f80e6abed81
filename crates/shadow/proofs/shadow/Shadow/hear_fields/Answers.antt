use Rattle.std.proofs.Common.{rules, ◌≡◌, ◌∙◌, ap, sym, subst, length, ℕ, refl, Bool, true, Ok}
use Rattle.codes3270.specs.Size.{cells_in}
use Rattle.datastream.specs.InboundFields.{returned}
use Rattle.shadow.specs.Belief.{Shadow, IsOfSize}
use Rattle.shadow.specs.Filled.{long_after}
use Rattle.shadow.specs.Heard.{heard_parts}
use Rattle.shadow.specs.InPlace.{shadow_held, has_fields, beliefs_held}
use Rattle.shadow.proofs.Changing.{long_changed}
use Rattle.shadow.proofs.Placed.{known_size}
use Rattle.shadow.proofs.Whole.{formatted_parts, formatted_is, long_formatted}
use Rattle.shadow.proofs.shadow.Shadow.hear_fields.Goals as goal

pub returns-in-Ok : goal.returns-in-Ok
returns-in-Ok c =
    let places = c.self.inside.beliefs in
    let after = c.take_fields.new.beliefs in
    let parts = c.args.inbound.now.parts in
    let before = beliefs_held places 0 places in
    let fields : has_fields (shadow_held c.self.inside.knows places) ≡ true = ap has_fields c.self.view_is ∙ sym c.is_formatted.ensures ∙ c.if-not-is_formatted.false in
    let held = formatted_parts c.self.inside.knows places fields in
    let formatted : c.args.self.now ≡ Shadow.Formatted before = sym c.self.view_is ∙ formatted_is c.self.inside.knows places fields in
    let erased = c.in-Ok.erased in
    let n : ℕ = cells_in c.args.inbound.now.size in
    let size : length places ≡ n = known_size places n (subst (IsOfSize n) (sym c.self.view_is ∙ ap (λ (k : Bool). shadow_held k places) held.0) c.requires) in
    let left = (long_changed erased c.returned.result places after (search rules) (search rules) c.take_fields.ensures).0 ∙ ap (long_after (length places) erased before) c.returned.ensures.returned in
    ap (λ (s : Shadow). heard_parts n s parts) formatted
    ∙ ap (λ (m : ℕ). heard_parts m (Shadow.Formatted before) parts) (sym size)
    ∙ c.in-Ok.ensures.0
    ∙ ap Ok (sym (ap (λ (k : Bool). shadow_held k after) held.0 ∙ long_formatted (length places) places after erased (returned parts) held.1 left))

pub check_fields-requires : goal.check_fields-requires
check_fields-requires c =
    let places = c.self.inside.beliefs in
    let parts = c.args.inbound.now.parts in
    let before = beliefs_held places 0 places in
    let fields : has_fields (shadow_held c.self.inside.knows places) ≡ true = ap has_fields c.self.view_is ∙ sym c.is_formatted.ensures ∙ c.if-not-is_formatted.false in
    let held = formatted_parts c.self.inside.knows places fields in
    let n : ℕ = cells_in c.args.inbound.now.size in
    let size : length places ≡ n = known_size places n (subst (IsOfSize n) (sym c.self.view_is ∙ ap (λ (k : Bool). shadow_held k places) held.0) c.requires) in
    sym size

pub returns-in-Err : goal.returns-in-Err
returns-in-Err c =
    let places = c.self.inside.beliefs in
    let parts = c.args.inbound.now.parts in
    let before = beliefs_held places 0 places in
    let fields : has_fields (shadow_held c.self.inside.knows places) ≡ true = ap has_fields c.self.view_is ∙ sym c.is_formatted.ensures ∙ c.if-not-is_formatted.false in
    let held = formatted_parts c.self.inside.knows places fields in
    let n : ℕ = cells_in c.args.inbound.now.size in
    let size : length places ≡ n = known_size places n (subst (IsOfSize n) (sym c.self.view_is ∙ ap (λ (k : Bool). shadow_held k places) held.0) c.requires) in
    let formatted : c.args.self.now ≡ Shadow.Formatted before = sym c.self.view_is ∙ formatted_is c.self.inside.knows places fields in (
      ap (λ (s : Shadow). heard_parts n s parts) formatted ∙ ap (λ (m : ℕ). heard_parts m (Shadow.Formatted before) parts) (sym size) ∙ c.in-Err.ensures,
      refl,
    )

pub invariant_of-self : goal.invariant_of-self
invariant_of-self c = (long_changed c.in-Ok.erased c.returned.result c.self.inside.beliefs c.take_fields.new.beliefs (search rules) (search rules) c.take_fields.ensures).1

use Rattle.std.proofs.Common.{◌≡◌, false, rules, refl, sym, subst, ◌∙◌}
use Rattle.std.proofs.lemmas.Bool.{false≢true}
use Rattle.panels.specs.Items.{is_on_screen}
use Rattle.panels.proofs.Overlapping.{text_part_tells, field_part_meets, field_part_tells}
use Rattle.panels.proofs.draft.Draft.is_overlapping.Goals as goal

pub returns-in_default : goal.returns-in_default
returns-in_default c = (
  λ is. absurd (false≢true is),
  λ (earlier, item, other, before, there, at_earlier, overlap).
      absurd (false≢true (sym (subst (λ shape. is_on_screen shape item ≡ false) c.size-size.ensures (c.in_default.ensures item there)) ∙ overlap.on_screen)),
)

pub returns-in-Text : goal.returns-in-Text
returns-in-Text c =
    let (item, there, on_screen, place) = c.in-Some.ensures in
    text_part_tells c.args.self.now.panels c.args.part c.size-size.result c.in-Text.field-0 c.in-Text.text item c.overlaps_any.result c.in-Text.is c.size-size.ensures (sym there) (c.overlaps_any.ensures item (on_screen, place))

pub returns-then-overlaps_any : goal.returns-then-overlaps_any
returns-then-overlaps_any c =
    let (item, there, on_screen, place) = c.in-Some.ensures in (
      λ met. field_part_meets c.args.self.now.panels c.args.part c.size-size.result c.in-Field.panel c.in-Field.field c.map_or-texts.result item c.in-Field.is c.size-size.ensures (sym there) ((c.if-overlaps_any.ensures item (on_screen, place)).0 refl),
      λ overlap. c.if-overlaps_any.true,
    )

pub returns-else-overlaps_any : goal.returns-else-overlaps_any
returns-else-overlaps_any c =
    let (item, there, on_screen, place) = c.in-Some.ensures in
    field_part_tells c.args.self.now.panels c.args.part c.size-size.result c.in-Field.panel c.in-Field.field c.map_or-texts.result item c.overlaps_any-else-overlaps_any.result
    c.in-Field.is c.size-size.ensures (search rules) (sym there) (λ one. false≢true ((c.if-overlaps_any.ensures item (on_screen, place)).1 one)) (c.overlaps_any-else-overlaps_any.ensures item (on_screen, place))

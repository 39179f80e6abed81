use Rattle.std.proofs.Common.{◌≡◌, Some, true, refl, sym, ◌∙◌, ap, subst, arith}
use Rattle.std.proofs.lemmas.Bool.{false≢true}
use Rattle.std.proofs.lemmas.Option.{same_Some}
use Rattle.panels.specs.Draft.{DraftItem}
use Rattle.panels.specs.Faults.{Overlaps, item_at}
use Rattle.panels.specs.Items.{IsExtentOf, is_on_screen}
use Rattle.panels.specs.Walk.{nth}
use Rattle.panels.proofs.Overlapping.{one_more, overlap_tells}
use Rattle.panels.proofs.draft.Draft.overlaps_any.Goals as goal

pub loop-index-preserved-in_default : goal.loop-index-preserved-in_default
loop-index-preserved-in_default c =
    one_more (λ j. (item other : DraftItem) → (is_on_screen c.args.size item ≡ true) × IsExtentOf c.args.size item c.args.extent → item_at (nth c.args.array j) c.args.self.now.panels ≡ Some other → ¬ Overlaps c.args.size item other)
    c.loop-index.index c.loop-index.invariant
    (λ item other is there overlap.
    false≢true (sym (c.in_default.ensures other (ap (λ part. item_at part c.args.self.now.panels) c.nth.ensures ∙ there)) ∙ overlap.other_on_screen))

pub loop-index-preserved : goal.loop-index-preserved
loop-index-preserved c =
    one_more (λ j. (item other : DraftItem) → (is_on_screen c.args.size item ≡ true) × IsExtentOf c.args.size item c.args.extent → item_at (nth c.args.array j) c.args.self.now.panels ≡ Some other → ¬ Overlaps c.args.size item other)
    c.loop-index.index c.loop-index.invariant
    (λ item other is there overlap.
    let (found, at_found, on_screen, place) = c.in-Some.ensures in
    let same = same_Some found other (sym at_found ∙ ap (λ part. item_at part c.args.self.now.panels) c.nth.ensures ∙ there) in
    let met = (overlap_tells c.args.size item found c.args.extent c.in-Some.other is (on_screen, place)).1 (subst (λ x. Overlaps c.args.size item x) (sym same) overlap) in
    false≢true (sym c.if-meets.false ∙ c.meets.ensures ∙ met))

pub returns-then-meets : goal.returns-then-meets
returns-then-meets c = λ item is.
    let (other, there, on_screen, place) = c.in-Some.ensures in (
      λ met. (
        c.loop-index.index,
        other,
        c.loop-index-test.true,
        ap (λ part. item_at part c.args.self.now.panels) (sym c.nth.ensures) ∙ there,
        (overlap_tells c.args.size item other c.args.extent c.in-Some.other is (on_screen, place)).0 (sym c.meets.ensures ∙ c.if-meets.true),
      ),
      λ overlap. refl,
    )

pub returns : goal.returns
returns c = λ item is. (
  λ met. absurd (false≢true met),
  λ (j, other, below, there, overlap). absurd (c.loop-index.invariant j (omega (arith, below, c.loop-index.auto.index-end, c.loop-index-test.false)) item other is there overlap),
)

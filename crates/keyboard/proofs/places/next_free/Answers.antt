use Rattle.codes3270.specs.Size.{cells_in}
use Rattle.std.proofs.Common.{◌≡◌, ℕ, ◌+◌, ◌%◌, ◌<◌, true, false, length, arith, sym, ◌∙◌, ap, inl, inr, add_assoc}
use Rattle.std.proofs.Math.Nat.{mod-add-mod}
use Rattle.std.proofs.lemmas.Bool.{cases_eq}
use Rattle.datastream.specs.Screen.{last_attribute, ring}
use Rattle.datastream.proofs.Fields.{attribute_before_next}
use Rattle.keyboard.specs.Places.{is_free_at}
use Rattle.keyboard.proofs.Governing.{read_cell}
use Rattle.keyboard.proofs.Searches.{first_onward, none_onward}
use Rattle.keyboard.proofs.Free.{IsCarried, carried}
use Rattle.presentation.proofs.Walks.{start_of, next_of}
use Rattle.keyboard.proofs.places.next_free.Goals as goal

pub loop-step-init : goal.loop-step-init
loop-step-init c =
    let cells = c.args.screen.now.screen.cells in
    let below : c.args.at < length cells = rw c.size-size.ensures.cells c.requires in
    record {
      none_nearer = λ nearer some few. absurd (omega (arith, some, few));
      place = start_of c.args.at (length cells) below;
      below = below;
      over = c.attribute_over-over.ensures ∙ sym (attribute_before_next cells c.args.at below);
    }

pub returns-then-is_free_under : goal.returns-then-is_free_under
returns-then-is_free_under c =
    let cells = c.args.screen.now.screen.cells in
    let size : length cells ≡ cells_in c.size-size.result = c.size-size.ensures.cells ∙ ap cells_in (sym c.size-size.ensures.size) in
    let place : ℕ = (c.args.at + (c.loop-step._step + 1)) % length cells in
    let next : c.next-place.result ≡ (c.loop-step.place + 1) % length cells = rw size c.next-place.ensures.value in
    let there : c.next-place.result ≡ place = next ∙ next_of c.args.at c.loop-step._step c.loop-step.place (length cells) c.loop-step.invariant.place in
    let below : place < length cells = rw (← there, size) c.next-place.ensures.in_range in
    let walk : IsCarried cells place c.cell-cell.result c.or-over.result =
    carried cells place c.cell-cell.result c.loop-step.over c.or-over.result below
    (read_cell cells place c.cell-cell.result (rw (← there) c.cell-cell.ensures.value))
    c.loop-step.invariant.over
    (rw c.attribute.ensures at c.or-over.ensures) in
    let test : is_free_at cells place ≡ true = sym walk.free ∙ sym c.is_free_under.ensures ∙ c.if-is_free_under.true in
    record {
      value = there ∙ sym (first_onward (is_free_at cells) (length cells) c.args.at (c.loop-step._step + 1) (omega arith) (omega (arith, size))
          (λ nearer some few. c.loop-step.invariant.none_nearer nearer some (omega (arith, few))) test);
      in_range = rw (← c.size-size.ensures.size) c.next-place.ensures.in_range;
    }

pub returns : goal.returns
returns c =
    let cells = c.args.screen.now.screen.cells in
    let size : length cells ≡ cells_in c.size-size.result = c.size-size.ensures.cells ∙ ap cells_in (sym c.size-size.ensures.size) in
    record {
      value = c.first.ensures ∙ sym (none_onward (is_free_at cells) (length cells) c.args.at
          (λ nearer some few. c.loop-step.invariant.none_nearer nearer some (omega (arith, few, size))));
      in_range = rw c.first.ensures (omega (arith, c.requires));
    }

pub loop-step-preserved : goal.loop-step-preserved
loop-step-preserved c =
    let cells = c.args.screen.now.screen.cells in
    let size : length cells ≡ cells_in c.size-size.result = c.size-size.ensures.cells ∙ ap cells_in (sym c.size-size.ensures.size) in
    let place : ℕ = (c.args.at + (c.loop-step._step + 1)) % length cells in
    let next : c.next-place.result ≡ (c.loop-step.place + 1) % length cells = rw size c.next-place.ensures.value in
    let there : c.next-place.result ≡ place = next ∙ next_of c.args.at c.loop-step._step c.loop-step.place (length cells) c.loop-step.invariant.place in
    let below : place < length cells = rw (← there, size) c.next-place.ensures.in_range in
    let walk : IsCarried cells place c.cell-cell.result c.or-over.result =
    carried cells place c.cell-cell.result c.loop-step.over c.or-over.result below
    (read_cell cells place c.cell-cell.result (rw (← there) c.cell-cell.ensures.value))
    c.loop-step.invariant.over
    (rw c.attribute.ensures at c.or-over.ensures) in
    let test : is_free_at cells place ≡ false = sym walk.free ∙ sym c.is_free_under.ensures ∙ c.if-is_free_under.false in
    let onward : (place + 1) % length cells ≡ (c.args.at + (c.loop-step._step + 1 + 1)) % length cells =
    mod-add-mod (c.args.at + (c.loop-step._step + 1)) (length cells) 1 ∙ ap (λ (n : ℕ). n % length cells) (add_assoc c.args.at (c.loop-step._step + 1) 1) in
    record {
      none_nearer = λ nearer some few. elim (cases_eq nearer (c.loop-step._step + 1)) [
        | inl same ↦ rw same test
        | inr apart ↦ c.loop-step.invariant.none_nearer nearer some (omega (arith, few, apart))
      ];
      place = there;
      below = rw size c.next-place.ensures.in_range;
      over = walk.next ∙ ap (λ (from : ℕ). last_attribute (ring from cells)) onward;
    }

use Rattle.codes3270.specs.Size.{cells_in}
use Rattle.std.proofs.Common.{◌≡◌, ℕ, ◌+◌, ◌-◌, ◌%◌, ◌<◌, ◌≤◌, true, false, length, arith, sym, ◌∙◌, ap, inl, inr}
use Rattle.std.proofs.lemmas.Bool.{cases_eq}
use Rattle.keyboard.specs.Places.{is_start_at}
use Rattle.keyboard.proofs.Governing.{read_cell}
use Rattle.keyboard.proofs.Searches.{first_backward, none_backward}
use Rattle.keyboard.proofs.WalkedStarts.{start_at, back_at, back_more}
use Rattle.keyboard.proofs.places.start_before.Goals as goal

pub loop-step-init : goal.loop-step-init
loop-step-init c =
    let cells = c.args.screen.now.screen.cells in
    let size : length cells ≡ cells_in c.size-size.result = c.size-size.ensures.cells ∙ ap cells_in (sym c.size-size.ensures.size) in
    let below : c.backward-place.result < length cells = rw size c.backward-place.ensures.in_range in
    let there : c.backward-place.result ≡ (c.args.at + length cells - 1) % length cells = rw size c.backward-place.ensures.value in
    record {
      none_nearer = λ nearer some few. absurd (omega (arith, some, few));
      place = there ∙ sym (back_at (length cells) c.args.at (0 + 1) (omega (arith, below)));
      below = below;
      cell = read_cell cells c.backward-place.result c.cell-cell.result c.cell-cell.ensures.value;
    }

pub returns-then-is_start : goal.returns-then-is_start
returns-then-is_start c =
    let cells = c.args.screen.now.screen.cells in
    let size : length cells ≡ cells_in c.size-size.result = c.size-size.ensures.cells ∙ ap cells_in (sym c.size-size.ensures.size) in
    let back : ℕ = c.loop-step._step + 1 in
    let few : back ≤ length cells = omega (arith, size) in
    let there : c.loop-step.place ≡ (c.args.at + length cells - back) % length cells = c.loop-step.invariant.place ∙ back_at (length cells) c.args.at back few in
    let ahead : c.backward-ahead.result ≡ (c.loop-step.place + length cells - 1) % length cells = rw size c.backward-ahead.ensures.value in
    let test : is_start_at cells c.loop-step.place ≡ true =
    sym (start_at cells c.loop-step.place c.backward-ahead.result c.cell-before.result c.loop-step.cell ahead
    (read_cell cells c.backward-ahead.result c.cell-before.result c.cell-before.ensures.value) c.loop-step.invariant.cell) ∙ sym c.is_start.ensures ∙ c.if-is_start.true in
    record {
      value = there ∙ sym (first_backward (is_start_at cells) (length cells) c.args.at back (omega arith) few
          (λ nearer some less. c.loop-step.invariant.none_nearer nearer some (omega (arith, less))) (rw there at test));
      in_range = rw c.size-size.ensures.cells at c.loop-step.invariant.below;
    }

pub returns : goal.returns
returns c =
    let cells = c.args.screen.now.screen.cells in
    let size : length cells ≡ cells_in c.size-size.result = c.size-size.ensures.cells ∙ ap cells_in (sym c.size-size.ensures.size) in
    record {
      value = c.first.ensures ∙ sym (none_backward (is_start_at cells) (length cells) c.args.at
          (λ nearer some few. c.loop-step.invariant.none_nearer nearer some (omega (arith, few, size))));
      in_range = rw c.first.ensures (omega (arith, c.requires));
    }

pub loop-step-preserved : goal.loop-step-preserved
loop-step-preserved c =
    let cells = c.args.screen.now.screen.cells in
    let size : length cells ≡ cells_in c.size-size.result = c.size-size.ensures.cells ∙ ap cells_in (sym c.size-size.ensures.size) in
    let back : ℕ = c.loop-step._step + 1 in
    let few : back ≤ length cells = omega (arith, size) in
    let there : c.loop-step.place ≡ (c.args.at + length cells - back) % length cells = c.loop-step.invariant.place ∙ back_at (length cells) c.args.at back few in
    let ahead : c.backward-ahead.result ≡ (c.loop-step.place + length cells - 1) % length cells = rw size c.backward-ahead.ensures.value in
    let read = read_cell cells c.backward-ahead.result c.cell-before.result c.cell-before.ensures.value in
    let test : is_start_at cells c.loop-step.place ≡ false =
    sym (start_at cells c.loop-step.place c.backward-ahead.result c.cell-before.result c.loop-step.cell ahead read c.loop-step.invariant.cell)
    ∙ sym c.is_start.ensures ∙ c.if-is_start.false in
    record {
      none_nearer = λ nearer some less. elim (cases_eq nearer back) [
        | inl same ↦ rw same (rw there at test)
        | inr apart ↦ c.loop-step.invariant.none_nearer nearer some (omega (arith, less, apart))
      ];
      place = ahead ∙ back_more (length cells) c.args.at back c.loop-step.place (omega (arith, few)) c.loop-step.invariant.place;
      below = rw size c.backward-ahead.ensures.in_range;
      cell = read;
    }

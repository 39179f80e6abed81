use Rattle.std.proofs.Common.{◌≡◌, ◌+◌, ◌%◌, ◌<◌, ℕ, List, length, ap, sym, ◌∙◌, arith}
use Rattle.codes3270.specs.declared.attribute.Cell.{Cell}
use Rattle.codes3270.specs.declared.attribute.Cell.TheVariants.{Char}
use Rattle.datastream.proofs.Places.{across_none, across_more, length-across}
use Rattle.presentation.proofs.Walks.{start_of, next_of}
use Rattle.presentation.proofs.cells.fill.Goals as goal

pub loop-step-init : goal.loop-step-init
loop-step-init c =
    let below : c.args.from < length c.args.cells.now = rw c.requires.size c.requires.from in
    record {
      so_far = sym (across_none c.args.from (λ (place : ℕ) (old : Cell). Char c.args.code) c.args.cells.now);
      place = start_of c.args.from (length c.args.cells.now) below;
      below = below;
    }

pub loop-step-preserved : goal.loop-step-preserved
loop-step-preserved c =
    let cells : List Cell = c.args.cells.now in
    let size = c.requires.size in
    let from_below : c.args.from < length cells = rw size c.requires.from in
    let step_below : c.loop-step._step < length cells = rw size (omega (arith, c.requires.count)) in
    let next : c.next-place.result ≡ (c.loop-step.place + 1) % length cells = rw size c.next-place.ensures.value in
    record {
      so_far =
          rw (c.set.ensures, c.get.ensures.value, c.loop-step.invariant.so_far, c.loop-step.invariant.place)
          (across_more c.args.from c.loop-step._step (λ (place : ℕ) (old : Cell). Char c.args.code) cells (Char c.args.code) from_below step_below);
      place = next ∙ next_of c.args.from c.loop-step._step c.loop-step.place (length cells) c.loop-step.invariant.place;
      below = rw size c.next-place.ensures.in_range;
    }

pub set-requires : goal.set-requires
set-requires c =
    let long = ap length c.loop-step.invariant.so_far ∙ length-across c.args.from c.loop-step._step (λ (place : ℕ) (old : Cell). Char c.args.code) c.args.cells.now in
    omega (arith, long, c.get.ensures.value, c.loop-step.invariant.below)

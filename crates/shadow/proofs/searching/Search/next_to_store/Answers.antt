use Rattle.std.proofs.Common.{◌∙◌, ◌<◌, ℕ, Some, None, ap, sym, arith}
use Rattle.shadow.specs.Base.{known_base}
use Rattle.shadow.specs.Looks.{stores_from}
use Rattle.shadow.specs.Stores.{store_also}
use Rattle.shadow.proofs.PaintBytes.{none_left}
use Rattle.shadow.proofs.Looking.{passed, here_known}
use Rattle.shadow.proofs.searching.Search.next_to_store.Goals as goal

pub returns-then-place-cells-clause-left : goal.returns-then-place-cells-clause-left
returns-then-place-cells-clause-left c =
    let wants = c.args.wanted.now.cells in
    let known = known_base c.args.base.now in
    let place = c.next_look-place.result in
    let size = c.len-cells.ensures.cells in
    let whole = c.len-cells.ensures.known in
    let look = c.next_look-place.ensures in
    c.loop-self.invariant.left
    ∙ passed wants known c.loop-self.self.look c.loop-self.self.from place (omega (arith, c.size-size.ensures.cells, size, c.requires.whole, look.within)) (omega (arith, whole, look.within)) look.onward c.loop-self.invariant.search look.clear look.passed
    ∙ none_left wants known place (omega (arith, c.size-size.ensures.cells, size, c.requires.whole))

pub returns-in-Some-clause-left : goal.returns-in-Some-clause-left
returns-in-Some-clause-left c =
    let wants = c.args.wanted.now.cells in
    let known = known_base c.args.base.now in
    let place = c.next_look-place.result in
    let size = c.len-cells.ensures.cells in
    let whole = c.len-cells.ensures.known in
    let look = c.next_look-place.ensures in
    let inside : place < c.len-cells.result = omega arith in
    c.loop-self.invariant.left
    ∙ passed wants known c.loop-self.self.look c.loop-self.self.from place (omega (arith, c.size-size.ensures.cells, size, c.requires.whole, look.within)) (omega (arith, whole, look.within)) look.onward c.loop-self.invariant.search look.clear look.passed
    ∙ here_known wants known place (Some c.in-Some.cell) c.known.result (omega (arith, c.size-size.ensures.cells, size, c.requires.whole, inside)) (omega (arith, whole, inside)) c.known.ensures c.in-Some.ensures.stored
    ∙ ap (λ (at : ℕ). store_also (Some c.in-Some.cell) place (stores_from wants known at)) (sym c.at.ensures.from)

pub loop-self-preserved : goal.loop-self-preserved
loop-self-preserved c =
    let wants = c.args.wanted.now.cells in
    let known = known_base c.args.base.now in
    let place = c.next_look-place.result in
    let size = c.len-cells.ensures.cells in
    let whole = c.len-cells.ensures.known in
    let look = c.next_look-place.ensures in
    let inside : place < c.len-cells.result = omega arith in
    record {
      search = c.at.ensures.search;
      left =
          c.loop-self.invariant.left
          ∙ passed wants known c.loop-self.self.look c.loop-self.self.from place (omega (arith, c.size-size.ensures.cells, size, c.requires.whole, look.within)) (omega (arith, whole, look.within)) look.onward c.loop-self.invariant.search look.clear look.passed
          ∙ here_known wants known place None c.known.result (omega (arith, c.size-size.ensures.cells, size, c.requires.whole, inside)) (omega (arith, whole, inside)) c.known.ensures c.in-None.ensures.stored
          ∙ ap (λ (at : ℕ). stores_from wants known at) (sym c.at.ensures.from);
    }

pub returns-clause-left : goal.returns-clause-left
returns-clause-left c =
    c.loop-self.invariant.left ∙ none_left c.args.wanted.now.cells (known_base c.args.base.now) c.loop-self.self.from (omega (arith, c.size-size.ensures.cells, c.len-cells.ensures.cells, c.requires.whole))

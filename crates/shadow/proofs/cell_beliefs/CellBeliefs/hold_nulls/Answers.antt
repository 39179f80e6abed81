use Rattle.std.proofs.Common.{◌≡◌, ◌-◌, ◌++◌, ◌∙◌, ℕ, List, arith, ap, sym, subst, length, replicate, take, drop}
use Rattle.codes3270.specs.Size.{cells_in}
use Rattle.datastream.specs.CellBits.{kept}
use Rattle.datastream.specs.CellCodes.{Packed}
use Rattle.shadow.specs.PackedBeliefs.{place_by, MarksKnown}
use Rattle.shadow.proofs.Keeping.{size_kept}
use Rattle.shadow.proofs.Ranges.{nulled}
use Rattle.shadow.proofs.cell_beliefs.CellBeliefs.hold_nulls.Goals as goal

pub invariant_of-self : goal.invariant_of-self
invariant_of-self c =
    let i = c.self.inside in
    let size : length c.args.self.now ≡ length i.cells.codes = size_kept (place_by i.heads i.cells.attributes i.known i.told) i.cells.codes c.args.self.now c.self.view_is in
    let is : c.put_nulls.new.self.codes ≡ take c.args.from i.cells.codes ++ (replicate (c.args.to - c.args.from) 0 ++ drop c.args.to i.cells.codes) = ap (λ (packed : Packed). packed.codes) c.put_nulls.ensures in
    let kept_ = nulled i.heads i.cells.attributes i.known i.told i.cells.codes c.args.self.now c.self.view_is c.args.from c.args.to c.requires.chars (omega (arith, c.requires.few, size)) c.self.invariant.3
    c.put_range.new.self c.put_nulls.new.self.codes is c.put_range.ensures in
    let same = ap (λ (packed : Packed). packed.attributes) c.put_nulls.ensures in
    let there = ap (λ (packed : Packed). cells_in packed.size) c.put_nulls.ensures in (
      c.self.invariant.0,
      kept_.1 ∙ c.self.invariant.1 ∙ sym there,
      rw there c.self.invariant.2,
      subst (λ (attributes : List ℕ). MarksKnown c.put_range.new.self (kept (place_by i.heads attributes c.put_range.new.self i.told) 0 c.put_nulls.new.self.codes)) (sym same) kept_.2,
    )

pub returns : goal.returns
returns c =
    let i = c.self.inside in
    let size : length c.args.self.now ≡ length i.cells.codes = size_kept (place_by i.heads i.cells.attributes i.known i.told) i.cells.codes c.args.self.now c.self.view_is in
    let is : c.put_nulls.new.self.codes ≡ take c.args.from i.cells.codes ++ (replicate (c.args.to - c.args.from) 0 ++ drop c.args.to i.cells.codes) = ap (λ (packed : Packed). packed.codes) c.put_nulls.ensures in
    let kept_ = nulled i.heads i.cells.attributes i.known i.told i.cells.codes c.args.self.now c.self.view_is c.args.from c.args.to c.requires.chars (omega (arith, c.requires.few, size)) c.self.invariant.3
    c.put_range.new.self c.put_nulls.new.self.codes is c.put_range.ensures in
    ap (λ (attributes : List ℕ). kept (place_by i.heads attributes c.put_range.new.self i.told) 0 c.put_nulls.new.self.codes) (ap (λ (packed : Packed). packed.attributes) c.put_nulls.ensures) ∙ kept_.0

pub put_nulls-requires-clause-few : goal.put_nulls-requires-clause-few
put_nulls-requires-clause-few c =
    let i = c.self.inside in
    let size : length c.args.self.now ≡ length i.cells.codes = size_kept (place_by i.heads i.cells.attributes i.known i.told) i.cells.codes c.args.self.now c.self.view_is in
    omega (arith, c.requires.few, size, c.self.invariant.1)

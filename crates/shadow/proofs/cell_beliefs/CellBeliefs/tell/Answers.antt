use Rattle.std.proofs.Common.{◌≡◌, ◌+◌, ◌++◌, ◌∙◌, ℕ, List, arith, ap, sym, subst, length, take, drop}
use Rattle.std.proofs.lemmas.List.{length-take-le}
use Rattle.codes3270.specs.Size.{cells_in}
use Rattle.datastream.specs.CellBits.{kept}
use Rattle.datastream.specs.CellCodes.{Packed}
use Rattle.shadow.specs.PackedBeliefs.{place_by, MarksKnown}
use Rattle.shadow.proofs.Keeping.{size_kept}
use Rattle.shadow.proofs.Ranges.{tells}
use Rattle.shadow.proofs.cell_beliefs.CellBeliefs.tell.Goals as goal

pub put_characters-requires : goal.put_characters-requires
put_characters-requires c =
    let i = c.self.inside in
    let size : length c.args.self.now ≡ length i.cells.codes = size_kept (place_by i.heads i.cells.attributes i.known i.told) i.cells.codes c.args.self.now c.self.view_is in
    let short : length (take c.min-count.result c.args.text.now) ≡ c.min-count.result = length-take-le c.min-count.result c.args.text.now (omega (arith, c.min-count.ensures)) in
    omega (arith, short, size, c.min-count.ensures, c.requires.few, c.requires.chars, c.self.invariant.1)

pub invariant_of-self : goal.invariant_of-self
invariant_of-self c =
    let i = c.self.inside in
    let size : length c.args.self.now ≡ length i.cells.codes = size_kept (place_by i.heads i.cells.attributes i.known i.told) i.cells.codes c.args.self.now c.self.view_is in
    let mid : List ℕ = take c.min-count.result c.args.text.now in
    let is : c.put_characters.new.self.codes ≡ take c.args.from i.cells.codes ++ (mid ++ drop (c.args.from + length mid) i.cells.codes) = ap (λ (packed : Packed). packed.codes) c.put_characters.ensures in
    let kept_ = tells i.heads i.cells.attributes i.known i.told i.cells.codes c.args.self.now c.self.view_is c.args.from c.args.to c.requires.chars (omega (arith, c.requires.few, size)) c.self.invariant.3
    c.put_range.new.self c.put_range-2.new.self c.put_range-3.new.self c.put_characters.new.self.codes c.args.text.now c.min-count.result c.min-count.ensures is c.put_range.ensures c.put_range-2.ensures c.put_range-3.ensures in
    let same = ap (λ (packed : Packed). packed.attributes) c.put_characters.ensures in
    let there = ap (λ (packed : Packed). cells_in packed.size) c.put_characters.ensures in (
      c.self.invariant.0,
      kept_.1 ∙ c.self.invariant.1 ∙ sym there,
      rw there c.self.invariant.2,
      subst (λ (attributes : List ℕ). MarksKnown c.put_range.new.self (kept (place_by i.heads attributes c.put_range.new.self c.put_range-3.new.self) 0 c.put_characters.new.self.codes)) (sym same) kept_.2,
    )

pub returns : goal.returns
returns c =
    let i = c.self.inside in
    let size : length c.args.self.now ≡ length i.cells.codes = size_kept (place_by i.heads i.cells.attributes i.known i.told) i.cells.codes c.args.self.now c.self.view_is in
    let mid : List ℕ = take c.min-count.result c.args.text.now in
    let is : c.put_characters.new.self.codes ≡ take c.args.from i.cells.codes ++ (mid ++ drop (c.args.from + length mid) i.cells.codes) = ap (λ (packed : Packed). packed.codes) c.put_characters.ensures in
    let kept_ = tells i.heads i.cells.attributes i.known i.told i.cells.codes c.args.self.now c.self.view_is c.args.from c.args.to c.requires.chars (omega (arith, c.requires.few, size)) c.self.invariant.3
    c.put_range.new.self c.put_range-2.new.self c.put_range-3.new.self c.put_characters.new.self.codes c.args.text.now c.min-count.result c.min-count.ensures is c.put_range.ensures c.put_range-2.ensures c.put_range-3.ensures in
    ap (λ (attributes : List ℕ). kept (place_by i.heads attributes c.put_range.new.self c.put_range-3.new.self) 0 c.put_characters.new.self.codes) (ap (λ (packed : Packed). packed.attributes) c.put_characters.ensures) ∙ kept_.0

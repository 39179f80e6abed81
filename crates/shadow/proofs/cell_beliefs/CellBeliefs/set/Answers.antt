use Rattle.std.proofs.Common.{◌≡◌, ◌<◌, ◌∙◌, ℕ, not, arith, ap, sym, subst, length, set, List}
use Rattle.std.proofs.lemmas.List.{length-set}
use Rattle.codes3270.specs.Size.{ScreenSize, cells_in}
use Rattle.datastream.specs.CellBits.{kept}
use Rattle.datastream.specs.CellCodes.{code_in}
use Rattle.datastream.specs.Screen.{is_char}
use Rattle.shadow.specs.declared.cell_belief.CellBelief.{CellBelief}
use Rattle.shadow.specs.PackedBeliefs.{place_by, MarksKnown}
use Rattle.shadow.proofs.Keeping.{size_kept, put_kept, put_marked}
use Rattle.shadow.proofs.cell_beliefs.CellBeliefs.set.Goals as goal

pub returns-clause-beliefs : goal.returns-clause-beliefs
returns-clause-beliefs c =
    let i = c.self.inside in
    let size : length c.args.self.now ≡ length i.cells.codes = size_kept (place_by i.heads i.cells.attributes i.known i.told) i.cells.codes c.args.self.now c.self.view_is in
    let low : c.args.at < length i.cells.codes = omega (arith, c.requires, size) in
    ap (λ (codes : List ℕ). kept (place_by (set i.heads c.args.at c.head_of.result) c.set.new.self.attributes c.put.new.self c.put-2.new.self) 0 codes) c.set.ensures.codes
    ∙ put_kept i.heads i.cells.attributes i.known i.told i.cells.codes c.args.at c.args.place (omega (arith, c.self.invariant.0, c.self.invariant.1, c.self.invariant.2, low)) low
    c.head_of.result c.head_of.ensures (code_in c.packed.result) c.packed.ensures.kept c.set.new.self.attributes c.put.new.self c.put-2.new.self
    (not (is_char c.packed.result)) c.is_known.result c.is_told.result c.packed.ensures.attribute c.is_known.ensures c.is_told.ensures c.set.ensures.attributes c.put.ensures c.put-2.ensures
    ∙ ap (λ (ps : List CellBelief). set ps c.args.at c.args.place) c.self.view_is

pub returns-clause-size : goal.returns-clause-size
returns-clause-size c = ap length (returns-clause-beliefs c) ∙ length-set c.args.self.now c.args.at c.args.place

pub invariant_of-self : goal.invariant_of-self
invariant_of-self c =
    let i = c.self.inside in
    let size : length c.args.self.now ≡ length i.cells.codes = size_kept (place_by i.heads i.cells.attributes i.known i.told) i.cells.codes c.args.self.now c.self.view_is in
    let low : c.args.at < length i.cells.codes = omega (arith, c.requires, size) in (
      length-set i.heads c.args.at c.head_of.result ∙ c.self.invariant.0,
      ap length c.set.ensures.codes ∙ length-set i.cells.codes c.args.at (code_in c.packed.result) ∙ c.self.invariant.1 ∙ ap (λ (shape : ScreenSize). cells_in shape) (sym c.set.ensures.size),
      rw c.set.ensures.size c.self.invariant.2,
      subst (λ (codes : List ℕ). MarksKnown c.put.new.self (kept (place_by (set i.heads c.args.at c.head_of.result) c.set.new.self.attributes c.put.new.self c.put-2.new.self) 0 codes)) (sym c.set.ensures.codes)
          (put_marked i.heads i.cells.attributes i.known i.told i.cells.codes c.args.at c.args.place (omega (arith, c.self.invariant.0, c.self.invariant.1, c.self.invariant.2, low)) low
          c.head_of.result c.head_of.ensures (code_in c.packed.result) c.packed.ensures.kept c.set.new.self.attributes c.put.new.self c.put-2.new.self
          (not (is_char c.packed.result)) c.is_known.result c.is_told.result c.packed.ensures.attribute c.is_known.ensures c.is_told.ensures c.set.ensures.attributes c.put.ensures c.put-2.ensures
          c.self.invariant.3),
    )

pub set-requires : goal.set-requires
set-requires c =
    let i = c.self.inside in
    let size : length c.args.self.now ≡ length i.cells.codes = size_kept (place_by i.heads i.cells.attributes i.known i.told) i.cells.codes c.args.self.now c.self.view_is in
    omega (arith, c.requires, size, c.self.invariant.1)

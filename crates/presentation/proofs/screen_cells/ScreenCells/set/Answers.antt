use Rattle.std.proofs.Common.{◌≤◌, ◌∙◌, ℕ, length, map, set, not, nat_eq, if◌then◌else◌, ap, sym, subst, arith}
use Rattle.std.proofs.lemmas.List.{length-set}
use Rattle.codes3270.specs.Size.{ScreenSize, cells_in, most_cells}
use Rattle.codes3270.specs.declared.attribute.Cell.{Cell}
use Rattle.datastream.specs.CellBits.{has_bit}
use Rattle.datastream.specs.CellCodes.{code_in}
use Rattle.datastream.specs.Screen.{is_char}
use Rattle.presentation.proofs.KeptCells.{size, set_kept, set_coded}
use Rattle.presentation.proofs.screen_cells.ScreenCells.set.Goals as goal

pub set-requires : goal.set-requires
set-requires c =
    let i = c.self.inside.packed in
    omega (arith, c.requires, size i.attributes i.codes c.args.self.now c.self.view_is, c.self.invariant.size)

pub returns : goal.returns
returns c =
    let i = c.self.inside.packed in
    set_kept i.attributes i.codes c.args.self.now c.self.view_is c.set.new.self.attributes c.set.new.self.codes c.args.at c.args.cell
    (c.set.ensures.codes ∙ ap (λ (cell : Cell). set i.codes c.args.at (code_in cell)) c.new.ensures)
    (λ other. c.set.ensures.attributes other ∙ ap (λ (cell : Cell). if nat_eq other c.args.at then not (is_char cell) else has_bit i.attributes other) c.new.ensures)

pub invariant_of-self : goal.invariant_of-self
invariant_of-self c =
    let i = c.self.inside.packed in
    let are = c.set.ensures.codes ∙ ap (λ (cell : Cell). set i.codes c.args.at (code_in cell)) c.new.ensures in
    let shape = ap (λ (size : ScreenSize). cells_in size) c.set.ensures.size in
    record {
      size = ap length are ∙ length-set i.codes c.args.at (code_in c.args.cell) ∙ c.self.invariant.size ∙ sym shape;
      few = subst (λ (count : ℕ). count ≤ most_cells) (sym shape) c.self.invariant.few;
      codes =
          ap (map code_in) (returns c)
          ∙ set_coded c.args.self.now i.codes c.args.at c.args.cell (ap (map code_in) (sym c.self.view_is) ∙ c.self.invariant.codes)
          ∙ sym are;
    }

use Rattle.std.proofs.Common.{◌+◌, ◌≤◌, ◌∙◌, ℕ, length, map, ap, sym, subst, arith}
use Rattle.std.proofs.lemmas.List.{length-map}
use Rattle.codes3270.specs.Size.{ScreenSize, cells_in, most_cells}
use Rattle.datastream.specs.CellCodes.{code_in}
use Rattle.presentation.proofs.CellRuns.{length-placed}
use Rattle.presentation.proofs.KeptCells.{size, put_kept, put_coded}
use Rattle.presentation.proofs.screen_cells.ScreenCells.put_characters.Goals as goal

pub store_characters-requires : goal.store_characters-requires
store_characters-requires c =
    let i = c.self.inside.packed in
    omega (arith, c.requires, size i.attributes i.codes c.args.self.now c.self.view_is, c.self.invariant.size)

pub returns : goal.returns
returns c =
    let i = c.self.inside.packed in
    let room : c.args.from + length c.args.text.now ≤ length i.codes = omega (arith, c.requires, size i.attributes i.codes c.args.self.now c.self.view_is) in
    put_kept i.attributes i.codes c.args.self.now c.self.view_is c.store_characters.new.self.attributes c.store_characters.new.self.codes c.args.from c.args.text.now room
    c.store_characters.ensures.codes c.store_characters.ensures.attributes

pub invariant_of-self : goal.invariant_of-self
invariant_of-self c =
    let i = c.self.inside.packed in
    let shape = ap (λ (size : ScreenSize). cells_in size) c.store_characters.ensures.size in
    let coded =
    ap (map code_in) (returns c)
    ∙ put_coded c.args.self.now i.codes c.args.from c.args.text.now (ap (map code_in) (sym c.self.view_is) ∙ c.self.invariant.codes)
    ∙ sym c.store_characters.ensures.codes in
    record {
      size =
          ap length (sym coded) ∙ length-map _ code_in ∙ ap length (returns c) ∙ length-placed c.args.from c.args.text.now c.args.self.now c.requires
          ∙ size i.attributes i.codes c.args.self.now c.self.view_is ∙ c.self.invariant.size ∙ sym shape;
      few = subst (λ (count : ℕ). count ≤ most_cells) (sym shape) c.self.invariant.few;
      codes = coded;
    }

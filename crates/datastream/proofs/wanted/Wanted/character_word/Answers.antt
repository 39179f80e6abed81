use Rattle.std.proofs.Common.{◌≡◌, ap, arith}
use Rattle.codes3270.specs.Size.{cells_in, most_cells}
use Rattle.datastream.specs.CellBits.{kept}
use Rattle.datastream.specs.Wanted.{WantedScreen, want_by, is_character}
use Rattle.datastream.proofs.Keeping.{marked_bits}
use Rattle.datastream.proofs.wanted.Wanted.character_word.Goals as goal

pub returns : goal.returns
returns c =
    let i = c.self.inside in
    let same_cells : cells_in i.cells.size ≡ cells_in c.args.self.now.size = ap (λ (screen : WantedScreen). cells_in screen.size) c.self.view_is in
    marked_bits is_character i.characters (kept (want_by i.cells.attributes i.characters) 0 i.cells.codes) c.args.self.now.cells (cells_in c.args.self.now.size) most_cells c.args.index c.word.result
    (omega (arith, c.self.invariant.0.size, same_cells)) (omega (arith, c.self.invariant.0.few, same_cells)) (ap (λ (screen : WantedScreen). screen.cells) c.self.view_is) c.self.invariant.1.characters_are c.word.ensures

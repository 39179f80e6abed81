use Rattle.std.proofs.Common.{◌≡◌, List, true, sym, ◌∙◌, ap}
use Rattle.codes3270.specs.declared.attribute.Cell.{Cell}
use Rattle.codes3270.specs.declared.attribute.Cell.TheVariants.{Char}
use Rattle.datastream.specs.Screen.{is_char_at}
use Rattle.presentation.specs.Places.{attribute_places}
use Rattle.presentation.specs.Sizes.{SizedScreen}
use Rattle.presentation.proofs.AttributePlaces.{attributes_set}
use Rattle.presentation.proofs.screen.Screen.set_char.Goals as goal

pub invariant_of-self : goal.invariant_of-self
invariant_of-self c =
    let cells : List Cell = c.self.inside.buffer.screen.cells in
    let free : is_char_at cells c.args.at ≡ true = rw c.self.view_is c.requires.free in
    c.self.invariant
    ∙ sym (attributes_set 0 c.args.at cells (Char c.args.byte) (sym free))
    ∙ ap (λ (sized : SizedScreen). attribute_places sized.screen.cells 0) (sym c.set_cell.ensures)

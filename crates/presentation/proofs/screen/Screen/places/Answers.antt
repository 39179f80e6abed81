use Rattle.codes3270.specs.Size.{cells_in}
use Rattle.std.proofs.Common.{◌≡◌, List, ℕ, length, subst}
use Rattle.codes3270.specs.declared.attribute.Cell.{Cell}
use Rattle.presentation.specs.Places.{attribute_places}
use Rattle.presentation.specs.Index.{AreAscending}
use Rattle.presentation.proofs.AttributePlaces.{are_ascending}
use Rattle.presentation.proofs.screen.Screen.places.Goals as goal

pub returns-clause-ascending : goal.returns-clause-ascending
returns-clause-ascending c =
    let cells : List Cell = c.self.inside.buffer.screen.cells in
    let size : length cells ≡ cells_in c.self.inside.buffer.size = c.cells-cells.ensures.sized.cells in
    rw (c.places.ensures.value, c.self.invariant, ← c.self.view_is)
    (subst (λ (count : ℕ). AreAscending count (attribute_places cells 0)) size (are_ascending cells))

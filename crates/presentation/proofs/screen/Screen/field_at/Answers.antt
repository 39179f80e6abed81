use Rattle.codes3270.specs.Size.{cells_in}
use Rattle.std.proofs.Common.{◌≡◌, ◌<◌, List, ℕ, length, sym, subst}
use Rattle.codes3270.specs.declared.attribute.Cell.{Cell}
use Rattle.datastream.proofs.Fields.{attribute_over_governed}
use Rattle.presentation.specs.Places.{attribute_places}
use Rattle.presentation.specs.Index.{IsNearest, place_of}
use Rattle.presentation.proofs.AttributePlaces.{are_ascending, formatted, place_holds, nearest_governs, none_listed}
use Rattle.presentation.proofs.screen.Screen.field_at.Goals as goal

pub returns-in_err-number-clause-none : goal.returns-in_err-number-clause-none
returns-in_err-number-clause-none c = rw c.from_residual.ensures (none_listed c.args.self.now.screen.cells c.in_err-number.ensures.none)

pub returns-clause-formatted : goal.returns-clause-formatted
returns-clause-formatted c =
    let cells : List Cell = c.args.self.now.screen.cells in
    let number : ℕ = c.in_ok-number.number in
    let listed : number < length (attribute_places cells 0) = c.in_ok-number.ensures.nearest.listed in
    formatted cells (place_of cells number) ((are_ascending cells).within number listed) (place_holds cells number listed)

pub returns-clause-nearest : goal.returns-clause-nearest
returns-clause-nearest c =
    let cells : List Cell = c.args.self.now.screen.cells in
    let size : cells_in c.args.self.now.size ≡ length cells = sym c.field_number_at.ensures.size in
    let below : c.args.at < length cells = rw (← size) c.requires in
    let nearest : IsNearest (length cells) (attribute_places cells 0) c.args.at c.in_ok-number.number =
    subst (λ (count : ℕ). IsNearest count (attribute_places cells 0) c.args.at c.in_ok-number.number) size c.in_ok-number.ensures.nearest in
    rw c.field_number.ensures (nearest_governs cells c.args.at c.in_ok-number.number below nearest)

pub returns-clause-governs : goal.returns-clause-governs
returns-clause-governs c =
    let cells : List Cell = c.args.self.now.screen.cells in
    let size : cells_in c.args.self.now.size ≡ length cells = sym c.field_number_at.ensures.size in
    let below : c.args.at < length cells = rw (← size) c.requires in
    let nearest : IsNearest (length cells) (attribute_places cells 0) c.args.at c.in_ok-number.number =
    subst (λ (count : ℕ). IsNearest count (attribute_places cells 0) c.args.at c.in_ok-number.number) size c.in_ok-number.ensures.nearest in
    rw c.field_number.ensures
    (attribute_over_governed cells c.args.at (place_of cells c.in_ok-number.number) below (nearest_governs cells c.args.at c.in_ok-number.number below nearest))

use Rattle.std.proofs.Common.{◌≡◌, List, get_or, sym, ◌∙◌, ap}
use Rattle.std.proofs.lemmas.Option.{get_or_from_slice_get}
use Rattle.codes3270.specs.declared.attribute.Cell.{Cell}
use Rattle.codes3270.specs.declared.attribute.Cell.TheVariants.{Char}
use Rattle.datastream.specs.Screen.{is_char}
use Rattle.presentation.specs.Places.{attribute_places}
use Rattle.presentation.specs.Sizes.{SizedScreen}
use Rattle.presentation.proofs.AttributePlaces.{attributes_set, modified_alike}
use Rattle.presentation.proofs.screen.Screen.set_mdt.Goals as goal

pub invariant_of-self : goal.invariant_of-self
invariant_of-self c =
    let cells : List Cell = c.self.inside.buffer.screen.cells in
    let read : get_or cells c.args.at (Char 0) ≡ c.cell.result = get_or_from_slice_get cells c.args.at c.cell.result (Char 0) c.cell.ensures.value in
    let alike : is_char c.with_mdt-cell.result ≡ is_char (get_or cells c.args.at (Char 0)) =
    ap is_char c.with_mdt-cell.ensures ∙ modified_alike c.cell.result ∙ ap is_char (sym read) in
    c.self.invariant
    ∙ sym (attributes_set 0 c.args.at cells c.with_mdt-cell.result alike)
    ∙ ap (λ (sized : SizedScreen). attribute_places sized.screen.cells 0) (sym c.set_cell.ensures)

pub returns : goal.returns
returns c =
    let cells : List Cell = c.self.inside.buffer.screen.cells in
    let read : get_or cells c.args.at (Char 0) ≡ c.cell.result = get_or_from_slice_get cells c.args.at c.cell.result (Char 0) c.cell.ensures.value in
    rw (c.set_cell.ensures, c.with_mdt-cell.ensures, ← read, ← c.self.view_is)

use Rattle.std.proofs.Common.{◌<◌, length, ap, sym, subst, arith}
use Rattle.codes3270.specs.Size.{cells_in}
use Rattle.datastream.specs.InboundFields.{IsStorableCell}
use Rattle.presentation.specs.Sizes.{SizedScreen}
use Rattle.presentation.proofs.buffer.Buffer.cell.Goals as goal

pub returns-clause-storable : goal.returns-clause-storable
returns-clause-storable c =
    let i = c.self.inside in
    let same = ap (λ (s : SizedScreen). cells_in s.size) c.self.view_is in
    let inside : c.get.result < length i.cells = omega (arith, same, c.get.ensures.value, c.requires, c.self.invariant.cells) in
    subst IsStorableCell (sym c.get-2.ensures) (c.self.invariant.sendable.storable c.get.result c.get-2.result inside)

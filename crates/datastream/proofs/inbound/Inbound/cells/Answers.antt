use Rattle.std.proofs.Common.{◌≡◌, ◌∙◌, refl, All}
use Rattle.codes3270.specs.Size.{cells_in}
use Rattle.datastream.specs.declared.inbound_part.Form.TheVariants.{Buffer}
use Rattle.datastream.specs.InboundText.{IsProperPart}
use Rattle.datastream.specs.InboundReading.{parts_in}
use Rattle.datastream.proofs.InboundData.{inbound_proper, buffer_whole}
use Rattle.datastream.proofs.InboundSlices.{cells_whole, cells_proper}
use Rattle.datastream.proofs.inbound.Inbound.cells.Goals as goal

pub returns-clause-cells : goal.returns-clause-cells
returns-clause-cells c =
    let of_form : c.self.inside.form ≡ Buffer = rw (← c.self.view_is) at c.requires in
    rw (← c.self.view_is) (rw of_form refl)

pub returns-clause-whole : goal.returns-clause-whole
returns-clause-whole c =
    let of_form : c.self.inside.form ≡ Buffer = rw (← c.self.view_is) at c.requires in
    let proper : All (IsProperPart (cells_in c.self.inside.size) Buffer) (parts_in (cells_in c.self.inside.size) Buffer c.self.inside.text.now) = rw of_form at (inbound_proper _ c.self.invariant.0) in
    rw (← c.self.view_is) (cells_whole (cells_in c.self.inside.size) _ proper ∙ rw of_form at (buffer_whole _ c.self.invariant.0 of_form))

pub returns-clause-proper : goal.returns-clause-proper
returns-clause-proper c =
    let of_form : c.self.inside.form ≡ Buffer = rw (← c.self.view_is) at c.requires in
    let proper : All (IsProperPart (cells_in c.self.inside.size) Buffer) (parts_in (cells_in c.self.inside.size) Buffer c.self.inside.text.now) = rw of_form at (inbound_proper _ c.self.invariant.0) in
    cells_proper (cells_in c.self.inside.size) _ proper

pub returns-clause-sent : goal.returns-clause-sent
returns-clause-sent c = rw (← c.self.view_is) c.self.invariant.0

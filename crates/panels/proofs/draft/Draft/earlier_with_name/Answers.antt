use Rattle.std.proofs.Common.{length}
use Rattle.panels.specs.declared.fault.Location.TheVariants as part
use Rattle.panels.specs.Faults.{name_at}
use Rattle.panels.specs.Index.{IsIndexTo}
use Rattle.panels.proofs.Naming.{part_earlier}
use Rattle.panels.proofs.draft.Draft.earlier_with_name.Goals as goal

pub returns-in-Panel : goal.returns-in-Panel
returns-in-Panel c =
    let index : IsIndexTo name_at c.args.self.now.panels (part.Panel (length c.args.self.now.panels)) c.self.inside.panel_names = rw (← c.self.view_is) c.self.invariant.panels_are in
    part_earlier c.args.self.now.panels c.args.part c.in-Panel.field-0 c.self.inside.panel_names c.earlier_in.result c.in-Panel.is index (rw c.name.ensures at c.earlier_in.ensures)

pub returns-in-Field : goal.returns-in-Field
returns-in-Field c = rw c.in-Field.is c.earlier_item_with_name.ensures

use Rattle.std.proofs.Common.{length}
use Rattle.panels.specs.declared.fault.Location.TheVariants as part
use Rattle.panels.specs.Faults.{copied_name_at, name_at}
use Rattle.panels.specs.Index.{IsIndexTo}
use Rattle.panels.proofs.Naming.{item_earlier}
use Rattle.panels.proofs.draft.Draft.earlier_item_with_name.Goals as goal

pub returns : goal.returns
returns c =
    let fields : IsIndexTo name_at c.args.self.now.panels (part.Field (length c.args.self.now.panels) 0) c.self.inside.field_names = rw (← c.self.view_is) c.self.invariant.fields_are in
    let copies : IsIndexTo copied_name_at c.args.self.now.panels (part.Field (length c.args.self.now.panels) 0) c.self.inside.copied_names = rw (← c.self.view_is) c.self.invariant.copies_are in
    item_earlier c.args.self.now.panels c.args.panel c.args.field c.self.inside.field_names c.self.inside.copied_names c.earlier_in-3.result fields copies
    (rw c.name-name.ensures at c.in_default.ensures) (rw c.copied_name.ensures at c.in_default-earlier_in.ensures) (rw c.name-name.ensures at c.earlier_in-3.ensures)

use Rattle.std.proofs.Common.{◌≡◌, Some, ap}
use Rattle.std.specs.Prelude.{option_map}
use Rattle.panels.specs.Faults.{HasFieldNamed}
use Rattle.panels.proofs.Naming.{lost_cursor}
use Rattle.panels.proofs.draft.PanelDraft.has_lost_cursor.Goals as goal

pub returns-in-Some : goal.returns-in-Some
returns-in-Some c =
    let named : c.args.self.now.cursor ≡ Some c.in-Some.name.now = rw (← c.self.view_is) (ap (option_map (λ name. name.now)) c.in-Some.is) in
    lost_cursor c.has_field_named.result c.args.self.now.cursor c.in-Some.name.now (λ name. HasFieldNamed name c.args.self.now) named c.has_field_named.ensures

use Rattle.std.proofs.Common.{◌∙◌, ap, sym}
use Rattle.std.specs.Prelude.{option_copied}
use Rattle.panels.specs.Draft.{DraftItem}
use Rattle.panels.proofs.Naming.{value_found}
use Rattle.panels.proofs.draft.Draft.field_named.Goals as goal

pub returns-then-item : goal.returns-then-item
returns-then-item c =
    value_found c.args.self.now.panels c.args.name.now c.in_ok-panel.panel c.in_ok-panel.field c.in_ok-item.item.now c.in_ok-panel.ensures (sym c.item.ensures ∙ ap option_copied c.in_ok-item.was)
    (sym (ap (λ (item : DraftItem). item.is_value) c.item-2.view_is) ∙ c.if-item.true)

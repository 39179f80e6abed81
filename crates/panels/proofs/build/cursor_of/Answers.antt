use Rattle.std.proofs.Common.{◌≡◌, ◌∙◌, ap, sym, subst, rules}
use Rattle.std.specs.Option.{option_map_or}
use Rattle.std.specs.Prelude.{All, IfSome, None, Some, find, slice_get, bytes_eq, option_copied, option_map}
use Rattle.panels.specs.Defines.{IsCursorBy}
use Rattle.panels.proofs.Linking.{cursor_found, cursor_first}
use Rattle.panels.proofs.build.cursor_of.Goals.{in-Some, in-None}
use Rattle.panels.proofs.build.cursor_of.Goals as goal

pub returns : goal.returns
returns c =
    let fields = c.args.fields.now in
    let chosen : c.map_or.result ≡ option_map_or (λ field. field.extent.first) (option_copied c.match-name.field) 0 = search rules in
    elim c.match-name.branch [
      | in-Some w ↦
          let name = w.in-Some.name.now in
          let at : c.map_or.result ≡ option_map_or (λ field. field.extent.first) (find (λ field. bytes_eq field.name name) fields) 0 =
          chosen ∙ ap (λ f. option_map_or (λ field. field.extent.first) (option_copied f) 0) w.field-is ∙ ap (λ f. option_map_or (λ field. field.extent.first) f 0) w.field_named-field.ensures in
          let there : ¬ All (λ field. ¬ (field.name ≡ name)) fields =
          subst (λ o. IfSome o (λ name. ¬ All (λ field. ¬ (field.name ≡ name.now)) fields)) w.in-Some.is c.requires in
          subst (λ o. IsCursorBy o fields c.map_or.result) (sym (ap (option_map (λ name. name.now)) w.in-Some.is))
          (subst (IsCursorBy (Some name) fields) (sym at) (cursor_found fields name there))
      | in-None w ↦
          let at : c.map_or.result ≡ option_map_or (λ field. field.extent.first) (slice_get fields 0) 0 =
          chosen ∙ ap (λ f. option_map_or (λ field. field.extent.first) (option_copied f) 0) w.field-is ∙ ap (λ f. option_map_or (λ field. field.extent.first) f 0) w.first-field.ensures.value in
          subst (λ o. IsCursorBy o fields c.map_or.result) (sym (ap (option_map (λ name. name.now)) w.in-None.is))
          (subst (IsCursorBy None fields) (sym at) (cursor_first fields))
    ]

use Rattle.std.proofs.Common.{◌≡◌, ◌<◌, ◌∙◌, [], length, ap, sym, subst, rules, Some}
use Rattle.std.specs.Prelude.{All, option_copied}
use Rattle.std.specs.Option.{option_map_or}
use Rattle.std.proofs.lemmas.Option.{slice_get-get_or}
use Rattle.codes3270.specs.Size.{cells_in}
use Rattle.datastream.specs.Wanted.{WantedScreen}
use Rattle.datastream.specs.declared.wanted.Want.TheVariants as want
use Rattle.panels.specs.declared.panel.Field.{Field}
use Rattle.panels.specs.declared.panel.TextItem.{TextItem}
use Rattle.panels.specs.Panel.{PanelParts, IsLaidOut, size_of}
use Rattle.panels.specs.Put.{FitsOn, field_spoken}
use Rattle.panels.specs.Screen.{is_fresh, IsWantedOf, wanted_cursor}
use Rattle.panels.proofs.Putting.{all_fit, cursor_within, put_all}
use Rattle.panels.proofs.Screens.{all_there, is_screen_of}
use Rattle.panels.proofs.panel.Panel.put_items.Goals as goal

pub put_stoppers-requires : goal.put_stoppers-requires
put_stoppers-requires c =
    let panel = c.args.self.now in
    let laid : IsLaidOut panel = rw (← c.self.view_is) c.self.invariant in
    let size : c.args.wanted.now.size ≡ size_of panel = c.requires.size in
    subst (λ fields. All (λ (field : Field). FitsOn c.args.wanted.now.size field.extent) fields)
    (sym (c.as_slice-fields.ensures.value ∙ ap (λ (p : PanelParts). p.fields) c.self.view_is))
    (all_fit (λ (field : Field). field.extent) panel c.args.wanted.now.size panel.fields size laid.fields)

pub put_fields-requires : goal.put_fields-requires
put_fields-requires c =
    let panel = c.args.self.now in
    let laid : IsLaidOut panel = rw (← c.self.view_is) c.self.invariant in
    let size : c.put_message.new.wanted.size ≡ size_of panel = c.put_message.ensures.0 ∙ c.put_stoppers.ensures.0 ∙ c.requires.size in
    subst (λ fields. All (λ (field : Field). FitsOn c.put_message.new.wanted.size field.extent) fields)
    (sym (c.as_slice-fields.ensures.value ∙ ap (λ (p : PanelParts). p.fields) c.self.view_is))
    (all_fit (λ (field : Field). field.extent) panel c.put_message.new.wanted.size panel.fields size laid.fields)

pub put_texts-requires : goal.put_texts-requires
put_texts-requires c =
    let panel = c.args.self.now in
    let laid : IsLaidOut panel = rw (← c.self.view_is) c.self.invariant in
    let size : c.put_fields.new.wanted.size ≡ size_of panel =
    c.put_fields.ensures.0 ∙ c.put_message.ensures.0 ∙ c.put_stoppers.ensures.0 ∙ c.requires.size in
    subst (λ texts. All (λ (text : TextItem). FitsOn c.put_fields.new.wanted.size text.extent) texts)
    (sym (c.as_slice.ensures.value ∙ ap (λ (p : PanelParts). p.texts) c.self.view_is))
    (all_fit (λ (text : TextItem). text.extent) panel c.put_fields.new.wanted.size panel.texts size laid.texts)

pub set_cursor_and_reset-requires : goal.set_cursor_and_reset-requires
set_cursor_and_reset-requires c =
    let panel = c.args.self.now in
    let laid : IsLaidOut panel = rw (← c.self.view_is) c.self.invariant in
    let sized : c.put_texts.new.wanted.size ≡ size_of panel =
    c.put_texts.ensures.0 ∙ c.put_fields.ensures.0 ∙ c.put_message.ensures.0 ∙ c.put_stoppers.ensures.0 ∙ c.requires.size in
    let chosen : c.map_or-cursor.result ≡ option_map_or (λ field. field.extent.first) (option_copied c.field_of-spoken.result) c.self.inside.cursor = search rules in
    let aimed : c.map_or-cursor.result ≡ wanted_cursor panel c.args.message =
    chosen ∙ ap (λ field. option_map_or (λ field. field.extent.first) field c.self.inside.cursor) c.field_of-spoken.ensures
    ∙ ap (option_map_or (λ field. field.extent.first) (field_spoken panel.fields c.args.message)) (ap (λ (p : PanelParts). p.cursor) c.self.view_is) in
    subst (λ shape. c.map_or-cursor.result < cells_in shape) (sym sized)
    (subst (λ cursor. cursor < cells_in (size_of panel)) (sym aimed) (cursor_within panel c.args.message laid))

pub returns-clause-wanted : goal.returns-clause-wanted
returns-clause-wanted c =
    let fresh : c.is_fresh.result ≡ is_fresh c.args.message = search rules in
    let panel = c.args.self.now in
    let sized : c.put_texts.new.wanted.size ≡ size_of panel =
    c.put_texts.ensures.0 ∙ c.put_fields.ensures.0 ∙ c.put_message.ensures.0 ∙ c.put_stoppers.ensures.0 ∙ c.requires.size in
    let chosen : c.map_or-cursor.result ≡ option_map_or (λ field. field.extent.first) (option_copied c.field_of-spoken.result) c.self.inside.cursor = search rules in
    let aimed : c.map_or-cursor.result ≡ wanted_cursor panel c.args.message =
    chosen ∙ ap (λ field. option_map_or (λ field. field.extent.first) field c.self.inside.cursor) c.field_of-spoken.ensures
    ∙ ap (option_map_or (λ field. field.extent.first) (field_spoken panel.fields c.args.message)) (ap (λ (p : PanelParts). p.cursor) c.self.view_is) in
    let whole : length c.put_texts.new.wanted.cells ≡ cells_in (size_of panel) =
    all_there c.cells-whole.result c.put_texts.new.wanted.cells c.put_texts.new.wanted.size (size_of panel) c.cells-whole.ensures.cells c.cells-whole.ensures.size sized in
    let spoken : c.title_of-title.result.now ≡ option_map_or (λ field. field.title) (field_spoken panel.fields c.args.message) [] =
    c.title_of-title.ensures.title ∙ ap (λ field. option_map_or (λ field. field.title) field []) c.field_of-spoken.ensures in
    subst (λ screen. IsWantedOf panel c.args.values.now c.args.message c.args.keep screen) (sym c.set_cursor_and_reset.ensures)
    (record {
      size = sized;
      cells = λ cell below.
          let fits : cell < length c.put_texts.new.wanted.cells = subst (λ n. cell < n) (sym whole) below in
          slice_get-get_or c.put_texts.new.wanted.cells cell want.Keep fits
          ∙ ap Some
          (put_all panel c.args.values.now c.args.message c.args.keep c.title_of-title.result.now c.as_slice.result.now c.as_slice-fields.result.now c.args.wanted.now
          c.put_stoppers.new.wanted c.put_message.new.wanted c.put_fields.new.wanted c.put_texts.new.wanted (c.requires.size) spoken
          (c.as_slice.ensures.value ∙ ap (λ (p : PanelParts). p.texts) c.self.view_is) (c.as_slice-fields.ensures.value ∙ ap (λ (p : PanelParts). p.fields) c.self.view_is)
          c.requires.nulls
          c.put_stoppers.ensures c.put_message.ensures c.put_fields.ensures c.put_texts.ensures cell want.Keep below);
      cursor = aimed;
      reset = fresh;
    })

pub returns-clause-screen : goal.returns-clause-screen
returns-clause-screen c =
    let panel = c.args.self.now in
    let sized : c.put_texts.new.wanted.size ≡ size_of panel =
    c.put_texts.ensures.0 ∙ c.put_fields.ensures.0 ∙ c.put_message.ensures.0 ∙ c.put_stoppers.ensures.0 ∙ c.requires.size in
    let whole : length c.put_texts.new.wanted.cells ≡ cells_in (size_of panel) =
    all_there c.cells-whole.result c.put_texts.new.wanted.cells c.put_texts.new.wanted.size (size_of panel) c.cells-whole.ensures.cells c.cells-whole.ensures.size sized in
    is_screen_of panel c.args.values.now c.args.message c.args.keep c.set_cursor_and_reset.new.self
    (subst (λ (screen : WantedScreen). length screen.cells ≡ cells_in (size_of panel)) (sym c.set_cursor_and_reset.ensures) whole)
    (returns-clause-wanted c)

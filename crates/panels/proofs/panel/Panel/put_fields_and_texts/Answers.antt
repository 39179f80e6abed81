use Rattle.std.proofs.Common.{◌≡◌, ◌<◌, ◌∙◌, length, ap, sym, subst, false, Some}
use Rattle.std.specs.Prelude.{All}
use Rattle.std.proofs.lemmas.Option.{slice_get-get_or}
use Rattle.codes3270.specs.Size.{cells_in}
use Rattle.datastream.specs.Wanted.{WantedScreen}
use Rattle.datastream.specs.declared.wanted.Want.TheVariants as want
use Rattle.panels.specs.declared.panel.Field.{Field}
use Rattle.panels.specs.Panel.{PanelParts, IsLaidOut, size_of}
use Rattle.panels.specs.Put.{FitsOn}
use Rattle.panels.proofs.Putting.{all_fit}
use Rattle.panels.proofs.Screens.{all_there, is_screen_of}
use Rattle.panels.proofs.ValuesPut.{values_put}
use Rattle.panels.proofs.panel.Panel.put_fields_and_texts.Goals as goal

pub put_fields-requires : goal.put_fields-requires
put_fields-requires c =
    let panel = c.args.self.now in
    let laid : IsLaidOut panel = rw (← c.self.view_is) c.self.invariant in
    let size : c.args.wanted.now.size ≡ size_of panel = ap (λ (screen : WantedScreen). screen.size) c.requires.kept in
    subst (λ fields. All (λ (field : Field). FitsOn c.args.wanted.now.size field.extent) fields)
    (sym (c.as_slice.ensures.value ∙ ap (λ (p : PanelParts). p.fields) c.self.view_is))
    (all_fit (λ (field : Field). field.extent) panel c.args.wanted.now.size panel.fields size laid.fields)

pub returns-clause-screen : goal.returns-clause-screen
returns-clause-screen c =
    let panel = c.args.self.now in
    let before = c.args.wanted.now in
    let put = c.put_texts.new.wanted in
    let size : before.size ≡ size_of panel = ap (λ (screen : WantedScreen). screen.size) c.requires.kept in
    let sized : put.size ≡ size_of panel = c.put_texts.ensures.0 ∙ c.put_fields.ensures.0 ∙ size in
    let whole : length put.cells ≡ cells_in (size_of panel) =
    all_there c.cells-whole.result put.cells put.size (size_of panel) c.cells-whole.ensures.cells c.cells-whole.ensures.size sized in
    is_screen_of panel c.args.values.now c.args.message.now false (record put { cursor = before.cursor; reset = before.reset }) whole
    (record {
      size = sized;
      cells = λ cell below.
          let fits : cell < length put.cells = subst (λ n. cell < n) (sym whole) below in
          slice_get-get_or put.cells cell want.Keep fits
          ∙ ap Some
          (values_put panel c.args.values.now c.args.message.now c.as_slice-2.result.now c.as_slice.result.now before c.put_fields.new.wanted put c.requires.kept
          (c.as_slice-2.ensures.value ∙ ap (λ (p : PanelParts). p.texts) c.self.view_is) (c.as_slice.ensures.value ∙ ap (λ (p : PanelParts). p.fields) c.self.view_is)
          c.put_fields.ensures c.put_texts.ensures cell want.Keep below);
      cursor = ap (λ (screen : WantedScreen). screen.cursor) c.requires.kept;
      reset = ap (λ (screen : WantedScreen). screen.reset) c.requires.kept;
    })

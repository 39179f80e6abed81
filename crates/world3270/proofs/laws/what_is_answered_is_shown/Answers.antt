use Rattle.world3270.proofs.ShownFields.{other_texts_are_not}
use Rattle.world3270.proofs.ShownPanels.{fields_are_shown, panel_is_shown, panel_is_shown_over_bytes}
use Rattle.world3270.proofs.laws.what_is_answered_is_shown.Goals as goal

pub returns-clause-messages : goal.returns-clause-messages
returns-clause-messages c = panel_is_shown c.what_is_given.ensures

pub returns-clause-fields : goal.returns-clause-fields
returns-clause-fields c =
    fields_are_shown c.painted_fields_are_there.ensures.written c.painted_fields_are_there.ensures.kept (panel_is_shown c.what_is_given.ensures)

pub returns-clause-bytes : goal.returns-clause-bytes
returns-clause-bytes c =
    panel_is_shown_over_bytes
    (record {
      application = c.panels_are_shown.ensures.application;
      attributes = c.fields_are_written.ensures.attributes;
      written = c.fields_are_written.ensures.characters;
      kept = c.kept_fields_are_whole.ensures.whole;
      on_screen = c.fields_are_on_the_screen.ensures;
      texts = c.texts_are_written.ensures;
    })
    (fields_are_shown c.painted_fields_are_there.ensures.written c.painted_fields_are_there.ensures.kept (panel_is_shown c.what_is_given.ensures))

pub returns-clause-others : goal.returns-clause-others
returns-clause-others c = other_texts_are_not

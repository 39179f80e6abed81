use Rattle.host_core.proofs.MessageRows.{paints_take_notes, held_takes_notes, same_attributes_take_notes}
use Rattle.host_core.proofs.Notes.{notes_are_notes, notes_overwrite, notes_are_over_characters, notes_write_protected}
use Rattle.host_core.proofs.laws.notes_are_written.Goals as goal

pub returns : goal.returns
returns c = record {
  notes = notes_are_notes;
  overwrites = notes_overwrite c.written_is_read.ensures c.what_a_note_leaves.ensures.noted c.what_a_note_leaves.ensures.bare;
  over_characters = notes_are_over_characters;
  protected = notes_write_protected;
  painted = paints_take_notes;
  held = held_takes_notes c.kept_since_the_write.ensures.round;
  same_attributes = same_attributes_take_notes;
}

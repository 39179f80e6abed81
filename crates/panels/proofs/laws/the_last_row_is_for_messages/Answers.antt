use Rattle.panels.proofs.MessageRow.{row_is_left, row_is_message, room_is_row}
use Rattle.panels.proofs.laws.the_last_row_is_for_messages.Goals as goal

pub returns : goal.returns
returns c = record { left = row_is_left; message = row_is_message; room = room_is_row }

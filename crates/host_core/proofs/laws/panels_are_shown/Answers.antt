use Rattle.host_core.proofs.Showing.{panels_shown, screens_wanted}
use Rattle.host_core.proofs.Writable.{panels_ask}
use Rattle.host_core.proofs.laws.panels_are_shown.Goals as goal

pub returns : goal.returns
returns c = record { application = panels_shown c.the_last_row_is_for_messages.ensures.left c.kept_fields_are_whole.ensures.whole c.kept_fields_are_whole.ensures.nothing_else; wanted = screens_wanted; screens = panels_ask }

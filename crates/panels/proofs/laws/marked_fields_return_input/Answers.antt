use Rattle.panels.proofs.Marked.{marked_panels_return, marked_sets_return, without_fields_return}
use Rattle.panels.proofs.laws.marked_fields_return_input.Goals as goal

pub returns : goal.returns
returns c = record { marked = marked_panels_return; in_set = marked_sets_return; no_fields = without_fields_return }

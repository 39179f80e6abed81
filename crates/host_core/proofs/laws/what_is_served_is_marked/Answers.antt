use Rattle.host_core.proofs.Marking.{served_is_marked}
use Rattle.host_core.proofs.laws.what_is_served_is_marked.Goals as goal

pub returns : goal.returns
returns c = served_is_marked c.marked_fields_return_input.ensures.in_set c.marked_fields_return_input.ensures.no_fields

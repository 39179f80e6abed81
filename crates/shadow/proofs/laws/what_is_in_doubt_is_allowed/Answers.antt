use Rattle.shadow.proofs.Doubt.{doubt_input, doubt_allows, doubt_lists, doubt_size, doubt_once}
use Rattle.shadow.proofs.ExactHeard.{doubt_exact, doubt_protected}
use Rattle.shadow.proofs.StorableHeard.{doubt_stored}
use Rattle.shadow.proofs.laws.what_is_in_doubt_is_allowed.Goals as goal

pub returns : goal.returns
returns c = record { allowed = doubt_allows; input = doubt_input; listed = doubt_lists; size = doubt_size; exact = doubt_exact; protected = doubt_protected; stored = doubt_stored; once = doubt_once }

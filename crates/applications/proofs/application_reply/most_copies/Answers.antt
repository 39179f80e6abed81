use Rattle.std.proofs.Common.{refl}
use Rattle.applications.specs.Applications.{most_copies}
use Rattle.applications.proofs.application_reply.most_copies.Goals as goal

pub returns : goal.returns
unfolding most_copies
returns c = refl

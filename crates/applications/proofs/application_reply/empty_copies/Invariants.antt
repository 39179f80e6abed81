use Rattle.std.proofs.Common.{◌≡◌}
use Rattle.applications.specs.Applications.{with_copies_emptied}
use Rattle.applications.proofs.application_reply.empty_copies.Given as goal

abbrev pub invariant-loop-index : goal.invariant-loop-index
invariant-loop-index l = l.values ≡ with_copies_emptied l.panels l.stem l.index l.initial.values

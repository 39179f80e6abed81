use Rattle.std.proofs.Common.{◌≡◌, drop}
use Rattle.host_core.specs.Acts.{first_missing, learned}
use Rattle.host_core.specs.Learning.{is_missing_now}
use Rattle.host_core.proofs.Learned.{first_by}
use Rattle.host_core.proofs.learning.first_missing.Given as goal

abbrev pub invariant-loop-field : goal.invariant-loop-field
invariant-loop-field l = first_by (is_missing_now l.shadow l.values) (drop l.field-index l.fields) ≡ first_missing (learned l.shadow l.fields l.values) l.fields

use Rattle.std.proofs.Common.{◌≡◌, drop}
use Rattle.std.specs.List.{list_any}
use Rattle.host_core.specs.Acts.{is_in_doubt}
use Rattle.host_core.proofs.acting.is_some_in_doubt.Given as goal

abbrev pub invariant-loop-field : goal.invariant-loop-field
invariant-loop-field l = list_any (is_in_doubt l.shadow) (drop l.field-index l.fields) ≡ list_any (is_in_doubt l.shadow) l.fields

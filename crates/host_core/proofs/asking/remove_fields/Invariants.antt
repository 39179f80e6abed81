use Rattle.std.proofs.Common.{◌≡◌, drop}
use Rattle.panels.specs.Values.{without_fields}
use Rattle.host_core.proofs.asking.remove_fields.Given as goal

abbrev pub invariant-loop-field : goal.invariant-loop-field
invariant-loop-field l = without_fields (drop l.field-index l.fields) l.values ≡ without_fields l.fields l.fn.values

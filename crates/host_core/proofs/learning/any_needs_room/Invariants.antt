use Rattle.std.proofs.Common.{◌≡◌, drop}
use Rattle.std.specs.List.{list_any}
use Rattle.host_core.specs.Learning.{needs_room}
use Rattle.host_core.proofs.learning.any_needs_room.Given as goal

abbrev pub invariant-loop-field : goal.invariant-loop-field
invariant-loop-field l = list_any (needs_room l.shadow l.values) (drop l.field-index l.fields) ≡ list_any (needs_room l.shadow l.values) l.fields

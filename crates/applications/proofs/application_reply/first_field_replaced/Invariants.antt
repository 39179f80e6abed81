use Rattle.std.proofs.Common.{◌≡◌, drop}
use Rattle.applications.specs.Applications.{first_field_replaced}
use Rattle.applications.proofs.application_reply.first_field_replaced.Given as goal

abbrev pub invariant-loop-field : goal.invariant-loop-field
invariant-loop-field l = first_field_replaced l.fields ≡ first_field_replaced (drop l.field-index l.fields)

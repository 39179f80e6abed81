use Rattle.std.proofs.Common.{◌≡◌, ◌++◌, drop, string_bytes}
use Rattle.std.specs.List.{flat_map}
use Rattle.applications.specs.QuestionLines.{field_line}
use Rattle.applications.proofs.question_line.put_fields.Given as goal

abbrev pub invariant-loop-field : goal.invariant-loop-field
invariant-loop-field l =
    string_bytes l.text ++ flat_map (field_line l.values) (drop l.field-index l.fields)
    ≡ string_bytes l.fn.text ++ flat_map (field_line l.values) l.fields

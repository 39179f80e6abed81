use Rattle.std.proofs.Common.{◌≡◌, drop}
use Rattle.applications.specs.Applications.{with_texts}
use Rattle.applications.proofs.Replies.{AreKnownBefore}
use Rattle.applications.proofs.application_reply.set_values.Given as goal

abbrev pub invariant-loop-field : goal.invariant-loop-field
invariant-loop-field l = record {
  values : with_texts l.panels (drop l.field-index l.fields) l.values ≡ with_texts l.panels l.fields l.initial.values;
  before : AreKnownBefore l.panels l.fields l.initial.values l.values (drop l.field-index l.fields);
}

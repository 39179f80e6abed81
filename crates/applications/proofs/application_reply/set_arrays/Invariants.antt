use Rattle.std.proofs.Common.{◌≡◌, drop, map}
use Rattle.std.specs.Prelude.{string_bytes}
use Rattle.applications.specs.Applications.{with_arrays}
use Rattle.applications.proofs.Replies.{AreKnownArraysBefore}
use Rattle.applications.proofs.application_reply.set_arrays.Given as goal

abbrev pub invariant-loop-stem : goal.invariant-loop-stem
invariant-loop-stem l = record {
  values : with_arrays l.panels (map string_bytes (drop l.stem-index l.stems)) l.values ≡ with_arrays l.panels (map string_bytes l.stems) l.initial.values;
  before : AreKnownArraysBefore l.panels (map string_bytes l.stems) (map string_bytes (drop l.stem-index l.stems));
}

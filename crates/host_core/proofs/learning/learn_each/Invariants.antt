use Rattle.std.proofs.Common.{◌≡◌, drop}
use Rattle.host_core.specs.Acts.{learned}
use Rattle.host_core.proofs.Learned.{Untouched}
use Rattle.host_core.proofs.learning.learn_each.Given as goal

abbrev pub invariant-loop-field : goal.invariant-loop-field
invariant-loop-field l = record {
  learned : learned l.shadow (drop l.field-index l.fields) l.values ≡ learned l.shadow l.fields l.fn.values;
  untouched : Untouched l.fn.values l.values l.fields l.field-index;
}

use Rattle.shadow.proofs.Paints.{painted_plain, wanted_painted, painted_taken, painted_known}
use Rattle.shadow.proofs.PaintLength.{paint_bounded}
use Rattle.shadow.proofs.Spelling.{paint_encoded}
use Rattle.shadow.proofs.laws.what_is_wanted_is_painted.Goals as goal

pub returns : goal.returns
returns c = record {
  plain = painted_plain;
  encoded = paint_encoded c.written_is_read.ensures;
  bounded = paint_bounded;
  painted = wanted_painted;
  taken = painted_taken;
  known = painted_known;
}

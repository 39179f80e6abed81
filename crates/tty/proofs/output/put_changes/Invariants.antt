use Rattle.std.proofs.Common.{◌≤◌, drop, None}
use Rattle.codes3270.proofs.Appendings.{IsAppending}
use Rattle.tty.specs.Spelling.{all_spelt}
use Rattle.tty.specs.Pictures.{origin}
use Rattle.tty.specs.Changes.{changes}
use Rattle.tty.proofs.output.put_changes.Given as goal

abbrev pub invariant-loop-index : goal.invariant-loop-index
invariant-loop-index l = record {
  row : l.place.row ≤ l.index;
  column : l.place.column ≤ l.index;
  appending :
      IsAppending l.fn.out l.out (all_spelt (changes l.colors l.columns l.place l.run (drop l.index l.olds) (drop l.index l.news)))
      (all_spelt (changes l.colors l.columns origin None l.olds l.news));
}

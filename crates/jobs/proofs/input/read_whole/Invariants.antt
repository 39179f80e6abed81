use Rattle.std.proofs.Common.{◌≡◌, ◌≤◌, ◌<◌, length}
use Rattle.std.specs.Io.KnownBytes.{Consumes}
use Rattle.jobs.specs.Counting.{Reads, chunk_size, more}
use Rattle.jobs.specs.Runs.{most_bytes}
use Rattle.jobs.proofs.input.read_whole.Given as goal

abbrev pub invariant-loop : goal.invariant-loop
invariant-loop g l = record {
  consumed : Consumes (g.I.Source.seen l.fn.input).left (g.I.Source.seen l.input).left l.bytes.items;
  within : length l.bytes.items ≤ most_bytes;
  pieces : Reads g.I.Source.gave chunk_size l.counter l.fn.input l.bytes.items l.input;
  not_read : l.counter ≡ 0 → (g.I.Source.seen l.input).reads ≡ (g.I.Source.seen l.fn.input).reads;
  read : 0 < l.counter → (g.I.Source.seen l.input).reads ≡ more (g.I.Source.seen l.fn.input).reads l.counter;
  ends : (g.I.Source.seen l.input).ends ≡ (g.I.Source.seen l.fn.input).ends;
  failures : (g.I.Source.seen l.input).failures ≡ (g.I.Source.seen l.fn.input).failures;
}

use Rattle.std.proofs.Common.{◌≡◌, ◌≤◌, length, take}
use Rattle.std.specs.Io.KnownBytes.{Appends}
use Rattle.jobs.specs.RawCalls.{Calls}
use Rattle.jobs.proofs.streams.CountedWriterSink.write_all.Given as goal

abbrev pub invariant-loop : goal.invariant-loop
invariant-loop g l = record {
  within : l.taken ≤ length l.bytes;
  appended : Appends (g.W.RawWrite.contents l.fn.self.writer) (g.W.RawWrite.contents l.self.writer) (take l.taken l.bytes);
  same : l.self.failures ≡ l.fn.self.failures;
  calls : Calls g.W.RawWrite.write_took l.counter l.fn.self.writer l.bytes l.taken l.self.writer;
}

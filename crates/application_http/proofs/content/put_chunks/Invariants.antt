use Rattle.std.proofs.Common.{length}
use Rattle.application_http.proofs.Chunks.{Reached}
use Rattle.application_http.proofs.content.put_chunks.Given as goal

abbrev pub invariant-loop-piece : goal.invariant-loop-piece
invariant-loop-piece l = Reached l.after l.content.items l.decoder l.left

abbrev pub decreases-loop-piece : goal.decreases-loop-piece
decreases-loop-piece l = length l.left

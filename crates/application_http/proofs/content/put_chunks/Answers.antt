use Rattle.std.proofs.Common.{◌≡◌, ◌<◌, ◌++◌, length, rules, refl, subst}
use Rattle.httparse.specs.Spans.{span_bytes}
use Rattle.http1.specs.Decoder.{Decodes}
use Rattle.http1.specs.declared.decode.Decoded.TheVariants as decoded
use Rattle.application_http.proofs.Chunks.{first, begins, steps, starves, ends, fails, holds, span_some, longer_by}
use Rattle.application_http.proofs.content.put_chunks.Goals as goal

pub loop-piece-init : goal.loop-piece-init
loop-piece-init c =
    let fresh : c.new-decoder.result ≡ first = search rules in
    begins c.args.after.now c.args.content.now.items c.new-decoder.result c.requires fresh

pub loop-piece-preserved : goal.loop-piece-preserved
loop-piece-preserved c =
    let found = c.in-Ok-Data.ensures.found in
    let step : Decodes c.loop-piece.decoder c.loop-piece.left.now c.next_piece.new.decoder found.0 (decoded.Data c.in-Ok-Data.piece) = subst (Decodes _ _ _ found.0) c.in-Ok-Data.field-0-is found.1 in
    let more : c.extend_from_slice.new.self.items ≡ c.loop-piece.content.items ++ span_bytes c.loop-piece.left.now c.in-Ok-Data.piece = search rules in
    steps _ _ _ c.in-Ok-Data.piece.end c.loop-piece.invariant step.1 more c.behind-left.ensures

pub returns-in-Ok-NeedMore-clause-lacks_end : goal.returns-in-Ok-NeedMore-clause-lacks_end
returns-in-Ok-NeedMore-clause-lacks_end c = λ _.
    let found = c.in-Ok-NeedMore.ensures.found in
    let step : Decodes c.loop-piece.decoder c.loop-piece.left.now c.next_piece.new.decoder found.0 (decoded.NeedMore c.in-Ok-NeedMore.field-0-0) = subst (Decodes _ _ _ found.0) c.in-Ok-NeedMore.field-0-is found.1 in
    starves _ _ c.loop-piece.invariant step

pub returns-in-Ok-End-clause-whole : goal.returns-in-Ok-End-clause-whole
returns-in-Ok-End-clause-whole c = λ _.
    let found = c.in-Ok-End.ensures.found in
    let step : Decodes c.loop-piece.decoder c.loop-piece.left.now c.next_piece.new.decoder found.0 (decoded.End c.in-Ok-End.field-0-0 c.in-Ok-End.field-0-1) = subst (Decodes _ _ _ found.0) c.in-Ok-End.field-0-is found.1 in
    ends _ _ _ c.loop-piece.invariant step

pub returns-in-Err-clause-wrong : goal.returns-in-Err-clause-wrong
returns-in-Err-clause-wrong c = (refl, fails c.loop-piece.invariant c.in-Err.ensures.none)

pub returns-then-is_err-clause-wrong : goal.returns-then-is_err-clause-wrong
returns-then-is_err-clause-wrong c =
    let found = c.in-Ok-Data.ensures.found in
    let step : Decodes c.loop-piece.decoder c.loop-piece.left.now c.next_piece.new.decoder found.0 (decoded.Data c.in-Ok-Data.piece) = subst (Decodes _ _ _ found.0) c.in-Ok-Data.field-0-is found.1 in
    let some : 0 < length (span_bytes c.loop-piece.left.now c.in-Ok-Data.piece) = span_some c.loop-piece.left.now c.in-Ok-Data.piece step.0 step.1.within in
    holds c.in-Ok-Data.piece.end (span_bytes c.loop-piece.left.now c.in-Ok-Data.piece) c.loop-piece.invariant step.1 (longer_by c.loop-piece.content.items _ some)

use Rattle.std.proofs.Common.{◌≡◌, ◌++◌, ◌+◌, encode_utf8, drop, sym, ap, ◌∙◌, append_assoc, rules}
use Rattle.std.proofs.lemmas.List.{at_drop_more}
use Rattle.std.proofs.Output.{has_written_append}
use Rattle.std.specs.List.{flat_map}
use Rattle.tn3270e_msg.proofs.lu.LuDisplay.fmt.Goals as goal

pub loop-letter-preserved : goal.loop-letter-preserved
loop-letter-preserved g c =
    λ plain.
    let now = c.loop-letter.invariant plain in
    let letters = c.as_bytes-letter-items.result.now in
    let index = c.loop-letter.letter-index in
    let step : encode_utf8 c.from.result ++ flat_map encode_utf8 (drop (index + 1) letters) ≡ flat_map encode_utf8 (drop index letters) =
    ap (λ letter. encode_utf8 letter ++ flat_map encode_utf8 (drop (index + 1) letters)) c.from.ensures ∙ sym (at_drop_more (flat_map encode_utf8) letters index 0 (search rules)) in (
      now.0 ++ encode_utf8 c.from.result,
      has_written_append _ _ _ _ _ _ now.1 (search rules),
      append_assoc now.0 (encode_utf8 c.from.result) _ ∙ ap (λ rest. now.0 ++ rest) step ∙ now.2,
    )

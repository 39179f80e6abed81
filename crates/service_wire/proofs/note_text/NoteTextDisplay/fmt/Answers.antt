use Rattle.std.proofs.Common.{◌≡◌, ◌++◌, ◌+◌, encode_utf8, drop, sym, ap, ◌∙◌, append_assoc, rules}
use Rattle.std.proofs.lemmas.List.{at_drop_more}
use Rattle.std.proofs.Output.{has_written_append}
use Rattle.std.specs.List.{flat_map}
use Rattle.service_wire.specs.Texts.{spelt}
use Rattle.service_wire.proofs.note_text.NoteTextDisplay.fmt.Goals as goal

pub loop-code-preserved : goal.loop-code-preserved
loop-code-preserved g c =
    λ plain.
    let now = c.loop-code.invariant plain in
    let codes = c.codes-code-items.result.now in
    let index = c.loop-code.code-index in
    let step : encode_utf8 c.shown.result ++ flat_map spelt (drop (index + 1) codes) ≡ flat_map spelt (drop index codes) =
    ap (λ code. encode_utf8 code ++ flat_map spelt (drop (index + 1) codes)) c.shown.ensures ∙ sym (at_drop_more (flat_map spelt) codes index 0 (search rules)) in (
      now.0 ++ encode_utf8 c.shown.result,
      has_written_append _ _ _ _ _ _ now.1 (search rules),
      append_assoc now.0 (encode_utf8 c.shown.result) _ ∙ ap (λ rest. now.0 ++ rest) step ∙ now.2,
    )

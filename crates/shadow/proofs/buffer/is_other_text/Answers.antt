use Rattle.std.proofs.Common.{◌+◌, ◌<◌, ◌∙◌, ℕ, List, Some, arith, ap, sym, length, drop}
use Rattle.std.proofs.lemmas.List.{length-drop, length-map}
use Rattle.datastream.specs.Screen.{text_before_attribute}
use Rattle.shadow.proofs.KnownRuns.{same_differs, some_left}
use Rattle.shadow.proofs.buffer.is_other_text.Goals as goal

pub returns-then-has_text : goal.returns-then-has_text
returns-then-has_text c =
    let ps = c.args.beliefs.now in
    let behind : ℕ = c.args.place + 1 in
    let rest = c.args.rest.now in
    let text : List ℕ = c.characters-text.result.now in
    let left = c.characters-text.new.self in
    let known = c.has_text.ensures c.if-has_text.true in
    let is = c.characters-text.ensures.characters ∙ ap text_before_attribute c.copy-ahead.ensures in
    let long = ap length (c.characters-text.ensures.left ∙ ap (drop (length text)) c.copy-ahead.ensures) in
    let some : 0 < length left = some_left c.next.result left c.next.new.self c.next.ensures.steps (sym c.is_some.ensures ∙ c.if-is_some.true) in
    let many = ap length known.0 in
    sym (same_differs (drop behind ps) ps rest c.args.whole.now text is (omega (arith, long, some, length-drop (length text) rest)) known.0
    (omega (arith, many, known.1, length-map text Some, length-drop behind ps)))

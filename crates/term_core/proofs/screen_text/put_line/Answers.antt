use Rattle.std.proofs.Common.{◌≡◌, ◌+◌, ◌<◌, ◌++◌, List, ℕ, [], ◌∷◌, length, take, get_or, arith, sym, ◌∙◌, ap, subst, OnOk, string_bytes}
use Rattle.std.proofs.lemmas.List.{take_more}
use Rattle.term_core.specs.ScreenText.{trimmed, let_out, line_of}
use Rattle.term_core.proofs.Rows.{Waits, waits_more, written_more, next_of, line_ended}
use Rattle.term_core.proofs.screen_text.put_line.Goals as goal

pub loop-preserved : goal.loop-preserved
loop-preserved c =
    let all : List ℕ = c.args.glyphs.now in
    let at : ℕ = c.loop.counter in
    let shown : ℕ = c.unwrap_or-glyph.result in
    let below : at < length all = omega (arith, c.requires, c.loop-test.true) in
    let came = next_of all at c.loop.glyphs c.next.new.self c.next.result below c.loop.invariant.left c.next.ensures.steps in
    let glyph : shown ≡ get_or all at 0 = c.unwrap_or-glyph.ensures ∙ came.0 in
    let row : take (at + 1) all ≡ take at all ++ shown ∷ [] =
    take_more all at 0 below ∙ ap (λ (next : ℕ). take at all ++ next ∷ []) (sym glyph) in
    let more = waits_more (take at all) c.loop.waiting shown c.loop.invariant.waits in
    record {
      written =
          written_more (string_bytes c.args.text.now) (string_bytes c.loop.text) (string_bytes c.put_glyph.new.text)
          (trimmed (take at all)) (trimmed (take (at + 1) all)) (let_out c.loop.waiting shown) (ap trimmed row ∙ more.0)
          c.loop.invariant.written c.in_ok-put_glyph.ensures;
      waits =
          subst (λ (now : List ℕ). Waits now c.waiting_behind-waiting.result) (sym row)
          (subst (λ (waiting : ℕ). Waits (take at all ++ shown ∷ []) waiting) (sym c.waiting_behind-waiting.ensures.count) more.1);
      few = omega (arith, c.waiting_behind-waiting.ensures.few, c.loop.invariant.few);
      left = came.1;
    }

pub returns-clause-text : goal.returns-clause-text
unfolding lib.Utf8.encode
returns-clause-text c =
    let all : List ℕ = c.args.glyphs.now in
    let before : List ℕ = string_bytes c.args.text.now in
    let end : c.loop.counter ≡ c.args.columns = omega arith in
    subst (λ (count : ℕ). OnOk c.push.result (string_bytes c.push.new.self ≡ before ++ line_of (take count all))) end
    (line_ended c.push.result before (string_bytes c.loop.text) (string_bytes c.push.new.self) (take c.loop.counter all)
    c.loop.invariant.written c.push.ensures.bytes)

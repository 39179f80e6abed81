use Rattle.std.proofs.Common.{◌≡◌, ◌∙◌, [], List, ℕ, Bor, ap, arith, map}
use Rattle.std.specs.Prelude.{bytes_eq}
use Rattle.std.specs.List.{list_any}
use Rattle.panels.specs.Draft.{DraftPanel}
use Rattle.panels.proofs.Building.{answered_more}
use Rattle.panels.proofs.Linking.{asked_all}
use Rattle.panels.proofs.build.asked_keys.Goals as goal

pub loop-key-preserved : goal.loop-key-preserved
loop-key-preserved c =
    let asks : map (λ name. name.now) c.as_slice.result.now ≡ c.args.panel.now.asks =
    ap (λ (names : List (Bor (List ℕ))). map (λ name. name.now) names) c.as_slice.ensures.value ∙ ap (λ (panel : DraftPanel). panel.asks) c.panel.view_is in (
      c.loop-key.invariant.0,
      rw c.in_ok-push.ensures.items (c.loop-key.invariant.1 ∙ answered_more (λ (key : Bor (List ℕ)). list_any (bytes_eq key.now) c.args.panel.now.asks) _ c.loop-key.asked.items c.loop-key.key-index
          (record { ref_ptr = (0, 0); now = [] }) _ c.loop-key-test.true (c.is_among.ensures ∙ ap (list_any (bytes_eq _)) asks)),
    )

pub returns : goal.returns
returns c =
    asked_all (λ name. list_any (bytes_eq name) c.args.panel.now.asks) _ c.loop-key.invariant.0 c.loop-key.key-index c.loop-key.asked.items (omega arith) c.loop-key.invariant.1

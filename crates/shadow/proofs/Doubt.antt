-- A belief whose input is in doubt allows what it allowed, and what differs in input.
use Rattle.std.proofs.Common.{◌≡◌, Bool, true, false, List, [], ◌∷◌, map, refl, ap, ◌∙◌, if◌then◌else◌}
use Rattle.datastream.proofs.HeldRounds.{held_at_first}
use Rattle.shadow.specs.declared.mdt_state.MdtState.TheVariants.{Unknown}
use Rattle.shadow.specs.Belief.{Belief, Shadow}
use Rattle.shadow.specs.Doubt.{DoubtAllowsTheScreen, DoubtAllowsInput, DoubtListsFields, DoubtKeepsTheSize, DoubtIsOnce}
use Rattle.shadow.specs.Heard.{unknown_fact, after_attention}
use Rattle.shadow.proofs.HeardOthers.{attention_meets, attention_lists}
use Rattle.shadow.proofs.HeldKeyed.{held_keyed}
use Rattle.shadow.proofs.Sizes.{attention_size}

pub doubt_input : DoubtAllowsInput
doubt_input erased shadow left now meets held = attention_meets erased shadow left now meets (held_keyed erased left.cells now.cells held)

pub doubt_allows : DoubtAllowsTheScreen
doubt_allows shadow screen meets = doubt_input false shadow screen screen meets (held_at_first screen.cells)

pub doubt_lists : DoubtListsFields
doubt_lists erased shadow left now knows meets held = attention_lists erased shadow left now knows meets (held_keyed erased left.cells now.cells held)

pub doubt_size : DoubtKeepsTheSize
doubt_size = attention_size

once_more : (b : Belief) → after_attention (after_attention b) ≡ after_attention b
once_more b = cases b.attr.protected refl
  where
    cases : (p : Bool) → b.attr.protected ≡ p → after_attention (if p then b else record b { mdt = Unknown; fact = unknown_fact b.length }) ≡ (if p then b else record b { mdt = Unknown; fact = unknown_fact b.length })
    cases true e = rw e refl
    cases false e = rw e refl

each_once : (bs : List Belief) → map after_attention (map after_attention bs) ≡ map after_attention bs
each_once [] = refl
each_once (b ∷ bs) = ap (λ (x : Belief). x ∷ map after_attention (map after_attention bs)) (once_more b) ∙ ap (λ (xs : List Belief). after_attention b ∷ xs) (each_once bs)

pub doubt_once : DoubtIsOnce
doubt_once Shadow.NothingKnown = refl
doubt_once (Shadow.Unformatted known) = refl
doubt_once (Shadow.Formatted bs) = ap Shadow.Formatted (each_once bs)

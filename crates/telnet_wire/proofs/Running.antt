-- A decoder that may go on, and what a byte makes of it.
use Rattle.std.proofs.Common.{◌≡◌, ℕ, List, [], ◌∷◌, ◌++◌, refl, ap, subst, sym, ◌∙◌, Option, None, Some}
use Rattle.std.specs.Option.{option_to_list}
use Rattle.telnet_wire.specs.declared.wire.Step.TheVariants.{More}
use Rattle.telnet_wire.specs.declared.wire.WireFault.{WireFault}
use Rattle.telnet_wire.specs.declared.wire.WireFault.TheVariants.{TooLong, BadSub, Memory, Failed}
use Rattle.telnet_wire.specs.Items.{WireItem}
use Rattle.telnet_wire.specs.Reading.{Rest, IsRest, Delivers, GoesWrong}
use Rattle.telnet_wire.specs.DecoderValue.{DecoderValue, fresh, Takes, TakesAll, Refuses, step_of, IsRunning}
use Rattle.telnet_wire.proofs.Streams.{nothing_is_rest}

-- one that was reset may go on
pub fresh_runs : (limit : ℕ) (held : DecoderValue) (of : ℕ) → held ≡ fresh of → of ≡ limit → IsRunning limit held
fresh_runs limit held of is right = record {
  limit_is = ap (λ (h : DecoderValue). h.limit) is ∙ right;
  runs = ap (λ (h : DecoderValue). h.failed) is;
  rest = subst (λ (rest : Rest). IsRest limit rest) (sym (ap (λ (h : DecoderValue). h.rest) is)) (nothing_is_rest limit);
}

pub goes_wrong : (limit : ℕ) (held : DecoderValue) (byte : ℕ) (fault : WireFault) → IsRunning limit held → Refuses held byte fault
    → GoesWrong limit held.rest (byte ∷ []) fault
goes_wrong limit held byte TooLong running refused = rw (← running.limit_is) refused.1
goes_wrong limit held byte BadSub running refused = rw (← running.limit_is) refused.1
goes_wrong limit held byte Memory running refused = rw (← running.limit_is) refused.1
goes_wrong limit held byte Failed running refused = absurd (cc (running.runs, refused))

none_ready : (limit : ℕ) (from : Rest) (byte : ℕ) (to : Rest) (ready : Option WireItem) → More ≡ step_of ready
    → Delivers limit from (byte ∷ []) (option_to_list ready) to → Delivers limit from (byte ∷ []) [] to
none_ready limit from byte to None step delivers = delivers
none_ready limit from byte to (Some item) step delivers = absurd (cc)

-- a byte that completes no item says none
pub delivers_none : (limit : ℕ) (held after : DecoderValue) (byte : ℕ) → IsRunning limit held → Takes held byte after → More ≡ step_of after.ready
    → Delivers limit held.rest (byte ∷ []) [] after.rest
delivers_none limit held after byte running takes more =
    none_ready limit held.rest byte after.rest after.ready more (rw (← running.limit_is) takes.delivers)

one_ready : (limit : ℕ) (from : Rest) (byte : ℕ) (to : Rest) (ready : Option WireItem) (item : WireItem) → ready ≡ Some item
    → Delivers limit from (byte ∷ []) (option_to_list ready) to → Delivers limit from (byte ∷ []) (item ∷ []) to
one_ready limit from byte to ready item is delivers =
    rw is at delivers

-- one that completes an item says it
pub delivers_item : (limit : ℕ) (held after : DecoderValue) (byte : ℕ) (item : WireItem) → IsRunning limit held → Takes held byte after → after.ready ≡ Some item
    → Delivers limit held.rest (byte ∷ []) (item ∷ []) after.rest
delivers_item limit held after byte item running takes ready =
    one_ready limit held.rest byte after.rest after.ready item ready (rw (← running.limit_is) takes.delivers)

pub still_running : (limit : ℕ) (held after : DecoderValue) (byte : ℕ) → IsRunning limit held → Takes held byte after → IsRunning limit after
still_running limit held after byte running takes = record {
  limit_is = takes.limit ∙ running.limit_is;
  runs = takes.runs;
  rest = rw (← running.limit_is) takes.delivers.is_rest;
}

-- bytes that complete no item: the first completes none, and the others complete none
pub none_completed : (ready : Option WireItem) (others : List WireItem) → [] ≡ option_to_list ready ++ others → (More ≡ step_of ready) × (others ≡ [])
none_completed None others none = (refl, sym none)
none_completed (Some item) others none = absurd (cc)

pub all_running : (limit : ℕ) (bytes : List ℕ) (items : List WireItem) (held after : DecoderValue) → IsRunning limit held → TakesAll held bytes items after → IsRunning limit after
all_running limit [] items held after running taken = subst (IsRunning limit) (sym taken.1) running
all_running limit (byte ∷ bytes) items held after running taken =
    all_running limit bytes taken.1 taken.0 after (still_running limit held taken.0 byte running taken.2) taken.4

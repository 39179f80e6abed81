-- A run of data, byte by byte.
use Rattle.std.proofs.Common.{◌≡◌, ◌≢◌, ℕ, zero, suc, ◌+◌, ◌<◌, ◌≤◌, ◌==◌, Bool, true, false, not, min, Option, None, Some, List, [], ◌∷◌, length, take, get_or, refl, sym, ◌∙◌, ap, subst, arith, append_assoc}
use Rattle.std.specs.List.{AllByRecursion, position_or_len}
use Rattle.std.proofs.Common.{⊎_elim}
use Rattle.std.proofs.Math.Nat.{min-eq_left}
use Rattle.std.proofs.lemmas.Bool.{cases_eq, cases_lt, ne_eqb}
use Rattle.std.proofs.lemmas.List.{append-nil, get_or-take, length-take-le, length_push, take-take}
use Rattle.std.proofs.lemmas.List.Sums.{passes_at_first, position_or_len_is, prefix_len-le-length}
use Rattle.memchr.specs.Find.{IsFirstByte, is_byte}
use Rattle.telnet_wire.specs.declared.decoding.DecoderState.{DecoderState}
use Rattle.telnet_wire.specs.declared.decoding.DecoderState.TheVariants.{Between, Done, AfterIac, AfterVerb, InSub, AfterIacInSub, Failed}
use Rattle.telnet_wire.specs.declared.decoding.Completed.TheVariants.{Record as IsRecord, Opt as IsOpt, Sub as IsSub, Other as IsOther}
use Rattle.telnet_wire.specs.Items.{WireItem}
use Rattle.telnet_wire.specs.Reading.{Rest}
use Rattle.telnet_wire.specs.Runs.{data_room}
use Rattle.telnet_wire.specs.DecoderValue.{DecoderValue, TakesAll}
use Rattle.telnet_wire.specs.Bounded.{Bounded, empty, with_byte, with_bytes}
use Rattle.telnet_wire.specs.DecoderStates.{held, unfinished_record}
use Rattle.telnet_wire.proofs.Steps.{takes_data}

-- between two tokens, bytes of data for which there is room
pub takes_run : (content : List ℕ) (run : List ℕ) (gathered : Bounded) → AllByRecursion (λ (byte : ℕ). byte ≢ 255) run
    → length gathered.bytes + length run ≤ gathered.limit
    → TakesAll (held Between gathered content) run [] (held Between (with_bytes gathered run) content)
takes_run content [] gathered plain room = (refl, ap (λ (bytes : List ℕ). held Between (record { limit = gathered.limit; bytes = bytes }) content) (append-nil gathered.bytes))
takes_run content (byte ∷ run) gathered plain room = (
  held Between (with_byte gathered byte) content,
  [],
  takes_data gathered content byte plain.0 (omega arith),
  refl,
  subst (λ (bytes : List ℕ). TakesAll (held Between (with_byte gathered byte) content) run [] (held Between (record { limit = gathered.limit; bytes = bytes }) content))
      (append_assoc gathered.bytes (byte ∷ []) run)
      (takes_run content run (with_byte gathered byte) plain.1 (omega (arith, length_push gathered.bytes byte))),
)

-- which item was ready makes no difference
first_from : (limit : ℕ) (rest : Rest) (ready other : Option WireItem) (failed : Bool) (byte : ℕ) (run : List ℕ) (new : DecoderValue)
    → TakesAll (record { limit = limit; rest = rest; ready = ready; failed = failed }) (byte ∷ run) [] new
    → TakesAll (record { limit = limit; rest = rest; ready = other; failed = failed }) (byte ∷ run) [] new
first_from limit rest ready other failed byte run new taken = (
  taken.0,
  taken.1,
  record { delivers = taken.2.delivers; ran = taken.2.ran; runs = taken.2.runs; limit = taken.2.limit },
  taken.3,
  taken.4,
)

-- bytes of data, for which there is room in this state
pub run_taken : (state : DecoderState) (gathered : Bounded) (content : List ℕ) (run : List ℕ) → 0 < length run
    → AllByRecursion (λ (byte : ℕ). byte ≢ 255) run → length gathered.bytes ≤ gathered.limit → length run ≤ data_room (held state gathered content)
    → TakesAll (held state gathered content) run [] (held Between (with_bytes (unfinished_record state gathered) run) content)
run_taken state gathered content [] some plain fits room = absurd (omega arith)
run_taken Between gathered content (byte ∷ run) some plain fits room = takes_run content (byte ∷ run) gathered plain (omega arith)
run_taken (Done IsRecord) gathered content (byte ∷ run) some plain fits room =
    first_from _ _ _ _ _ byte run _ (takes_run content (byte ∷ run) (empty gathered.limit) plain (omega arith))
run_taken (Done (IsOpt verb code)) gathered content (byte ∷ run) some plain fits room =
    first_from _ _ _ _ _ byte run _ (takes_run content (byte ∷ run) gathered plain (omega arith))
run_taken (Done IsSub) gathered content (byte ∷ run) some plain fits room =
    first_from _ _ _ _ _ byte run _ (takes_run content (byte ∷ run) gathered plain (omega arith))
run_taken (Done (IsOther code)) gathered content (byte ∷ run) some plain fits room =
    first_from _ _ _ _ _ byte run _ (takes_run content (byte ∷ run) gathered plain (omega arith))
run_taken AfterIac gathered content (byte ∷ run) some plain fits room = absurd (omega arith)
run_taken (AfterVerb verb) gathered content (byte ∷ run) some plain fits room = absurd (omega arith)
run_taken InSub gathered content (byte ∷ run) some plain fits room = absurd (omega arith)
run_taken AfterIacInSub gathered content (byte ∷ run) some plain fits room = absurd (omega arith)
run_taken Failed gathered content (byte ∷ run) some plain fits room = absurd (omega arith)

-- ---- how far it goes

-- the first IAC, or the end
abbrev pub to_iac : List ℕ → ℕ
to_iac bytes = position_or_len (λ (byte : ℕ). byte == 255) bytes

-- no byte before it is one
pub plain_before : (bytes : List ℕ) (count : ℕ) → count ≤ to_iac bytes → AllByRecursion (λ (byte : ℕ). byte ≢ 255) (take count bytes)
plain_before [] zero few = tt
plain_before [] (suc count) few = tt
plain_before (byte ∷ bytes) zero few = tt
plain_before (byte ∷ bytes) (suc count) few = ⊎_elim
    (λ is. absurd (stops is few))
    (λ other. (other, plain_before bytes count (goes other few)))
    (cases_eq byte 255)
  where
    stops : byte ≡ 255 → suc count ≤ to_iac (byte ∷ bytes) → ⊥
    stops is few = omega (arith, few, ap (λ (b : ℕ). to_iac (b ∷ bytes)) is)

    goes : byte ≢ 255 → suc count ≤ to_iac (byte ∷ bytes) → count ≤ to_iac bytes
    goes other few = omega (arith, rw (ne_eqb byte 255 other) at few)

not_true : (b : Bool) → (b ≡ true → ⊥) → b ≡ false
not_true true never = absurd (never refl)
not_true false never = refl

module _ (bytes : List ℕ) (room most : ℕ) (is : most ≡ min (length bytes) room) where
  few : most ≤ length bytes
  few = omega arith

  -- one was found among those for which there is room
  pub found : (end : ℕ) → IsFirstByte (is_byte 255) (take most bytes) (Some end) → (end < most) × (end ≡ to_iac bytes)
  found end first =
      let below : end < most = omega (arith, first.0.high, length-take-le most bytes few) in
      let before : (k : ℕ) → k < end → (get_or bytes k 0 == 255) ≡ false = λ k less.
      not_true _ (λ stop. first.0.before k (omega arith) less (subst (λ (byte : ℕ). (byte == 255) ≡ true) (sym (get_or-take most bytes k 0 (omega (arith, below)))) stop)) in
      let at : (get_or bytes end 0 == 255) ≡ true = subst (λ (byte : ℕ). (byte == 255) ≡ true) (get_or-take most bytes end 0 below) first.1 in
      (below, sym (position_or_len_is (λ (byte : ℕ). byte == 255) bytes end 0 (omega (arith, below, few)) before (λ _. at)))

  -- none was
  pub none_found : IsFirstByte (is_byte 255) (take most bytes) None → most ≤ to_iac bytes
  none_found none = ⊎_elim
      (λ less. absurd (none (to_iac bytes) (omega arith) (omega (arith, less, length-take-le most bytes few))
      (subst (λ (byte : ℕ). (byte == 255) ≡ true) (sym (get_or-take most bytes (to_iac bytes) 0 less))
      (passes_at_first (λ (byte : ℕ). byte == 255) bytes 0 (omega (arith, less, few))))))
      (λ reaches. reaches)
      (cases_lt (to_iac bytes) most)

  pub found-plain : (end : ℕ) → IsFirstByte (is_byte 255) (take most bytes) (Some end) → AllByRecursion (λ (byte : ℕ). byte ≢ 255) (take end (take most bytes))
  found-plain end first =
      let at = found end first in
      subst (AllByRecursion (λ (byte : ℕ). byte ≢ 255)) (sym (take-take end most bytes (omega (arith, at.0)))) (plain_before bytes end (omega (arith, at.1)))

  pub found-length : (end : ℕ) → IsFirstByte (is_byte 255) (take most bytes) (Some end) → length (take end (take most bytes)) ≡ min (to_iac bytes) room
  found-length end first =
      let at = found end first in
      let least : min (to_iac bytes) room ≡ to_iac bytes = min-eq_left (omega (arith, at.0, at.1, is)) in
      length-take-le end (take most bytes) (omega (arith, at.0, length-take-le most bytes few)) ∙ at.1 ∙ sym least

  pub none_found-length : IsFirstByte (is_byte 255) (take most bytes) None → length (take most bytes) ≡ min (to_iac bytes) room
  none_found-length none =
      let reaches = none_found none in
      let most_of_all = prefix_len-le-length (λ (byte : ℕ). not (byte == 255)) bytes in
      let least : most ≡ min (to_iac bytes) room = omega (arith, reaches, most_of_all, is) in
      length-take-le most bytes few ∙ least

  pub none_found-plain : IsFirstByte (is_byte 255) (take most bytes) None → AllByRecursion (λ (byte : ℕ). byte ≢ 255) (take most bytes)
  none_found-plain none = plain_before bytes most (none_found none)

-- A byte is taken or refused, and refused for one fault.
use Rattle.std.proofs.Common.{◌≡◌, ℕ, true, false, [], ◌∷◌, refl}
use Rattle.telnet_wire.specs.declared.wire.WireFault.{WireFault}
use Rattle.telnet_wire.specs.declared.wire.WireFault.TheVariants.{TooLong, BadSub, Memory, Failed}
use Rattle.telnet_wire.specs.Reading.{GoesWrong}
use Rattle.telnet_wire.specs.DecoderValue.{DecoderValue, Takes, Refuses}
use Rattle.telnet_wire.proofs.Faults.{wrong_is_final, one_fault}

final : (old new : DecoderValue) (byte : ℕ) (fault : WireFault) → Takes old byte new → GoesWrong old.limit old.rest (byte ∷ []) fault → ⊥
final old new byte fault t wrong =
    wrong_is_final old.limit old.rest (byte ∷ []) [] fault t.delivers.tokens new.rest wrong t.delivers.reads t.delivers.is_rest

pub taken_or_refused : (old new : DecoderValue) (byte : ℕ) (fault : WireFault) → Takes old byte new → Refuses old byte fault → ⊥
taken_or_refused old new byte Failed t r = absurd (clash t.ran r)
  where
    clash : old.failed ≡ false → old.failed ≡ true → ⊥
    clash p q = cc
taken_or_refused old new byte TooLong t r = final old new byte TooLong t r.1
taken_or_refused old new byte BadSub t r = final old new byte BadSub t r.1
taken_or_refused old new byte Memory t r = final old new byte Memory t r.1

one : (old : DecoderValue) (byte : ℕ) (fault other : WireFault) → GoesWrong old.limit old.rest (byte ∷ []) fault → GoesWrong old.limit old.rest (byte ∷ []) other → fault ≡ other
one old byte fault other w v = (one_fault old.limit old.rest (byte ∷ []) [] fault other w v).1

pub one_refusal : (old : DecoderValue) (byte : ℕ) (fault other : WireFault) → Refuses old byte fault → Refuses old byte other → fault ≡ other
one_refusal old byte Failed Failed r q = refl
one_refusal old byte Failed TooLong r q = let p = r in let z = q.0 in cc
one_refusal old byte Failed BadSub r q = let p = r in let z = q.0 in cc
one_refusal old byte Failed Memory r q = let p = r in let z = q.0 in cc
one_refusal old byte TooLong Failed r q = let z = r.0 in cc
one_refusal old byte BadSub Failed r q = let z = r.0 in cc
one_refusal old byte Memory Failed r q = let z = r.0 in cc
one_refusal old byte TooLong TooLong r q = refl
one_refusal old byte TooLong BadSub r q = one old byte TooLong BadSub r.1 q.1
one_refusal old byte TooLong Memory r q = one old byte TooLong Memory r.1 q.1
one_refusal old byte BadSub TooLong r q = one old byte BadSub TooLong r.1 q.1
one_refusal old byte BadSub BadSub r q = refl
one_refusal old byte BadSub Memory r q = one old byte BadSub Memory r.1 q.1
one_refusal old byte Memory TooLong r q = one old byte Memory TooLong r.1 q.1
one_refusal old byte Memory BadSub r q = one old byte Memory BadSub r.1 q.1
one_refusal old byte Memory Memory r q = refl

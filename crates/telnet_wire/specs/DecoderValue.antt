-- What a decoder holds between two bytes, and what a byte does to it (our profile).
use Rattle.std.specs.Prelude.{◌≡◌, ℕ, Bool, true, false, List, [], ◌∷◌, ◌++◌, Option, None, Some}
use Rattle.std.specs.Option.{option_to_list}
use Rattle.telnet_wire.specs.declared.wire.Step.{Step}
use Rattle.telnet_wire.specs.declared.wire.Step.TheVariants.{More, Ready}
use Rattle.telnet_wire.specs.declared.wire.WireFault.{WireFault}
use Rattle.telnet_wire.specs.declared.wire.WireFault.TheVariants.{Failed}
use Rattle.telnet_wire.specs.Items.{WireItem}
use Rattle.telnet_wire.specs.Reading.{Rest, nothing, IsRest, Delivers, GoesWrong}

-- A decoder, as contracts see it: the data bytes that a record may have, the rest of the stream
-- since `new` or `reset`, the item that the last byte completed, and whether a byte was refused.
pub record DecoderValue : Type 0 where
  pub limit : ℕ
  pub rest : Rest
  pub ready : Option WireItem
  pub failed : Bool

-- The decoder after `new` or `reset`: before the first byte.
abbrev pub fresh : ℕ → DecoderValue
fresh limit = record { limit = limit; rest = nothing; ready = None; failed = false }

-- The decoder after a fault: it holds nothing, and refuses all bytes until `reset`.
abbrev pub broken : ℕ → DecoderValue
broken limit = record { limit = limit; rest = nothing; ready = None; failed = true }

-- Holds if a decoder with this limit can continue: no byte was refused, and what it holds is within the limits.
pub record IsRunning (limit : ℕ) (held : DecoderValue) : Type 0 where
  pub limit_is : held.limit ≡ limit
  pub runs : held.failed ≡ false
  pub rest : IsRest limit held.rest

-- What `push` returns for a byte that it accepts.
abbrev pub step_of : Option WireItem → Step
step_of None = More
step_of (Some item) = Ready

-- Holds if the byte is accepted: it is read after the rest. The item that is ready is that of the token that
-- the byte completes; there is none if it completes no token, or a byte of data.
pub record Takes (old : DecoderValue) (byte : ℕ) (new : DecoderValue) : Type 0 where
  pub delivers : Delivers old.limit old.rest (byte ∷ []) (option_to_list new.ready) new.rest
  pub ran : old.failed ≡ false
  pub runs : new.failed ≡ false
  pub limit : new.limit ≡ old.limit

-- Holds if the byte is refused with this fault: the stream is wrong at it, or a byte was refused before.
abbrev pub Refuses : DecoderValue → ℕ → WireFault → Type 0
Refuses old byte Failed = old.failed ≡ true
Refuses old byte fault = (old.failed ≡ false) × GoesWrong old.limit old.rest (byte ∷ []) fault

-- Holds if these bytes are accepted one after another, and complete these items, in order.
abbrev pub TakesAll : DecoderValue → List ℕ → List WireItem → DecoderValue → Type 0
TakesAll old [] items new = (items ≡ []) × (new ≡ old)
TakesAll old (byte ∷ bytes) items new =
    (next : DecoderValue) × (others : List WireItem) × Takes old byte next
    × (items ≡ option_to_list next.ready ++ others)
    × TakesAll next bytes others new

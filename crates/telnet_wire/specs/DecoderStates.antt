-- What a decoder's state and buffers mean (our profile). Only private contracts and the decoder's view cite it.
use Rattle.std.specs.Prelude.{◌≡◌, ℕ, ◌≤◌, Bool, true, false, List, [], ◌∷◌, ◌++◌, length, Option, None, Some}
use Rattle.telnet_wire.specs.declared.decoding.DecoderState.{DecoderState}
use Rattle.telnet_wire.specs.declared.decoding.DecoderState.TheVariants.{Done, AfterIac, AfterVerb, InSub, AfterIacInSub, Failed}
use Rattle.telnet_wire.specs.declared.decoding.Completed.{Completed}
use Rattle.telnet_wire.specs.declared.decoding.Completed.TheVariants.{Record, Opt, Sub, Other}
use Rattle.telnet_wire.specs.Token.{code_of, opened}
use Rattle.telnet_wire.specs.Items.{WireItem, Record as RecordItem, Opt as OptItem, Sub as SubItem, Other as OtherItem}
use Rattle.telnet_wire.specs.DecoderValue.{DecoderValue}
use Rattle.telnet_wire.specs.Bounded.{Bounded, empty}

-- The part of a token that was read.
abbrev pub partial_at : DecoderState → List ℕ → List ℕ
partial_at AfterIac content = 255 ∷ []
partial_at (AfterVerb verb) content = 255 ∷ code_of verb ∷ []
partial_at InSub content = opened content
partial_at AfterIacInSub content = opened content ++ 255 ∷ []
partial_at _ content = []

-- The data of the unfinished record. A complete record stays in the buffer until the next byte.
abbrev pub unfinished_at : DecoderState → List ℕ → List ℕ
unfinished_at (Done Record) gathered = []
unfinished_at Failed gathered = []
unfinished_at _ gathered = gathered

-- The buffer of records without a record that is complete.
abbrev pub unfinished_record : DecoderState → Bounded → Bounded
unfinished_record (Done Record) gathered = empty gathered.limit
unfinished_record _ gathered = gathered

-- The item that was completed: its bytes are in one of the buffers.
abbrev pub completed_item : Completed → List ℕ → List ℕ → WireItem
completed_item Record gathered content = RecordItem gathered
completed_item (Opt verb code) gathered content = OptItem verb code
completed_item Sub gathered content = SubItem content
completed_item (Other code) gathered content = OtherItem code

-- The item that the last byte completed.
abbrev pub ready_at : DecoderState → List ℕ → List ℕ → Option WireItem
ready_at (Done completed) gathered content = Some (completed_item completed gathered content)
ready_at _ gathered content = None

-- Whether a byte was refused.
abbrev pub has_failed : DecoderState → Bool
has_failed Failed = true
has_failed _ = false

-- What a decoder in this state holds, as contracts see it.
abbrev pub held : DecoderState → Bounded → List ℕ → DecoderValue
held state gathered content = record {
  limit = gathered.limit;
  rest = record { unfinished = unfinished_at state gathered.bytes; partial = partial_at state content };
  ready = ready_at state gathered.bytes content;
  failed = has_failed state;
}

-- The buffers are within their limits; the limit of a subnegotiation is 256 bytes (our profile).
pub record AreWithin (gathered content : Bounded) : Type 0 where
  pub gathered_fits : length gathered.bytes ≤ gathered.limit
  pub content_fits : length content.bytes ≤ 256
  pub content_limit : content.limit ≡ 256

-- What bytes do to a terminal: they are decoded as a stream of RFC 854, 855 and 885, and the items of the stream are
-- taken. That the terminal closes the connection if the stream is broken is our profile.
use Rattle.std.specs.Prelude.{◌≡◌, ℕ, false, List, [], ◌∷◌, ◌++◌, Option, None, Some}
use Rattle.telnet_wire.specs.Items.{WireItem, sent_bytes}
use Rattle.telnet_wire.specs.Reading.{Rest, Delivers, GoesWrong}
use Rattle.telnet_wire.specs.declared.wire.WireFault.{WireFault}
use Rattle.tn3270e_msg.specs.TermTable.{Term}
use Rattle.tn3270e_msg.specs.declared.cause.Cause.{Cause}
use Rattle.tn3270e_msg.specs.declared.cause.Cause.TheVariants.{Wire}
use Rattle.tn3270e_msg.specs.Header.{record_limit}
use Rattle.term_core.specs.State.{Terminal, Link, Station, Attached, Closed}
use Rattle.term_core.specs.Items.{TakesItem}

-- the station before an item is taken: `took_write` is cleared
abbrev pub before_byte : Station → Station
before_byte station = record station { took_write = false }

abbrev pub link_after : Rest → Term → Option Cause → Link
link_after rest talk None = Attached rest talk
link_after rest talk (Some cause) = Closed cause

-- the terminal takes a byte: it completes nothing; it completes an item; or it breaks the stream
pub data TakesByte (old : Terminal) (byte : ℕ) (new : Terminal) : Type 0 where
  goes_on : (rest to : Rest) (talk : Term) → old.link ≡ Attached rest talk
      → Delivers record_limit rest (byte ∷ []) [] to
      → new ≡ record { link = Attached to talk; station = before_byte old.station; out = old.out }
      → TakesByte old byte new
  completes : (rest to : Rest) (talk after : Term) (item : WireItem) (says : List WireItem) (closes : Option Cause)
      (station : Station)
      → old.link ≡ Attached rest talk → Delivers record_limit rest (byte ∷ []) (item ∷ []) to
      → TakesItem talk (before_byte old.station) item says closes after station
      → new ≡ record { link = link_after to after closes; station = station; out = old.out ++ sent_bytes says }
      → TakesByte old byte new
  breaks : (rest : Rest) (talk : Term) (fault : WireFault) → old.link ≡ Attached rest talk
      → GoesWrong record_limit rest (byte ∷ []) fault
      → new ≡ record { link = Closed Wire; station = before_byte old.station; out = old.out } → TakesByte old byte new

-- holds if the terminal takes the bytes one after another; one that isn't attached, or has closed, takes none
abbrev pub TakesBytes : Terminal → List ℕ → Terminal → Type 0
TakesBytes old [] new = new ≡ old
TakesBytes old (byte ∷ bytes) new = (mid : Terminal) × TakesByte old byte mid × TakesBytes mid bytes new

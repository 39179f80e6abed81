-- The steps of a terminal as its code does them (our profile), for the contracts of private functions and for the view
-- of a terminal: over the terminal's parts, and with output that is appended to a vector.
use Rattle.std.specs.Prelude.{◌≡◌, ℕ, List, ◌++◌, Option, None, Some, Vec}
use Rattle.std.specs.declared.alloc.Global.{Global}
use Rattle.telnet_wire.specs.Items.{WireItem, sent_bytes}
use Rattle.telnet_wire.specs.DecoderValue.{DecoderValue, IsRunning as DecoderIsRunning}
use Rattle.tn3270e_msg.specs.TermTable.{Term}
use Rattle.tn3270e_msg.specs.declared.cause.Cause.{Cause}
use Rattle.tn3270e_msg.specs.declared.cause.Stop.{Stop}
use Rattle.tn3270e_msg.specs.declared.cause.Stop.TheVariants.{Going, Memory, Closed as ClosedStop}
use Rattle.term_core.specs.declared.terminal.Attachment.{Attachment}
use Rattle.term_core.specs.declared.terminal.Attachment.TheVariants as part
use Rattle.tn3270e_msg.specs.Header.{record_limit}
use Rattle.term_core.specs.State.{Station, Terminal, Link, Detached, Attached, Closed}
use Rattle.term_core.specs.Records.{TakesRecord}
use Rattle.term_core.specs.Items.{TakesItem}
use Rattle.term_core.specs.Bytes.{link_after}

-- a bound terminal takes a record, and what it sends is appended
pub record RecordTaken (old : Station) (bytes : List ℕ) (before after : Vec ℕ Global) (closes : Option Cause)
    (new : Station) : Type 0 where
  pub says : List WireItem
  pub takes : TakesRecord old bytes says closes new
  pub sent : after.items ≡ before.items ++ sent_bytes says

-- a terminal takes an item, and what it sends is appended
pub record ItemTaken (talk : Term) (old : Station) (item : WireItem) (before after : Vec ℕ Global)
    (closes : Option Cause) (talks : Term) (new : Station) : Type 0 where
  pub says : List WireItem
  pub takes : TakesItem talk old item says closes talks new
  pub sent : after.items ≡ before.items ++ sent_bytes says

-- holds if the decoder can take more bytes
abbrev pub IsRunning : DecoderValue → Type 0
IsRunning held = DecoderIsRunning record_limit held

-- holds if the decoder can take more bytes, or there is a cause by which the terminal closed the connection
abbrev pub IsLeft : Option Cause → DecoderValue → Type 0
IsLeft None held = IsRunning held
IsLeft (Some cause) held = held.limit ≡ record_limit

-- the terminal with these parts: closed if there is a cause, else attached
abbrev pub terminal_of : DecoderValue → Term → Option Cause → Station → Vec ℕ Global → Terminal
terminal_of held talk closes station out =
    record { link = link_after held.rest talk closes; station = station; out = out.items }

abbrev pub cause_of : Stop → Option Cause
cause_of Going = None
cause_of Memory = None
cause_of (ClosedStop cause) = Some cause

-- the link of a terminal with these parts
abbrev pub link_of : Attachment → DecoderValue → Link
link_of part.Detached held = Detached
link_of (part.Attached talk) held = Attached held.rest talk
link_of (part.Closed cause) held = Closed cause

-- holds if the decoder has the limit of a record, and, while the terminal is attached, can take more bytes
abbrev pub IsSound : Attachment → DecoderValue → Type 0
IsSound part.Detached held = held.limit ≡ record_limit
IsSound (part.Attached talk) held = IsRunning held
IsSound (part.Closed cause) held = held.limit ≡ record_limit

-- The messages between a host and a terminal (RFC 1647, sections 7, 8.1 and 10.4; what is sent when is our profile).
use Rattle.std.specs.Prelude.{ℕ}
use Rattle.datastream.specs.Grammar.{CommandParts}
use Rattle.datastream.specs.InboundText.{InboundParts}
use Rattle.datastream.specs.Wanted.{WantedScreen}
use Rattle.shadow.specs.Belief.{Shadow}
use Rattle.tn3270e_msg.specs.Talk.{NegotiationMessage}

-- A paint carries its sequence number, the wanted screen, and the belief over which it was sent; a Read Buffer its
-- number; a note its number and its command.
pub data ToTerminal : Type 0 where
  TalksDown : NegotiationMessage → ToTerminal
  Paint : ℕ → WantedScreen → Shadow → ToTerminal
  ReadBuffer : ℕ → ToTerminal
  Note : ℕ → CommandParts → ToTerminal

-- what a response says of a command
pub data Verdict : Type 0 where
  Positive : Verdict
  Negative : Verdict

-- a response carries the sequence number of the command that it answers
pub data ToHost : Type 0 where
  TalksUp : NegotiationMessage → ToHost
  Data : InboundParts → ToHost
  Response : ℕ → Verdict → ToHost

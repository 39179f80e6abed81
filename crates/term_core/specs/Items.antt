-- What the items of the stream do to a terminal: options, subnegotiations (RFC 1647, section 7), records (section 8).
use Rattle.std.specs.Prelude.{◌≡◌, List, Option}
use Rattle.telnet_wire.specs.Items.{WireItem, Record}
use Rattle.tn3270e_msg.specs.TermTable.{Term, TermTakes}
use Rattle.tn3270e_msg.specs.Talk.{items_sent, closing}
use Rattle.tn3270e_msg.specs.declared.cause.Cause.{Cause}
use Rattle.tn3270e_msg.specs.declared.reply.Reply.{Reply}
use Rattle.tn3270e_msg.specs.declared.term_talk.TermState.{TermState}
use Rattle.tn3270e_msg.specs.declared.term_talk.TermState.TheVariants.{Agreed}
use Rattle.term_core.specs.State.{Station}
use Rattle.term_core.specs.Records.{TakesRecord}

-- the negotiation takes an item: its reply is sent, and it may close the connection
pub record Talks (talk : Term) (item : WireItem) (says : List WireItem) (closes : Option Cause)
    (after : Term) : Type 0 where
  pub reply : Reply
  pub takes : TermTakes talk item reply after
  pub sends : says ≡ items_sent reply
  pub ends : closes ≡ closing reply

abbrev pub TalksOn : Term → Station → WireItem → List WireItem → Option Cause → Term → Station → Type 0
TalksOn talk old item says closes after new = Talks talk item says closes after × (new ≡ old)

-- Once the terminal is bound to an LU, a record is for the screen. All else goes to the negotiation.
abbrev pub TakesItemIn : TermState → Term → Station → WireItem → List WireItem → Option Cause → Term → Station → Type 0
TakesItemIn (Agreed lu) talk old (Record bytes) says closes after new = TakesRecord old bytes says closes new
    × (after ≡ talk)
TakesItemIn state talk old item says closes after new = TalksOn talk old item says closes after new

abbrev pub TakesItem : Term → Station → WireItem → List WireItem → Option Cause → Term → Station → Type 0
TakesItem talk old item says closes after new = TakesItemIn talk.talk.state talk old item says closes after new

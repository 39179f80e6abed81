-- The part of a connection that the stages of a session speak of, for proofs: the messages under way,
-- the host's end, and the terminal's negotiation, screen and keyboard lock.
use Rattle.std.specs.Prelude.{Bool, List}
use Rattle.codes3270.specs.declared.size.Model.{Model}
use Rattle.codes3270.specs.Size.{ScreenSize}
use Rattle.datastream.specs.Screen.{Screen}
use Rattle.keyboard.specs.declared.key.Lock.{Lock}
use Rattle.tn3270e_msg.specs.TermTable.{Term}
use Rattle.host_core.specs.Messages.{ToTerminal, ToHost}
use Rattle.host_core.specs.Session.{Session}
use Rattle.world3270.specs.model.Link.{Link}

pub record View : Type 0 where
  pub lost : Bool
  pub down : List ToTerminal
  pub up : List ToHost
  pub host : Session
  pub waits : Bool
  pub talk : Term
  pub model : Model
  pub size : ScreenSize
  pub screen : Screen
  pub lock : Lock
  pub last_restored : Screen
  pub before_restored : Screen
  pub erased : Bool

abbrev pub view_of : Link → View
view_of link = record {
  lost = link.lost;
  down = link.down;
  up = link.up;
  host = link.host;
  waits = link.term.waits;
  talk = link.term.talk;
  model = link.term.display.model;
  size = link.term.display.size;
  screen = link.term.display.screen;
  lock = link.term.display.keyboard.lock;
  last_restored = link.term.display.last_restored;
  before_restored = link.term.display.before_restored;
  erased = link.term.display.erased;
}

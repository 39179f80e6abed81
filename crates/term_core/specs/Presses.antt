-- What a key does to a terminal: keyboard and screen change as GA23-0059-07 says of the keyboard, and the data that a
-- key sends goes in a record (RFC 1647, section 8). That a terminal which isn't bound sends nothing is our profile.
use Rattle.std.specs.Prelude.{◌≡◌, ◌<◌, ◌+◌, ℕ, Bool, true, false, List, ◌++◌, Option, None, Some, length}
use Rattle.datastream.specs.Screen.{Screen}
use Rattle.datastream.specs.Inbound.{read_modified}
use Rattle.keyboard.specs.Keys.{Outcome, pressed}
use Rattle.keyboard.specs.declared.key.Key.{Key}
use Rattle.keyboard.specs.declared.key.Pressed.{Pressed}
use Rattle.keyboard.specs.declared.key.Pressed.TheVariants.{Done, Refused, Send}
use Rattle.telnet_wire.specs.Items.{WireItem, sent_bytes}
use Rattle.term_core.specs.State.{Station, Terminal, phase_of, is_bound}
use Rattle.term_core.specs.Records.{data_sent, numbered}
use Rattle.term_core.specs.Room.{data_room}

-- the data that a key sends, by the keyboard's answer: a bound terminal sends its modified fields, any other none
abbrev pub data_pressed : Bool → Pressed → Screen → Option (List ℕ)
data_pressed true (Send aid) screen = Some (read_modified false screen)
data_pressed false (Send aid) screen = None
data_pressed bound Done screen = None
data_pressed bound (Refused why) screen = None

abbrev pub key_outcome : Key → Station → Outcome
key_outcome key station = pressed station.screen.size.columns key station.keyboard station.screen.screen

-- the data that a key sends, the station after it, and the records that are sent
abbrev pub data_of_key : Key → Bool → Station → Option (List ℕ)
data_of_key key bound old =
    let outcome = key_outcome key old in
    data_pressed bound outcome.answer outcome.screen

abbrev pub station_after_key : Key → Bool → Station → Station
station_after_key key bound old =
    let outcome = key_outcome key old in
    numbered (data_of_key key bound old)
    (record old { screen = record old.screen { screen = outcome.screen }; keyboard = outcome.keyboard })

abbrev pub says_of_key : Key → Bool → Station → List WireItem
says_of_key key bound old = data_sent old.number (data_of_key key bound old)

-- the terminal after a key
abbrev pub after_key : Key → Terminal → Terminal
after_key key old =
    let bound = is_bound (phase_of old.link) in
    record {
      link = old.link;
      station = station_after_key key bound old.station;
      out = old.out ++ sent_bytes (says_of_key key bound old.station);
    }

-- the keyboard's answer to a key
abbrev pub answer_to_key : Key → Terminal → Pressed
answer_to_key key old = (key_outcome key old.station).answer

-- the key sends data, and an output buffer of this capacity has less room left than the longest data record takes
pub record LacksKeyRoom (room : ℕ) (key : Key) (old : Terminal) : Type 0 where
  pub body : List ℕ
  pub sends : data_of_key key (is_bound (phase_of old.link)) old.station ≡ Some body
  pub full : room < length old.out + data_room

-- ---- for private functions: the room that a key asks for

-- whether the keyboard's answer says that the key sends
abbrev pub is_sent : Pressed → Bool
is_sent (Send aid) = true
is_sent Done = false
is_sent (Refused why) = false

-- the room, in bytes, of the longest data record if the key sends data, else 0
abbrev pub room_of : Option (List ℕ) → ℕ
room_of None = 0
room_of (Some body) = data_room

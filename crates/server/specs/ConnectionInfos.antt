-- What a server records about a connection (our profile). Times are milliseconds of the server's time.
use Rattle.std.specs.Prelude.{◌-◌, ◌/◌, ◌||◌, ℕ, Bool, true, false, List, [], ◌∷◌, Option, None, Some, is_some, option_map, if◌then◌else◌}
use Rattle.std.specs.Option.{option_and_then}
use Rattle.host_core.specs.declared.event.HostEvent.{HostEvent}
use Rattle.host_core.specs.declared.event.HostEvent.TheVariants as event
use Rattle.service_events.specs.Metrics.{raised}
use Rattle.service_events.specs.Timing.{new_activity}
use Rattle.service_events.specs.declared.notice.Client.{Client}
use Rattle.service_events.specs.declared.notice.Ending.{Ending}
use Rattle.service_events.specs.declared.notice.Ending.TheVariants as ending
use Rattle.service_events.specs.declared.notice.Usage.{Usage}
use Rattle.server.specs.declared.connection_info.ConnectionInfo.{ConnectionInfo}
use Rattle.server.specs.declared.connection_info.SessionEnd.{SessionEnd}

-- the record of a connection that begins
abbrev pub new_info : Client → (now : ℕ) → ConnectionInfo
new_info client now = record {
  client = client;
  activity = new_activity now;
  lu = None;
  screens = 0;
  asked = false;
  ends = false;
  ending = None;
}

-- the record after one event of the host
abbrev pub with_event : HostEvent → ConnectionInfo → ConnectionInfo
with_event (event.Rejected rejection) info = info
with_event (event.Bound lu) info = record info { lu = Some lu }
with_event (event.KeyDropped key) info = info
with_event (event.RuleBroken broken) info = info
with_event event.CharacterReplaced info = info
with_event (event.ScreenRestored why) info = info
with_event event.Asked info = record info { asked = true }
with_event event.Shown info = record info { screens = raised info.screens 1 }
with_event (event.Closed cause) info = record info { ending = Some (ending.Closed cause) }

-- the record after these events, one after another
abbrev pub with_events : List HostEvent → ConnectionInfo → ConnectionInfo
with_events [] info = info
with_events (one ∷ events) info = with_events events (with_event one info)

-- the record once a reply was shown that may end the session, and once the application was told of its end
abbrev pub with_end : (end : Bool) → ConnectionInfo → ConnectionInfo
with_end end info = record info { ends = info.ends || end }

abbrev pub with_told : ConnectionInfo → ConnectionInfo
with_told info = record info { asked = false }

-- What the connection has used until now: its duration in seconds, and its turns, the screens after the first one.
abbrev pub usage_of : (now : ℕ) → (sent received : ℕ) → ConnectionInfo → Usage
usage_of now sent received info =
    record {
      bound = is_some info.lu;
      duration = (now - info.activity.began) / 1000;
      turns = info.screens - 1;
      sent = sent;
      received = received;
    }

-- the end of the connection's session, on this LU and for this reason
abbrev pub end_by : ConnectionInfo → (lu : List ℕ) → Ending → SessionEnd
end_by info lu ending = record { session = info.client.session; lu = lu; ending = ending }

-- the end of the session, if it is over, and the application was asked in it and wasn't told
abbrev pub session_end : ConnectionInfo → Option SessionEnd
session_end info =
    if info.asked then option_and_then (λ lu. option_map (end_by info lu) info.ending) info.lu else None

-- The run of the example with Clear and both restarts, computed.
use Rattle.std.proofs.Common.{◌≡◌, List, [], ◌∷◌, ◌++◌, refl, ap, ◌∙◌, Some, None, replicate}
use Rattle.codes3270.specs.declared.attention.Aid.TheVariants.{Clear}
use Rattle.keyboard.specs.Places.{onward, backward}
use Rattle.keyboard.specs.declared.key.Key.TheVariants as key
use Rattle.shadow.specs.Belief.{Shadow}
use Rattle.tn3270e_msg.specs.Device.{device_of}
use Rattle.world3270.specs.examples.ExampleApplication.{example, small}
use Rattle.world3270.specs.examples.ExampleEnds.{rounds, settle, presses, connected, after, end_on, bound_and_shows, name_place, shown_by, apart}
use Rattle.world3270.specs.examples.ExampleRestarts.{cleared_entry, answered_clear, terminal_anew, loss_seen, back_at_host, host_anew, back_at_new_host, alone, host_waits, host_left, RestartingRun}
use Rattle.world3270.specs.examples.ExampleScreens.{fresh_sign_on, unformatted, no_message}
use Rattle.world3270.specs.model.Steps.{run}
use Rattle.world3270.specs.model.World.{Place, World, Event}
use Rattle.world3270.specs.statement.Headline.{IsHostsTurn}
use Rattle.world3270.specs.statement.Observation.{seen_link}
use Rattle.world3270.proofs.ExampleGiven.{is_well_formed, is_well_noted, are_events}
use Rattle.world3270.proofs.SignedOn.{request_taken, agreement_taken, acted_on, agree, IsRequested, IsAgreed, agreeing, start, asks, signed, is_signed, once_signed, facts, at_turn, turned}

-- ---- Clear

clears : List Event
clears = presses (key.Tab ∷ key.Char 0x58 ∷ key.Clear ∷ []) ++ (Event.Up 0 ∷ [])

decides_on_clear : IsHostsTurn (seen_link ((after cleared_entry).link 0))
unfolding start asks signed acted_on agree request_taken agreement_taken device_of onward backward clears
decides_on_clear =
    turned (after cleared_entry) Clear name_place None (once_signed (facts name_place) clears (at_turn Clear None) refl)

is_cleared : shown_by (after cleared_entry) ≡ unformatted small Clear no_message
unfolding start asks signed acted_on agree request_taken agreement_taken device_of onward backward clears
is_cleared = once_signed shown_by clears (unformatted small Clear no_message) refl

knows_the_cleared : ((after cleared_entry).link 0).host.shadow ≡ Shadow.Unformatted (replicate 32 (Some 0))
unfolding start asks signed acted_on agree request_taken agreement_taken device_of onward backward clears
knows_the_cleared = once_signed (λ (world : World). (world.link 0).host.shadow) clears (Shadow.Unformatted (replicate 32 (Some 0))) refl

shows_the_panel_anew : end_on 0 (after answered_clear) ≡ bound_and_shows small fresh_sign_on
unfolding start asks signed acted_on agree request_taken agreement_taken device_of onward backward clears
shows_the_panel_anew = once_signed (end_on 0) (clears ++ settle 0) (bound_and_shows small fresh_sign_on) refl

-- ---- the terminal begins anew

leaves : List Event
leaves = clears ++ (settle 0 ++ (Event.RestartTerm 0 ∷ []))

parts : List Event
parts = leaves ++ (Event.HostSees 0 ∷ [])

asks_anew : List Event
asks_anew = rounds 0 2 ++ (parts ++ asks)

has_left : apart (after terminal_anew) ≡ host_waits
unfolding start asks signed acted_on agree request_taken agreement_taken device_of onward backward clears leaves
has_left = once_signed apart leaves host_waits refl

has_parted : apart (after loss_seen) ≡ host_left alone
unfolding start asks signed acted_on agree request_taken agreement_taken device_of onward backward clears leaves parts
has_parted = once_signed apart parts (host_left alone) refl

-- where both ends have agreed again
signed_anew : World
signed_anew = agree example (run example asks_anew signed)

is_signed_anew : (rest : List Event) → after (back_at_host ++ rest) ≡ run example (rounds 0 2 ++ rest) signed_anew
unfolding start asks signed acted_on agree request_taken agreement_taken device_of onward backward clears leaves parts asks_anew signed_anew
is_signed_anew rest =
    let is : IsRequested (run example asks_anew signed) = record { here = refl; up = refl } in
    let after_it : IsAgreed (acted_on example (run example asks_anew signed)) = record { here = refl; down = refl } in
    is_signed (parts ++ (connected ++ rest)) ∙ agreeing example asks_anew (rounds 0 2 ++ rest) signed is after_it

is_granted : end_on 0 (after back_at_host) ≡ bound_and_shows small fresh_sign_on
unfolding start asks signed acted_on agree request_taken agreement_taken device_of onward backward clears leaves parts asks_anew signed_anew
is_granted =
    let computed : end_on 0 (run example (rounds 0 2) signed_anew) ≡ bound_and_shows small fresh_sign_on = refl in
    ap (end_on 0) (is_signed_anew []) ∙ computed

-- ---- the host begins anew

restarts : List Event
restarts = Event.RestartHost ∷ []

-- the terminal sees that
sees_it : List Event
sees_it = restarts ++ (Event.TermSees 0 ∷ [])

asks_new_host : List Event
asks_new_host = rounds 0 2 ++ (sees_it ++ asks)

has_restarted : apart (after host_anew) ≡ host_left (Place.At 0)
unfolding start asks signed acted_on agree request_taken agreement_taken device_of onward backward clears leaves parts asks_anew signed_anew restarts
has_restarted =
    let computed : apart (run example (rounds 0 2 ++ restarts) signed_anew) ≡ host_left (Place.At 0) = refl in
    ap apart (is_signed_anew restarts) ∙ computed

-- where they have once more
signed_at_new_host : World
signed_at_new_host = agree example (run example asks_new_host signed_anew)

is_signed_at_new_host : (rest : List Event) → after (back_at_new_host ++ rest) ≡ run example (rounds 0 2 ++ rest) signed_at_new_host
unfolding start asks signed acted_on agree request_taken agreement_taken device_of onward backward clears leaves parts asks_anew signed_anew restarts sees_it asks_new_host signed_at_new_host
is_signed_at_new_host rest =
    let is : IsRequested (run example asks_new_host signed_anew) = record { here = refl; up = refl } in
    let after_it : IsAgreed (acted_on example (run example asks_new_host signed_anew)) = record { here = refl; down = refl } in
    is_signed_anew (sees_it ++ (connected ++ rest)) ∙ agreeing example asks_new_host (rounds 0 2 ++ rest) signed_anew is after_it

is_granted_anew : end_on 0 (after back_at_new_host) ≡ bound_and_shows small fresh_sign_on
unfolding start asks signed acted_on agree request_taken agreement_taken device_of onward backward clears leaves parts asks_anew signed_anew restarts sees_it asks_new_host signed_at_new_host
is_granted_anew =
    let computed : end_on 0 (run example (rounds 0 2) signed_at_new_host) ≡ bound_and_shows small fresh_sign_on = refl in
    ap (end_on 0) (is_signed_at_new_host []) ∙ computed

-- ---- all of it

pub restarting_run : RestartingRun
unfolding is_well_formed is_well_noted
restarting_run = record {
  are_events = are_events back_at_new_host refl;
  decides = decides_on_clear;
  cleared = is_cleared;
  knows = knows_the_cleared;
  shown_anew = shows_the_panel_anew;
  released = has_left;
  freed = has_parted;
  granted = is_granted;
  restarted = has_restarted;
  granted_anew = is_granted_anew;
}

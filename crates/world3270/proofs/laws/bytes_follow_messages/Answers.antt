use Rattle.world3270.specs.refinement.MessageLaws.{MessageLaws}
use Rattle.world3270.proofs.ByteActs.{act_goes, answer_goes, keep_alive_goes, note_goes}
use Rattle.world3270.proofs.ByteDown.{down_goes, terminals_refuse_nothing}
use Rattle.world3270.proofs.ByteEnds.{begin_is_reached, connect_goes, host_sees_goes, lose_goes, restart_host_goes, restart_term_goes, term_sees_goes}
use Rattle.world3270.proofs.ByteKeys.{key_goes}
use Rattle.world3270.proofs.BytePlaced.{skips_are_those}
use Rattle.world3270.proofs.ByteUp.{up_goes}
use Rattle.world3270.proofs.Follows.{EventsGo, runs_go_on, steps_go_on}
use Rattle.world3270.proofs.Leaving.{nobody_closes}
use Rattle.world3270.proofs.SeenRepresents.{headline_is_seen}
use Rattle.world3270.specs.refinement.Refines.{SameSkips, StepsAreSimulated}
use Rattle.world3270.proofs.Unbroken.{deliveries_close_nothing, nobody_has_refused, nothing_is_refused, under_way_refuses_nothing}
use Rattle.world3270.proofs.laws.bytes_follow_messages.Goals as goal

skips : MessageLaws → SameSkips
skips known = skips_are_those known.links.one_delivery known.links.no_bytes

all_go : MessageLaws → EventsGo
all_go known = record {
  key = key_goes known (skips known);
  up = up_goes known;
  down = down_goes known;
  act = act_goes known (skips known) known.worlds.given known.links.paint known.links.bounded;
  answer = answer_goes known (skips known) known.worlds.given known.links.paint known.links.bounded;
  note = note_goes known (skips known) known.worlds.given known.links.paint known.links.bounded;
  keep_alive = keep_alive_goes known;
  lose = lose_goes known (skips known);
  host_sees = host_sees_goes known (skips known);
  term_sees = term_sees_goes known (skips known);
  connect = connect_goes known (skips known);
  restart_term = restart_term_goes known (skips known);
  restart_host = restart_host_goes known (skips known);
}

steps : MessageLaws → StepsAreSimulated
steps known = steps_go_on known (all_go known) (skips known)

pub returns-clause-begin : goal.returns-clause-begin
returns-clause-begin c = begin_is_reached c.what_is_known.ensures

pub returns-clause-steps : goal.returns-clause-steps
returns-clause-steps c = steps c.what_is_known.ensures

pub returns-clause-runs : goal.returns-clause-runs
returns-clause-runs c = runs_go_on (steps c.what_is_known.ensures)

pub returns-clause-skipped : goal.returns-clause-skipped
returns-clause-skipped c = skips c.what_is_known.ensures

pub returns-clause-headline : goal.returns-clause-headline
returns-clause-headline c = headline_is_seen c.what_is_known.ensures.worlds

pub returns-clause-close_nothing : goal.returns-clause-close_nothing
returns-clause-close_nothing c = deliveries_close_nothing c.what_is_known.ensures.worlds (steps c.what_is_known.ensures)

pub returns-clause-nobody_closes : goal.returns-clause-nobody_closes
returns-clause-nobody_closes c = nobody_closes c.what_is_known.ensures.worlds

pub returns-clause-history : goal.returns-clause-history
returns-clause-history c = nobody_has_refused c.what_is_known.ensures.worlds

pub returns-clause-none_refused : goal.returns-clause-none_refused
returns-clause-none_refused c = nothing_is_refused c.what_is_known.ensures

pub returns-clause-say_no_refusal : goal.returns-clause-say_no_refusal
returns-clause-say_no_refusal c = terminals_refuse_nothing c.what_is_known.ensures

pub returns-clause-under_way_refuses_nothing : goal.returns-clause-under_way_refuses_nothing
returns-clause-under_way_refuses_nothing c = under_way_refuses_nothing c.what_is_known.ensures.worlds

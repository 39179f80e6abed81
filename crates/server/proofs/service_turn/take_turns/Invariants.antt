use Rattle.server.specs.ServiceTurns.{TakesTurns}
use Rattle.server.proofs.service_turn.take_turns.Given as goal

abbrev pub invariant-loop : goal.invariant-loop
invariant-loop g l = TakesTurns g.S.TurnParts.served g.S.TurnParts.timed g.S.TurnParts.consulted g.S.TurnParts.obeyed g.S.TurnParts.told g.S.TurnParts.is_over l.counter l.initial.service l.busy l.service

use Rattle.std.proofs.Common.{[], ◌∷◌}
use Rattle.world3270.proofs.world.World.step.Goals as goal

pub returns-clause-no_error_made : goal.returns-clause-no_error_made
returns-clause-no_error_made c =
    (c.no_protocol_errors.ensures.events (c.args.event ∷ []) c.args.self.now c.happen-stepped.ensures.messages.represents (c.events_are_real.ensures, tt) c.happen-stepped.result
    c.happen-stepped.new.self c.happen-stepped.ensures.steps).0

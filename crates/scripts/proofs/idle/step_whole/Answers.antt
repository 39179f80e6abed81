use Rattle.std.proofs.Common.{ap, is_some}
use Rattle.world3270.specs.model.ByteRuns.{refused_at}
use Rattle.world3270.specs.declared.event.Stepped.{Stepped}
use Rattle.scripts.proofs.Rounds.{stopped_here}
use Rattle.scripts.proofs.idle.step_whole.Goals as goal

pub returns-in-Part-clause-stopped : goal.returns-in-Part-clause-stopped
returns-in-Part-clause-stopped c =
    stopped_here c.args.event c.step-answer.result c.args.world.now c.step-answer.new.self c.step-answer.ensures.steps
    (ap (λ (answer : Stepped). is_some (refused_at answer)) c.in-Part.is)

pub returns-in-Memory-clause-stopped : goal.returns-in-Memory-clause-stopped
returns-in-Memory-clause-stopped c =
    stopped_here c.args.event c.step-answer.result c.args.world.now c.step-answer.new.self c.step-answer.ensures.steps
    (ap (λ (answer : Stepped). is_some (refused_at answer)) c.in-Memory.is)

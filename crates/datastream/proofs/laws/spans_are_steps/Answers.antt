use Rattle.datastream.proofs.Spans.{spans_are_steps, distances_lead}
use Rattle.datastream.proofs.laws.spans_are_steps.Goals as goal

pub returns-clause-steps : goal.returns-clause-steps
returns-clause-steps c = spans_are_steps

pub returns-clause-lead : goal.returns-clause-lead
returns-clause-lead c = distances_lead

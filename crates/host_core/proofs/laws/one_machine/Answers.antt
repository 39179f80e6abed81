use Rattle.host_core.proofs.Outcomes.{one_outcome, pieces_compose, pieces_part}
use Rattle.host_core.proofs.laws.one_machine.Goals as goal

pub returns-clause-outcome : goal.returns-clause-outcome
returns-clause-outcome c =
    let wire = c.one_reading.ensures in
    let messages = c.one_reading-2.ensures in
    one_outcome messages.header messages.header_or_fault messages.hearing c.one_reading-3.ensures.inbound wire.delivery wire.wrong_is_final

pub returns-clause-compose : goal.returns-clause-compose
returns-clause-compose c = pieces_compose

pub returns-clause-part : goal.returns-clause-part
returns-clause-part c = pieces_part

use Rattle.std.proofs.Common.{ap, ◌++◌, ◌∙◌, List}
use Rattle.telnet_wire.specs.Items.{WireItem, sent_bytes}
use Rattle.datastream.specs.Senses.{sense_of}
use Rattle.term_core.specs.declared.outcome.Outcome.TheVariants.{Refused}
use Rattle.term_core.proofs.Steps.{without_header, of_another_type, with_fault, with_command, answered_if_wanted, silent_if_not_wanted}
use Rattle.term_core.proofs.station.Station.take_record.Goals as goal

pub returns-in_default-clause-taken : goal.returns-in_default-clause-taken
returns-in_default-clause-taken c = without_header _ _ _ _ c.in_default.ensures.fault

pub returns-in_default-kind-clause-taken : goal.returns-in_default-kind-clause-taken
returns-in_default-kind-clause-taken c =
    of_another_type c.args.self.now c.args.bytes.now c.args.out.now c.in-Ok.header c.in-Ok.body.now c.in-Ok.ensures.found c.in_default-kind.not-Data3270

pub returns-in-Ok-read-clause-taken : goal.returns-in-Ok-read-clause-taken
returns-in-Ok-read-clause-taken c =
    with_command c.args.self.now c.obey.new.self c.args.bytes.now c.args.out.now c.obey.new.out c.in-Ok.header c.in-Ok.body.now c.in-Ok-read.command
    c.in-Ok.ensures.found c.in-Data3270.is c.in-Ok-read.ensures.found c.obey.ensures.station c.obey.ensures.sent

pub returns-then-header-ne-NO_RESPONSE-clause-taken : goal.returns-then-header-ne-NO_RESPONSE-clause-taken
returns-then-header-ne-NO_RESPONSE-clause-taken c =
    let answered = answered_if_wanted c.in-Ok.header.flag c.in-Ok.header.seq (Refused (sense_of c.in-Err.fault)) c.if-header-ne-NO_RESPONSE.true in
    with_fault c.args.self.now c.args.bytes.now c.args.out.now c.send_response.new.out c.in-Ok.header c.in-Ok.body.now c.in-Err.fault
    c.in-Ok.ensures.found c.in-Data3270.is c.in-Err.ensures.found
    (rw c.sense.ensures at c.send_response.ensures.sent ∙ ap (λ (says : List WireItem). c.args.out.now.items ++ sent_bytes says) answered)

pub returns-else-header-ne-NO_RESPONSE-clause-taken : goal.returns-else-header-ne-NO_RESPONSE-clause-taken
returns-else-header-ne-NO_RESPONSE-clause-taken c =
    with_fault c.args.self.now c.args.bytes.now c.args.out.now c.args.out.now c.in-Ok.header c.in-Ok.body.now c.in-Err.fault
    c.in-Ok.ensures.found c.in-Data3270.is c.in-Err.ensures.found
    (silent_if_not_wanted c.in-Ok.header.flag c.in-Ok.header.seq (Refused (sense_of c.in-Err.fault)) c.args.out.now.items c.if-header-ne-NO_RESPONSE.false)

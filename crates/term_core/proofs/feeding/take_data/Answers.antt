use Rattle.std.proofs.Common.{[], take, arith}
use Rattle.std.proofs.lemmas.List.{length-take-le}
use Rattle.telnet_wire.proofs.Running.{all_running}
use Rattle.tn3270e_msg.specs.Header.{record_limit}
use Rattle.term_core.proofs.Steps.{data_taken}
use Rattle.term_core.proofs.feeding.take_data.Goals as goal

pub returns-then-count-gt0-clause-taken : goal.returns-then-count-gt0-clause-taken
returns-then-count-gt0-clause-taken c = λ talk out.
    data_taken (take c.push_data-count.result c.args.bytes.now) c.args.decoder.now c.push_data-count.new.self talk c.args.station.now c.begin_byte.new.self out c.requires
    c.push_data-count.ensures.taken (omega (arith, c.if-count-gt0.true, length-take-le c.push_data-count.result c.args.bytes.now c.push_data-count.ensures.few)) c.begin_byte.ensures

pub returns-then-count-gt0-clause-running : goal.returns-then-count-gt0-clause-running
returns-then-count-gt0-clause-running c =
    all_running record_limit (take c.push_data-count.result c.args.bytes.now) [] c.args.decoder.now c.push_data-count.new.self c.requires c.push_data-count.ensures.taken

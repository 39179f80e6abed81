use Rattle.std.proofs.Common.{arith}
use Rattle.telnet_wire.proofs.Runs.{found-length, found-plain, none_found-length, none_found-plain}
use Rattle.telnet_wire.proofs.decoding.data_before_iac.Goals as goal

pub returns-in-Some-clause-length : goal.returns-in-Some-clause-length
returns-in-Some-clause-length c = found-length c.args.bytes.now c.args.room c.min.result (omega arith) c.in-Some.end c.in-Some.ensures

pub returns-in-Some-clause-plain : goal.returns-in-Some-clause-plain
returns-in-Some-clause-plain c = found-plain c.args.bytes.now c.args.room c.min.result (omega arith) c.in-Some.end c.in-Some.ensures

pub returns-in-None-clause-length : goal.returns-in-None-clause-length
returns-in-None-clause-length c = none_found-length c.args.bytes.now c.args.room c.min.result (omega arith) c.in-None.ensures

pub returns-in-None-clause-plain : goal.returns-in-None-clause-plain
returns-in-None-clause-plain c = none_found-plain c.args.bytes.now c.args.room c.min.result (omega arith) c.in-None.ensures

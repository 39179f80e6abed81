use Rattle.service_wire.proofs.header_line.first_ipv4.Goals as goal

pub returns-in_default : goal.returns-in_default
returns-in_default c = λ value pair. c.in_default.ensures value pair.first_is

pub returns-in-Err : goal.returns-in-Err
returns-in-Err c = λ value pair. c.in-Err.ensures pair.other pair.second_is

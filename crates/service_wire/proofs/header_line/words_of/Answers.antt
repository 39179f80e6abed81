use Rattle.service_wire.proofs.HeaderWords.{six_words}
use Rattle.service_wire.proofs.header_line.words_of.Goals as goal

pub returns-in-Some-clause-none : goal.returns-in-Some-clause-none
returns-in-Some-clause-none c =
    six_words _ _ _ _ _ _ _ _ _ _ _ c.in_ok-family.ensures c.in_ok-source.ensures c.in_ok-target.ensures c.in_ok-source_port.ensures c.in-Some.ensures

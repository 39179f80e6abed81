use Rattle.std.proofs.Common.{refl}
use Rattle.service_wire.proofs.Clients.{no_line, not_five}
use Rattle.service_wire.proofs.header_line.read_words.Goals as goal

pub returns-in_default-words_of : goal.returns-in_default-words_of
returns-in_default-words_of c = no_line _ _ c.in_default.ensures refl (not_five _ c.in_default-words_of.ensures.none)

pub returns-in-None : goal.returns-in-None
returns-in-None c = no_line _ _ c.in_default.ensures c.in-Some-words_of.ensures.found c.in-None.ensures

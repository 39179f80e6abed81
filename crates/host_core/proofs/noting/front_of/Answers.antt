use Rattle.std.proofs.Common.{sym, arith}
use Rattle.std.proofs.lemmas.List.{take_all}
use Rattle.host_core.proofs.NoteBytes.{front_stored}
use Rattle.host_core.proofs.noting.front_of.Goals as goal

pub returns-then-text-room-clause-front : goal.returns-then-text-room-clause-front
returns-then-text-room-clause-front c = sym (take_all c.args.room c.args.text.now (omega arith))

pub returns-else-text-room-clause-storable : goal.returns-else-text-room-clause-storable
returns-else-text-room-clause-storable c = front_stored c.args.room c.args.text.now c.requires

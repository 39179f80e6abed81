use Rattle.term_core.proofs.Rooms.{feeding_has_room, keys_have_room}
use Rattle.term_core.proofs.laws.room_suffices.Goals as goal

pub returns-clause-feeding : goal.returns-clause-feeding
returns-clause-feeding c = feeding_has_room

pub returns-clause-keys : goal.returns-clause-keys
returns-clause-keys c = keys_have_room

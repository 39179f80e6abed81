-- What `{}` prints of a lock and of a refusal, and the numbers of the refusals (our profile).
use Rattle.std.specs.Prelude.{ℕ, List, codes}
use Rattle.keyboard.specs.declared.key.Lock.{Lock}
use Rattle.keyboard.specs.declared.key.Lock.TheVariants.{Free, Wait, Error}
use Rattle.keyboard.specs.declared.key.Refusal.{Refusal}
use Rattle.keyboard.specs.declared.key.Refusal.TheVariants.{Locked, Protected, NotNumeric, NoRoom, NoCode}

-- the name of a lock
abbrev pub lock_name : Lock → List ℕ
lock_name Free = codes "free"
lock_name Wait = codes "wait"
lock_name Error = codes "error"

-- the number of a refusal, 1 to 5
abbrev pub refusal_number : Refusal → ℕ
refusal_number Locked = 1
refusal_number Protected = 2
refusal_number NotNumeric = 3
refusal_number NoRoom = 4
refusal_number NoCode = 5

-- the name of a refusal
abbrev pub refusal_name : Refusal → List ℕ
refusal_name Locked = codes "locked"
refusal_name Protected = codes "protected"
refusal_name NotNumeric = codes "not-numeric"
refusal_name NoRoom = codes "no-room"
refusal_name NoCode = codes "no-code"

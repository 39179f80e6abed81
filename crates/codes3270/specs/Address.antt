-- Buffer addresses (GA23-0059-07 on buffer addressing).
use Rattle.std.specs.Prelude.{ℕ, ◌+◌, ◌*◌, ◌/◌, ◌%◌, List, [], ◌∷◌, nat_lt, if◌then◌else◌}
use Rattle.codes3270.specs.SixBit.{six_bit_code}

-- the two bytes of an address: the codes of its high and of its low six bits
abbrev pub address_bytes : ℕ → List ℕ
address_bytes address = six_bit_code (address / 64) ∷ six_bit_code (address % 64) ∷ []

-- the address that two bytes encode: it has fourteen bits if the top two bits of the first are 0,
-- and twelve if they aren't
abbrev pub address_of : ℕ → ℕ → ℕ
address_of high low = if nat_lt high 64 then high * 256 + low else high % 64 * 64 + low % 64

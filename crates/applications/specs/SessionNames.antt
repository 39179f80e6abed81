-- The names of sessions, in an application's requests and in the log (our profile): BOOT-N. BOOT is drawn at random
-- when the host starts, N counts its sessions. So no name is used again, not even after the host is started again.
use Rattle.std.specs.Prelude.{◌≡◌, ℕ, ◌+◌, ◌-◌, ◌%◌, ◌^◌, false, List, ◌++◌, codes, length, replicate}
use Rattle.std.specs.Fmt.{decimal, radix_digits}
use Rattle.std.specs.Int.{from_be_bytes, w64}
use Rattle.applications.specs.declared.session_name.SessionName.{SessionName}

-- a number in 16 hexadecimal digits, with leading zeros
abbrev pub boot_text : ℕ → List ℕ
boot_text boot = replicate (16 - length (radix_digits 16 false boot)) 48 ++ radix_digits 16 false boot

-- the next session of the host
abbrev pub session_after : SessionName → SessionName
session_after session = record session { number = (session.number + 1) % 2 ^ 64 }

-- Holds if a number is the one in big-endian order of eight bytes of which `filled` holds: of all bytes of one call of a
-- source of random bytes.
pub record IsDrawn (filled : List ℕ → Type 0) (boot : ℕ) : Type 0 where
  pub bytes : List ℕ
  pub count : length bytes ≡ 8
  pub given : filled bytes
  pub is : boot ≡ from_be_bytes w64 bytes

abbrev pub session_text : SessionName → List ℕ
session_text session = boot_text session.boot ++ (codes "-" ++ decimal session.number)

-- How answers of single calls are taken, by the bytes.
use Rattle.std.proofs.Common.{◌≡◌, ◌<◌, ◌≤◌, ◌==◌, ◌⊎◌, inl, inr, ℕ, zero, suc, Bool, true, false, List, [], length, take, Result, Ok, Err, if◌then◌else◌, refl, ap, arith, ne_eqb}
use Rattle.std.proofs.lemmas.Bool.{eqb-true}
use Rattle.std.specs.IoError.{error_kind}
use Rattle.std.specs.Io.{ReadsAtMost, WritesAtMost}
use Rattle.std.specs.declared.io.Error.{Error}
use Rattle.host_core.specs.Serves.{bytes_got}
use Rattle.host_core.specs.declared.links.LinkRead.TheVariants as read
use Rattle.host_core.specs.declared.links.LinkWrite.TheVariants as write
use Rattle.jobs.specs.RawCalls.{bytes_read, is_transient, link_read, link_write}
use Rattle.jobs.specs.Sockets.{IsValidReadCount, TookSome}

got_of_count : (none : Bool) (count : ℕ) (buffer : List ℕ) → (none ≡ true → count ≡ 0)
    → bytes_read (Ok count) buffer ≡ bytes_got (if none then read.Ended else read.Got count) buffer
got_of_count true count buffer none = ap (λ (n : ℕ). take n buffer) (none refl)
got_of_count false count buffer none = refl

got_of_error : (passing : Bool) (buffer : List ℕ) → [] ≡ bytes_got (if passing then read.NotNow else read.Failed) buffer
got_of_error true buffer = refl
got_of_error false buffer = refl

-- the bytes that a read put in the buffer are those that the connection got
pub same_bytes_read : (answer : Result ℕ Error) (buffer : List ℕ) → bytes_read answer buffer ≡ bytes_got (link_read answer) buffer
same_bytes_read (Ok count) buffer = got_of_count (count == 0) count buffer (λ is. eqb-true count 0 is)
same_bytes_read (Err error) buffer = got_of_error (is_transient (error_kind error)) buffer

got_in_of_count : (count room : ℕ) → count ≤ room → ((count == 0) ≡ true) ⊎ (((count == 0) ≡ false) × (0 < count))
    → IsValidReadCount (if count == 0 then read.Ended else read.Got count) room
got_in_of_count count room within (inl none) = rw none tt
got_in_of_count count room within (inr some) = rw (some.0) (some.1, within)

got_in_of_error : (passing : Bool) (room : ℕ) → IsValidReadCount (if passing then read.NotNow else read.Failed) room
got_in_of_error true room = tt
got_in_of_error false room = tt

pub none_or_some : (count : ℕ) → ((count == 0) ≡ true) ⊎ (((count == 0) ≡ false) × (0 < count))
none_or_some zero = inl refl
none_or_some (suc count) = inr (ne_eqb (suc count) 0 (λ is. absurd (omega arith)), omega arith)

pub read_count_is_valid : (answer : Result ℕ Error) (buffer : List ℕ) → ReadsAtMost answer buffer → IsValidReadCount (link_read answer) (length buffer)
read_count_is_valid (Ok count) buffer bound = got_in_of_count count (length buffer) bound.0 (none_or_some count)
read_count_is_valid (Err error) buffer bound = got_in_of_error (is_transient (error_kind error)) (length buffer)

took_some_of_count : (count given : ℕ) → count ≤ given → ((count == 0) ≡ true) ⊎ (((count == 0) ≡ false) × (0 < count))
    → TookSome (if count == 0 then write.NotNow else write.Took count) given
took_some_of_count count given within (inl none) = rw none tt
took_some_of_count count given within (inr some) = rw (some.0) (some.1, within)

took_some_of_error : (passing : Bool) (given : ℕ) → TookSome (if passing then write.NotNow else write.Failed) given
took_some_of_error true given = tt
took_some_of_error false given = tt

pub took_some : (answer : Result ℕ Error) (bytes : List ℕ) → WritesAtMost answer bytes → TookSome (link_write answer) (length bytes)
took_some (Ok count) bytes bound = took_some_of_count count (length bytes) bound (none_or_some count)
took_some (Err error) bytes bound = took_some_of_error (is_transient (error_kind error)) (length bytes)

-- What a session makes of a read of its connection.
use Rattle.std.proofs.Common.{◌≡◌, refl, subst, sym, ℕ, List, take, Result, Err}
use Rattle.std.specs.declared.io.Error.{Error}
use Rattle.host_core.specs.Serves.{bytes_got}
use Rattle.host_core.specs.declared.links.LinkRead.{LinkRead}
use Rattle.host_core.specs.declared.links.LinkRead.TheVariants as read
use Rattle.jobs.specs.Counting.{chunk_size}
use Rattle.operate.specs.LiveSessions.{AfterRead, FailsToHear, ReadsHost, Session, got_count, read_result}
use Rattle.jobs.specs.declared.fault.Fault.{Fault}
use Rattle.jobs.specs.Sockets.{Gives, SocketSlot}

-- the bytes are so many of the buffer
counted : (answer : LinkRead) (buffer : List ℕ) → bytes_got answer buffer ≡ take (got_count answer) buffer
counted (read.Got count) buffer = refl
counted read.NotNow buffer = refl
counted read.Ended buffer = refl
counted read.Failed buffer = refl

pub host_read : {S K T : Type 0} (gave : S → ℕ → List ℕ → Result ℕ Error → S → Type 0) (old new : Session S K T) (socket : SocketSlot S)
    (answer : LinkRead) (buffer : List ℕ) → Gives gave old.socket chunk_size (bytes_got answer buffer) answer socket
    → AfterRead answer (record old { socket = socket }) new → ReadsHost gave (take (got_count answer) buffer) old new
host_read gave old new socket answer buffer gives after = record {
  answer = answer;
  socket = socket;
  gives = subst (λ (bytes : List ℕ). Gives gave old.socket chunk_size bytes answer socket) (counted answer buffer) gives;
  after = after;
}

-- a connection that is lost before the terminal was ever bound
pub host_lost : {S K T : Type 0} (gave : S → ℕ → List ℕ → Result ℕ Error → S → Type 0) (old new : Session S K T) (socket : SocketSlot S)
    (answer : LinkRead) (buffer : List ℕ) (fault : Fault) → Gives gave old.socket chunk_size (bytes_got answer buffer) answer socket
    → Err fault ≡ read_result old.was_bound answer → AfterRead answer (record old { socket = socket }) new → FailsToHear gave fault old new
host_lost gave old new socket answer buffer fault gives result after = record {
  answer = answer;
  came = bytes_got answer buffer;
  socket = socket;
  gives = gives;
  is = sym result;
  after = after;
}

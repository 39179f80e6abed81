-- How an operator waits for the host (our profile): the terminal sends its output, is fed one read, and so on.
use Rattle.std.specs.Prelude.{◌≡◌, ◌≤◌, ◌⊎◌, ⊤, ℕ, Bool, true, false, List, [], ◌++◌}
use Rattle.term_core.specs.Bytes.{TakesBytes}
use Rattle.term_core.specs.State.{Link, Terminal, Detached, Attached, Closed, lost}
use Rattle.jobs.specs.Counting.{CutShort, Output, Reads, Written}
use Rattle.scripts.specs.Operating.{IsWaitOver}
use Rattle.scripts.specs.declared.operator.WaitEnd.{WaitEnd}
use Rattle.scripts.specs.declared.operator.WaitEnd.TheVariants.{Over, ReadsUsedUp}
use Rattle.jobs.specs.declared.streams.Answer.{Answer}
use Rattle.jobs.specs.declared.streams.Answer.TheVariants.{Gave, Ended, Interrupted, Failed}

-- the most reads of one wait
abbrev pub most_waits : ℕ
most_waits = 1000

-- the size of the buffer of each read, in bytes
abbrev pub read_room : ℕ
read_room = 16384

-- holds if there may be more to read after this answer
abbrev pub GoesOn : Answer → Type 0
GoesOn (Gave count) = ⊤
GoesOn Interrupted = ⊤
GoesOn Ended = ⊥
GoesOn Failed = ⊥

-- holds if the terminal has closed the connection
abbrev pub HasClosed : Link → Type 0
HasClosed Detached = ⊥
HasClosed (Attached rest talk) = ⊥
HasClosed (Closed cause) = ⊤

-- Holds if a terminal is fed bytes: it takes all of them, or closes the connection at one of them.
pub record IsFed (old : Terminal) (bytes : List ℕ) (new : Terminal) : Type 0 where
  pub front : List ℕ
  pub rest : List ℕ
  pub parted : bytes ≡ front ++ rest
  pub takes : TakesBytes old front new
  pub whole : (rest ≡ []) ⊎ HasClosed new.link

-- Holds if all output of a terminal is sent, or if the write fails and the terminal is detached.
abbrev pub SendsAll : Bool → (old new : Terminal) (up_old up_new : Output) → Type 0
SendsAll true old new up_old up_new = Written up_old up_new old.out × (new ≡ record old { out = [] })
SendsAll false old new up_old up_new = CutShort up_old up_new old.out × (new ≡ lost old)

module _ {D : Type 0} (gave : D → ℕ → List ℕ → Answer → D → Type 0) where
  abbrev pub GaveOn : D → ℕ → List ℕ → Answer → D → Type 0
  GaveOn old room bytes answer new = gave old room bytes answer new × GoesOn answer

  -- Holds if the terminal was fed the bytes of `count` reads. `fed.out` has its output from before and since.
  pub record Exchanges (count : ℕ) (old : Terminal) (down_old : D) (fed : Terminal) (down_new : D) : Type 0 where
    pub bytes : List ℕ
    pub few : count ≤ most_waits
    pub reads : Reads GaveOn read_room count down_old bytes down_new
    pub is_fed : IsFed old bytes fed

  -- Holds for the end of a wait. `sound`: all output is sent, and either the wait is over or it used all of its reads.
  -- `ended`: all output is sent, the next read found the end or failed, and the terminal is detached. `unsent`: a write
  -- failed, and the terminal is detached.
  pub data HasWaited (old new : Terminal) (down_old down_new : D) (up_old up_new : Output) : Type 0 where
    sound : (count : ℕ) (fed : Terminal) → Exchanges count old down_old fed down_new → Written up_old up_new fed.out
        → new ≡ record fed { out = [] } → IsWaitOver new ⊎ (count ≡ most_waits)
        → HasWaited old new down_old down_new up_old up_new
    ended : (count : ℕ) (fed : Terminal) (mid : D) (answer : Answer) → Exchanges count old down_old fed mid
        → Written up_old up_new fed.out
        → gave mid read_room [] answer down_new → (GoesOn answer → ⊥) → new ≡ lost fed
        → HasWaited old new down_old down_new up_old up_new
    unsent : (count : ℕ) (fed : Terminal) → Exchanges count old down_old fed down_new → CutShort up_old up_new fed.out
        → new ≡ lost fed → HasWaited old new down_old down_new up_old up_new

  -- Holds for a wait before its last send. If it used all of its reads, it ends as that send does.
  abbrev pub HasExchanged : WaitEnd → (old new : Terminal) (down_old down_new : D) (up_old up_new : Output) → Type 0
  HasExchanged ReadsUsedUp old new down_old down_new up_old up_new =
      (all_sent : Bool) (last : Terminal) (up_last : Output) → SendsAll all_sent new last up_new up_last
      → HasWaited old last down_old down_new up_old up_last
  HasExchanged Over old new down_old down_new up_old up_new = HasWaited old new down_old down_new up_old up_new

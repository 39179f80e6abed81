-- A wait, from its rounds.
use Rattle.std.proofs.Common.{◌≡◌, ◌<◌, ◌≤◌, ◌+◌, ◌∙◌, ◌⊎◌, inl, inr, ⊎_elim, ℕ, Bool, true, false, List, [], ◌∷◌, ◌++◌, length, take, drop, refl, sym, ap, subst, arith}
use Rattle.std.proofs.lemmas.Bool.{true≢false}
use Rattle.std.proofs.lemmas.List.{append-nil, append_assoc, take-append-drop}
use Rattle.std.proofs.Math.Seq.{take-append-add}
use Rattle.std.proofs.KnownBytes.{Appends-nil, Appends-trans}
use Rattle.keyboard.specs.declared.key.Lock.{Lock}
use Rattle.tn3270e_msg.specs.declared.cause.Stop.{Stop}
use Rattle.tn3270e_msg.specs.declared.cause.Stop.TheVariants.{Going, Memory, Closed as ClosedStop}
use Rattle.telnet_wire.specs.Items.{sent_bytes}
use Rattle.term_core.specs.Bytes.{TakesByte, TakesBytes, goes_on, completes, breaks, link_after}
use Rattle.term_core.specs.Feeds.{IsAttached, StopsFor}
use Rattle.term_core.specs.State.{Link, Terminal, Detached, Attached, Closed, lost, phase_of}
use Rattle.jobs.specs.Counting.{CutShort, Output, Written, bytes_given}
use Rattle.scripts.specs.Operating.{IsWaitOver, is_wait_over}
use Rattle.scripts.specs.Waits.{Exchanges, GaveOn, GoesOn, HasClosed, HasExchanged, HasWaited, IsFed, SendsAll, ended, most_waits, sound, unsent, read_room}
use Rattle.scripts.specs.declared.operator.WaitEnd.{WaitEnd}
use Rattle.scripts.specs.declared.operator.WaitEnd.TheVariants.{Over, ReadsUsedUp}
use Rattle.jobs.specs.declared.streams.Answer.{Answer}
use Rattle.jobs.specs.declared.streams.Answer.TheVariants.{Ended, Failed}
use Rattle.jobs.proofs.ReadsOn.{reads_nothing, reads_on}

-- ---- a terminal, and what it had to send before

abbrev pub behind_sent : List ℕ → Terminal → Terminal
behind_sent sent terminal = record terminal { out = sent ++ terminal.out }

takes_byte_behind : (sent : List ℕ) (old new : Terminal) (byte : ℕ) → TakesByte old byte new → TakesByte (behind_sent sent old) byte (behind_sent sent new)
takes_byte_behind sent old new byte (goes_on rest to talk attached delivers is) = goes_on rest to talk attached delivers (ap (behind_sent sent) is)
takes_byte_behind sent old new byte (completes rest to talk after item says closes station attached delivers takes is) =
    completes rest to talk after item says closes station attached delivers takes
    (ap (behind_sent sent) is ∙ ap (λ (out : List ℕ). record (behind_sent sent new) { link = link_after to after closes; station = station; out = out }) (sym (append_assoc sent old.out (sent_bytes says))))
takes_byte_behind sent old new byte (breaks rest talk fault attached wrong is) = breaks rest talk fault attached wrong (ap (behind_sent sent) is)

pub takes_behind : (sent : List ℕ) (old new : Terminal) (bytes : List ℕ) → TakesBytes old bytes new → TakesBytes (behind_sent sent old) bytes (behind_sent sent new)
takes_behind sent old new [] is = ap (behind_sent sent) is
takes_behind sent old new (byte ∷ bytes) (mid, first, others) =
    (behind_sent sent mid, takes_byte_behind sent old mid byte first, takes_behind sent mid new bytes others)

pub takes_both : (old mid new : Terminal) (first second : List ℕ) → TakesBytes old first mid → TakesBytes mid second new → TakesBytes old (first ++ second) new
takes_both old mid new [] second is others = subst (λ (from : Terminal). TakesBytes from second new) is others
takes_both old mid new (byte ∷ first) second (next, one, some) others = (next, one, takes_both next mid new first second some others)

-- ---- a terminal that is waited at

waits_attached : (link : Link) (lock : Lock) → is_wait_over (phase_of link) lock ≡ false → IsAttached link
waits_attached Detached lock waits = absurd (true≢false waits)
waits_attached (Attached rest talk) lock waits = tt
waits_attached (Closed cause) lock waits = absurd (true≢false waits)

not_closed : (link : Link) → IsAttached link → HasClosed link → ⊥
not_closed Detached attached closed = closed
not_closed (Attached rest talk) attached closed = closed
not_closed (Closed cause) attached closed = attached

closed_by : (link : Link) (cause : _) → link ≡ Closed cause → HasClosed link
closed_by link cause is = subst HasClosed (sym is) tt

not_detached : (link : Link) → link ≡ Detached → IsAttached link → ⊥
not_detached link is attached = subst IsAttached is attached

drop_all : (all : List ℕ) (count : ℕ) → count ≡ length all → drop count all ≡ []
drop_all [] count is = ap (λ (n : ℕ). drop n []) is
drop_all (x ∷ all) count is = ap (λ (n : ℕ). drop n (x ∷ all)) is ∙ drop_all all (length all) refl

-- a terminal that waits is fed what it takes of the bytes
pub is_fed : (room : ℕ) (old new : Terminal) (bytes : List ℕ) (taken : ℕ) (stop : Stop) → is_wait_over (phase_of old.link) old.station.keyboard.lock ≡ false
    → taken ≤ length bytes → TakesBytes old (take taken bytes) new → StopsFor room stop old bytes taken new → (stop ≡ Memory → ⊥) → IsFed old bytes new
is_fed room old new bytes taken Going waits few takes stops going = record {
  front = take taken bytes;
  rest = drop taken bytes;
  parted = sym (take-append-drop taken bytes);
  takes = takes;
  whole = ⊎_elim
      (λ all. inl (drop_all bytes taken all.0))
      (λ none. absurd (not_detached old.link none.1 (waits_attached old.link _ waits)))
      stops;
}
is_fed room old new bytes taken Memory waits few takes stops going = absurd (going refl)
is_fed room old new bytes taken (ClosedStop cause) waits few takes stops going = record {
  front = take taken bytes;
  rest = drop taken bytes;
  parted = sym (take-append-drop taken bytes);
  takes = takes;
  whole = inr (closed_by new.link cause stops);
}

-- a read that found the end or failed
pub is_over : (answer : Answer) (buffer : List ℕ) → (answer ≡ Ended) ⊎ (answer ≡ Failed) → (bytes_given answer buffer ≡ []) × (GoesOn answer → ⊥)
is_over answer buffer (inl is) = rw is (refl, λ on. on)
is_over answer buffer (inr is) = rw is (refl, λ on. on)

-- ---- a wait

module _ {D : Type 0} (gave : D → ℕ → List ℕ → Answer → D → Type 0) where
  -- A wait after so many reads: the terminal is what the bytes make of it, but for what is sent.
  pub record Waiting (count : ℕ) (old now : Terminal) (down_old down_now : D) (up_old up_now : Output) : Type 0 where
    pub fed : Terminal
    pub exchanges : Exchanges gave count old down_old fed down_now
    pub sent : List ℕ
    pub written : Written up_old up_now sent
    pub out : fed.out ≡ sent ++ now.out
    pub same : now ≡ record fed { out = now.out }

  pub begins : (old : Terminal) (down : D) (up : Output) → Waiting 0 old old down down up up
  begins old down up = record {
    fed = old;
    exchanges = record {
      bytes = [];
      few = omega arith;
      reads = (refl, refl);
      is_fed = record { front = []; rest = []; parted = refl; takes = refl; whole = inl refl };
    };
    sent = [];
    written = record { appended = Appends-nil up.got; sound = refl };
    out = refl;
    same = refl;
  }

  module _ (count : ℕ) (old now : Terminal) (down_old down_now : D) (up_old up_now : Output) (waiting : Waiting count old now down_old down_now up_old up_now) where
    all_written : (up_new : Output) → Written up_now up_new now.out → Written up_old up_new waiting.fed.out
    all_written up_new now_written = rw waiting.out (record {
      appended = Appends-trans up_old.got up_now.got up_new.got waiting.sent now.out waiting.written.appended now_written.appended;
      sound = now_written.sound ∙ waiting.written.sound;
    })

    emptied : (new : Terminal) → new ≡ record now { out = [] } → new ≡ record waiting.fed { out = [] }
    emptied new is = is ∙ ap (λ (terminal : Terminal). record terminal { out = [] }) waiting.same

    -- all is sent
    pub after_send : (new : Terminal) (up_new : Output) → Written up_now up_new now.out → new ≡ record now { out = [] }
        → Waiting count old new down_old down_now up_old up_new
    after_send new up_new now_written is = record {
      fed = waiting.fed;
      exchanges = waiting.exchanges;
      sent = waiting.fed.out;
      written = all_written up_new now_written;
      out = sym (append-nil waiting.fed.out) ∙ ap (λ (out : List ℕ). waiting.fed.out ++ out) (sym (ap (λ (t : Terminal). t.out) is));
      same = emptied new is ∙ ap (λ (out : List ℕ). record waiting.fed { out = out }) (sym (ap (λ (t : Terminal). t.out) is));
    }

    -- a write failed
    pub after_failure : (new : Terminal) (up_new : Output) → CutShort up_now up_new now.out → new ≡ lost now → HasWaited gave old new down_old down_now up_old up_new
    after_failure new up_new cut is = unsent count waiting.fed waiting.exchanges (record {
      count = length waiting.sent + cut.count;
      appended = rw (waiting.out, take-append-add waiting.sent now.out cut.count)
          (Appends-trans up_old.got up_now.got up_new.got waiting.sent (take cut.count now.out) waiting.written.appended cut.appended);
      failed = rw (← waiting.written.sound) cut.failed;
    }) (is ∙ ap lost waiting.same)

    -- all is sent, and there is nothing to wait for, or the reads are used up
    pub ends_soundly : (new : Terminal) (up_new : Output) → Written up_now up_new now.out → new ≡ record now { out = [] } → IsWaitOver new ⊎ (count ≡ most_waits)
        → HasWaited gave old new down_old down_now up_old up_new
    ends_soundly new up_new now_written is why = sound count waiting.fed waiting.exchanges (all_written up_new now_written) (emptied new is) why

    -- all is sent, and the connection is over
    pub ends_lost : (new : Terminal) (down_new : D) (answer : Answer) → now.out ≡ [] → gave down_now read_room [] answer down_new → (GoesOn answer → ⊥)
        → new ≡ lost now → HasWaited gave old new down_old down_new up_old up_now
    ends_lost new down_new answer none now_gave over is =
        ended count waiting.fed down_now answer waiting.exchanges
        (subst (Written up_old up_now) (sym (waiting.out ∙ ap (λ (out : List ℕ). waiting.sent ++ out) none ∙ append-nil waiting.sent)) waiting.written)
        now_gave over (is ∙ ap lost waiting.same)

    -- the reads are used up
    pub ends_by_reads : (all_sent : Bool) (new : Terminal) (up_new : Output) → SendsAll all_sent now new up_now up_new → count ≡ most_waits
        → HasWaited gave old new down_old down_now up_old up_new
    ends_by_reads true new up_new sends last = ends_soundly new up_new sends.0 sends.1 (inr last)
    ends_by_reads false new up_new sends last = after_failure new up_new sends.0 sends.1

    -- a read gave nothing yet
    pub after_nothing : (down_new : D) (answer : Answer) → count < most_waits → gave down_now read_room [] answer down_new → GoesOn answer
        → Waiting (count + 1) old now down_old down_new up_old up_now
    after_nothing down_new answer few now_gave on = record {
      fed = waiting.fed;
      exchanges = record {
        bytes = waiting.exchanges.bytes;
        few = omega arith;
        reads = reads_nothing (GaveOn gave) read_room count down_old down_now down_new waiting.exchanges.bytes answer waiting.exchanges.reads (now_gave, on);
        is_fed = waiting.exchanges.is_fed;
      };
      sent = waiting.sent;
      written = waiting.written;
      out = waiting.out;
      same = waiting.same;
    }

    -- a read gave bytes, and the terminal was fed them
    pub after_bytes : (new : Terminal) (down_new : D) (bytes : List ℕ) (answer : Answer) → count < most_waits
        → is_wait_over (phase_of now.link) now.station.keyboard.lock ≡ false → gave down_now read_room bytes answer down_new → GoesOn answer → IsFed now bytes new
        → Waiting (count + 1) old new down_old down_new up_old up_now
    after_bytes new down_new bytes answer few waits now_gave on fed_now =
        let before = waiting.exchanges.is_fed in
        let attached : IsAttached waiting.fed.link = subst IsAttached (ap (λ (t : Terminal). t.link) waiting.same) (waits_attached now.link _ waits) in
        let none : before.rest ≡ [] = ⊎_elim (λ is. is) (λ closed. absurd (not_closed waiting.fed.link attached closed)) before.whole in
        let all : waiting.exchanges.bytes ≡ before.front = before.parted ∙ ap (λ (rest : List ℕ). before.front ++ rest) none ∙ append-nil before.front in
        let from : behind_sent waiting.sent now ≡ waiting.fed =
        ap (behind_sent waiting.sent) waiting.same ∙ ap (λ (out : List ℕ). record waiting.fed { out = out }) (sym waiting.out) in
        record {
          fed = behind_sent waiting.sent new;
          exchanges = record {
            bytes = waiting.exchanges.bytes ++ bytes;
            few = omega arith;
            reads = reads_on (GaveOn gave) read_room count down_old down_now down_new waiting.exchanges.bytes bytes _ answer waiting.exchanges.reads (now_gave, on) refl;
            is_fed = record {
              front = before.front ++ fed_now.front;
              rest = fed_now.rest;
              parted = ap (λ (front : List ℕ). front ++ bytes) all ∙ ap (λ (some : List ℕ). before.front ++ some) fed_now.parted ∙ sym (append_assoc before.front fed_now.front fed_now.rest);
              takes = takes_both old waiting.fed (behind_sent waiting.sent new) before.front fed_now.front before.takes
                  (subst (λ (it : Terminal). TakesBytes it fed_now.front (behind_sent waiting.sent new)) from (takes_behind waiting.sent now new fed_now.front fed_now.takes));
              whole = fed_now.whole;
            };
          };
          sent = waiting.sent;
          written = waiting.written;
          out = refl;
          same = refl;
        }

    -- a send that says whether it failed
    pub after_unsent : (all_sent : Bool) (new : Terminal) (up_new : Output) → SendsAll all_sent now new up_now up_new → all_sent ≡ false
        → HasWaited gave old new down_old down_now up_old up_new
    after_unsent true new up_new sends none = absurd (true≢false none)
    after_unsent false new up_new sends none = after_failure new up_new sends.0 sends.1

    pub after_wait_over : (all_sent : Bool) (new : Terminal) (up_new : Output) → SendsAll all_sent now new up_now up_new → all_sent ≡ true → IsWaitOver new
        → HasWaited gave old new down_old down_now up_old up_new
    after_wait_over true new up_new sends all is = ends_soundly new up_new sends.0 sends.1 (inl is)
    after_wait_over false new up_new sends all is = absurd (true≢false (sym all))

    pub after_all : (all_sent : Bool) (new : Terminal) (up_new : Output) → SendsAll all_sent now new up_now up_new → all_sent ≡ true
        → (Waiting count old new down_old down_now up_old up_new) × (new.out ≡ [])
    after_all true new up_new sends all = (after_send new up_new sends.0 sends.1, ap (λ (t : Terminal). t.out) sends.1)
    after_all false new up_new sends all = absurd (true≢false (sym all))

  -- a wait that didn't use all of its reads is over
  pub has_ended : (exchanged : WaitEnd) (old new : Terminal) (down_old down_new : D) (up_old up_new : Output) → (exchanged ≡ ReadsUsedUp → ⊥)
      → HasExchanged gave exchanged old new down_old down_new up_old up_new → HasWaited gave old new down_old down_new up_old up_new
  has_ended Over old new down_old down_new up_old up_new other has = has
  has_ended ReadsUsedUp old new down_old down_new up_old up_new other has = absurd (other refl)

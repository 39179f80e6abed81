-- After Clear in the wait the host hears of it, unless the connection is lost: how many Clears are queued that the waiting terminal doesn't
-- say, behind the answer to an erase.
use Rattle.std.proofs.Common.{◌≡◌, ◌<◌, ◌≤◌, inl, inr, suc, Bool, true, false, ℕ, List, [], ◌∷◌, ◌++◌, arith, refl, ap, sym, subst, ◌∙◌}
use Rattle.datastream.specs.InboundText.{InboundParts}
use Rattle.host_core.specs.Messages.{ToHost, Verdict}
use Rattle.host_core.specs.Session.{Pending}
use Rattle.host_core.specs.Takes.{may_be_read}
use Rattle.host_core.specs.declared.turn.Turn.{Turn}
use Rattle.world3270.specs.model.Link.{Link}
use Rattle.world3270.specs.statement.EveryTerminal.{is_clear}
use Rattle.world3270.proofs.ClearedQueue.{AddsKeys, clears_behind, erases}
use Rattle.world3270.proofs.SecondKeys.{pending_after, turn_after, unless_read}

abbrev pub one_more : Bool → ℕ → ℕ
one_more true n = suc n
one_more false n = n

abbrev pub is_clear_data : ToHost → Bool
is_clear_data (ToHost.Data parts) = is_clear parts.aid
is_clear_data (ToHost.Response number verdict) = false
is_clear_data (ToHost.TalksUp saying) = false

abbrev pub clears_in : List ToHost → ℕ
clears_in [] = 0
clears_in (message ∷ messages) = one_more (is_clear_data message) (clears_in messages)

-- behind the first answer
abbrev pub clears_after : List ToHost → ℕ
clears_after [] = 0
clears_after (ToHost.Response number verdict ∷ messages) = clears_in messages
clears_after (ToHost.Data parts ∷ messages) = clears_after messages
clears_after (ToHost.TalksUp saying ∷ messages) = clears_after messages

-- `erasing`: an erase waits for its answer
abbrev pub clears_due : (erasing : Bool) → List ToHost → ℕ
clears_due true messages = clears_after messages
clears_due false messages = clears_in messages

-- `said`: what both say
pub data Fate (told : Link) (said : List ToHost) (now : Link) : Type 0 where
  is_lost : now.lost ≡ true → Fate told said now
  is_due : clears_due (erases told.host.pending) said < clears_due (erases told.host.pending) now.up → Fate told said now
  was_heard : erases told.host.pending ≡ false → may_be_read now.host.unheard ≡ false → Fate told said now
  erases_next : erases told.host.pending ≡ true → told.up ≡ [] → Fate told said now

-- ---- a message is heard

one_less : (b : Bool) (m n : ℕ) → one_more b m < one_more b n → m < n
one_less true m n less = omega arith
one_less false m n less = less

still_erases : (pending : Pending) → erases (unless_read pending) ≡ erases pending
still_erases Pending.Nothing = refl
still_erases (Pending.Reading number) = refl
still_erases (Pending.Writing number command) = refl
still_erases (Pending.Noting number command) = refl

same_due : (erasing now : Bool) (said real : List ToHost) → now ≡ erasing → clears_due erasing said < clears_due erasing real → clears_due now said < clears_due now real
same_due erasing now said real is due = subst (λ (b : Bool). clears_due b said < clears_due b real) (sym is) due

-- of both
pub due_behind : (message : ToHost) (pending : Pending) (said real : List ToHost) → clears_due (erases pending) (message ∷ said) < clears_due (erases pending) (message ∷ real)
    → clears_due (erases (pending_after message pending)) said < clears_due (erases (pending_after message pending)) real
due_behind (ToHost.Data parts) pending said real due = same_due (erases pending) (erases (unless_read pending)) said real (still_erases pending) (by_erasing (erases pending) due)
  where
    by_erasing : (erasing : Bool) → clears_due erasing (ToHost.Data parts ∷ said) < clears_due erasing (ToHost.Data parts ∷ real) → clears_due erasing said < clears_due erasing real
    by_erasing true due = due
    by_erasing false due = one_less (is_clear parts.aid) (clears_in said) (clears_in real) due
due_behind (ToHost.Response number verdict) pending said real due = by_erasing (erases pending) due
  where
    by_erasing : (erasing : Bool) → clears_due erasing (ToHost.Response number verdict ∷ said) < clears_due erasing (ToHost.Response number verdict ∷ real) → clears_in said < clears_in real
    by_erasing true due = due
    by_erasing false due = due
due_behind (ToHost.TalksUp saying) pending said real due = by_erasing (erases pending) due
  where
    by_erasing : (erasing : Bool) → clears_due erasing (ToHost.TalksUp saying ∷ said) < clears_due erasing (ToHost.TalksUp saying ∷ real) → clears_due erasing said < clears_due erasing real
    by_erasing true due = due
    by_erasing false due = due

-- of a key, but Clear where no erase waits for its answer
pub due_dropped : (erasing : Bool) (message : ToHost) (parts : InboundParts) (said real : List ToHost) → message ≡ ToHost.Data parts → (erasing ≡ false → is_clear parts.aid ≡ false)
    → clears_due erasing said < clears_due erasing (message ∷ real) → clears_due erasing said < clears_due erasing real
due_dropped erasing message parts said real is other due = by_erasing erasing other (subst (λ (m : ToHost). clears_due erasing said < clears_due erasing (m ∷ real)) is due)
  where
    by_erasing : (erasing : Bool) → (erasing ≡ false → is_clear parts.aid ≡ false) → clears_due erasing said < clears_due erasing (ToHost.Data parts ∷ real) → clears_due erasing said < clears_due erasing real
    by_erasing true other due = due
    by_erasing false other due = subst (λ (b : Bool). clears_in said < one_more b (clears_in real)) (other refl) due

pub erases_no_more : (message : ToHost) (pending : Pending) → erases pending ≡ false → erases (pending_after message pending) ≡ false
erases_no_more (ToHost.Data parts) pending not_so = still_erases pending ∙ not_so
erases_no_more (ToHost.Response number verdict) pending not_so = refl
erases_no_more (ToHost.TalksUp saying) pending not_so = not_so

-- ---- more is said

more_in : (real more : List ToHost) → clears_in real ≤ clears_in (real ++ more)
more_in [] more = omega arith
more_in (message ∷ real) more = by_more (is_clear_data message) (clears_in real) (clears_in (real ++ more)) (more_in real more)
  where
    by_more : (b : Bool) (m n : ℕ) → m ≤ n → one_more b m ≤ one_more b n
    by_more true m n less = omega arith
    by_more false m n less = less

more_after : (real more : List ToHost) → clears_after real ≤ clears_after (real ++ more)
more_after [] more = omega arith
more_after (ToHost.Response number verdict ∷ real) more = more_in real more
more_after (ToHost.Data parts ∷ real) more = more_after real more
more_after (ToHost.TalksUp saying ∷ real) more = more_after real more

below : (l m n : ℕ) → l < m → m ≤ n → l < n
below l m n less at_most = omega arith

pub due_still : (erasing : Bool) (said real more : List ToHost) → clears_due erasing said < clears_due erasing real → clears_due erasing said < clears_due erasing (real ++ more)
due_still true said real more due = below (clears_after said) (clears_after real) (clears_after (real ++ more)) due (more_after real more)
due_still false said real more due = below (clears_in said) (clears_in real) (clears_in (real ++ more)) due (more_in real more)

-- both say an answer, while no erase waits for one
answer_in : (messages : List ToHost) (number : ℕ) (verdict : Verdict) → clears_in (messages ++ ToHost.Response number verdict ∷ []) ≡ clears_in messages
answer_in [] number verdict = refl
answer_in (message ∷ messages) number verdict = ap (one_more (is_clear_data message)) (answer_in messages number verdict)

pub due_answered : (said real : List ToHost) (number : ℕ) (verdict : Verdict) → clears_in said < clears_in real → clears_in (said ++ ToHost.Response number verdict ∷ []) < clears_in (real ++ ToHost.Response number verdict ∷ [])
due_answered said real number verdict due =
    subst (λ (n : ℕ). n < clears_in (real ++ ToHost.Response number verdict ∷ [])) (sym (answer_in said number verdict))
    (subst (λ (n : ℕ). clears_in said < n) (sym (answer_in real number verdict)) due)

-- both say an answer to a Read Buffer last
at_least : (real : List ToHost) (message : ToHost) → clears_in (message ∷ []) ≤ clears_in (real ++ message ∷ [])
at_least [] message = by_same (clears_in (message ∷ []))
  where
    by_same : (n : ℕ) → n ≤ n
    by_same n = omega arith
at_least (first ∷ real) message = by_more (is_clear_data first) (clears_in (message ∷ [])) (clears_in (real ++ message ∷ [])) (at_least real message)
  where
    by_more : (b : Bool) (m n : ℕ) → m ≤ n → m ≤ one_more b n
    by_more true m n less = omega arith
    by_more false m n less = less

read_behind : (b : Bool) (l m n : ℕ) → m ≤ n → (0 < l → m < n) → 0 < one_more b l → m < one_more b n
read_behind true l m n at_most less some = omega arith
read_behind false l m n at_most less some = less some

pub due_read : (real : List ToHost) (message : ToHost) → 0 < clears_in real → clears_in (message ∷ []) < clears_in (real ++ message ∷ [])
due_read [] message some = absurd (let wrong : ⊥ = omega arith in wrong)
due_read (first ∷ real) message some = read_behind (is_clear_data first) (clears_in real) (clears_in (message ∷ [])) (clears_in (real ++ message ∷ [])) (at_least real message) (due_read real message) some

-- ---- Clear is pressed

-- what comes up has each Clear that both say
at_most_in : (clears later : Bool) (turn : Turn) (pending : Pending) (told real : List ToHost) → AddsKeys clears later turn pending told real → clears_in told ≤ clears_in real
at_most_in clears later turn pending told [] x = subst (λ (l : List ToHost). clears_in l ≤ 0) (sym x) (omega arith)
at_most_in clears later turn pending told (message ∷ real) (inl x) = by_more (is_clear_data message) (clears_in told) (clears_in real) (at_most_in clears later turn pending told real x.2)
  where
    by_more : (b : Bool) (m n : ℕ) → m ≤ n → m ≤ one_more b n
    by_more true m n less = omega arith
    by_more false m n less = less
at_most_in clears later turn pending told (message ∷ real) (inr x) =
    subst (λ (l : List ToHost). clears_in l ≤ one_more (is_clear_data message) (clears_in real)) (sym x.1)
    (by_more (is_clear_data message) (clears_in x.0) (clears_in real) (at_most_in (clears_behind message clears later) later (turn_after message turn) (pending_after message pending) x.0 real x.2))
  where
    by_more : (b : Bool) (m n : ℕ) → m ≤ n → one_more b m ≤ one_more b n
    by_more true m n less = omega arith
    by_more false m n less = less

clear_in : (real : List ToHost) (key : ToHost) → is_clear_data key ≡ true → clears_in real < clears_in (real ++ key ∷ [])
clear_in [] key is = subst (λ (b : Bool). 0 < one_more b 0) (sym is) (omega arith)
clear_in (message ∷ real) key is = by_more (is_clear_data message) (clears_in real) (clears_in (real ++ key ∷ [])) (clear_in real key is)
  where
    by_more : (b : Bool) (m n : ℕ) → m < n → one_more b m < one_more b n
    by_more true m n less = omega arith
    by_more false m n less = less

above : (l m n : ℕ) → l ≤ m → m < n → l < n
above l m n at_most less = omega arith

pub due_in : (clears later : Bool) (turn : Turn) (pending : Pending) (told real : List ToHost) (key : ToHost) → is_clear_data key ≡ true → AddsKeys clears later turn pending told real → clears_in told < clears_in (real ++ key ∷ [])
due_in clears later turn pending told real key is x = above (clears_in told) (clears_in real) (clears_in (real ++ key ∷ [])) (at_most_in clears later turn pending told real x) (clear_in real key is)

-- behind the answer to an erase
pub due_after : (clears later : Bool) (turn : Turn) (pending : Pending) (number : ℕ) (verdict : Verdict) (told real : List ToHost) (key : ToHost) → is_clear_data key ≡ true
    → AddsKeys clears later turn pending (ToHost.Response number verdict ∷ told) real → clears_in told < clears_after (real ++ key ∷ [])
due_after clears later turn pending number verdict told [] key is x = absurd (cc)
due_after clears later turn pending number verdict told (message ∷ real) key is (inl x) =
    subst (λ (m : ToHost). clears_in told < clears_after (m ∷ real ++ key ∷ [])) (sym x.1.is) (due_after clears later turn pending number verdict told real key is x.2)
due_after clears later turn pending number verdict told (message ∷ real) key is (inr x) =
    subst (λ (m : ToHost). clears_in told < clears_after (m ∷ real ++ key ∷ [])) (first_of x.1)
    (due_in (clears_behind message clears later) later (turn_after message turn) (pending_after message pending) told real key is
    (subst (λ (l : List ToHost). AddsKeys (clears_behind message clears later) later (turn_after message turn) (pending_after message pending) l real) (sym (rest_of x.1)) x.2))
  where
    first_of : {rest : List ToHost} → ToHost.Response number verdict ∷ told ≡ message ∷ rest → ToHost.Response number verdict ≡ message
    first_of e = cc

    rest_of : {rest : List ToHost} → ToHost.Response number verdict ∷ told ≡ message ∷ rest → told ≡ rest
    rest_of e = cc

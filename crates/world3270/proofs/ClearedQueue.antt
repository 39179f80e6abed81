-- The queue of a terminal at which Clear was pressed in the wait, beside what one says that waits: second keys are between its messages,
-- Clear among them.
use Rattle.std.proofs.Common.{◌≡◌, ◌⊎◌, inl, inr, ◌||◌, ◌&&◌, not, Bool, true, false, None, ℕ, List, [], ◌∷◌, ◌++◌, refl, ap, sym, subst, ◌∙◌, if◌then◌else◌}
use Rattle.codes3270.specs.declared.attention.Aid.{Aid}
use Rattle.codes3270.specs.declared.attention.Aid.TheVariants.{NoAid, Enter, Clear, Pf, Pa}
use Rattle.datastream.specs.Grammar.{CommandParts}
use Rattle.datastream.specs.InboundText.{InboundParts}
use Rattle.datastream.specs.declared.inbound_part.Form.{Form}
use Rattle.datastream.specs.declared.inbound_part.Form.TheVariants.{Modified, All as AllModified, Buffer}
use Rattle.datastream.specs.InboundFields.{buffer_data, cells_sent}
use Rattle.datastream.specs.Screen.{Screen}
use Rattle.shadow.specs.Exactness.{is_erase}
use Rattle.shadow.specs.RuleBreaks.{rule_break}
use Rattle.shadow.specs.Settled.{is_settled}
use Rattle.host_core.specs.Messages.{ToHost}
use Rattle.host_core.specs.Session.{Session, Pending, is_agreed}
use Rattle.host_core.specs.Takes.{Answers, closed_by, data_came, dropping, is_after_pa, is_read_believed, is_unread, key_came, may_be_read, may_have_changed, once_agreed, only_read, quiet, rule_broken_by, second_key, second_key_data, took}
use Rattle.host_core.specs.declared.turn.Turn.{Turn}
use Rattle.host_core.specs.declared.turn.Turn.TheVariants as whose
use Rattle.host_core.specs.declared.unheard.Unheard.TheVariants as unheards
use Rattle.tn3270e_msg.specs.declared.cause.Cause.TheVariants.{BadInbound}
use Rattle.world3270.specs.model.Link.{sent}
use Rattle.world3270.specs.statement.EveryTerminal.{is_clear}
use Rattle.world3270.specs.statement.Shown.{is_painting}
use Rattle.world3270.proofs.SecondKeys.{AddsSecondKeys, IsSecondKey, SaysAlike, alike_silent, comes_out_of_turn, drops_behind, is_dropping, is_key, pending_after, turn_after}
use Rattle.world3270.proofs.Simulation.{HeardAlike, heads, heard_alike, tails}
use Rattle.world3270.proofs.Up.{buffer_skipped, buffer_took, unbroken_read}

-- ---- keys

-- any key that sends
abbrev pub is_any_key : Aid → Bool
is_any_key Enter = true
is_any_key (Pf key) = true
is_any_key (Pa key) = true
is_any_key Clear = true
is_any_key NoAid = false

-- whether the paint that waits for its answer erases
abbrev pub erases : Pending → Bool
erases Pending.Nothing = false
erases (Pending.Reading number) = false
erases (Pending.Writing number command) = is_erase command.code
erases (Pending.Noting number command) = false

-- Holds if Clear does no harm here: no paint waits for its answer, or that isn't said yet, or the paint erases.
abbrev pub DoesNoHarm : Pending → List ToHost → Type 0
DoesNoHarm pending told = is_painting pending ≡ true → (told ≡ []) ⊎ (erases pending ≡ true)

-- `clears`: Clear may be among the keys; `told`: what is said behind it.
pub record IsAnyKey (clears : Bool) (pending : Pending) (told : List ToHost) (message : ToHost) : Type 0 where
  pub parts : InboundParts
  pub is : message ≡ ToHost.Data parts
  pub form : parts.form ≡ Modified
  pub key : is_any_key parts.aid ≡ true
  pub fits : parts.aid ≡ Clear → (clears ≡ true) × DoesNoHarm pending told

-- whether Clear may be among the keys behind a message: behind an answer only if it was pressed in the next wait, too
abbrev pub clears_behind : ToHost → (clears later : Bool) → Bool
clears_behind (ToHost.Response number verdict) clears later = later
clears_behind (ToHost.Data parts) clears later = clears
clears_behind (ToHost.TalksUp saying) clears later = clears

-- `told`: what a terminal says that waits; `real`: what comes up
abbrev pub AddsKeys : (clears later : Bool) → Turn → Pending → (told real : List ToHost) → Type 0
AddsKeys clears later turn pending told [] = told ≡ []
AddsKeys clears later turn pending told (message ∷ real) =
    ((is_dropping turn pending ≡ true) × IsAnyKey clears pending told message × AddsKeys clears later turn pending told real)
    ⊎ ((rest : List ToHost) × (told ≡ message ∷ rest) × AddsKeys (clears_behind message clears later) later (turn_after message turn) (pending_after message pending) rest real)

-- whether Clear comes up before the answer to a Read Buffer
abbrev pub is_clear_before : Form → (clear later : Bool) → Bool
is_clear_before Modified clear later = clear || later
is_clear_before AllModified clear later = false
is_clear_before Buffer clear later = false

abbrev pub clears_first : List ToHost → Bool
clears_first [] = false
clears_first (ToHost.Data parts ∷ real) = is_clear_before parts.form (is_clear parts.aid) (clears_first real)
clears_first (ToHost.Response number verdict ∷ real) = false
clears_first (ToHost.TalksUp saying ∷ real) = false

-- whether the answer to a Read Buffer comes up before any Clear; on a lost connection it may have vanished
abbrev pub is_answer_before : Form → (clear later : Bool) → Bool
is_answer_before Modified clear later = not clear && later
is_answer_before AllModified clear later = false
is_answer_before Buffer clear later = true

abbrev pub answer_first : (lost : Bool) → List ToHost → Bool
answer_first lost [] = lost
answer_first lost (ToHost.Data parts ∷ real) = is_answer_before parts.form (is_clear parts.aid) (answer_first lost real)
answer_first lost (ToHost.Response number verdict ∷ real) = false
answer_first lost (ToHost.TalksUp saying ∷ real) = false

answer_more : (form : Form) (clear later more : Bool) → (later ≡ true → more ≡ true) → is_answer_before form clear later ≡ true → is_answer_before form clear more ≡ true
answer_more Modified true later more goes is = absurd (cc)
answer_more Modified false later more goes is = goes is
answer_more AllModified clear later more goes is = absurd (cc)
answer_more Buffer clear later more goes is = refl

pub answer_still : (real more : List ToHost) → answer_first false real ≡ true → answer_first false (real ++ more) ≡ true
answer_still [] more is = absurd (cc)
answer_still (ToHost.Data parts ∷ real) more is = answer_more parts.form (is_clear parts.aid) (answer_first false real) (answer_first false (real ++ more)) (answer_still real more) is
answer_still (ToHost.Response number verdict ∷ real) more is = absurd (cc)
answer_still (ToHost.TalksUp saying ∷ real) more is = absurd (cc)

pub answer_queued : (lost : Bool) (real more : List ToHost) → answer_first lost real ≡ true → answer_first lost (sent lost real more) ≡ true
answer_queued true real more is = is
answer_queued false real more is = answer_still real more is

pub answer_lost : (lost : Bool) (real : List ToHost) → answer_first lost real ≡ true → answer_first true real ≡ true
answer_lost lost [] is = refl
answer_lost lost (ToHost.Data parts ∷ real) is = answer_more parts.form (is_clear parts.aid) (answer_first lost real) (answer_first true real) (answer_lost lost real) is
answer_lost lost (ToHost.Response number verdict ∷ real) is = absurd (cc)
answer_lost lost (ToHost.TalksUp saying ∷ real) is = absurd (cc)

answer_first_is : (lost : Bool) (message : ToHost) (parts : InboundParts) (real : List ToHost) → message ≡ ToHost.Data parts → parts.form ≡ Modified → answer_first lost (message ∷ real) ≡ (not (is_clear parts.aid) && answer_first lost real)
answer_first_is lost message parts real is form =
    ap (λ (m : ToHost). answer_first lost (m ∷ real)) is ∙ ap (λ (f : Form). is_answer_before f (is_clear parts.aid) (answer_first lost real)) form

-- before it there may be other keys,
pub answer_next : (lost : Bool) (message : ToHost) (parts : InboundParts) (real : List ToHost) → message ≡ ToHost.Data parts → parts.form ≡ Modified → is_clear parts.aid ≡ false → answer_first lost (message ∷ real) ≡ true → answer_first lost real ≡ true
answer_next lost message parts real is form other first =
    sym (ap (λ (b : Bool). not b && answer_first lost real) other) ∙ sym (answer_first_is lost message parts real is form) ∙ first

-- but no Clear
pub no_clear_first : {Then : Type 0} (lost : Bool) (message : ToHost) (parts : InboundParts) (real : List ToHost) → message ≡ ToHost.Data parts → parts.form ≡ Modified → parts.aid ≡ Clear → answer_first lost (message ∷ real) ≡ true → Then
no_clear_first lost message parts real is form clear first =
    absurd (let wrong : false ≡ true = sym (ap (λ (a : Aid). not (is_clear a) && answer_first lost real) clear) ∙ sym (answer_first_is lost message parts real is form) ∙ first in cc)

unclear_key : (aid : Aid) → is_key aid ≡ true → is_clear aid ≡ false
unclear_key Enter key = refl
unclear_key (Pf number) key = refl
unclear_key (Pa number) key = refl
unclear_key NoAid key = refl
unclear_key Clear key = absurd (cc)

-- where it vanished
pub answer_vanished : (turn : Turn) (pending : Pending) (real : List ToHost) → AddsSecondKeys turn pending [] real → answer_first true real ≡ true
answer_vanished turn pending [] x = refl
answer_vanished turn pending (message ∷ real) (inr x) = absurd (let some = x.1 in cc)
answer_vanished turn pending (message ∷ real) (inl x) =
    let key = x.1 in
    answer_first_is true message key.parts real key.is key.form
    ∙ ap (λ (b : Bool). not b && answer_first true real) (unclear_key key.parts.aid key.key)
    ∙ answer_vanished turn pending real x.2

-- where keys but Clear alone precede it
pub answer_behind : (turn : Turn) (pending : Pending) (parts : InboundParts) (rest real : List ToHost) → parts.form ≡ Buffer → AddsSecondKeys turn pending (ToHost.Data parts ∷ rest) real → answer_first false real ≡ true
answer_behind turn pending parts rest [] form x = absurd (cc)
answer_behind turn pending parts rest (message ∷ real) form (inl x) =
    let key = x.1 in
    answer_first_is false message key.parts real key.is key.form
    ∙ ap (λ (b : Bool). not b && answer_first false real) (unclear_key key.parts.aid key.key)
    ∙ answer_behind turn pending parts rest real form x.2
answer_behind turn pending parts rest (message ∷ real) form (inr x) =
    ap (λ (m : ToHost). answer_first false (m ∷ real)) (sym (first_of x.1)) ∙ ap (λ (f : Form). is_answer_before f (is_clear parts.aid) (answer_first false real)) form
  where
    first_of : {more : List ToHost} → ToHost.Data parts ∷ rest ≡ message ∷ more → ToHost.Data parts ≡ message
    first_of e = cc

-- What the waiting terminal says, and what this one says but for second keys: a host that has heard of Clear makes the same of both answers
-- to a Read Buffer, whatever this one displays.
pub data AnswersAlike (conn : Session) (told said real : List ToHost) : Type 0 where
  by_saying : SaysAlike conn told said → AnswersAlike conn told said real
  behind_clear : (number : ℕ) (one other : Screen) (rest : List ToHost) → conn.pending ≡ Pending.Reading number → is_read_believed conn ≡ false → rule_break conn.shadow one.cells ≡ None
      → told ≡ ToHost.Data (buffer_data conn.size one) ∷ rest → said ≡ ToHost.Data (buffer_data conn.size other) ∷ rest → (not (may_be_read conn.unheard) || clears_first real) ≡ true → AnswersAlike conn told said real

pub record SaysToo (clears later : Bool) (conn : Session) (told real : List ToHost) : Type 0 where
  pub said : List ToHost
  pub alike : AnswersAlike conn told said real
  pub up : AddsKeys clears later conn.turn conn.pending said real

-- ---- with Clear or without

key_is : (aid : Aid) → is_key aid ≡ true → is_any_key aid ≡ true
key_is Enter key = refl
key_is (Pf number) key = refl
key_is (Pa number) key = refl
key_is NoAid key = absurd (cc)
key_is Clear key = refl

no_clear : (aid : Aid) → is_key aid ≡ true → aid ≡ Clear → ⊥
no_clear aid key clear = absurd (let wrong : false ≡ true = sym (ap is_key clear) ∙ key in cc)

pub any_keys : (clears later : Bool) (turn : Turn) (pending : Pending) (told real : List ToHost) → AddsSecondKeys turn pending told real → AddsKeys clears later turn pending told real
any_keys clears later turn pending told [] x = x
any_keys clears later turn pending told (message ∷ real) (inl x) =
    let second = x.1 in
    inl (x.0, record { parts = second.parts; is = second.is; form = second.form; key = key_is second.parts.aid second.key; fits = λ clear. absurd (no_clear second.parts.aid second.key clear) }, any_keys clears later turn pending told real x.2)
any_keys clears later turn pending told (message ∷ real) (inr x) =
    inr (x.0, x.1, any_keys (clears_behind message clears later) later (turn_after message turn) (pending_after message pending) x.0 real x.2)

both_true : (message : ToHost) → clears_behind message true true ≡ true
both_true (ToHost.Response number verdict) = refl
both_true (ToHost.Data parts) = refl
both_true (ToHost.TalksUp saying) = refl

-- where Clear may be, too
pub with_clears : (clears later : Bool) (turn : Turn) (pending : Pending) (told real : List ToHost) → AddsKeys clears later turn pending told real → AddsKeys true true turn pending told real
with_clears clears later turn pending told [] x = x
with_clears clears later turn pending told (message ∷ real) (inl x) =
    let key = x.1 in
    inl (x.0, record { parts = key.parts; is = key.is; form = key.form; key = key.key; fits = λ clear. (refl, (key.fits clear).1) }, with_clears clears later turn pending told real x.2)
with_clears clears later turn pending told (message ∷ real) (inr x) =
    inr (
      x.0,
      x.1,
      subst (λ (b : Bool). AddsKeys b true (turn_after message turn) (pending_after message pending) x.0 real) (sym (both_true message))
          (with_clears (clears_behind message clears later) later (turn_after message turn) (pending_after message pending) x.0 real x.2),
    )

pub other_key : (aid : Aid) → is_any_key aid ≡ true → (aid ≡ Clear → ⊥) → is_key aid ≡ true
other_key Enter key unclear = refl
other_key (Pf number) key unclear = refl
other_key (Pa number) key unclear = refl
other_key NoAid key unclear = absurd (cc)
other_key Clear key unclear = absurd (unclear refl)

pub second_of : {clears : Bool} {pending : Pending} {told : List ToHost} {message : ToHost} (any : IsAnyKey clears pending told message) → (any.parts.aid ≡ Clear → ⊥) → IsSecondKey message
second_of any unclear = record { parts = any.parts; is = any.is; form = any.form; key = other_key any.parts.aid any.key unclear }

none_behind : (message : ToHost) → clears_behind message false false ≡ false
none_behind (ToHost.Response number verdict) = refl
none_behind (ToHost.Data parts) = refl
none_behind (ToHost.TalksUp saying) = refl

-- where Clear may not be, there are second keys alone
pub second_keys : (turn : Turn) (pending : Pending) (told real : List ToHost) → AddsKeys false false turn pending told real → AddsSecondKeys turn pending told real
second_keys turn pending told [] x = x
second_keys turn pending told (message ∷ real) (inl x) =
    inl (x.0, second_of x.1 (λ clear. absurd (let wrong : false ≡ true = (x.1.fits clear).0 in cc)), second_keys turn pending told real x.2)
second_keys turn pending told (message ∷ real) (inr x) =
    inr (
      x.0,
      x.1,
      second_keys (turn_after message turn) (pending_after message pending) x.0 real
          (subst (λ (b : Bool). AddsKeys b false (turn_after message turn) (pending_after message pending) x.0 real) (none_behind message) x.2),
    )

-- ---- more is said

-- Clear may come last only where it may be among all keys
abbrev pub MayBeLast : (clears later : Bool) → InboundParts → Type 0
MayBeLast clears later parts = parts.aid ≡ Clear → (clears ≡ true) × (later ≡ true)

last_behind : (message : ToHost) (clears later : Bool) (parts : InboundParts) → MayBeLast clears later parts → MayBeLast (clears_behind message clears later) later parts
last_behind (ToHost.Response number verdict) clears later parts may = λ clear. ((may clear).1, (may clear).1)
last_behind (ToHost.Data said) clears later parts may = may
last_behind (ToHost.TalksUp saying) clears later parts may = may

pub any_last : (clears later : Bool) (turn : Turn) (pending : Pending) (told real : List ToHost) (key : ToHost) (parts : InboundParts) → key ≡ ToHost.Data parts → parts.form ≡ Modified → is_any_key parts.aid ≡ true → MayBeLast clears later parts
    → drops_behind told turn pending ≡ true → AddsKeys clears later turn pending told real → AddsKeys clears later turn pending told (real ++ key ∷ [])
any_last clears later turn pending told [] key parts is form pressed may drops x =
    inl (subst (λ (l : List ToHost). drops_behind l turn pending ≡ true) x drops, record { parts = parts; is = is; form = form; key = pressed; fits = λ clear. ((may clear).0, λ paints. inl x) }, x)
any_last clears later turn pending told (message ∷ real) key parts is form pressed may drops (inl x) = inl (x.0, x.1, any_last clears later turn pending told real key parts is form pressed may drops x.2)
any_last clears later turn pending told (message ∷ real) key parts is form pressed may drops (inr x) =
    inr (x.0, x.1, any_last (clears_behind message clears later) later (turn_after message turn) (pending_after message pending) x.0 real key parts is form pressed (last_behind message clears later parts may) (subst (λ (l : List ToHost). drops_behind l turn pending ≡ true) x.1 drops) x.2)

-- if a paint waits for its answer, it erases
abbrev pub ErasesIfAny : Pending → Type 0
ErasesIfAny pending = is_painting pending ≡ true → erases pending ≡ true

erases_behind : (message : ToHost) (pending : Pending) → ErasesIfAny pending → ErasesIfAny (pending_after message pending)
erases_behind (ToHost.Data parts) Pending.Nothing only = λ paints. absurd (cc)
erases_behind (ToHost.Data parts) (Pending.Reading number) only = λ paints. absurd (cc)
erases_behind (ToHost.Data parts) (Pending.Noting number command) only = λ paints. absurd (cc)
erases_behind (ToHost.Data parts) (Pending.Writing number command) only = only
erases_behind (ToHost.Response number verdict) pending only = λ paints. absurd (cc)
erases_behind (ToHost.TalksUp saying) pending only = only

-- both say the same last
pub same_last_too : (clears later : Bool) (turn : Turn) (pending : Pending) (told real : List ToHost) (message : ToHost) → ErasesIfAny pending → AddsKeys clears later turn pending told real
    → AddsKeys clears later turn pending (told ++ message ∷ []) (real ++ message ∷ [])
same_last_too clears later turn pending told [] message only x = inr ([], ap (λ (l : List ToHost). l ++ message ∷ []) x, refl)
same_last_too clears later turn pending told (first ∷ real) message only (inl x) =
    let key = x.1 in
    inl (x.0, record { parts = key.parts; is = key.is; form = key.form; key = key.key; fits = λ clear. ((key.fits clear).0, λ paints. inr (only paints)) }, same_last_too clears later turn pending told real message only x.2)
same_last_too clears later turn pending told (first ∷ real) message only (inr x) =
    inr (
      x.0 ++ message ∷ [],
      ap (λ (l : List ToHost). l ++ message ∷ []) x.1,
      same_last_too (clears_behind first clears later) later (turn_after first turn) (pending_after first pending) x.0 real message (erases_behind first pending only) x.2,
    )

alike_last : (conn : Session) (told said : List ToHost) (message : ToHost) → SaysAlike conn told said → SaysAlike conn (told ++ message ∷ []) (said ++ message ∷ [])
alike_last conn told said message (SaysAlike.same is) = SaysAlike.same (ap (λ (l : List ToHost). l ++ message ∷ []) is)
alike_last conn told said message (SaysAlike.checked number one other rest pends skips one_kept other_kept is_told is_said) =
    SaysAlike.checked number one other (rest ++ message ∷ []) pends skips one_kept other_kept (ap (λ (l : List ToHost). l ++ message ∷ []) is_told) (ap (λ (l : List ToHost). l ++ message ∷ []) is_said)

-- more comes up
before_more : (form : Form) (clear later more : Bool) → (later ≡ true → more ≡ true) → is_clear_before form clear later ≡ true → is_clear_before form clear more ≡ true
before_more Modified true later more goes is = refl
before_more Modified false later more goes is = goes is
before_more AllModified clear later more goes is = absurd (cc)
before_more Buffer clear later more goes is = absurd (cc)

clears_first_more : (real more : List ToHost) → clears_first real ≡ true → clears_first (real ++ more) ≡ true
clears_first_more [] more is = absurd (cc)
clears_first_more (ToHost.Data parts ∷ real) more is = before_more parts.form (is_clear parts.aid) (clears_first real) (clears_first (real ++ more)) (clears_first_more real more) is
clears_first_more (ToHost.Response number verdict ∷ real) more is = absurd (cc)
clears_first_more (ToHost.TalksUp saying ∷ real) more is = absurd (cc)

or_more : (b c d : Bool) → (c ≡ true → d ≡ true) → (b || c) ≡ true → (b || d) ≡ true
or_more true c d goes is = refl
or_more false c d goes is = goes is

heard_more : (conn : Session) (real more : List ToHost) → (not (may_be_read conn.unheard) || clears_first real) ≡ true → (not (may_be_read conn.unheard) || clears_first (real ++ more)) ≡ true
heard_more conn real more is = or_more (not (may_be_read conn.unheard)) (clears_first real) (clears_first (real ++ more)) (clears_first_more real more) is

pub answers_more : (conn : Session) (told said real more : List ToHost) → AnswersAlike conn told said real → AnswersAlike conn told said (real ++ more)
answers_more conn told said real more (AnswersAlike.by_saying says) = AnswersAlike.by_saying says
answers_more conn told said real more (AnswersAlike.behind_clear number one other rest pends skips one_kept is_told is_said heard) =
    AnswersAlike.behind_clear number one other rest pends skips one_kept is_told is_said (heard_more conn real more heard)

pub answers_last : (conn : Session) (told said real : List ToHost) (message : ToHost) → AnswersAlike conn told said real → AnswersAlike conn (told ++ message ∷ []) (said ++ message ∷ []) (real ++ message ∷ [])
answers_last conn told said real message (AnswersAlike.by_saying says) = AnswersAlike.by_saying (alike_last conn told said message says)
answers_last conn told said real message (AnswersAlike.behind_clear number one other rest pends skips one_kept is_told is_said heard) =
    AnswersAlike.behind_clear number one other (rest ++ message ∷ []) pends skips one_kept (ap (λ (l : List ToHost). l ++ message ∷ []) is_told) (ap (λ (l : List ToHost). l ++ message ∷ []) is_said)
    (heard_more conn real (message ∷ []) heard)

-- nothing is said, or no read waits for its answer
pub answers_silent : (conn : Session) (told said real : List ToHost) → told ≡ [] → AnswersAlike conn told said real → said ≡ []
answers_silent conn told said real none (AnswersAlike.by_saying says) = alike_silent conn told said none says
answers_silent conn told said real none (AnswersAlike.behind_clear number one other rest pends skips one_kept is_told is_said heard) =
    absurd (let wrong : ToHost.Data (buffer_data conn.size one) ∷ rest ≡ [] = sym is_told ∙ none in cc)

pub answers_unread : (conn : Session) (told said real : List ToHost) → ((number : ℕ) → conn.pending ≡ Pending.Reading number → ⊥) → AnswersAlike conn told said real → said ≡ told
answers_unread conn told said real unread (AnswersAlike.by_saying (SaysAlike.same is)) = is
answers_unread conn told said real unread (AnswersAlike.by_saying (SaysAlike.checked number one other rest pends skips one_kept other_kept is_told is_said)) = absurd (unread number pends)
answers_unread conn told said real unread (AnswersAlike.behind_clear number one other rest pends skips one_kept is_told is_said heard) = absurd (unread number pends)

abbrev pub says_last : (clears later : Bool) (conn : Session) (told real : List ToHost) (message : ToHost) → ErasesIfAny conn.pending → SaysToo clears later conn told real → SaysToo clears later conn (told ++ message ∷ []) (real ++ message ∷ [])
says_last clears later conn told real message only s = record {
  said = s.said ++ message ∷ [];
  alike = answers_last conn told s.said real message s.alike;
  up = same_last_too clears later conn.turn conn.pending s.said real message only s.up;
}

-- on a lost connection neither says anything
pub both_say_too : (clears later : Bool) (conn : Session) (lost now_lost : Bool) (told real : List ToHost) (message : ToHost) → now_lost ≡ lost → ErasesIfAny conn.pending → SaysToo clears later conn told real
    → SaysToo clears later conn (sent lost told (message ∷ [])) (sent now_lost real (message ∷ []))
both_say_too clears later conn lost now_lost told real message same only s =
    subst (λ (l : Bool). SaysToo clears later conn (sent lost told (message ∷ [])) (sent l real (message ∷ []))) (sym same) (by_lost lost)
  where
    by_lost : (lost : Bool) → SaysToo clears later conn (sent lost told (message ∷ [])) (sent lost real (message ∷ []))
    by_lost true = s
    by_lost false = says_last clears later conn told real message only s

-- where keys alone are queued, what comes behind an answer is another matter
pub any_later : (clears later other : Bool) (turn : Turn) (pending : Pending) (real : List ToHost) → AddsKeys clears later turn pending [] real → AddsKeys clears other turn pending [] real
any_later clears later other turn pending [] x = x
any_later clears later other turn pending (message ∷ real) (inl x) = inl (x.0, x.1, any_later clears later other turn pending real x.2)
any_later clears later other turn pending (message ∷ real) (inr x) = absurd (let some = x.1 in cc)

-- ---- the host acts, or sends a note

-- where keys alone are queued, they are dropped at any moment at which the host drops keys
pub only_keys : (clears later : Bool) (turn turn_now : Turn) (pending pending_now : Pending) (real : List ToHost) → is_dropping turn_now pending_now ≡ true → AddsKeys clears later turn pending [] real → AddsKeys clears later turn_now pending_now [] real
only_keys clears later turn turn_now pending pending_now [] drops x = refl
only_keys clears later turn turn_now pending pending_now (message ∷ real) drops (inl x) =
    let key = x.1 in
    inl (drops, record { parts = key.parts; is = key.is; form = key.form; key = key.key; fits = λ clear. ((key.fits clear).0, λ paints. inl refl) }, only_keys clears later turn turn_now pending pending_now real drops x.2)
only_keys clears later turn turn_now pending pending_now (message ∷ real) drops (inr x) = absurd (let some = x.1 in cc)

noted_key : {clears : Bool} {pending : Pending} {told : List ToHost} {message : ToHost} (number : ℕ) (command : CommandParts) → IsAnyKey clears pending told message → IsAnyKey clears (Pending.Noting number command) told message
noted_key number command key = record { parts = key.parts; is = key.is; form = key.form; key = key.key; fits = λ clear. ((key.fits clear).0, λ paints. absurd (cc)) }

noted_too : (clears later : Bool) (number : ℕ) (command : CommandParts) (told real : List ToHost) → AddsKeys clears later whose.Host Pending.Nothing told real → AddsKeys clears later whose.Host (Pending.Noting number command) told real
noted_too clears later number command told [] x = x
noted_too clears later number command told (message ∷ real) (inl x) = inl (refl, noted_key number command x.1, noted_too clears later number command told real x.2)
noted_too clears later number command told (ToHost.Data parts ∷ real) (inr x) = inr (x.0, x.1, noted_too clears later number command x.0 real x.2)
noted_too clears later number command told (ToHost.Response given verdict ∷ real) (inr x) = inr x
noted_too clears later number command told (ToHost.TalksUp saying ∷ real) (inr x) = inr (x.0, x.1, noted_too clears later number command x.0 real x.2)

pub noted_keys : (clears later : Bool) (number : ℕ) (command : CommandParts) (told real : List ToHost) → AddsKeys clears later whose.Terminal Pending.Nothing told real → AddsKeys clears later whose.Terminal (Pending.Noting number command) told real
noted_keys clears later number command told [] x = x
noted_keys clears later number command told (message ∷ real) (inl x) = absurd (let clash = x.0 in cc)
noted_keys clears later number command told (ToHost.Data parts ∷ real) (inr x) = inr (x.0, x.1, noted_too clears later number command x.0 real x.2)
noted_keys clears later number command told (ToHost.Response given verdict ∷ real) (inr x) = inr x
noted_keys clears later number command told (ToHost.TalksUp saying ∷ real) (inr x) = inr (x.0, x.1, noted_keys clears later number command x.0 real x.2)

-- ---- the host drops Clear

skips_still : (conn : Session) → may_have_changed conn.unheard ≡ true → is_read_believed conn ≡ false → is_read_believed (record conn { unheard = unheards.Clear }) ≡ false
skips_still conn any skips = sym (ap (λ (b : Bool). not b || (is_after_pa conn.turn_reason || not (is_settled conn.shadow))) any) ∙ skips

second_clear : (parts : InboundParts) (conn : Session) (pending : Pending) → (is_painting pending ≡ false → is_unread conn.turn_reason ≡ false) → second_key parts Clear pending conn ≡ dropping Clear (record conn { unheard = unheards.Clear })
second_clear parts conn Pending.Nothing read = ap (λ (b : Bool). if b then key_came parts Clear conn else dropping Clear (record conn { unheard = unheards.Clear })) (read refl)
second_clear parts conn (Pending.Writing number command) read = refl
second_clear parts conn (Pending.Reading number) read = ap (λ (b : Bool). if b then key_came parts Clear conn else dropping Clear (record conn { unheard = unheards.Clear })) (read refl)
second_clear parts conn (Pending.Noting number command) read = ap (λ (b : Bool). if b then key_came parts Clear conn else dropping Clear (record conn { unheard = unheards.Clear })) (read refl)

pub clear_dropped : (pool : Answers) (conn : Session) (message : ToHost) (parts : InboundParts) → message ≡ ToHost.Data parts → parts.form ≡ Modified → parts.aid ≡ Clear → is_agreed conn.talk.state ≡ true → may_have_changed conn.unheard ≡ true
    → is_dropping conn.turn conn.pending ≡ true → (is_painting conn.pending ≡ false → is_unread conn.turn_reason ≡ false) → took pool conn message ≡ dropping Clear (record conn { unheard = unheards.Clear })
clear_dropped pool conn message parts is form aid agrees changed drops read =
    ap (took pool conn) is
    ∙ ap (λ (b : Bool). once_agreed b (data_came parts conn.turn conn.pending conn) conn) agrees
    ∙ comes_out_of_turn parts conn conn.turn conn.pending drops form
    ∙ ap (λ (b : Bool). if b then second_key_data parts parts.form conn else closed_by BadInbound conn) changed
    ∙ ap (λ (f : Form). second_key_data parts f conn) form
    ∙ ap (λ (a : Aid). second_key parts a conn.pending conn) aid
    ∙ second_clear parts conn conn.pending read

-- what both say is heard alike then, too
pub answers_hearing : (conn : Session) (told said real rest : List ToHost) → may_have_changed conn.unheard ≡ true → AnswersAlike conn told said real → AnswersAlike (record conn { unheard = unheards.Clear }) told said rest
answers_hearing conn told said real rest any (AnswersAlike.by_saying (SaysAlike.same is)) = AnswersAlike.by_saying (SaysAlike.same is)
answers_hearing conn told said real rest any (AnswersAlike.by_saying (SaysAlike.checked number one other behind pends skips one_kept other_kept is_told is_said)) =
    AnswersAlike.by_saying (SaysAlike.checked number one other behind pends (skips_still conn any skips) one_kept other_kept is_told is_said)
answers_hearing conn told said real rest any (AnswersAlike.behind_clear number one other behind pends skips one_kept is_told is_said heard) =
    AnswersAlike.behind_clear number one other behind pends (skips_still conn any skips) one_kept is_told is_said refl

-- another key is dropped
pub answers_dropped : (conn : Session) (told said : List ToHost) (message : ToHost) (parts : InboundParts) (rest : List ToHost) → message ≡ ToHost.Data parts → parts.form ≡ Modified → is_clear parts.aid ≡ false → AnswersAlike conn told said (message ∷ rest)
    → AnswersAlike conn told said rest
answers_dropped conn told said message parts rest is form other (AnswersAlike.by_saying says) = AnswersAlike.by_saying says
answers_dropped conn told said message parts rest is form other (AnswersAlike.behind_clear number one read behind pends skips one_kept is_told is_said heard) =
    AnswersAlike.behind_clear number one read behind pends skips one_kept is_told is_said
    (or_more (not (may_be_read conn.unheard)) (clears_first (message ∷ rest)) (clears_first rest) (λ first. sym later ∙ first) heard)
  where
    later : clears_first (message ∷ rest) ≡ clears_first rest
    later =
        ap (λ (m : ToHost). clears_first (m ∷ rest)) is
        ∙ ap (λ (f : Form). is_clear_before f (is_clear parts.aid) (clears_first rest)) form
        ∙ ap (λ (b : Bool). b || clears_first rest) other

-- ---- the host makes the same of both answers

pub answers_heard : (pool : Answers) (conn : Session) (told said : List ToHost) (message : ToHost) (rest others : List ToHost) → is_agreed conn.talk.state ≡ true → said ≡ message ∷ others → AnswersAlike conn told said (message ∷ rest)
    → HeardAlike pool conn told message others
answers_heard pool conn told said message rest others agrees is (AnswersAlike.by_saying says) = heard_alike pool conn told said message others agrees is says
answers_heard pool conn told said message rest others agrees is (AnswersAlike.behind_clear number one other behind pends skips one_kept is_told is_said heard) =
    subst (λ (m : ToHost). HeardAlike pool conn told m others) is_data (record {
      first = ToHost.Data (buffer_data conn.size one);
      is = is_told ∙ ap (λ (l : List ToHost). ToHost.Data (buffer_data conn.size one) ∷ l) is_more;
      same = skipped one (unbroken_read conn conn.size one one_kept) ∙ sym (skipped other unverified);
      turn = refl;
      pending = refl;
    })
  where
    both : ToHost.Data (buffer_data conn.size other) ∷ behind ≡ message ∷ others
    both = sym is_said ∙ is

    is_data : ToHost.Data (buffer_data conn.size other) ≡ message
    is_data = heads _ _ _ _ both

    is_more : behind ≡ others
    is_more = tails _ _ _ _ both

    no_more : (b : Bool) → (not b || clears_first (message ∷ rest)) ≡ true → b ≡ false
    no_more false is = refl
    no_more true is = absurd (let wrong : clears_first (ToHost.Data (buffer_data conn.size other) ∷ rest) ≡ true = subst (λ (m : ToHost). clears_first (m ∷ rest) ≡ true) (sym is_data) is in cc)

    -- it verifies nothing
    unverified : rule_broken_by (buffer_data conn.size other) conn ≡ None
    unverified =
        ap (λ (b : Bool). if conn.verifies && b then rule_break conn.shadow (cells_sent (buffer_data conn.size other).parts) else None) (no_more (may_be_read conn.unheard) heard)
        ∙ none_by conn.verifies
      where
        none_by : (b : Bool) → (if b && false then rule_break conn.shadow (cells_sent (buffer_data conn.size other).parts) else None) ≡ None
        none_by true = refl
        none_by false = refl

    skipped : (screen : Screen) → rule_broken_by (buffer_data conn.size screen) conn ≡ None → took pool conn (ToHost.Data (buffer_data conn.size screen)) ≡ quiet (only_read conn)
    skipped screen unbroken = buffer_took pool conn conn.size screen number agrees pends unbroken ∙ buffer_skipped (buffer_data conn.size screen) conn skips

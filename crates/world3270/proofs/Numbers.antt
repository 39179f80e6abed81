-- Numbers of commands and responses have 15 bits, after every event.
use Rattle.std.proofs.Common.{◌≡◌, ◌⊎◌, inl, inr, nat_lt, ◌+◌, ℕ, Bool, true, false, Option, None, Some, List, [], ◌∷◌, arith, refl, sym, subst, IfSome, if◌then◌else◌}
use Rattle.std.specs.Prelude.{⊤, ◌&&◌}
use Rattle.std.specs.Option.{option_and_then}
use Rattle.std.specs.List.{All}
use Rattle.std.proofs.lemmas.Bool.{ltb-true}
use Rattle.std.proofs.lemmas.List.Elements.{All-nil, All-cons, All-head, All-tail, All-append, All-map}
use Rattle.codes3270.specs.Size.{ScreenSize}
use Rattle.datastream.specs.Screen.{Screen}
use Rattle.keyboard.specs.declared.key.Pressed.{Pressed}
use Rattle.keyboard.specs.declared.key.Pressed.TheVariants.{Done, Refused, Send}
use Rattle.tn3270e_msg.specs.Header.{next_number}
use Rattle.tn3270e_msg.specs.declared.cause.Cause.{Cause}
use Rattle.host_core.specs.Acts.{Act, Decision, Sent, decided, decision_on, done, may_act, acted}
use Rattle.host_core.specs.Answering.{number_of, number_in}
use Rattle.host_core.specs.Application.{Application}
use Rattle.host_core.specs.Messages.{ToTerminal, ToHost, Verdict}
use Rattle.host_core.specs.Notes.{noted_as, may_note, noted}
use Rattle.host_core.specs.Session.{Session, Pending, is_agreed}
use Rattle.host_core.specs.Takes.{Answers, HostStep, took as host_took}
use Rattle.host_core.specs.Questions.{act_by, answered_on, has_its_panel, is_asking, panel_for}
use Rattle.world3270.specs.statement.Always.{Always}
use Rattle.world3270.specs.refinement.LowerLaws.{LowerLaws}
use Rattle.world3270.specs.model.Link.{Link, sent, host_left_if, host_sent}
use Rattle.world3270.specs.statement.Numbers.{IsNumber, number_answered, AreNumbered, NumbersFit}
use Rattle.world3270.specs.model.Terminal.{TermEnd, is_bound, data_of, once_bound, outcome_of, took as term_took}
use Rattle.world3270.proofs.HostSteps.{just_talks}
use Rattle.world3270.proofs.Everywhere.{Steps, everywhere}

abbrev pub FitsDown : ToTerminal → Type 0
FitsDown message = IfSome (number_in message) IsNumber

abbrev FitsUp : ToHost → Type 0
FitsUp message = IfSome (number_answered message) IsNumber

pub sent_all : {X : Type 0} (P : X → Type 0) (lost : Bool) (queue messages : List X) → All P queue → All P messages → All P (sent lost queue messages)
sent_all P true queue messages here new = here
sent_all P false queue messages here new = All-append P queue messages here new

next_fits : (number : ℕ) → IsNumber (next_number number)
next_fits number = by_test (nat_lt number 32767) refl
  where
    by_test : (b : Bool) → nat_lt number 32767 ≡ b → IsNumber (if b then number + 1 else 0)
    by_test true e = let below = ltb-true number 32767 e in omega arith
    by_test false e = omega arith

-- ---- what a host makes of a message

-- the sequence numbers, the next one and the one that is awaited, have 15 bits
pub record Numbered (conn : Session) : Type 0 where
  pub next : IsNumber conn.next_seq
  pub pending : IfSome (number_of conn.pending) IsNumber

pub record StepFits (step : HostStep) : Type 0 where
  pub conn : Numbered step.conn
  pub sends : All FitsDown step.sends

still_pending : (old new : Pending) → (new ≡ old) ⊎ (new ≡ Pending.Nothing) → IfSome (number_of old) IsNumber → IfSome (number_of new) IsNumber
still_pending old new (inl same) fits = subst (λ p. IfSome (number_of p) IsNumber) (sym same) fits
still_pending old new (inr none) fits = subst (λ p. IfSome (number_of p) IsNumber) (sym none) tt

pub host_fits : (pool : Answers) (conn : Session) (message : ToHost) → Numbered conn → StepFits (host_took pool conn message)
host_fits pool conn message n =
    let step : HostStep = host_took pool conn message in
    let just = just_talks pool conn message in
    record {
      conn = record { next = subst IsNumber (sym just.number) n.next; pending = still_pending conn.pending step.conn.pending just.pending n.pending };
      sends = subst (All FitsDown) (sym just.says) (All-map FitsDown ToTerminal.TalksDown just.talk (λ k d below. tt));
    }

-- ---- what a host does

pub record SendingFits (sending : Sent) : Type 0 where
  pub conn : Numbered sending.conn
  pub message : FitsDown sending.message

pub done_fits : (app : Application) (conn : Session) (act : Act) → Numbered conn → SendingFits (done app conn act)
done_fits app conn Act.Read n = record { conn = record { next = next_fits conn.next_seq; pending = n.next }; message = n.next }
done_fits app conn (Act.Show panel message keep values) n = record { conn = record { next = next_fits conn.next_seq; pending = n.next }; message = n.next }

pub note_fits : (text : List ℕ) (conn : Session) → Numbered conn → SendingFits (noted_as text conn)
note_fits text conn n = record { conn = record { next = next_fits conn.next_seq; pending = n.next }; message = n.next }

-- ---- what a terminal makes of a message, and of a key

once_bound_fits : (bound : Bool) (end new : TermEnd) (message : ToHost) → FitsUp message
    → All FitsUp (once_bound bound (record { end = new; sends = message ∷ []; closes = None }) end).sends
once_bound_fits true end new message fits = All-cons FitsUp message [] fits (All-nil FitsUp)
once_bound_fits false end new message fits = All-nil FitsUp

term_fits : (end : TermEnd) (message : ToTerminal) → FitsDown message → All FitsUp (term_took end message).sends
term_fits end (ToTerminal.TalksDown saying) fits = All-map FitsUp ToHost.TalksUp _ (λ k d below. tt)
term_fits end (ToTerminal.Paint number wanted over) fits = once_bound_fits (is_bound end) end _ (ToHost.Response number Verdict.Positive) fits
term_fits end (ToTerminal.ReadBuffer number) fits = once_bound_fits (is_bound end) end _ _ tt
term_fits end (ToTerminal.Note number command) fits = once_bound_fits (is_bound end) end _ (ToHost.Response number Verdict.Positive) fits

data_fits_up : (bound : Bool) (answer : Pressed) (shape : ScreenSize) (screen : Screen) → All FitsUp (data_of bound answer shape screen)
data_fits_up true (Send aid) shape screen = All-cons FitsUp _ [] tt (All-nil FitsUp)
data_fits_up false (Send aid) shape screen = All-nil FitsUp
data_fits_up true Done shape screen = All-nil FitsUp
data_fits_up false Done shape screen = All-nil FitsUp
data_fits_up true (Refused why) shape screen = All-nil FitsUp
data_fits_up false (Refused why) shape screen = All-nil FitsUp

-- ---- connections

left_if : (cause : Option Cause) (link : Link) → AreNumbered link → AreNumbered (host_left_if cause link)
left_if None link n = n
left_if (Some cause) link n = record { next = n.next; pending = n.pending; down = n.down; up = n.up }

sends : (link : Link) (sending : Option Sent) → AreNumbered link → IfSome sending SendingFits → AreNumbered (host_sent sending link)
sends link None n fits = n
sends link (Some sending) n fits = record {
  next = fits.conn.next;
  pending = fits.conn.pending;
  down = sent_all FitsDown link.lost link.down (sending.message ∷ []) n.down (All-cons FitsDown sending.message [] fits.message (All-nil FitsDown));
  up = n.up;
}

acts_if : (app : Application) (link : Link) (decision : Decision) (b : Bool) → AreNumbered link → IfSome (option_and_then (decided app link.host) (if b then Some decision else None)) SendingFits
acts_if app link (Decision.Do act) true n = done_fits app link.host act (record { next = n.next; pending = n.pending })
acts_if app link Decision.Asks true n = tt
acts_if app link decision false n = tt

answers_if : (app : Application) (link : Link) (act : Act) (b : Bool) → AreNumbered link → IfSome (if b then Some (done app link.host act) else None) SendingFits
answers_if app link act true n = done_fits app link.host act (record { next = n.next; pending = n.pending })
answers_if app link act false n = tt

notes_if : (text : List ℕ) (link : Link) (b : Bool) → AreNumbered link → IfSome (if b then Some (noted_as text link.host) else None) SendingFits
notes_if text link true n = note_fits text link.host (record { next = n.next; pending = n.pending })
notes_if text link false n = tt

steps : (app : Application) → Steps app (λ event. ⊤) AreNumbered (λ display. ⊤)
steps app = record {
  never = λ serves. record { next = omega arith; pending = tt; down = All-nil FitsDown; up = All-nil FitsUp };
  begins = λ serves model terminal wanted. record { next = omega arith; pending = tt; down = All-cons FitsDown _ [] tt (All-nil FitsDown); up = All-nil FitsUp };
  up = λ pool link message rest e k n.
      let step : HostStep = host_took pool link.host message in
      let fits = host_fits pool link.host message (record { next = n.next; pending = n.pending }) in
      left_if step.closes _ (record {
        next = fits.conn.next;
        pending = fits.conn.pending;
        down = sent_all FitsDown link.lost link.down step.sends n.down fits.sends;
        up = All-tail FitsUp message rest (subst (All FitsUp) e n.up);
      });
  acts = λ link k n. sends link (acted app link.host) n (acts_if app link (decision_on app link.host link.host.turn_reason) (may_act link.host.turn link.host.pending (is_agreed link.host.talk.state)) n);
  answers = λ number said link such k n. sends link (answered_on app link.host said) n (answers_if app link (act_by app link.host said (panel_for app link.host said)) (is_asking app link.host && has_its_panel app said) n);
  notes = λ number text link such k n. sends link (noted text link.host) n (notes_if text link (may_note link.host.turn link.host.pending (is_agreed link.host.talk.state)) n);
  down = λ link message rest e k n.
      let down : All FitsDown (message ∷ rest) = subst (All FitsDown) e n.down in
      record {
        next = n.next;
        pending = n.pending;
        down = All-tail FitsDown message rest down;
        up = sent_all FitsUp link.lost link.up (term_took link.term message).sends n.up (term_fits link.term message (All-head FitsDown message rest down));
      };
  key = λ terminal key link such k n.
      let outcome = outcome_of key link.term.display in
      record {
        next = n.next;
        pending = n.pending;
        down = n.down;
        up = sent_all FitsUp link.lost link.up (data_of (is_bound link.term) outcome.answer link.term.display.size outcome.screen) n.up
            (data_fits_up (is_bound link.term) outcome.answer link.term.display.size outcome.screen);
      };
  loses = λ link n. record { next = n.next; pending = n.pending; down = n.down; up = n.up };
  host_leaves = λ link n. record { next = n.next; pending = n.pending; down = n.down; up = n.up };
  term_leaves = λ link n. record { next = n.next; pending = n.pending; down = n.down; up = n.up };
  fresh = λ model. tt;
  alone = λ link k n. tt;
  key_alone = λ terminal key display such is. tt;
}

pub numbers_fit : LowerLaws → Always NumbersFit
numbers_fit given app serves pool models events is lists few are =
    (everywhere given app is (λ event. ⊤) AreNumbered (λ display. ⊤) (steps app) serves pool models events lists are (λ k d below. tt)).links

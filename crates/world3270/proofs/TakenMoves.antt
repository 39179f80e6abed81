-- Bytes that the terminal of a world takes are moves over bytes, and its keyboard stays locked while a 3278's would be.
use Rattle.std.proofs.Common.{◌≡◌, ◌||◌, ℕ, Bool, true, false, Option, None, Some, List, [], ◌∷◌, ◌++◌, refl, ap, sym, subst, ◌∙◌}
use Rattle.keyboard.specs.State.{Keyboard}
use Rattle.telnet_wire.specs.Items.{WireItem}
use Rattle.telnet_wire.specs.Reading.{Rest}
use Rattle.tn3270e_msg.specs.declared.cause.Cause.{Cause}
use Rattle.host_core.specs.Application.{Application}
use Rattle.host_core.specs.Messages.{ToTerminal}
use Rattle.host_core.specs.State.{Host}
use Rattle.world3270.specs.model.Link.{Link, term_left_if, term_stepped}
use Rattle.world3270.specs.model.Terminal.{TermEnd, TermStep, is_bound, note_came, once_bound, paint_came, read_came, took}
use Rattle.world3270.specs.model.TrackedTerminals.{TrackedTakes, TrackedTakesByte, TrackedTerminal}
use Rattle.world3270.specs.refinement.Representation.{with_out}
use Rattle.world3270.specs.refinement.Represents.{BytesDown, Holds}
use Rattle.world3270.specs.refinement.RepresentsEnds.{is_painted}
use Rattle.world3270.specs.refinement.RepresentsLinks.{MayComeAll, NoneCloses, any_painted, took_down}
use Rattle.world3270.specs.refinement.Sendable.{CanBeSent}
use Rattle.world3270.specs.statement.EveryTerminalBytes.{LeadTo, Moves, OverBytes, Pressed, Takes, ended_if, ends_wait, item_completed}
use Rattle.world3270.specs.statement.WorldMoves.{IsLockedIf}
use Rattle.world3270.proofs.AnyTerminal.{TakesLaws}
use Rattle.world3270.proofs.ByteDown.{quiet_byte}
use Rattle.world3270.proofs.Completed.{left_down}
use Rattle.world3270.proofs.RepresentsLinks.{byte_came, stayed, nops_have_none}

-- ---- a terminal takes a byte

-- the connection of this host and this terminal, with these bytes handed over; what the terminal has to send is under way
abbrev pub joined : Host → List ℕ → TrackedTerminal → Pressed → OverBytes
joined host down tracked pressed = record { host = host; down = down; up = tracked.terminal.out; tracked = with_out [] tracked; pressed = pressed }

-- what was pressed in the wait, behind a byte
abbrev pressed_behind : TrackedTerminal → Pressed → Pressed
pressed_behind tracked pressed = ended_if tracked.terminal.station.took_write pressed

-- where Clear wasn't pressed, each write that restores the keyboard ends the wait
ends_any : (pressed : Pressed) (writes : Bool) (item : Option WireItem) → pressed.cleared ≡ false → ended_if (ends_wait pressed.cleared writes item) pressed ≡ ended_if writes pressed
ends_any pressed writes item uncleared =
    ap (λ (cleared : Bool). ended_if (ends_wait cleared writes item) pressed) uncleared

takes_one : (host : Host) (byte : ℕ) (behind : List ℕ) (old new : TrackedTerminal) (pressed : Pressed) → pressed.cleared ≡ false → TrackedTakesByte old byte new
    → Takes (joined host (byte ∷ behind) old pressed) (joined host behind new (pressed_behind new pressed))
takes_one host byte behind old new pressed uncleared taken =
    let quiet = quiet_byte old.terminal byte new.terminal taken.takes in
    record {
      byte = byte;
      behind = behind;
      next = refl;
      ours = with_out quiet.said new;
      takes = record { takes = quiet.takes []; history = taken.history };
      bytes = quiet.said;
      alike = λ messages read. read;
      leaves = ap (λ (up : List ℕ). record (joined host behind new (pressed_behind new pressed)) { up = up }) quiet.out_is
          ∙ ap (λ (p : Pressed). record (joined host behind new p) { up = old.terminal.out ++ quiet.said }) (sym (ends_any pressed new.terminal.station.took_write (item_completed (quiet.takes [])) uncleared));
    }

-- ---- messages come down

unlocks_not : (end : TermEnd) (message : ToTerminal) → is_painted end message ≡ false → (took end message).end.display.keyboard ≡ end.display.keyboard
unlocks_not end (ToTerminal.TalksDown saying) none = refl
unlocks_not end (ToTerminal.Paint number wanted over) none = by_bound (is_bound end) none
  where
    by_bound : (b : Bool) → b ≡ false → (once_bound b (paint_came number wanted end) end).end.display.keyboard ≡ end.display.keyboard
    by_bound true bound = absurd (cc)
    by_bound false bound = refl
unlocks_not end (ToTerminal.ReadBuffer number) none = by_bound (is_bound end)
  where
    by_bound : (b : Bool) → (once_bound b (read_came end) end).end.display.keyboard ≡ end.display.keyboard
    by_bound true = refl
    by_bound false = refl
unlocks_not end (ToTerminal.Note number command) none = by_bound (is_bound end)
  where
    by_bound : (b : Bool) → (once_bound b (note_came number command end) end).end.display.keyboard ≡ end.display.keyboard
    by_bound true = refl
    by_bound false = refl

neither : (one other : Bool) → (one || other) ≡ false → (one ≡ false) × (other ≡ false)
neither false other is = (refl, is)
neither true other is = absurd (cc)

left_term : (cause : Option Cause) (link : Link) → (term_left_if cause link).term ≡ link.term
left_term None link = refl
left_term (Some cause) link = refl

-- what holds of the messages behind the first ones
record Behind (taken others : List ToTerminal) (link : Link) : Type 0 where
  may : MayComeAll (took_down taken others link).term others
  none : NoneCloses (took_down taken others link).term others
  keyboard : any_painted link.term taken ≡ false → (took_down taken others link).term.display.keyboard ≡ link.term.display.keyboard

behind_them : (taken others : List ToTerminal) (link : Link) → MayComeAll link.term (taken ++ others) → NoneCloses link.term (taken ++ others) → Behind taken others link
behind_them [] others link may none = record { may = may; none = none; keyboard = λ unpainted. refl }
behind_them (message ∷ taken) others link may none =
    let step : TermStep = took link.term message in
    let next : Link = term_stepped step (taken ++ others) link in
    let term_is : next.term ≡ step.end = left_term step.closes (stayed step (taken ++ others) link) in
    let more = behind_them taken others next (subst (λ (e : TermEnd). MayComeAll e (taken ++ others)) (sym term_is) may.2)
    (subst (λ (e : TermEnd). NoneCloses e (taken ++ others)) (sym term_is) none.1) in
    record {
      may = more.may;
      none = more.none;
      keyboard = λ unpainted.
          let parts = neither (is_painted link.term message) (any_painted step.end taken) unpainted in
          more.keyboard (ap (λ (e : TermEnd). any_painted e taken) term_is ∙ parts.1)
          ∙ ap (λ (e : TermEnd). e.display.keyboard) term_is
          ∙ unlocks_not link.term message parts.0;
    }

-- ---- bytes come, one after another

held_behind : (pressed : Pressed) (took_write : Bool) (old new : TrackedTerminal) → IsLockedIf pressed old → (took_write ≡ false → new.terminal.station.keyboard ≡ old.terminal.station.keyboard) → IsLockedIf (ended_if took_write pressed) new
held_behind pressed true old new held same = record { locked = λ is. absurd (cc); uncleared = refl }
held_behind pressed false old new held same = record { locked = λ is. ap (λ (k : Keyboard). k.lock) (same refl) ∙ held.locked is; uncleared = held.uncleared }

-- moves that take the bytes
pub record AreTaken (app : Application) (number : ℕ) (host : Host) (bytes : List ℕ) (old new : TrackedTerminal) (pressed : Pressed) : Type 0 where
  pub later : Pressed
  pub states : List OverBytes
  pub lead : LeadTo app number states (joined host bytes old pressed) (joined host [] new later)
  pub held : IsLockedIf later new

module _ (laws : TakesLaws) (app : Application) (number : ℕ) (host : Host) where
  pub all_taken : (bytes behind : List ℕ) (old new : TrackedTerminal) (rest : Rest) (link : Link) (pressed : Pressed) → Holds rest old link.term → BytesDown rest (bytes ++ behind) link.down
      → MayComeAll link.term link.down → NoneCloses link.term link.down → CanBeSent link.term.display.size link.term.display.screen → IsLockedIf pressed old → TrackedTakes old bytes new
      → AreTaken app number host bytes old new pressed
  all_taken [] behind old new rest link pressed holds down may none can held same = record {
    later = pressed;
    states = [];
    lead = ap (λ (t : TrackedTerminal). joined host [] t pressed) same;
    held = subst (λ (t : TrackedTerminal). IsLockedIf pressed t) (sym same) held;
  }
  all_taken (byte ∷ bytes) behind old new rest link pressed holds down may none can held taken =
      let mid : TrackedTerminal = taken.0 in
      let one = byte_came laws.takes laws.keeps (nops_have_none laws.nop) laws.down laws.final laws.marks byte (bytes ++ behind) old mid rest link holds down may none can taken.1 in
      let came = one.came in
      let ran = came.ran in
      let now : Link = took_down came.taken came.others link in
      let after_them = behind_them came.taken came.others link (subst (λ (m : List ToTerminal). MayComeAll link.term m) came.whole may)
      (subst (λ (m : List ToTerminal). NoneCloses link.term m) came.whole none) in
      let others : now.down ≡ came.others = left_down came.taken came.others link came.whole in
      let held_now : IsLockedIf (pressed_behind mid pressed) mid =
      held_behind pressed mid.terminal.station.took_write old mid held
      (λ unwritten. ran.holds.is_end.keyboard_is ∙ after_them.keyboard (sym one.marked ∙ unwritten) ∙ sym holds.is_end.keyboard_is) in
      let more = all_taken bytes behind mid new ran.rest now (pressed_behind mid pressed) ran.holds ran.down
      (subst (λ (m : List ToTerminal). MayComeAll now.term m) (sym others) after_them.may)
      (subst (λ (m : List ToTerminal). NoneCloses now.term m) (sym others) after_them.none) ran.can held_now taken.2 in
      record {
        later = more.later;
        states = joined host bytes mid (pressed_behind mid pressed) ∷ more.states;
        lead = (Moves.takes (takes_one host byte bytes old mid pressed held.uncleared taken.1), more.lead);
        held = more.held;
      }

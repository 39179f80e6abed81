-- A terminal at its place takes bytes, and its history follows.
use Rattle.std.proofs.Common.{◌≡◌, inl, inr, ◌<◌, ◌≤◌, ◌+◌, ◌++◌, take, ℕ, zero, suc, Bool, false, List, [], ◌∷◌, Option, None, Some, length, get_or, refl, ap, sym, subst, ◌∙◌, arith}
use Rattle.std.proofs.lemmas.List.{take_more}
use Rattle.codes3270.specs.Size.{cells_in, model_2}
use Rattle.codes3270.specs.declared.size.Model.{Model}
use Rattle.presentation.specs.Sizes.{SizedScreen, blank_of}
use Rattle.datastream.specs.Screen.{Screen, blank_screen}
use Rattle.term_core.specs.Bytes.{TakesByte, TakesBytes}
use Rattle.keyboard.specs.declared.key.Key.{Key}
use Rattle.keyboard.specs.declared.key.Pressed.{Pressed}
use Rattle.keyboard.specs.declared.key.Pressed.TheVariants.{Done, Refused, Send}
use Rattle.term_core.specs.Feeds.{Feeds, StopsFor, IsAttached}
use Rattle.term_core.specs.Presses.{LacksKeyRoom, data_pressed, key_outcome}
use Rattle.term_core.specs.Room.{out_room}
use Rattle.term_core.specs.State.{TerminalWithRoom, Terminal, Link, Closed, Detached, is_bound, phase_of}
use Rattle.tn3270e_msg.specs.declared.cause.Cause.{Cause}
use Rattle.tn3270e_msg.specs.declared.cause.Fed.{Fed}
use Rattle.tn3270e_msg.specs.declared.cause.Stop.{Stop}
use Rattle.tn3270e_msg.specs.declared.cause.Stop.TheVariants as stop
use Rattle.world3270.specs.model.ByteWorld.{TerminalSlot}
use Rattle.world3270.specs.model.InFlight.{IsSoundSlot}
use Rattle.world3270.specs.model.TrackedTerminals.{TrackedTerminal, TrackedTakes, TrackedTakesByte, restored_by}

abbrev begins_as : Terminal → (left before : Screen) → Option ℕ → TerminalSlot
begins_as terminal left before at = record { tracked = record { terminal = terminal; history = record { last_restored = left; before_restored = before; erased = false } }; at = at }

pub begun : (terminal begins : Terminal) (left before : SizedScreen) (model : Model) (at : Option ℕ) → terminal ≡ begins → left ≡ blank_of model → before ≡ blank_of model
    → begins_as terminal left.screen before.screen at ≡ begins_as begins (blank_screen (cells_in model_2)) (blank_screen (cells_in model_2)) at
begun terminal begins left before model at same blank also =
    ap (λ (t : Terminal). begins_as t left.screen before.screen at) same ∙ ap (λ (s : SizedScreen). begins_as begins s.screen before.screen at) blank
    ∙ ap (λ (s : SizedScreen). begins_as begins (blank_screen (cells_in model_2)) s.screen at) also

-- ---- a byte

one_taken : (old new : Terminal) (byte taken : ℕ) → taken ≡ 1 → TakesBytes old (take taken (byte ∷ [])) new → TakesByte old byte new
one_taken old new byte taken one takes =
    let it : TakesBytes old (byte ∷ []) new = subst (λ (n : ℕ). TakesBytes old (take n (byte ∷ [])) new) one takes in
    subst (λ (t : Terminal). TakesByte old byte t) (sym it.2) it.1

not_closed : (link : Link) (cause : Cause) → IsAttached link → link ≡ Closed cause → ⊥
not_closed link cause attached closed = subst IsAttached closed attached

not_detached : (link : Link) → IsAttached link → link ≡ Detached → ⊥
not_detached link attached detached = subst IsAttached detached attached

went_on : (room : ℕ) (old new : Terminal) (byte taken : ℕ) → IsAttached old.link → TakesBytes old (take taken (byte ∷ [])) new
    → StopsFor room stop.Going old (byte ∷ []) taken new → TakesByte old byte new × IsAttached new.link
went_on room old new byte taken attached takes (inl all) = (one_taken old new byte taken all.0 takes, all.1)
went_on room old new byte taken attached takes (inr none) = absurd (not_detached old.link attached none.1)

closed_by : (old new : Terminal) (byte taken : ℕ) (cause : Cause) → IsAttached old.link → taken ≤ 1 → TakesBytes old (take taken (byte ∷ [])) new
    → new.link ≡ Closed cause → TakesByte old byte new
closed_by old new byte zero cause attached few takes closed =
    absurd (not_closed old.link cause attached (sym (ap (λ (t : Terminal). t.link) takes) ∙ closed))
closed_by old new byte (suc zero) cause attached few takes closed = one_taken old new byte 1 refl takes
closed_by old new byte (suc (suc taken)) cause attached few takes closed = absurd (omega arith)

pub byte_went_on : (room : ℕ) (old : TrackedTerminal) (terminal : Terminal) (byte : ℕ) (fed : Fed) (new : TrackedTerminal) (before : Screen) → IsAttached old.terminal.link → before ≡ old.terminal.station.screen.screen
    → Feeds room old.terminal (byte ∷ []) fed terminal → fed.stop ≡ stop.Going
    → new ≡ record { terminal = terminal; history = restored_by terminal.station.took_write before terminal.station.screen.screen old.history } → TrackedTakesByte old byte new × IsAttached new.terminal.link
byte_went_on room old terminal byte fed new before attached found feeds going is =
    let stops = subst (λ (s : Stop). StopsFor room s old.terminal (byte ∷ []) fed.taken terminal) going feeds.stops in
    let went = went_on room old.terminal terminal byte fed.taken attached feeds.takes stops in
    subst (λ (s : TrackedTerminal). TrackedTakesByte old byte s × IsAttached s.terminal.link) (sym is) (record { takes = went.0; history = ap (λ (b : Screen). restored_by terminal.station.took_write b terminal.station.screen.screen old.history) found }, went.1)

pub byte_closed : (room : ℕ) (old : TrackedTerminal) (terminal : Terminal) (byte : ℕ) (cause : Cause) (fed : Fed) (new : TrackedTerminal) (before : Screen) → IsAttached old.terminal.link → before ≡ old.terminal.station.screen.screen
    → Feeds room old.terminal (byte ∷ []) fed terminal → fed.stop ≡ stop.Closed cause
    → new ≡ record { terminal = terminal; history = restored_by terminal.station.took_write before terminal.station.screen.screen old.history } → TrackedTakesByte old byte new × (new.terminal.link ≡ Closed cause)
byte_closed room old terminal byte cause fed new before attached found feeds closed is =
    let stops = subst (λ (s : Stop). StopsFor room s old.terminal (byte ∷ []) fed.taken terminal) closed feeds.stops in
    let took = closed_by old.terminal terminal byte fed.taken cause attached feeds.few feeds.takes stops in
    subst (λ (s : TrackedTerminal). TrackedTakesByte old byte s × (s.terminal.link ≡ Closed cause)) (sym is) (record { takes = took; history = ap (λ (b : Screen). restored_by terminal.station.took_write b terminal.station.screen.screen old.history) found }, stops)

-- ---- the room of a terminal's output

unbound_sends_nothing : (answer : Pressed) (screen : Screen) (body : List ℕ) → data_pressed false answer screen ≡ Some body → ⊥
unbound_sends_nothing Done screen body sends = cc
unbound_sends_nothing (Refused why) screen body sends = cc
unbound_sends_nothing (Send aid) screen body sends = cc

-- a key for which there was no memory
pub key_lacked : (at : Option ℕ) (old : TerminalWithRoom) (key : Key) → IsSoundSlot at old → LacksKeyRoom old.room key old.terminal → LacksKeyRoom out_room key old.terminal
key_lacked None old key sound lacks =
    let outcome = key_outcome key old.terminal.station in
    let unbound : is_bound (phase_of old.terminal.link) ≡ false = ap (λ (link : Link). is_bound (phase_of link)) sound in
    absurd (unbound_sends_nothing outcome.answer outcome.screen lacks.body
    (subst (λ (bound : Bool). data_pressed bound outcome.answer outcome.screen ≡ Some lacks.body) unbound lacks.sends))
key_lacked (Some number) old key sound lacks = record { body = lacks.body; sends = lacks.sends; full = omega (arith, sound.1, lacks.full) }

-- ---- bytes

pub takes_more : (old : TrackedTerminal) (bytes : List ℕ) (mid : TrackedTerminal) (byte : ℕ) (new : TrackedTerminal) → TrackedTakes old bytes mid → TrackedTakesByte mid byte new
    → TrackedTakes old (bytes ++ byte ∷ []) new
takes_more old [] mid byte new none one = (new, subst (λ (s : TrackedTerminal). TrackedTakesByte s byte new) none one, refl)
takes_more old (first ∷ bytes) mid byte new takes one = (takes.0, takes.1, takes_more takes.0 bytes mid byte new takes.2 one)

pub one_more : (old : TrackedTerminal) (bytes : List ℕ) (index d : ℕ) (mid new : TrackedTerminal) → index < length bytes
    → TrackedTakes old (take index bytes) mid → TrackedTakesByte mid (get_or bytes index d) new → TrackedTakes old (take (index + 1) bytes) new
one_more old bytes index d mid new below takes one =
    subst (λ (bs : List ℕ). TrackedTakes old bs new) (sym (take_more bytes index d below)) (takes_more old (take index bytes) mid (get_or bytes index d) new takes one)

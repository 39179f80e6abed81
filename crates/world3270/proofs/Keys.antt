-- What keys do to a connection, at each moment.
use Rattle.std.proofs.Common.{◌≡◌, ◌<◌, ◌||◌, ℕ, zero, suc, Bool, true, false, Result, Ok, Err, List, [], ◌∷◌, ◌++◌, append-nil, length, replicate, refl, ap, sym, subst, ◌∙◌, IsOkAnd, IfOk}
use Rattle.std.specs.Prelude.{is_some}
use Rattle.std.specs.List.{list_all}
use Rattle.std.proofs.lemmas.List.Elements.{All-nil}
use Rattle.codes3270.specs.Aid.{is_short_aid}
use Rattle.codes3270.specs.Size.{ScreenSize, cells_in}
use Rattle.codes3270.specs.declared.attention.Aid.{Aid}
use Rattle.codes3270.specs.declared.attention.Aid.TheVariants.{NoAid, Enter as EnterAid, Clear as ClearAid, Pf as PfAid, Pa as PaAid}
use Rattle.codes3270.specs.declared.attribute.Cell.{Cell}
use Rattle.codes3270.specs.declared.attribute.Cell.TheVariants.{Char as CharCell}
use Rattle.datastream.specs.KeptByKeys.{KeptByKeys}
use Rattle.datastream.specs.InboundFields.{modified_data}
use Rattle.datastream.specs.InboundText.{InboundParts}
use Rattle.datastream.specs.Screen.{Screen, is_char}
use Rattle.datastream.specs.declared.inbound_part.Form.TheVariants.{Modified}
use Rattle.keyboard.specs.Edits.{typed, with_deleted, with_field_erased}
use Rattle.keyboard.specs.Keys.{Outcome, edited as edit_or_refusal, lock_after, at_lock, pressed}
use Rattle.keyboard.specs.Leaves.{erases, Keeps, KeepsSent}
use Rattle.keyboard.specs.State.{Keyboard}
use Rattle.keyboard.specs.declared.key.Key.{Key}
use Rattle.keyboard.specs.declared.key.Key.TheVariants.{Char, Tab, BackTab, NewLine, Home, CursorUp, CursorDown, CursorLeft, CursorRight, Backspace, Insert, Delete, EraseEof, EraseInput, Reset, Enter, Pf, Pa, Clear}
use Rattle.keyboard.specs.declared.key.Lock.{Lock}
use Rattle.keyboard.specs.declared.key.Lock.TheVariants.{Free, Wait, Error}
use Rattle.keyboard.specs.declared.key.Pressed.{Pressed}
use Rattle.keyboard.specs.declared.key.Pressed.TheVariants.{Done, Refused, Send}
use Rattle.keyboard.specs.declared.key.Refusal.{Refusal}
use Rattle.keyboard.specs.declared.key.Refusal.TheVariants.{Locked, NoCode, Protected, NotNumeric, NoRoom}
use Rattle.shadow.specs.Belief.{Shadow}
use Rattle.shadow.specs.Exactness.{KnownIsExact, ProtectedIsExact}
use Rattle.shadow.specs.Heard.{heard}
use Rattle.shadow.specs.Laws.{Believed, IsSentFrom}
use Rattle.shadow.specs.Meets.{Meets, Knows}
use Rattle.shadow.specs.TextUnknown.{IsClearedBelief, IsLong, IsNotOpen, NothingIsOpen}
use Rattle.shadow.specs.declared.fault.HeardFault.{HeardFault}
use Rattle.host_core.specs.Application.{Application, message_place}
use Rattle.host_core.specs.Messages.{ToHost}
use Rattle.host_core.specs.NoteLaws.{HasMessageRow, HasNoFields, TakesNotes}
use Rattle.world3270.specs.refinement.LowerLaws.{LowerLaws}
use Rattle.world3270.specs.model.Link.{Link, sent, term_stepped}
use Rattle.world3270.specs.refinement.Phases.{SessionPhase, LinkPhase, IsInFlight, IsAt, turn_at, pending_at, served_down, served_up}
use Rattle.world3270.specs.statement.TurnReasons.{IsCleared, IsHome, IsOpenBy}
use Rattle.host_core.specs.declared.unheard.Unheard.{Unheard}
use Rattle.world3270.specs.refinement.Invariant.{LocalState, local_state_of, once_taken, FactsAreExact, IfRelies, Operates, Sees, IsPressed, WasShown, WillSee, Fact, ConnectionInvariant, Sizes, ShownAt}
use Rattle.world3270.specs.model.Terminal.{Display, is_bound, bound_to, data_of, erases_if, outcome_of, key_came}
use Rattle.world3270.specs.refinement.View.{View, view_of}
use Rattle.world3270.proofs.Down.{ok_map}
use Rattle.world3270.proofs.Queues.{more, nothing_sent}
use Rattle.world3270.proofs.Sent.{key_form, key_aid, key_cursor, key_size, sent_long, nulls_known}
use Rattle.world3270.specs.refinement.Unreturned.{NotedSince}
use Rattle.world3270.proofs.Unreturned.{as_left_of, kept_of}

-- ---- in Wait

-- nothing is sent and the screen stays
pub record Waits (key : Key) (screen : Screen) (outcome : Outcome) : Type 0 where
  pub same : outcome.screen ≡ screen
  pub lock : outcome.keyboard.lock ≡ Wait
  pub keeps : erases_if outcome.answer key ≡ false
  pub silent : (bound : Bool) (shape : ScreenSize) (now : Screen) → data_of bound outcome.answer shape now ≡ []

pub quiet_refused : (bound : Bool) (why : Refusal) (shape : ScreenSize) (now : Screen) → data_of bound (Refused why) shape now ≡ []
quiet_refused true why shape now = refl
quiet_refused false why shape now = refl

pub quiet_done : (bound : Bool) (shape : ScreenSize) (now : Screen) → data_of bound Done shape now ≡ []
quiet_done true shape now = refl
quiet_done false shape now = refl

waits_by : (columns : ℕ) (key : Key) (keyboard : Keyboard) (screen : Screen) → keyboard.lock ≡ Wait → Waits key screen (at_lock Wait columns key keyboard screen)
waits_by columns (Char letter) keyboard screen e = record { same = refl; lock = e; keeps = refl; silent = λ b shape now. quiet_refused b Locked shape now }
waits_by columns Tab keyboard screen e = record { same = refl; lock = e; keeps = refl; silent = λ b shape now. quiet_refused b Locked shape now }
waits_by columns BackTab keyboard screen e = record { same = refl; lock = e; keeps = refl; silent = λ b shape now. quiet_refused b Locked shape now }
waits_by columns NewLine keyboard screen e = record { same = refl; lock = e; keeps = refl; silent = λ b shape now. quiet_refused b Locked shape now }
waits_by columns Home keyboard screen e = record { same = refl; lock = e; keeps = refl; silent = λ b shape now. quiet_refused b Locked shape now }
waits_by columns CursorUp keyboard screen e = record { same = refl; lock = e; keeps = refl; silent = λ b shape now. quiet_refused b Locked shape now }
waits_by columns CursorDown keyboard screen e = record { same = refl; lock = e; keeps = refl; silent = λ b shape now. quiet_refused b Locked shape now }
waits_by columns CursorLeft keyboard screen e = record { same = refl; lock = e; keeps = refl; silent = λ b shape now. quiet_refused b Locked shape now }
waits_by columns CursorRight keyboard screen e = record { same = refl; lock = e; keeps = refl; silent = λ b shape now. quiet_refused b Locked shape now }
waits_by columns Backspace keyboard screen e = record { same = refl; lock = e; keeps = refl; silent = λ b shape now. quiet_refused b Locked shape now }
waits_by columns Insert keyboard screen e = record { same = refl; lock = e; keeps = refl; silent = λ b shape now. quiet_refused b Locked shape now }
waits_by columns Delete keyboard screen e = record { same = refl; lock = e; keeps = refl; silent = λ b shape now. quiet_refused b Locked shape now }
waits_by columns EraseEof keyboard screen e = record { same = refl; lock = e; keeps = refl; silent = λ b shape now. quiet_refused b Locked shape now }
waits_by columns EraseInput keyboard screen e = record { same = refl; lock = e; keeps = refl; silent = λ b shape now. quiet_refused b Locked shape now }
waits_by columns Reset keyboard screen e = record { same = refl; lock = rw e refl; keeps = refl; silent = λ b now. quiet_done b now }
waits_by columns Enter keyboard screen e = record { same = refl; lock = e; keeps = refl; silent = λ b shape now. quiet_refused b Locked shape now }
waits_by columns (Pf number) keyboard screen e = record { same = refl; lock = e; keeps = refl; silent = λ b shape now. quiet_refused b Locked shape now }
waits_by columns (Pa number) keyboard screen e = record { same = refl; lock = e; keeps = refl; silent = λ b shape now. quiet_refused b Locked shape now }
waits_by columns Clear keyboard screen e = record { same = refl; lock = e; keeps = refl; silent = λ b shape now. quiet_refused b Locked shape now }

pub waits : (columns : ℕ) (key : Key) (keyboard : Keyboard) (screen : Screen) → keyboard.lock ≡ Wait → Waits key screen (pressed columns key keyboard screen)
waits columns key keyboard screen e = subst (λ l. Waits key screen (at_lock l columns key keyboard screen)) (sym e) (waits_by columns key keyboard screen e)

-- ---- in the operator's turn

-- what a key with an answer leaves: it doesn't wait, or it was sent with its identifier
abbrev ActsBy : Pressed → Outcome → Type 0
ActsBy Done outcome = outcome.keyboard.lock ≡ Wait → ⊥
ActsBy (Refused why) outcome = outcome.keyboard.lock ≡ Wait → ⊥
ActsBy (Send aid) outcome = (outcome.keyboard.lock ≡ Wait) × (outcome.screen.aid ≡ aid) × (aid ≡ NoAid → ⊥) × IsHome aid outcome.screen.cursor

abbrev Acts : Outcome → Type 0
Acts outcome = ActsBy outcome.answer outcome

lock_stays : (why : Refusal) (lock : Lock) → (lock ≡ Wait → ⊥) → lock_after why lock ≡ Wait → ⊥
lock_stays Locked lock h e = h e
lock_stays NoCode lock h e = h e
lock_stays Protected lock h e = absurd (cc)
lock_stays NotNumeric lock h e = absurd (cc)
lock_stays NoRoom lock h e = absurd (cc)

edits : (r : Result Screen Refusal) (keyboard : Keyboard) (screen : Screen) → (keyboard.lock ≡ Wait → ⊥) → Acts (edit_or_refusal r keyboard screen)
edits (Ok new) keyboard screen h = h
edits (Err why) keyboard screen h = lock_stays why keyboard.lock h

acts_free : (columns : ℕ) (key : Key) (keyboard : Keyboard) (screen : Screen) → (keyboard.lock ≡ Wait → ⊥) → keyboard.lock ≡ Free → Acts (at_lock Free columns key keyboard screen)
acts_free columns (Char letter) keyboard screen h f = edits (typed keyboard.inserting letter screen) keyboard screen h
acts_free columns Tab keyboard screen h f = h
acts_free columns BackTab keyboard screen h f = h
acts_free columns NewLine keyboard screen h f = h
acts_free columns Home keyboard screen h f = h
acts_free columns CursorUp keyboard screen h f = h
acts_free columns CursorDown keyboard screen h f = h
acts_free columns CursorLeft keyboard screen h f = h
acts_free columns CursorRight keyboard screen h f = h
acts_free columns Backspace keyboard screen h f = h
acts_free columns Insert keyboard screen h f = h
acts_free columns Delete keyboard screen h f = edits (with_deleted columns screen) keyboard screen h
acts_free columns EraseEof keyboard screen h f = edits (with_field_erased screen) keyboard screen h
acts_free columns EraseInput keyboard screen h f = h
acts_free columns Reset keyboard screen h f = rw f (λ e. absurd (cc))
acts_free columns Enter keyboard screen h f = (refl, refl, λ e. absurd (cc), λ clear. absurd (cc))
acts_free columns (Pf number) keyboard screen h f = (refl, refl, λ e. absurd (cc), λ clear. absurd (cc))
acts_free columns (Pa number) keyboard screen h f = (refl, refl, λ e. absurd (cc), λ clear. absurd (cc))
acts_free columns Clear keyboard screen h f = (refl, refl, λ e. absurd (cc), λ clear. refl)

acts_error : (columns : ℕ) (key : Key) (keyboard : Keyboard) (screen : Screen) → (keyboard.lock ≡ Wait → ⊥) → keyboard.lock ≡ Error → Acts (at_lock Error columns key keyboard screen)
acts_error columns (Char letter) keyboard screen h f = h
acts_error columns Tab keyboard screen h f = h
acts_error columns BackTab keyboard screen h f = h
acts_error columns NewLine keyboard screen h f = h
acts_error columns Home keyboard screen h f = h
acts_error columns CursorUp keyboard screen h f = h
acts_error columns CursorDown keyboard screen h f = h
acts_error columns CursorLeft keyboard screen h f = h
acts_error columns CursorRight keyboard screen h f = h
acts_error columns Backspace keyboard screen h f = h
acts_error columns Insert keyboard screen h f = h
acts_error columns Delete keyboard screen h f = h
acts_error columns EraseEof keyboard screen h f = h
acts_error columns EraseInput keyboard screen h f = h
acts_error columns Reset keyboard screen h f = rw f (λ e. absurd (cc))
acts_error columns Enter keyboard screen h f = h
acts_error columns (Pf number) keyboard screen h f = h
acts_error columns (Pa number) keyboard screen h f = h
acts_error columns Clear keyboard screen h f = h

acts_by : (columns : ℕ) (key : Key) (keyboard : Keyboard) (screen : Screen) (lock : Lock) → (keyboard.lock ≡ Wait → ⊥) → keyboard.lock ≡ lock → Acts (at_lock lock columns key keyboard screen)
acts_by columns key keyboard screen Free h e = acts_free columns key keyboard screen h e
acts_by columns key keyboard screen Error h e = acts_error columns key keyboard screen h e
acts_by columns key keyboard screen Wait h e = absurd (h e)

acts : (columns : ℕ) (key : Key) (keyboard : Keyboard) (screen : Screen) → (keyboard.lock ≡ Wait → ⊥) → Acts (pressed columns key keyboard screen)
acts columns key keyboard screen h = acts_by columns key keyboard screen keyboard.lock h refl

-- ---- the connection after a key

abbrev key_view : Key → Link → Link
key_view key link = term_stepped (key_came key link.term) link.down link

-- what the view of it has, part by part
abbrev pub seen_as : View → List ToHost → Screen → Lock → Bool → View
seen_as v up screen lock erased = record v { up = up; screen = screen; lock = lock; erased = erased }

pub or_false : (b : Bool) → (b || false) ≡ b
or_false true = refl
or_false false = refl

-- a key in Wait changes nothing that the headline speaks of
pub key_waits : (key : Key) (link : Link) → link.term.display.keyboard.lock ≡ Wait → view_of (key_view key link) ≡ view_of link
key_waits key link e =
    let w = waits link.term.display.size.columns key link.term.display.keyboard link.term.display.screen e in
    let outcome : Outcome = outcome_of key link.term.display in
    let v : View = view_of link in
    ap (λ up. seen_as v up outcome.screen outcome.keyboard.lock (v.erased || erases_if outcome.answer key))
    (ap (λ says. sent link.lost link.up says) (w.silent (is_bound link.term) v.size outcome.screen) ∙ nothing_sent link.lost link.up)
    ∙ ap (λ s. seen_as v v.up s outcome.keyboard.lock (v.erased || erases_if outcome.answer key)) w.same
    ∙ ap (λ l. seen_as v v.up v.screen l (v.erased || erases_if outcome.answer key)) (w.lock ∙ sym e)
    ∙ ap (λ b. seen_as v v.up v.screen v.lock b) (ap (λ b. v.erased || b) w.keeps ∙ or_false v.erased)

-- ---- what a key that sends leaves

-- the key is taken as sent from the screen that was shown
sent_from : (erased : Bool) (left now : List Cell) (aid : Aid) → KeepsSent erased aid left now → IsSentFrom erased left now aid
sent_from erased left now NoAid k = absurd k
sent_from erased left now EnterAid k = k
sent_from erased left now (PfAid key) k = k
sent_from erased left now (PaAid key) k = k
sent_from erased left now ClearAid k = k

-- but for Clear, each key was sent of a screen that keys kept
held_fields : (erased : Bool) (left now : List Cell) (aid : Aid) → KeepsSent erased aid left now → (aid ≡ ClearAid → ⊥) → KeptByKeys erased left now
held_fields erased left now NoAid k s = absurd k
held_fields erased left now EnterAid k s = k
held_fields erased left now (PfAid key) k s = k
held_fields erased left now (PaAid key) k s = k
held_fields erased left now ClearAid k s = absurd (s refl)

all_chars : (count : ℕ) → list_all is_char (replicate count (CharCell 0)) ≡ true
all_chars zero = refl
all_chars (suc count) = all_chars count

-- after Clear the screen has no fields
sent_bare : (erased : Bool) (left now : List Cell) → KeepsSent erased ClearAid left now → HasNoFields now
sent_bare erased left now k = ap (list_all is_char) k ∙ all_chars (length left)

-- notes may be written on it
takes_notes : LowerLaws → (shape : ScreenSize) (erased : Bool) (left now : List Cell) (aid : Aid) → KeepsSent erased aid left now → HasMessageRow shape left → TakesNotes shape now
takes_notes given shape erased left now NoAid k row = absurd k
takes_notes given shape erased left now EnterAid k row = TakesNotes.formatted (given.notes.held_takes shape erased left now k row)
takes_notes given shape erased left now (PfAid key) k row = TakesNotes.formatted (given.notes.held_takes shape erased left now k row)
takes_notes given shape erased left now (PaAid key) k row = TakesNotes.formatted (given.notes.held_takes shape erased left now k row)
takes_notes given shape erased left now ClearAid k row = TakesNotes.unformatted (sent_bare erased left now k)

-- what is open once it is heard
opens_by : (aid : Aid) (s : Shadow) (size : ℕ) → (aid ≡ ClearAid → IsClearedBelief size s) → (is_short_aid aid ≡ false → NothingIsOpen s) → IsOpenBy aid false s
opens_by (PaAid key) s size clear long = tt
opens_by ClearAid s size clear long = subst NothingIsOpen (sym (clear refl)) (All-nil IsNotOpen)
opens_by NoAid s size clear long = long refl
opens_by EnterAid s size clear long = long refl
opens_by (PfAid key) s size clear long = long refl

-- the host will hear it, and then see the screen
will_see : LowerLaws → (unheard : Unheard) (erased : Bool) (shape size : ScreenSize) (shadow : Shadow) (left screen : Screen) (aid : Aid) → screen.aid ≡ aid → length screen.cells ≡ cells_in shape → FactsAreExact shadow → Knows shadow → IfRelies unheard (NothingIsOpen shadow) → Meets shadow left
    → KeepsSent erased aid left.cells screen.cells → IsOkAnd (heard (cells_in shape) shadow (modified_data Modified size screen)) (Sees unheard shape screen)
will_see given unheard erased shape size shadow left screen aid is whole exact knows closed meets keeps =
    subst (λ n. IsOkAnd (heard n shadow parts) (Sees unheard shape screen)) whole
    (ok_map (λ s. Believed (is_short_aid screen.aid) screen s × FactsAreExact s × (screen.aid ≡ ClearAid → IsCleared shape s) × IfRelies unheard (IsOpenBy screen.aid false s)) (Sees unheard shape screen) result
    (λ s all. record { exact = all.1; closed = all.3; cleared = all.2; bare = λ clear. sent_bare erased left.cells screen.cells (subst (λ a. KeepsSent erased a left.cells screen.cells) (sym is ∙ clear) keeps); meets = all.0.0; lists = all.0.1; told = λ sent. all.0.2 (sent_long screen.aid sent) })
    (by_result result
    (given.belief.hears size erased shadow left screen knows meets (sent_from erased left.cells screen.cells screen.aid (subst (λ a. KeepsSent erased a left.cells screen.cells) (sym is) keeps)))
    (given.belief.heard_exact (length screen.cells) shadow parts exact.known) (given.belief.heard_protected (length screen.cells) shadow parts exact.protected)
    (λ clear. given.belief.cleared (length screen.cells) shadow parts (key_form size screen) (key_aid size screen ∙ clear))
    (λ relies long. given.belief.long_opens (length screen.cells) shadow parts (is_long long) (closed relies))))
  where
    parts : InboundParts
    parts = modified_data Modified size screen

    result : Result Shadow HeardFault
    result = heard (length screen.cells) shadow parts

    by_result : (r : Result Shadow HeardFault) → IsOkAnd r (Believed (is_short_aid screen.aid) screen) → IfOk r KnownIsExact → IfOk r ProtectedIsExact → (screen.aid ≡ ClearAid → IsOkAnd r (IsClearedBelief (length screen.cells)))
        → IfRelies unheard (is_short_aid screen.aid ≡ false → IfOk r NothingIsOpen)
        → IsOkAnd r (λ s. Believed (is_short_aid screen.aid) screen s × FactsAreExact s × (screen.aid ≡ ClearAid → IsCleared shape s) × IfRelies unheard (IsOpenBy screen.aid false s))
    by_result (Ok s) believed known protected clear long =
        (believed, record { known = known; protected = protected }, λ e. nulls_known shape s (subst (λ n. IsClearedBelief n s) whole (clear e)), λ relies. opens_by screen.aid s (length screen.cells) clear (long relies))
    by_result (Err fault) believed known protected clear long = absurd believed

    is_long : is_short_aid screen.aid ≡ false → IsLong parts.form parts.aid
    is_long long = subst (λ f. IsLong f parts.aid) (sym (key_form size screen)) (ap is_short_aid (key_aid size screen) ∙ long)

-- ---- what the operator does at a moment at which he types

module _ (given : LowerLaws) (app : Application) (link : Link) (k : ConnectionInvariant app (view_of link)) (lu : List ℕ) (from : SessionPhase) (shadow : Shadow)
    (at : IsAt (view_of link) k.wanted (LinkPhase.InSession lu from)) (same : link.term.display.size ≡ link.host.size) (f : Operates shadow (local_state_of (view_of link))) where
  abbrev v : View
  v = view_of link

  -- where nothing is sent, it is the same moment
  stays_at : (screen : Screen) (lock : Lock) (erased : Bool) → IsAt (seen_as v (sent v.lost v.up []) screen lock erased) k.wanted (LinkPhase.InSession lu from)
  stays_at screen lock erased = record {
    host_talk = at.host_talk;
    term_talk = at.term_talk;
    turn = at.turn;
    pending = at.pending;
    goes_down = at.goes_down;
    goes_up = subst (IsInFlight v.lost (sent v.lost v.up [])) (append-nil (served_up from)) (more v.lost v.up (served_up from) [] at.goes_up);
  }

  sends_at : (to : SessionPhase) (parts : InboundParts) (screen : Screen) (lock : Lock) (erased : Bool) → turn_at (LinkPhase.InSession lu to) ≡ turn_at (LinkPhase.InSession lu from) → pending_at (LinkPhase.InSession lu to) ≡ pending_at (LinkPhase.InSession lu from)
      → served_down to ≡ served_down from → served_up from ++ ToHost.Data parts ∷ [] ≡ served_up to
      → IsAt (seen_as v (sent v.lost v.up (ToHost.Data parts ∷ [])) screen lock erased) k.wanted (LinkPhase.InSession lu to)
  sends_at to parts screen lock erased turn pending down up = record {
    host_talk = at.host_talk;
    term_talk = at.term_talk;
    turn = at.turn ∙ sym turn;
    pending = at.pending ∙ sym pending;
    goes_down = subst (IsInFlight v.lost v.down) (sym down) at.goes_down;
    goes_up = subst (IsInFlight v.lost (sent v.lost v.up (ToHost.Data parts ∷ []))) up (more v.lost v.up (served_up from) (ToHost.Data parts ∷ []) at.goes_up);
  }

  abbrev scene_now : Screen → Lock → Bool → LocalState
  scene_now screen lock erased = local_state_of (seen_as v v.up screen lock erased)

  -- what a moment has of an operator who types, and of a key that was pressed
  pub record Typing : Type 0 where
    pub to : InboundParts → SessionPhase
    pub stay : (screen : Screen) (lock : Lock) (erased : Bool) → Operates shadow (scene_now screen lock erased) → Fact k.wanted (scene_now screen lock erased) (LinkPhase.InSession lu from)
    pub press : (parts : InboundParts) (screen : Screen) (lock : Lock) (erased : Bool) → IsPressed (scene_now screen lock erased) parts → WillSee (scene_now screen lock erased) shadow parts → TakesNotes v.host.size screen.cells
        → Fact k.wanted (scene_now screen lock erased) (LinkPhase.InSession lu (to parts))
    pub at_to : (parts : InboundParts) (screen : Screen) (lock : Lock) (erased : Bool) → IsAt (seen_as v (sent v.lost v.up (ToHost.Data parts ∷ [])) screen lock erased) k.wanted (LinkPhase.InSession lu (to parts))
    pub shown : (screen : Screen) → ShownAt app v.waits v.host v.before_restored v.last_restored screen (LinkPhase.InSession lu from)
    pub shown_to : (parts : InboundParts) (screen : Screen) → ShownAt app v.waits v.host v.before_restored v.last_restored screen (LinkPhase.InSession lu (to parts))

  -- what was noted, on the screen of this size
  noted_here : NotedSince (message_place v.size) v.last_restored.cells f.shown.cells
  noted_here = subst (λ (s : ScreenSize). NotedSince (message_place s) v.last_restored.cells f.shown.cells) (sym same) f.noted

  -- a key that sends nothing
  pub stays : Typing → (screen : Screen) (lock : Lock) (erased : Bool) → length screen.cells ≡ cells_in v.size → screen.cursor < cells_in v.size → (lock ≡ Wait → ⊥) → KeptByKeys erased f.shown.cells screen.cells
      → ConnectionInvariant app (seen_as v (sent v.lost v.up []) screen lock erased)
  stays typing screen lock erased whole cursor free held = record {
    whole = whole;
    cursor = cursor;
    unreturned = λ _. kept_of given.notes.still_protected erased (message_place v.host.size) v.last_restored.cells f.shown.cells screen.cells held f.noted;
    as_left = λ _. as_left_of erased (message_place v.size) v.last_restored.cells f.shown.cells screen.cells held noted_here;
    exact = k.exact;
    unrestored = k.unrestored;
    wanted = k.wanted;
    moment = LinkPhase.InSession lu from;
    sizes = record { host = k.sizes.host; screen = k.sizes.screen; same = λ steady. same };
    at = stays_at screen lock erased;
    fact = typing.stay screen lock erased (record { shown = f.shown; lock = free; uncleared = f.uncleared; exact = f.exact; meets = f.meets; closed = f.closed; knows = f.knows; held = held; messages = f.messages; noted = f.noted });
    shown = typing.shown screen;
  }

  -- a key that sends
  pub sends : Typing → (screen : Screen) (lock : Lock) (erased : Bool) (aid : Aid) → length screen.cells ≡ cells_in v.size → screen.cursor < cells_in v.size → lock ≡ Wait → screen.aid ≡ aid → (aid ≡ NoAid → ⊥) → IsHome aid screen.cursor
      → KeepsSent erased aid f.shown.cells screen.cells → ConnectionInvariant app (seen_as v (sent v.lost v.up (ToHost.Data (modified_data Modified v.size screen) ∷ [])) screen lock erased)
  sends typing screen lock erased aid whole cursor waits is some home keeps =
      let parts : InboundParts = modified_data Modified v.size screen in
      let still : (screen.aid ≡ ClearAid → ⊥) → KeptByKeys erased f.shown.cells screen.cells =
      λ uncleared. held_fields erased f.shown.cells screen.cells aid keeps (λ clear. uncleared (is ∙ clear)) in
      record {
        whole = whole;
        cursor = cursor;
        unreturned = λ uncleared. kept_of given.notes.still_protected erased (message_place v.host.size) v.last_restored.cells f.shown.cells screen.cells (still uncleared) f.noted;
        as_left = λ uncleared. as_left_of erased (message_place v.size) v.last_restored.cells f.shown.cells screen.cells (still uncleared) noted_here;
        exact = k.exact;
        unrestored = k.unrestored;
        wanted = k.wanted;
        moment = LinkPhase.InSession lu (typing.to parts);
        sizes = record { host = k.sizes.host; screen = k.sizes.screen; same = λ steady. same };
        at = typing.at_to parts screen lock erased;
        fact = typing.press parts screen lock erased
            (record { lock = waits; uncleared = f.uncleared; form = key_form v.size screen; size = key_size v.size screen ∙ same; pressed = key_aid v.size screen; cursor = key_cursor v.size screen; some = λ none. some (sym is ∙ none); home = λ clear. home (sym is ∙ clear) })
            (will_see given v.host.unheard erased v.host.size v.size shadow f.shown screen aid is (whole ∙ ap (λ (s : ScreenSize). cells_in s) same) f.exact f.knows f.closed f.meets keeps)
            (takes_notes given v.host.size erased f.shown.cells screen.cells aid keeps f.messages);
        shown = typing.shown_to parts screen;
      }

-- the screen on which he types meets the belief
pub was_shown : (app : Application) (link : Link) (k : ConnectionInvariant app (view_of link)) → link.term.display.size ≡ link.host.size → (shadow : Shadow) → Operates shadow (local_state_of (view_of link)) → WasShown link.host.size shadow
was_shown app link k same shadow f =
    record { shown = f.shown; whole = sym f.held.same_length ∙ k.whole ∙ ap (λ (s : ScreenSize). cells_in s) same; messages = f.messages; meets = f.meets }

-- ---- the moments at which he types

-- the terminal has the turn, and takes keys
pub record TypingNow (given : LowerLaws) (app : Application) (link : Link) (k : ConnectionInvariant app (view_of link)) : Type 0 where
  pub lu : List ℕ
  pub from : SessionPhase
  pub shadow : Shadow
  pub at : IsAt (view_of link) k.wanted (LinkPhase.InSession lu from)
  pub same : link.term.display.size ≡ link.host.size
  pub operates : Operates shadow (local_state_of (view_of link))
  pub typing : Typing given app link k lu from shadow at same operates

pub types_now : (given : LowerLaws) (app : Application) (link : Link) (k : ConnectionInvariant app (view_of link)) → (link.term.display.keyboard.lock ≡ Wait → ⊥) → TypingNow given app link k
types_now given app link k free = by_moment k.moment k.sizes k.at k.fact k.shown
  where
    by_serving : (lu : List ℕ) (serving : SessionPhase) → Sizes app (view_of link) (LinkPhase.InSession lu serving) → IsAt (view_of link) k.wanted (LinkPhase.InSession lu serving) → Fact k.wanted (local_state_of (view_of link)) (LinkPhase.InSession lu serving)
        → ShownAt app link.term.waits link.host link.term.display.before_restored link.term.display.last_restored link.term.display.screen (LinkPhase.InSession lu serving) → TypingNow given app link k
    by_serving lu (SessionPhase.AwaitingWriteResponse kind number command) s at f shown =
        let shadow : Shadow = once_taken link.host.size command link.host.shadow in
        record {
          lu = lu;
          from = SessionPhase.AwaitingWriteResponse kind number command;
          shadow = shadow;
          at = at;
          same = s.same refl;
          operates = f;
          typing = record {
            to = λ parts. SessionPhase.KeySentAfterResponse kind number command parts;
            stay = λ screen lock erased operates. operates;
            press = λ parts screen lock erased pressed sees takes. (pressed, sees, takes, f.exact, was_shown app link k (s.same refl) shadow f);
            at_to = λ parts screen lock erased. sends_at given app link k lu (SessionPhase.AwaitingWriteResponse kind number command) shadow at (s.same refl) f (SessionPhase.KeySentAfterResponse kind number command parts) parts screen lock erased refl refl refl refl;
            shown = λ screen. shown;
            shown_to = λ parts screen. shown;
          };
        }
    by_serving lu SessionPhase.OperatorTyping s at f shown =
        record {
          lu = lu;
          from = SessionPhase.OperatorTyping;
          shadow = link.host.shadow;
          at = at;
          same = s.same refl;
          operates = f;
          typing = record {
            to = λ parts. SessionPhase.KeySent parts;
            stay = λ screen lock erased operates. operates;
            press = λ parts screen lock erased pressed sees takes. (pressed, sees, takes, was_shown app link k (s.same refl) link.host.shadow f);
            at_to = λ parts screen lock erased. sends_at given app link k lu SessionPhase.OperatorTyping link.host.shadow at (s.same refl) f (SessionPhase.KeySent parts) parts screen lock erased refl refl refl refl;
            shown = λ screen. shown;
            shown_to = λ parts screen. shown;
          };
        }
    by_serving lu (SessionPhase.Noting number command) s at f shown =
        record {
          lu = lu;
          from = SessionPhase.Noting number command;
          shadow = link.host.shadow;
          at = at;
          same = s.same refl;
          operates = f.0;
          typing = record {
            to = λ parts. SessionPhase.KeyCrossingNote number command parts;
            stay = λ screen lock erased operates. (operates, f.1);
            press = λ parts screen lock erased pressed sees takes. (pressed, sees, record { note = f.1; takes = takes });
            at_to = λ parts screen lock erased. sends_at given app link k lu (SessionPhase.Noting number command) link.host.shadow at (s.same refl) f.0 (SessionPhase.KeyCrossingNote number command parts) parts screen lock erased refl refl refl refl;
            shown = λ screen. shown;
            shown_to = λ parts screen. shown;
          };
        }
    by_serving lu SessionPhase.Deciding s at f shown = absurd (free f.lock)
    by_serving lu (SessionPhase.Reading number) s at f shown = absurd (free f.decides.lock)
    by_serving lu (SessionPhase.BufferReturning number parts) s at f shown = absurd (free f.lock)
    by_serving lu (SessionPhase.DecidingNoteSent number command) s at f shown = absurd (free f.0.lock)
    by_serving lu (SessionPhase.DecidingNoteAnswered number command) s at f shown = absurd (free f.lock)
    by_serving lu (SessionPhase.Painting number command wants over) s at f shown = absurd (free f.lock)
    by_serving lu (SessionPhase.KeySent parts) s at f shown = absurd (free f.0.lock)
    by_serving lu (SessionPhase.KeySentAfterResponse kind number command parts) s at f shown = absurd (free f.0.lock)
    by_serving lu (SessionPhase.KeyCrossingNote number command parts) s at f shown = absurd (free f.0.lock)
    by_serving lu (SessionPhase.KeyBeforeNoteResponse number command parts) s at f shown = absurd (free f.0.lock)

    by_moment : (moment : LinkPhase) → Sizes app (view_of link) moment → IsAt (view_of link) k.wanted moment → Fact k.wanted (local_state_of (view_of link)) moment
        → ShownAt app link.term.waits link.host link.term.display.before_restored link.term.display.last_restored link.term.display.screen moment → TypingNow given app link k
    by_moment (LinkPhase.Negotiating talking) s at f shown = absurd (free f.0.lock)
    by_moment (LinkPhase.FirstPaint lu number command wants over) s at f shown = absurd (free f.lock)
    by_moment (LinkPhase.InSession lu serving) s at f shown = by_serving lu serving s at f shown

-- ---- by what a key is answered

module _ (given : LowerLaws) (app : Application) (link : Link) (key : Key) (k : ConnectionInvariant app (view_of link)) (now : TypingNow given app link k) where
  abbrev here : View
  here = view_of link

  abbrev left : List Cell
  left = now.operates.shown.cells

  -- the connection with what was said, by the answer
  abbrev said : Outcome → Pressed → View
  said outcome answer =
      seen_as here (sent here.lost here.up (data_of (is_bound link.term) answer here.size outcome.screen)) outcome.screen outcome.keyboard.lock (here.erased || erases_if answer key)

  bound : is_bound link.term ≡ true
  bound = ap (λ state. is_some (bound_to state)) now.at.term_talk

  pub stay : (screen : Screen) (lock : Lock) (erased : Bool) → length screen.cells ≡ cells_in here.size → screen.cursor < cells_in here.size → (lock ≡ Wait → ⊥) → KeptByKeys erased left screen.cells
      → ConnectionInvariant app (seen_as here (sent here.lost here.up []) screen lock erased)
  stay screen lock erased whole cursor free held = stays given app link k now.lu now.from now.shadow now.at now.same now.operates now.typing screen lock erased whole cursor free held

  by_answer : (outcome : Outcome) (answer : Pressed) → length outcome.screen.cells ≡ cells_in here.size → outcome.screen.cursor < cells_in here.size → ActsBy answer outcome
      → Keeps here.erased key answer left outcome.screen.cells → ConnectionInvariant app (said outcome answer)
  by_answer outcome Done whole cursor a keeps =
      subst (λ says. ConnectionInvariant app (seen_as here (sent here.lost here.up says) outcome.screen outcome.keyboard.lock (here.erased || erases key))) (sym (quiet_done (is_bound link.term) here.size outcome.screen))
      (stay outcome.screen outcome.keyboard.lock (here.erased || erases key) whole cursor a keeps)
  by_answer outcome (Refused why) whole cursor a keeps =
      subst (λ says. ConnectionInvariant app (seen_as here (sent here.lost here.up says) outcome.screen outcome.keyboard.lock (here.erased || false))) (sym (quiet_refused (is_bound link.term) why here.size outcome.screen))
      (stay outcome.screen outcome.keyboard.lock (here.erased || false) whole cursor a (subst (λ b. KeptByKeys b left outcome.screen.cells) (sym (or_false here.erased)) keeps))
  by_answer outcome (Send aid) whole cursor a keeps =
      subst (λ b. ConnectionInvariant app (seen_as here (sent here.lost here.up (data_of b (Send aid) here.size outcome.screen)) outcome.screen outcome.keyboard.lock (here.erased || false))) (sym bound)
      (sends given app link k now.lu now.from now.shadow now.at now.same now.operates now.typing outcome.screen outcome.keyboard.lock (here.erased || false) aid whole cursor a.0 a.1 a.2 a.3
      (subst (λ b. KeepsSent b aid left outcome.screen.cells) (sym (or_false here.erased)) keeps))

  types : ConnectionInvariant app (view_of (key_view key link))
  types =
      let display : Display = link.term.display in
      let outcome : Outcome = outcome_of key display in
      let columns : ℕ = display.size.columns in
      let on : display.screen.cursor < length display.screen.cells = subst (λ n. display.screen.cursor < n) (sym k.whole) k.cursor in
      let stayed = given.keys.on_screen columns key display.keyboard display.screen on in
      by_answer outcome outcome.answer (stayed.0 ∙ k.whole) (subst (λ n. outcome.screen.cursor < n) k.whole stayed.1)
      (acts columns key display.keyboard display.screen now.operates.lock)
      (given.keys.keep display.erased left columns key display.keyboard display.screen on now.operates.held)

-- ---- any key, at any moment

pub keys : LowerLaws → (app : Application) (link : Link) (key : Key) → ConnectionInvariant app (view_of link) → ConnectionInvariant app (view_of (key_view key link))
keys given app link key k = by_lock link.term.display.keyboard.lock refl
  where
    types_at : (lock : Lock) → link.term.display.keyboard.lock ≡ lock → (lock ≡ Wait → ⊥) → ConnectionInvariant app (view_of (key_view key link))
    types_at lock is free = types given app link key k (types_now given app link k (λ waits. free (sym is ∙ waits)))

    by_lock : (lock : Lock) → link.term.display.keyboard.lock ≡ lock → ConnectionInvariant app (view_of (key_view key link))
    by_lock Wait is = subst (ConnectionInvariant app) (sym (key_waits key link is)) k
    by_lock Free is = types_at Free is (λ waits. absurd (cc))
    by_lock Error is = types_at Error is (λ waits. absurd (cc))

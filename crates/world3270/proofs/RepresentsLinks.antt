-- A connection over bytes stands for one over messages, whatever happens on it.
use Rattle.std.proofs.Common.{◌≡◌, ◌||◌, not, cond, ℕ, Bool, true, false, Option, None, Some, List, [], ◌∷◌, ◌++◌, map, refl, ap, sym, subst, ◌∙◌, append_assoc, arith}
use Rattle.std.proofs.lemmas.Grind.{flat_map-append}
use Rattle.std.proofs.lemmas.List.{append-nil}
use Rattle.std.specs.List.{AllByRecursion, list_any}
use Rattle.world3270.specs.refinement.Sendable.{CanBeSent}
use Rattle.datastream.specs.Wanted.{WantedScreen}
use Rattle.shadow.specs.Belief.{Shadow}
use Rattle.shadow.specs.Pairs.{Pairwise}
use Rattle.telnet_wire.specs.Items.{WireItem, CanCome, item_tokens, sent_bytes}
use Rattle.telnet_wire.specs.Laws.{WrongIsFinal}
use Rattle.telnet_wire.specs.Reading.{Rest, nothing, Delivers, GoesWrong}
use Rattle.telnet_wire.specs.Token.{text}
use Rattle.telnet_wire.specs.declared.wire.WireFault.{WireFault}
use Rattle.tn3270e_msg.specs.Talk.{NegotiationMessage, follow, says, sayings}
use Rattle.tn3270e_msg.specs.TermTable.{Term, term_transition}
use Rattle.tn3270e_msg.specs.declared.cause.Cause.{Cause}
use Rattle.tn3270e_msg.specs.declared.term_talk.TermState.TheVariants.{Closed}
use Rattle.term_core.specs.Bytes.{TakesByte, before_byte, link_after}
use Rattle.term_core.specs.Items.{TakesItem}
use Rattle.tn3270e_msg.specs.Header.{record_limit}
use Rattle.term_core.specs.State.{Station, Terminal, Attached}
use Rattle.host_core.specs.KeepAlive.{no_operation}
use Rattle.host_core.specs.Messages.{ToTerminal, ToHost}
use Rattle.world3270.specs.statement.Always.{is_refusal}
use Rattle.world3270.specs.model.Link.{Link, sent, term_left_if, term_stepped}
use Rattle.world3270.specs.model.TrackedTerminals.{History, TrackedTerminal, marked, TrackedTakesByte, TrackedTakes, HistoryFollows, tracked_after_key, ByteStep, end_at, EndTakes}
use Rattle.world3270.specs.refinement.Representation.{with_out}
use Rattle.world3270.specs.refinement.Represents.{RepresentsDown, RepresentsUp, BytesUp, BytesDown, BytesDownBy, ByteLink, IsEnd, Holds, BytesRepresent, HostRepresents, TermRepresents, TermRepresentsBy, LinkRepresents, LinkRepresentsBy, all_items, is_nop, without, without_nops}
use Rattle.world3270.specs.refinement.RepresentsEnds.{IsOpen, TakesKeepSendable, TermTakes, is_painted, HaveNoEffect, NopHasNoEffect, WritesAreMarked, TermPresses}
use Rattle.world3270.specs.refinement.RepresentsLinks.{RepresentsCompose, RepresentsGoOn, TakesSome, PressRepresents, MayComeAll, NoneCloses, took_down, fed, DownRepresents, DownIsNotRefused, any_painted, BytesAreMarked, HostSendsBy, ItemsAreSentBy, NopRepresentsBy, UpRepresentsBy, LossRepresents, HostLeaves, TermLeaves}
use Rattle.world3270.specs.model.Terminal.{TermEnd, TermStep, is_bound, note_came, once_bound, paint_came, read_came, took, key_came}
use Rattle.world3270.specs.statement.EveryTerminal.{executed, paint_executed}
use Rattle.world3270.specs.statement.EveryTerminalBytes.{item_completed}
use Rattle.world3270.proofs.Executing.{AnyTermTakes, ExecutedStaysSendable, MayTake}
use Rattle.world3270.proofs.Represents.{all_spoken, nop_is, pairs_more}

-- ---- history

pub history_follows : HistoryFollows
history_follows old [] new taken =
    (old.history, ap (λ (t : Terminal). record { terminal = t; history = old.history }) taken)
history_follows old (byte ∷ bytes) new taken =
    let mid : TrackedTerminal = record { terminal = taken.0; history = marked old.terminal.station taken.0.station old.history } in
    let more = history_follows mid bytes new taken.2 in
    (more.0, (mid, record { takes = taken.1; history = refl }, more.1))

-- ---- what is said goes up

said_goes_up : RepresentsCompose all_items RepresentsUp → (lost : Bool) (rest : Rest) (bytes out : List ℕ) (messages more : List ToHost) (items : List WireItem)
    → BytesUp rest bytes messages → out ≡ sent_bytes items → AllByRecursion (CanCome record_limit) items → Pairwise RepresentsUp items more
    → BytesUp rest (sent lost bytes out) (sent lost messages more)
said_goes_up compose true rest bytes out messages more items stands is fit said = stands
said_goes_up compose false rest bytes out messages more items stands is fit said =
    subst (λ (b : List ℕ). BytesUp rest (bytes ++ b) (messages ++ more)) (sym is) (compose rest bytes messages more items stands fit said)

pub sent_nothing : {X : Type 0} (lost : Bool) (queue : List X) → queue ≡ sent lost queue []
sent_nothing true queue = refl
sent_nothing false queue = sym (append-nil queue)

sent_twice : {X : Type 0} (lost : Bool) (queue some others : List X) → sent lost (sent lost queue some) others ≡ sent lost queue (some ++ others)
sent_twice true queue some others = refl
sent_twice false queue some others = append_assoc queue some others

-- ---- keys

-- what it said is handed on
silenced : (rest : Rest) (tracked : TrackedTerminal) (end : TermEnd) → Holds rest tracked end → Holds rest (record tracked { terminal = record tracked.terminal { out = [] } }) end
silenced rest tracked end holds = record { talk = holds.talk; attached = holds.attached; is_end = holds.is_end }

pub press_stands : TermPresses → RepresentsCompose all_items RepresentsUp → PressRepresents
press_stands presses compose key bytes link terminal stands here sendable =
    let term = stands.term terminal here in
    let at_key = presses key bytes.tracked term.rest link.term term.holds sendable in
    let new : TrackedTerminal = tracked_after_key key bytes.tracked in
    let out : new.terminal.out ≡ sent_bytes at_key.items = at_key.sent ∙ ap (λ (b : List ℕ). b ++ sent_bytes at_key.items) term.silent in
    record {
      lost = stands.lost;
      host_here = stands.host_here;
      term_here = stands.term_here;
      read = stands.read;
      up = subst (λ (l : Bool). BytesUp stands.read (sent l bytes.up new.terminal.out) (sent link.lost link.up (key_came key link.term).sends)) (sym stands.lost)
          (said_goes_up compose link.lost stands.read bytes.up new.terminal.out link.up (key_came key link.term).sends at_key.items
          stands.up out at_key.fit at_key.said);
      host = λ there. let host = stands.host there in record { host = host.host; rest_is = host.rest_is };
      term = λ which is. record {
        rest = term.rest;
        holds = silenced term.rest new (key_came key link.term).end at_key.holds;
        silent = refl;
        down = term.down;
      };
    }

-- ---- what comes down

-- the connection once messages came down, and what the terminal said to them
pub record Ran (ignored : WireItem → Bool) (link now : Link) (old new : TrackedTerminal) (behind : List ℕ) : Type 0 where
  pub lost : now.lost ≡ link.lost
  pub host_here : now.host_here ≡ link.host_here
  pub host : now.host ≡ link.host
  pub term_here : now.term_here ≡ link.term_here
  pub rest : Rest
  pub holds : Holds rest new now.term
  pub down : BytesDownBy ignored rest behind now.down
  pub says : List WireItem
  pub out : new.terminal.out ≡ old.terminal.out ++ sent_bytes says
  pub sends : List ToHost
  pub up : now.up ≡ sent link.lost link.up sends
  pub said : Pairwise RepresentsUp says sends
  pub fit : AllByRecursion (CanCome record_limit) says
  pub none : list_any is_refusal sends ≡ false
  pub can : CanBeSent now.term.display.size now.term.display.screen

-- the first of the messages came down
pub record CameSome (ignored : WireItem → Bool) (link : Link) (old new : TrackedTerminal) (behind : List ℕ) : Type 0 where
  pub taken : List ToTerminal
  pub others : List ToTerminal
  pub whole : link.down ≡ taken ++ others
  pub ran : Ran ignored link (took_down taken others link) old new behind

all_more : {X : Type 0} (P : X → Type 0) (xs ys : List X) → AllByRecursion P xs → AllByRecursion P ys → AllByRecursion P (xs ++ ys)
all_more P [] ys h k = k
all_more P (x ∷ xs) ys h k = (h.0, all_more P xs ys h.1 k)

none_more : {X : Type 0} (test : X → Bool) (xs ys : List X) → list_any test xs ≡ false → list_any test ys ≡ false → list_any test (xs ++ ys) ≡ false
none_more test [] ys h k = k
none_more test (x ∷ xs) ys h k = by_test (test x) h (λ (e : list_any test xs ≡ false). none_more test xs ys e k)
  where
    by_test : (b : Bool) → (b || list_any test xs) ≡ false → (list_any test xs ≡ false → list_any test (xs ++ ys) ≡ false) → (b || list_any test (xs ++ ys)) ≡ false
    by_test true e others = absurd (cc)
    by_test false e others = others e

-- ---- a terminal refuses nothing

talk_refuses_none : (talk : List NegotiationMessage) → list_any is_refusal (map ToHost.TalksUp talk) ≡ false
talk_refuses_none [] = refl
talk_refuses_none (saying ∷ talk) = talk_refuses_none talk

bound_refuses_none : (bound : Bool) (step : TermStep) (end : TermEnd) → list_any is_refusal step.sends ≡ false → list_any is_refusal (once_bound bound step end).sends ≡ false
bound_refuses_none true step end none = none
bound_refuses_none false step end none = refl

none_refused : (end : TermEnd) (message : ToTerminal) → list_any is_refusal (took end message).sends ≡ false
none_refused end (ToTerminal.TalksDown saying) =
    talk_refuses_none (sayings (follow Closed end.talk.talk (term_transition end.talk.model end.talk.wanted end.talk.talk.state (says saying))).1)
none_refused end (ToTerminal.Paint number wanted believed) = bound_refuses_none (is_bound end) (paint_came number wanted end) end refl
none_refused end (ToTerminal.ReadBuffer number) = bound_refuses_none (is_bound end) (read_came end) end refl
none_refused end (ToTerminal.Note number command) = bound_refuses_none (is_bound end) (note_came number command end) end refl

-- the connection after a message that closes nothing
abbrev pub stayed : TermStep → List ToTerminal → Link → Link
stayed step rest link = record link { down = rest; term = step.end; up = sent link.lost link.up step.sends }

stepped_stays : (step : TermStep) (rest others : List ToTerminal) (link : Link) → step.closes ≡ None → others ≡ rest → term_stepped step rest link ≡ stayed step others link
stepped_stays step rest others link goes_on same =
    ap (λ (c : Option Cause). term_left_if c (stayed step rest link)) goes_on ∙ ap (λ (m : List ToTerminal). stayed step m link) (sym same)

ran_nothing : {ignored : WireItem → Bool} (link : Link) (old new : TrackedTerminal) (behind : List ℕ) (rest : Rest) → Holds rest old link.term → BytesDownBy ignored rest behind link.down
    → CanBeSent link.term.display.size link.term.display.screen → new ≡ old → Ran ignored link link old new behind
ran_nothing link old new behind rest holds down can same = record {
  lost = refl;
  host_here = refl;
  host = refl;
  term_here = refl;
  rest = rest;
  holds = subst (λ (s : TrackedTerminal). Holds rest s link.term) (sym same) holds;
  down = down;
  says = [];
  out = ap (λ (s : TrackedTerminal). s.terminal.out) same ∙ sym (append-nil old.terminal.out);
  sends = [];
  up = sent_nothing link.lost link.up;
  said = tt;
  fit = tt;
  none = refl;
  can = can;
}

-- a byte before that completes nothing
ran_since : {ignored : WireItem → Bool} (link now : Link) (old mid new : TrackedTerminal) (behind : List ℕ) → mid.terminal.out ≡ old.terminal.out → Ran ignored link now mid new behind → Ran ignored link now old new behind
ran_since link now old mid new behind out ran = record {
  lost = ran.lost;
  host_here = ran.host_here;
  host = ran.host;
  term_here = ran.term_here;
  rest = ran.rest;
  holds = ran.holds;
  down = ran.down;
  says = ran.says;
  out = ran.out ∙ ap (λ (b : List ℕ). b ++ sent_bytes ran.says) out;
  sends = ran.sends;
  up = ran.up;
  said = ran.said;
  fit = ran.fit;
  none = ran.none;
  can = ran.can;
}

-- an item before, to which it says some
one_more : {ignored : WireItem → Bool} (link now : Link) (step : TermStep) (rest : List ToTerminal) (old mid new : TrackedTerminal) (behind : List ℕ) (some : List WireItem)
    → Pairwise RepresentsUp some step.sends → AllByRecursion (CanCome record_limit) some → list_any is_refusal step.sends ≡ false
    → mid.terminal.out ≡ old.terminal.out ++ sent_bytes some → Ran ignored (stayed step rest link) now mid new behind → Ran ignored link now old new behind
one_more link now step rest old mid new behind some said fit none out ran = record {
  lost = ran.lost;
  host_here = ran.host_here;
  host = ran.host;
  term_here = ran.term_here;
  rest = ran.rest;
  holds = ran.holds;
  down = ran.down;
  says = some ++ ran.says;
  out = ran.out ∙ ap (λ (b : List ℕ). b ++ sent_bytes ran.says) out ∙ append_assoc old.terminal.out (sent_bytes some) (sent_bytes ran.says)
      ∙ ap (λ (b : List ℕ). old.terminal.out ++ b) (sym (flat_map-append (λ (item : WireItem). text (item_tokens item)) some ran.says));
  sends = step.sends ++ ran.sends;
  up = ran.up ∙ sent_twice link.lost link.up step.sends ran.sends;
  said = pairs_more RepresentsUp some ran.says step.sends ran.sends said ran.said;
  fit = all_more (CanCome record_limit) some ran.says fit ran.fit;
  none = none_more is_refusal step.sends ran.sends none ran.none;
  can = ran.can;
}

-- and the messages behind it
came_more : {ignored : WireItem → Bool} (message : ToTerminal) (others : List ToTerminal) (link : Link) (old mid new : TrackedTerminal) (behind : List ℕ) (some : List WireItem)
    → link.down ≡ message ∷ others → (took link.term message).closes ≡ None → Pairwise RepresentsUp some (took link.term message).sends
    → AllByRecursion (CanCome record_limit) some → mid.terminal.out ≡ old.terminal.out ++ sent_bytes some
    → CameSome ignored (stayed (took link.term message) others link) mid new behind → CameSome ignored link old new behind
came_more {ignored} message others link old mid new behind some whole goes_on said fit out came = record {
  taken = message ∷ came.taken;
  others = came.others;
  whole = whole ∙ ap (λ (m : List ToTerminal). message ∷ m) came.whole;
  ran = subst (λ (l : Link). Ran ignored link (took_down came.taken came.others l) old new behind)
      (sym (stepped_stays (took link.term message) (came.taken ++ came.others) others link goes_on came.whole))
      (one_more link (took_down came.taken came.others (stayed (took link.term message) others link)) (took link.term message) others old mid new behind some said fit (none_refused link.term message) out came.ran);
}

link_parts : (rest to : Rest) (talk after : Term) → Attached rest talk ≡ Attached to after → (rest ≡ to) × (talk ≡ after)
link_parts rest to talk after e = (cc, cc)

-- no bytes of the queue break the stream
pub not_wrong : {X : Type 0} {spoken : List WireItem → List WireItem} {Means : WireItem → X → Type 0} → WrongIsFinal → (rest : Rest) (byte : ℕ) (bytes : List ℕ) (fault : WireFault) (messages : List X)
    → BytesRepresent spoken Means rest (byte ∷ bytes) messages → GoesWrong record_limit rest (byte ∷ []) fault → ⊥
not_wrong final rest byte bytes fault messages stands wrong =
    final record_limit rest (byte ∷ []) bytes fault stands.delivers.tokens nothing wrong stands.delivers.reads stands.delivers.is_rest

pub none_for_none : {X : Type 0} (Means : WireItem → X → Type 0) (taken : List X) → Pairwise Means [] taken → taken ≡ []
none_for_none Means [] stand = refl
none_for_none Means (message ∷ messages) stand = absurd stand

no_items : {X : Type 0} (Means : WireItem → X → Type 0) (items : List WireItem) → Pairwise Means items [] → items ≡ []
no_items Means [] stand = refl
no_items Means (item ∷ items) stand = absurd stand

-- the talk goes on
open_now : (end : TermEnd) (messages : List ToTerminal) → MayComeAll end messages → IsOpen end.talk.talk.state
open_now end [] may = may
open_now end (message ∷ messages) may = may.0

pub nops_have_none : NopHasNoEffect → HaveNoEffect is_nop
nops_have_none nop item old end step is_it is_open is taken = nop old end step is_open is (subst (λ (i : WireItem). EndTakes old i step) (nop_is item is_it) taken)

-- what is to be shown of some bytes, wherever they are taken
abbrev Comes : (WireItem → Bool) → List ℕ → List ℕ → TrackedTerminal → Type 0
Comes ignored front behind new = (old : TrackedTerminal) (rest : Rest) (link : Link)
    → Holds rest old link.term → BytesDownBy ignored rest (front ++ behind) link.down → MayComeAll link.term link.down → NoneCloses link.term link.down
    → CanBeSent link.term.display.size link.term.display.screen → TrackedTakes old front new → CameSome ignored link old new behind

module _ (takes : TermTakes) (keeps : TakesKeepSendable) {ignored : WireItem → Bool} (no_effect : HaveNoEffect ignored) (goes_on : RepresentsGoOn (without ignored) RepresentsDown) (final : WrongIsFinal) where
  -- an item that it ignores: the messages under way stay
  ignored_comes : (item : WireItem) (others : List ToTerminal) (link : Link) (talk after : Term) (old mid new : TrackedTerminal) (to : Rest) (front behind : List ℕ) (says : List WireItem) (closes : Option Cause)
      → Comes ignored front behind new → ignored item ≡ true → link.down ≡ others → BytesDownBy ignored to (front ++ behind) others
      → MayComeAll link.term link.down → NoneCloses link.term link.down → CanBeSent link.term.display.size link.term.display.screen → IsEnd (end_at talk old) link.term
      → EndTakes (end_at talk old) item (record { end = end_at after mid; says = says; closes = closes })
      → mid.terminal.link ≡ link_after to after closes → mid.terminal.out ≡ old.terminal.out ++ sent_bytes says → TrackedTakes mid front new → CameSome ignored link old new behind
  ignored_comes item others link talk after old mid new to front behind says closes comes is_it whole down may none can is taken at out more =
      let step : ByteStep = record { end = end_at after mid; says = says; closes = closes } in
      let unmoved = no_effect item (end_at talk old) link.term step is_it (open_now link.term link.down may) is taken in
      let same_out : mid.terminal.out ≡ old.terminal.out =
      out ∙ ap (λ (s : List WireItem). old.terminal.out ++ sent_bytes s) (no_items RepresentsUp says unmoved.same.said) ∙ append-nil old.terminal.out in
      let came = comes mid to link (record { talk = after; attached = at ∙ ap (link_after to after) unmoved.same.closed; is_end = unmoved.same.is_end })
      (subst (λ (m : List ToTerminal). BytesDownBy ignored to (front ++ behind) m) (sym whole) down) may none can more in
      record {
        taken = came.taken;
        others = came.others;
        whole = came.whole;
        ran = ran_since link (took_down came.taken came.others link) old mid new behind same_out came.ran;
      }

  -- an item that stands for the first message, or that it ignores
  item_comes : (ignores : Bool) (item : WireItem) (taken others : List ToTerminal) (link : Link) (talk after : Term) (old mid new : TrackedTerminal) (to : Rest) (front behind : List ℕ) (says : List WireItem) (closes : Option Cause)
      → Comes ignored front behind new → ignored item ≡ ignores → link.down ≡ taken ++ others → Pairwise RepresentsDown (cond (not ignores) (item ∷ []) []) taken → BytesDownBy ignored to (front ++ behind) others
      → MayComeAll link.term link.down → NoneCloses link.term link.down → CanBeSent link.term.display.size link.term.display.screen → IsEnd (end_at talk old) link.term
      → EndTakes (end_at talk old) item (record { end = end_at after mid; says = says; closes = closes })
      → mid.terminal.link ≡ link_after to after closes → mid.terminal.out ≡ old.terminal.out ++ sent_bytes says → TrackedTakes mid front new → CameSome ignored link old new behind
  item_comes true item [] others link talk after old mid new to front behind says closes comes is_it whole each down may none can is taken at out more =
      ignored_comes item others link talk after old mid new to front behind says closes comes is_it whole down may none can is taken at out more
  item_comes true item (message ∷ rest) others link talk after old mid new to front behind says closes comes is_it whole each down may none can is taken at out more = absurd each
  item_comes false item [] others link talk after old mid new to front behind says closes comes is_it whole each down may none can is taken at out more = absurd each
  item_comes false item (message ∷ []) others link talk after old mid new to front behind says closes comes is_it whole each down may none can is taken at out more =
      let all = subst (λ (m : List ToTerminal). MayComeAll link.term m) whole may in
      let opened = subst (λ (m : List ToTerminal). NoneCloses link.term m) whole none in
      let step : ByteStep = record { end = end_at after mid; says = says; closes = closes } in
      let same = takes message item (end_at talk old) link.term step (record { stands = each.0; may = all.1; sendable = can; is_end = is; takes = taken }) in
      let next : Link = stayed (took link.term message) others link in
      came_more message others link old mid new behind says whole opened.0 same.said same.fit out
      (comes mid to next (record { talk = after; attached = at ∙ ap (link_after to after) (same.closed ∙ opened.0); is_end = same.is_end })
      down all.2 opened.1 (keeps message item link.term each.0 all.1 can) more)
  item_comes false item (message ∷ other ∷ more) others link talk after old mid new to front behind says closes comes is_it whole each down may none can is taken at out rest = absurd each.1

  -- what the terminal takes with a byte, as the end takes it
  end_takes : (item : WireItem) (talk same after : Term) (old mid : TrackedTerminal) (says : List WireItem) (closes : Option Cause) (station : Station) → same ≡ talk → station ≡ mid.terminal.station
      → TakesItem same (before_byte old.terminal.station) item says closes after station → mid.history ≡ marked old.terminal.station mid.terminal.station old.history
      → EndTakes (end_at talk old) item (record { end = end_at after mid; says = says; closes = closes })
  end_takes item talk same after old mid says closes station is is_mid taken history = record {
    takes = subst (λ (s : Station). TakesItem talk (before_byte old.terminal.station) item says closes after s) is_mid
        (subst (λ (t : Term). TakesItem t (before_byte old.terminal.station) item says closes after station) is taken);
    history = history;
  }

  byte_comes : (byte : ℕ) (front behind : List ℕ) (old mid new : TrackedTerminal) (rest : Rest) (link : Link)
      → Comes ignored front behind new → Holds rest old link.term → BytesDownBy ignored rest (byte ∷ (front ++ behind)) link.down → MayComeAll link.term link.down → NoneCloses link.term link.down
      → CanBeSent link.term.display.size link.term.display.screen → mid.history ≡ marked old.terminal.station mid.terminal.station old.history → TakesByte old.terminal byte mid.terminal → TrackedTakes mid front new
      → CameSome ignored link old new behind
  byte_comes byte front behind old mid new rest link comes holds down may none can history (TakesByte.goes_on rest' to talk' at' delivers is_mid) more =
      let is = holds.is_end in
      let parts = link_parts rest rest' holds.talk talk' (sym holds.attached ∙ at') in
      let some = goes_on rest to (byte ∷ []) (front ++ behind) [] link.down down (subst (λ (r : Rest). Delivers record_limit r (byte ∷ []) [] to) (sym parts.0) delivers) in
      let same : link.down ≡ some.others = some.whole ∙ ap (λ (m : List ToTerminal). m ++ some.others) (none_for_none RepresentsDown some.taken some.each) in
      let stays : mid.history ≡ old.history = history ∙ ap (λ (t : Terminal). marked old.terminal.station t.station old.history) is_mid in
      let came = comes mid to link
      (record {
        talk = holds.talk;
        attached = ap (λ (t : Terminal). t.link) is_mid ∙ ap (λ (t : Term). Attached to t) (sym parts.1);
        is_end = record {
          talk_is = is.talk_is;
          screen_is = ap (λ (t : Terminal). t.station.screen) is_mid ∙ is.screen_is;
          keyboard_is = ap (λ (t : Terminal). t.station.keyboard) is_mid ∙ is.keyboard_is;
          last_restored_is = ap (λ (h : History). h.last_restored) stays ∙ is.last_restored_is;
          before_restored_is = ap (λ (h : History). h.before_restored) stays ∙ is.before_restored_is;
          erased_is = ap (λ (h : History). h.erased) stays ∙ is.erased_is;
        };
      })
      (subst (λ (m : List ToTerminal). BytesDownBy ignored to (front ++ behind) m) (sym same) some.stands) may none can more in
      record {
        taken = came.taken;
        others = came.others;
        whole = came.whole;
        ran = ran_since link (took_down came.taken came.others link) old mid new behind (ap (λ (t : Terminal). t.out) is_mid) came.ran;
      }
  byte_comes byte front behind old mid new rest link comes holds down may none can history (TakesByte.completes rest' to talk' after item says closes station at' delivers item_taken is_mid) more =
      let parts = link_parts rest rest' holds.talk talk' (sym holds.attached ∙ at') in
      let some = goes_on rest to (byte ∷ []) (front ++ behind) (item ∷ []) link.down down (subst (λ (r : Rest). Delivers record_limit r (byte ∷ []) (item ∷ []) to) (sym parts.0) delivers) in
      item_comes (ignored item) item some.taken some.others link holds.talk after old mid new to front behind says closes comes refl some.whole some.each some.stands may none can holds.is_end
      (end_takes item holds.talk talk' after old mid says closes station (sym parts.1) (ap (λ (t : Terminal). t.station) (sym is_mid)) item_taken history)
      (ap (λ (t : Terminal). t.link) is_mid) (ap (λ (t : Terminal). t.out) is_mid) more
  byte_comes byte front behind old mid new rest link comes holds down may none can history (TakesByte.breaks rest' talk' fault at' wrong is_mid) more =
      let parts = link_parts rest rest' holds.talk talk' (sym holds.attached ∙ at') in
      absurd (not_wrong final rest byte (front ++ behind) fault link.down down (subst (λ (r : Rest). GoesWrong record_limit r (byte ∷ []) fault) (sym parts.0) wrong))

  bytes_come : (front behind : List ℕ) (new : TrackedTerminal) → Comes ignored front behind new
  bytes_come [] behind new old rest link holds down may none can taken =
      record { taken = []; others = link.down; whole = refl; ran = ran_nothing link old new behind rest holds down can taken }
  bytes_come (byte ∷ front) behind new old rest link holds down may none can taken =
      byte_comes byte front behind old taken.0 new rest link (bytes_come front behind new) holds down may none can taken.1.history taken.1.takes taken.2

  -- ---- the mark of one byte

  or_false : (b : Bool) → b ≡ (b || false)
  or_false true = refl
  or_false false = refl

  item_marks : WritesAreMarked → (ignores : Bool) (item : WireItem) (taken others : List ToTerminal) (link : Link) (talk after : Term) (old mid : TrackedTerminal) (to : Rest) (behind : List ℕ) (says : List WireItem) (closes : Option Cause)
      (is_it : ignored item ≡ ignores) (whole : link.down ≡ taken ++ others) (each : Pairwise RepresentsDown (cond (not ignores) (item ∷ []) []) taken) (down : BytesDownBy ignored to behind others)
      (may : MayComeAll link.term link.down) (none : NoneCloses link.term link.down) (can : CanBeSent link.term.display.size link.term.display.screen) (is : IsEnd (end_at talk old) link.term)
      (takes_it : EndTakes (end_at talk old) item (record { end = end_at after mid; says = says; closes = closes }))
      (at : mid.terminal.link ≡ link_after to after closes) (out : mid.terminal.out ≡ old.terminal.out ++ sent_bytes says)
      → mid.terminal.station.took_write
      ≡ any_painted link.term (item_comes ignores item taken others link talk after old mid mid to [] behind says closes (bytes_come [] behind mid) is_it whole each down may none can is takes_it at out refl).taken
  unfolding item_comes ignored_comes came_more bytes_come
  item_marks marks true item [] others link talk after old mid to behind says closes is_it whole each down may none can is takes_it at out =
      let step : ByteStep = record { end = end_at after mid; says = says; closes = closes } in
      (no_effect item (end_at talk old) link.term step is_it (open_now link.term link.down may) is takes_it).unmarked
  item_marks marks true item (message ∷ rest) others link talk after old mid to behind says closes is_it whole each down may none can is takes_it at out = absurd each
  item_marks marks false item [] others link talk after old mid to behind says closes is_it whole each down may none can is takes_it at out = absurd each
  item_marks marks false item (message ∷ []) others link talk after old mid to behind says closes is_it whole each down may none can is takes_it at out =
      let all = subst (λ (m : List ToTerminal). MayComeAll link.term m) whole may in
      marks message item (end_at talk old) link.term (record { end = end_at after mid; says = says; closes = closes })
      (record { stands = each.0; may = all.1; sendable = can; is_end = is; takes = takes_it }) ∙ or_false (is_painted link.term message)
  item_marks marks false item (message ∷ other ∷ more) others link talk after old mid to behind says closes is_it whole each down may none can is takes_it at out = absurd each.1

  byte_marks : WritesAreMarked → (byte : ℕ) (behind : List ℕ) (old new : TrackedTerminal) (rest : Rest) (link : Link)
      (holds : Holds rest old link.term) (down : BytesDownBy ignored rest (byte ∷ behind) link.down) (may : MayComeAll link.term link.down) (none : NoneCloses link.term link.down)
      (can : CanBeSent link.term.display.size link.term.display.screen) (history : new.history ≡ marked old.terminal.station new.terminal.station old.history) (taken : TakesByte old.terminal byte new.terminal)
      → new.terminal.station.took_write ≡ any_painted link.term (byte_comes byte [] behind old new new rest link (bytes_come [] behind new) holds down may none can history taken refl).taken
  unfolding byte_comes bytes_come
  byte_marks marks byte behind old new rest link holds down may none can history (TakesByte.goes_on rest' to talk' at' delivers is_mid) =
      ap (λ (t : Terminal). t.station.took_write) is_mid
  byte_marks marks byte behind old new rest link holds down may none can history (TakesByte.completes rest' to talk' after item says closes station at' delivers item_taken is_mid) =
      let parts = link_parts rest rest' holds.talk talk' (sym holds.attached ∙ at') in
      let some = goes_on rest to (byte ∷ []) behind (item ∷ []) link.down down (subst (λ (r : Rest). Delivers record_limit r (byte ∷ []) (item ∷ []) to) (sym parts.0) delivers) in
      item_marks marks (ignored item) item some.taken some.others link holds.talk after old new to behind says closes refl some.whole some.each some.stands may none can holds.is_end
      (end_takes item holds.talk talk' after old new says closes station (sym parts.1) (ap (λ (t : Terminal). t.station) (sym is_mid)) item_taken history)
      (ap (λ (t : Terminal). t.link) is_mid) (ap (λ (t : Terminal). t.out) is_mid)
  byte_marks marks byte behind old new rest link holds down may none can history (TakesByte.breaks rest' talk' fault at' wrong is_mid) =
      let parts = link_parts rest rest' holds.talk talk' (sym holds.attached ∙ at') in
      absurd (not_wrong final rest byte behind fault link.down down (subst (λ (r : Rest). GoesWrong record_limit r (byte ∷ []) fault) (sym parts.0) wrong))

-- what both ends have once the terminal took what came, and said this
pub ran_stands : {heard : List WireItem → List WireItem} {Up : WireItem → ToHost → Type 0} {ignored : WireItem → Bool} (bytes : ByteLink) (link now : Link) (behind said : List ℕ) (new : TrackedTerminal) (stands : LinkRepresentsBy heard Up ignored bytes link)
    (ran : Ran ignored link now bytes.tracked new behind) → BytesRepresent heard Up stands.read (sent link.lost bytes.up said) (sent link.lost link.up ran.sends)
    → LinkRepresentsBy heard Up ignored (fed (with_out said new) behind bytes) now
ran_stands {heard} {Up} {ignored} bytes link now behind said new stands ran queue = record {
  lost = stands.lost ∙ sym ran.lost;
  host_here = stands.host_here ∙ sym ran.host_here;
  term_here = stands.term_here ∙ sym ran.term_here;
  read = stands.read;
  up = subst (λ (m : List ToHost). BytesRepresent heard Up stands.read (sent bytes.lost bytes.up said) m) (sym ran.up)
      (subst (λ (l : Bool). BytesRepresent heard Up stands.read (sent l bytes.up said) (sent link.lost link.up ran.sends)) (sym stands.lost) queue);
  host = λ there. let host = stands.host (sym ran.host_here ∙ there) in record { host = host.host ∙ sym ran.host; rest_is = host.rest_is };
  term = λ which is. record { rest = ran.rest; holds = silenced ran.rest (with_out said new) now.term (record { talk = ran.holds.talk; attached = ran.holds.attached; is_end = ran.holds.is_end }); silent = refl; down = ran.down };
}

-- as our terminal says it
ours_stand : RepresentsCompose all_items RepresentsUp → (bytes : ByteLink) (link now : Link) (behind : List ℕ) (new : TrackedTerminal) → LinkRepresents bytes link → bytes.tracked.terminal.out ≡ []
    → Ran is_nop link now bytes.tracked new behind → LinkRepresents (fed new behind bytes) now
ours_stand compose bytes link now behind new stands silent ran =
    let out : new.terminal.out ≡ sent_bytes ran.says = ran.out ∙ ap (λ (b : List ℕ). b ++ sent_bytes ran.says) silent in
    ran_stands bytes link now behind new.terminal.out new stands ran (said_goes_up compose link.lost stands.read bytes.up new.terminal.out link.up ran.sends ran.says stands.up out ran.fit ran.said)

pub down_stands : TermTakes → TakesKeepSendable → NopHasNoEffect → RepresentsCompose all_items RepresentsUp → RepresentsGoOn without_nops RepresentsDown → WrongIsFinal → DownRepresents
down_stands takes keeps nop compose goes_on final bytes link front behind new ready queue taken =
    let term = ready.stands.term ready.terminal ready.here in
    let down : BytesDown term.rest (front ++ behind) link.down = subst (λ (b : List ℕ). BytesDown term.rest b link.down) queue term.down in
    let came = bytes_come takes keeps (nops_have_none nop) goes_on final front behind new bytes.tracked term.rest link term.holds down ready.may ready.none ready.sendable taken in
    record {
      taken = came.taken;
      others = came.others;
      whole = came.whole;
      stands = ours_stand compose bytes link (took_down came.taken came.others link) behind new ready.stands term.silent came.ran;
    }

pub down_is_not_refused : TermTakes → TakesKeepSendable → NopHasNoEffect → RepresentsGoOn without_nops RepresentsDown → WrongIsFinal → DownIsNotRefused
down_is_not_refused takes keeps nop goes_on final bytes link front behind new ready queue taken =
    let term = ready.stands.term ready.terminal ready.here in
    let down : BytesDown term.rest (front ++ behind) link.down = subst (λ (b : List ℕ). BytesDown term.rest b link.down) queue term.down in
    let ran = (bytes_come takes keeps (nops_have_none nop) goes_on final front behind new bytes.tracked term.rest link term.holds down ready.may ready.none ready.sendable taken).ran in
    record { says = ran.says; out = ran.out; fit = ran.fit; sends = ran.sends; said = ran.said; none = ran.none }

-- one byte came, and marks a write where a paint came with it that finds the terminal bound
pub record ByteCame (ignored : WireItem → Bool) (link : Link) (old new : TrackedTerminal) (behind : List ℕ) : Type 0 where
  pub came : CameSome ignored link old new behind
  pub marked : new.terminal.station.took_write ≡ any_painted link.term came.taken

pub byte_came : {ignored : WireItem → Bool} → TermTakes → TakesKeepSendable → HaveNoEffect ignored → RepresentsGoOn (without ignored) RepresentsDown → WrongIsFinal → WritesAreMarked → (byte : ℕ) (behind : List ℕ) (old new : TrackedTerminal) (rest : Rest) (link : Link)
    → Holds rest old link.term → BytesDownBy ignored rest (byte ∷ behind) link.down → MayComeAll link.term link.down → NoneCloses link.term link.down → CanBeSent link.term.display.size link.term.display.screen
    → TrackedTakesByte old byte new → ByteCame ignored link old new behind
byte_came takes keeps no_effect goes_on final marks byte behind old new rest link holds down may none can taken = record {
  came = byte_comes takes keeps no_effect goes_on final byte [] behind old new new rest link (bytes_come takes keeps no_effect goes_on final [] behind new) holds down may none can taken.history taken.takes refl;
  marked = byte_marks takes keeps no_effect goes_on final marks byte behind old new rest link holds down may none can taken.history taken.takes;
}

-- ---- a terminal that executes what comes

bound_refuses_nothing : (bound : Bool) (number : ℕ) (wanted : WantedScreen) (over : Shadow) (end : TermEnd) → list_any is_refusal (once_bound bound (paint_executed number wanted over end) end).sends ≡ false
bound_refuses_nothing true number wanted over end = refl
bound_refuses_nothing false number wanted over end = refl

none_refused_there : (end : TermEnd) (message : ToTerminal) → list_any is_refusal (executed end message).sends ≡ false
none_refused_there end (ToTerminal.Paint number wanted over) = bound_refuses_nothing (is_bound end) number wanted over end
none_refused_there end (ToTerminal.TalksDown saying) = none_refused end (ToTerminal.TalksDown saying)
none_refused_there end (ToTerminal.ReadBuffer number) = none_refused end (ToTerminal.ReadBuffer number)
none_refused_there end (ToTerminal.Note number command) = none_refused end (ToTerminal.Note number command)

-- an item that it ignores; or the first message, which it executes
data ItemCame (ignored : WireItem → Bool) (link : Link) (item : WireItem) (old new : TrackedTerminal) (behind : List ℕ) : Type 0 where
  is_ignored : new.terminal.station.took_write ≡ false → Ran ignored link link old new behind → ItemCame ignored link item old new behind
  is_message : (message : ToTerminal) (others : List ToTerminal) → link.down ≡ message ∷ others → RepresentsDown item message → new.terminal.station.took_write ≡ is_painted link.term message
      → Ran ignored link (stayed (executed link.term message) others link) old new behind → ItemCame ignored link item old new behind

-- a byte completes no message; or the first one, which the terminal executes
pub data OneCame (ignored : WireItem → Bool) (link : Link) (byte : ℕ) (old new : TrackedTerminal) (behind : List ℕ) (taken : TakesByte old.terminal byte new.terminal) : Type 0 where
  no_message : new.terminal.station.took_write ≡ false → Ran ignored link link old new behind → OneCame ignored link byte old new behind taken
  one_message : (message : ToTerminal) (others : List ToTerminal) (item : WireItem) → link.down ≡ message ∷ others → item_completed taken ≡ Some item → RepresentsDown item message
      → new.terminal.station.took_write ≡ is_painted link.term message → Ran ignored link (stayed (executed link.term message) others link) old new behind → OneCame ignored link byte old new behind taken

-- what comes next may be taken, and closes nothing
pub record MayTakeNext (link : Link) : Type 0 where
  pub is_open : IsOpen link.term.talk.talk.state
  pub may : (message : ToTerminal) (others : List ToTerminal) → link.down ≡ message ∷ others → MayTake link.term message
  pub none : (message : ToTerminal) (others : List ToTerminal) → link.down ≡ message ∷ others → (executed link.term message).closes ≡ None

module _ (takes : AnyTermTakes) (keeps : ExecutedStaysSendable) {ignored : WireItem → Bool} (no_effect : HaveNoEffect ignored) (goes_on : RepresentsGoOn (without ignored) RepresentsDown) (final : WrongIsFinal) where
  item_came : (ignores : Bool) (item : WireItem) (taken others : List ToTerminal) (link : Link) (talk after : Term) (old new : TrackedTerminal) (to : Rest) (behind : List ℕ) (says : List WireItem) (closes : Option Cause)
      → ignored item ≡ ignores → link.down ≡ taken ++ others → Pairwise RepresentsDown (cond (not ignores) (item ∷ []) []) taken → BytesDownBy ignored to behind others
      → MayTakeNext link → CanBeSent link.term.display.size link.term.display.screen → IsEnd (end_at talk old) link.term
      → EndTakes (end_at talk old) item (record { end = end_at after new; says = says; closes = closes })
      → new.terminal.link ≡ link_after to after closes → new.terminal.out ≡ old.terminal.out ++ sent_bytes says → ItemCame ignored link item old new behind
  item_came true item [] others link talk after old new to behind says closes is_it whole each down next can is taken at out =
      let step : ByteStep = record { end = end_at after new; says = says; closes = closes } in
      let unmoved = no_effect item (end_at talk old) link.term step is_it next.is_open is taken in
      let same_out : new.terminal.out ≡ old.terminal.out =
      out ∙ ap (λ (s : List WireItem). old.terminal.out ++ sent_bytes s) (no_items RepresentsUp says unmoved.same.said) ∙ append-nil old.terminal.out in
      ItemCame.is_ignored unmoved.unmarked
      (ran_since link link old new new behind same_out
      (ran_nothing link new new behind to (record { talk = after; attached = at ∙ ap (link_after to after) unmoved.same.closed; is_end = unmoved.same.is_end })
      (subst (λ (m : List ToTerminal). BytesDownBy ignored to behind m) (sym whole) down) can refl))
  item_came true item (message ∷ rest) others link talk after old new to behind says closes is_it whole each down next can is taken at out = absurd each
  item_came false item [] others link talk after old new to behind says closes is_it whole each down next can is taken at out = absurd each
  item_came false item (message ∷ []) others link talk after old new to behind says closes is_it whole each down next can is taken at out =
      let step : ByteStep = record { end = end_at after new; says = says; closes = closes } in
      let may = next.may message others whole in
      let did = takes message item (end_at talk old) link.term step (record { stands = each.0; may = may; sendable = can; is_end = is; takes = taken }) in
      let now : Link = stayed (executed link.term message) others link in
      ItemCame.is_message message others whole each.0 did.marked
      (one_more link now (executed link.term message) others old new new behind says did.same.said did.same.fit (none_refused_there link.term message) out
      (ran_nothing now new new behind to
      (record { talk = after; attached = at ∙ ap (link_after to after) (did.same.closed ∙ next.none message others whole); is_end = did.same.is_end })
      down (keeps message item link.term each.0 may can) refl))
  item_came false item (message ∷ other ∷ more) others link talk after old new to behind says closes is_it whole each down next can is taken at out = absurd each.1

  any_byte : (byte : ℕ) (behind : List ℕ) (old new : TrackedTerminal) (rest : Rest) (link : Link) → Holds rest old link.term → BytesDownBy ignored rest (byte ∷ behind) link.down → MayTakeNext link
      → CanBeSent link.term.display.size link.term.display.screen → new.history ≡ marked old.terminal.station new.terminal.station old.history → (taken : TakesByte old.terminal byte new.terminal)
      → OneCame ignored link byte old new behind taken
  any_byte byte behind old new rest link holds down next can history (TakesByte.goes_on rest' to talk' at' delivers is_new) =
      let is = holds.is_end in
      let parts = link_parts rest rest' holds.talk talk' (sym holds.attached ∙ at') in
      let some = goes_on rest to (byte ∷ []) behind [] link.down down (subst (λ (r : Rest). Delivers record_limit r (byte ∷ []) [] to) (sym parts.0) delivers) in
      let same : link.down ≡ some.others = some.whole ∙ ap (λ (m : List ToTerminal). m ++ some.others) (none_for_none RepresentsDown some.taken some.each) in
      let stays : new.history ≡ old.history = history ∙ ap (λ (t : Terminal). marked old.terminal.station t.station old.history) is_new in
      OneCame.no_message (ap (λ (t : Terminal). t.station.took_write) is_new)
      (ran_since link link old new new behind (ap (λ (t : Terminal). t.out) is_new)
      (ran_nothing link new new behind to
      (record {
        talk = holds.talk;
        attached = ap (λ (t : Terminal). t.link) is_new ∙ ap (λ (t : Term). Attached to t) (sym parts.1);
        is_end = record {
          talk_is = is.talk_is;
          screen_is = ap (λ (t : Terminal). t.station.screen) is_new ∙ is.screen_is;
          keyboard_is = ap (λ (t : Terminal). t.station.keyboard) is_new ∙ is.keyboard_is;
          last_restored_is = ap (λ (h : History). h.last_restored) stays ∙ is.last_restored_is;
          before_restored_is = ap (λ (h : History). h.before_restored) stays ∙ is.before_restored_is;
          erased_is = ap (λ (h : History). h.erased) stays ∙ is.erased_is;
        };
      })
      (subst (λ (m : List ToTerminal). BytesDownBy ignored to behind m) (sym same) some.stands) can refl))
  any_byte byte behind old new rest link holds down next can history (TakesByte.completes rest' to talk' after item says closes station at' delivers item_taken is_new) =
      by_item (item_came (ignored item) item some.taken some.others link holds.talk after old new to behind says closes refl some.whole some.each some.stands next can holds.is_end
      (record {
        takes = subst (λ (s : Station). TakesItem holds.talk (before_byte old.terminal.station) item says closes after s) (ap (λ (t : Terminal). t.station) (sym is_new))
            (subst (λ (t : Term). TakesItem t (before_byte old.terminal.station) item says closes after station) (sym parts.1) item_taken);
        history = history;
      })
      (ap (λ (t : Terminal). t.link) is_new) (ap (λ (t : Terminal). t.out) is_new))
    where
      parts : (rest ≡ rest') × (holds.talk ≡ talk')
      parts = link_parts rest rest' holds.talk talk' (sym holds.attached ∙ at')

      some : TakesSome (without ignored) RepresentsDown to behind (item ∷ []) link.down
      some = goes_on rest to (byte ∷ []) behind (item ∷ []) link.down down (subst (λ (r : Rest). Delivers record_limit r (byte ∷ []) (item ∷ []) to) (sym parts.0) delivers)

      by_item : ItemCame ignored link item old new behind
          → OneCame ignored link byte old new behind (TakesByte.completes rest' to talk' after item says closes station at' delivers item_taken is_new)
      by_item (ItemCame.is_ignored unmarked ran) = OneCame.no_message unmarked ran
      by_item (ItemCame.is_message message others whole stands marked ran) = OneCame.one_message message others item whole refl stands marked ran
  any_byte byte behind old new rest link holds down next can history (TakesByte.breaks rest' talk' fault at' wrong is_new) =
      let parts = link_parts rest rest' holds.talk talk' (sym holds.attached ∙ at') in
      absurd (not_wrong final rest byte behind fault link.down down (subst (λ (r : Rest). GoesWrong record_limit r (byte ∷ []) fault) (sym parts.0) wrong))

  pub any_byte_came : (byte : ℕ) (behind : List ℕ) (old new : TrackedTerminal) (rest : Rest) (link : Link) → Holds rest old link.term → BytesDownBy ignored rest (byte ∷ behind) link.down → MayTakeNext link
      → CanBeSent link.term.display.size link.term.display.screen → (taken : TrackedTakesByte old byte new) → OneCame ignored link byte old new behind taken.takes
  any_byte_came byte behind old new rest link holds down next can taken = any_byte byte behind old new rest link holds down next can taken.history taken.takes

pub bytes_are_marked : TermTakes → TakesKeepSendable → NopHasNoEffect → RepresentsCompose all_items RepresentsUp → RepresentsGoOn without_nops RepresentsDown → WrongIsFinal → WritesAreMarked → BytesAreMarked
bytes_are_marked takes keeps nop compose goes_on final marks bytes link byte behind new ready queue taken =
    let term = ready.stands.term ready.terminal ready.here in
    let down : BytesDown term.rest (byte ∷ behind) link.down = subst (λ (b : List ℕ). BytesDown term.rest b link.down) queue term.down in
    let one = byte_came takes keeps (nops_have_none nop) goes_on final marks byte behind bytes.tracked new term.rest link term.holds down ready.may ready.none ready.sendable taken in
    record {
      came = record {
        taken = one.came.taken;
        others = one.came.others;
        whole = one.came.whole;
        stands = ours_stand compose bytes link (took_down one.came.taken one.came.others link) behind new ready.stands term.silent one.came.ran;
      };
      marked = one.marked;
    }

-- ---- the host, and losses

goes_down : (ignored : WireItem → Bool) → RepresentsCompose (without ignored) RepresentsDown → (lost : Bool) (rest : Rest) (bytes : List ℕ) (messages more : List ToTerminal) (items : List WireItem)
    → BytesDownBy ignored rest bytes messages → AllByRecursion (CanCome record_limit) items → Pairwise RepresentsDown (without ignored items) more
    → BytesDownBy ignored rest (sent lost bytes (sent_bytes items)) (sent lost messages more)
goes_down ignored compose true rest bytes messages more items stands fit said = stands
goes_down ignored compose false rest bytes messages more items stands fit said = compose rest bytes messages more items stands fit said

pub items_are_sent : {heard : List WireItem → List WireItem} {Up : WireItem → ToHost → Type 0} {ignored : WireItem → Bool} → RepresentsCompose (without ignored) RepresentsDown → ItemsAreSentBy heard Up ignored
items_are_sent {heard} {Up} {ignored} compose bytes link conn items messages stands fit said = record {
  lost = stands.lost;
  host_here = stands.host_here;
  term_here = stands.term_here;
  read = stands.read;
  up = stands.up;
  host = λ here. record { host = refl; rest_is = (stands.host here).rest_is };
  term = λ terminal here. let term = stands.term terminal here in record {
    rest = term.rest;
    holds = record { talk = term.holds.talk; attached = term.holds.attached; is_end = term.holds.is_end };
    silent = term.silent;
    down = subst (λ (l : Bool). BytesDownBy ignored term.rest (sent l bytes.down (sent_bytes items)) (sent link.lost link.down messages)) (sym stands.lost)
        (goes_down ignored compose link.lost term.rest bytes.down link.down messages items term.down fit said);
  };
}

pub host_sends : {heard : List WireItem → List WireItem} {Up : WireItem → ToHost → Type 0} → RepresentsCompose without_nops RepresentsDown → HostSendsBy heard Up
host_sends compose bytes link conn items messages stands fit said =
    items_are_sent compose bytes link conn items messages stands fit (subst (λ (l : List WireItem). Pairwise RepresentsDown l messages) (sym (all_spoken items messages said)) said)

pub nop_can_come : CanCome record_limit no_operation
nop_can_come = (λ e. absurd (omega (arith, e)), omega arith)

pub nop_stands : {heard : List WireItem → List WireItem} {Up : WireItem → ToHost → Type 0} → RepresentsCompose without_nops RepresentsDown → NopRepresentsBy heard Up
nop_stands compose bytes link stands = record {
  lost = stands.lost;
  host_here = stands.host_here;
  term_here = stands.term_here;
  read = stands.read;
  up = stands.up;
  host = λ here. let host = stands.host here in record { host = host.host; rest_is = host.rest_is };
  term = λ terminal here. let term = stands.term terminal here in record {
    rest = term.rest;
    holds = record { talk = term.holds.talk; attached = term.holds.attached; is_end = term.holds.is_end };
    silent = term.silent;
    down = subst (λ (l : Bool). BytesDown term.rest (sent l bytes.down (sent_bytes (no_operation ∷ []))) link.down) (sym stands.lost)
        (subst (λ (m : List ToTerminal). BytesDown term.rest (sent link.lost bytes.down (sent_bytes (no_operation ∷ []))) m) (sym (sent_nothing link.lost link.down))
        (goes_down is_nop compose link.lost term.rest bytes.down link.down [] (no_operation ∷ []) term.down (nop_can_come, tt) tt));
  };
}

same_term : {ignored : WireItem → Bool} (bytes with_bytes : ByteLink) (link with_link : Link) → TermRepresentsBy ignored bytes link
    → with_bytes.tracked ≡ bytes.tracked → with_bytes.down ≡ bytes.down → with_link.term ≡ link.term → with_link.down ≡ link.down → TermRepresentsBy ignored with_bytes with_link
same_term {ignored} bytes with_bytes link with_link term a b c d = record {
  rest = term.rest;
  holds = subst (λ (s : TrackedTerminal). Holds term.rest s with_link.term) (sym a) (subst (λ (e : TermEnd). Holds term.rest bytes.tracked e) (sym c) term.holds);
  silent = ap (λ (s : TrackedTerminal). s.terminal.out) a ∙ term.silent;
  down = subst (λ (q : List ℕ). BytesDownBy ignored term.rest q with_link.down) (sym b) (subst (λ (m : List ToTerminal). BytesDownBy ignored term.rest bytes.down m) (sym d) term.down);
}

-- Where the host is there, its decoder holds what was read.
pub up_behind_rest : {heard : List WireItem → List WireItem} {Up : WireItem → ToHost → Type 0} {ignored : WireItem → Bool} (bytes : ByteLink) (link : Link) → LinkRepresentsBy heard Up ignored bytes link → link.host_here ≡ true
    → BytesRepresent heard Up bytes.host_rest bytes.up link.up
up_behind_rest {heard} {Up} {ignored} bytes link stands here = subst (λ (r : Rest). BytesRepresent heard Up r bytes.up link.up) (sym (stands.host here).rest_is) stands.up

pub up_stands : {heard : List WireItem → List WireItem} {Up : WireItem → ToHost → Type 0} {ignored : WireItem → Bool} → RepresentsGoOn heard Up → UpRepresentsBy heard Up ignored
up_stands {heard} {Up} {ignored} goes_on bytes link front behind items to stands here queue delivers =
    let host = stands.host here in
    let some = goes_on bytes.host_rest to front behind items link.up
    (subst (λ (b : List ℕ). BytesRepresent heard Up bytes.host_rest b link.up) queue (up_behind_rest bytes link stands here)) delivers in
    record {
      taken = some.taken;
      others = some.others;
      whole = some.whole;
      each = some.each;
      stands = record {
        lost = stands.lost;
        host_here = stands.host_here;
        term_here = stands.term_here;
        read = to;
        up = some.stands;
        host = λ there. record { host = host.host; rest_is = refl };
        term = λ terminal there. same_term bytes _ link _ (stands.term terminal there) refl refl refl refl;
      };
    }

pub loss_stands : LossRepresents
loss_stands bytes link stands = record {
  lost = refl;
  host_here = stands.host_here;
  term_here = stands.term_here;
  read = stands.read;
  up = stands.up;
  host = λ here. let host = stands.host here in record { host = host.host; rest_is = host.rest_is };
  term = λ terminal here. same_term bytes _ link _ (stands.term terminal here) refl refl refl refl;
}

no_host : (link : Link) (bytes : ByteLink) (rest : Rest) → false ≡ true → HostRepresents bytes link rest
no_host link bytes rest e = cc

no_term : (link : Link) (bytes : ByteLink) (terminal : ℕ) → None ≡ Some terminal → TermRepresents bytes link
no_term link bytes terminal e = cc

pub host_leaves : HostLeaves
host_leaves bytes link stands = record {
  lost = refl;
  host_here = refl;
  term_here = stands.term_here;
  read = stands.read;
  up = stands.up;
  host = λ here. no_host _ _ stands.read here;
  term = λ terminal here. same_term bytes _ link _ (stands.term terminal here) refl refl refl refl;
}

pub term_leaves : TermLeaves
term_leaves bytes link stands = record {
  lost = refl;
  host_here = stands.host_here;
  term_here = refl;
  read = stands.read;
  up = stands.up;
  host = λ here. let host = stands.host here in record { host = host.host; rest_is = host.rest_is };
  term = λ terminal here. no_term _ _ terminal here;
}

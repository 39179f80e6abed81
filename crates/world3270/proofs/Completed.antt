-- Which items the bytes of a delivery complete: as many as there are messages delivered.
use Rattle.std.proofs.Common.{◌≡◌, inl, inr, ◌+◌, ℕ, zero, suc, Option, None, Some, List, [], ◌∷◌, ◌++◌, length, replicate, take, refl, ap, sym, subst, ◌∙◌, arith}
use Rattle.std.specs.Prelude.{⊤}
use Rattle.std.proofs.Math.Seq.{take-length}
use Rattle.std.proofs.lemmas.List.{length-append, replicate-append-replicate}
use Rattle.shadow.specs.Pairs.{Pairwise}
use Rattle.telnet_wire.specs.Items.{WireItem}
use Rattle.telnet_wire.specs.Reading.{Rest, IsRest, Delivers, nothing}
use Rattle.tn3270e_msg.specs.Header.{record_limit}
use Rattle.tn3270e_msg.specs.TermTable.{Term}
use Rattle.tn3270e_msg.specs.declared.cause.Cause.{Cause}
use Rattle.tn3270e_msg.specs.declared.cause.Cause.TheVariants.{Wire}
use Rattle.tn3270e_msg.specs.declared.cause.Stop.{Stop}
use Rattle.tn3270e_msg.specs.declared.cause.Stop.TheVariants as stop
use Rattle.host_core.specs.Messages.{ToTerminal}
use Rattle.host_core.specs.State.{Service, state_at}
use Rattle.term_core.specs.Bytes.{TakesByte, link_after}
use Rattle.term_core.specs.Feeds.{StopsFor}
use Rattle.term_core.specs.Room.{out_room}
use Rattle.term_core.specs.State.{Terminal, Attached, Closed, Detached}
use Rattle.world3270.specs.model.ByteSteps.{answer_fed}
use Rattle.world3270.specs.model.ByteWorld.{ByteWorld, is_there, terminal_at}
use Rattle.world3270.specs.refinement.Deliveries.{AreDeliveries, host_rest, rest_of_terminal, taken_by, terminal_rest, rest_at}
use Rattle.world3270.specs.refinement.MessageLaws.{MessageLaws}
use Rattle.world3270.specs.model.Link.{Link, sent, term_left_if, term_stepped}
use Rattle.world3270.specs.model.TrackedTerminals.{TrackedTerminal, TrackedTakes}
use Rattle.world3270.specs.refinement.Representation.{WorldRepresents, IsNotClosed, link_of, link_with, rest_of}
use Rattle.world3270.specs.refinement.Represents.{BytesDown, LinkRepresents, RepresentsDown, TermRepresents, all_items, without_nops}
use Rattle.world3270.specs.refinement.RepresentsLinks.{took_down}
use Rattle.world3270.specs.model.Terminal.{TermStep, took as term_took}
use Rattle.world3270.specs.model.World.{World, Event as MessageEvent}
use Rattle.world3270.proofs.Represents.{nops_piecewise}
use Rattle.world3270.proofs.RepresentsLinks.{up_behind_rest}

-- ---- the bytes that were taken

-- an end that wasn't refused memory took all of them, and none closes
abbrev pub IsTaken : Stop → ℕ → List ℕ → Type 0
IsTaken stop.Going taken bytes = taken ≡ length bytes
IsTaken stop.Memory taken bytes = ⊤
IsTaken (stop.Closed cause) taken bytes = ⊥

pub taken_is : (why : Stop) (taken : ℕ) (bytes : List ℕ) → IsTaken why taken bytes → taken_by (answer_fed why taken) bytes ≡ take taken bytes
taken_is stop.Going taken bytes all = sym (take-length bytes) ∙ ap (λ (n : ℕ). take n bytes) (sym all)
taken_is stop.Memory zero bytes refused = refl
taken_is stop.Memory (suc taken) bytes refused = refl
taken_is (stop.Closed cause) taken bytes none = absurd none

pub taken_there : (why : Stop) (old new : Terminal) (bytes : List ℕ) (taken : ℕ) (rest to : Rest) (talk after : Term)
    → StopsFor out_room why old bytes taken new → old.link ≡ Attached rest talk → new.link ≡ Attached to after → IsTaken why taken bytes
taken_there stop.Going old new bytes taken rest to talk after (inl all) was now = all.0
taken_there stop.Going old new bytes taken rest to talk after (inr none) was now =
    let both : Detached ≡ Attached rest talk = sym none.1 ∙ was in absurd (cc)
taken_there stop.Memory old new bytes taken rest to talk after stops was now = tt
taken_there (stop.Closed cause) old new bytes taken rest to talk after stops was now =
    let both : Closed cause ≡ Attached to after = sym stops ∙ now in absurd (cc)

-- ---- deliveries, one after another

module _ (known : MessageLaws) where
  no_items : (rest : Rest) → IsRest record_limit rest → Delivers record_limit rest [] [] rest
  no_items rest is = record { tokens = []; reads = known.links.no_bytes record_limit rest; is_rest = is; said = refl }

  -- no bytes are no deliveries
  pub none_delivered : (spoken : List WireItem → List WireItem) (rest : Rest) (delivery : MessageEvent) → spoken [] ≡ [] → IsRest record_limit rest
      → AreDeliveries spoken rest [] delivery []
  none_delivered spoken rest delivery none is =
      record { completed = []; behind = rest; delivers = no_items rest is; one_each = ap (λ (l : List WireItem). replicate (length l) delivery) (sym none) }

  pub more_delivered : (rest : Rest) (front back : List ℕ) (delivery : MessageEvent) (some others : List MessageEvent)
      → (first : AreDeliveries all_items rest front delivery some) → AreDeliveries all_items first.behind back delivery others
      → AreDeliveries all_items rest (front ++ back) delivery (some ++ others)
  more_delivered rest front back delivery some others first second = record {
    completed = first.completed ++ second.completed;
    behind = second.behind;
    delivers = known.links.deliveries record_limit rest first.behind second.behind front back first.completed second.completed first.delivers second.delivers;
    one_each = ap (λ (s : List MessageEvent). s ++ others) first.one_each
        ∙ ap (λ (m : List MessageEvent). replicate (length first.completed) delivery ++ m) second.one_each
        ∙ replicate-append-replicate (length first.completed) (length second.completed) delivery
        ∙ ap (λ (n : ℕ). replicate n delivery) (sym (length-append first.completed second.completed));
  }

  -- ---- what a decoder holds is the beginning of an item

  pub host_rest_is : (number : ℕ) (old : ByteWorld) (world : World) → WorldRepresents old world → IsRest record_limit (host_rest number old)
  host_rest_is number old world stands = by_service (state_at number old.host) refl (stands.none_closed number)
    where
      by_service : (service : Service) → state_at number old.host ≡ service → IsNotClosed service → IsRest record_limit (host_rest number old)
      by_service Service.Free e held = subst (λ (s : Service). IsRest record_limit (rest_of s)) (sym e) (known.links.start record_limit)
      by_service (Service.Open rest conn) e held =
          let link = stands.links number in
          (up_behind_rest (link_of number old) (world.link number) link (sym link.host_here ∙ ap is_there e)).is_rest
      by_service (Service.Closed cause) e closed = absurd closed

  -- the terminal at a connection
  pub terminal_there : (number terminal : ℕ) (old : ByteWorld) (world : World) → WorldRepresents old world → terminal_at number old.slots ≡ Some terminal
      → TermRepresents (link_with (Some terminal) number old) (world.link number)
  terminal_there number terminal old world stands found =
      let link : LinkRepresents (link_with (Some terminal) number old) (world.link number) =
      subst (λ (h : Option ℕ). LinkRepresents (link_with h number old) (world.link number)) found (stands.links number) in
      link.term terminal (sym link.term_here)

  pub terminal_rest_is : (number : ℕ) (old : ByteWorld) (world : World) → WorldRepresents old world → IsRest record_limit (terminal_rest number old)
  terminal_rest_is number old world stands = by_found (terminal_at number old.slots) refl
    where
      by_found : (here : Option ℕ) → terminal_at number old.slots ≡ here → IsRest record_limit (terminal_rest number old)
      by_found None e = subst (λ (h : Option ℕ). IsRest record_limit (rest_of_terminal h old)) (sym e) (known.links.start record_limit)
      by_found (Some terminal) e =
          let term = terminal_there number terminal old world stands e in
          subst (λ (h : Option ℕ). IsRest record_limit (rest_of_terminal h old)) (sym e)
          (subst (λ (r : Rest). IsRest record_limit r) (sym (ap rest_at term.holds.attached)) term.down.is_rest)

  -- ---- bytes that a terminal takes, and is still attached then

  same_parts : (rest other : Rest) (talk after : Term) → Attached rest talk ≡ Attached other after → rest ≡ other
  same_parts rest other talk after e = cc

  -- one that closed takes nothing more
  takes_none : (old mid : Terminal) (byte : ℕ) (cause : Cause) → old.link ≡ Closed cause → TakesByte old byte mid → ⊥
  takes_none old mid byte cause closed (TakesByte.goes_on rest to talk at delivers is) = let both : Closed cause ≡ Attached rest talk = sym closed ∙ at in absurd (cc)
  takes_none old mid byte cause closed (TakesByte.completes rest to talk after item says closes station at delivers taken is) =
      let both : Closed cause ≡ Attached rest talk = sym closed ∙ at in absurd (cc)
  takes_none old mid byte cause closed (TakesByte.breaks rest talk fault at wrong is) = let both : Closed cause ≡ Attached rest talk = sym closed ∙ at in absurd (cc)

  not_closed : (front : List ℕ) (old new : TrackedTerminal) (cause : Cause) (to : Rest) (after : Term)
      → old.terminal.link ≡ Closed cause → new.terminal.link ≡ Attached to after → TrackedTakes old front new → ⊥
  not_closed [] old new cause to after closed attached taken =
      let both : Closed cause ≡ Attached to after = sym closed ∙ ap (λ (s : TrackedTerminal). s.terminal.link) (sym taken) ∙ attached in absurd (cc)
  not_closed (byte ∷ front) old new cause to after closed attached taken = takes_none old.terminal taken.0.terminal byte cause closed taken.1.takes

  abbrev Read : Rest → List ℕ → Rest → Type 0
  Read rest front to = (items : List WireItem) × Delivers record_limit rest front items to

  read_more : (rest mid to : Rest) (byte : ℕ) (front : List ℕ) (some : List WireItem) → Delivers record_limit rest (byte ∷ []) some mid → Read mid front to → Read rest (byte ∷ front) to
  read_more rest mid to byte front some delivers others =
      (some ++ others.0, known.links.deliveries record_limit rest mid to (byte ∷ []) front some others.0 delivers others.1)

  -- the first byte, and then the others
  module _ (byte : ℕ) (front : List ℕ) (old mid new : TrackedTerminal) (rest to : Rest) (talk after : Term) (was : old.terminal.link ≡ Attached rest talk)
      (now : new.terminal.link ≡ Attached to after) (taken : TrackedTakes mid front new)
      (others : (next : Rest) (later : Term) → IsRest record_limit next → mid.terminal.link ≡ Attached next later → Read next front to) where
    read_from : (from next : Rest) (first later : Term) (items : List WireItem) → old.terminal.link ≡ Attached from first
        → Delivers record_limit from (byte ∷ []) items next → mid.terminal.link ≡ Attached next later → Read rest (byte ∷ front) to
    read_from from next first later items at delivers link =
        let same : from ≡ rest = same_parts from rest first talk (sym at ∙ was) in
        read_more rest next to byte front items (subst (λ (r : Rest). Delivers record_limit r (byte ∷ []) items next) same delivers)
        (others next later delivers.is_rest link)

    by_cause : (from next : Rest) (first later : Term) (item : WireItem) (closes : Option Cause) → old.terminal.link ≡ Attached from first
        → Delivers record_limit from (byte ∷ []) (item ∷ []) next → mid.terminal.link ≡ link_after next later closes → Read rest (byte ∷ front) to
    by_cause from next first later item None at delivers link = read_from from next first later (item ∷ []) at delivers link
    by_cause from next first later item (Some cause) at delivers link = absurd (not_closed front mid new cause to after link now taken)

    byte_reads : TakesByte old.terminal byte mid.terminal → Read rest (byte ∷ front) to
    byte_reads (TakesByte.goes_on from next first at delivers is_mid) =
        read_from from next first first [] at delivers (ap (λ (t : Terminal). t.link) is_mid)
    byte_reads (TakesByte.completes from next first later item says closes station at delivers item_taken is_mid) =
        by_cause from next first later item closes at delivers (ap (λ (t : Terminal). t.link) is_mid)
    byte_reads (TakesByte.breaks from first fault at wrong is_mid) =
        absurd (not_closed front mid new Wire to after (ap (λ (t : Terminal). t.link) is_mid) now taken)

  pub seat_reads : (front : List ℕ) (old new : TrackedTerminal) (rest to : Rest) (talk after : Term) → IsRest record_limit rest
      → old.terminal.link ≡ Attached rest talk → new.terminal.link ≡ Attached to after → TrackedTakes old front new → Read rest front to
  seat_reads [] old new rest to talk after is was now taken =
      let same : rest ≡ to = same_parts rest to talk after (sym was ∙ ap (λ (s : TrackedTerminal). s.terminal.link) (sym taken) ∙ now) in
      ([], subst (λ (r : Rest). Delivers record_limit rest [] [] r) same (no_items rest is))
  seat_reads (byte ∷ front) old new rest to talk after is was now taken =
      byte_reads byte front old taken.0 new rest to talk after was now taken.2
      (λ (next : Rest) (later : Term) (held : IsRest record_limit next) (link : taken.0.terminal.link ≡ Attached next later).
      seat_reads front taken.0 new next to later after held link now taken.2)
      taken.1.takes

  -- ---- and as many items are complete as messages came

  pairs_alike : {X Y : Type 0} (R : X → Y → Type 0) (xs : List X) (ys : List Y) → Pairwise R xs ys → length xs ≡ length ys
  pairs_alike R [] [] pairs = refl
  pairs_alike R [] (y ∷ ys) pairs = absurd pairs
  pairs_alike R (x ∷ xs) [] pairs = absurd pairs
  pairs_alike R (x ∷ xs) (y ∷ ys) pairs = ap suc (pairs_alike R xs ys pairs.1)

  one_sum : (some taken others : ℕ) → some + others ≡ taken + others → some ≡ taken
  one_sum some taken others e = omega arith

  pub counted : (rest to : Rest) (front behind : List ℕ) (items : List WireItem) (messages taken others : List ToTerminal)
      → Delivers record_limit rest front items to → BytesDown rest (front ++ behind) messages → BytesDown to behind others → messages ≡ taken ++ others
      → length (without_nops items) ≡ length taken
  counted rest to front behind items messages taken others delivers all left whole =
      let on = known.links.delivery_goes_on record_limit rest to nothing front behind items all.items delivers all.delivers in
      let same = known.links.one_delivery record_limit to behind on.0 left.items nothing nothing on.2 left.delivers in
      one_sum (length (without_nops items)) (length taken) (length others)
      (ap (λ (n : ℕ). length (without_nops items) + n)
      (sym (ap (λ (l : List WireItem). length (without_nops l)) same.0 ∙ pairs_alike RepresentsDown (without_nops left.items) others left.each))
      ∙ sym (length-append (without_nops items) (without_nops on.0)) ∙ ap length (sym (nops_piecewise items on.0))
      ∙ ap (λ (l : List WireItem). length (without_nops l)) (sym on.1)
      ∙ pairs_alike RepresentsDown (without_nops all.items) messages all.each ∙ ap length whole ∙ length-append taken others)

-- what is behind the messages that came down
stepped_down : (closes : Option Cause) (link : Link) → (term_left_if closes link).down ≡ link.down
stepped_down None link = refl
stepped_down (Some cause) link = refl

pub left_down : (taken others : List ToTerminal) (link : Link) → link.down ≡ taken ++ others → (took_down taken others link).down ≡ others
left_down [] others link whole = whole
left_down (message ∷ taken) others link whole =
    let step : TermStep = term_took link.term message in
    left_down taken others (term_stepped step (taken ++ others) link)
    (stepped_down step.closes (record link { down = taken ++ others; term = step.end; up = sent link.lost link.up step.sends }))

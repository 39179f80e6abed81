-- What is seen of a world over bytes is what is seen of the world that it stands for, wherever the headline looks.
use Rattle.std.proofs.Common.{◌≡◌, ℕ, Bool, true, false, Option, None, Some, List, refl, ap, sym, subst, ◌∙◌}
use Rattle.datastream.specs.Screen.{Screen}
use Rattle.presentation.specs.Sizes.{SizedScreen}
use Rattle.lu_pool.specs.Holders.{holder}
use Rattle.lu_pool.specs.declared.entry.Entry.{Entry}
use Rattle.tn3270e_msg.specs.TermTable.{Term}
use Rattle.tn3270e_msg.specs.declared.term_talk.TermState.{TermState}
use Rattle.tn3270e_msg.specs.declared.term_talk.TermState.TheVariants.{Waiting, Willing, TypeAsked, FunctionsAsked, Agreed, Refused, Closed}
use Rattle.term_core.specs.State.{Link as LinkValue, talk_phase, phase_of}
use Rattle.host_core.specs.Session.{Session}
use Rattle.host_core.specs.State.{Service, state_at}
use Rattle.world3270.specs.refinement.MessageLaws.{WorldLaws}
use Rattle.world3270.specs.model.ByteWorld.{ByteWorld, is_there, slot_at, terminal_at}
use Rattle.world3270.specs.statement.Headline.{IsLive, BoundIsGranted, IsHostsTurn, Agrees, Headline}
use Rattle.world3270.specs.model.Link.{Link}
use Rattle.world3270.specs.refinement.Refines.{HeadlineIsSeen, after}
use Rattle.world3270.specs.statement.Observation.{HostSeen, TerminalSeen, SeenLink, conn_seen, end_seen, host_seen, seen, seen_link, terminal_seen}
use Rattle.world3270.specs.statement.ByteObservation.{attached_seen, bound_of, tracked_seen, seen_bytes, seen_connection, service_seen}
use Rattle.world3270.specs.refinement.Representation.{WorldRepresents, IsNotClosed, conn_of, link_of, link_with}
use Rattle.world3270.specs.refinement.Represents.{LinkRepresents}
use Rattle.world3270.specs.model.Terminal.{bound_to}
use Rattle.world3270.specs.model.World.{World}
use Rattle.world3270.proofs.Known.{facts_now}

-- the LU that a terminal is bound to, by its phase and by its talk
same_bound : (state : TermState) → bound_of (talk_phase state) ≡ bound_to state
same_bound Waiting = refl
same_bound Willing = refl
same_bound TypeAsked = refl
same_bound (FunctionsAsked lu) = refl
same_bound (Agreed lu) = refl
same_bound (Refused reason) = refl
same_bound (Closed cause) = refl

-- the host's end
host_part : (service : Service) (here : Bool) (conn : Session) → IsNotClosed service → is_there service ≡ here → (here ≡ true → conn_of service ≡ conn) → service_seen service ≡ host_seen here conn
host_part Service.Free true conn is there same = absurd (cc)
host_part Service.Free false conn is there same = refl
host_part (Service.Open rest held) true conn is there same = ap (λ (c : Session). Some (conn_seen c)) (same refl)
host_part (Service.Open rest held) false conn is there same = absurd (cc)
host_part (Service.Closed cause) here conn is there same = absurd is

-- the terminal's end with these parts
abbrev seen_as : ℕ → Option (List ℕ) → (screen left before : Screen) → Bool → TerminalSeen
seen_as number bound screen left before erased = record { number = number; bound = bound; screen = screen; last_restored = left; before_restored = before; erased = erased }

-- a connection with these parts
abbrev linked : Bool → Option HostSeen → Option TerminalSeen → SeenLink
linked lost host terminal = record { lost = lost; host = host; terminal = terminal }

module _ (bytes : ByteWorld) (world : World) (stands : WorldRepresents bytes world) where
  terminal_part : (number : ℕ) (found : Option ℕ) → LinkRepresents (link_with found number bytes) (world.link number)
      → attached_seen found bytes ≡ terminal_seen (world.link number).term_here (world.link number).term
  terminal_part number None is = ap (λ (h : Option ℕ). terminal_seen h (world.link number).term) is.term_here
  terminal_part number (Some terminal) is =
      let link : Link = world.link number in
      let term = is.term terminal (sym is.term_here) in
      let end = term.holds.is_end in
      let tracked = (slot_at terminal bytes).tracked in
      let bound : bound_of (phase_of tracked.terminal.link) ≡ bound_to link.term.talk.talk.state =
      ap (λ (l : LinkValue). bound_of (phase_of l)) term.holds.attached ∙ same_bound term.holds.talk.talk.state
      ∙ ap (λ (t : Term). bound_to t.talk.state) end.talk_is in
      let same : tracked_seen terminal tracked ≡ end_seen terminal link.term =
      ap (λ (b : Option (List ℕ)). seen_as terminal b tracked.terminal.station.screen.screen tracked.history.last_restored tracked.history.before_restored tracked.history.erased) bound
      ∙ ap (λ (s : SizedScreen). seen_as terminal (bound_to link.term.talk.talk.state) s.screen tracked.history.last_restored tracked.history.before_restored tracked.history.erased) end.screen_is
      ∙ ap (λ (s : Screen). seen_as terminal (bound_to link.term.talk.talk.state) link.term.display.screen s tracked.history.before_restored tracked.history.erased) end.last_restored_is
      ∙ ap (λ (s : Screen). seen_as terminal (bound_to link.term.talk.talk.state) link.term.display.screen link.term.display.last_restored s tracked.history.erased) end.before_restored_is
      ∙ ap (λ (e : Bool). seen_as terminal (bound_to link.term.talk.talk.state) link.term.display.screen link.term.display.last_restored link.term.display.before_restored e) end.erased_is in
      ap (λ (t : TerminalSeen). Some t) same ∙ ap (λ (h : Option ℕ). terminal_seen h link.term) is.term_here

  -- A connection over bytes is seen as the one over messages that it represents.
  pub same_seen : (number : ℕ) → seen_connection number bytes ≡ seen_link (world.link number)
  same_seen number =
      let link : Link = world.link number in
      let is : LinkRepresents (link_of number bytes) link = stands.links number in
      let host : service_seen (state_at number bytes.host) ≡ host_seen link.host_here link.host =
      host_part (state_at number bytes.host) link.host_here link.host (stands.none_closed number) is.host_here (λ here. (is.host here).host) in
      let terminal : attached_seen (terminal_at number bytes.slots) bytes ≡ terminal_seen link.term_here link.term =
      terminal_part number (terminal_at number bytes.slots) is in
      ap (λ (l : Bool). linked l (service_seen (state_at number bytes.host)) (attached_seen (terminal_at number bytes.slots) bytes)) is.lost
      ∙ ap (λ (h : Option HostSeen). linked link.lost h (attached_seen (terminal_at number bytes.slots) bytes)) host
      ∙ ap (λ (t : Option TerminalSeen). linked link.lost (host_seen link.host_here link.host) t) terminal

  -- The screen of a terminal that is seen has the size of the one over messages.
  pub size_seen : (number : ℕ) (terminal : TerminalSeen) → (seen_connection number bytes).terminal ≡ Some terminal
      → (slot_at terminal.number bytes).tracked.terminal.station.screen.size ≡ (world.link number).term.display.size
  size_seen number terminal found = by_slot (terminal_at number bytes.slots) (stands.links number) found
    where
      by_slot : (here : Option ℕ) → LinkRepresents (link_with here number bytes) (world.link number) → attached_seen here bytes ≡ Some terminal
          → (slot_at terminal.number bytes).tracked.terminal.station.screen.size ≡ (world.link number).term.display.size
      by_slot None is found = absurd (cc)
      by_slot (Some slot) is found =
          let same : tracked_seen slot (slot_at slot bytes).tracked ≡ terminal = let both : Some (tracked_seen slot (slot_at slot bytes).tracked) ≡ Some terminal = found in cc in
          ap (λ (t : TerminalSeen). (slot_at t.number bytes).tracked.terminal.station.screen.size) (sym same)
          ∙ ap (λ (s : SizedScreen). s.size) (is.term slot (sym is.term_here)).holds.is_end.screen_is

  live_seen : (number : ℕ) (lu : List ℕ) → IsLive (seen_connection number bytes) lu → IsLive (seen_link (world.link number)) lu
  live_seen number lu live = subst (λ (l : SeenLink). IsLive l lu) (same_seen number) live

  granted_seen : BoundIsGranted (seen world) → BoundIsGranted (seen_bytes bytes)
  granted_seen granted number host terminal lu host_is terminal_is bound =
      let same = same_seen number in
      let is = granted number host terminal lu (sym (ap (λ (l : SeenLink). l.host) same) ∙ host_is) (sym (ap (λ (l : SeenLink). l.terminal) same) ∙ terminal_is) bound in
      record { agreed = is.agreed; held = ap (λ (p : List Entry). holder p lu) stands.pool ∙ is.held }

  -- So the headline holds of what is seen, if it holds of the world over messages.
  headline_seen : Headline (seen world) → Headline (seen_bytes bytes)
  headline_seen headline = record {
    one_session_each = λ one other lu first second. headline.one_session_each one other lu (live_seen one lu first) (live_seen other lu second);
    bound_is_granted = granted_seen headline.bound_is_granted;
    agrees = λ number. subst (λ (l : SeenLink). (turn : IsHostsTurn l) → Agrees turn.host turn.terminal) (sym (same_seen number)) (headline.agrees number);
  }

pub headline_is_seen : WorldLaws → HeadlineIsSeen
headline_is_seen known bytes is =
    headline_seen bytes (after is.begin is.events) is.reached.stands
    (facts_now known is.begin is.events bytes is.is_begin is.reached).headline

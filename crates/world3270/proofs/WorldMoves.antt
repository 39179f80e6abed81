-- What happens on a connection of a world over bytes are moves over bytes.
use Rattle.std.proofs.Common.{◌≡◌, ◌≢◌, ◌⊎◌, inl, inr, ◌<◌, ◌≤◌, ◌==◌, ◌||◌, not, ℕ, zero, suc, Bool, true, false, Option, None, Some, is_some, List, [], ◌∷◌, ◌++◌, drop, take, length, le_of_suc-le-suc, not-suc-le-zero, length-set, refl, ap, sym, subst, ◌∙◌}
use Rattle.std.specs.List.{AllByRecursion}
use Rattle.std.proofs.lemmas.Bool.{and_parts, eqb-true}
use Rattle.std.proofs.lemmas.List.{take-append-drop}
use Rattle.codes3270.specs.declared.attention.Aid.TheVariants.{NoAid, Clear}
use Rattle.keyboard.specs.Sending.{SendingWaits}
use Rattle.keyboard.specs.declared.key.Key.{Key}
use Rattle.keyboard.specs.declared.key.Lock.TheVariants.{Wait}
use Rattle.lu_pool.specs.HolderLaws.{IsSound as IsSoundPool}
use Rattle.panels.specs.Panel.{AreSound, Panels}
use Rattle.presentation.specs.Sizes.{SizedScreen}
use Rattle.shadow.specs.Pairs.{Pairwise}
use Rattle.telnet_wire.specs.Items.{WireItem, sent_bytes}
use Rattle.tn3270e_msg.specs.TermTable.{Term}
use Rattle.tn3270e_msg.specs.declared.cause.Stop.{Stop}
use Rattle.tn3270e_msg.specs.declared.cause.Stop.TheVariants as stop
use Rattle.term_core.specs.Presses.{says_of_key}
use Rattle.term_core.specs.State.{is_bound, phase_of}
use Rattle.host_core.specs.Application.{Application, application_of}
use Rattle.host_core.specs.Feeds.{Feeds, connection_and_pool_at, with_connection_and_pool}
use Rattle.host_core.specs.KeepAlive.{kept_alive}
use Rattle.host_core.specs.Laws.{PanelsAreShown, ServedIsMarked}
use Rattle.host_core.specs.State.{Connection, Host, connection_at, given_up, most_connections, unused, with_connection}
use Rattle.world3270.specs.declared.event.Event.{Event}
use Rattle.world3270.specs.declared.event.Event.TheVariants as event
use Rattle.world3270.specs.declared.event.Stepped.{Stepped}
use Rattle.world3270.specs.model.ByteSteps.{ComesDown, ComesUp, ConnectsIf, GoesDown, IsStep, IsStepIf, Presses, Steps, down_came, free_number, host_gone_if, host_told, is_enabled, is_held, is_lost, is_terminal, lost_transits, may_connect, saw_loss, sent_of, terminal_anew, terminal_gone_if, terminal_told, up_came}
use Rattle.world3270.specs.model.ByteWorld.{ByteWorld, TerminalSlot, Transit, Transits, alone, came, cut, down_of, host_out, host_there, is_live, is_senders, is_there, model_at, new_slot, out_of, sender_gone, slot_at, terminal_at, transits_at, under_way, up_of, with_host, with_slot, with_transits}
use Rattle.world3270.specs.model.Enabled.{is_queued}
use Rattle.world3270.specs.model.Link.{Link}
use Rattle.world3270.specs.model.Terminal.{TermEnd, TermStep, is_bound as is_bound_end, key_came, outcome_of}
use Rattle.world3270.specs.model.TrackedTerminals.{TrackedTakes, TrackedTerminal, tracked_after_key}
use Rattle.world3270.specs.model.World.{Place, World, display_at, new_world}
use Rattle.world3270.specs.refinement.LowerLaws.{LowerLaws}
use Rattle.world3270.specs.refinement.MessageLaws.{MessageLaws}
use Rattle.world3270.specs.refinement.Readings.{AreReadAs, IsReadAs}
use Rattle.world3270.specs.refinement.Refines.{IsReached, IsValidEvent, StepsAreSimulated, after}
use Rattle.world3270.specs.refinement.Representation.{with_out}
use Rattle.world3270.specs.refinement.Represents.{BytesDown, RepresentsUp, TermRepresents}
use Rattle.world3270.specs.refinement.Ignored.{without_ignored}
use Rattle.world3270.specs.refinement.RepresentsEnds.{SameKey, TermPresses}
use Rattle.world3270.specs.refinement.Sendable.{CanBeSent}
use Rattle.world3270.specs.statement.EveryTerminal.{key_pressed}
use Rattle.world3270.specs.statement.EveryTerminalBytes.{BeginsOverBytes, EveryTerminalOverBytes, IsHost, LeadTo, Moves, OverBytes, Pressed, end_of, pressed_by}
use Rattle.world3270.specs.statement.Instances.{over_bytes}
use Rattle.world3270.specs.statement.RuleLaws.{KeepsTheRules}
use Rattle.world3270.specs.statement.Rules.{Operates}
use Rattle.world3270.specs.statement.WorldMoves.{EventsAreMoves, GoOnAt, IsLockedIf, IsMovedTo, WorldsMoveOverBytes, over_bytes_if}
use Rattle.world3270.proofs.AnyHosts.{lead_on}
use Rattle.world3270.proofs.AnyTerminal.{TakesLaws, pairs_become}
use Rattle.world3270.proofs.ByteTerms.{made_of, stands_here}
use Rattle.world3270.proofs.EventsElsewhere.{StaysAt, anew_stays, connects_stays, down_stays, found_free, host_gone_stays, on_stays, saw_stays, slot_stays, stays_itself, transits_stay, up_stays, with_connection_stays}
use Rattle.world3270.proofs.Frames.{at_place, found_sits, found_within, is_within, slot_same, transits_same, who_was_there}
use Rattle.world3270.proofs.HostItems.{stands_read}
use Rattle.world3270.proofs.Instances.{begin_locked, live_bytes, worlds_begin}
use Rattle.world3270.proofs.Joinings.{get_or_equal}
use Rattle.world3270.proofs.WithoutClear.{operated_uncleared}
use Rattle.world3270.proofs.Keys.{waits as key_waits}
use Rattle.world3270.proofs.Known.{Facts, facts_now, is_application}
use Rattle.world3270.proofs.Moved.{edits_in_wait, queued_waits}
use Rattle.world3270.proofs.OneOfMany.{differs as is_other}
use Rattle.world3270.proofs.AnyIgnored.{IsNoTalk, all_heard, data_no_talk}
use Rattle.world3270.proofs.Represents.{written_stand}
use Rattle.world3270.proofs.TakenMoves.{all_taken, joined}
use Rattle.world3270.proofs.Worlds.{GoodWorld, new_good, run_good}

-- ---- numbers, and bytes

same_or_other : (one other : ℕ) → (one ≡ other) ⊎ (other ≢ one)
same_or_other one other = by_test (one == other) refl
  where
    by_test : (b : Bool) → (one == other) ≡ b → (one ≡ other) ⊎ (other ≢ one)
    by_test true e = inl (eqb-true one other e)
    by_test false e = inr (λ same. is_other one other e (sym same))

-- of the first bytes the first are the first of all
first_taken : (taken count : ℕ) (bytes : List ℕ) → taken ≤ length (take count bytes) → take taken (take count bytes) ≡ take taken bytes
first_taken zero count bytes few = refl
first_taken (suc taken) zero bytes few = absurd (not-suc-le-zero few)
first_taken (suc taken) (suc count) [] few = refl
first_taken (suc taken) (suc count) (byte ∷ bytes) few = ap (λ (b : List ℕ). byte ∷ b) (first_taken taken count bytes (le_of_suc-le-suc few))

-- and what is behind them is what is behind them of all
others_left : (taken count : ℕ) (bytes : List ℕ) → taken ≤ length (take count bytes) → drop taken (take count bytes) ++ drop count bytes ≡ drop taken bytes
others_left zero count bytes few = take-append-drop count bytes
others_left (suc taken) zero bytes few = absurd (not-suc-le-zero few)
others_left (suc taken) (suc count) [] few = refl
others_left (suc taken) (suc count) (byte ∷ bytes) few = others_left taken count bytes (le_of_suc-le-suc few)

live_is_senders : (transit : Transit) → not (is_live transit) ≡ false → is_senders transit ≡ true
live_is_senders Transit.Live live = refl
live_is_senders (Transit.Cut kept) live = absurd (cc)
live_is_senders (Transit.SenderGone bytes) live = absurd (cc)

cut_is_lost : (count : ℕ) (transit : Transit) → is_live (cut count transit) ≡ false
cut_is_lost count Transit.Live = refl
cut_is_lost count (Transit.Cut kept) = refl
cut_is_lost count (Transit.SenderGone bytes) = refl

gone_is_lost : (out : List ℕ) (transit : Transit) → is_live (sender_gone out transit) ≡ false
gone_is_lost out Transit.Live = refl
gone_is_lost out (Transit.Cut kept) = refl
gone_is_lost out (Transit.SenderGone bytes) = refl

-- ---- a world whose bytes represent one over messages

module _ (known : MessageLaws) (bytes : ByteWorld) (is : IsReached bytes) where
  abbrev world : World
  world = after is.begin is.events

  facts : Facts world
  facts = facts_now known.worlds is.begin is.events bytes is.is_begin is.reached

  pool_is_sound : IsSoundPool bytes.host.pool
  pool_is_sound =
      let app : Application = application_of is.begin.panels in
      let is_app = is_application known.worlds is.begin is.is_begin in
      let good : GoodWorld app world =
      run_good known.worlds.given app is_app is.events (new_world app is.begin.serves is.begin.pool is.begin.models) is.reached.are_events
      (new_good known.worlds.given app is_app is.begin.serves is.begin.pool is.begin.models is.is_begin.pool) in
      subst IsSoundPool (sym is.reached.stands.pool) good.sound

  module _ (number terminal : ℕ) where
    abbrev link : Link
    link = world.link number

    abbrev slot : TerminalSlot
    slot = slot_at terminal bytes

    -- who says that it is there is found there
    found_there : slot.at ≡ Some number → terminal_at number bytes.slots ≡ Some terminal
    found_there at =
        who_was_there number bytes world facts.agree is.reached.stands
        ∙ (facts.agree terminal number).0 (at_place slot (world.place terminal) number (is.reached.stands.places terminal) at)

    -- a connection that isn't lost has its host
    host_is_there : is_lost number bytes ≡ false → host_there number bytes ≡ true
    host_is_there live =
        let stands = is.reached.stands.links number in
        stands.host_here ∙ (facts.up_held number (sym stands.lost ∙ live)).host

    module _ (found : terminal_at number bytes.slots ≡ Some terminal) where
      here : link.term_here ≡ Some terminal
      here = sym (who_was_there number bytes world facts.agree is.reached.stands) ∙ found

      linked : number < length bytes.links
      linked = is_within number bytes world facts.agree is.reached.stands terminal here

      term : TermRepresents (made_of terminal (connection_at number bytes.host) (transits_at number bytes) slot) link
      term = (stands_here number terminal bytes world facts.agree is.reached.stands here).term terminal here

      sendable : CanBeSent link.term.display.size link.term.display.screen
      sendable =
          subst (λ (p : Place). let display = display_at world p in CanBeSent display.size display.screen) ((facts.agree terminal number).1 here) (facts.sendable terminal)

      can_be_sent : CanBeSent slot.tracked.terminal.station.screen.size slot.tracked.terminal.station.screen.screen
      can_be_sent = subst (λ (s : SizedScreen). CanBeSent s.size s.screen) (sym term.holds.is_end.screen_is) sendable

      module _ (live : is_lost number bytes ≡ false) where
        up_live : not (is_live (transits_at number bytes).up) ≡ false
        up_live = ap not (is.reached.stands.flows number).together ∙ live

        up_is : up_of number bytes ≡ slot.tracked.terminal.out
        up_is =
            ap (λ (h : Option ℕ). under_way (transits_at number bytes).up (out_of h bytes)) found
            ∙ live_bytes (transits_at number bytes).up slot.tracked.terminal.out up_live

        down_is : down_of number bytes ≡ host_out number bytes
        down_is = live_bytes (transits_at number bytes).down (host_out number bytes) live

        over_is : (wait : Pressed) → over_bytes_if wait number terminal bytes ≡ joined bytes.host [] slot.tracked wait
        over_is wait = ap (λ (up : List ℕ). record (joined bytes.host [] slot.tracked wait) { up = up }) up_is

-- ---- one event

module _ (known : MessageLaws) (takes : TakesLaws) (presses : TermPresses) (rules : KeepsTheRules key_came) (sending : SendingWaits)
    (number terminal : ℕ) (wait : Pressed) (old new : ByteWorld) (is : IsReached old) (found : terminal_at number old.slots ≡ Some terminal) (live : is_lost number old ≡ false)
    (locked : IsLockedIf wait (slot_at terminal old).tracked) (is_then : IsReached new) (is_host : IsHost new.host) (live_then : is_lost number new ≡ false) where
  abbrev app : Application
  app = application_of old.host.panels

  abbrev its_slot : TerminalSlot
  its_slot = slot_at terminal old

  abbrev tracked : TrackedTerminal
  tracked = its_slot.tracked

  abbrev out : List ℕ
  out = host_out number old

  abbrev its_link : Link
  its_link = (after is.begin is.events).link number

  abbrev ways : Transits
  ways = transits_at number old

  sits : its_slot.at ≡ Some number
  sits = found_sits number terminal old found

  -- moves lead on
  record Goes : Type 0 where
    later : Pressed
    states : List OverBytes
    lead : LeadTo app number states (joined old.host [] tracked wait) (joined new.host [] (slot_at terminal new).tracked later)
    held : IsLockedIf later (slot_at terminal new).tracked
    at : (slot_at terminal new).at ≡ Some number

  nothing_happens : new ≡ old → Goes
  nothing_happens same = record {
    later = wait;
    states = [];
    lead = ap (λ (w : ByteWorld). joined w.host [] (slot_at terminal w).tracked wait) same;
    held = subst (λ (w : ByteWorld). IsLockedIf wait (slot_at terminal w).tracked) (sym same) locked;
    at = ap (λ (w : ByteWorld). (slot_at terminal w).at) same ∙ sits;
  }

  -- by one move
  one_move : (host : Host) (ours : TrackedTerminal) (later : Pressed) → new.host ≡ host → slot_at terminal new ≡ record its_slot { tracked = ours } → IsLockedIf later ours
      → Moves app number (joined old.host [] tracked wait) (joined host [] ours later) → Goes
  one_move host ours later host_is slot_is held move = record {
    later = later;
    states = joined host [] ours later ∷ [];
    lead = (
      move,
      ap (λ (h : Host). joined h [] (slot_at terminal new).tracked later) host_is ∙ ap (λ (s : TerminalSlot). joined host [] s.tracked later) slot_is,
    );
    held = subst (λ (s : TerminalSlot). IsLockedIf later s.tracked) (sym slot_is) held;
    at = ap (λ (s : TerminalSlot). s.at) slot_is ∙ sits;
  }

  -- of the host on its other connections
  elsewhere : StaysAt number terminal old new → Goes
  elsewhere stays =
      one_move new.host tracked wait refl stays.slot locked
      (Moves.elsewhere new.host (record { panels = stays.panels; stays = stays.connection; pool = pool_is_sound known new is_then; is_host = is_host }) refl)

  -- of the host on this connection
  on_it : (connection : Connection) → new ≡ with_host (with_connection number connection old.host) old
      → Moves app number (joined old.host [] tracked wait) (joined (with_connection number connection old.host) [] tracked wait) → Goes
  on_it connection same move = one_move (with_connection number connection old.host) tracked wait (ap (λ (w : ByteWorld). w.host) same) (ap (slot_at terminal) same) locked move

  -- ---- no event loses the connection

  its_way : number < length old.links
  its_way = linked known old is number terminal found

  is_not_lost : (transits : Transits) (world : ByteWorld) → number < length world.links → is_live transits.down ≡ false → new ≡ with_transits number transits world → ⊥
  is_not_lost transits world below lost same =
      let dead : is_lost number new ≡ true = ap (is_lost number) same ∙ ap (λ (w : Transits). not (is_live w.down)) (transits_same number transits world below) ∙ ap not lost in
      let both : true ≡ false = sym dead ∙ live_then in
      cc

  -- ---- bytes come up

  module _ (count : ℕ) (answer : Stepped) (comes : ComesUp number (take count (up_of number old)) old answer new) where
    abbrev host_up : Host
    host_up = with_connection_and_pool number comes.counter old.host

    abbrev sent : TerminalSlot
    sent = sent_of comes.fed.taken its_slot

    abbrev ways_up : Transits
    ways_up = record ways { up = came comes.fed.taken ways.up }

    abbrev went_up : ByteWorld
    went_up = with_transits number ways_up (with_slot terminal sent (with_host host_up old))

    up_made : up_came comes.fed.taken number (with_host host_up old) ≡ went_up
    up_made =
        ap (λ (b : Bool). with_transits number ways_up (terminal_told b comes.fed.taken (terminal_at number old.slots) (with_host host_up old)))
        (live_is_senders ways.up (up_live known old is number terminal found live))
        ∙ ap (λ (h : Option ℕ). with_transits number ways_up (terminal_told true comes.fed.taken h (with_host host_up old))) found

    up_goes : new ≡ went_up → Goes
    up_goes same =
        let sends : up_of number old ≡ tracked.terminal.out = up_is known old is number terminal found live in
        let few = subst (λ (b : List ℕ). comes.fed.taken ≤ length (take count b)) sends comes.feeds.few in
        one_move host_up sent.tracked wait (ap (λ (w : ByteWorld). w.host) same)
        (ap (slot_at terminal) same ∙ slot_same terminal sent (with_host host_up old) (found_within number terminal old found)) (record { locked = locked.locked; uncleared = locked.uncleared })
        (Moves.feeds (take count tracked.terminal.out) (drop count tracked.terminal.out) comes.fed comes.counter
        (sym (take-append-drop count tracked.terminal.out))
        (subst (λ (b : List ℕ). Feeds number (connection_and_pool_at number old.host) (take count b) comes.fed comes.counter) sends comes.feeds)
        (ap (λ (up : List ℕ). record (joined host_up [] sent.tracked wait) { up = up }) (sym (others_left comes.fed.taken count tracked.terminal.out few))))

    up_here : Goes
    up_here = by_stop comes.fed.stop (comes.leaves ∙ ap (host_gone_if comes.fed.stop number) up_made)
      where
        by_stop : (why : Stop) → new ≡ host_gone_if why number went_up → Goes
        by_stop stop.Going same = up_goes same
        by_stop stop.Memory same = up_goes same
        by_stop (stop.Closed cause) same =
            absurd (is_not_lost (record (lost_transits number went_up) { down = sender_gone (host_out number went_up) (transits_at number went_up).down })
            (with_host (given_up number went_up.host) went_up)
            (subst (λ (n : ℕ). number < n) (sym (length-set old.links number ways_up)) its_way)
            (gone_is_lost (host_out number went_up) (transits_at number went_up).down) same)

  -- ---- bytes come down

  module _ (count : ℕ) (answer : Stepped) (comes : ComesDown terminal number (take count (down_of number old)) old answer new) where
    abbrev taken : ℕ
    taken = comes.fed.taken

    abbrev host_down : Host
    host_down = with_connection number (record (connection_at number old.host) { out = drop taken out }) old.host

    abbrev took : TerminalSlot
    took = record its_slot { tracked = comes.tracked }

    abbrev ways_down : Transits
    ways_down = record ways { down = came taken ways.down }

    abbrev went_down : ByteWorld
    went_down = with_transits number ways_down (with_host host_down (with_slot terminal took old))

    down_made : down_came taken number (with_slot terminal took old) ≡ went_down
    down_made = ap (λ (b : Bool). with_transits number ways_down (host_told b taken number (with_slot terminal took old))) (live_is_senders ways.down live)

    down_goes : new ≡ went_down → Goes
    down_goes same =
        let its_facts = facts known old is in
        let its_term = term known old is number terminal found in
        let under = down_is known old is number terminal found live in
        let few = subst (λ (b : List ℕ). taken ≤ length (take count b)) under comes.feeds.few in
        let takes_them : TrackedTakes tracked (take taken out) comes.tracked =
        subst (λ (b : List ℕ). TrackedTakes tracked b comes.tracked) (ap (λ (b : List ℕ). take taken (take count b)) under ∙ first_taken taken count out few) comes.feeds.takes in
        let host_is : new.host ≡ host_down = ap (λ (w : ByteWorld). w.host) same in
        let slot_is : slot_at terminal new ≡ took = ap (slot_at terminal) same ∙ slot_same terminal took old (found_within number terminal old found) in
        let all = all_taken takes app number host_down (take taken out) (drop taken out) tracked comes.tracked its_term.rest its_link wait
        (record { talk = its_term.holds.talk; attached = its_term.holds.attached; is_end = its_term.holds.is_end })
        (subst (λ (b : List ℕ). BytesDown its_term.rest b its_link.down) (under ∙ sym (take-append-drop taken out)) its_term.down)
        (its_facts.may number).0 (its_facts.may number).1 (sendable known old is number terminal found) locked takes_them in
        record {
          later = all.later;
          states = joined host_down (take taken out) tracked wait ∷ all.states;
          lead = (
            Moves.hands_over taken refl,
            subst (λ (b : OverBytes). LeadTo app number all.states (joined host_down (take taken out) tracked wait) b)
                (sym (ap (λ (h : Host). joined h [] (slot_at terminal new).tracked all.later) host_is ∙ ap (λ (s : TerminalSlot). joined host_down [] s.tracked all.later) slot_is))
                all.lead,
          );
          held = subst (λ (s : TerminalSlot). IsLockedIf all.later s.tracked) (sym slot_is) all.held;
          at = ap (λ (s : TerminalSlot). s.at) slot_is ∙ sits;
        }

    down_here : Goes
    down_here = by_stop comes.fed.stop (comes.leaves ∙ ap (terminal_gone_if comes.fed.stop terminal number) down_made)
      where
        by_stop : (why : Stop) → new ≡ terminal_gone_if why terminal number went_down → Goes
        by_stop stop.Going same = down_goes same
        by_stop stop.Memory same = down_goes same
        by_stop (stop.Closed cause) same =
            absurd (is_not_lost
            (record (lost_transits number went_down) { up = sender_gone (slot_at terminal went_down).tracked.terminal.out (transits_at number went_down).up })
            (with_slot terminal (alone (slot_at terminal went_down)) went_down)
            (subst (λ (n : ℕ). number < n) (sym (length-set old.links number ways_down)) its_way)
            (cut_is_lost (length (host_out number went_down)) (transits_at number went_down).down) same)

  -- ---- a key is pressed

  module _ (key : Key) (made : new ≡ with_slot terminal (record its_slot { tracked = tracked_after_key key tracked }) old) where
    abbrev pressed : TrackedTerminal
    pressed = tracked_after_key key tracked

    slot_pressed : slot_at terminal new ≡ record its_slot { tracked = pressed }
    slot_pressed = ap (slot_at terminal) made ∙ slot_same terminal (record its_slot { tracked = pressed }) old (found_within number terminal old found)

    its_term : TermRepresents (made_of terminal (connection_at number old.host) ways its_slot) its_link
    its_term = term known old is number terminal found

    abbrev talk : Term
    talk = its_term.holds.talk

    abbrev end : TermEnd
    end = end_of talk (with_out [] tracked)

    abbrev step : TermStep
    step = key_came key end

    abbrev says : List ℕ
    says = sent_bytes (says_of_key key (is_bound (phase_of tracked.terminal.link)) tracked.terminal.station)

    abbrev later_then : Pressed
    later_then = pressed_by step wait

    -- the screen after it can be sent
    can_then : CanBeSent step.end.display.size step.end.display.screen
    can_then =
        subst (λ (s : TerminalSlot). CanBeSent s.tracked.terminal.station.screen.size s.tracked.terminal.station.screen.screen) slot_pressed
        (can_be_sent known new is_then number terminal (found_there known new is_then number terminal (ap (λ (s : TerminalSlot). s.at) slot_pressed ∙ sits)))

    same_key : SameKey (with_out [] tracked) (tracked_after_key key (with_out [] tracked)) its_term.rest step
    same_key = presses key (with_out [] tracked) its_term.rest end
        (record {
          talk = talk;
          attached = its_term.holds.attached;
          is_end = record { talk_is = refl; screen_is = refl; keyboard_is = refl; last_restored_is = refl; before_restored_is = refl; erased_is = refl };
        })
        can_then

    no_talk : AllByRecursion IsNoTalk step.sends
    no_talk = data_no_talk (is_bound_end end) (outcome_of key end.display).answer end.display.size (outcome_of key end.display).screen

    read_so : AreReadAs says step.sends
    read_so = subst (λ (b : List ℕ). AreReadAs b step.sends) (sym same_key.sent)
        (written_stand without_ignored IsReadAs takes.written same_key.items step.sends same_key.fit
        (subst (λ (items : List WireItem). Pairwise IsReadAs items step.sends) (sym (all_heard same_key.items step.sends no_talk same_key.said))
        (pairs_become RepresentsUp IsReadAs stands_read same_key.items step.sends same_key.said)))

    by_rules : (does : Operates end step) × (wait.waits ≡ true → key_pressed does ≡ Clear → ⊥)
    by_rules = by_waits wait.waits locked.locked
      where
        by_waits : (b : Bool) → (b ≡ true → tracked.terminal.station.keyboard.lock ≡ Wait) → (does : Operates end step) × (b ≡ true → key_pressed does ≡ Clear → ⊥)
        by_waits true holds =
            let does = edits_in_wait known.worlds.given.keys.at_first key end (holds refl) (can_be_sent known old is number terminal found).sendable.cursor in
            (does.0, λ still. does.1)
        by_waits false holds = (rules key end (can_be_sent known old is number terminal found).sendable.cursor, λ still. absurd (cc))

    locked_then : IsLockedIf later_then pressed
    locked_then = record { locked = by_waits wait.waits locked.locked; uncleared = operated_uncleared end step by_rules.0 wait.cleared wait.waits locked.uncleared by_rules.1 }
      where
        by_waits : (b : Bool) → (b ≡ true → tracked.terminal.station.keyboard.lock ≡ Wait) → (b || is_queued step.sends) ≡ true → step.end.display.keyboard.lock ≡ Wait
        by_waits true holds either = (key_waits tracked.terminal.station.screen.size.columns key tracked.terminal.station.keyboard tracked.terminal.station.screen.screen (holds refl)).lock
        by_waits false holds queued = queued_waits sending key end queued

    key_goes : Goes
    key_goes = one_move old.host pressed later_then (ap (λ (w : ByteWorld). w.host) made) slot_pressed locked_then
        (Moves.operates step (record {
          rest = its_term.rest;
          talk = talk;
          attached = its_term.holds.attached;
          does = by_rules.0;
          not_after_pa = λ waits clear. absurd (by_rules.1 waits clear);
          not_full = λ cleared. absurd (let wrong : false ≡ true = sym locked.uncleared ∙ cleared in cc);
          stored = can_then;
          bytes = says;
          encoded = read_so;
          number = pressed.terminal.station.number;
          leaves = refl;
        }))

  key_here : (key : Key) (answer : Stepped) → Presses terminal key old answer new → Goes
  key_here key answer (Presses.refused lacks memory same) = nothing_happens same
  key_here key answer (Presses.done answers made) = key_goes key made

  key_elsewhere : (other : ℕ) (key : Key) (answer : Stepped) → terminal ≢ other → Presses other key old answer new → Goes
  key_elsewhere other key answer differs (Presses.refused lacks memory same) = nothing_happens same
  key_elsewhere other key answer differs (Presses.done answers made) =
      elsewhere (subst (StaysAt number terminal old) (sym made) (slot_stays number terminal old sits other _ old differs (stays_itself number terminal old sits)))

  -- ---- ends that leave, and that begin

  down_elsewhere : (at count : ℕ) (answer : Stepped) → number ≢ at → GoesDown (terminal_at at old.slots) at (take count (down_of at old)) old answer new → Goes
  down_elsewhere at count answer differs on = by_here (terminal_at at old.slots) refl on
    where
      by_here : (here : Option ℕ) → terminal_at at old.slots ≡ here → GoesDown here at (take count (down_of at old)) old answer new → Goes
      by_here None nobody on = absurd on
      by_here (Some other) is_it on = elsewhere (down_stays number terminal old sits other at (take count (down_of at old)) answer new differs is_it on)

  -- this terminal sees no loss, and doesn't begin anew
  saw_none : new ≡ saw_loss terminal its_slot.at old → ⊥
  saw_none same =
      is_not_lost (record (lost_transits number old) { up = sender_gone tracked.terminal.out ways.up }) (with_slot terminal (alone its_slot) old) its_way
      (cut_is_lost (length out) ways.down) (same ∙ ap (λ (at : Option ℕ). saw_loss terminal at old) sits)

  not_anew : new ≡ terminal_anew terminal its_slot.at old → ⊥
  not_anew same =
      is_not_lost (record (lost_transits number old) { up = sender_gone tracked.terminal.out ways.up }) (with_slot terminal (new_slot (model_at terminal old)) old) its_way
      (cut_is_lost (length out) ways.down) (same ∙ ap (λ (at : Option ℕ). terminal_anew terminal at old) sits)

  -- another terminal connects, on another connection
  connects : (other : ℕ) (wanted : Option (List ℕ)) (answer : Stepped) → may_connect (slot_at other old).at old ≡ true → ConnectsIf other wanted (free_number old) old answer new → Goes
  connects other wanted answer may on = by_free (free_number old) refl on
    where
      another : terminal ≡ other → ⊥
      another same =
          let wrong : false ≡ true = sym (ap (λ (t : ℕ). may_connect (slot_at t old).at old) (sym same) ∙ ap (λ (at : Option ℕ). may_connect at old) sits) ∙ may in
          cc

      held : is_held number old ≡ true
      held = ap (λ (b : Bool). b || is_some (terminal_at number old.slots)) (host_is_there known old is number terminal live)

      by_free : (free : Option ℕ) → free_number old ≡ free → ConnectsIf other wanted free old answer new → Goes
      by_free None none on = absurd on
      by_free (Some at) is_it on =
          let differs : number ≢ at =
          λ same. (let wrong : true ≡ false = sym held ∙ ap (λ (n : ℕ). is_held n old) same ∙ found_free most_connections 0 at old is_it in cc) in
          elsewhere (connects_stays number terminal old sits other at wanted answer new differs another on)

  -- ---- any event

  happens : (it : Event) (answer : Stepped) → IsValidEvent it → is_enabled it old ≡ true → IsStep it old answer new → Goes
  happens (event.Key other key) answer valid enabled on =
      elim (same_or_other other terminal) [
        | inl same ↦ key_here key answer (subst (λ (t : ℕ). Presses t key old answer new) same on)
        | inr differs ↦ key_elsewhere other key answer differs on
      ]
  happens (event.Up at count) answer valid enabled on =
      elim (same_or_other at number) [
        | inl same ↦ up_here count answer (subst (λ (n : ℕ). ComesUp n (take count (up_of n old)) old answer new) same on)
        | inr differs ↦ elsewhere (up_stays number terminal old sits at (take count (up_of at old)) answer new differs on)
      ]
  happens (event.Down at count) answer valid enabled on =
      elim (same_or_other at number) [
        | inl same ↦ down_here count answer
            (subst (λ (h : Option ℕ). GoesDown h number (take count (down_of number old)) old answer new) found
            (subst (λ (n : ℕ). GoesDown (terminal_at n old.slots) n (take count (down_of n old)) old answer new) same on))
        | inr differs ↦ down_elsewhere at count answer differs on
      ]
  happens (event.Act at) answer valid enabled on =
      elim (same_or_other at number) [
        | inl same ↦
            let here = subst (λ (n : ℕ). IsStep (event.Act n) old answer new) same on in
            on_it (connection_at number here.host) (here.leaves ∙ ap (λ (h : Host). with_host h old) here.others) (Moves.acts here.act (connection_at number here.host) here.acts refl)
        | inr differs ↦ elsewhere (on_stays number terminal old sits _ at answer new differs on)
      ]
  happens (event.Answer at ticket said) answer valid enabled on =
      elim (same_or_other at number) [
        | inl same ↦
            let here = subst (λ (n : ℕ). IsStep (event.Answer n ticket said) old answer new) same on in
            on_it (connection_at number here.host) (here.leaves ∙ ap (λ (h : Host). with_host h old) here.others)
            (Moves.answers ticket said here.act (connection_at number here.host) valid.0 here.acts refl)
        | inr differs ↦ elsewhere (on_stays number terminal old sits _ at answer new differs on)
      ]
  happens (event.Note at text) answer valid enabled on =
      elim (same_or_other at number) [
        | inl same ↦
            let here = subst (λ (n : ℕ). IsStep (event.Note n text) old answer new) same on in
            on_it (connection_at number here.host) (here.leaves ∙ ap (λ (h : Host). with_host h old) here.others)
            (Moves.notes text here.act (connection_at number here.host) valid.0 here.acts refl)
        | inr differs ↦ elsewhere (on_stays number terminal old sits _ at answer new differs on)
      ]
  happens (event.KeepAlive at) answer valid enabled on =
      elim (same_or_other at number) [
        | inl same ↦
            let here = subst (λ (n : ℕ). IsStep (event.KeepAlive n) old answer new) same on in
            on_it (kept_alive (connection_at number old.host)) here.1 (Moves.keeps_alive refl)
        | inr differs ↦ elsewhere (subst (StaysAt number terminal old) (sym on.1) (with_connection_stays number terminal old sits at (kept_alive (connection_at at old.host)) differs))
      ]
  happens (event.Lose at) answer valid enabled on =
      elim (same_or_other at number) [
        | inl same ↦
            absurd (is_not_lost (lost_transits number old) old its_way (cut_is_lost (length out) ways.down) (subst (λ (n : ℕ). IsStep (event.Lose n) old answer new) same on).1)
        | inr differs ↦ elsewhere (subst (StaysAt number terminal old) (sym on.1) (transits_stay number terminal old sits at _ old (stays_itself number terminal old sits)))
      ]
  happens (event.HostSees at) answer valid enabled on =
      elim (same_or_other at number) [
        | inl same ↦
            absurd (is_not_lost (record (lost_transits number old) { down = sender_gone out ways.down }) (with_host (given_up number old.host) old) its_way
            (gone_is_lost out ways.down) (subst (λ (n : ℕ). IsStep (event.HostSees n) old answer new) same on).1)
        | inr differs ↦ elsewhere (subst (StaysAt number terminal old) (sym on.1) (host_gone_stays number terminal old sits at old differs (stays_itself number terminal old sits)))
      ]
  happens (event.TermSees other) answer valid enabled on =
      elim (same_or_other other terminal) [
        | inl same ↦ absurd (saw_none (subst (λ (t : ℕ). IsStep (event.TermSees t) old answer new) same on).1)
        | inr differs ↦ elsewhere (subst (StaysAt number terminal old) (sym on.1) (saw_stays number terminal old sits other (slot_at other old).at differs))
      ]
  happens (event.Connect other wanted) answer valid enabled on =
      connects other wanted answer (and_parts (is_terminal other old) (may_connect (slot_at other old).at old) enabled).1 on
  happens (event.RestartTerm other) answer valid enabled on =
      elim (same_or_other other terminal) [
        | inl same ↦ absurd (not_anew (subst (λ (t : ℕ). IsStep (event.RestartTerm t) old answer new) same on).1)
        | inr differs ↦ elsewhere (subst (StaysAt number terminal old) (sym on.1) (anew_stays number terminal old sits other (slot_at other old).at differs))
      ]
  happens event.RestartHost answer valid enabled on =
      let free : host_there number new ≡ false =
      ap (host_there number) on.1 ∙ ap (λ (c : Connection). is_there c.service) (get_or_equal most_connections number unused) in
      let wrong : false ≡ true = sym free ∙ host_is_there known new is_then number terminal live_then in
      absurd (cc)

  goes : (it : Event) (answer : Stepped) → IsValidEvent it → Steps it old answer new → Goes
  goes it answer valid steps = by_place (is_enabled it old) refl steps
    where
      by_place : (b : Bool) → is_enabled it old ≡ b → IsStepIf b it old answer new → Goes
      by_place true enabled on = happens it answer valid enabled on
      by_place false skipped on = nothing_happens on.1

-- ---- events, one after another

module _ (known : MessageLaws) (go : StepsAreSimulated) (takes : TakesLaws) (presses : TermPresses) (rules : KeepsTheRules key_came) (sending : SendingWaits) where
  -- the world after an event
  is_next : (event : Event) (old : ByteWorld) (answer : Stepped) (new : ByteWorld) → IsReached old → IsValidEvent event → Steps event old answer new → IsReached new
  is_next event old answer new is valid steps =
      let goes_on = go is.begin is.events event old answer new is.is_begin is.reached valid steps in
      record { begin = is.begin; is_begin = is.is_begin; events = is.events ++ goes_on.more; reached = goes_on.reached }

  pub events_are_moves : EventsAreMoves
  events_are_moves number terminal wait event old answer new is found live locked valid steps is_host live_then =
      let app : Application = application_of old.host.panels in
      let is_then : IsReached new = is_next event old answer new is valid steps in
      let went = goes known takes presses rules sending number terminal wait old new is found live locked is_then is_host live_then event answer valid steps in
      let there = found_there known new is_then number terminal went.at in
      record {
        later = went.later;
        states = went.states;
        lead = subst (λ (b : OverBytes). LeadTo app number went.states b (over_bytes_if went.later number terminal new)) (sym (over_is known old is number terminal found live wait))
            (subst (λ (b : OverBytes). LeadTo app number went.states (joined old.host [] (slot_at terminal old).tracked wait) b) (sym (over_is known new is_then number terminal there live_then went.later)) went.lead);
        locked = went.held;
        there = there;
      }

  all_are_moves : (number terminal : ℕ) (wait : Pressed) (events : List Event) (old new : ByteWorld) → IsReached old → terminal_at number old.slots ≡ Some terminal → is_lost number old ≡ false
      → IsLockedIf wait (slot_at terminal old).tracked → GoOnAt number events old new → IsMovedTo number terminal wait old new
  unfolding is_next
  all_are_moves number terminal wait [] old new is found live locked same = record {
    later = wait;
    states = [];
    lead = ap (over_bytes_if wait number terminal) same;
    locked = subst (λ (w : ByteWorld). IsLockedIf wait (slot_at terminal w).tracked) (sym same) locked;
    there = ap (λ (w : ByteWorld). terminal_at number w.slots) same ∙ found;
  }
  all_are_moves number terminal wait (event ∷ events) old new is found live locked on =
      let answer : Stepped = on.0 in
      let next : ByteWorld = on.1 in
      let is_then : IsReached next = is_next event old answer next is on.2 on.3 in
      let one = events_are_moves number terminal wait event old answer next is found live locked on.2 on.3 on.4 on.5 in
      let more = all_are_moves number terminal one.later events next new is_then one.there on.5 one.locked on.6 in
      record {
        later = more.later;
        states = one.states ++ more.states;
        lead = lead_on (application_of old.host.panels) number one.states more.states (over_bytes_if wait number terminal old) (over_bytes_if one.later number terminal next)
            (over_bytes_if more.later number terminal new) one.lead
            (subst (λ (p : Panels). LeadTo (application_of p) number more.states (over_bytes_if one.later number terminal next) (over_bytes_if more.later number terminal new))
            (is_then.reached.panels ∙ sym is.reached.panels) more.lead);
        locked = more.locked;
        there = more.there;
      }

  -- ---- from agreement on

  pub worlds_move : LowerLaws → PanelsAreShown → ServedIsMarked → EveryTerminalOverBytes → WorldsMoveOverBytes
  worlds_move given panels served every number terminal lu events old new is is_host a on =
      let begins : BeginsOverBytes (application_of old.host.panels) number lu (over_bytes number terminal old) = worlds_begin given panels served number terminal lu old is is_host a in
      let moved = all_are_moves number terminal (record { waits = true; first = NoAid; cleared = false }) events old new is a.there a.live
      (record { locked = λ waits. begin_locked given panels served number terminal lu old is a; uncleared = refl }) on in
      record {
        begins = begins;
        pressed = moved.later;
        states = moved.states;
        lead = moved.lead;
        right = every number lu (over_bytes number terminal old) (over_bytes_if moved.later number terminal new) moved.states
            (subst AreSound (sym is.reached.panels) is.is_begin.panels) begins moved.lead;
      }

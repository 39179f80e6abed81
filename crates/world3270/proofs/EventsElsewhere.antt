-- An event that happens at another connection, and at another terminal, leaves these over bytes as they were.
use Rattle.std.proofs.Common.{◌≡◌, ◌≢◌, ◌+◌, ℕ, zero, suc, Bool, true, false, Option, None, Some, List, refl, ap, sym, subst, ◌∙◌, if◌then◌else◌}
use Rattle.tn3270e_msg.specs.declared.cause.Stop.{Stop}
use Rattle.tn3270e_msg.specs.declared.cause.Stop.TheVariants as stop
use Rattle.host_core.specs.State.{Connection, Host, connection_at, unused, with_connection, with_opened}
use Rattle.host_core.specs.declared.acted.Acted.{Acted}
use Rattle.world3270.specs.declared.event.Stepped.{Stepped}
use Rattle.world3270.specs.model.ByteSteps.{ComesDown, ComesUp, Connects, OnConnection, down_came, free_from, host_gone, host_gone_if, host_told, is_held, saw_loss, terminal_anew, terminal_gone, terminal_gone_if, terminal_told, up_came}
use Rattle.world3270.specs.model.ByteWorld.{ByteWorld, TerminalSlot, Transits, alone, slot_at, terminal_at, with_host, with_slot, with_transits}
use Rattle.world3270.proofs.Frames.{connection_other, found_sits, slot_other}

-- ---- the least free number

pub found_free : (count number found : ℕ) (world : ByteWorld) → free_from count number world ≡ Some found → is_held found world ≡ false
unfolding free_from
found_free zero number found world is = absurd (cc)
found_free (suc count) number found world is = by_test (is_held number world) refl is (found_free count (number + 1) found world)
  where
    by_test : (b : Bool) → is_held number world ≡ b → (if b then free_from count (number + 1) world else Some number) ≡ Some found
        → (free_from count (number + 1) world ≡ Some found → is_held found world ≡ false) → is_held found world ≡ false
    by_test true held e more = more e
    by_test false free e more = subst (λ (n : ℕ). is_held n world ≡ false) (let same : number ≡ found = cc in same) free

-- ---- the connection and its terminal

-- panels, connection and terminal are as they were
pub record StaysAt (number terminal : ℕ) (old new : ByteWorld) : Type 0 where
  pub panels : new.host.panels ≡ old.host.panels
  pub connection : connection_at number new.host ≡ connection_at number old.host
  pub slot : slot_at terminal new ≡ slot_at terminal old

module _ (number terminal : ℕ) (old : ByteWorld) (sits : (slot_at terminal old).at ≡ Some number) where
  abbrev Stays : ByteWorld → Type 0
  Stays world = StaysAt number terminal old world

  pub stays_itself : Stays old
  stays_itself = record { panels = refl; connection = refl; slot = refl }

  pub transits_stay : (at : ℕ) (transits : Transits) (world : ByteWorld) → Stays world → Stays (with_transits at transits world)
  transits_stay at transits world stays = record { panels = stays.panels; connection = stays.connection; slot = stays.slot }

  pub slot_stays : (other : ℕ) (slot : TerminalSlot) (world : ByteWorld) → terminal ≢ other → Stays world → Stays (with_slot other slot world)
  slot_stays other slot world differs stays =
      record { panels = stays.panels; connection = stays.connection; slot = slot_other other terminal slot world differs ∙ stays.slot }

  -- another connection of the host changes, and perhaps its pool and sessions
  host_stays : (at : ℕ) (connection : Connection) (host : Host) (world : ByteWorld) → number ≢ at → host.panels ≡ world.host.panels → connection_at number host ≡ connection_at number world.host → Stays world
      → Stays (with_host (with_connection at connection host) world)
  host_stays at connection host world differs panels same stays = record {
    panels = panels ∙ stays.panels;
    connection = connection_other at number connection host differs ∙ same ∙ stays.connection;
    slot = stays.slot;
  }

  -- who is at another connection is another terminal
  is_another : (at other : ℕ) → number ≢ at → (slot_at other old).at ≡ Some at → terminal ≢ other
  is_another at other differs sat = λ same.
      differs (let both : Some number ≡ Some at = sym sits ∙ ap (λ (t : ℕ). (slot_at t old).at) same ∙ sat in cc)

  -- ---- an end leaves another connection

  pub host_gone_stays : (at : ℕ) (world : ByteWorld) → number ≢ at → Stays world → Stays (host_gone at world)
  host_gone_stays at world differs stays = transits_stay at _ _ (host_stays at unused _ world differs refl refl stays)

  gone_if_stays : (why : Stop) (at : ℕ) (world : ByteWorld) → number ≢ at → Stays world → Stays (host_gone_if why at world)
  gone_if_stays stop.Going at world differs stays = stays
  gone_if_stays stop.Memory at world differs stays = stays
  gone_if_stays (stop.Closed cause) at world differs stays = host_gone_stays at world differs stays

  pub terminal_gone_stays : (slot : TerminalSlot) (other at : ℕ) (world : ByteWorld) → terminal ≢ other → Stays world → Stays (terminal_gone slot other at world)
  terminal_gone_stays slot other at world differs stays = transits_stay at _ _ (slot_stays other slot world differs stays)

  terminal_gone_if_stays : (why : Stop) (other at : ℕ) (world : ByteWorld) → terminal ≢ other → Stays world → Stays (terminal_gone_if why other at world)
  terminal_gone_if_stays stop.Going other at world differs stays = stays
  terminal_gone_if_stays stop.Memory other at world differs stays = stays
  terminal_gone_if_stays (stop.Closed cause) other at world differs stays = terminal_gone_stays (alone (slot_at other world)) other at world differs stays

  pub saw_stays : (other : ℕ) (at : Option ℕ) → terminal ≢ other → Stays (saw_loss other at old)
  saw_stays other None differs = stays_itself
  saw_stays other (Some at) differs = terminal_gone_stays (alone (slot_at other old)) other at old differs stays_itself

  pub anew_stays : (other : ℕ) (at : Option ℕ) → terminal ≢ other → Stays (terminal_anew other at old)
  anew_stays other None differs = slot_stays other _ old differs stays_itself
  anew_stays other (Some at) differs = terminal_gone_stays _ other at old differs stays_itself

  -- ---- bytes are delivered on another connection

  terminal_told_stays : (senders : Bool) (count : ℕ) (here : Option ℕ) (world : ByteWorld) → ((other : ℕ) → here ≡ Some other → terminal ≢ other) → Stays world → Stays (terminal_told senders count here world)
  terminal_told_stays true count (Some other) world differs stays = slot_stays other _ world (differs other refl) stays
  terminal_told_stays true count None world differs stays = stays
  terminal_told_stays false count here world differs stays = stays

  host_told_stays : (senders : Bool) (count at : ℕ) (world : ByteWorld) → number ≢ at → Stays world → Stays (host_told senders count at world)
  host_told_stays true count at world differs stays = host_stays at _ world.host world differs refl refl stays
  host_told_stays false count at world differs stays = stays

  pub up_stays : (at : ℕ) (bytes : List ℕ) (answer : Stepped) (new : ByteWorld) → number ≢ at → ComesUp at bytes old answer new → Stays new
  up_stays at bytes answer new differs comes =
      let took : ByteWorld = with_host (with_connection at comes.counter.connection (record old.host { pool = comes.counter.pool })) old in
      subst Stays (sym comes.leaves)
      (gone_if_stays comes.fed.stop at (up_came comes.fed.taken at took) differs
      (transits_stay at _ _
      (terminal_told_stays _ comes.fed.taken (terminal_at at old.slots) took (λ other found. is_another at other differs (found_sits at other old found))
      (host_stays at comes.counter.connection (record old.host { pool = comes.counter.pool }) old differs refl refl stays_itself))))

  pub down_stays : (other at : ℕ) (bytes : List ℕ) (answer : Stepped) (new : ByteWorld) → number ≢ at → terminal_at at old.slots ≡ Some other → ComesDown other at bytes old answer new → Stays new
  down_stays other at bytes answer new differs found comes =
      let another : terminal ≢ other = is_another at other differs (found_sits at other old found) in
      let took : ByteWorld = with_slot other (record (slot_at other old) { tracked = comes.tracked }) old in
      subst Stays (sym comes.leaves)
      (terminal_gone_if_stays comes.fed.stop other at (down_came comes.fed.taken at took) another
      (transits_stay at _ _ (host_told_stays _ comes.fed.taken at took differs (slot_stays other _ old another stays_itself))))

  -- ---- the host does something on another connection

  pub on_stays : (becomes : Connection → Acted → Connection → Type 0) (at : ℕ) (answer : Stepped) (new : ByteWorld) → number ≢ at → OnConnection becomes at old answer new → Stays new
  on_stays becomes at answer new differs on =
      subst Stays (sym (on.leaves ∙ ap (λ (h : Host). with_host h old) on.others)) (host_stays at (connection_at at on.host) old.host old differs refl refl stays_itself)

  pub with_connection_stays : (at : ℕ) (connection : Connection) → number ≢ at → Stays (with_host (with_connection at connection old.host) old)
  with_connection_stays at connection differs = host_stays at connection old.host old differs refl refl stays_itself

  -- another terminal connects

  opened_stays : (at : ℕ) → number ≢ at → Stays (with_host (with_opened at old.host) old)
  opened_stays at differs = record { panels = refl; connection = connection_other at number _ old.host differs; slot = refl }

  pub connects_stays : (other at : ℕ) (wanted : Option (List ℕ)) (answer : Stepped) (new : ByteWorld) → number ≢ at → terminal ≢ other → Connects other wanted at old answer new → Stays new
  connects_stays other at wanted answer new differs another (Connects.refused memory same) = subst Stays (sym same) stays_itself
  connects_stays other at wanted answer new differs another (Connects.done answers made) =
      subst Stays (sym made) (transits_stay at _ _ (slot_stays other _ _ another (opened_stays at differs)))

-- Where the host begins anew the world over bytes stands for the one over messages in which it does.
use Rattle.std.proofs.Common.{◌≡◌, ◌≢◌, ◌⊎◌, inl, inr, ◌<◌, ◌≤◌, ◌==◌, not, ℕ, zero, suc, Bool, true, false, Option, None, List, [], ◌∷◌, length, slice_index_or, eqb-true, le_refl, refl, ap, sym, subst, ◌∙◌, arith, if◌then◌else◌}
use Rattle.std.proofs.lemmas.Bool.{cases_lt}
use Rattle.std.proofs.lemmas.List.{get_or_past, length-replicate, length-set}
use Rattle.lu_pool.specs.Holders.{all_free, given_back}
use Rattle.lu_pool.specs.Pool.{entry, is_held_by}
use Rattle.lu_pool.specs.declared.entry.Entry.{Entry}
use Rattle.host_core.specs.State.{Host, Connection, unused, connection_at, most_connections}
use Rattle.world3270.specs.model.ByteSteps.{host_gone, host_gone_below, host_anew}
use Rattle.world3270.specs.model.ByteWorld.{ByteWorld, Transit, Transits, TerminalSlot, cut, sender_gone, is_live, is_there, no_slot, transits_at, terminal_at, host_there, host_out, terminal_out, out_of}
use Rattle.world3270.specs.model.Steps.{host_left_from, host_anew as host_anew_over_messages}
use Rattle.world3270.specs.model.Link.{Link, host_left}
use Rattle.world3270.specs.model.Places.{EndsAgree, UpIsHeld}
use Rattle.world3270.specs.refinement.Representation.{WorldRepresents, IsFlow, IsAt, IsNotClosed, IsSettled, AreTransits, tracked_of, link_with}
use Rattle.world3270.specs.refinement.Represents.{LinkRepresents}
use Rattle.world3270.specs.refinement.RepresentsLinks.{HostLeaves}
use Rattle.world3270.specs.model.World.{World}
use Rattle.world3270.proofs.Frames.{transits_same, transits_other, connection_other, flow_there, link_there, sits_same, who_was_there}
use Rattle.world3270.proofs.OneOfMany.{differs as is_other}
use Rattle.world3270.proofs.Joinings.{get_or_equal}
use Rattle.world3270.proofs.Partings.{Passes, Gone, gone_flow, gone_stands, like_stands, left_passes, lives, lost_up}

-- ---- a pool of which some was given back

held_or_not : (b : Bool) (lu : List ℕ) (at : Entry) → at.lu ≡ lu → entry (if b then entry lu None else at).lu None ≡ entry lu None
held_or_not true lu at same = refl
held_or_not false lu at same = ap (λ (l : List ℕ). entry l None) same

freed_the_same : (number : ℕ) (pool : List Entry) → all_free (given_back number pool) ≡ all_free pool
freed_the_same number [] = refl
freed_the_same number (at ∷ pool) =
    ap (λ (e : Entry). e ∷ all_free (given_back number pool)) (held_or_not (is_held_by number at.holder) at.lu at refl)
    ∙ ap (λ (rest : List Entry). entry at.lu None ∷ rest) (freed_the_same number pool)

-- ---- the host leaves the first connections

-- what a connection's ways become where the host was there, of its line and of what its terminal has to send
abbrev transits_behind : Connection → Transits → List ℕ → Transits
transits_behind connection transits out = record { down = sender_gone connection.out transits.down; up = cut (length out) transits.up }

abbrev transits_left : ℕ → ByteWorld → Transits
transits_left number world = if host_there number world then transits_behind (connection_at number world.host) (transits_at number world) (terminal_out number world) else transits_at number world

-- the host left the connections with numbers below this, and the others are as they were
record LeftBelow (count : ℕ) (old now : ByteWorld) : Type 0 where
  panels : now.host.panels ≡ old.host.panels
  pool : all_free now.host.pool ≡ all_free old.host.pool
  slots : now.slots ≡ old.slots
  way_count : length now.links ≡ length old.links
  connection_count : length now.host.connections ≡ length old.host.connections
  serves : now.host.terminals ≡ old.host.terminals
  transits : (number : ℕ) → number < count → transits_at number now ≡ transits_left number old
  others : (number : ℕ) → count ≤ number → (transits_at number now ≡ transits_at number old) × (connection_at number now.host ≡ connection_at number old.host)

out_same : (number : ℕ) (old now : ByteWorld) → now.slots ≡ old.slots → terminal_out number now ≡ terminal_out number old
out_same number old now same =
    (sits_same (terminal_at number now.slots) old now same).0 ∙ ap (λ (s : List TerminalSlot). out_of (terminal_at number s) old) same

behind_same : (number : ℕ) (old now : ByteWorld) → transits_at number now ≡ transits_at number old → connection_at number now.host ≡ connection_at number old.host → now.slots ≡ old.slots
    → transits_behind (connection_at number now.host) (transits_at number now) (terminal_out number now)
    ≡ transits_behind (connection_at number old.host) (transits_at number old) (terminal_out number old)
behind_same number old now transits connection slots =
    ap (λ (l : Connection). transits_behind l (transits_at number now) (terminal_out number now)) connection
    ∙ ap (λ (w : Transits). transits_behind (connection_at number old.host) w (terminal_out number now)) transits
    ∙ ap (λ (o : List ℕ). transits_behind (connection_at number old.host) (transits_at number old) o) (out_same number old now slots)

-- one more, where the host is there
one_more : (count : ℕ) (old now : ByteWorld) → LeftBelow count old now → count < length old.links → count < length old.host.connections → host_there count now ≡ true
    → LeftBelow (suc count) old (host_gone count now)
one_more count old now so_far below within there = record {
  panels = so_far.panels;
  pool = freed_the_same count now.host.pool ∙ so_far.pool;
  slots = so_far.slots;
  way_count = length-set now.links count behind ∙ so_far.way_count;
  connection_count = length-set now.host.connections count unused ∙ so_far.connection_count;
  serves = so_far.serves;
  transits = λ number under. by_test number under (number == count) refl;
  others = λ number past.
      let differs : number ≢ count = λ e. absurd (omega arith) in
      let same = so_far.others number (omega arith) in
      (transits_other count number behind now differs ∙ same.0, connection_other count number unused given differs ∙ same.1);
}
  where
    behind : Transits
    behind = transits_behind (connection_at count now.host) (transits_at count now) (terminal_out count now)

    given : Host
    given = record now.host { pool = given_back count now.host.pool }

    by_test : (number : ℕ) → number < suc count → (b : Bool) → (number == count) ≡ b → transits_at number (host_gone count now) ≡ transits_left number old
    by_test number under true e =
        let same = so_far.others count (le_refl count) in
        let was : host_there count old ≡ true = ap (λ (l : Connection). is_there l.service) (sym same.1) ∙ there in
        subst (λ (n : ℕ). transits_at n (host_gone count now) ≡ transits_left n old) (sym (eqb-true number count e))
        (transits_same count behind now (subst (λ (n : ℕ). count < n) (sym so_far.way_count) below)
        ∙ behind_same count old now same.0 same.1 so_far.slots
        ∙ sym (ap (λ (b : Bool). if b then transits_behind (connection_at count old.host) (transits_at count old) (terminal_out count old) else transits_at count old) was))
    by_test number under false e =
        let differs : number ≢ count = is_other number count e in
        transits_other count number behind now differs ∙ so_far.transits number (omega (arith, differs))

-- and where it isn't
none_more : (count : ℕ) (old now : ByteWorld) → LeftBelow count old now → host_there count now ≡ false → LeftBelow (suc count) old now
none_more count old now so_far there = record {
  panels = so_far.panels;
  pool = so_far.pool;
  slots = so_far.slots;
  way_count = so_far.way_count;
  connection_count = so_far.connection_count;
  serves = so_far.serves;
  transits = λ number under. by_test number under (number == count) refl;
  others = λ number past. so_far.others number (omega arith);
}
  where
    by_test : (number : ℕ) → number < suc count → (b : Bool) → (number == count) ≡ b → transits_at number now ≡ transits_left number old
    by_test number under true e =
        let same = so_far.others count (le_refl count) in
        let was : host_there count old ≡ false = ap (λ (l : Connection). is_there l.service) (sym same.1) ∙ there in
        subst (λ (n : ℕ). transits_at n now ≡ transits_left n old) (sym (eqb-true number count e))
        (same.0 ∙ sym (ap (λ (b : Bool). if b then transits_behind (connection_at count old.host) (transits_at count old) (terminal_out count old) else transits_at count old) was))
    by_test number under false e =
        let differs : number ≢ count = is_other number count e in
        so_far.transits number (omega (arith, differs))

left_below : (count : ℕ) (old : ByteWorld) → length old.host.connections ≡ length old.links → count ≤ length old.links → LeftBelow count old (host_gone_below count old)
unfolding host_gone_below
left_below zero old long few = record {
  panels = refl;
  pool = refl;
  slots = refl;
  way_count = refl;
  connection_count = refl;
  serves = refl;
  transits = λ number under. absurd (omega arith);
  others = λ number past. (refl, refl);
}
left_below (suc count) old long few =
    by_test (host_there count (host_gone_below count old)) refl (left_below count old long (omega arith))
  where
    by_test : (b : Bool) → host_there count (host_gone_below count old) ≡ b → LeftBelow count old (host_gone_below count old)
        → LeftBelow (suc count) old (if b then host_gone count (host_gone_below count old) else host_gone_below count old)
    by_test true there so_far = one_more count old (host_gone_below count old) so_far few (omega (arith, long)) there
    by_test false there so_far = none_more count old (host_gone_below count old) so_far there

-- ---- the host begins anew

settled_passes : (out : List ℕ) (under : Transit) → is_live under ≡ false → IsFlow false [] under → Passes out under false [] under
settled_passes out Transit.Live lost flow = absurd (cc)
settled_passes out (Transit.Cut zero) lost flow = record { lost = refl; same = refl; flow = flow }
settled_passes out (Transit.Cut (suc kept)) lost flow = absurd (omega arith)
settled_passes out (Transit.SenderGone bytes) lost flow = record { lost = refl; same = refl; flow = flow }

module _ (leaves : HostLeaves) (old : ByteWorld) (was : World) (agree : EndsAgree was) (held : UpIsHeld was) (stands : WorldRepresents old was) where
  abbrev now : ByteWorld
  now = host_gone_below most_connections old

  abbrev new : ByteWorld
  new = host_anew now

  left_all : LeftBelow most_connections old now
  left_all = left_below most_connections old (stands.connections ∙ sym stands.transits) (subst (λ (n : ℕ). most_connections ≤ n) (sym stands.transits) (le_refl most_connections))

  connection : (number : ℕ) → connection_at number new.host ≡ unused
  connection number = get_or_equal most_connections number unused

  transits : (number : ℕ) → transits_at number new ≡ transits_left number old
  transits number = by_order (cases_lt number most_connections)
    where
      by_order : (number < most_connections) ⊎ (most_connections ≤ number) → transits_at number now ≡ transits_left number old
      by_order (inl below) = left_all.transits number below
      by_order (inr past) =
          let free : connection_at number old.host ≡ unused = get_or_past old.host.connections number unused (subst (λ (n : ℕ). n ≤ number) (sym stands.connections) past) in
          (left_all.others number past).0
          ∙ sym (ap (λ (b : Bool). if b then transits_behind (connection_at number old.host) (transits_at number old) (terminal_out number old) else transits_at number old)
          (ap (λ (l : Connection). is_there l.service) free))

  module _ (number : ℕ) where
    abbrev here : Option ℕ
    here = (was.link number).term_here

    abbrev link : Link
    link = was.link number

    same : (out_of here new ≡ out_of here old) × (tracked_of here new ≡ tracked_of here old)
    same = sits_same here old new left_all.slots

    is_link : LinkRepresents (link_with here number old) link
    is_link = link_there number old was agree stands

    abbrev behind : Transits
    behind = transits_behind (connection_at number old.host) (transits_at number old) (terminal_out number old)

    -- where the host was there
    was_there : host_there number old ≡ true → Gone number old new here here unused behind (out_of here old)
    was_there e = record {
      transits_are = transits number ∙ ap (λ (b : Bool). if b then behind else transits_at number old) e;
      connection_is = connection number;
      out_is = same.0;
      down = left_passes (host_out number old) (transits_at number old).down;
      up = lost_up number old was agree stands held;
    }

    is_down : host_there number old ≡ false → is_live (transits_at number old).down ≡ false
    is_down e = by_live (is_live (transits_at number old).down) refl
      where
        by_live : (b : Bool) → is_live (transits_at number old).down ≡ b → b ≡ false
        by_live true live =
            let there : host_there number old ≡ true = is_link.host_here ∙ (held number (lives number old was agree stands held live)).host in
            absurd (cc)
        by_live false lost = refl

    -- and where it wasn't
    was_not : host_there number old ≡ false → Gone number old new here here unused (transits_at number old) (out_of here old)
    was_not e =
        let flow = flow_there number old was agree stands in
        record {
          transits_are = transits number ∙ ap (λ (b : Bool). if b then behind else transits_at number old) e;
          connection_is = connection number;
          out_is = same.0;
          down = settled_passes (host_out number old) (transits_at number old).down (is_down e)
              (subst (λ (o : List ℕ). IsFlow false o (transits_at number old).down) (stands.settled number e)
              (subst (λ (b : Bool). IsFlow b (host_out number old) (transits_at number old).down) e (stands.flows number).down));
          up = record { lost = flow.together ∙ is_down e; same = refl; flow = flow.up };
        }

    parts : AreTransits here number new × LinkRepresents (link_with here number new) (host_left_from link)
    parts = by_there (host_there number old) refl
      where
        by_there : (b : Bool) → host_there number old ≡ b → AreTransits here number new × LinkRepresents (link_with here number new) (host_left_from link)
        by_there true e = (
          gone_flow number old new here here unused behind (out_of here old) (was_there e),
          subst (λ (b : Bool). LinkRepresents (link_with here number new) (if b then host_left link else link)) (sym e ∙ is_link.host_here)
              (gone_stands number old new here here unused behind (out_of here old) (was_there e) (host_left link)
              (λ h. absurd (cc)) (λ terminal h. same.1) (leaves (link_with here number old) link is_link)),
        )
        by_there false e = (
          gone_flow number old new here here unused (transits_at number old) (out_of here old) (was_not e),
          subst (λ (b : Bool). LinkRepresents (link_with here number new) (if b then host_left link else link)) (sym e ∙ is_link.host_here)
              (gone_stands number old new here here unused (transits_at number old) (out_of here old) (was_not e) link
              (λ h. let none = is_link.host_here in absurd (cc)) (λ terminal h. same.1)
              (like_stands (link_with here number old) (record (link_with here number old) { lost = true; host_here = false; term_here = here }) link
              (record {
                lost = sym (ap not (is_down e));
                host_here = sym e;
                term_here = refl;
                down = refl;
                up = refl;
                host = λ h. (refl, refl);
                tracked = λ terminal h. refl;
              })
              is_link)),
        )

    there : terminal_at number new.slots ≡ here
    there = ap (λ (s : List TerminalSlot). terminal_at number s) left_all.slots ∙ who_was_there number old was agree stands

  pub host_anew_stands : WorldRepresents new (host_anew_over_messages was)
  host_anew_stands = record {
    connections = length-replicate most_connections unused;
    transits = left_all.way_count ∙ stands.transits;
    terminals = ap (λ (s : List TerminalSlot). length s) left_all.slots ∙ stands.terminals;
    pool = left_all.pool ∙ ap all_free stands.pool;
    serves = left_all.serves ∙ stands.serves;
    none_closed = λ number. subst (λ (l : Connection). IsNotClosed l.service) (sym (connection number)) tt;
    settled = λ number. subst (λ (l : Connection). IsSettled l) (sym (connection number)) (λ free. refl);
    flows = λ number. subst (λ (h : Option ℕ). AreTransits h number new) (sym (there number)) (parts number).0;
    links = λ number. subst (λ (h : Option ℕ). LinkRepresents (link_with h number new) (host_left_from (was.link number))) (sym (there number)) (parts number).1;
    places = λ terminal. subst (λ (s : List TerminalSlot). IsAt (slice_index_or s terminal no_slot) (was.place terminal)) (sym left_all.slots) (stands.places terminal);
  }

  pub panels_stay : new.host.panels ≡ old.host.panels
  panels_stay = left_all.panels

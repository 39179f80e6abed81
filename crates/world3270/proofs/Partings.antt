-- Where a connection over bytes is lost, or an end leaves it, it stands for one over messages of which that holds.
use Rattle.std.proofs.Common.{◌≡◌, ◌<◌, not, ℕ, Bool, true, false, Option, None, Some, is_some, List, [], length, le_refl, refl, ap, sym, subst, ◌∙◌}
use Rattle.std.proofs.lemmas.List.{length-set}
use Rattle.lu_pool.specs.Holders.{given_back}
use Rattle.host_core.specs.State.{Host, Connection, unused, connection_at, state_at}
use Rattle.world3270.specs.model.ByteSteps.{lost_transits, host_gone, terminal_gone}
use Rattle.world3270.specs.model.ByteWorld.{ByteWorld, Transit, Transits, TerminalSlot, under_way, cut, sender_gone, is_live, is_there, transits_at, slot_at, with_transits, with_slot, host_there, host_out, out_of}
use Rattle.world3270.specs.model.Steps.{host_parted, parted}
use Rattle.world3270.specs.model.Link.{Link, cut as link_cut, host_left, term_left}
use Rattle.world3270.specs.model.Places.{EndsAgree, UpIsHeld}
use Rattle.world3270.specs.model.TrackedTerminals.{TrackedTerminal}
use Rattle.world3270.specs.refinement.Representation.{WorldRepresents, IsFlow, IsAt, IsNotClosed, IsSettled, AreTransits, conn_of, rest_of, tracked_of, link_with}
use Rattle.world3270.specs.refinement.Represents.{BytesUp, BytesDown, ByteLink, Holds, LinkRepresents}
use Rattle.world3270.specs.refinement.RepresentsLinks.{LossRepresents, HostLeaves, TermLeaves}
use Rattle.world3270.specs.model.Terminal.{Display}
use Rattle.world3270.specs.model.World.{Place, World, with_link}
use Rattle.world3270.proofs.Frames.{transits_same, transits_other, slot_same, slot_other, connection_same, connection_other, IsHere, beyond_is_alone, changed_stands, flow_there, is_within, link_there, sits_same, who_was_there}
use Rattle.world3270.proofs.OneOfMany.{with_other, with_same}
use Rattle.world3270.proofs.UnderWay.{cut_under_way}

-- ---- what is looked at

-- Of an end that isn't there nothing is looked at.
pub record Alike (old new : ByteLink) (link : Link) : Type 0 where
  pub lost : new.lost ≡ old.lost
  pub host_here : new.host_here ≡ old.host_here
  pub term_here : new.term_here ≡ old.term_here
  pub down : new.down ≡ old.down
  pub up : new.up ≡ old.up
  pub host : link.host_here ≡ true → (new.host ≡ old.host) × (new.host_rest ≡ old.host_rest)
  pub tracked : (terminal : ℕ) → link.term_here ≡ Some terminal → new.tracked ≡ old.tracked

pub like_stands : (old new : ByteLink) (link : Link) → Alike old new link → LinkRepresents old link → LinkRepresents new link
like_stands old new link like stands = record {
  lost = like.lost ∙ stands.lost;
  host_here = like.host_here ∙ stands.host_here;
  term_here = like.term_here ∙ stands.term_here;
  read = stands.read;
  up = subst (λ (b : List ℕ). BytesUp stands.read b link.up) (sym like.up) stands.up;
  host = λ here. let host = stands.host here in let same = like.host here in record { host = same.0 ∙ host.host; rest_is = same.1 ∙ host.rest_is };
  term = λ terminal here. let term = stands.term terminal here in let same = like.tracked terminal here in record {
    rest = term.rest;
    holds = subst (λ (s : TrackedTerminal). Holds term.rest s link.term) (sym same) term.holds;
    silent = ap (λ (s : TrackedTerminal). s.terminal.out) same ∙ term.silent;
    down = subst (λ (b : List ℕ). BytesDown term.rest b link.down) (sym like.down) term.down;
  };
}

-- ---- one direction of a lost connection

-- it is lost, what was under way still is, and it fits its sender
pub record Passes (out : List ℕ) (under : Transit) (there : Bool) (now_out : List ℕ) (now : Transit) : Type 0 where
  pub lost : is_live now ≡ false
  pub same : under_way now now_out ≡ under_way under out
  pub flow : IsFlow there now_out now

cut_passes : (there : Bool) (out : List ℕ) (under : Transit) → (is_live under ≡ true → there ≡ true) → IsFlow there out under
    → Passes out under there out (cut (length out) under)
cut_passes there out Transit.Live lives flow = record { lost = refl; same = cut_under_way Transit.Live out; flow = le_refl (length out) }
cut_passes there out (Transit.Cut kept) lives flow = record { lost = refl; same = refl; flow = flow }
cut_passes there out (Transit.SenderGone bytes) lives flow = record { lost = refl; same = refl; flow = flow }

pub left_passes : (out : List ℕ) (under : Transit) → Passes out under false [] (sender_gone out under)
left_passes out Transit.Live = record { lost = refl; same = refl; flow = refl }
left_passes out (Transit.Cut kept) = record { lost = refl; same = refl; flow = refl }
left_passes out (Transit.SenderGone bytes) = record { lost = refl; same = refl; flow = refl }

-- ---- both directions

-- what is lost: the ways, the host's line, who is there, and what a terminal there has to send, as they are then
pub record Gone (number : ℕ) (old new : ByteWorld) (was here : Option ℕ) (connection : Connection) (transits : Transits) (out : List ℕ) : Type 0 where
  pub transits_are : transits_at number new ≡ transits
  pub connection_is : connection_at number new.host ≡ connection
  pub out_is : out_of here new ≡ out
  pub down : Passes (host_out number old) (transits_at number old).down (is_there connection.service) connection.out transits.down
  pub up : Passes (out_of was old) (transits_at number old).up (is_some here) out transits.up

module _ (number : ℕ) (old new : ByteWorld) (was here : Option ℕ) (connection : Connection) (transits : Transits) (out : List ℕ) (gone : Gone number old new was here connection transits out) where
  pub gone_flow : AreTransits here number new
  gone_flow = record {
    together = ap (λ (w : Transits). is_live w.up) gone.transits_are ∙ gone.up.lost ∙ sym gone.down.lost ∙ sym (ap (λ (w : Transits). is_live w.down) gone.transits_are);
    down = subst (λ (w : Transits). IsFlow (host_there number new) (host_out number new) w.down) (sym gone.transits_are)
        (subst (λ (l : Connection). IsFlow (is_there l.service) l.out transits.down) (sym gone.connection_is) gone.down.flow);
    up = subst (λ (w : Transits). IsFlow (is_some here) (out_of here new) w.up) (sym gone.transits_are)
        (subst (λ (o : List ℕ). IsFlow (is_some here) o transits.up) (sym gone.out_is) gone.up.flow);
  }

  pub gone_stands : (link : Link) → (link.host_here ≡ true → connection.service ≡ state_at number old.host)
      → ((terminal : ℕ) → link.term_here ≡ Some terminal → tracked_of here new ≡ tracked_of was old)
      → LinkRepresents (record (link_with was number old) { lost = true; host_here = is_there connection.service; term_here = here }) link
      → LinkRepresents (link_with here number new) link
  gone_stands link host tracked stands =
      like_stands (record (link_with was number old) { lost = true; host_here = is_there connection.service; term_here = here }) (link_with here number new) link
      (record {
        lost = ap (λ (w : Transits). not (is_live w.down)) gone.transits_are ∙ ap not gone.down.lost;
        host_here = ap (λ (l : Connection). is_there l.service) gone.connection_is;
        term_here = refl;
        down = ap (λ (w : Transits). under_way w.down (host_out number new)) gone.transits_are ∙ ap (λ (l : Connection). under_way transits.down l.out) gone.connection_is ∙ gone.down.same;
        up = ap (λ (w : Transits). under_way w.up (out_of here new)) gone.transits_are ∙ ap (λ (o : List ℕ). under_way transits.up o) gone.out_is ∙ gone.up.same;
        host = λ e. let same = ap (λ (l : Connection). l.service) gone.connection_is ∙ host e in (ap conn_of same, ap rest_of same);
        tracked = tracked;
      })
      stands

-- ---- a world whose connection is lost

module _ (number : ℕ) (old : ByteWorld) (was : World) (agree : EndsAgree was) (stands : WorldRepresents old was) where
  abbrev here : Option ℕ
  here = (was.link number).term_here

  its_flow : AreTransits here number old
  its_flow = flow_there number old was agree stands

  its_link : LinkRepresents (link_with here number old) (was.link number)
  its_link = link_there number old was agree stands

  module _ (held : UpIsHeld was) where
    pub lives : is_live (transits_at number old).down ≡ true → (was.link number).lost ≡ false
    lives live = sym its_link.lost ∙ ap not live

    lost_down : Passes (host_out number old) (transits_at number old).down (host_there number old) (host_out number old) (lost_transits number old).down
    lost_down = cut_passes (host_there number old) (host_out number old) (transits_at number old).down
        (λ live. its_link.host_here ∙ (held number (lives live)).host) its_flow.down

    pub lost_up : Passes (out_of here old) (transits_at number old).up (is_some here) (out_of here old) (lost_transits number old).up
    lost_up =
        let up : Transit = (transits_at number old).up in
        subst (λ (h : Option ℕ). Passes (out_of here old) up (is_some here) (out_of here old) (cut (length (out_of h old)) up)) (sym (who_was_there number old was agree stands))
        (cut_passes (is_some here) (out_of here old) (transits_at number old).up
        (λ live. (held number (lives (sym its_flow.together ∙ live))).terminal) its_flow.up)

    -- ---- it is lost, or the host leaves it

    pub lost_stands : LossRepresents → number < length old.links → EndsAgree (with_link number (link_cut (was.link number)) was)
        → WorldRepresents (with_transits number (lost_transits number old) old) (with_link number (link_cut (was.link number)) was)
    lost_stands loss below agrees =
        let new : ByteWorld = with_transits number (lost_transits number old) old in
        let now : World = with_link number (link_cut (was.link number)) was in
        let nobody : ℕ = length old.slots in
        let same = sits_same here old new refl in
        let is : now.link number ≡ link_cut (was.link number) = with_same number (link_cut (was.link number)) was.link in
        let gone : Gone number old new here here (connection_at number old.host) (lost_transits number old) (out_of here old) = record {
          transits_are = transits_same number (lost_transits number old) old below;
          connection_is = refl;
          out_is = same.0;
          down = lost_down;
          up = lost_up;
        } in
        changed_stands number nobody old new was now
        (record {
          connections = λ other differs. refl;
          transits = λ other differs. transits_other number other (lost_transits number old) old differs;
          slots = λ other differs. refl;
          links = λ other differs. with_other number other (link_cut (was.link number)) was.link differs;
          places = λ other differs. refl;
          connection_count = refl;
          serves = refl;
          way_count = length-set old.links number (lost_transits number old);
          slot_count = refl;
          terminals = refl;
          world_serves = refl;
          pool = stands.pool;
          before = beyond_is_alone number old was stands;
          behind = beyond_is_alone number old was stands;
          none_closed = stands.none_closed number;
          settled = stands.settled number;
          flow = subst (λ (l : Link). AreTransits l.term_here number new) (sym is)
              (gone_flow number old new here here (connection_at number old.host) (lost_transits number old) (out_of here old) gone);
          link = subst (λ (l : Link). LinkRepresents (link_with l.term_here number new) l) (sym is)
              (gone_stands number old new here here (connection_at number old.host) (lost_transits number old) (out_of here old) gone (link_cut (was.link number))
              (λ e. refl) (λ terminal e. same.1) (loss (link_with here number old) (was.link number) its_link));
          place = stands.places nobody;
        })
        agree stands agrees

    -- the ways of a connection that the host leaves
    abbrev host_transits : Transits
    host_transits = record (lost_transits number old) { down = sender_gone (host_out number old) (transits_at number old).down }

    pub host_gone_stands : HostLeaves → number < length old.links → EndsAgree (host_parted number was)
        → WorldRepresents (host_gone number old) (host_parted number was)
    host_gone_stands leaves below agrees =
        let new : ByteWorld = host_gone number old in
        let now : World = host_parted number was in
        let nobody : ℕ = length old.slots in
        let same = sits_same here old new refl in
        let given : Host = record old.host { pool = given_back number old.host.pool } in
        let is : now.link number ≡ host_left (was.link number) = with_same number (host_left (was.link number)) was.link in
        let within : number < length old.host.connections = subst (λ (n : ℕ). number < n) (stands.transits ∙ sym stands.connections) below in
        let connection : connection_at number new.host ≡ unused = connection_same number unused given within in
        let gone : Gone number old new here here unused host_transits (out_of here old) = record {
          transits_are = transits_same number host_transits old below;
          connection_is = connection;
          out_is = same.0;
          down = left_passes (host_out number old) (transits_at number old).down;
          up = lost_up;
        } in
        changed_stands number nobody old new was now
        (record {
          connections = λ other differs. connection_other number other unused given differs;
          transits = λ other differs. transits_other number other host_transits old differs;
          slots = λ other differs. refl;
          links = λ other differs. with_other number other (host_left (was.link number)) was.link differs;
          places = λ other differs. refl;
          connection_count = length-set old.host.connections number unused;
          serves = refl;
          way_count = length-set old.links number host_transits;
          slot_count = refl;
          terminals = refl;
          world_serves = refl;
          pool = ap (given_back number) stands.pool;
          before = beyond_is_alone number old was stands;
          behind = beyond_is_alone number old was stands;
          none_closed = subst (λ (l : Connection). IsNotClosed l.service) (sym connection) tt;
          settled = subst (λ (l : Connection). IsSettled l) (sym connection) (λ free. refl);
          flow = subst (λ (l : Link). AreTransits l.term_here number new) (sym is)
              (gone_flow number old new here here unused host_transits (out_of here old) gone);
          link = subst (λ (l : Link). LinkRepresents (link_with l.term_here number new) l) (sym is)
              (gone_stands number old new here here unused host_transits (out_of here old) gone (host_left (was.link number))
              (λ e. absurd (cc)) (λ terminal e. same.1) (leaves (link_with here number old) (was.link number) its_link));
          place = stands.places nobody;
        })
        agree stands agrees

    -- ---- a terminal leaves it

    -- the ways of a connection that this terminal leaves
    abbrev terminal_transits : ℕ → Transits
    terminal_transits terminal = record (lost_transits number old) { up = sender_gone (slot_at terminal old).tracked.terminal.out (transits_at number old).up }

    pub parted_stands : TermLeaves → (terminal : ℕ) (slot : TerminalSlot) (display : Display) → terminal < length old.slots
        → was.place terminal ≡ Place.At number → IsAt slot (Place.Alone display) → EndsAgree (parted terminal number display was)
        → WorldRepresents (terminal_gone slot terminal number old) (parted terminal number display was)
    parted_stands leaves terminal slot display there_is at alone agrees =
        let new : ByteWorld = terminal_gone slot terminal number old in
        let now : World = parted terminal number display was in
        let holds : here ≡ Some terminal = (agree terminal number).0 at in
        let below : number < length old.links = is_within number old was agree stands terminal holds in
        let connection : Connection = connection_at number old.host in
        let is : now.link number ≡ term_left (was.link number) = with_same number (term_left (was.link number)) was.link in
        let goes : now.place terminal ≡ Place.Alone display = with_same terminal (Place.Alone display) was.place in
        let gone : Gone number old new here None connection (terminal_transits terminal) [] = record {
          transits_are = transits_same number (terminal_transits terminal) (with_slot terminal slot old) below;
          connection_is = refl;
          out_is = refl;
          down = lost_down;
          up = subst (λ (h : Option ℕ). Passes (out_of h old) (transits_at number old).up false [] (sender_gone (slot_at terminal old).tracked.terminal.out (transits_at number old).up)) (sym holds)
              (left_passes (slot_at terminal old).tracked.terminal.out (transits_at number old).up);
        } in
        changed_stands number terminal old new was now
        (record {
          connections = λ other differs. refl;
          transits = λ other differs. transits_other number other (terminal_transits terminal) (with_slot terminal slot old) differs;
          slots = λ other differs. slot_other terminal other slot old differs;
          links = λ other differs. with_other number other (term_left (was.link number)) was.link differs;
          places = λ other differs. with_other terminal other (Place.Alone display) was.place differs;
          connection_count = refl;
          serves = refl;
          way_count = length-set old.links number (terminal_transits terminal);
          slot_count = length-set old.slots terminal slot;
          terminals = refl;
          world_serves = refl;
          pool = stands.pool;
          before = subst (λ (p : Place). IsHere number p) (sym at) refl;
          behind = subst (λ (p : Place). IsHere number p) (sym goes) tt;
          none_closed = stands.none_closed number;
          settled = stands.settled number;
          flow = subst (λ (l : Link). AreTransits l.term_here number new) (sym is)
              (gone_flow number old new here None connection (terminal_transits terminal) [] gone);
          link = subst (λ (l : Link). LinkRepresents (link_with l.term_here number new) l) (sym is)
              (gone_stands number old new here None connection (terminal_transits terminal) [] gone (term_left (was.link number))
              (λ e. refl) (λ who e. absurd (cc)) (leaves (link_with here number old) (was.link number) its_link));
          place = subst (λ (s : TerminalSlot). IsAt s (now.place terminal)) (sym (slot_same terminal slot old there_is))
              (subst (λ (p : Place). IsAt slot p) (sym goes) alone);
        })
        agree stands agrees

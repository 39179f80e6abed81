-- For the host, a terminal that doesn't wait is one that does: beside each connection there is one at whose end a terminal waits, displays
-- what was told, and which the host can't tell from it.
use Rattle.std.proofs.Common.{◌≡◌, ◌<◌, ◌||◌, ℕ, Bool, true, false, List, [], ◌∷◌, None, Some, length, refl, ap, sym, subst, ◌∙◌}
use Rattle.std.specs.Prelude.{is_some}
use Rattle.datastream.specs.Fields.{fields}
use Rattle.datastream.specs.InboundFields.{buffer_data}
use Rattle.datastream.specs.KeptByKeys.{KeptByKeys}
use Rattle.datastream.specs.Screen.{Screen}
use Rattle.keyboard.specs.declared.key.Lock.{Lock}
use Rattle.keyboard.specs.declared.key.Lock.TheVariants.{Free, Wait, Error}
use Rattle.shadow.specs.RuleBreaks.{rule_break}
use Rattle.host_core.specs.Application.{Application}
use Rattle.host_core.specs.Laws.{MarksInput}
use Rattle.host_core.specs.Messages.{ToHost}
use Rattle.host_core.specs.Session.{Session, agreed_lu, is_agreed}
use Rattle.host_core.specs.Takes.{Answers, may_have_changed, only_read, quiet, took}
use Rattle.tn3270e_msg.specs.declared.host_talk.HostState.{HostState}
use Rattle.tn3270e_msg.specs.declared.host_talk.HostState.TheVariants.{Offered, Asked, Asking, Named, Countered, Agreed, Closed}
use Rattle.world3270.specs.statement.EveryTerminal.{LinkWithReport}
use Rattle.world3270.specs.refinement.LowerLaws.{LowerLaws}
use Rattle.world3270.specs.model.Link.{Link, sent}
use Rattle.world3270.specs.refinement.Invariant.{ConnectionInvariant}
use Rattle.world3270.specs.model.Terminal.{Display, TermEnd, is_bound}
use Rattle.world3270.specs.refinement.View.{view_of}
use Rattle.world3270.proofs.Keys.{or_false}
use Rattle.world3270.proofs.Returning.{HostReturns}
use Rattle.world3270.proofs.SecondKeys.{Says, SaysAlike, pending_after, says_more, turn_after}
use Rattle.world3270.proofs.Up.{buffer_skipped, buffer_took, unbroken_read}

-- What is displayed at a terminal that doesn't wait differs from what one displays that does in input alone, and only while that one waits.
pub record Since (told now : Display) : Type 0 where
  pub erased : Bool
  pub held : KeptByKeys erased told.screen.cells now.screen.cells
  pub rest : now ≡ record told { screen = now.screen; keyboard = now.keyboard; erased = now.erased }
  pub erasing : now.erased ≡ (told.erased || erased)
  pub same : (told.keyboard.lock ≡ Wait → ⊥) → now ≡ record told { keyboard = now.keyboard }
  pub cursor : now.screen.cursor < length now.screen.cells

-- both display the same
pub since_same : LowerLaws → (told now : Display) → now ≡ record told { keyboard = now.keyboard } → now.screen.cursor < length now.screen.cells → Since told now
since_same given told now is cursor = record {
  erased = false;
  held = subst (λ (d : Display). KeptByKeys false told.screen.cells d.screen.cells) (sym is) (given.keys.at_first told.screen.cells);
  rest = is ∙ ap (λ (d : Display). record told { screen = d.screen; keyboard = now.keyboard; erased = d.erased }) (sym is);
  erasing = ap (λ (d : Display). d.erased) is ∙ sym (or_false told.erased);
  same = λ free. is;
  cursor = cursor;
}

-- `told`: the connection of the terminal that waits; `now`: that of a terminal that may not wait
pub record Simulates (told now : Link) : Type 0 where
  pub host : now.host ≡ told.host
  pub lost : now.lost ≡ told.lost
  pub down : now.down ≡ told.down
  pub talk : now.term.talk ≡ told.term.talk
  pub up : Says told.host told.up now.up
  pub since : Since told.term.display now.term.display

abbrev pub is_waiting : Lock → Bool
is_waiting Wait = true
is_waiting Free = false
is_waiting Error = false

-- in a session of a host that doesn't rely on the wait; `told`: the connection of a terminal that waits and is at the
-- same point, with the screen that the host was told
pub record Simulated (app : Application) (lu : List ℕ) (t : LinkWithReport) : Type 0 where
  pub told : Link
  pub kept : ConnectionInvariant app (view_of told)
  pub agreed : agreed_lu told.host.talk.state ≡ Some lu
  pub any : may_have_changed told.host.unheard ≡ true
  pub unsure : told.term.waits ≡ false
  pub marks : MarksInput app
  pub returning : HostReturns told.host
  pub display : told.term.display ≡ record t.told { keyboard = told.term.display.keyboard }
  pub waits : t.waits ≡ is_waiting told.term.display.keyboard.lock
  pub uncleared : t.cleared ≡ false
  pub blank : is_bound t.link.term ≡ false → fields told.term.display.screen.cells ≡ []
  pub host_here : t.link.host_here ≡ true
  pub term_here : is_some t.link.term_here ≡ true
  pub simulates : Simulates told t.link

-- where an LU was agreed on, both agreed
pub has_agreed : (lu : List ℕ) (state : HostState) → agreed_lu state ≡ Some lu → is_agreed state ≡ true
has_agreed lu (Agreed device granted) is = refl
has_agreed lu Offered is = absurd (cc)
has_agreed lu Asked is = absurd (cc)
has_agreed lu (Asking device) is = absurd (cc)
has_agreed lu (Named device granted) is = absurd (cc)
has_agreed lu (Countered device granted) is = absurd (cc)
has_agreed lu (Closed cause) is = absurd (cc)

pub agrees_now : {app : Application} {lu : List ℕ} {t : LinkWithReport} (s : Simulated app lu t) → is_agreed s.told.host.talk.state ≡ true
agrees_now {app} {lu} s = has_agreed lu s.told.host.talk.state s.agreed

-- What happens at the host's end, and on the way, leaves what is displayed. `end`: the waiting terminal's link then.
pub still_simulated : (app : Application) (lu : List ℕ) (t : LinkWithReport) (s : Simulated app lu t) (end link : Link) → end.term ≡ s.told.term → link.term ≡ t.link.term → link.term_here ≡ t.link.term_here → link.host_here ≡ t.link.host_here
    → ConnectionInvariant app (view_of end) → end.host.talk ≡ s.told.host.talk → may_have_changed end.host.unheard ≡ true → link.host ≡ end.host → link.lost ≡ end.lost → link.down ≡ end.down
    → HostReturns end.host → Says end.host end.up link.up → Simulated app lu (record t { link = link })
still_simulated app lu t s end link end_term link_term term_here host_here kept talk any host lost down returning up = record {
  told = end;
  kept = kept;
  agreed = ap (λ talk. agreed_lu talk.state) talk ∙ s.agreed;
  any = any;
  unsure = ap (λ (term : TermEnd). term.waits) end_term ∙ s.unsure;
  marks = s.marks;
  returning = returning;
  display = subst (λ (term : TermEnd). term.display ≡ record t.told { keyboard = term.display.keyboard }) (sym end_term) s.display;
  waits = s.waits ∙ ap (λ (term : TermEnd). is_waiting term.display.keyboard.lock) (sym end_term);
  uncleared = s.uncleared;
  blank = λ unbound. subst (λ (term : TermEnd). fields term.display.screen.cells ≡ []) (sym end_term) (s.blank (sym (ap is_bound link_term) ∙ unbound));
  host_here = host_here ∙ s.host_here;
  term_here = ap is_some term_here ∙ s.term_here;
  simulates = record {
    host = host;
    lost = lost;
    down = down;
    talk = ap (λ (term : TermEnd). term.talk) link_term ∙ s.simulates.talk ∙ ap (λ (term : TermEnd). term.talk) (sym end_term);
    up = up;
    since = subst (λ (term : TermEnd). Since term.display link.term.display) (sym end_term) (subst (λ (term : TermEnd). Since s.told.term.display term.display) (sym link_term) s.simulates.since);
  };
}

-- both ends say this
pub both_say : (end now : Link) (says : List ToHost) → now.lost ≡ end.lost → Says end.host end.up now.up → Says end.host (sent end.lost end.up says) (sent now.lost now.up says)
both_say end now says lost up = subst (λ (l : Bool). Says end.host (sent end.lost end.up says) (sent l now.up says)) (sym lost) (by_lost end.lost)
  where
    by_lost : (lost : Bool) → Says end.host (sent lost end.up says) (sent lost now.up says)
    by_lost true = up
    by_lost false = says_more end.host end.up now.up says up

-- ---- what the host makes of what both say

pub heads : (one other : ToHost) (rest more : List ToHost) → one ∷ rest ≡ other ∷ more → one ≡ other
heads one other rest more is = cc

pub tails : (one other : ToHost) (rest more : List ToHost) → one ∷ rest ≡ other ∷ more → rest ≡ more
tails one other rest more is = cc

-- what the waiting terminal says first, of which the host makes the same as of this message
pub record HeardAlike (pool : Answers) (conn : Session) (told : List ToHost) (message : ToHost) (others : List ToHost) : Type 0 where
  pub first : ToHost
  pub is : told ≡ first ∷ others
  pub same : took pool conn first ≡ took pool conn message
  pub turn : turn_after first conn.turn ≡ turn_after message conn.turn
  pub pending : pending_after first conn.pending ≡ pending_after message conn.pending

pub heard_alike : (pool : Answers) (conn : Session) (told said : List ToHost) (message : ToHost) (others : List ToHost) → is_agreed conn.talk.state ≡ true → said ≡ message ∷ others → SaysAlike conn told said → HeardAlike pool conn told message others
heard_alike pool conn told said message others agrees is (SaysAlike.same is_same) = record { first = message; is = sym is_same ∙ is; same = refl; turn = refl; pending = refl }
heard_alike pool conn told said message others agrees is (SaysAlike.checked number one other more pends skips one_kept other_kept is_told is_said) =
    subst (λ (m : ToHost). HeardAlike pool conn told m others) is_data (record {
      first = ToHost.Data (buffer_data conn.size one);
      is = is_told ∙ ap (λ (l : List ToHost). ToHost.Data (buffer_data conn.size one) ∷ l) is_more;
      same = skipped one one_kept ∙ sym (skipped other other_kept);
      turn = refl;
      pending = refl;
    })
  where
    both : ToHost.Data (buffer_data conn.size other) ∷ more ≡ message ∷ others
    both = sym is_said ∙ is

    is_data : ToHost.Data (buffer_data conn.size other) ≡ message
    is_data = heads _ _ _ _ both

    is_more : more ≡ others
    is_more = tails _ _ _ _ both

    skipped : (screen : Screen) → rule_break conn.shadow screen.cells ≡ None → took pool conn (ToHost.Data (buffer_data conn.size screen)) ≡ quiet (only_read conn)
    skipped screen unbroken = buffer_took pool conn conn.size screen number agrees pends (unbroken_read conn conn.size screen unbroken) ∙ buffer_skipped (buffer_data conn.size screen) conn skips

-- What bytes make of a terminal is what the items that they say make of it.
use Rattle.std.proofs.Common.{◌≡◌, ℕ, List, [], ◌∷◌, ◌++◌, sym, ◌∙◌, ap, subst, refl, None, Some, append_assoc}
use Rattle.std.proofs.lemmas.List.{append-nil}
use Rattle.std.proofs.lemmas.Grind.{flat_map-append}
use Rattle.telnet_wire.specs.Items.{WireItem, item_tokens, sent_bytes}
use Rattle.telnet_wire.specs.Token.{text}
use Rattle.telnet_wire.specs.Reading.{Rest, IsRest, Delivers}
use Rattle.telnet_wire.specs.Laws.{ReadingNothing, DeliveriesCompose}
use Rattle.tn3270e_msg.specs.TermTable.{Term}
use Rattle.tn3270e_msg.specs.declared.cause.Cause.{Cause}
use Rattle.tn3270e_msg.specs.declared.cause.Cause.TheVariants.{Wire}
use Rattle.tn3270e_msg.specs.Header.{record_limit}
use Rattle.term_core.specs.State.{Station, Terminal, Link, Attached, Closed}
use Rattle.term_core.specs.Items.{TakesItem}
use Rattle.term_core.specs.Bytes.{TakesByte, TakesBytes, before_byte}
use Rattle.term_core.specs.Laws.{TakesItems, IsByItems, BytesAreItems}

-- whether the last byte completed a write makes no difference to what comes
from_any : (talk after : Term) (old new : Station) (items says : List WireItem) → TakesItems talk (before_byte old) items says after new → TakesItems talk old items says after new
from_any talk after old new [] says taken = taken
from_any talk after old new (item ∷ items) says taken = taken

closed_or_attached : (cause : Cause) (rest : Rest) (talk : Term) → Closed cause ≡ Attached rest talk → ⊥
closed_or_attached cause rest talk e = cc

takes_attached : (cause : Cause) (old new : Terminal) (byte : ℕ) → old.link ≡ Closed cause → TakesByte old byte new → ⊥
takes_attached cause old new byte closed (TakesByte.goes_on rest to talk e d n) = closed_or_attached cause rest talk (sym closed ∙ e)
takes_attached cause old new byte closed (TakesByte.completes rest to talk after item says closes station e d i n) = closed_or_attached cause rest talk (sym closed ∙ e)
takes_attached cause old new byte closed (TakesByte.breaks rest talk fault e w n) = closed_or_attached cause rest talk (sym closed ∙ e)

-- a terminal that has closed stays so
stays_closed : (cause : Cause) (old new : Terminal) (bytes : List ℕ) (to : Rest) (after : Term)
    → old.link ≡ Closed cause → TakesBytes old bytes new → new.link ≡ Attached to after → ⊥
stays_closed cause old new [] to after closed same attached =
    closed_or_attached cause to after (sym closed ∙ sym (ap (λ (t : Terminal). t.link) same) ∙ attached)
stays_closed cause old new (byte ∷ bytes) to after closed taken attached = takes_attached cause old taken.0 byte closed taken.1

same_rest : (rest to : Rest) (talk after : Term) → Attached rest talk ≡ Attached to after → (rest ≡ to) × (talk ≡ after)
same_rest rest to talk after e = (cc, cc)

sent_both : (some others : List WireItem) → sent_bytes (some ++ others) ≡ sent_bytes some ++ sent_bytes others
sent_both some others = flat_map-append (λ (item : WireItem). text (item_tokens item)) some others

module _ (reads_nothing : ReadingNothing) (compose : DeliveriesCompose) where
  no_bytes : (old new : Terminal) (rest to : Rest) (talk after : Term) → old.link ≡ Attached rest talk → IsRest record_limit rest → new.link ≡ Attached to after → new ≡ old
      → IsByItems old rest talk [] new to after
  no_bytes old new rest to talk after is rested attached same =
      let both = same_rest rest to talk after (sym is ∙ sym (ap (λ (t : Terminal). t.link) same) ∙ attached) in
      let nothing_read : Delivers record_limit rest [] [] rest = record { tokens = []; reads = reads_nothing record_limit rest; is_rest = rested; said = refl } in
      record {
        items = [];
        says = [];
        delivers = subst (λ (r : Rest). Delivers record_limit rest [] [] r) both.0 nothing_read;
        takes = (refl, sym both.1, ap (λ (t : Terminal). before_byte t.station) same);
        sends = ap (λ (t : Terminal). t.out) same ∙ sym (append-nil old.out);
      }

  after_byte : (old mid new : Terminal) (rest between to : Rest) (talk after : Term) (byte : ℕ) (bytes : List ℕ)
      → Delivers record_limit rest (byte ∷ []) [] between
      → mid ≡ record { link = Attached between talk; station = before_byte old.station; out = old.out }
      → IsByItems mid between talk bytes new to after → IsByItems old rest talk (byte ∷ bytes) new to after
  after_byte old mid new rest between to talk after byte bytes delivers is then = record {
    items = then.items;
    says = then.says;
    delivers = compose record_limit rest between to (byte ∷ []) bytes [] then.items delivers then.delivers;
    takes = from_any talk after old.station new.station then.items then.says
        (subst (λ (t : Terminal). TakesItems talk t.station then.items then.says after new.station) is then.takes);
    sends = then.sends ∙ ap (λ (t : Terminal). t.out ++ sent_bytes then.says) is;
  }

  after_item : (old mid new : Terminal) (rest between to : Rest) (talk next after : Term) (station : Station) (byte : ℕ) (bytes : List ℕ) (item : WireItem) (says : List WireItem)
      → Delivers record_limit rest (byte ∷ []) (item ∷ []) between
      → TakesItem talk (before_byte old.station) item says None next station
      → mid ≡ record { link = Attached between next; station = station; out = old.out ++ sent_bytes says }
      → IsByItems mid between next bytes new to after → IsByItems old rest talk (byte ∷ bytes) new to after
  after_item old mid new rest between to talk next after station byte bytes item says delivers takes is then = record {
    items = item ∷ then.items;
    says = says ++ then.says;
    delivers = compose record_limit rest between to (byte ∷ []) bytes (item ∷ []) then.items delivers then.delivers;
    takes = (
      next,
      station,
      says,
      then.says,
      takes,
      subst (λ (t : Terminal). TakesItems next t.station then.items then.says after new.station) is then.takes,
      refl,
    );
    sends = then.sends ∙ ap (λ (t : Terminal). t.out ++ sent_bytes then.says) is
        ∙ append_assoc old.out (sent_bytes says) (sent_bytes then.says)
        ∙ ap (λ (bytes : List ℕ). old.out ++ bytes) (sym (sent_both says then.says));
  }

  link_is : (mid : Terminal) (link : Link) (station : Station) (out : List ℕ) → mid ≡ record { link = link; station = station; out = out } → mid.link ≡ link
  link_is mid link station out e = ap (λ (t : Terminal). t.link) e

  by_byte : (old mid new : Terminal) (rest to : Rest) (talk after : Term) (byte : ℕ) (bytes : List ℕ)
      → old.link ≡ Attached rest talk → new.link ≡ Attached to after → TakesByte old byte mid → TakesBytes mid bytes new
      → ((between : Rest) (next : Term) → mid.link ≡ Attached between next → IsRest record_limit between → IsByItems mid between next bytes new to after)
      → IsByItems old rest talk (byte ∷ bytes) new to after
  by_byte old mid new rest to talk after byte bytes is attached (TakesByte.goes_on from between talks e d n) taken then =
      let both = same_rest from rest talks talk (sym e ∙ is) in
      let stays = subst (λ (t : Term). mid ≡ record { link = Attached between t; station = before_byte old.station; out = old.out }) both.1 n in
      after_byte old mid new rest between to talk after byte bytes (subst (λ (r : Rest). Delivers record_limit r (byte ∷ []) [] between) both.0 d) stays
      (then between talk (ap (λ (t : Terminal). t.link) stays) d.is_rest)
  by_byte old mid new rest to talk after byte bytes is attached (TakesByte.completes from between talks next item says None station e d i n) taken then =
      let both = same_rest from rest talks talk (sym e ∙ is) in
      after_item old mid new rest between to talk next after station byte bytes item says
      (subst (λ (r : Rest). Delivers record_limit r (byte ∷ []) (item ∷ []) between) both.0 d)
      (subst (λ (t : Term). TakesItem t (before_byte old.station) item says None next station) both.1 i) n
      (then between next (ap (λ (t : Terminal). t.link) n) d.is_rest)
  by_byte old mid new rest to talk after byte bytes is attached (TakesByte.completes from between talks next item says (Some cause) station e d i n) taken then =
      absurd (stays_closed cause mid new bytes to after (ap (λ (t : Terminal). t.link) n) taken attached)
  by_byte old mid new rest to talk after byte bytes is attached (TakesByte.breaks from talks fault e w n) taken then =
      absurd (stays_closed Wire mid new bytes to after (ap (λ (t : Terminal). t.link) n) taken attached)

  pub bytes_are_items : BytesAreItems
  bytes_are_items old new rest to talk after [] is rested attached same = no_bytes old new rest to talk after is rested attached same
  bytes_are_items old new rest to talk after (byte ∷ bytes) is rested attached taken =
      by_byte old taken.0 new rest to talk after byte bytes is attached taken.1 taken.2
      (λ between next there resting. bytes_are_items taken.0 new between to next after bytes there resting attached taken.2)

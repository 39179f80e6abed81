-- Notes for each number, and open connections, one number more; and that a text of `control` is a note's text.
use Rattle.std.proofs.Common.{◌≡◌, ◌≢◌, ◌==◌, ◌||◌, ◌+◌, ◌∙◌, add-one, ap, arith, not, nat_lt, refl, subst, sym, ℕ, Bool, false, true, List, [], ◌∷◌, IsTrue, Option, Result, Ok, Err, is_some, length}
use Rattle.std.proofs.lemmas.Bool.{and_parts, eqb-false, eqb-true}
use Rattle.std.proofs.lemmas.Bool.Decides.{nat_tests}
use Rattle.std.proofs.lemmas.List.Elements.{All-from_recursion}
use Rattle.std.specs.Prelude.{OnErr, OnOk}
use Rattle.std.specs.List.{AllByRecursion, list_all}
use Rattle.service_wire.specs.Texts.{is_graphic, is_text, longest_text}
use Rattle.service_wire.specs.declared.command.Recipient.{Recipient}
use Rattle.host_core.specs.Notes.{IsNoteText, is_graphic as is_note_character}
use Rattle.host_core.specs.State.{Host, Service, phase_of}
use Rattle.host_core.specs.declared.phase.Phase.{Phase}
use Rattle.host_core.specs.declared.phase.Phase.TheVariants as phase
use Rattle.server.specs.Apart.{service_at}
use Rattle.server.specs.Hosts.{AreOwned, Hosts, IsFreePlace, most_earlier, reloaded}
use Rattle.server.specs.declared.hosts.ReloadFault.{ReloadFault}
use Rattle.server.specs.declared.hosts.ReloadFault.TheVariants as reload_fault
use Rattle.jobs.specs.declared.fault.Fault.{Fault}
use Rattle.service_events.specs.declared.notice.Notice.{Notice}
use Rattle.server.specs.Visits.{VisitsEach}
use Rattle.jobs.specs.Sockets.{is_connected, slot_at}
use Rattle.server.specs.Control.{DeliversAt, DeliversBelow, EndsTalkingAt, NobodyTalksBelow, Reloads, has_recipient_below, is_open_below, is_talking, queued_below, recipient_at, refused, reloads, with_waiting}
use Rattle.server.specs.declared.note_queue.WaitingNote.{WaitingNote}
use Rattle.server.specs.declared.server.Server.{Server}

-- ---- texts

are_graphic : (codes : List ℕ) → list_all is_graphic codes ≡ true → AllByRecursion (λ (byte : ℕ). IsTrue (is_note_character byte)) codes
are_graphic [] is = tt
are_graphic (code ∷ codes) is =
    let parts = and_parts (is_graphic code) (list_all is_graphic codes) is in
    (parts.0, are_graphic codes parts.1)

pub is_note_text : (codes : List ℕ) → IsTrue (is_text codes) → IsNoteText codes
is_note_text codes is =
    let parts = and_parts (not (nat_lt longest_text (length codes))) (list_all is_graphic codes) is in
    record {
      short = (let short : not (nat_lt 131 (length codes)) ≡ true = parts.0 in grind (arith, nat_tests, short));
      graphic = All-from_recursion (λ (byte : ℕ). IsTrue (is_note_character byte)) codes (are_graphic codes parts.1);
    }

module _ {S : Type 0} where
  -- ---- open connections

  pub none_open : (server : Server S) → false ≡ is_open_below 0 server
  unfolding is_open_below
  none_open server = refl

  pub open_more : (conn : ℕ) (server : Server S) (is_any : Bool) → is_any ≡ is_open_below conn server
      → (is_any || is_connected (slot_at conn server.sockets)) ≡ is_open_below (conn + 1) server
  unfolding is_open_below
  open_more conn server is_any is =
      ap (λ (b : Bool). b || is_connected (slot_at conn server.sockets)) is
      ∙ ap (λ (n : ℕ). is_open_below n server) (sym (add-one conn))

  -- ---- recipients

  module _ (to : Recipient) (text : List ℕ) (server : Server S) where
    pub none_queued : (notes : List (Option WaitingNote)) → (notes ≡ queued_below to text server 0 notes) × (false ≡ has_recipient_below to server 0)
    unfolding queued_below has_recipient_below
    none_queued notes = (refl, refl)

    pub one_queued : (conn : ℕ) (notes so_far : List (Option WaitingNote)) → so_far ≡ queued_below to text server conn notes
        → with_waiting (recipient_at to server conn) conn text so_far ≡ queued_below to text server (conn + 1) notes
    unfolding queued_below
    one_queued conn notes so_far is =
        ap (with_waiting (recipient_at to server conn) conn text) is
        ∙ ap (λ (n : ℕ). queued_below to text server n notes) (sym (add-one conn))

    pub one_found : (conn : ℕ) (found : Bool) → found ≡ has_recipient_below to server conn
        → (found || is_some (recipient_at to server conn)) ≡ has_recipient_below to server (conn + 1)
    unfolding has_recipient_below
    one_found conn found is =
        ap (λ (b : Bool). b || is_some (recipient_at to server conn)) is
        ∙ ap (λ (n : ℕ). has_recipient_below to server n) (sym (add-one conn))

  -- ---- deliveries

  pub none_delivered : (server : Server S) (notes : List (Option WaitingNote)) → DeliversBelow 0 server notes false server notes
  unfolding DeliversBelow
  none_delivered server notes = (refl, refl, refl)

  pub one_delivered : (conn : ℕ) (old mid new : Server S) (notes rest left : List (Option WaitingNote)) (before one : Bool)
      → DeliversBelow conn old notes before mid rest → DeliversAt conn mid rest one new left
      → DeliversBelow (conn + 1) old notes (before || one) new left
  unfolding DeliversBelow
  one_delivered conn old mid new notes rest left before one so_far this =
      subst (λ n. DeliversBelow n old notes (before || one) new left) (sym (add-one conn)) (before, one, mid, rest, so_far, this, refl)

-- ---- no connection negotiates

pub none_settled : (hosts : Hosts) → NobodyTalksBelow 0 hosts
none_settled hosts conn below = absurd (omega (arith, below))

pub one_settled : (conn : ℕ) (old new : Hosts) → NobodyTalksBelow conn old → phase_of (service_at conn new) ≢ phase.Talking
    → ((other : ℕ) → other ≢ conn → service_at other new ≡ service_at other old) → NobodyTalksBelow (conn + 1) new
one_settled conn old new before here others other below = by_test (other == conn) refl
  where
    by_test : (b : Bool) → (other == conn) ≡ b → phase_of (service_at other new) ≢ phase.Talking
    by_test true e = subst (λ (n : ℕ). phase_of (service_at n new) ≢ phase.Talking) (sym (eqb-true other conn e)) here
    by_test false e =
        let ne : other ≢ conn = eqb-false other conn e in
        subst (λ (service : Service). phase_of service ≢ phase.Talking) (sym (others other ne)) (before other (omega (arith, below, ne)))

pub not_talking : (now : Phase) → is_talking now ≡ false → now ≢ phase.Talking
not_talking now quiet talks = let both : true ≡ false = sym (ap is_talking talks) ∙ quiet in cc

pub is_free_now : (now : Phase) → now ≡ phase.Free → now ≢ phase.Talking
is_free_now now free talks = let both : phase.Free ≡ phase.Talking = sym free ∙ talks in cc

-- ---- the panels are read again

module _ {S W : Type 0} (noticed : W → Notice → Result Unit Fault → W → Type 0) (showed : W → Host → ℕ → Result Unit Fault → W → Type 0) where
  pub reload_is : (host : Host) (old mid : Server S) (watcher after : W) (ended : Bool) (answer : Result Unit ReloadFault) (hosts : Hosts)
      → VisitsEach (EndsTalkingAt noticed showed) old watcher (Ok ended) mid after
      → OnOk answer ((place : ℕ) × IsFreePlace place mid.hosts.owners × (hosts ≡ reloaded place host mid.hosts)) → OnErr answer (hosts ≡ mid.hosts)
      → (answer ≡ Err reload_fault.TooMany → AreOwned most_earlier mid.hosts.owners) → Reloads noticed showed host old watcher (Ok answer) (record mid { hosts = hosts }) after
  reload_is host old mid watcher after ended (Ok done) hosts ends becomes same full =
      reloads ended becomes.0 mid ends becomes.1 (ap (λ (it : Hosts). record mid { hosts = it }) becomes.2) refl
  reload_is host old mid watcher after ended (Err why) hosts ends becomes same full =
      refused ended why (subst (λ (it : Hosts). VisitsEach (EndsTalkingAt noticed showed) old watcher (Ok ended) (record mid { hosts = it }) after) (sym same) ends)
      (λ is. subst (λ (it : Hosts). AreOwned most_earlier it.owners) (sym same) (full (ap Err is))) refl

-- A read and a write of the numbers, from those of one number.
use Rattle.std.proofs.Common.{◌≡◌, ◌<◌, ◌≤◌, ◌+◌, ◌∙◌, ◌||◌, ℕ, List, [], length, Result, get_or, slice_index_or, slice_set, ◌≢◌, ⊎_elim, refl, sym, ap, subst}
use Rattle.std.proofs.Math.Bool.{or-false}
use Rattle.std.proofs.lemmas.Bool.{cases_eq}
use Rattle.std.proofs.lemmas.List.{get_or-set_same, get_or-set_other, get_or_past, get_or_read_under, set-get_or}
use Rattle.std.specs.declared.io.Error.{Error}
use Rattle.host_core.specs.Serves.{ReadCounts, WriteCounts}
use Rattle.host_core.specs.declared.links.LinkRead.{LinkRead}
use Rattle.host_core.specs.declared.links.LinkRead.TheVariants as read
use Rattle.host_core.specs.declared.links.LinkWrite.{LinkWrite}
use Rattle.host_core.specs.declared.links.LinkWrite.TheVariants as write
use Rattle.jobs.specs.Sockets.{Gives, GivesAt, SocketSlot, Sockets, Takes, TakesAt, ends_at, failures_at, has_got, has_taken, slot_at, unread, unused, unwritten}

-- ---- the counts of the numbers, where one slot was changed

module _ {S : Type 0} (old new : Sockets S) (conn : ℕ) (there : conn < length old.slots) (slot : SocketSlot S)
    (slots : new.slots ≡ slice_set old.slots conn slot) where
  pub slot_here : slot_at conn new ≡ slot
  slot_here = ap (λ (all : List (SocketSlot S)). get_or all conn unused) slots ∙ get_or-set_same old.slots conn slot unused there

  slot_there : (other : ℕ) → (other ≡ conn → ⊥) → slot_at other new ≡ slot_at other old
  slot_there other differs = ap (λ (all : List (SocketSlot S)). get_or all other unused) slots ∙ get_or-set_other old.slots conn other slot unused differs

  slot_read : (slot_old : SocketSlot S) → slot_old ≡ slice_index_or old.slots conn slot_old → slot_old ≡ slot_at conn old
  slot_read slot_old is = get_or_read_under old.slots conn (length old.slots) slot_old unused is there refl

  -- a number of each slot, which the change of this one raises or leaves
  stays_at : (count : SocketSlot S → ℕ) → count slot ≡ count (slot_at conn old) → (other : ℕ) → count (slot_at other new) ≡ count (slot_at other old)
  stays_at count same other =
      ⊎_elim
      (λ (is : other ≡ conn). ap (λ (n : ℕ). count (slot_at n new)) is ∙ ap count slot_here ∙ same ∙ ap (λ (n : ℕ). count (slot_at n old)) (sym is))
      (λ (differs : other ≡ conn → ⊥). ap count (slot_there other differs))
      (cases_eq other conn)

  rises_at : (count : SocketSlot S → ℕ) → count slot ≡ count (slot_at conn old) + 1
      → (count (slot_at conn new) ≡ count (slot_at conn old) + 1) × ((other : ℕ) → other ≢ conn → count (slot_at other new) ≡ count (slot_at other old))
  rises_at count rises = (ap count slot_here ∙ rises, λ other differs. ap count (slot_there other differs))

  pub read_counts : (slot_old : SocketSlot S) → slot_old ≡ slice_index_or old.slots conn slot_old → (gave : S → ℕ → List ℕ → Result ℕ Error → S → Type 0) (room : ℕ) (bytes : List ℕ) (answer : LinkRead)
      → Gives gave slot_old room bytes answer slot
      → ReadCounts conn answer (λ n. ends_at n old) (λ n. ends_at n new) (λ n. failures_at n old) (λ n. failures_at n new)
  read_counts slot_old slot_is gave room bytes (read.Got count) gives = (
    stays_at (λ p. p.ends) (gives.4 ∙ ap (λ (p : SocketSlot S). p.ends) (slot_read slot_old slot_is)),
    stays_at (λ p. p.failures) (gives.5 ∙ ap (λ (p : SocketSlot S). p.failures) (slot_read slot_old slot_is)),
  )
  read_counts slot_old slot_is gave room bytes read.NotNow gives = (
    stays_at (λ p. p.ends) (gives.3 ∙ ap (λ (p : SocketSlot S). p.ends) (slot_read slot_old slot_is)),
    stays_at (λ p. p.failures) (gives.4 ∙ ap (λ (p : SocketSlot S). p.failures) (slot_read slot_old slot_is)),
  )
  read_counts slot_old slot_is gave room bytes read.Ended gives = (
    rises_at (λ p. p.ends) (gives.3 ∙ ap (λ (p : SocketSlot S). p.ends + 1) (slot_read slot_old slot_is)),
    stays_at (λ p. p.failures) (gives.4 ∙ ap (λ (p : SocketSlot S). p.failures) (slot_read slot_old slot_is)),
  )
  read_counts slot_old slot_is gave room bytes read.Failed gives = (
    stays_at (λ p. p.ends) (gives.3 ∙ ap (λ (p : SocketSlot S). p.ends) (slot_read slot_old slot_is)),
    rises_at (λ p. p.failures) (gives.4 ∙ ap (λ (p : SocketSlot S). p.failures + 1) (slot_read slot_old slot_is)),
  )

  pub write_counts : (slot_old : SocketSlot S) → slot_old ≡ slice_index_or old.slots conn slot_old → (took : S → List ℕ → Result ℕ Error → S → Type 0) (bytes : List ℕ) (answer : LinkWrite)
      → Takes took slot_old bytes answer slot
      → WriteCounts conn answer (λ n. ends_at n old) (λ n. ends_at n new) (λ n. failures_at n old) (λ n. failures_at n new)
  write_counts slot_old slot_is took bytes (write.Took count) takes = (
    stays_at (λ p. p.ends) (takes.4 ∙ ap (λ (p : SocketSlot S). p.ends) (slot_read slot_old slot_is)),
    stays_at (λ p. p.failures) (takes.5 ∙ ap (λ (p : SocketSlot S). p.failures) (slot_read slot_old slot_is)),
  )
  write_counts slot_old slot_is took bytes write.NotNow takes = (
    stays_at (λ p. p.ends) (takes.2 ∙ ap (λ (p : SocketSlot S). p.ends) (slot_read slot_old slot_is)),
    stays_at (λ p. p.failures) (takes.3 ∙ ap (λ (p : SocketSlot S). p.failures) (slot_read slot_old slot_is)),
  )
  write_counts slot_old slot_is took bytes write.Failed takes = (
    stays_at (λ p. p.ends) (takes.2 ∙ ap (λ (p : SocketSlot S). p.ends) (slot_read slot_old slot_is)),
    rises_at (λ p. p.failures) (takes.3 ∙ ap (λ (p : SocketSlot S). p.failures + 1) (slot_read slot_old slot_is)),
  )

  pub gives_at : (slot_old : SocketSlot S) → slot_old ≡ slice_index_or old.slots conn slot_old → (gave : S → ℕ → List ℕ → Result ℕ Error → S → Type 0) (room : ℕ) (bytes : List ℕ) (answer : LinkRead)
      → new.moved ≡ (old.moved || has_got answer) → Gives gave slot_old room bytes answer slot → GivesAt gave old conn room bytes answer new
  gives_at slot_old slot_is gave room bytes answer moved gives = record {
    gives = subst (Gives gave (slot_at conn old) room bytes answer) (sym slot_here)
        (subst (λ (it : SocketSlot S). Gives gave it room bytes answer slot) (slot_read slot_old slot_is) gives);
    moved = moved;
    others = slots ∙ ap (λ (it : SocketSlot S). slice_set old.slots conn it) (sym slot_here);
  }

  pub takes_at : (slot_old : SocketSlot S) → slot_old ≡ slice_index_or old.slots conn slot_old → (took : S → List ℕ → Result ℕ Error → S → Type 0) (bytes : List ℕ) (answer : LinkWrite)
      → new.moved ≡ (old.moved || has_taken answer) → Takes took slot_old bytes answer slot → TakesAt took old conn bytes answer new
  takes_at slot_old slot_is took bytes answer moved takes = record {
    takes = subst (Takes took (slot_at conn old) bytes answer) (sym slot_here)
        (subst (λ (it : SocketSlot S). Takes took it bytes answer slot) (slot_read slot_old slot_is) takes);
    moved = moved;
    others = slots ∙ ap (λ (it : SocketSlot S). slice_set old.slots conn it) (sym slot_here);
  }

-- ---- a number that isn't there

module _ {S : Type 0} (sockets : Sockets S) (conn : ℕ) (absent : length sockets.slots ≤ conn) where
  nobody : unused ≡ slot_at conn sockets
  nobody = sym (get_or_past sockets.slots conn unused absent)

  pub gives_nothing : (gave : S → ℕ → List ℕ → Result ℕ Error → S → Type 0) (room : ℕ) → GivesAt gave sockets conn room [] read.NotNow sockets
  gives_nothing gave room = record {
    gives = subst (λ (it : SocketSlot S). Gives gave it room [] read.NotNow it) nobody (unread refl refl, refl, refl, refl, refl, refl, refl);
    moved = sym (or-false sockets.moved);
    others = sym (set-get_or sockets.slots conn unused);
  }

  pub takes_nothing : (took : S → List ℕ → Result ℕ Error → S → Type 0) (bytes : List ℕ) → TakesAt took sockets conn bytes write.NotNow sockets
  takes_nothing took bytes = record {
    takes = subst (λ (it : SocketSlot S). Takes took it bytes write.NotNow it) nobody (unwritten refl refl, refl, refl, refl, refl, refl);
    moved = sym (or-false sockets.moved);
    others = sym (set-get_or sockets.slots conn unused);
  }

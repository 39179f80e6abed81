-- Two appending calls, one after the other.
use Rattle.std.proofs.Common.{◌≡◌, ℕ, Bool, true, false, List, [], ◌∷◌, ◌++◌, Result, Ok, Err, refl, ap, sym, ◌∙◌, append_assoc, append-nil}
use Rattle.std.specs.Prelude.{Vec}
use Rattle.std.specs.Borrow.{MutBor}
use Rattle.codes3270.proofs.Appendings.{IsAppending, appending_from, appending_more, appending_stopped, appending_done, some_from, some_then, some_longer}
use Rattle.datastream.specs.Writing.{Writes, order_bytes, orders_bytes}
use Rattle.datastream.specs.declared.order.Order.{Order}
use Rattle.datastream.specs.declared.order.Order.TheVariants.{Sba}
use Rattle.shadow.specs.Appending.{WritesSome}
use Rattle.shadow.specs.Paint.{sba_unless}

pub first_refused : {A E : Type 0} (a b : MutBor (Vec ℕ A)) (e : E) (x y total : List ℕ) → total ≡ x ++ y → Writes a b (Err e) x → WritesSome a b (Err e) total
first_refused a b e x y total is h = record {
  same_vector = h.same_vector;
  appends = rw is (some_longer a.now b.now e e x y (some_from a.now b.now (Err e) x h.appends));
}

pub one_more : {A E : Type 0} (a b c : MutBor (Vec ℕ A)) (r : Result (Unit {0}) E) (x y total : List ℕ) → total ≡ x ++ y → Writes {E = E} a b (Ok tt) x → Writes b c r y → WritesSome a c r total
one_more {E = E} a b c r x y total is h k = record {
  same_vector = k.same_vector ∙ h.same_vector;
  appends = rw is (some_then {F = E} a.now b.now c.now tt r x y (some_from {E = E} a.now b.now (Ok tt) x h.appends) (some_from b.now c.now r y k.appends));
}

pub stored_bytes : (there : Bool) (address : ℕ) (order : Order) → orders_bytes (sba_unless there address (order ∷ [])) ≡ orders_bytes (sba_unless there address []) ++ order_bytes order
stored_bytes true address order = append-nil (order_bytes order)
stored_bytes false address order = append_assoc (order_bytes (Sba address)) (order_bytes order) [] ∙ ap (λ (more : List ℕ). order_bytes (Sba address) ++ more) (append-nil (order_bytes order)) ∙ ap (λ (first : List ℕ). first ++ order_bytes order) (sym (append-nil (order_bytes (Sba address))))

-- ---- a call within a longer one

-- what was put so far, and what is to come
pub record IsUnderWay {A : Type 0} (start now : MutBor (Vec ℕ A)) (rest total : List ℕ) : Type 0 where
  pub same_vector : now.ghost_name ≡ start.ghost_name
  pub appending : IsAppending start.now now.now rest total

pub under_way : {A : Type 0} (start : MutBor (Vec ℕ A)) (total : List ℕ) → IsUnderWay start start total total
under_way start total = record { same_vector = refl; appending = appending_from start.now total }

pub goes_on : {A E : Type 0} (start now new : MutBor (Vec ℕ A)) (piece rest more total : List ℕ) → more ≡ piece ++ rest → IsUnderWay start now more total → WritesSome {E = E} now new (Ok tt) piece → IsUnderWay start new rest total
goes_on {E = E} start now new piece rest more total is h k = record {
  same_vector = k.same_vector ∙ h.same_vector;
  appending = appending_more {E = E} start.now now.now new.now tt piece rest total (rw is at h.appending) k.appends;
}

pub ends : {A E : Type 0} (start now new : MutBor (Vec ℕ A)) (r : Result (Unit {0}) E) (piece rest more total : List ℕ) → more ≡ piece ++ rest → (r ≡ Ok tt → rest ≡ []) → IsUnderWay start now more total → WritesSome now new r piece → WritesSome start new r total
ends {E = E} start now new (Ok tt) piece rest more total is last h k = record {
  same_vector = k.same_vector ∙ h.same_vector;
  appends =
      appending_done {E = E} start.now new.now tt total
      (rw (last refl) at (appending_more {E = E} start.now now.now new.now tt piece rest total (rw is at h.appending) k.appends));
}
ends start now new (Err e) piece rest more total is last h k = record {
  same_vector = k.same_vector ∙ h.same_vector;
  appends = appending_stopped start.now now.now new.now e e piece rest total (rw is at h.appending) k.appends;
}

pub begun : {A E : Type 0} (start now : MutBor (Vec ℕ A)) (x rest total : List ℕ) → total ≡ x ++ rest → Writes {E = E} start now (Ok tt) x → IsUnderWay start now rest total
begun {E = E} start now x rest total is h =
    goes_on {E = E} start start now x rest total total is (under_way start total)
    (record { same_vector = h.same_vector; appends = some_from {E = E} start.now now.now (Ok tt) x h.appends })

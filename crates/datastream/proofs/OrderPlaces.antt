-- The orders of a write by their places: the progress before each, and whether a PT there inserts nulls.
use Rattle.std.proofs.Common.{◌≡◌, ◌⊎◌, ℕ, ◌+◌, ◌<◌, ◌≤◌, suc, zero, Bool, true, false, List, [], ◌∷◌, ◌++◌, length, take, get_or, arith, refl, sym, ◌∙◌, ap, inl, inr}
use Rattle.std.proofs.lemmas.List.{take_more, take_all}
use Rattle.std.proofs.lemmas.Bool.{and_parts, and_from}
use Rattle.datastream.specs.declared.order.Order.TheVariants.{Sf, Sba, Ic, Pt, Ra, Eua, Char}
use Rattle.datastream.specs.OrderPlaces.{IsData, MeetsNone, ByPlace}
use Rattle.datastream.specs.declared.order.Order.{Order}
use Rattle.datastream.specs.Meaning.{WriteProgress, executed, all_executed}

-- the order behind others acts on what they made
pub all_executed_push : (before : List Order) (order : Order) (start : WriteProgress) → all_executed (before ++ order ∷ []) start ≡ executed order (all_executed before start)
all_executed_push [] order start = refl
all_executed_push (first ∷ before) order start = all_executed_push before order (executed first start)

-- the rule on the order before
lets_from : (order : Order) (write : WriteProgress) → (executed order write).after_data ≡ true → IsData order ⊎ ((order ≡ Pt) × (write.after_data ≡ true) × MeetsNone write)
lets_from (Char byte) write e = inl (byte, refl)
lets_from Pt write e = let both = and_parts _ _ e in inr (refl, both.0, both.1)
lets_from (Sf attribute) write e = cc
lets_from (Sba address) write e = cc
lets_from Ic write e = cc
lets_from (Ra stop byte) write e = cc
lets_from (Eua stop) write e = cc

from_lets : (order : Order) (write : WriteProgress) → IsData order ⊎ ((order ≡ Pt) × (write.after_data ≡ true) × MeetsNone write) → (executed order write).after_data ≡ true
from_lets order write (inl (byte, is)) = rw is refl
from_lets order write (inr (is, after, none)) = rw is (and_from _ _ after none)

same_truth : (a b : Bool) → (a ≡ true → b ≡ true) → (b ≡ true → a ≡ true) → a ≡ b
same_truth true b there back = sym (there refl)
same_truth false true there back = back refl
same_truth false false there back = refl

same_progress : (one other : WriteProgress) → one.screen ≡ other.screen → one.address ≡ other.address → one.after_data ≡ other.after_data → one ≡ other
same_progress one other screen address after_data = λ i. record { screen = screen i; address = address i; after_data = after_data i }

-- the progress before a place is that of the orders before it
pub by_place : (orders : List Order) (start : WriteProgress) → ByPlace orders start (λ place. all_executed (take place orders) start)
by_place orders start =
    let next : (place : ℕ) → place < length orders → all_executed (take (place + 1) orders) start ≡ executed (get_or orders place Pt) (all_executed (take place orders) start) =
    λ place below. ap (λ (all : List Order). all_executed all start) (take_more orders place Pt below) ∙ all_executed_push (take place orders) (get_or orders place Pt) start in
    record {
      starts = refl;
      screen = λ place below. ap (λ (write : WriteProgress). write.screen) (next place below);
      address = λ place below. ap (λ (write : WriteProgress). write.address) (next place below);
      next = λ place below. rw (next place below) (lets_from _ _, from_lets _ _);
    }

pub ends_by_place : (orders : List Order) (start : WriteProgress) → all_executed (take (length orders) orders) start ≡ all_executed orders start
ends_by_place orders start = ap (λ (all : List Order). all_executed all start) (take_all (length orders) orders (omega arith))

pub only_by_place : (orders : List Order) (start : WriteProgress) (at : ℕ → WriteProgress) → ByPlace orders start at → at (length orders) ≡ all_executed orders start
only_by_place orders start at goes = up_to (length orders) (omega arith) ∙ ends_by_place orders start
  where
    up_to : (place : ℕ) → place ≤ length orders → at place ≡ all_executed (take place orders) start
    up_to zero below = goes.starts
    up_to (suc place) below =
        let same : suc place ≡ place + 1 = omega arith in
        let inside : place < length orders = omega arith in
        let order : Order = get_or orders place Pt in
        let here : at (place + 1) ≡ executed order (at place) =
        same_progress (at (place + 1)) (executed order (at place)) (goes.screen place inside) (goes.address place inside)
        (same_truth (at (place + 1)).after_data (executed order (at place)).after_data
        (λ e. from_lets order (at place) ((goes.next place inside).0 e))
        (λ e. (goes.next place inside).1 (lets_from order (at place) e))) in
        ap at same ∙ here ∙ ap (executed order) (up_to place (omega arith)) ∙ sym (all_executed_push (take place orders) order start)
        ∙ ap (λ (all : List Order). all_executed all start) (sym (take_more orders place Pt inside) ∙ ap (λ (n : ℕ). take n orders) (sym same))

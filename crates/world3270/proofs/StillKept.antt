-- What a screen keeps of the one that was left, it keeps while input goes on over it.
use Rattle.std.proofs.Common.{◌≡◌, ◌||◌, ◌+◌, ◌<◌, ℕ, zero, suc, Bool, true, false, Option, None, Some, List, [], ◌∷◌, ◌++◌, length, take, drop, refl, ap, sym, subst, ◌∙◌}
use Rattle.std.specs.Prelude.{⊤, slice_index_or}
use Rattle.std.specs.Option.{option_or}
use Rattle.codes3270.specs.declared.attribute.Attr.{Attr as Attribute}
use Rattle.codes3270.specs.declared.attribute.Cell.{Cell}
use Rattle.codes3270.specs.declared.attribute.Cell.TheVariants.{Char, Attr}
use Rattle.datastream.specs.KeptByKeys.{AttrHeld, KeptByKeys, Hold, hold_of, hold_under}
use Rattle.datastream.specs.HeldLaws.{HeldIsRound}
use Rattle.datastream.specs.HeldRound.{HeldFrom}
use Rattle.datastream.specs.Screen.{attribute_over, is_char, last_attribute, protects, ring}
use Rattle.world3270.specs.statement.AsLeft.{ProtectedIsAsLeft}
use Rattle.world3270.specs.refinement.Unreturned.{IsInUnmodified, IsKept, UnmodifiedIsKept}
use Rattle.world3270.proofs.Unreturned.{cell_kept, held_attribute, held_cell, held_places, places_compose}

-- ---- attributes, cell by cell

abbrev pub AlikeCell : Bool → Cell → Cell → Type 0
AlikeCell more (Char left) (Char now) = ⊤
AlikeCell more (Char left) (Attr now) = ⊥
AlikeCell more (Attr left) (Char now) = ⊥
AlikeCell more (Attr left) (Attr now) = AttrHeld more left now

abbrev pub Alike : Bool → List Cell → List Cell → Type 0
Alike more [] [] = ⊤
Alike more [] (now ∷ nows) = ⊥
Alike more (left ∷ lefts) [] = ⊥
Alike more (left ∷ lefts) (now ∷ nows) = AlikeCell more left now × Alike more lefts nows

pub walked : (more : Bool) (hold : Hold) (lefts nows : List Cell) → HeldFrom more hold lefts nows → Alike more lefts nows
walked more hold [] [] held = tt
walked more hold [] (now ∷ nows) held = absurd held
walked more hold (left ∷ lefts) [] held = absurd held
walked more hold (Char left ∷ lefts) (Char now ∷ nows) held = (tt, walked more hold lefts nows held.1)
walked more hold (Char left ∷ lefts) (Attr now ∷ nows) held = absurd held
walked more hold (Attr left ∷ lefts) (Char now ∷ nows) held = absurd held
walked more hold (Attr left ∷ lefts) (Attr now ∷ nows) held = (held.0, walked more (hold_of more now) lefts nows held.1)

dropped : (more : Bool) (n : ℕ) (lefts nows : List Cell) → Alike more lefts nows → Alike more (drop n lefts) (drop n nows)
dropped more zero lefts nows alike = alike
dropped more (suc n) [] [] alike = tt
dropped more (suc n) [] (now ∷ nows) alike = absurd alike
dropped more (suc n) (left ∷ lefts) [] alike = absurd alike
dropped more (suc n) (left ∷ lefts) (now ∷ nows) alike = dropped more n lefts nows alike.1

taken : (more : Bool) (n : ℕ) (lefts nows : List Cell) → Alike more lefts nows → Alike more (take n lefts) (take n nows)
taken more zero lefts nows alike = tt
taken more (suc n) [] [] alike = tt
taken more (suc n) [] (now ∷ nows) alike = absurd alike
taken more (suc n) (left ∷ lefts) [] alike = absurd alike
taken more (suc n) (left ∷ lefts) (now ∷ nows) alike = (alike.0, taken more n lefts nows alike.1)

joined : (more : Bool) (lefts nows others later : List Cell) → Alike more lefts nows → Alike more others later → Alike more (lefts ++ others) (nows ++ later)
joined more [] [] others later alike rest = rest
joined more [] (now ∷ nows) others later alike rest = absurd alike
joined more (left ∷ lefts) [] others later alike rest = absurd alike
joined more (left ∷ lefts) (now ∷ nows) others later alike rest = (alike.0, joined more lefts nows others later alike.1 rest)

-- the attribute that governs
abbrev Follows : Bool → Option Attribute → Option Attribute → Type 0
Follows more None None = ⊤
Follows more None (Some now) = ⊥
Follows more (Some left) None = ⊥
Follows more (Some left) (Some now) = AttrHeld more left now

last_or : (more : Bool) (left now first second : Option Attribute) → Follows more left now → Follows more first second → Follows more (option_or left first) (option_or now second)
last_or more None None first second follows rest = rest
last_or more None (Some now) first second follows rest = absurd follows
last_or more (Some left) None first second follows rest = absurd follows
last_or more (Some left) (Some now) first second follows rest = follows

last_alike : (more : Bool) (lefts nows : List Cell) → Alike more lefts nows → Follows more (last_attribute lefts) (last_attribute nows)
last_alike more [] [] alike = tt
last_alike more [] (now ∷ nows) alike = absurd alike
last_alike more (left ∷ lefts) [] alike = absurd alike
last_alike more (Char left ∷ lefts) (Char now ∷ nows) alike = last_or more (last_attribute lefts) (last_attribute nows) None None (last_alike more lefts nows alike.1) tt
last_alike more (Char left ∷ lefts) (Attr now ∷ nows) alike = absurd alike.0
last_alike more (Attr left ∷ lefts) (Char now ∷ nows) alike = absurd alike.0
last_alike more (Attr left ∷ lefts) (Attr now ∷ nows) alike = last_or more (last_attribute lefts) (last_attribute nows) (Some left) (Some now) (last_alike more lefts nows alike.1) alike.0

over_follows : HeldIsRound → (more : Bool) (left now : List Cell) → KeptByKeys more left now → (place : ℕ) → Follows more (attribute_over left place) (attribute_over now place)
over_follows round more left now held place =
    let alike : Alike more left now = walked more (hold_under more (last_attribute now)) left now ((round more left now).0 held) in
    last_alike more (ring (place + 1) left) (ring (place + 1) now)
    (joined more (drop (place + 1) left) (drop (place + 1) now) (take (place + 1) left) (take (place + 1) now) (dropped more (place + 1) left now alike) (taken more (place + 1) left now alike))

unmodified_before : (left now : Option Attribute) → Follows false left now → IsInUnmodified now → IsInUnmodified left
unmodified_before None None follows is = absurd is
unmodified_before None (Some now) follows is = absurd follows
unmodified_before (Some left) None follows is = absurd follows
unmodified_before (Some left) (Some now) follows is = (sym (ap (λ (a : Attribute). a.protected) follows.0) ∙ is.0, follows.2 is.0 is.1 refl)

protected_before : (more : Bool) (left now : Option Attribute) → Follows more left now → protects now ≡ true → protects left ≡ true
protected_before more None None follows is = is
protected_before more None (Some now) follows is = absurd follows
protected_before more (Some left) None follows is = absurd follows
protected_before more (Some left) (Some now) follows is = sym (ap (λ (a : Attribute). a.protected) follows.0) ∙ is

-- ---- what is kept

kept_cell : (erased more : Bool) (left told now : Cell) → is_char told ≡ is_char left → IsKept more told now → (more ≡ false → IsKept erased left told) → IsKept (erased || more) left now
kept_cell erased more left told (Attr now) kind kept before = tt
kept_cell erased more left (Attr told) (Char now) kind kept before = absurd kept
kept_cell erased more (Attr left) (Char told) (Char now) kind kept before = absurd (cc)
kept_cell true true (Char left) (Char told) (Char now) kind kept before = kept
kept_cell false true (Char left) (Char told) (Char now) kind kept before = kept
kept_cell true false (Char left) (Char told) (Char now) kind kept before = kept ∙ before refl
kept_cell false false (Char left) (Char told) (Char now) kind kept before = kept ∙ before refl

pub still_kept : HeldIsRound → (erased more : Bool) (left told now : List Cell) → UnmodifiedIsKept erased left told → KeptByKeys more told now → UnmodifiedIsKept (erased || more) left now
still_kept round erased more left told now kept held = record { places = places_compose left told now kept.places (held_places more told now held); each = λ place within unmodified. at_place place within unmodified }
  where
    at_place : (place : ℕ) → place < length now → IsInUnmodified (attribute_over now place) → IsKept (erased || more) (slice_index_or left place (Char 0)) (slice_index_or now place (Char 0))
    at_place place within unmodified =
        kept_cell erased more (slice_index_or left place (Char 0)) (slice_index_or told place (Char 0)) (slice_index_or now place (Char 0)) (kept.places.kinds place)
        (cell_kept more (attribute_over now place) (slice_index_or told place (Char 0)) (slice_index_or now place (Char 0)) unmodified (held.each place within))
        (λ none. kept.each place (subst (λ (n : ℕ). place < n) held.same_length within) (before none (over_follows round more told now held place)))
      where
        before : more ≡ false → Follows more (attribute_over told place) (attribute_over now place) → IsInUnmodified (attribute_over told place)
        before none follows = unmodified_before (attribute_over told place) (attribute_over now place) (subst (λ (b : Bool). Follows b (attribute_over told place) (attribute_over now place)) none follows) unmodified

pub still_as_left : HeldIsRound → (erased : Bool) (row : ℕ) (left told now : List Cell) → ProtectedIsAsLeft row left told → KeptByKeys erased told now → ProtectedIsAsLeft row left now
still_as_left round erased row left told now was held = record {
  size = held.same_length ∙ was.size;
  attributes = λ place. held_attribute erased told now held place ∙ was.attributes place;
  cells = λ place before guarded.
      held_cell erased told now held place guarded
      ∙ was.cells place before (protected_before erased (attribute_over told place) (attribute_over now place) (over_follows round erased told now held place) guarded);
}

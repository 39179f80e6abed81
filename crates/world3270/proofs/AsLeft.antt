-- Unreturned fields: what is kept cell by cell is kept field by field.
use Rattle.std.proofs.Common.{◌≡◌, ℕ, suc, ◌+◌, ◌<◌, arith, Bool, true, false, Option, None, Some, List, [], ◌∷◌, ◌++◌, length, take, drop, refl, ap, sym, subst, ◌∙◌, if◌then◌else◌}
use Rattle.std.specs.Prelude.{⊤, slice_index_or}
use Rattle.std.specs.Option.{option_or}
use Rattle.std.proofs.lemmas.List.{take-append-drop}
use Rattle.codes3270.specs.declared.attribute.Attr.{Attr as Attribute}
use Rattle.codes3270.specs.declared.attribute.Cell.{Cell}
use Rattle.codes3270.specs.declared.attribute.Cell.TheVariants.{Char, Attr}
use Rattle.datastream.specs.Fields.{fields}
use Rattle.datastream.proofs.FieldWalk.{fields_walked, fields_are_walked}
use Rattle.datastream.specs.Screen.{attribute_in, attribute_over, is_char_at, last_attribute, text_before_attribute}
use Rattle.datastream.proofs.Fields.{last_attribute-append, option_or-none, option_or_assoc}
use Rattle.shadow.specs.Belief.{nulls}
use Rattle.shadow.specs.Pairs.{Pairwise}
use Rattle.world3270.specs.statement.Headline.{IsAsLeft, IsUnmodified}
use Rattle.world3270.specs.refinement.Unreturned.{IsInUnmodified, IsKept, UnmodifiedIsKept}

-- ---- from cells at their places to a walk

-- cells after one another, the first ones in the field of this attribute, if one
abbrev KeptFrom : Bool → Option Attribute → List Cell → List Cell → Type 0
KeptFrom erased over [] [] = ⊤
KeptFrom erased over [] (now ∷ nows) = ⊥
KeptFrom erased over (left ∷ lefts) [] = ⊥
KeptFrom erased over (Char left ∷ lefts) (Char now ∷ nows) = (IsInUnmodified over → now ≡ (if erased then 0 else left)) × KeptFrom erased over lefts nows
KeptFrom erased over (Char left ∷ lefts) (Attr now ∷ nows) = ⊥
KeptFrom erased over (Attr left ∷ lefts) (Char now ∷ nows) = ⊥
KeptFrom erased over (Attr left ∷ lefts) (Attr now ∷ nows) = KeptFrom erased (Some now) lefts nows

-- the attribute over a cell, in a walk: the last one up to it, else the one before the first cell
abbrev walked : Option Attribute → List Cell → ℕ → Option Attribute
walked before cells place = option_or (last_attribute (take (place + 1) cells)) before

walked_past : (before : Option Attribute) (cell : Cell) (cells : List Cell) (place : ℕ) → walked before (cell ∷ cells) (suc place) ≡ walked (option_or (attribute_in cell) before) cells place
walked_past before cell cells place =
    let onward : suc place + 1 ≡ suc (place + 1) = omega arith in
    rw onward (option_or_assoc (last_attribute (take (place + 1) cells)) (attribute_in cell) before)

over_is_walked : (cells : List Cell) (place : ℕ) → attribute_over cells place ≡ walked (last_attribute cells) cells place
over_is_walked cells place =
    let front : Option Attribute = last_attribute (take (place + 1) cells) in
    let back : Option Attribute = last_attribute (drop (place + 1) cells) in
    let whole : last_attribute cells ≡ option_or back front =
    sym (ap last_attribute (take-append-drop (place + 1) cells)) ∙ last_attribute-append (take (place + 1) cells) (drop (place + 1) cells) in
    last_attribute-append (drop (place + 1) cells) (take (place + 1) cells) ∙ sym (ap (λ (o : Option Attribute). option_or front o) whole ∙ around front back)
  where
    around : (f b : Option Attribute) → option_or f (option_or b f) ≡ option_or f b
    around None b = option_or-none b
    around (Some x) b = refl

-- what is known of each place
record Places (erased : Bool) (before : Option Attribute) (lefts nows : List Cell) : Type 0 where
  size : length nows ≡ length lefts
  kinds : (place : ℕ) → is_char_at nows place ≡ is_char_at lefts place
  each : (place : ℕ) → place < length nows → IsInUnmodified (walked before nows place) → IsKept erased (slice_index_or lefts place (Char 0)) (slice_index_or nows place (Char 0))

past : (erased : Bool) (before : Option Attribute) (left now : Cell) (lefts nows : List Cell) → Places erased before (left ∷ lefts) (now ∷ nows) → Places erased (option_or (attribute_in now) before) lefts nows
past erased before left now lefts nows places = record {
  size = omega (arith, places.size);
  kinds = λ place. places.kinds (suc place);
  each = λ place below unmodified. places.each (suc place) (omega (arith, below)) (subst IsInUnmodified (sym (walked_past before now nows place)) unmodified);
}

kept_from : (erased : Bool) (before : Option Attribute) (lefts nows : List Cell) → Places erased before lefts nows → KeptFrom erased before lefts nows
kept_from erased before [] [] places = tt
kept_from erased before [] (now ∷ nows) places = absurd (omega (arith, places.size))
kept_from erased before (left ∷ lefts) [] places = absurd (omega (arith, places.size))
kept_from erased before (Char left ∷ lefts) (Char now ∷ nows) places =
    (λ unmodified. places.each 0 (omega arith) unmodified, kept_from erased before lefts nows (past erased before (Char left) (Char now) lefts nows places))
kept_from erased before (Char left ∷ lefts) (Attr now ∷ nows) places = absurd (let e = places.kinds 0 in cc)
kept_from erased before (Attr left ∷ lefts) (Char now ∷ nows) places = absurd (let e = places.kinds 0 in cc)
kept_from erased before (Attr left ∷ lefts) (Attr now ∷ nows) places = kept_from erased (Some now) lefts nows (past erased before (Attr left) (Attr now) lefts nows places)

-- ---- from a walk to fields

-- the attribute after some cells
after_char : (rest over : Option Attribute) → option_or (option_or rest None) over ≡ option_or rest over
after_char None over = refl
after_char (Some x) over = refl

after_attribute : (rest over : Option Attribute) (now : Attribute) → option_or (option_or rest (Some now)) over ≡ option_or rest (Some now)
after_attribute None over now = refl
after_attribute (Some x) over now = refl

itself : (over : Option Attribute) → option_or over over ≡ over
itself None = refl
itself (Some x) = refl

-- two walks, one after the other
walks_on : (erased : Bool) (over : Option Attribute) (lefts nows more_left more_now : List Cell) → KeptFrom erased over lefts nows → KeptFrom erased (option_or (last_attribute nows) over) more_left more_now
    → KeptFrom erased over (lefts ++ more_left) (nows ++ more_now)
walks_on erased over [] [] more_left more_now kept more = more
walks_on erased over [] (now ∷ nows) more_left more_now kept more = absurd kept
walks_on erased over (left ∷ lefts) [] more_left more_now kept more = absurd kept
walks_on erased over (Char left ∷ lefts) (Char now ∷ nows) more_left more_now kept more =
    (kept.0, walks_on erased over lefts nows more_left more_now kept.1 (subst (λ (o : Option Attribute). KeptFrom erased o more_left more_now) (after_char (last_attribute nows) over) more))
walks_on erased over (Char left ∷ lefts) (Attr now ∷ nows) more_left more_now kept more = absurd kept
walks_on erased over (Attr left ∷ lefts) (Char now ∷ nows) more_left more_now kept more = absurd kept
walks_on erased over (Attr left ∷ lefts) (Attr now ∷ nows) more_left more_now kept more =
    walks_on erased (Some now) lefts nows more_left more_now kept (subst (λ (o : Option Attribute). KeptFrom erased o more_left more_now) (after_attribute (last_attribute nows) over now) more)

-- the characters of an unmodified field
text_kept : (erased : Bool) (over : Attribute) (lefts nows : List Cell) → KeptFrom erased (Some over) lefts nows → IsUnmodified over
    → text_before_attribute nows ≡ (if erased then nulls (length (text_before_attribute lefts)) else text_before_attribute lefts)
text_kept true over [] [] kept is = refl
text_kept false over [] [] kept is = refl
text_kept erased over [] (now ∷ nows) kept is = absurd kept
text_kept erased over (left ∷ lefts) [] kept is = absurd kept
text_kept true over (Char left ∷ lefts) (Char now ∷ nows) kept is = rw (kept.0 is, text_kept true over lefts nows kept.1 is) refl
text_kept false over (Char left ∷ lefts) (Char now ∷ nows) kept is = rw (kept.0 is, text_kept false over lefts nows kept.1 is) refl
text_kept erased over (Char left ∷ lefts) (Attr now ∷ nows) kept is = absurd kept
text_kept erased over (Attr left ∷ lefts) (Char now ∷ nows) kept is = absurd kept
text_kept true over (Attr left ∷ lefts) (Attr now ∷ nows) kept is = refl
text_kept false over (Attr left ∷ lefts) (Attr now ∷ nows) kept is = refl

module _ (erased : Bool) (left now : List Cell) (round : KeptFrom erased (last_attribute now) left now) where
  fields_kept : (at : ℕ) (over : Option Attribute) (lefts nows : List Cell) → KeptFrom erased over lefts nows → option_or (last_attribute nows) over ≡ last_attribute now
      → Pairwise (IsAsLeft erased) (fields_walked left at lefts) (fields_walked now at nows)
  fields_kept at over [] [] kept last = tt
  fields_kept at over [] (cell ∷ nows) kept last = absurd kept
  fields_kept at over (was ∷ lefts) [] kept last = absurd kept
  fields_kept at over (Char was ∷ lefts) (Char cell ∷ nows) kept last = fields_kept (at + 1) over lefts nows kept.1 (sym (after_char (last_attribute nows) over) ∙ last)
  fields_kept at over (Char was ∷ lefts) (Attr cell ∷ nows) kept last = absurd kept
  fields_kept at over (Attr was ∷ lefts) (Char cell ∷ nows) kept last = absurd kept
  fields_kept at over (Attr was ∷ lefts) (Attr cell ∷ nows) kept last =
      let on : option_or (last_attribute nows) (Some cell) ≡ last_attribute now = sym (after_attribute (last_attribute nows) over cell) ∙ last in (
        record {
          same_place = refl;
          text = text_kept erased cell (lefts ++ left) (nows ++ now)
              (walks_on erased (Some cell) lefts nows left now kept (subst (λ (o : Option Attribute). KeptFrom erased o left now) (sym on) round));
        },
        fields_kept (at + 1) (Some cell) lefts nows kept on,
      )

pub as_left : (erased : Bool) (left now : List Cell) → UnmodifiedIsKept erased left now → Pairwise (IsAsLeft erased) (fields left) (fields now)
as_left erased left now kept =
    let round : KeptFrom erased (last_attribute now) left now =
    kept_from erased (last_attribute now) left now
    (record {
      size = kept.places.size;
      kinds = kept.places.kinds;
      each = λ place below unmodified. kept.each place below (subst IsInUnmodified (sym (over_is_walked now place)) unmodified);
    }) in
    subst (λ fs. Pairwise (IsAsLeft erased) fs (fields now)) (sym (fields_are_walked left))
    (subst (Pairwise (IsAsLeft erased) (fields_walked left 0 left)) (sym (fields_are_walked now))
    (fields_kept erased left now round 0 (last_attribute now) left now round (itself (last_attribute now))))

-- What is held cell by cell, in a walk from address 0, is held field by field.
use Rattle.std.proofs.Common.{◌≡◌, ℕ, suc, ◌+◌, Bool, true, false, List, [], ◌∷◌, ◌++◌, length, Option, Some, None, refl, ap, sym, subst, ◌∙◌, if◌then◌else◌}
use Rattle.std.specs.Prelude.{⊤}
use Rattle.std.specs.Option.{option_or}
use Rattle.codes3270.specs.declared.attribute.Cell.{Cell}
use Rattle.codes3270.specs.declared.attribute.Cell.TheVariants.{Char, Attr}
use Rattle.codes3270.specs.declared.attribute.Attr.{Attr as Attribute}
use Rattle.datastream.specs.Screen.{last_attribute, text_before_attribute}
use Rattle.datastream.specs.Fields.{Field, fields}
use Rattle.datastream.proofs.FieldWalk.{fields_walked, fields_are_walked}
use Rattle.datastream.specs.KeptByKeys.{Hold, hold_of, hold_under, CharHeld, KeptByKeys}
use Rattle.datastream.specs.HeldRound.{HeldFrom, HeldRound}
use Rattle.datastream.proofs.HeldRounds.{held_round}
use Rattle.datastream.proofs.Fields.{option_or-none}
use Rattle.shadow.specs.Pairs.{Pairwise}
use Rattle.shadow.specs.Meets.{IsNull}
use Rattle.shadow.proofs.Keyed.{Untouched, FieldKeyed, Keyed}

-- the hold of a cell after these, where that of the first one is given
abbrev hold_after : Bool → Hold → List Cell → Hold
hold_after e h [] = h
hold_after e h (Char c ∷ cells) = hold_after e h cells
hold_after e h (Attr a ∷ cells) = hold_after e (hold_of e a) cells

held-append : (e : Bool) (h : Hold) (os ns ps ms : List Cell) → HeldFrom e h os ns → HeldFrom e (hold_after e h ns) ps ms → HeldFrom e h (os ++ ps) (ns ++ ms)
held-append e h [] [] ps ms r k = k
held-append e h [] (n ∷ ns) ps ms r k = absurd r
held-append e h (o ∷ os) [] ps ms r k = absurd r
held-append e h (Char c ∷ os) (Char d ∷ ns) ps ms r k = (r.0, held-append e h os ns ps ms r.1 k)
held-append e h (Char c ∷ os) (Attr b ∷ ns) ps ms r k = absurd r
held-append e h (Attr a ∷ os) (Char d ∷ ns) ps ms r k = absurd r
held-append e h (Attr a ∷ os) (Attr b ∷ ns) ps ms r k = (r.0, held-append e (hold_of e b) os ns ps ms r.1 k)

held-length : (e : Bool) (h : Hold) (os ns : List Cell) → HeldFrom e h os ns → length ns ≡ length os
held-length e h [] [] r = refl
held-length e h [] (n ∷ ns) r = absurd r
held-length e h (o ∷ os) [] r = absurd r
held-length e h (Char c ∷ os) (Char d ∷ ns) r = ap suc (held-length e h os ns r.1)
held-length e h (Char c ∷ os) (Attr b ∷ ns) r = absurd r
held-length e h (Attr a ∷ os) (Char d ∷ ns) r = absurd r
held-length e h (Attr a ∷ os) (Attr b ∷ ns) r = ap suc (held-length e (hold_of e b) os ns r.1)

-- what a hold says of a text
abbrev pub TextHeld : Hold → List ℕ → List ℕ → Type 0
TextHeld Hold.Same left now = now ≡ left
TextHeld Hold.Null left now = IsNull now
TextHeld Hold.Free left now = ⊤

char_held : (h : Hold) (c d : ℕ) (left now : List ℕ) → CharHeld h c d → TextHeld h left now → TextHeld h (c ∷ left) (d ∷ now)
char_held Hold.Same c d left now r k = (cc)
char_held Hold.Null c d left now r k = (cc)
char_held Hold.Free c d left now r k = tt

none_held : (h : Hold) → TextHeld h [] []
none_held Hold.Same = refl
none_held Hold.Null = refl
none_held Hold.Free = tt

held_ahead : (e : Bool) (h : Hold) (os ns : List Cell) → HeldFrom e h os ns → (length (text_before_attribute ns) ≡ length (text_before_attribute os)) × TextHeld h (text_before_attribute os) (text_before_attribute ns)
held_ahead e h [] [] r = (refl, none_held h)
held_ahead e h [] (n ∷ ns) r = absurd r
held_ahead e h (o ∷ os) [] r = absurd r
held_ahead e h (Char c ∷ os) (Char d ∷ ns) r = let more = held_ahead e h os ns r.1 in (ap suc more.0, char_held h c d (text_before_attribute os) (text_before_attribute ns) r.0 more.1)
held_ahead e h (Char c ∷ os) (Attr b ∷ ns) r = absurd r
held_ahead e h (Attr a ∷ os) (Char d ∷ ns) r = absurd r
held_ahead e h (Attr a ∷ os) (Attr b ∷ ns) r = (refl, none_held h)

protected_held : (p m e : Bool) (left now : List ℕ) → TextHeld (if p then Hold.Same else if m then Hold.Free else if e then Hold.Null else Hold.Same) left now → p ≡ true → now ≡ left
protected_held true m e left now h is = h
protected_held false m e left now h is = absurd (cc)

untouched_held : (p m e : Bool) (l f : Field) → TextHeld (if p then Hold.Same else if m then Hold.Free else if e then Hold.Null else Hold.Same) l.text f.text → (e ≡ false → l.attr.mdt ≡ false) → p ≡ false → m ≡ false → Untouched e l f
untouched_held true m e l f h k p off = absurd (cc)
untouched_held false true e l f h k p off = absurd (cc)
untouched_held false false true l f h k p off = h
untouched_held false false false l f h k p off = (k refl, h)

held_fields : (e : Bool) (wo wn : List Cell) → HeldFrom e (hold_after e Hold.Free wn) wo wn → (n : ℕ) (h : Hold) (ro rn : List Cell) → hold_after e h rn ≡ hold_after e Hold.Free wn → HeldFrom e h ro rn
    → Pairwise (FieldKeyed e) (fields_walked wo n ro) (fields_walked wn n rn)
held_fields e wo wn w n h [] [] last r = tt
held_fields e wo wn w n h [] (x ∷ rn) last r = absurd r
held_fields e wo wn w n h (x ∷ ro) [] last r = absurd r
held_fields e wo wn w n h (Char c ∷ ro) (Char d ∷ rn) last r = held_fields e wo wn w (n + 1) h ro rn last r.1
held_fields e wo wn w n h (Char c ∷ ro) (Attr b ∷ rn) last r = absurd r
held_fields e wo wn w n h (Attr a ∷ ro) (Char d ∷ rn) last r = absurd r
held_fields e wo wn w n h (Attr a ∷ ro) (Attr b ∷ rn) last r =
    let ahead = held_ahead e (hold_of e b) (ro ++ wo) (rn ++ wn) (held-append e (hold_of e b) ro rn wo wn r.1 (subst (λ o. HeldFrom e o wo wn) (sym last) w)) in (
      record {
        same_place = refl;
        same_attr = r.0.0;
        same_length = ahead.0;
        protected = λ p. (r.0.1 p, protected_held b.protected b.mdt e _ _ ahead.1 p);
        unprotected = λ p m. untouched_held b.protected b.mdt e _ _ ahead.1 (r.0.2 p m) p m;
      },
      held_fields e wo wn w (n + 1) (hold_of e b) ro rn last r.1,
    )

-- without attributes the start decides, with them it doesn't matter
after_last : (e : Bool) (before : Option Attribute) (cells : List Cell) → hold_after e (hold_under e before) cells ≡ hold_under e (option_or (last_attribute cells) before)
after_last e before [] = refl
after_last e before (Char c ∷ cells) = after_last e before cells ∙ ap (λ (o : Option Attribute). hold_under e (option_or o before)) (sym (option_or-none (last_attribute cells)))
after_last e before (Attr a ∷ cells) = after_last e (Some a) cells ∙ ap (hold_under e) (some_last (last_attribute cells))
  where
    some_last : (o : Option Attribute) → option_or o (Some a) ≡ option_or (option_or o (Some a)) before
    some_last None = refl
    some_last (Some x) = refl

last_twice : (o : Option Attribute) → option_or o o ≡ o
last_twice None = refl
last_twice (Some x) = refl

round_keyed : (e : Bool) (left now : List Cell) → HeldRound e left now → Keyed e left now
round_keyed e left now r =
    let first : hold_after e Hold.Free now ≡ hold_under e (last_attribute now) =
    after_last e None now ∙ ap (hold_under e) (option_or-none (last_attribute now)) in
    let again : hold_after e (hold_under e (last_attribute now)) now ≡ hold_after e Hold.Free now =
    after_last e (last_attribute now) now ∙ ap (hold_under e) (last_twice (last_attribute now)) ∙ sym first in (
      held-length e (hold_under e (last_attribute now)) left now r,
      subst (λ fs. Pairwise (FieldKeyed e) fs (fields now)) (sym (fields_are_walked left))
          (subst (Pairwise (FieldKeyed e) (fields_walked left 0 left)) (sym (fields_are_walked now))
          (held_fields e left now (subst (λ h. HeldFrom e h left now) (sym first) r) 0 (hold_under e (last_attribute now)) left now again r)),
    )

pub held_keyed : (e : Bool) (left now : List Cell) → KeptByKeys e left now → Keyed e left now
held_keyed e left now held = round_keyed e left now (held_round e left now held)

-- What is believed, and the places that hold it.
use Rattle.std.proofs.Common.{◌≡◌, ℕ, ◌<◌, ◌≤◌, Bool, true, false, ◌&&◌, List, [], ◌∷◌, length, map, Ok, Err, refl, ap, sym, arith, ◌∙◌, eqb-true, if◌then◌else◌}
use Rattle.std.specs.Prelude.{◌==◌, nat_lt}
use Rattle.std.proofs.lemmas.List.{length-map}
use Rattle.std.proofs.lemmas.Bool.{and_parts, lt-ltb, le-ltb}
use Rattle.codes3270.specs.declared.attribute.Cell.{Cell}
use Rattle.datastream.specs.Fields.{Field, fields}
use Rattle.datastream.specs.InboundFields.{Returned}
use Rattle.shadow.specs.declared.fault.HeardFault.TheVariants.{Contradiction}
use Rattle.shadow.specs.declared.cell_belief.CellBelief.{CellBelief}
use Rattle.shadow.specs.Belief.{Belief, Shadow}
use Rattle.shadow.specs.Filled.{long_after}
use Rattle.shadow.specs.Heard.{heard_long, heard_attention, after_attention}
use Rattle.shadow.specs.InPlace.{chars_known, cells_known, beliefs_held, shadow_held, has_attribute, has_fields, IsHeld}
use Rattle.shadow.specs.Paint.{known_nulls, known_before, writes_over}
use Rattle.shadow.specs.AfterReadBuffer.{others, is_formatted, denies_buffer}
use Rattle.shadow.specs.Taken.{formatted_as, marks_off_if}
use Rattle.shadow.proofs.Placed.{formatted_held, unformatted_held, no_beliefs, bare_known, base_known, over_held, has_held, length-cells}

pub formatted_parts : (knows : Bool) (places : List CellBelief) → has_fields (shadow_held knows places) ≡ true → (knows ≡ true) × (has_attribute places ≡ true)
formatted_parts false places e = absurd (cc)
formatted_parts true places e = cases (has_attribute places) refl
  where
    cases : (t : Bool) → has_attribute places ≡ t → (true ≡ true) × (has_attribute places ≡ true)
    cases true is = (refl, is)
    cases false is = absurd (let bad : false ≡ true = sym (ap has_fields (unformatted_held places is)) ∙ e in cc)

pub formatted_is : (knows : Bool) (places : List CellBelief) → has_fields (shadow_held knows places) ≡ true → shadow_held knows places ≡ Shadow.Formatted (beliefs_held places 0 places)
formatted_is knows places e =
    let parts = formatted_parts knows places e in
    ap (λ (k : Bool). shadow_held k places) parts.0 ∙ formatted_held places parts.1

-- a screen that is known, without fields
pub bare_is : (places : List CellBelief) → has_fields (shadow_held true places) ≡ false → (shadow_held true places ≡ Shadow.Unformatted (chars_known places)) × (length (chars_known places) ≡ length places)
bare_is places e = cases (has_attribute places) refl
  where
    cases : (t : Bool) → has_attribute places ≡ t → (shadow_held true places ≡ Shadow.Unformatted (chars_known places)) × (length (chars_known places) ≡ length places)
    cases true is = absurd (let bad : true ≡ false = sym (ap has_fields (formatted_held places is)) ∙ e in cc)
    cases false is = (
      unformatted_held places is,
      sym (length-map (chars_known places) _) ∙ ap length (bare_known places is) ∙ length-cells places,
    )

some_belief : (places : List CellBelief) → has_attribute places ≡ true → (bs : List Belief) → beliefs_held places 0 places ≡ bs → (b : Belief) × (more : List Belief) × (bs ≡ b ∷ more)
some_belief places e [] is = absurd (let bad : Shadow.Unformatted (chars_known places) ≡ Shadow.Formatted [] = sym (ap (λ bs. formatted_as bs (chars_known places)) is) ∙ formatted_held places e ∙ ap Shadow.Formatted is in cc)
some_belief places e (b ∷ more) is = (b, more, refl)

-- what long data leaves of a screen with fields has fields
pub long_formatted : (size : ℕ) (places after : List CellBelief) (erased : Bool) (came : List Returned) → has_attribute places ≡ true → beliefs_held after 0 after ≡ long_after size erased (beliefs_held places 0 places) came
    → shadow_held true after ≡ Shadow.Formatted (long_after size erased (beliefs_held places 0 places) came)
long_formatted size places after erased came e is =
    let some = some_belief places e (beliefs_held places 0 places) refl in
    ap (λ bs. formatted_as bs (chars_known after)) is
    ∙ ap (λ bs. formatted_as (long_after size erased bs came) (chars_known after)) some.2
    ∙ ap (λ bs. Shadow.Formatted (long_after size erased bs came)) (sym some.2)

pub key_formatted : (places after : List CellBelief) → has_attribute places ≡ true → beliefs_held after 0 after ≡ map after_attention (beliefs_held places 0 places)
    → shadow_held true after ≡ Shadow.Formatted (map after_attention (beliefs_held places 0 places))
key_formatted places after e is =
    let some = some_belief places e (beliefs_held places 0 places) refl in
    ap (λ bs. formatted_as bs (chars_known after)) is
    ∙ ap (λ bs. formatted_as (map after_attention bs) (chars_known after)) some.2
    ∙ ap (λ bs. Shadow.Formatted (map after_attention bs)) (sym some.2)

-- a key that sends no fields leaves nothing known where there are none
pub key_forgets : (shadow : Shadow) → has_fields shadow ≡ false → heard_attention shadow ≡ Shadow.NothingKnown
key_forgets Shadow.NothingKnown e = refl
key_forgets (Shadow.Unformatted known) e = refl
key_forgets (Shadow.Formatted beliefs) e = absurd (cc)

others_none : (fs : List Field) → others [] fs ≡ is_formatted fs
others_none [] = refl
others_none (f ∷ fs) = refl

pub denies_held : (places : List CellBelief) (cells : List Cell) → denies_buffer (shadow_held true places) cells ≡ others (beliefs_held places 0 places) (fields cells)
denies_held places cells = cases (has_attribute places) refl
  where
    cases : (t : Bool) → has_attribute places ≡ t → denies_buffer (shadow_held true places) cells ≡ others (beliefs_held places 0 places) (fields cells)
    cases true is = ap (λ s. denies_buffer s cells) (formatted_held places is)
    cases false is =
        ap (λ s. denies_buffer s cells) (unformatted_held places is) ∙ sym (others_none (fields cells)) ∙ ap (λ bs. others bs (fields cells)) (sym (no_beliefs places 0 places is))

-- ---- what a paint finds

pub over_is : (size : ℕ) (knows : Bool) (places : List CellBelief) → (has_fields (shadow_held knows places) && length places == size) ≡ writes_over size (shadow_held knows places)
over_is size false places = refl
over_is size true places = ap (λ t. t && length places == size) (has_held places) ∙ sym (over_held size places)

pub over_true : (size : ℕ) (knows : Bool) (places : List CellBelief) → writes_over size (shadow_held knows places) ≡ true → length places ≡ size
over_true size knows places e = eqb-true (length places) size (and_parts (has_fields (shadow_held knows places)) (length places == size) (over_is size knows places ∙ e)).1

pub base_is : (size : ℕ) (knows resets : Bool) (places : List CellBelief) → IsHeld places → (formatted : Bool) → formatted ≡ writes_over size (shadow_held knows places)
    → (if formatted then marks_off_if resets (cells_known places) else known_nulls size) ≡ known_before size resets (shadow_held knows places)
base_is size false resets places held formatted is = ap (λ t. if t then marks_off_if resets (cells_known places) else known_nulls size) is
base_is size true resets places held formatted is =
    ap (λ t. if t then marks_off_if resets (cells_known places) else known_nulls size) (is ∙ over_held size places) ∙ sym (base_known size resets places held)

-- ---- long data where there are no fields

pub bare_refused : (size : ℕ) (places : List CellBelief) (leading_text : List ℕ) → has_fields (shadow_held true places) ≡ false → length places < length leading_text → heard_long size (shadow_held true places) leading_text [] ≡ Err Contradiction
bare_refused size places leading_text e longer =
    let bare = bare_is places e in
    let test : nat_lt (length (chars_known places)) (length leading_text) ≡ true = lt-ltb _ _ (omega (arith, bare.1)) in
    ap (λ (s : Shadow). heard_long size s leading_text []) bare.0 ∙ ap (λ (t : Bool). if t then Err Contradiction else Ok Shadow.NothingKnown) test

pub bare_forgotten : (size : ℕ) (knows : Bool) (places : List CellBelief) (leading_text : List ℕ) → has_fields (shadow_held knows places) ≡ false → (knows ≡ true → length leading_text ≤ length places) → heard_long size (shadow_held knows places) leading_text [] ≡ Ok Shadow.NothingKnown
bare_forgotten size false places leading_text e short = refl
bare_forgotten size true places leading_text e short =
    let bare = bare_is places e in
    let few = short refl in
    let test : nat_lt (length (chars_known places)) (length leading_text) ≡ false = le-ltb _ _ (omega (arith, bare.1)) in
    ap (λ (s : Shadow). heard_long size s leading_text []) bare.0 ∙ ap (λ (t : Bool). if t then Err Contradiction else Ok Shadow.NothingKnown) test

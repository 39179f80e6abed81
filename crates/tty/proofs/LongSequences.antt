-- A control sequence of any length is one keystroke, and a control character breaks off what isn't complete.
use Rattle.std.proofs.Common.{◌≡◌, ◌≢◌, ◌||◌, ℕ, Bool, true, false, not, List, [], ◌∷◌, ◌++◌, take, refl, ap, sym, ◌∙◌, inl, inr, arith}
use Rattle.std.specs.Char.{is_ascii_control}
use Rattle.std.specs.List.{list_all}
use Rattle.std.proofs.lemmas.Bool.{and_parts, cases_Bool, cases_eq, not-true}
use Rattle.std.proofs.lemmas.Bool.Decides.{nat_tests}
use Rattle.tty.specs.declared.keystroke.Keystroke.TheVariants.{Char}
use Rattle.tty.specs.KeySequences.{meaning}
use Rattle.tty.specs.KeyForms.{completes, is_late, is_mouse, may_continue, opens_string, outlasts}
use Rattle.tty.specs.KeyReading.{after_pause, read_bytes}
use Rattle.tty.specs.KeyLaws.{ControlSequencesAreOne, ControlsBreakOff, LateRestsAreRead, MouseReportsAreOne, StringsTypeNothing}
use Rattle.tty.proofs.ControlSequences.{single_csi}
use Rattle.tty.proofs.Single.{all_grown, is_single, keeps_first, single_read}
use Rattle.tty.proofs.Listed.{sequences_type_nothing}

types_nothing : (bytes : List ℕ) (letter : ℕ) → meaning (all_grown (0x1B ∷ []) bytes) ≢ Char letter
types_nothing bytes letter is =
    let same = keeps_first 0x1B [] bytes in
    sequences_type_nothing same.0 letter (ap meaning (sym same.1) ∙ is)

pub control_sequences_are_one : ControlSequencesAreOne
control_sequences_are_one parameters final all range other =
    let bytes : List ℕ = 0x5B ∷ (parameters ++ final ∷ []) in
    (meaning (all_grown [] (0x1B ∷ bytes)), single_read [] (0x1B ∷ bytes) (single_csi parameters final all range other), types_nothing bytes)

stops : (kept : List ℕ) (byte : ℕ) → is_ascii_control byte ≡ true → kept ≢ [] → (kept ≡ 0x1B ∷ [] → byte ≢ 0x09)
    → (is_mouse kept ≡ true → byte ≢ 0x7F) → may_continue kept byte ≡ false
stops [] byte control some tab mouse = absurd (some refl)
stops (first ∷ []) byte control some tab mouse =
    elim (cases_eq first 0x1B) [
      | inl same ↦ (let other : byte ≢ 0x09 = tab (ap (λ (n : ℕ). n ∷ []) same) in grind (arith, nat_tests))
      | inr other ↦ grind (arith, nat_tests)
    ]
stops (first ∷ second ∷ []) byte control some tab mouse = grind (arith, nat_tests)
stops (first ∷ second ∷ third ∷ rest) byte control some tab mouse =
    elim (cases_Bool (is_mouse (first ∷ second ∷ third ∷ rest))) [
      | inl is ↦ (let other : byte ≢ 0x7F = mouse is in grind (arith, nat_tests))
      | inr other ↦ grind (arith, nat_tests)
    ]

pub controls_break_off : ControlsBreakOff
controls_break_off kept byte control some tab mouse late = rw (stops kept byte control some tab mouse, late) refl

-- ---- reports of the mouse, control strings, and what comes late

pub mouse_reports_are_one : MouseReportsAreOne
mouse_reports_are_one button column row first second third =
    let bytes : List ℕ = 0x5B ∷ 0x4D ∷ button ∷ column ∷ row ∷ [] in
    let single : is_single [] (0x1B ∷ 0x5B ∷ 0x4D ∷ button ∷ column ∷ row ∷ []) ≡ true = grind (arith, nat_tests) in
    (meaning (all_grown [] (0x1B ∷ bytes)), single_read [] (0x1B ∷ bytes) single, types_nothing bytes)

string_goes_on : (kept : List ℕ) (opener : ℕ) (bytes : List ℕ) → opens_string opener ≡ true
    → list_all (λ byte. not (is_ascii_control byte)) bytes ≡ true
    → (read_bytes (0x1B ∷ opener ∷ kept) bytes).keystrokes ≡ []
string_goes_on kept opener [] opens all = refl
string_goes_on kept opener (byte ∷ bytes) opens all =
    let both = and_parts (not (is_ascii_control byte)) (list_all (λ it. not (is_ascii_control it)) bytes) all in
    let none : is_ascii_control byte ≡ false = not-true _ both.0 in
    let goes : may_continue (0x1B ∷ opener ∷ kept) byte ≡ true = grind (arith, nat_tests) in
    let more : completes (0x1B ∷ opener ∷ kept) byte ≡ false = grind (arith, nat_tests) in
    rw (goes, more) (string_goes_on (take 10 (kept ++ byte ∷ [])) opener bytes opens both.1)

pub strings_type_nothing : StringsTypeNothing
strings_type_nothing opener bytes opens all =
    let goes : may_continue (0x1B ∷ []) opener ≡ true = grind (arith, nat_tests) in
    let more : completes (0x1B ∷ []) opener ≡ false = grind (arith, nat_tests) in
    rw (goes, more) (string_goes_on [] opener bytes opens all)

kept_either_way : (late : Bool) (bytes : List ℕ) → (late || true) ≡ true
kept_either_way true bytes = refl
kept_either_way false bytes = refl

stays : (front : List ℕ) → outlasts front ≡ true → (after_pause front).kept ≡ front
stays [] is = absurd cc
stays (first ∷ []) is = absurd cc
stays (first ∷ second ∷ rest) is =
    rw (is, kept_either_way (is_late (first ∷ second ∷ rest)) rest) refl

pub late_rests_are_read : LateRestsAreRead
late_rests_are_read front back (inl is) = ap (λ (kept : List ℕ). read_bytes kept back) (stays front is)
late_rests_are_read front [] (inr alone) = absurd cc
late_rests_are_read front (byte ∷ back) (inr alone) = rw (alone.0, alone.1) refl

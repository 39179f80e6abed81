-- A tty's report of its size is one keystroke, and types nothing.
use Rattle.std.proofs.Common.{◌≡◌, ◌≢◌, ℕ, suc, ◌+◌, ◌-◌, ◌<◌, ◌≤◌, Bool, true, false, ◌&&◌, nat_lt, List, [], ◌∷◌, ◌++◌, drop, length, take, get_or, Option, Some, None, refl, ap, sym, subst, ◌∙◌, arith, length-append}
use Rattle.std.specs.Prelude.{◌==◌, if◌then◌else◌}
use Rattle.std.specs.Int.{IsInRange}
use Rattle.std.specs.List.{AllByRecursion, position}
use Rattle.std.specs.Char.{is_ascii_digit}
use Rattle.std.specs.Str.{all_ascii_digits}
use Rattle.std.specs.Str.Parse.{digits_value}
use Rattle.std.proofs.lemmas.Bool.{and_parts, ltb-true}
use Rattle.std.proofs.lemmas.Bool.Decides.{nat_tests}
use Rattle.std.proofs.lemmas.List.{drop_more, take-append-drop}
use Rattle.std.proofs.lemmas.List.Quantifiers.{position-Some}
use Rattle.tty.specs.declared.keystroke.Keystroke.{Keystroke}
use Rattle.tty.specs.declared.keystroke.Keystroke.TheVariants.{Size, Unknown}
use Rattle.tty.specs.KeySequences.{is_f3, is_report, is_semicolon, reported, reported_at, side_of, size, size_report}
use Rattle.tty.proofs.ControlSequences.{single_csi}
use Rattle.tty.proofs.Single.{is_single}

abbrev Parameters : List ℕ → Type 0
Parameters bytes = AllByRecursion (IsInRange 0x20 0x3F) bytes

digits_are : (digits : List ℕ) → all_ascii_digits digits ≡ true → Parameters digits
digits_are [] all = tt
digits_are (digit ∷ digits) all =
    let both = and_parts _ _ all in
    let is : is_ascii_digit digit ≡ true = both.0 in
    let range : IsInRange 0x20 0x3F digit = grind (arith, nat_tests) in
    (range, digits_are digits both.1)

joined_are : (front back : List ℕ) → Parameters front → Parameters back → Parameters (front ++ back)
joined_are [] back first second = second
joined_are (byte ∷ front) back first second = (first.0, joined_are front back first.1 second)

-- the digits of a side are at most three
side_by : (test : Bool) (n : ℕ) → (if test then Some n else None) ≢ None → test ≡ true
side_by true n some = refl
side_by false n some = absurd (some refl)

side_is : (digits : List ℕ) → side_of digits ≢ None → Parameters digits × (length digits < 4)
side_is digits some =
    let passes = side_by (nat_lt (length digits) 4 && (all_ascii_digits digits && nat_lt 0 (digits_value 10 digits))) (digits_value 10 digits) some in
    let both = and_parts _ _ passes in
    (digits_are digits (and_parts _ _ both.1).0, ltb-true (length digits) 4 both.0)

sides_are : (rows columns : Option ℕ) → size rows columns ≢ Unknown → (rows ≢ None) × (columns ≢ None)
sides_are (Some rows) (Some columns) known = ((λ is. cc), (λ is. cc))
sides_are (Some rows) None known = absurd (known refl)
sides_are None columns known = absurd (known refl)

-- the parameters of a report that has a meaning are few
halves_are : (parameters : List ℕ) (place : Option ℕ) → position is_semicolon parameters ≡ place → reported_at parameters place ≢ Unknown
    → Parameters parameters × (length parameters ≤ 7)
halves_are parameters None found known = absurd (known refl)
halves_are parameters (Some place) found known =
    let front = take place parameters in
    let back = drop (place + 1) parameters in
    let at = position-Some is_semicolon parameters place 0 found in
    let sides = sides_are (side_of front) (side_of back) known in
    let rows = side_is front sides.0 in
    let columns = side_is back sides.1 in
    let middle : IsInRange 0x20 0x3F (get_or parameters place 0) = grind (arith, nat_tests, at.1) in
    let whole : parameters ≡ front ++ (get_or parameters place 0 ∷ back) =
    sym (take-append-drop place parameters) ∙ ap (λ (rest : List ℕ). front ++ rest) (drop_more parameters place 0 at.0) in
    let long = length-append front (get_or parameters place 0 ∷ back) in (
      subst Parameters (sym whole) (joined_are front (get_or parameters place 0 ∷ back) rows.0 (middle, columns.0)),
      subst (λ (it : List ℕ). length it ≤ 7) (sym whole) (omega (arith, long, rows.1, columns.1)),
    )

parameters_are : (parameters : List ℕ) → reported parameters ≢ Unknown → Parameters parameters × (length parameters ≤ 7)
parameters_are parameters known = halves_are parameters (position is_semicolon parameters) refl known

-- the bytes between the first and the last
abbrev between : List ℕ → List ℕ
between sequence = take (length sequence - 2) (drop 1 sequence)

last_split : (byte : ℕ) (bytes : List ℕ) → byte ∷ bytes ≡ take (length bytes) (byte ∷ bytes) ++ get_or (byte ∷ bytes) (length bytes) 0 ∷ []
last_split byte [] = refl
last_split byte (next ∷ bytes) = ap (λ (rest : List ℕ). byte ∷ rest) (last_split next bytes)

shape_at : (sequence : List ℕ) (last inner : ℕ) → get_or sequence 0 0 ≡ 0x5B → get_or sequence last 0 ≡ 0x52 → last ≡ length sequence - 1
    → inner ≡ length sequence - 2 → sequence ≡ 0x5B ∷ (take inner (drop 1 sequence) ++ 0x52 ∷ [])
shape_at [] last inner begins ends at within = absurd (omega (arith, begins))
shape_at (first ∷ []) last inner begins ends at within =
    let place : last ≡ 0 = omega (arith, at) in
    let other : first ≡ 0x52 = ap (λ (n : ℕ). get_or (first ∷ []) n 0) (sym place) ∙ ends in
    absurd (omega (arith, begins, other))
shape_at (first ∷ next ∷ rest) last inner begins ends at within =
    let place : last ≡ suc (length rest) = omega (arith, at) in
    let count : inner ≡ length rest = omega (arith, within) in
    let final : get_or (next ∷ rest) (length rest) 0 ≡ 0x52 = ap (λ (n : ℕ). get_or (first ∷ next ∷ rest) n 0) (sym place) ∙ ends in
    ap (λ (tail : List ℕ). first ∷ tail) (last_split next rest)
    ∙ ap (λ (byte : ℕ). byte ∷ (take (length rest) (next ∷ rest) ++ get_or (next ∷ rest) (length rest) 0 ∷ [])) begins
    ∙ ap (λ (byte : ℕ). 0x5B ∷ (take (length rest) (next ∷ rest) ++ byte ∷ [])) final
    ∙ ap (λ (n : ℕ). 0x5B ∷ (take n (next ∷ rest) ++ 0x52 ∷ [])) (sym count)

report_shape : (sequence : List ℕ) → is_report sequence ≡ true → sequence ≡ 0x5B ∷ (between sequence ++ 0x52 ∷ [])
report_shape sequence is =
    let both = and_parts (get_or sequence 0 0 == 0x5B) (get_or sequence (length sequence - 1) 0 == 0x52) is in
    let first : (get_or sequence 0 0 == 0x5B) ≡ true = both.0 in
    let last : (get_or sequence (length sequence - 1) 0 == 0x52) ≡ true = both.1 in
    let begins : get_or sequence 0 0 ≡ 0x5B = grind (arith, nat_tests) in
    let ends : get_or sequence (length sequence - 1) 0 ≡ 0x52 = grind (arith, nat_tests) in
    shape_at sequence (length sequence - 1) (length sequence - 2) begins ends refl refl

pub reports : (sequence : List ℕ) → is_report sequence ≡ true → reported (between sequence) ≡ size_report sequence
reports sequence is = sym (ap (λ (test : Bool). if test then reported (between sequence) else Unknown) is)

report_by : (is : Bool) (sequence : List ℕ) → is_report sequence ≡ is → (if is then reported (between sequence) else Unknown) ≢ Unknown
    → (is_single [] (0x1B ∷ sequence) ≡ true) × (length sequence ≤ 9)
report_by false sequence is known = absurd (known refl)
report_by true sequence is known =
    let parameters = between sequence in
    let are = parameters_are parameters known in
    let shape = report_shape sequence is in
    let final : IsInRange 0x40 0x7E 0x52 = (omega arith, omega arith) in
    let long = length-append parameters (0x52 ∷ []) in (
      subst (λ (it : List ℕ). is_single [] (0x1B ∷ it) ≡ true) (sym shape) (single_csi parameters 0x52 are.0 final (λ none. ((λ same. absurd (omega (arith, same))), (λ same. absurd (omega (arith, same)))))),
      subst (λ (it : List ℕ). length it ≤ 9) (sym shape) (omega (arith, long, are.1)),
    )

pub report_is_read : (sequence : List ℕ) → size_report sequence ≢ Unknown → (is_single [] (0x1B ∷ sequence) ≡ true) × (length sequence ≤ 9)
report_is_read sequence known = report_by (is_report sequence) sequence refl known

-- ---- a report is a size, or nothing

pub data IsReported : Keystroke → Type 0 where
  Nothing : IsReported Unknown
  Sized : (rows columns : ℕ) → IsReported (Size rows columns)

f3_by : (f3 : Bool) (rows columns : ℕ) → IsReported (if f3 then Unknown else Size rows columns)
f3_by true rows columns = IsReported.Nothing
f3_by false rows columns = IsReported.Sized rows columns

size_by : (rows columns : Option ℕ) → IsReported (size rows columns)
size_by (Some rows) (Some columns) = f3_by (is_f3 rows columns) rows columns
size_by (Some rows) None = IsReported.Nothing
size_by None columns = IsReported.Nothing

place_by : (parameters : List ℕ) (place : Option ℕ) → IsReported (reported_at parameters place)
place_by parameters None = IsReported.Nothing
place_by parameters (Some place) = size_by (side_of (take place parameters)) (side_of (drop (place + 1) parameters))

shape_by : (is : Bool) (parameters : List ℕ) → IsReported (if is then reported parameters else Unknown)
shape_by false parameters = IsReported.Nothing
shape_by true parameters = place_by parameters (position is_semicolon parameters)

pub report_is : (sequence : List ℕ) → IsReported (size_report sequence)
report_is sequence = shape_by (is_report sequence) (between sequence)

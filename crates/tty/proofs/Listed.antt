-- The sequences of the table read as their keys.
use Rattle.std.proofs.Common.{◌≡◌, ◌≢◌, ℕ, ◌≤◌, Bool, true, false, ◌&&◌, nat_le, List, [], ◌∷◌, length, get_or, Option, Some, None, refl, ap, sym, subst, ◌∙◌, inl, inr, arith}
use Rattle.std.specs.Prelude.{bytes_eq, codes, if◌then◌else◌}
use Rattle.std.specs.List.{list_all, list_any}
use Rattle.std.proofs.lemmas.Bool.{and_from, and_parts, cases_Bool, or_cases, false≢true, le-leb, leb-true}
use Rattle.std.proofs.lemmas.Bool.Decides.{nat_tests}
use Rattle.std.proofs.lemmas.List.Folds.{list_all_at}
use Rattle.std.proofs.lemmas.List.Quantifiers.{position-Some}
use Rattle.std.proofs.lemmas.Slice.Eq.{bytes_eq-Decides}
use Rattle.tty.specs.declared.keystroke.Keystroke.{Keystroke}
use Rattle.tty.specs.declared.keystroke.Keystroke.TheVariants.{Alt, Char, PasteBegins, PasteEnds, Unknown}
use Rattle.tty.specs.KeySequences.{escaped, is_alt, marked, meaning, named_or, named_sequences, other_keystroke, place_of, size_report}
use Rattle.tty.specs.KeyLaws.{one, SequencesAreRead, SequencesTypeNothing}
use Rattle.tty.proofs.Reports.{IsReported, report_is, report_is_read}
use Rattle.tty.proofs.Single.{is_single, all_kept, single_read}

-- a test that each text of these passes
abbrev each : (List ℕ → Bool) → List (List (List ℕ)) → Bool
each test keys = list_all (λ texts. list_all test texts) keys

passes : (test : List ℕ → Bool) (texts : List (List ℕ)) (sequence : List ℕ) → list_all test texts ≡ true
    → list_any (λ text. bytes_eq text sequence) texts ≡ true → test sequence ≡ true
passes test [] sequence all found = absurd (false≢true found)
passes test (text ∷ texts) sequence all found =
    elim (or_cases (bytes_eq text sequence) (list_any (λ text. bytes_eq text sequence) texts) found) [
      | inl here ↦ subst (λ (it : List ℕ). test it ≡ true) ((bytes_eq-Decides text sequence).0 here) (and_parts _ _ all).0
      | inr later ↦ passes test texts sequence (and_parts _ _ all).1 later
    ]

passes_at : (test : List ℕ → Bool) (keys : List (List (List ℕ))) (sequence : List ℕ) (place : ℕ) → each test keys ≡ true
    → place_of keys sequence ≡ Some place → test sequence ≡ true
passes_at test keys sequence place all found =
    let at = position-Some (λ texts. list_any (λ text. bytes_eq text sequence) texts) keys place [] found in
    let row : list_all test (get_or keys place []) ≡ true =
    elim (cases_Bool (list_all test (get_or keys place []))) [
      | inl is ↦ is
      | inr fails ↦ absurd (false≢true (sym (list_all_at (λ texts. list_all test texts) keys place [] at.0 fails) ∙ all))
    ] in
    passes test (get_or keys place []) sequence row at.1

-- a text is one keystroke after ESC, and all its bytes are kept
abbrev is_read : List ℕ → Bool
is_read text = is_single [] (0x1B ∷ text) && nat_le (length text) 11

alt_is_read : (alt : Bool) (byte : ℕ) → is_alt byte ≡ alt → (if alt then Alt byte else Unknown) ≢ Unknown → is_read (byte ∷ []) ≡ true
alt_is_read false byte is known = absurd (known refl)
alt_is_read true byte is known = grind (arith, nat_tests)

marks_are_read : (begins ends : Bool) (sequence : List ℕ) → bytes_eq sequence (codes "[200~") ≡ begins → bytes_eq sequence (codes "[201~") ≡ ends
    → (if begins then PasteBegins else if ends then PasteEnds else size_report sequence) ≢ Unknown → is_read sequence ≡ true
marks_are_read true ends sequence first second known =
    subst (λ (it : List ℕ). is_read it ≡ true) (sym ((bytes_eq-Decides sequence (codes "[200~")).0 first)) refl
marks_are_read false true sequence first second known =
    subst (λ (it : List ℕ). is_read it ≡ true) (sym ((bytes_eq-Decides sequence (codes "[201~")).0 second)) refl
marks_are_read false false sequence first second known =
    let read = report_is_read sequence known in
    and_from (is_single [] (0x1B ∷ sequence)) (nat_le (length sequence) 11) read.0 (le-leb (length sequence) 11 (omega (arith, read.1)))

marked_is_read : (sequence : List ℕ) → marked sequence ≢ Unknown → is_read sequence ≡ true
marked_is_read sequence known =
    marks_are_read (bytes_eq sequence (codes "[200~")) (bytes_eq sequence (codes "[201~")) sequence refl refl known

other_is_read : (sequence : List ℕ) → other_keystroke sequence ≢ Unknown → is_read sequence ≡ true
other_is_read [] known = marked_is_read [] known
other_is_read (byte ∷ []) known = alt_is_read (is_alt byte) byte refl known
other_is_read (first ∷ second ∷ rest) known = marked_is_read (first ∷ second ∷ rest) known

named_is_read : (place : Option ℕ) (sequence : List ℕ) → place_of named_sequences sequence ≡ place
    → named_or (other_keystroke sequence) place ≢ Unknown → is_read sequence ≡ true
named_is_read None sequence is known = other_is_read sequence known
named_is_read (Some place) sequence is known = passes_at is_read named_sequences sequence place refl is

known_is_read : (sequence : List ℕ) → escaped sequence ≢ Unknown → is_read sequence ≡ true
unfolding escaped
known_is_read sequence known = named_is_read (place_of named_sequences sequence) sequence refl known

pub sequences_are_read : SequencesAreRead
sequences_are_read sequence known =
    let read = and_parts (is_single [] (0x1B ∷ sequence)) (nat_le (length sequence) 11) (known_is_read sequence known) in
    let short : length sequence ≤ 11 = leb-true (length sequence) 11 read.1 in
    single_read [] (0x1B ∷ sequence) read.0 ∙ ap (λ (bytes : List ℕ). one (meaning bytes)) (all_kept [] (0x1B ∷ sequence) (omega arith))

-- ---- no sequence is a character

abbrev types : Keystroke → Bool
types (Char letter) = true
types _ = false

report_types_none : (report : Keystroke) → IsReported report → types report ≡ false
report_types_none _ IsReported.Nothing = refl
report_types_none _ (IsReported.Sized rows columns) = refl

marks_type_none : (begins ends : Bool) (report : Keystroke) → types report ≡ false
    → types (if begins then PasteBegins else if ends then PasteEnds else report) ≡ false
marks_type_none true ends report none = refl
marks_type_none false true report none = refl
marks_type_none false false report none = none

marked_types_none : (sequence : List ℕ) → types (marked sequence) ≡ false
marked_types_none sequence =
    marks_type_none (bytes_eq sequence (codes "[200~")) (bytes_eq sequence (codes "[201~")) (size_report sequence)
    (report_types_none (size_report sequence) (report_is sequence))

alt_types_none : (alt : Bool) (byte : ℕ) → types (if alt then Alt byte else Unknown) ≡ false
alt_types_none true byte = refl
alt_types_none false byte = refl

other_types_none : (sequence : List ℕ) → types (other_keystroke sequence) ≡ false
other_types_none [] = marked_types_none []
other_types_none (byte ∷ []) = alt_types_none (is_alt byte) byte
other_types_none (first ∷ second ∷ rest) = marked_types_none (first ∷ second ∷ rest)

named_types_none : (place : Option ℕ) (other : Keystroke) → types other ≡ false → types (named_or other place) ≡ false
named_types_none None other none = none
named_types_none (Some place) other none = refl

pub sequences_type_nothing : SequencesTypeNothing
unfolding escaped
sequences_type_nothing sequence letter is =
    false≢true (sym (named_types_none (place_of named_sequences sequence) (other_keystroke sequence) (other_types_none sequence)) ∙ ap types is)

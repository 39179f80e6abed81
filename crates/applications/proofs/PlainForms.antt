-- Each character of a plain text has a code.
use Rattle.std.proofs.Common.{◌≡◌, ◌<◌, ℕ, ◌==◌, ◌||◌, Bool, true, false, not, List, [], ◌∷◌, ◌++◌, chars, codes, flat_map, length, Option, Some, None, refl, sym, ap, subst, ◌∙◌, String, Global, encode_utf8, encode_utf8_all, string_bytes, arith}
use Rattle.std.specs.Prelude.{⊤, unwrap_or, if◌then◌else◌}
use Rattle.std.specs.Char.{is_control}
use Rattle.std.specs.Int.{is_in_range}
use Rattle.std.specs.List.{list_all, list_any}
use Rattle.std.specs.Option.{option_or}
use Rattle.std.proofs.lemmas.List.{append-nil}
use Rattle.std.proofs.lemmas.List.Folds.{list_any-append}
use Rattle.std.proofs.lemmas.Str.{chars-nil, chars_from_encodes, encodes-append, IsUtf8-string_bytes}
use Rattle.unicode_normalization.specs.Decompose.{decompose}
use Rattle.unicode_normalization.specs.Forms.{Nfkd, nfc}
use Rattle.applications.specs.PlainTexts.{has_code, is_writable, lacks_code, letter, plain_form, plain_text, punctuation, substitute, written}

-- the text is that of characters that have codes
abbrev IsCoded : List ℕ → Type 0
IsCoded text = (characters : List ℕ) × (encode_utf8_all characters ≡ text) × (list_any (λ character. not (has_code character)) characters ≡ false)

neither : (a b : Bool) → a ≡ false → b ≡ false → (a || b) ≡ false
neither true b p q = p
neither false b p q = q

both : (a b : List ℕ) → IsCoded a → IsCoded b → IsCoded (a ++ b)
both a b (xs, one_is, p) (ys, other_is, q) =
    (xs ++ ys, encodes-append xs ys ∙ (λ i. one_is i ++ other_is i), list_any-append (λ character. not (has_code character)) xs ys ∙ neither _ _ p q)

one : (character : ℕ) → has_code character ≡ true → IsCoded (encode_utf8 character)
one character has = (character ∷ [], append-nil (encode_utf8 character), ap (λ b. not b || false) has)

-- ---- substitutes

abbrev AreCoded : Option (List ℕ) → Type 0
AreCoded None = ⊤
AreCoded (Some text) = IsCoded text

pick : (b : Bool) (x y : Option (List ℕ)) → AreCoded x → AreCoded y → AreCoded (if b then x else y)
pick true x y p q = p
pick false x y p q = q

pick_coded : (b : Bool) (x y : List ℕ) → (b ≡ true → IsCoded x) → (b ≡ false → IsCoded y) → IsCoded (if b then x else y)
pick_coded true x y p q = p refl
pick_coded false x y p q = q refl

empty : IsCoded (codes "")
empty = ([], refl, refl)

ascii : (character : ℕ) → encode_utf8_all (character ∷ []) ≡ character ∷ [] → has_code character ≡ true → IsCoded (character ∷ [])
ascii character same has = (character ∷ [], same, ap (λ b. not b || false) has)

two : (a b : ℕ) → IsCoded (a ∷ []) → IsCoded (b ∷ []) → IsCoded (a ∷ b ∷ [])
two a b p q = both (a ∷ []) (b ∷ []) p q

punctuation_is : (c : ℕ) → AreCoded (punctuation c)
unfolding lib.Utf8.encode
punctuation_is c =
    (pick (is_in_range 0x2018 0x201B c) _ _ (ascii 39 refl refl)
    (pick (is_in_range 0x201C 0x201F c) _ _ (ascii 34 refl refl)
    (pick (c == 0x2039) _ _ (ascii 60 refl refl)
    (pick (c == 0x203A) _ _ (ascii 62 refl refl)
    (pick (c == 0x02BC) _ _ (ascii 39 refl refl)
    (pick (c == 0x2032) _ _ (ascii 39 refl refl)
    (pick (is_in_range 0x2010 0x2015 c) _ _ (ascii 45 refl refl)
    (pick (c == 0x2212) _ _ (ascii 45 refl refl)
    (pick (c == 0x2044) _ _ (ascii 47 refl refl)
    (pick (c == 0x1680) _ _ (ascii 32 refl refl)
    (pick (is_in_range 0x2028 0x2029 c) _ _ (ascii 32 refl refl)
    (pick (is_in_range 0x200B 0x200F c) _ _ empty
    (pick (c == 0x2060) _ _ empty
    (pick (c == 0xFEFF) _ _ empty
    tt))))))))))))))

letter_is : (c : ℕ) → AreCoded (letter c)
unfolding lib.Utf8.encode
letter_is c =
    (pick (c == 0x0110) _ _ (ascii 68 refl refl)
    (pick (c == 0x0111) _ _ (ascii 100 refl refl)
    (pick (c == 0x0131) _ _ (ascii 105 refl refl)
    (pick (c == 0x0141) _ _ (ascii 76 refl refl)
    (pick (c == 0x0142) _ _ (ascii 108 refl refl)
    (pick (c == 0x0152) _ _ (two 79 69 (ascii 79 refl refl) (ascii 69 refl refl))
    (pick (c == 0x0153) _ _ (two 111 101 (ascii 111 refl refl) (ascii 101 refl refl))
    tt)))))))

either : (x y : Option (List ℕ)) → AreCoded x → AreCoded y → AreCoded (option_or x y)
either None y p q = q
either (Some text) y p q = p

or_empty : (x : Option (List ℕ)) → AreCoded x → IsCoded (unwrap_or x (codes ""))
or_empty None p = empty
or_empty (Some text) p = p

-- ---- plain forms

written_is : (part : ℕ) → IsCoded (written part)
written_is part = pick_coded (has_code part) _ _ (one part) (λ _. or_empty (substitute part) (either (punctuation part) (letter part) (punctuation_is part) (letter_is part)))

all_written : (parts : List ℕ) → IsCoded (flat_map written parts)
all_written [] = empty
all_written (part ∷ parts) = both (written part) (flat_map written parts) (written_is part) (all_written parts)

form_is : (character : ℕ) → IsCoded (plain_form character)
unfolding lib.Utf8.encode
form_is character =
    pick_coded (has_code character) _ _ (one character) (λ _.
    pick_coded (is_control character) _ _ (λ _. ascii 32 refl refl) (λ _.
    pick_coded (list_all is_writable (decompose Nfkd character)) _ _ (λ _. all_written (decompose Nfkd character)) (λ _. ascii 63 refl refl)))

forms_are : (characters : List ℕ) → IsCoded (flat_map plain_form characters)
forms_are [] = empty
forms_are (character ∷ characters) = both (plain_form character) (flat_map plain_form characters) (form_is character) (forms_are characters)

pub plain_lacks_none : (plain : String Global) (characters : List ℕ) → string_bytes plain ≡ flat_map plain_form characters → lacks_code (string_bytes plain) ≡ false
plain_lacks_none plain characters is =
    let coded = forms_are characters in
    let same = chars_from_encodes coded.0 (string_bytes plain) (IsUtf8-string_bytes plain) (coded.1 ∙ sym is) in
    subst (λ it. list_any (λ character. not (has_code character)) it ≡ false) same coded.2

-- ---- the empty text

empty_lacks_none : lacks_code [] ≡ false
empty_lacks_none = ap (λ it. list_any (λ character. not (has_code character)) it) chars-nil

differ : false ≡ true → ⊥
differ same = absurd (cc)

-- a text that lacks a code isn't empty
pub lacking_is_a_text : (text : List ℕ) → lacks_code text ≡ true → 0 < length text
lacking_is_a_text [] is = absurd (differ (sym empty_lacks_none ∙ is))
lacking_is_a_text (byte ∷ text) is = omega arith

if_not : (lacks : Bool) (forms text : List ℕ) → lacks ≡ false → (if lacks then forms else text) ≡ text
if_not true forms text is = absurd (differ (sym is))
if_not false forms text is = refl

pub empty_is_plain : plain_text [] ≡ []
empty_is_plain = if_not (lacks_code []) (flat_map plain_form (nfc (chars []))) [] empty_lacks_none

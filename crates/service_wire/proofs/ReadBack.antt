-- What is written is read back.
use Rattle.std.proofs.Common.{◌≡◌, refl, sym, ap, subst, ◌∙◌, arith, ℕ, ◌+◌, ◌-◌, ◌<◌, Bool, true, false, not, if◌then◌else◌, List, [], ◌∷◌, ◌++◌, length, append-nil, Option, None, Some, Ok, option_and_then, option_map, unwrap_or, codes, chars, IsUtf8, bytes_eq, encode_utf8}
use Rattle.std.specs.Prelude.{nat_lt}
use Rattle.std.proofs.Math.Utf8.{scalar}
use Rattle.std.proofs.lemmas.Bool.{and_from, and_parts, false≢true}
use Rattle.std.proofs.lemmas.Bool.Decides.{nat_tests}
use Rattle.std.proofs.lemmas.List.Concat.{flat_map-cons}
use Rattle.std.proofs.lemmas.Slice.Eq.{bytes_eq-Decides}
use Rattle.std.proofs.lemmas.Str.{IsUtf8-append, IsUtf8-encode, IsUtf8-nil, chars-nil, chars_past_char, encode_ascii}
use Rattle.std.specs.Char.{IsScalar, is_ascii_digit}
use Rattle.std.specs.List.{list_all}
use Rattle.codes3270.specs.CodePage.{character_of, code_of}
use Rattle.codes3270.proofs.RoundTrips.{code_of_its_character}
use Rattle.codes3270.proofs.Tables.{passes_at}
use Rattle.tn3270e_msg.specs.Lu.{is_lu, is_lu_letter, lu_of}
use Rattle.tn3270e_msg.specs.Words.{lu_text}
use Rattle.tn3270e_msg.proofs.Letters.{name_is_read_as_itself}
use Rattle.service_wire.specs.Answers.{status_of}
use Rattle.service_wire.specs.Commands.{command_in, command_of, command_with, drain_of, given_text, note_of, recipient_of, with_blank}
use Rattle.service_wire.specs.Laws.{AnswerIsReadBack, CommandIsReadBack}
use Rattle.service_wire.specs.Lines.{first_word, operand_of}
use Rattle.service_wire.specs.Texts.{code_before, coded, is_graphic, is_text, longest_text, spelt, text_from, text_of, text_of_codes}
use Rattle.service_wire.specs.declared.answer.Status.TheVariants as status
use Rattle.service_wire.specs.declared.command.Command.TheVariants.{Reload, Drain, Note, Sessions, Stop}
use Rattle.service_wire.specs.declared.command.Recipient.{Recipient}
use Rattle.service_wire.specs.declared.command.Recipient.TheVariants.{Everyone, Only}
use Rattle.service_wire.proofs.Words.{first_word_is, is_letter, no_operand, one_word, operand_is}

-- ---- texts

abbrev is_known : Option ℕ → Bool
is_known None = false
is_known (Some character) = scalar character

-- the character of a code
module _ (code : ℕ) (graphic : is_graphic code ≡ true) where
  character_is : (character : ℕ) × (character_of code ≡ Some character) × IsScalar character
  character_is =
      let same : 0x40 + (code - 0x40) ≡ code = grind (arith, nat_tests, graphic) in
      let below : code - 0x40 < 191 = grind (arith, nat_tests, graphic) in
      by (character_of code) refl (subst (λ (at : ℕ). is_known (character_of at) ≡ true) same (passes_at (λ k. is_known (character_of (0x40 + k))) 191 (code - 0x40) refl below))
    where
      by : (found : Option ℕ) → character_of code ≡ found → is_known (character_of code) ≡ true
          → (character : ℕ) × (character_of code ≡ Some character) × IsScalar character
      by None is known = absurd (false≢true (sym (ap is_known is) ∙ known))
      by (Some character) is known = (character, is, sym (ap is_known is) ∙ known)

codes_read : (codes : List ℕ) → list_all is_graphic codes ≡ true → IsUtf8 (text_from codes) × (coded (chars (text_from codes)) ≡ Some codes)
codes_read [] graphic = (IsUtf8-nil, ap coded chars-nil)
codes_read (code ∷ codes) graphic =
    let parts = and_parts (is_graphic code) (list_all is_graphic codes) graphic in
    let known = character_is code parts.0 in
    let rest = codes_read codes parts.1 in
    let all : text_from (code ∷ codes) ≡ encode_utf8 known.0 ++ text_from codes =
    flat_map-cons spelt code codes ∙ ap (λ (found : Option ℕ). encode_utf8 (unwrap_or found 0x20) ++ text_from codes) known.1 in
    let utf8 : IsUtf8 (text_from (code ∷ codes)) = subst IsUtf8 (sym all) (IsUtf8-append _ _ (IsUtf8-encode known.0 known.2) rest.0) in
    let first : code_of known.0 ≡ Some code = code_of_its_character code known.0 known.1 in (
      utf8,
      ap coded (chars_past_char (text_from (code ∷ codes)) (text_from codes) known.0 utf8 all)
          ∙ ap (λ (found : Option ℕ). code_before found (coded (chars (text_from codes)))) first
          ∙ ap (code_before (Some code)) rest.1,
    )

-- a text is read as itself
text_is_read : (codes : List ℕ) → is_text codes ≡ true → text_of (text_from codes) ≡ Some codes
unfolding text_of
text_is_read codes text =
    let parts = and_parts (not (nat_lt longest_text (length codes))) (list_all is_graphic codes) text in
    ap (option_and_then text_of_codes) (codes_read codes parts.1).1 ∙ ap (λ (b : Bool). if b then Some codes else None) text

-- ---- commands

-- what the words of a note are
note_by_parts : (line : List ℕ) (word : List ℕ) (operand : Option (List ℕ)) (to : Recipient) (text : List ℕ)
    → first_word line ≡ word → operand_of line ≡ operand → recipient_of word ≡ Some to → given_text operand ≡ Some text
    → note_of (recipient_of (first_word line)) (given_text (operand_of line)) ≡ Ok (Note to text)
note_by_parts line word operand to text first behind named given =
    ap (λ (word : List ℕ). note_of (recipient_of word) (given_text (operand_of line))) first
    ∙ ap (λ (to : Option Recipient). note_of to (given_text (operand_of line))) named
    ∙ ap (λ (operand : Option (List ℕ)). note_of (Some to) (given_text operand)) behind
    ∙ ap (note_of (Some to)) given

-- a note's words, behind `note`
module _ (word : List ℕ) (letters : list_all is_letter word ≡ true) (to : Recipient) (named : recipient_of word ≡ Some to) where
  words_are_read : (text : List ℕ) → is_text text ≡ true
      → note_of (recipient_of (first_word (word ++ with_blank text))) (given_text (operand_of (word ++ with_blank text))) ≡ Ok (Note to text)
  words_are_read [] text =
      let same = append-nil word in
      note_by_parts (word ++ []) word None to [] (ap first_word same ∙ one_word word letters) (ap operand_of same ∙ no_operand word letters) named refl
  words_are_read (code ∷ codes) text =
      let back = text_from (code ∷ codes) in
      note_by_parts (word ++ 0x20 ∷ back) word (Some back) to (code ∷ codes) (first_word_is back word letters) (operand_is back word letters) named (text_is_read (code ∷ codes) text)

  note_is_read : (text : List ℕ) → is_text text ≡ true → command_in (codes "note" ++ 0x20 ∷ (word ++ with_blank text)) ≡ Ok (Note to text)
  note_is_read text is =
      let rest = word ++ with_blank text in
      ap (command_of (codes "note" ++ 0x20 ∷ rest)) (operand_is rest (codes "note") refl)
      ∙ ap (λ (word : List ℕ). command_with word rest) (first_word_is rest (codes "note") refl)
      ∙ words_are_read text is

drain_is_read : (text : List ℕ) → is_text text ≡ true → command_in (codes "drain" ++ with_blank text) ≡ Ok (Drain text)
drain_is_read [] text = refl
drain_is_read (code ∷ others) text =
    let back = text_from (code ∷ others) in
    ap (command_of (codes "drain" ++ 0x20 ∷ back)) (operand_is back (codes "drain") refl)
    ∙ ap (λ (word : List ℕ). command_with word back) (first_word_is back (codes "drain") refl)
    ∙ ap drain_of (text_is_read (code ∷ others) text)

-- ---- LU names

ascii_letter : (letter : ℕ) → is_lu_letter letter ≡ true → letter < 128
ascii_letter letter is = grind (arith, nat_tests, is)

word_letter : (letter : ℕ) → is_lu_letter letter ≡ true → is_letter letter ≡ true
word_letter letter is = grind (arith, nat_tests, is)

name_letters : (lu : List ℕ) → list_all is_lu_letter lu ≡ true → (lu_text lu ≡ lu) × (list_all is_letter lu ≡ true)
name_letters [] is = (refl, refl)
name_letters (letter ∷ lu) is =
    let parts = and_parts (is_lu_letter letter) (list_all is_lu_letter lu) is in
    let rest = name_letters lu parts.1 in (
      flat_map-cons encode_utf8 letter lu ∙ (λ i. encode_ascii letter (ascii_letter letter parts.0) i ++ rest.0 i),
      and_from _ _ (word_letter letter parts.0) rest.1,
    )

letters_of : (lu : List ℕ) → is_lu lu ≡ true → list_all is_lu_letter lu ≡ true
letters_of [] is = refl
letters_of (letter ∷ lu) is = (and_parts (list_all is_lu_letter (letter ∷ lu)) _ (and_parts (not (is_ascii_digit letter)) _ is).1).0

-- an LU name is its recipient
lu_is_read : (lu : List ℕ) → is_lu lu ≡ true → recipient_of lu ≡ Some (Only lu)
lu_is_read lu is = by (bytes_eq lu (codes "*")) refl
  where
    by : (b : Bool) → bytes_eq lu (codes "*") ≡ b → recipient_of lu ≡ Some (Only lu)
    by true same = absurd (false≢true (ap is_lu (sym ((bytes_eq-Decides lu (codes "*")).0 same)) ∙ is))
    by false other =
        ap (λ (b : Bool). if b then Some Everyone else option_map Only (lu_of lu)) other
        ∙ ap (option_map Only) (name_is_read_as_itself lu is)

pub command_is_read_back : CommandIsReadBack
command_is_read_back Reload is = refl
command_is_read_back Sessions is = refl
command_is_read_back Stop is = refl
command_is_read_back (Drain text) is = drain_is_read text is
command_is_read_back (Note Everyone text) is = note_is_read (codes "*") refl Everyone refl text is
command_is_read_back (Note (Only lu) text) is =
    let letters = name_letters lu (letters_of lu is.0) in
    ap (λ (word : List ℕ). command_in (codes "note " ++ (word ++ with_blank text))) letters.0
    ∙ note_is_read lu letters.1 (Only lu) (lu_is_read lu is.0) text is.1

-- ---- answers

pub answer_is_read_back : AnswerIsReadBack
answer_is_read_back status.Done text = record {
  status_is = ap status_of (first_word_is text (codes "ok") refl);
  text_is = sym (ap (λ (found : Option (List ℕ)). unwrap_or found []) (operand_is text (codes "ok") refl));
}
answer_is_read_back status.Failed text = record {
  status_is = ap status_of (first_word_is text (codes "error") refl);
  text_is = sym (ap (λ (found : Option (List ℕ)). unwrap_or found []) (operand_is text (codes "error") refl));
}

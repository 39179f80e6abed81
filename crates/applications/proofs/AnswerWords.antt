-- The words of an answer's text, one after the other.
use Rattle.std.proofs.Common.{◌≡◌, ◌≢◌, refl, sym, ap, subst, ◌∙◌, ℕ, suc, ◌+◌, ◌==◌, ◌&&◌, ◌<◌, arith, Bool, true, false, not, List, [], ◌∷◌, take, drop, length, Option, Some, None, option_and_then, option_map}
use Rattle.std.proofs.lemmas.Bool.{and_parts, eqb-true}
use Rattle.std.proofs.lemmas.List.{length-drop}
use Rattle.std.specs.List.{onto_first}
use Rattle.presentation.specs.Glyph.{blank}
use Rattle.panels.specs.Panel.{Panels}
use Rattle.applications.specs.AnswerLines.{AnswerParts, answer_in, answer_of_words, answer_of_parts, answer_with, is_quoted_after, no_parts, pair_of, panel_of_name, with_word, with_words, word_length, words_after, words_from}

abbrev IsFirst : Bool → List ℕ → Type 0
IsFirst quoted text = words_from quoted text ≡ take (word_length quoted text) text ∷ words_after (drop (word_length quoted text) text)

one_more : (char : ℕ) (text : List ℕ) (words : List (List ℕ)) (n m : ℕ) → suc n ≡ m → words ≡ take n text ∷ words_after (drop n text)
    → onto_first char words ≡ take m (char ∷ text) ∷ words_after (drop m (char ∷ text))
one_more char text words n m is first =
    subst (λ (k : ℕ). onto_first char words ≡ take k (char ∷ text) ∷ words_after (drop k (char ∷ text))) is (ap (onto_first char) first)

pub words_first : (quoted : Bool) (text : List ℕ) → IsFirst quoted text
words_first quoted [] = refl
words_first quoted (char ∷ text) = by_test (char == blank && not quoted) refl (words_first (is_quoted_after char quoted) text)
  where
    by_test : (b : Bool) → (char == blank && not quoted) ≡ b → IsFirst (is_quoted_after char quoted) text → IsFirst quoted (char ∷ text)
    by_test true is first = rw is (rw ((and_parts (char == blank) (not quoted) is).0) refl)
    by_test false is first =
        let quoted_next = is_quoted_after char quoted in
        let n = word_length quoted_next text in
        rw is (one_more char text (words_from quoted_next text) n (1 + n) (omega arith) first)

pub no_words : (text : List ℕ) → ((rest : List ℕ) → text ≢ blank ∷ rest) → words_after text ≡ []
no_words [] none = refl
no_words (char ∷ text) none = by_test (char == blank) refl
  where
    by_test : (b : Bool) → (char == blank) ≡ b → words_after (char ∷ text) ≡ []
    by_test true is = absurd (none text (ap (λ (it : ℕ). it ∷ text) (eqb-true char blank is)))
    by_test false is = rw is refl

module _ (panels : Panels) (rest text : List ℕ) (is : rest ≡ blank ∷ text) (word behind : List ℕ) (word_is : word ≡ take (word_length false text) text)
    (behind_is : behind ≡ drop (word_length false text) text) (old : AnswerParts) (whole : Option AnswerParts) (so_far : with_words panels (words_after rest) old ≡ whole) where
  by_word : with_words panels (words_after rest) old ≡ option_and_then (with_words panels (words_after behind)) (with_word panels (pair_of word) old)
  by_word = ap (λ (words : List (List ℕ)). with_words panels words old)
      (ap words_after is ∙ words_first false text ∙ (λ i. sym word_is i ∷ words_after (sym behind_is i)))

  pub word_more : (new : AnswerParts) → with_word panels (pair_of word) old ≡ Some new → with_words panels (words_after behind) new ≡ whole
  word_more new some = sym (by_word ∙ ap (option_and_then (with_words panels (words_after behind))) some) ∙ so_far

  pub word_fails : with_word panels (pair_of word) old ≡ None → whole ≡ None
  word_fails none = sym so_far ∙ by_word ∙ ap (option_and_then (with_words panels (words_after behind))) none

  pub words_shorter : length behind < length rest
  words_shorter = let n = length-drop (word_length false text) text in let m = ap length is in let k = ap length behind_is in omega (arith, n, m, k)

-- ---- the answer

pub answer_by_words : (panels : Panels) (text : List ℕ) → answer_in panels text
    ≡ answer_with panels (words_after (drop (word_length false text) text)) (panel_of_name panels (take (word_length false text) text))
unfolding answer_in
answer_by_words panels text = ap (answer_of_words panels) (words_first false text)

module _ (panels : Panels) (text name rest : List ℕ) (name_is : name ≡ take (word_length false text) text) (rest_is : rest ≡ drop (word_length false text) text) where
  by_parts : answer_in panels text ≡ answer_with panels (words_after rest) (panel_of_name panels name)
  by_parts = answer_by_words panels text ∙ (λ i. answer_with panels (words_after (sym rest_is i)) (panel_of_name panels (sym name_is i)))

  pub has_no_panel : panel_of_name panels name ≡ None → None ≡ answer_in panels text
  has_no_panel none = sym (by_parts ∙ ap (answer_with panels (words_after rest)) none)

  module _ (panel : Option ℕ) (some : panel_of_name panels name ≡ Some panel) where
    by_panel : answer_in panels text ≡ option_map (answer_of_parts panel) (with_words panels (words_after rest) no_parts)
    by_panel = by_parts ∙ ap (answer_with panels (words_after rest)) some

    pub is_no_answer : with_words panels (words_after rest) no_parts ≡ None → None ≡ answer_in panels text
    is_no_answer none = sym (by_panel ∙ ap (option_map (answer_of_parts panel)) none)

    pub is_answer : (parts : AnswerParts) → with_words panels (words_after rest) no_parts ≡ Some parts → Some (answer_of_parts panel parts) ≡ answer_in panels text
    is_answer parts all = sym (by_panel ∙ ap (option_map (answer_of_parts panel)) all)

-- A text is typed at a terminal, one character more at a time.
use Rattle.std.proofs.Common.{◌≡◌, ◌∙◌, sym, ap, ℕ, List, [], ◌∷◌, ◌++◌, Option, Some, None, append-nil, is_some, if◌then◌else◌}
use Rattle.std.specs.Option.{option_map_or}
use Rattle.keyboard.specs.declared.key.Key.TheVariants.{Char}
use Rattle.keyboard.specs.declared.key.Refusal.{Refusal}
use Rattle.term_core.specs.Presses.{after_key, answer_to_key}
use Rattle.term_core.specs.State.{Terminal}
use Rattle.scripts.specs.Operating.{after_text, refusal_in, refusal_text, said_of_text}

module _ (left next : List ℕ) (char : ℕ) (is : left ≡ char ∷ next) (now new : Terminal) (pressed : new ≡ after_key (Char char) now)
    (refusal : Option Refusal) (answered : refusal ≡ refusal_in (answer_to_key (Char char) now)) where
  -- by what the first key is answered
  typed_on : after_text left now ≡ (if is_some refusal then new else after_text next new)
  typed_on = ap (λ (text : List ℕ). after_text text now) is ∙ (λ i. if is_some (sym answered i) then sym pressed i else after_text next (sym pressed i))

  said_on : said_of_text left now ≡ option_map_or refusal_text refusal (said_of_text next new)
  said_on = ap (λ (text : List ℕ). said_of_text text now) is ∙ (λ i. option_map_or refusal_text (sym answered i) (said_of_text next (sym pressed i)))

  -- it was taken
  pub typed_more : (whole : Terminal) → after_text left now ≡ whole → refusal ≡ None → after_text next new ≡ whole
  typed_more whole so_far none = sym (typed_on ∙ ap (λ (r : Option Refusal). if is_some r then new else after_text next new) none) ∙ so_far

  pub said_more : (behind whole : List ℕ) → behind ++ said_of_text left now ≡ whole → refusal ≡ None → behind ++ said_of_text next new ≡ whole
  said_more behind whole so_far none =
      sym (ap (λ (said : List ℕ). behind ++ said) (said_on ∙ ap (λ (r : Option Refusal). option_map_or refusal_text r (said_of_text next new)) none)) ∙ so_far

  -- it was refused
  pub typing_ends : (whole : Terminal) → after_text left now ≡ whole → (why : Refusal) → refusal ≡ Some why → new ≡ whole
  typing_ends whole so_far why some = sym (typed_on ∙ ap (λ (r : Option Refusal). if is_some r then new else after_text next new) some) ∙ so_far

  pub saying_ends : (behind whole : List ℕ) → behind ++ said_of_text left now ≡ whole → (why : Refusal) → refusal ≡ Some why
      → behind ++ refusal_text why ≡ whole
  saying_ends behind whole so_far why some =
      sym (ap (λ (said : List ℕ). behind ++ said) (said_on ∙ ap (λ (r : Option Refusal). option_map_or refusal_text r (said_of_text next new)) some)) ∙ so_far

-- no character is left
pub all_typed : (left : List ℕ) (now whole : Terminal) → after_text left now ≡ whole → left ≡ [] → now ≡ whole
all_typed left now whole so_far none = sym (ap (λ (text : List ℕ). after_text text now) none) ∙ so_far

pub all_said : (left : List ℕ) (now : Terminal) (behind whole : List ℕ) → behind ++ said_of_text left now ≡ whole → left ≡ [] → behind ≡ whole
all_said left now behind whole so_far none =
    sym (append-nil behind) ∙ sym (ap (λ (text : List ℕ). behind ++ said_of_text text now) none) ∙ so_far

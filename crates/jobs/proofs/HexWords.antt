-- The bytes of a line, one word more at a time.
use Rattle.std.proofs.Common.{◌≡◌, refl, sym, ap, ◌∙◌, List, [], ◌∷◌, ◌++◌, ℕ, append_assoc, Option, None, Some, true}
use Rattle.std.specs.declared.str.Split.{Split}
use Rattle.std.specs.Str.Iter.{split_text, split_has_more}
use Rattle.jobs.specs.HexLines.{joined, words_of, bytes_of_word, bytes_of_words, bytes_of_line}
use Rattle.jobs.proofs.Pieces.{words_left}

behind_none : (back : Option (List ℕ)) → back ≡ joined (Some []) back
behind_none None = refl
behind_none (Some back) = refl

joined_assoc : (front middle : List ℕ) (back : Option (List ℕ)) → joined (Some front) (joined (Some middle) back) ≡ joined (Some (front ++ middle)) back
joined_assoc front middle None = refl
joined_assoc front middle (Some back) = ap (λ (all : List ℕ). Some all) (sym (append_assoc front middle back))

pub begins : (line bytes : List ℕ) (it : Split ℕ) → bytes ≡ [] → split_text it ≡ line → split_has_more it ≡ true
    → bytes_of_line line ≡ joined (Some bytes) (bytes_of_words (words_left it))
unfolding bytes_of_line
begins line bytes it none text more = rw (none, more, text) (behind_none (bytes_of_words (words_of line)))

module _ (line word : List ℕ) (left others : List (List ℕ)) (is : left ≡ word ∷ others) (bytes : List ℕ)
    (so_far : bytes_of_line line ≡ joined (Some bytes) (bytes_of_words left)) where
  pub is_no_word : bytes_of_word word ≡ None → bytes_of_line line ≡ None
  is_no_word none = so_far ∙ ap (λ (words : List (List ℕ)). joined (Some bytes) (bytes_of_words words)) is
      ∙ ap (λ (front : Option (List ℕ)). joined (Some bytes) (joined front (bytes_of_words others))) none

  pub word_more : (pairs more : List ℕ) → bytes_of_word word ≡ Some pairs → more ≡ bytes ++ pairs
      → bytes_of_line line ≡ joined (Some more) (bytes_of_words others)
  word_more pairs more some behind = so_far ∙ ap (λ (words : List (List ℕ)). joined (Some bytes) (bytes_of_words words)) is
      ∙ ap (λ (front : Option (List ℕ)). joined (Some bytes) (joined front (bytes_of_words others))) some
      ∙ joined_assoc bytes pairs (bytes_of_words others)
      ∙ ap (λ (front : List ℕ). joined (Some front) (bytes_of_words others)) (sym behind)

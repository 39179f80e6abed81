-- Texts: codes one character more at a time.
use Rattle.std.proofs.Common.{◌≡◌, refl, sym, ap, ◌∙◌, arith, ℕ, ◌<◌, ◌&&◌, ◌++◌, Bool, not, if◌then◌else◌, List, [], ◌∷◌, length, append_assoc, append-nil, length-append, Option, None, Some, option_and_then, lt-ltb, chars}
use Rattle.std.specs.List.{list_all}
use Rattle.codes3270.specs.CodePage.{code_of}
use Rattle.service_wire.specs.Texts.{code_before, coded, is_graphic, longest_text, text_of, text_of_codes}

-- codes behind others, where there are some
abbrev pub codes_behind : List ℕ → Option (List ℕ) → Option (List ℕ)
codes_behind front None = None
codes_behind front (Some back) = Some (front ++ back)

code_more : (front : List ℕ) (code : ℕ) (back : Option (List ℕ)) → codes_behind front (code_before (Some code) back) ≡ codes_behind (front ++ code ∷ []) back
code_more front code None = refl
code_more front code (Some back) = ap (λ (all : List ℕ). Some all) (sym (append_assoc front (code ∷ []) back))

too_long : (text : List ℕ) → longest_text < length text → text_of_codes text ≡ None
too_long text longer = ap (λ (b : Bool). if not b && list_all is_graphic text then Some text else None) (lt-ltb longest_text (length text) longer)

cut_off : (front : List ℕ) (code : Option ℕ) (back : Option (List ℕ)) → length front ≡ longest_text
    → option_and_then text_of_codes (codes_behind front (code_before code back)) ≡ None
cut_off front None back long = refl
cut_off front (Some code) None long = refl
cut_off front (Some code) (Some back) long = too_long (front ++ code ∷ back) (let n = length-append front (code ∷ back) in omega arith)

module _ (text left front : List ℕ) (so_far : coded (chars text) ≡ codes_behind front (coded (chars left))) where
  all_codes : (codes : Option (List ℕ)) → coded (chars left) ≡ codes → text_of text ≡ option_and_then text_of_codes (codes_behind front codes)
  unfolding text_of
  all_codes codes is = ap (option_and_then text_of_codes) (so_far ∙ ap (codes_behind front) is)

  -- the characters that are left, one by one
  module _ (char : ℕ) (others : List ℕ) (is : chars left ≡ char ∷ others) where
    pub is_too_long : length front ≡ longest_text → None ≡ text_of text
    is_too_long long = sym (all_codes (code_before (code_of char) (coded others)) (ap coded is) ∙ cut_off front (code_of char) (coded others) long)

    pub is_no_note : code_of char ≡ None → None ≡ text_of text
    is_no_note none = sym (all_codes (code_before None (coded others)) (ap coded is ∙ ap (λ (code : Option ℕ). code_before code (coded others)) none))

    pub so_much_more : (code : ℕ) → code_of char ≡ Some code → coded (chars text) ≡ codes_behind (front ++ code ∷ []) (coded others)
    so_much_more code some = so_far ∙ ap (codes_behind front) (ap coded is ∙ ap (λ (first : Option ℕ). code_before first (coded others)) some) ∙ code_more front code (coded others)

  pub is_whole : chars left ≡ [] → text_of text ≡ text_of_codes front
  is_whole none = all_codes (Some []) (ap coded none) ∙ ap text_of_codes (append-nil front)

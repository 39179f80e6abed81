-- Lines of scripts: the numbers that a parse gives, codes one character more at a time, and words.
use Rattle.std.proofs.Common.{◌≡◌, refl, sym, ap, ◌∙◌, arith, ℕ, ◌<◌, ◌&&◌, ◌++◌, Bool, not, if◌then◌else◌, List, [], ◌∷◌, length, append_assoc, append-nil, length-append, Option, None, Some, option_and_then, lt-ltb, chars}
use Rattle.std.specs.List.{list_all}
use Rattle.codes3270.specs.CodePage.{code_of}
use Rattle.host_core.specs.Notes.{longest_note, is_graphic}
use Rattle.world3270.specs.model.NoteTexts.{note_text}
use Rattle.jobs.specs.HexLines.{words_of}
use Rattle.scripts.specs.ScriptLines.{code_before, coded, note_of, typed_text, command_of_verb, command_of_number, command_of_text, command_of_words, script_command}
use Rattle.jobs.specs.LineParts.{behind, number_of}
use Rattle.jobs.proofs.LineParts.{SplitsAtBlank, HasNoBlank, one_word, some_words, word_more}

-- ---- notes

-- codes behind others, where there are some
abbrev pub codes_behind : List ℕ → Option (List ℕ) → Option (List ℕ)
codes_behind front None = None
codes_behind front (Some back) = Some (front ++ back)

code_more : (front : List ℕ) (code : ℕ) (back : Option (List ℕ)) → codes_behind front (code_before (Some code) back) ≡ codes_behind (front ++ code ∷ []) back
code_more front code None = refl
code_more front code (Some back) = ap (λ (all : List ℕ). Some all) (sym (append_assoc front (code ∷ []) back))

too_long : (text : List ℕ) → longest_note < length text → note_text text ≡ None
too_long text longer = ap (λ (b : Bool). if not b && list_all is_graphic text then Some text else None) (lt-ltb longest_note (length text) longer)

cut_off : (front : List ℕ) (code : Option ℕ) (back : Option (List ℕ)) → length front ≡ longest_note
    → option_and_then note_text (codes_behind front (code_before code back)) ≡ None
cut_off front None back long = refl
cut_off front (Some code) None long = refl
cut_off front (Some code) (Some back) long = too_long (front ++ code ∷ back) (let n = length-append front (code ∷ back) in omega arith)

module _ (text left front : List ℕ) (so_far : coded (chars text) ≡ codes_behind front (coded (chars left))) where
  all_codes : (codes : Option (List ℕ)) → coded (chars left) ≡ codes → note_of text ≡ option_and_then note_text (codes_behind front codes)
  unfolding note_of
  all_codes codes is = ap (option_and_then note_text) (so_far ∙ ap (codes_behind front) is)

  -- the characters that are left, one by one
  module _ (char : ℕ) (others : List ℕ) (is : chars left ≡ char ∷ others) where
    pub is_too_long : length front ≡ longest_note → None ≡ note_of text
    is_too_long long = sym (all_codes (code_before (code_of char) (coded others)) (ap coded is) ∙ cut_off front (code_of char) (coded others) long)

    pub is_no_note : code_of char ≡ None → None ≡ note_of text
    is_no_note none = sym (all_codes (code_before None (coded others)) (ap coded is ∙ ap (λ (code : Option ℕ). code_before code (coded others)) none))

    pub so_much_more : (code : ℕ) → code_of char ≡ Some code → coded (chars text) ≡ codes_behind (front ++ code ∷ []) (coded others)
    so_much_more code some = so_far ∙ ap (codes_behind front) (ap coded is ∙ ap (λ (first : Option ℕ). code_before first (coded others)) some) ∙ code_more front code (coded others)

  pub is_whole : chars left ≡ [] → note_of text ≡ note_text front
  is_whole none = all_codes (Some []) (ap coded none) ∙ ap note_text (append-nil front)

-- ---- words

pub read_by_verb : (line : List ℕ) → HasNoBlank line → script_command line ≡ command_of_verb line
unfolding script_command
read_by_verb line whole = ap (λ (words : List (List ℕ)). command_of_words words (typed_text line)) (one_word line whole)

module _ (line verb rest : List ℕ) (cut : SplitsAtBlank line verb rest) where
  words_behind : (words : List (List ℕ)) → words_of rest ≡ words → script_command line ≡ command_of_words (verb ∷ words) (behind rest)
  unfolding script_command
  words_behind words is = λ i. command_of_words ((word_more line verb rest cut ∙ ap (λ (others : List (List ℕ)). verb ∷ others) is) i) (behind (sym cut.2 i))

  pub read_by_number : HasNoBlank rest → script_command line ≡ option_and_then (command_of_number verb) (number_of rest)
  read_by_number whole = words_behind (rest ∷ []) (one_word rest whole)

  pub read_by_text : (number text : List ℕ) → SplitsAtBlank rest number text → script_command line ≡ option_and_then (λ number. command_of_text verb number text) (number_of number)
  read_by_text number text more =
      let words = some_words text in
      words_behind (number ∷ words.0 ∷ words.1) (word_more rest number text more ∙ ap (λ (others : List (List ℕ)). number ∷ others) words.2)
      ∙ ap (λ (behind_it : List ℕ). option_and_then (λ number. command_of_text verb number behind_it) (number_of number)) (sym more.2)

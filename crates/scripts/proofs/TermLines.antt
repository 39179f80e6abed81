-- Lines of a terminal's script: their words.
use Rattle.std.proofs.Common.{◌≡◌, ◌∙◌, ap, sym, ℕ, List, ◌∷◌}
use Rattle.jobs.specs.LineParts.{behind}
use Rattle.scripts.specs.TermLines.{command_of_verb, command_of_words, command_of_text, terminal_command}
use Rattle.jobs.proofs.LineParts.{HasNoBlank, SplitsAtBlank, one_word, some_words, word_more}

pub read_by_verb : (line : List ℕ) → HasNoBlank line → terminal_command line ≡ command_of_verb line
unfolding terminal_command
read_by_verb line whole = ap (λ (words : List (List ℕ)). command_of_words words (behind line)) (one_word line whole)

pub read_by_text : (line verb text : List ℕ) → SplitsAtBlank line verb text → terminal_command line ≡ command_of_text verb text
unfolding terminal_command
read_by_text line verb text cut =
    let words = some_words text in
    (λ i. command_of_words ((word_more line verb text cut ∙ ap (λ (others : List (List ℕ)). verb ∷ others) words.2) i) (sym cut.2 i))

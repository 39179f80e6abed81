-- The operand of a script's `answer` (our profile): the name of a panel, or `-` for the panel that is shown, and pairs
-- name=value. A pair sets the text of the field with its name; `message` sets the text of the last row, `cursor` names
-- the field for the cursor.
use Rattle.std.specs.Prelude.{ℕ, ◌+◌, ◌==◌, ◌&&◌, ◌||◌, not, nat_lt, Bool, true, false, List, [], ◌∷◌, length, Option, Some, None, is_some, if◌then◌else◌, bytes_eq, codes, option_map, unwrap_or}
use Rattle.std.specs.BTreeMap.{insert_entry}
use Rattle.std.specs.List.{after_first, before_first, onto_first, position_or_len}
use Rattle.std.specs.Option.{option_and_then}
use Rattle.std.specs.Ordering.{nat_cmp}
use Rattle.host_core.specs.declared.question.Answer.{Answer}
use Rattle.panels.specs.MessageText.{message_of}
use Rattle.panels.specs.Names.{field_named, number_named, panel_named}
use Rattle.panels.specs.Panel.{Panels}
use Rattle.panels.specs.Screen.{Values}
use Rattle.panels.specs.Values.{value_of}
use Rattle.panels.specs.declared.message_text.MessageText.{MessageText}
use Rattle.panels.specs.declared.panel.Field.{Field}
use Rattle.presentation.specs.Glyph.{blank}
use Rattle.applications.specs.PlainTexts.{lacks_code}
use Rattle.applications.specs.Applications.{message_bytes, value_by}

-- ---- words

-- the double quote
abbrev pub quote : ℕ
quote = 34

-- whether the text after a character is between quotes
abbrev pub is_quoted_after : ℕ → Bool → Bool
is_quoted_after char quoted = if char == quote then not quoted else quoted

-- The words of a text, separated by one blank each; a blank between quotes belongs to its word. `quoted`: whether the
-- text begins between quotes.
abbrev pub words_from : Bool → List ℕ → List (List ℕ)
words_from quoted [] = [] ∷ []
words_from quoted (char ∷ text) =
    if char == blank && not quoted then [] ∷ words_from false text
    else onto_first char (words_from (is_quoted_after char quoted) text)

-- whether the text has this character
abbrev pub has : ℕ → List ℕ → Bool
has char text = nat_lt (position_or_len (λ other. other == char) text) (length text)

-- the texts before and after the first occurrence of a character; None if there is none
abbrev pub cut_at : ℕ → List ℕ → Option (List ℕ × List ℕ)
cut_at char text =
    if has char text then Some (before_first (λ other. other == char) text, after_first (λ other. other == char) text)
    else None

-- the text between two quotes; None if anything is before or after them
abbrev pub text_between : Option (List ℕ × List ℕ) → Option (List ℕ)
text_between (Some (text, [])) = Some text
text_between (Some (text, char ∷ others)) = None
text_between None = None

abbrev pub text_in : Option (List ℕ × List ℕ) → List ℕ → Option (List ℕ)
text_in None value = Some value
text_in (Some ([], quoted)) value = text_between (cut_at quote quoted)
text_in (Some (char ∷ others, quoted)) value = None

-- the text of a value: what is between its two quotes, or the value itself if it has no quotes
abbrev pub value_text : List ℕ → Option (List ℕ)
value_text value = text_in (cut_at quote value) value

abbrev pub pair_at : Option (List ℕ × List ℕ) → Option (List ℕ × List ℕ)
pair_at None = None
pair_at (Some parts) = option_map (λ text. (parts.0, text)) (value_text parts.1)

-- a word's name and its text; the name ends before the first `=`
abbrev pub pair_of : List ℕ → Option (List ℕ × List ℕ)
pair_of word = pair_at (cut_at 61 word)

-- ---- the parts of an answer

-- the parts given so far: the values of fields, the message, and the number of the field for the cursor
pub record AnswerParts : Type 0 where
  pub values : Values
  pub message : Option MessageText
  pub cursor : Option ℕ

abbrev pub no_parts : AnswerParts
no_parts = record { values = []; message = None; cursor = None }

-- the message for the last row
abbrev pub message_text : List ℕ → MessageText
message_text text = record { characters = message_of (message_bytes text) }

-- The message, the cursor's field and the text of a field or value may be given once each. A name must be that of a
-- field or, for a text, of a value, and each character must have a code in code page 037.
abbrev pub with_message : List ℕ → AnswerParts → Option AnswerParts
with_message text parts =
    if is_some parts.message || lacks_code text then None
    else Some (record parts { message = Some (message_text text) })

abbrev pub with_cursor_in : Option Field → AnswerParts → Option AnswerParts
with_cursor_in None parts = None
with_cursor_in (Some field) parts = if is_some parts.cursor then None
    else Some (record parts { cursor = Some field.number })

abbrev pub with_text_of : Option ℕ → List ℕ → AnswerParts → Option AnswerParts
with_text_of None text parts = None
with_text_of (Some number) text parts =
    if is_some (value_of parts.values number) || lacks_code text then None
    else Some (record parts { values = insert_entry nat_cmp parts.values number (value_by text) })

-- the parts after a pair was added; None if it is invalid
abbrev pub with_pair : Panels → List ℕ → List ℕ → AnswerParts → Option AnswerParts
with_pair panels name text parts =
    if bytes_eq name (codes "message") then with_message text parts else
    if bytes_eq name (codes "cursor") then with_cursor_in (field_named text panels) parts else
    with_text_of (number_named name panels) text parts

abbrev pub with_word : Panels → Option (List ℕ × List ℕ) → AnswerParts → Option AnswerParts
with_word panels None parts = None
with_word panels (Some pair) parts = with_pair panels pair.0 pair.1 parts

-- the parts after pairs were added; None if one is invalid
abbrev pub with_words : Panels → List (List ℕ) → AnswerParts → Option AnswerParts
with_words panels [] parts = Some parts
with_words panels (word ∷ words) parts = option_and_then (with_words panels words)
    (with_word panels (pair_of word) parts)

-- ---- the answer

-- the number of the panel with this name; Some None for `-`, the panel that is shown; None if there is no such panel
abbrev pub panel_of_name : Panels → List ℕ → Option (Option ℕ)
panel_of_name panels name =
    if bytes_eq name (codes "-") then Some None else option_map (λ number. Some number) (panel_named name panels)

abbrev pub no_message : MessageText
no_message = record { characters = message_of [] }

abbrev pub answer_of_parts : Option ℕ → AnswerParts → Answer
answer_of_parts panel parts =
    record { panel = panel; values = parts.values; message = unwrap_or parts.message no_message; cursor = parts.cursor }

abbrev pub answer_with : Panels → List (List ℕ) → Option (Option ℕ) → Option Answer
answer_with panels words None = None
answer_with panels words (Some panel) = option_map (answer_of_parts panel) (with_words panels words no_parts)

abbrev pub answer_of_words : Panels → List (List ℕ) → Option Answer
answer_of_words panels [] = None
answer_of_words panels (name ∷ words) = answer_with panels words (panel_of_name panels name)

-- The answer that a text describes. None if there is no such panel or field, if a name occurs twice, if a character has
-- no code in code page 037, or if the quotes don't match.
unfoldable pub answer_in : Panels → List ℕ → Option Answer
answer_in panels text = answer_of_words panels (words_from false text)

-- ---- how it is read

-- the length of the first word
abbrev pub word_length : Bool → List ℕ → ℕ
word_length quoted [] = 0
word_length quoted (char ∷ text) = if char == blank && not quoted then 0
    else 1 + word_length (is_quoted_after char quoted) text

-- the words after the first one, each after a blank
abbrev pub words_after : List ℕ → List (List ℕ)
words_after [] = []
words_after (char ∷ text) = if char == blank then words_from false text else []

-- the parts after a step; None if the text is invalid
abbrev pub taken_as : Bool → AnswerParts → Option AnswerParts
taken_as true parts = Some parts
taken_as false parts = None

-- How a belief is held cell by cell, and which one it is (our profile).
use Rattle.std.specs.Borrow.{Bor}
use Rattle.std.specs.Prelude.{◌≡◌, ◌==◌, ◌&&◌, ◌||◌, not, is_some, ◌+◌, ⊤, ℕ, Bool, true, false, List, [], ◌∷◌, ◌++◌, length, Option, Some, None, IfSome}
use Rattle.codes3270.specs.declared.attribute.Attr.{Attr as Attribute}
use Rattle.shadow.specs.declared.mdt_state.MdtState.{MdtState}
use Rattle.shadow.specs.declared.known.Known.{Known}
use Rattle.shadow.specs.declared.known.Known.TheVariants.{Attr as KnownAttr, Char as KnownChar}
use Rattle.shadow.specs.declared.cell_belief.TextKnowledge.{TextKnowledge}
use Rattle.shadow.specs.declared.cell_belief.TextKnowledge.TheVariants.{Cells, ExactOrNulls, Text, TextOrNulls}
use Rattle.shadow.specs.declared.cell_belief.CellBelief.{CellBelief}
use Rattle.shadow.specs.declared.cell_belief.CellBelief.TheVariants.{Attr, Known as KnownPlace, Unplaced, Unknown}
use Rattle.shadow.specs.Belief.{Fact, Belief, Shadow}
use Rattle.shadow.specs.AfterReadBuffer.{known_chars, differs, same_attr}
use Rattle.shadow.specs.Taken.{known_ahead, fact_known, formatted_as}

-- ---- what is known of the cells

-- what a belief says of its cell; `fresh`: the current write stored the character
abbrev pub cell_known : CellBelief → Bool → Known
cell_known (Attr attribute mdt knowledge) fresh = KnownAttr attribute mdt
cell_known (KnownPlace char) fresh = KnownChar (Some char) fresh
cell_known (Unplaced char) fresh = KnownChar None fresh
cell_known Unknown fresh = KnownChar None fresh

abbrev pub cells_known : List CellBelief → List Known
cells_known [] = []
cells_known (place ∷ beliefs) = cell_known place false ∷ cells_known beliefs

-- the characters before the first attribute, None for each that isn't known
abbrev pub chars_known : List CellBelief → List (Option ℕ)
chars_known beliefs = known_ahead (cells_known beliefs)

-- ---- the fields

-- the told text: it ends before the first cell that isn't Told
abbrev pub text_told : List CellBelief → List ℕ
text_told [] = []
text_told (Attr attribute mdt knowledge ∷ beliefs) = []
text_told (KnownPlace char ∷ beliefs) = []
text_told (Unplaced char ∷ beliefs) = char ∷ text_told beliefs
text_told (Unknown ∷ beliefs) = []

abbrev pub fact_told : TextKnowledge → List (Option ℕ) → List ℕ → Fact
fact_told Cells known told = fact_known known
fact_told ExactOrNulls known told = Fact.ExactOrNulls told
fact_told Text known told = Fact.Text told
fact_told TextOrNulls known told = Fact.TextOrNulls told

-- what is believed of the characters of a field; `ahead`: the beliefs of the cells after its attribute
abbrev pub fact_held : TextKnowledge → List CellBelief → Fact
fact_held knowledge ahead = fact_told knowledge (chars_known ahead) (text_told ahead)

abbrev pub belief_held : ℕ → Attribute → MdtState → TextKnowledge → List CellBelief → Belief
belief_held place attribute mdt knowledge ahead = record {
  place = place;
  attr = attribute;
  mdt = mdt;
  length = length (chars_known ahead);
  fact = fact_held knowledge ahead;
}

-- the fields whose attributes are in `rest`, the part of `whole` from an address on
abbrev pub beliefs_held : List CellBelief → ℕ → List CellBelief → List Belief
beliefs_held whole at [] = []
beliefs_held whole at (Attr attribute mdt knowledge ∷ rest) = belief_held at attribute mdt knowledge (rest ++ whole)
    ∷ beliefs_held whole (at + 1) rest
beliefs_held whole at (KnownPlace char ∷ rest) = beliefs_held whole (at + 1) rest
beliefs_held whole at (Unplaced char ∷ rest) = beliefs_held whole (at + 1) rest
beliefs_held whole at (Unknown ∷ rest) = beliefs_held whole (at + 1) rest

-- the belief that these cells hold; `knows`: something is known
abbrev pub shadow_held : Bool → List CellBelief → Shadow
shadow_held false beliefs = Shadow.NothingKnown
shadow_held true beliefs = formatted_as (beliefs_held beliefs 0 beliefs) (chars_known beliefs)

-- ---- a field's fact says of single cells what their beliefs say

abbrev pub SaysCells : TextKnowledge → List CellBelief → Type 0
SaysCells knowledge ahead = known_chars (length (chars_known ahead)) (fact_held knowledge ahead) ≡ chars_known ahead

-- holds if that is so of each field whose attribute is in `rest`
abbrev pub AreHeld : List CellBelief → List CellBelief → Type 0
AreHeld whole [] = ⊤
AreHeld whole (Attr attribute mdt knowledge ∷ rest) = SaysCells knowledge (rest ++ whole) × AreHeld whole rest
AreHeld whole (KnownPlace char ∷ rest) = AreHeld whole rest
AreHeld whole (Unplaced char ∷ rest) = AreHeld whole rest
AreHeld whole (Unknown ∷ rest) = AreHeld whole rest

-- holds if that is so of each field
abbrev pub IsHeld : List CellBelief → Type 0
IsHeld beliefs = AreHeld beliefs beliefs

-- ---- questions about these beliefs

-- whether each character is known
abbrev pub is_whole : List (Option ℕ) → Bool
is_whole [] = true
is_whole (None ∷ known) = false
is_whole (Some char ∷ known) = is_whole known

-- the characters up to the first that isn't known
abbrev pub known_text : List (Option ℕ) → List ℕ
known_text [] = []
known_text (None ∷ known) = []
known_text (Some char ∷ known) = char ∷ known_text known

-- whether a cell's belief shows that the text that was read differs; `char`: its next character
abbrev pub misses_here : CellBelief → Option ℕ → Bool
misses_here (Attr attribute mdt knowledge) char = is_some char
misses_here (KnownPlace known) None = true
misses_here (KnownPlace known) (Some char) = not (char == known)
misses_here (Unplaced told) None = true
misses_here (Unplaced told) (Some char) = false
misses_here Unknown None = true
misses_here Unknown (Some char) = false

-- whether what was read at a cell, and after it, shows that the screen isn't the believed one
abbrev pub other_here : CellBelief → CellBelief → List CellBelief → List CellBelief → Bool
other_here (Attr attribute mdt knowledge) (Attr seen seen_mark seen_telling) ahead read =
    not (same_attr seen attribute)
    || (attribute.protected && differs (chars_known ahead) (known_text (chars_known read)))
other_here (Attr attribute mdt knowledge) (KnownPlace seen) ahead read = true
other_here (Attr attribute mdt knowledge) (Unplaced seen) ahead read = true
other_here (Attr attribute mdt knowledge) Unknown ahead read = true
other_here (KnownPlace char) (Attr seen seen_mark seen_telling) ahead read = true
other_here (KnownPlace char) (KnownPlace seen) ahead read = false
other_here (KnownPlace char) (Unplaced seen) ahead read = false
other_here (KnownPlace char) Unknown ahead read = false
other_here (Unplaced char) (Attr seen seen_mark seen_telling) ahead read = true
other_here (Unplaced char) (KnownPlace seen) ahead read = false
other_here (Unplaced char) (Unplaced seen) ahead read = false
other_here (Unplaced char) Unknown ahead read = false
other_here Unknown (Attr seen seen_mark seen_telling) ahead read = true
other_here Unknown (KnownPlace seen) ahead read = false
other_here Unknown (Unplaced seen) ahead read = false
other_here Unknown Unknown ahead read = false

abbrev pub is_attribute : CellBelief → Bool
is_attribute (Attr attribute mdt knowledge) = true
is_attribute (KnownPlace char) = false
is_attribute (Unplaced char) = false
is_attribute Unknown = false

abbrev pub has_attribute : List CellBelief → Bool
has_attribute [] = false
has_attribute (place ∷ beliefs) = is_attribute place || has_attribute beliefs

-- the believed fields; none if nothing is known
abbrev pub beliefs_of : Option (Bor (List CellBelief)) → List Belief
beliefs_of None = []
beliefs_of (Some beliefs) = beliefs_held beliefs.now 0 beliefs.now

-- holds if nothing is held, or what is held is of a screen with `size` cells
abbrev pub HoldsCells : ℕ → Option (Bor (List CellBelief)) → Type 0
HoldsCells size held = IfSome held (λ beliefs. length beliefs.now ≡ size)

abbrev pub has_fields : Shadow → Bool
has_fields Shadow.NothingKnown = false
has_fields (Shadow.Unformatted known) = false
has_fields (Shadow.Formatted beliefs) = true

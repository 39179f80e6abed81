-- What the functions of `Shadow` that read a belief return (our profile).
use Rattle.std.specs.Prelude.{◌==◌, ℕ, List, [], ◌∷◌, map, slice_get, Option, Some, None, option_map, option_and_then, if◌then◌else◌}
use Rattle.std.specs.Option.{option_map_or}
use Rattle.codes3270.specs.declared.attribute.Cell.{Cell}
use Rattle.codes3270.specs.declared.attribute.Cell.TheVariants.{Char, Attr}
use Rattle.shadow.specs.declared.fact.Fact.{Fact as FactKind}
use Rattle.shadow.specs.declared.fact.Fact.TheVariants.{Exact, ExactOrNulls, Text, TextOrNulls, Any}
use Rattle.shadow.specs.declared.known.Known.{Known}
use Rattle.shadow.specs.declared.known.Known.TheVariants.{Attr as KnownAttr, Char as KnownChar}
use Rattle.shadow.specs.Belief.{Fact, Belief, Shadow, fields_of, cells_of_fields}
use Rattle.shadow.specs.Heard.{is_on}
use Rattle.shadow.specs.Taken.{old_char, laid_out}

-- ---- cells

-- what is known of each cell, by address
abbrev pub known_cells : Shadow → List Known
known_cells Shadow.NothingKnown = []
known_cells (Shadow.Unformatted known) = map old_char known
known_cells (Shadow.Formatted beliefs) = laid_out (cells_of_fields beliefs) beliefs

-- the cell that is known; an unknown MDT is returned as off
abbrev pub known_cell : Known → Option Cell
known_cell (KnownAttr attribute mdt) = Some (Attr (record attribute { mdt = is_on mdt }))
known_cell (KnownChar known stored) = option_map Char known

-- the cell at an address, if it is known
abbrev pub known_at : Shadow → ℕ → Option Cell
known_at shadow at = option_and_then known_cell (slice_get (known_cells shadow) at)

-- ---- fields

abbrev pub belief_with : ℕ → List Belief → Option Belief
belief_with place [] = None
belief_with place (belief ∷ beliefs) = if belief.place == place then Some belief else belief_with place beliefs

-- the field whose attribute is at an address
abbrev pub field_at : ℕ → Shadow → Option Belief
field_at place shadow = belief_with place (fields_of shadow)

abbrev pub kind_of : Fact → FactKind
kind_of (Fact.Exact value) = Exact
kind_of (Fact.ExactOrNulls value) = ExactOrNulls
kind_of (Fact.Text value) = Text
kind_of (Fact.TextOrNulls value) = TextOrNulls
kind_of (Fact.Any known) = Any

-- the text in a fact; empty for Any
abbrev pub value_of : Fact → List ℕ
value_of (Fact.Exact value) = value
value_of (Fact.ExactOrNulls value) = value
value_of (Fact.Text value) = value
value_of (Fact.TextOrNulls value) = value
value_of (Fact.Any known) = []

abbrev pub fact_at : ℕ → Shadow → Option FactKind
fact_at place shadow = option_map (λ belief. kind_of belief.fact) (field_at place shadow)

-- the character with an index of the text in the fact of the field whose attribute is at an address
abbrev pub value_at : ℕ → ℕ → Shadow → Option ℕ
value_at place index shadow = option_and_then (λ belief. slice_get (value_of belief.fact) index) (field_at place shadow)

-- the text in the fact of the field whose attribute is at an address; empty if there is no such field
abbrev pub text_at : ℕ → Shadow → List ℕ
text_at place shadow = option_map_or (λ belief. value_of belief.fact) (field_at place shadow) []

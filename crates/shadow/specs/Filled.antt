-- For proofs alone: how inbound data changes the beliefs of cells in place (our profile).
use Rattle.std.specs.Prelude.{◌+◌, ◌&&◌, ◌||◌, not, ℕ, Bool, true, false, List, [], ◌∷◌, ◌++◌, length, drop, Option, Some, None, bytes_eq, if◌then◌else◌}
use Rattle.datastream.specs.InboundFields.{Returned}
use Rattle.shadow.specs.declared.mdt_state.MdtState.{MdtState}
use Rattle.shadow.specs.declared.mdt_state.MdtState.TheVariants.{Off, Unknown as UnknownMark}
use Rattle.shadow.specs.declared.cell_belief.TextKnowledge.{TextKnowledge}
use Rattle.shadow.specs.declared.cell_belief.TextKnowledge.TheVariants.{Cells, ExactOrNulls, Text, TextOrNulls}
use Rattle.shadow.specs.declared.cell_belief.CellBelief.{CellBelief}
use Rattle.shadow.specs.declared.cell_belief.CellBelief.TheVariants.{Attr, Known as KnownPlace, Unplaced as UnplacedCell, Unknown as UnknownPlace}
use Rattle.shadow.specs.declared.field_update.FieldUpdate.{FieldUpdate}
use Rattle.shadow.specs.declared.field_update.FieldUpdate.TheVariants.{Same as SameFilling, Unknown as UnknownFilling, Null as NullFilling, Text as TextFilling, Unplaced as UnplacedFill}
use Rattle.shadow.specs.declared.field_update.Change.{Change as ChangeLent}
use Rattle.shadow.specs.declared.apply_inbound.Unreturned.{Unreturned}
use Rattle.shadow.specs.declared.apply_inbound.Unreturned.TheVariants.{Stays, IsTold, IsForgotten}
use Rattle.shadow.specs.Belief.{Belief, nulls, next_address}
use Rattle.shadow.specs.Came.{text_at, came_past}
use Rattle.shadow.specs.Heard.{contradicts_text, lost_text, after_long, mark_of}
use Rattle.shadow.specs.Borrowed.{answer}
use Rattle.shadow.specs.InPlace.{chars_known, belief_held, is_whole, known_text}

-- In what follows, `size` is the number of cells of the screen.

-- ---- what was returned for the cell at an address: a text if the cell is its field's attribute

abbrev pub text_came : ℕ → CellBelief → ℕ → List Returned → Option (List ℕ)
text_came size (Attr attribute mdt knowledge) place came = text_at (next_address size place) came
text_came size (KnownPlace char) place came = None
text_came size (UnplacedCell char) place came = None
text_came size UnknownPlace place came = None

abbrev pub came_behind : ℕ → CellBelief → ℕ → List Returned → List Returned
came_behind size (Attr attribute mdt knowledge) place came = came_past (next_address size place) came
came_behind size (KnownPlace char) place came = came
came_behind size (UnplacedCell char) place came = came
came_behind size UnknownPlace place came = came

-- whether the belief allows that these fields are returned, in this order
abbrev pub is_possible : ℕ → List Belief → List Returned → Bool
is_possible size [] [] = true
is_possible size [] (came ∷ more) = false
is_possible size (belief ∷ beliefs) came =
    not (contradicts_text belief (text_at (next_address size belief.place) came))
    && is_possible size beliefs (came_past (next_address size belief.place) came)

abbrev pub any_lost : ℕ → List Belief → List Returned → Bool
any_lost size [] came = false
any_lost size (belief ∷ beliefs) came =
    lost_text belief (text_at (next_address size belief.place) came)
    || any_lost size beliefs (came_past (next_address size belief.place) came)

abbrev pub long_after : ℕ → Bool → List Belief → List Returned → List Belief
long_after size erased [] came = []
long_after size erased (belief ∷ beliefs) came =
    after_long erased (answer belief (text_at (next_address size belief.place) came))
    ∷ long_after size erased beliefs (came_past (next_address size belief.place) came)

-- whether the belief of a cell contradicts what was returned for it; `ahead`: the beliefs of the cells after it
abbrev pub contradicts_held : CellBelief → ℕ → List CellBelief → Option (List ℕ) → Bool
contradicts_held (Attr attribute mdt knowledge) place ahead text =
    contradicts_text (belief_held place attribute mdt knowledge ahead) text
contradicts_held (KnownPlace char) place ahead text = false
contradicts_held (UnplacedCell char) place ahead text = false
contradicts_held UnknownPlace place ahead text = false

abbrev pub lost_held : CellBelief → ℕ → List CellBelief → Option (List ℕ) → Bool
lost_held (Attr attribute mdt knowledge) place ahead text =
    lost_text (belief_held place attribute mdt knowledge ahead) text
lost_held (KnownPlace char) place ahead text = false
lost_held (UnplacedCell char) place ahead text = false
lost_held UnknownPlace place ahead text = false

-- ---- how the belief of a cell changes

pub data Fill : Type 0 where
  Same : Fill
  Unknown : Fill
  Null : Fill
  Chars : List ℕ → Fill
  Unplaced : Fill

pub record Change : Type 0 where
  pub mdt : MdtState
  pub knowledge : TextKnowledge
  pub fill : Fill

abbrev pub fill_of : FieldUpdate → Fill
fill_of SameFilling = Fill.Same
fill_of UnknownFilling = Fill.Unknown
fill_of NullFilling = Fill.Null
fill_of (TextFilling text) = Fill.Chars text.now
fill_of UnplacedFill = Fill.Unplaced

abbrev pub change_of : ChangeLent → Change
change_of change = record { mdt = change.mdt; knowledge = change.knowledge; fill = fill_of change.update }

abbrev pub first_told : List ℕ → CellBelief
first_told [] = UnknownPlace
first_told (char ∷ chars) = UnplacedCell char

abbrev pub place_told : CellBelief → CellBelief
place_told (Attr attribute mdt knowledge) = Attr attribute mdt knowledge
place_told (KnownPlace char) = UnplacedCell char
place_told (UnplacedCell char) = UnplacedCell char
place_told UnknownPlace = UnknownPlace

-- a character's belief once it is filled
abbrev pub filled : Fill → CellBelief → CellBelief
filled Fill.Same place = place
filled Fill.Unknown place = UnknownPlace
filled Fill.Null place = KnownPlace 0
filled (Fill.Chars text) place = first_told text
filled Fill.Unplaced place = place_told place

abbrev pub text_behind : List ℕ → List ℕ
text_behind [] = []
text_behind (char ∷ chars) = chars

abbrev pub fill_next : Fill → Fill
fill_next Fill.Same = Fill.Same
fill_next Fill.Unknown = Fill.Unknown
fill_next Fill.Null = Fill.Null
fill_next (Fill.Chars text) = Fill.Chars (text_behind text)
fill_next Fill.Unplaced = Fill.Unplaced

-- the fill of the characters after the first `count`
abbrev pub fill_after : ℕ → Fill → Fill
fill_after count Fill.Same = Fill.Same
fill_after count Fill.Unknown = Fill.Unknown
fill_after count Fill.Null = Fill.Null
fill_after count (Fill.Chars text) = Fill.Chars (drop count text)
fill_after count Fill.Unplaced = Fill.Unplaced

-- any cell's belief after the change, and the fill of the cell after it
abbrev pub changed : CellBelief → Fill → Change → CellBelief
changed (Attr attribute mdt knowledge) fill change = Attr attribute change.mdt change.knowledge
changed (KnownPlace char) fill change = filled fill (KnownPlace char)
changed (UnplacedCell char) fill change = filled fill (UnplacedCell char)
changed UnknownPlace fill change = filled fill UnknownPlace

abbrev pub fill_behind : CellBelief → Fill → Change → Fill
fill_behind (Attr attribute mdt knowledge) fill change = change.fill
fill_behind (KnownPlace char) fill change = fill_next fill
fill_behind (UnplacedCell char) fill change = fill_next fill
fill_behind UnknownPlace fill change = fill_next fill

-- the beliefs with the cells before the first attribute filled
abbrev pub front_filled : Fill → List CellBelief → List CellBelief
front_filled fill [] = []
front_filled fill (Attr attribute mdt knowledge ∷ beliefs) = Attr attribute mdt knowledge ∷ beliefs
front_filled fill (KnownPlace char ∷ beliefs) = filled fill (KnownPlace char) ∷ front_filled (fill_next fill) beliefs
front_filled fill (UnplacedCell char ∷ beliefs) = filled fill (UnplacedCell char)
    ∷ front_filled (fill_next fill) beliefs
front_filled fill (UnknownPlace ∷ beliefs) = filled fill UnknownPlace ∷ front_filled (fill_next fill) beliefs

-- all beliefs, each changed as its field is; then the fill that is left for the cells from address 0 on
abbrev pub all_changed : Fill → List Change → List CellBelief → List CellBelief
all_changed fill changes [] = []
all_changed fill [] (place ∷ beliefs) = place ∷ beliefs
all_changed fill (change ∷ changes) (place ∷ beliefs) =
    changed place fill change ∷ all_changed (fill_behind place fill change) changes beliefs

abbrev pub last_fill : Fill → List Change → List CellBelief → Fill
last_fill fill changes [] = fill
last_fill fill [] (place ∷ beliefs) = fill
last_fill fill (change ∷ changes) (place ∷ beliefs) = last_fill (fill_behind place fill change) changes beliefs

-- ---- the changes of fields after a key that sends its AID alone

abbrev pub after_key : Bool → MdtState → TextKnowledge → Change
after_key true mdt knowledge = record { mdt = mdt; knowledge = knowledge; fill = Fill.Same }
after_key false mdt knowledge = record { mdt = UnknownMark; knowledge = Cells; fill = Fill.Unknown }

abbrev pub key_change : CellBelief → Change
key_change (Attr attribute mdt knowledge) = after_key attribute.protected mdt knowledge
key_change (KnownPlace char) = record { mdt = UnknownMark; knowledge = Cells; fill = Fill.Same }
key_change (UnplacedCell char) = record { mdt = UnknownMark; knowledge = Cells; fill = Fill.Same }
key_change UnknownPlace = record { mdt = UnknownMark; knowledge = Cells; fill = Fill.Same }

-- a change for each cell; that of a character isn't used
abbrev pub key_changes : List CellBelief → List Change
key_changes [] = []
key_changes (place ∷ beliefs) = key_change place ∷ key_changes beliefs

-- ---- the changes of fields after data that returns fields

-- how the belief of a field with these characters changes if it isn't returned
abbrev pub of_known : List (Option ℕ) → Unreturned
of_known known = if is_whole known
    then (if bytes_eq (known_text known) (nulls (length (known_text known))) then Stays else IsTold) else IsForgotten

abbrev pub unreturned_by : TextKnowledge → List CellBelief → Unreturned
unreturned_by Cells ahead = of_known (chars_known ahead)
unreturned_by ExactOrNulls ahead = Stays
unreturned_by Text ahead = Stays
unreturned_by TextOrNulls ahead = Stays

abbrev pub unreturned_at : CellBelief → List CellBelief → Unreturned
unreturned_at (Attr attribute mdt knowledge) ahead = unreturned_by knowledge ahead
unreturned_at (KnownPlace char) ahead = Stays
unreturned_at (UnplacedCell char) ahead = Stays
unreturned_at UnknownPlace ahead = Stays

abbrev pub unreturned_from : List CellBelief → List CellBelief → List Unreturned
unreturned_from whole [] = []
unreturned_from whole (place ∷ rest) = unreturned_at place (rest ++ whole) ∷ unreturned_from whole rest

abbrev pub or_null_knowledge : TextKnowledge → TextKnowledge
or_null_knowledge Cells = Cells
or_null_knowledge ExactOrNulls = ExactOrNulls
or_null_knowledge Text = TextOrNulls
or_null_knowledge TextOrNulls = TextOrNulls

abbrev pub with_mark : MdtState → TextKnowledge → Fill → Change
with_mark mdt knowledge fill = record { mdt = mdt; knowledge = knowledge; fill = fill }

abbrev pub unreturned_change : Unreturned → TextKnowledge → Change
unreturned_change Stays knowledge = with_mark Off (or_null_knowledge knowledge) Fill.Same
unreturned_change IsTold knowledge = with_mark Off ExactOrNulls Fill.Unplaced
unreturned_change IsForgotten knowledge = with_mark Off Cells Fill.Unknown

abbrev pub returned_change : MdtState → List ℕ → Change
returned_change mdt [] = with_mark mdt Cells Fill.Null
returned_change mdt (char ∷ chars) = with_mark mdt Text (Fill.Chars (char ∷ chars))

abbrev pub input_change : Bool → TextKnowledge → Unreturned → Option (List ℕ) → Change
input_change erased knowledge unreturned (Some text) = returned_change (mark_of (Some text)) text
input_change erased knowledge unreturned None = if erased then with_mark Off Cells Fill.Null
    else unreturned_change unreturned knowledge

abbrev pub field_change : Bool → Bool → TextKnowledge → Unreturned → Option (List ℕ) → Change
field_change true erased knowledge unreturned text = with_mark (mark_of text) knowledge Fill.Same
field_change false erased knowledge unreturned text = input_change erased knowledge unreturned text

abbrev pub long_change : Bool → CellBelief → Unreturned → Option (List ℕ) → Change
long_change erased (Attr attribute mdt knowledge) unreturned text =
    field_change attribute.protected erased knowledge unreturned text
long_change erased (KnownPlace char) unreturned text = with_mark Off Cells Fill.Same
long_change erased (UnplacedCell char) unreturned text = with_mark Off Cells Fill.Same
long_change erased UnknownPlace unreturned text = with_mark Off Cells Fill.Same

-- a change for each cell from an address on
abbrev pub long_changes : ℕ → Bool → ℕ → List Returned → List CellBelief → List Unreturned → List Change
long_changes size erased at came [] unreturned = []
long_changes size erased at came (place ∷ rest) [] = []
long_changes size erased at came (place ∷ rest) (one ∷ more) =
    long_change erased place one (text_came size place at came)
    ∷ long_changes size erased (at + 1) (came_behind size place at came) rest more

-- What a host believes of a screen (our profile): nothing; the characters of an unformatted screen; or its fields.
use Rattle.std.specs.Prelude.{◌≡◌, ◌<◌, ◌+◌, ◌%◌, suc, ℕ, List, [], ◌∷◌, length, Option, Some, None, IfSome, replicate}
use Rattle.codes3270.specs.declared.attribute.Attr.{Attr as Attribute}
use Rattle.shadow.specs.declared.mdt_state.MdtState.{MdtState}

-- What is believed of a field's characters: they are a text; they are a text or all nulls; they are a text once nulls
-- are left out; that or all nulls; or anything. `Any` lists each character, None if it isn't known.
pub data Fact : Type 0 where
  Exact : List ℕ → Fact
  ExactOrNulls : List ℕ → Fact
  Text : List ℕ → Fact
  TextOrNulls : List ℕ → Fact
  Any : List (Option ℕ) → Fact

-- What is believed of a field: the address of its attribute, the attribute with MDT off, what is known of its MDT, how
-- many characters it has, and what is believed of them.
pub record Belief : Type 0 where
  pub place : ℕ
  pub attr : Attribute
  pub mdt : MdtState
  pub length : ℕ
  pub fact : Fact

-- What is believed of a screen: nothing; that it is unformatted, with each character (None if it isn't known); or that
-- it has these fields, in the order of their addresses.
pub data Shadow : Type 0 where
  NothingKnown : Shadow
  Unformatted : List (Option ℕ) → Shadow
  Formatted : List Belief → Shadow

-- the fields of a shadow
abbrev pub fields_of : Shadow → List Belief
fields_of Shadow.NothingKnown = []
fields_of (Shadow.Unformatted known) = []
fields_of (Shadow.Formatted beliefs) = beliefs

-- ---- the size of the screen that is believed

-- how many cells these fields have together: each has its attribute and its characters
abbrev pub cells_of_fields : List Belief → ℕ
cells_of_fields [] = 0
cells_of_fields (belief ∷ beliefs) = suc belief.length + cells_of_fields beliefs

-- how many cells the believed screen has, from which its size follows; None if nothing is known
abbrev pub cells_believed : Shadow → Option ℕ
cells_believed Shadow.NothingKnown = None
cells_believed (Shadow.Unformatted known) = Some (length known)
cells_believed (Shadow.Formatted beliefs) = Some (cells_of_fields beliefs)

-- holds if nothing is known, or the believed screen has `size` cells
abbrev pub IsOfSize : ℕ → Shadow → Type 0
IsOfSize size shadow = IfSome (cells_believed shadow) (λ cells. cells ≡ size)

-- holds if nothing is known, or the believed screen has a cell at this address
abbrev pub HasCell : ℕ → Shadow → Type 0
HasCell address shadow = IfSome (cells_believed shadow) (λ cells. address < cells)

-- ---- addresses and texts

abbrev pub nulls : ℕ → List ℕ
nulls count = replicate count 0

-- the address after another, wrapping at the end
abbrev pub next_address : ℕ → ℕ → ℕ
next_address size place = (place + 1) % size

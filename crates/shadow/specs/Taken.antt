-- What a host believes after the terminal has carried out a plain write (our profile). That a write may turn each MDT
-- off is GA23-0059-07, "Write Control Character (WCC)".
use Rattle.std.specs.Prelude.{◌==◌, ◌+◌, ◌-◌, ◌&&◌, ◌||◌, ℕ, Bool, true, false, List, [], ◌∷◌, ◌++◌, length, map, flat_map, slice_set, take, drop, Option, Some, None, option_map, unwrap_or, if◌then◌else◌}
use Rattle.codes3270.specs.declared.attribute.Attr.{Attr as Attribute}
use Rattle.codes3270.specs.declared.attribute.Cell.{Cell}
use Rattle.codes3270.specs.declared.attribute.Cell.TheVariants.{Char, Attr}
use Rattle.codes3270.specs.Size.{cells_in}
use Rattle.codes3270.specs.declared.write_control.Wcc.{Wcc}
use Rattle.datastream.specs.Grammar.{CommandParts}
use Rattle.datastream.specs.Screen.{blank_screen}
use Rattle.datastream.specs.Meaning.{after_command}
use Rattle.datastream.specs.KeptByKeys.{without_mdt}
use Rattle.datastream.specs.declared.order.Order.{Order}
use Rattle.datastream.specs.declared.command_code.CommandCode.{CommandCode}
use Rattle.datastream.specs.declared.command_code.CommandCode.TheVariants.{Write, EraseWrite, EraseWriteAlternate, ReadBuffer, ReadModified, ReadModifiedAll, EraseAllUnprotected}
use Rattle.shadow.specs.declared.mdt_state.MdtState.{MdtState}
use Rattle.shadow.specs.declared.mdt_state.MdtState.TheVariants.{Off}
use Rattle.shadow.specs.declared.known.Known.{Known}
use Rattle.shadow.specs.declared.known.Known.TheVariants.{Attr as KnownAttr, Char as KnownChar}
use Rattle.shadow.specs.Belief.{Fact, Belief, Shadow}
use Rattle.shadow.specs.AfterReadBuffer.{known_chars, mark_seen, seen}
use Rattle.shadow.specs.Stores.{Store, stores, stores_unplaced}

-- In what follows, `size` is the number of cells of the screen that is written on.

-- ---- what is known of each cell

abbrev pub old_char : Option ℕ → Known
old_char known = KnownChar known false

abbrev pub field_cells : Belief → List Known
field_cells belief = KnownAttr belief.attr belief.mdt ∷ map old_char (known_chars belief.length belief.fact)

abbrev pub first_place : List Belief → ℕ
first_place [] = 0
first_place (belief ∷ beliefs) = belief.place

-- the fields' cells by address: they begin at the first field's attribute, and wrap at the end
abbrev pub laid_out : ℕ → List Belief → List Known
laid_out size beliefs =
    let cells = flat_map field_cells beliefs in
    drop (size - first_place beliefs) cells ++ take (size - first_place beliefs) cells

-- ---- what is known of each cell after a write

abbrev pub new_cell : Cell → Known
new_cell (Char byte) = KnownChar (Some byte) true
new_cell (Attr attribute) = KnownAttr (without_mdt attribute) (mark_seen attribute.mdt)

abbrev pub known_stored : List Store → List Known → List Known
known_stored [] cells = cells
known_stored (store ∷ stores) cells = known_stored stores (slice_set cells store.at (new_cell store.cell))

abbrev pub mark_off : Known → Known
mark_off (KnownChar known fresh) = KnownChar known fresh
mark_off (KnownAttr attribute mdt) = KnownAttr attribute Off

abbrev pub marks_off_if : Bool → List Known → List Known
marks_off_if resets cells = if resets then map mark_off cells else cells

-- ---- the fields that these cells make up

-- the characters before the first attribute, None for each that isn't known
abbrev pub known_ahead : List Known → List (Option ℕ)
known_ahead [] = []
known_ahead (KnownChar known fresh ∷ cells) = known ∷ known_ahead cells
known_ahead (KnownAttr attribute mdt ∷ cells) = []

-- whether the write has stored one of the characters before the first attribute
abbrev pub fresh_ahead : List Known → Bool
fresh_ahead [] = false
fresh_ahead (KnownChar known fresh ∷ cells) = fresh || fresh_ahead cells
fresh_ahead (KnownAttr attribute mdt ∷ cells) = false

abbrev pub and_char : Option ℕ → Option (List ℕ) → Option (List ℕ)
and_char None rest = None
and_char (Some char) rest = option_map (λ chars. char ∷ chars) rest

-- the characters, if all of them are known
abbrev pub whole_text : List (Option ℕ) → Option (List ℕ)
whole_text [] = Some []
whole_text (known ∷ more) = and_char known (whole_text more)

abbrev pub exact_or_any : Option (List ℕ) → List (Option ℕ) → Fact
exact_or_any (Some text) known = Fact.Exact text
exact_or_any None known = Fact.Any known

abbrev pub fact_known : List (Option ℕ) → Fact
fact_known known = exact_or_any (whole_text known) known

-- the fact of the field that had this attribute address and this length, if there was one
abbrev pub fact_before : List Belief → ℕ → ℕ → Option Fact
fact_before [] place count = None
fact_before (belief ∷ beliefs) place count =
    if belief.place == place && belief.length == count then Some belief.fact else fact_before beliefs place count

-- the fact of a field after a write: unchanged if the field was there with this length and nothing was stored in it,
-- else what its cells say; `ahead`: the cells after its attribute
abbrev pub fact_after : List Belief → ℕ → List Known → Fact
fact_after before place ahead =
    let known = known_ahead ahead in
    if fresh_ahead ahead then fact_known known
    else unwrap_or (fact_before before place (length known)) (fact_known known)

abbrev pub belief_after : List Belief → ℕ → Attribute → MdtState → List Known → Belief
belief_after before place attribute mdt ahead =
    record {
      place = place;
      attr = attribute;
      mdt = mdt;
      length = length (known_ahead ahead);
      fact = fact_after before place ahead;
    }

-- the fields whose attributes are in `rest`, the part of `whole` from an address on
abbrev pub beliefs_from : List Belief → List Known → ℕ → List Known → List Belief
beliefs_from before whole at [] = []
beliefs_from before whole at (KnownChar known fresh ∷ rest) = beliefs_from before whole (at + 1) rest
beliefs_from before whole at (KnownAttr attribute mdt ∷ rest) =
    belief_after before at attribute mdt (rest ++ whole) ∷ beliefs_from before whole (at + 1) rest

abbrev pub formatted_as : List Belief → List (Option ℕ) → Shadow
formatted_as [] known = Shadow.Unformatted known
formatted_as (belief ∷ beliefs) known = Shadow.Formatted (belief ∷ beliefs)

-- the belief of a screen of whose cells this is known; `before`: the fields before the write
abbrev pub believed : List Belief → List Known → Shadow
believed before cells = formatted_as (beliefs_from before cells 0 cells) (known_ahead cells)

-- ---- plain writes

abbrev pub resets : Option Wcc → Bool
resets None = false
resets (Some wcc) = wcc.reset

-- what is known of the cells after a write that stores none before its first SBA
abbrev pub known_after : ℕ → Option Wcc → List Order → List Known → List Known
known_after size wcc orders cells = known_stored (stores size 0 orders) (marks_off_if (resets wcc) cells)

abbrev pub after_write : ℕ → Option Wcc → List Order → List Belief → List Known → Shadow
after_write size wcc orders before cells =
    if stores_unplaced orders then Shadow.NothingKnown else believed before (known_after size wcc orders cells)

-- the belief after a Write
abbrev pub taken_write : ℕ → Option Wcc → List Order → Shadow → Shadow
taken_write size wcc orders Shadow.NothingKnown = Shadow.NothingKnown
taken_write size wcc orders (Shadow.Unformatted known) = after_write size wcc orders [] (map old_char known)
taken_write size wcc orders (Shadow.Formatted beliefs) = after_write size wcc orders beliefs (laid_out size beliefs)

-- the belief after an erase: all cells are known, and the size is the command's
abbrev pub taken_erase : CommandParts → Shadow
taken_erase command = seen (after_command command (blank_screen (cells_in command.size))).cells

abbrev pub taken_code : CommandCode → ℕ → CommandParts → Shadow → Shadow
taken_code Write size command shadow = taken_write size command.wcc command.orders shadow
taken_code EraseWrite size command shadow = taken_erase command
taken_code EraseWriteAlternate size command shadow = taken_erase command
taken_code ReadBuffer size command shadow = shadow
taken_code ReadModified size command shadow = shadow
taken_code ReadModifiedAll size command shadow = shadow
taken_code EraseAllUnprotected size command shadow = shadow

-- the belief after a plain write
abbrev pub taken : ℕ → CommandParts → Shadow → Shadow
taken size command shadow = taken_code command.code size command shadow

-- A screen that can be sent stays one, whatever a command does to it.
use Rattle.std.proofs.Common.{◌≡◌, ◌<◌, ◌≤◌, ◌+◌, ◌%◌, ℕ, Bool, true, false, Option, None, Some, List, [], ◌∷◌, length, arith, refl, ap, sym, subst, ◌∙◌, if◌then◌else◌, drop, map, position, replicate}
use Rattle.world3270.proofs.Executing.{ExecutedStaysSendable}
use Rattle.world3270.proofs.RepresentsSizes.{MayExecute, executes, has_cells, has_few_cells, paint_writes, read_as_written, written_on}
use Rattle.world3270.specs.statement.EveryTerminal.{paint_executed}
use Rattle.shadow.specs.Sized.{MeetsIsOfSize}
use Rattle.std.specs.List.{All, prefix_len}
use Rattle.std.proofs.lemmas.List.Elements.{All-head, All-tail, All-replicate}
use Rattle.std.proofs.lemmas.List.{length-map, length-replicate, length-set}
use Rattle.std.proofs.Math.Nat.{mod-lt}
use Rattle.codes3270.specs.Size.{ScreenSize, cells_in, most_cells, alternate_of}
use Rattle.codes3270.specs.declared.attribute.Cell.{Cell}
use Rattle.codes3270.specs.declared.attribute.Cell.TheVariants.{Char, Attr}
use Rattle.codes3270.specs.declared.attention.Aid.TheVariants.{NoAid}
use Rattle.codes3270.specs.declared.write_control.Wcc.{Wcc}
use Rattle.datastream.specs.Grammar.{CommandParts, IsCommand, IsProper, is_write}
use Rattle.datastream.specs.InboundFields.{IsStorableCell, IsSendable}
use Rattle.datastream.specs.Meaning.{WriteProgress, stored, executed, all_executed, cleared, prepared, written, filled, unmodified, after_open_attribute, after_code, after_command}
use Rattle.datastream.specs.Screen.{Screen, is_char, is_open_attribute}
use Rattle.datastream.specs.Span.{distance}
use Rattle.datastream.specs.Wanted.{WantedScreen}
use Rattle.datastream.specs.declared.command_code.CommandCode.{CommandCode}
use Rattle.datastream.specs.declared.command_code.CommandCode.TheVariants.{Write, EraseWrite, EraseWriteAlternate, ReadBuffer, ReadModified, ReadModifiedAll, EraseAllUnprotected}
use Rattle.datastream.specs.declared.order.Order.{Order}
use Rattle.datastream.specs.declared.order.Order.TheVariants.{Sf, Sba, Ic, Pt, Ra, Eua, Char as CharData}
use Rattle.datastream.proofs.Commands.{command_proper}
use Rattle.datastream.proofs.Places.{length-across}
use Rattle.presentation.proofs.Storable.{storable_unmodified, with_filled, with_opened, with_mapped, with_stored, with_cursor}
use Rattle.presentation.specs.Applied.{asked_by}
use Rattle.std.proofs.lemmas.Bool.{and_parts}
use Rattle.host_core.specs.Messages.{ToTerminal}
use Rattle.shadow.specs.Belief.{Shadow}
use Rattle.shadow.specs.Paint.{paint, paint_bytes}
use Rattle.shadow.specs.Painted.{plainly_painted}
use Rattle.telnet_wire.specs.Items.{WireItem}
use Rattle.world3270.specs.refinement.Sendable.{CanBeSent, IsSpeltFor}
use Rattle.world3270.specs.refinement.Represents.{IsPaint, IsNoted}
use Rattle.world3270.specs.refinement.RepresentsEnds.{TakesKeepSendable, MayTakeNote, MayBePainted}
use Rattle.world3270.specs.model.Terminal.{TermEnd, TermStep, is_bound, paint_came, note_came, read_came, once_bound}

-- ---- orders

-- a screen of so many cells that can be sent
record Keeps (size : ℕ) (screen : Screen) : Type 0 where
  sendable : IsSendable screen
  cells : length screen.cells ≡ size

record IsInProgress (size : ℕ) (write : WriteProgress) : Type 0 where
  screen : Keeps size write.screen
  address : write.address < size

some_cells : (size : ℕ) (screen : Screen) → Keeps size screen → 0 < size
some_cells size screen is = let cursor = is.sendable.cursor in let cells = is.cells in omega (arith, cursor, cells)

next_below : (size cells at : ℕ) → cells ≡ size → 0 < size → at % cells < size
next_below size cells at same some = subst (λ (n : ℕ). at % n < size) (sym same) (mod-lt at {m = size} some)

tab_below : (size cells at : ℕ) (found : Option ℕ) → cells ≡ size → 0 < size → after_open_attribute found at cells < size
tab_below size cells at None same some = some
tab_below size cells at (Some away) same some = next_below size cells (at + away + 1) same some

one_stored : (size : ℕ) (write : WriteProgress) (cell : Cell) → IsStorableCell cell → IsInProgress size write → IsInProgress size (stored write cell)
one_stored size write cell p is = record {
  screen = record {
    sendable = with_stored write.screen write.address cell p is.screen.sendable;
    cells = length-set write.screen.cells write.address cell ∙ is.screen.cells;
  };
  address = next_below size (length write.screen.cells) (write.address + 1) is.screen.cells (some_cells size write.screen is.screen);
}

filled_so : (size : ℕ) (screen : Screen) (from count : ℕ) (cell : Cell) → IsStorableCell cell → Keeps size screen → Keeps size (record screen { cells = filled from count cell screen.cells })
filled_so size screen from count cell p is =
    record { sendable = with_filled screen from count cell p is.sendable; cells = length-across from count _ screen.cells ∙ is.cells }

filled_if : (nulls : Bool) (size : ℕ) (screen : Screen) (from count : ℕ) → Keeps size screen
    → Keeps size (record screen { cells = if nulls then filled from count (Char 0) screen.cells else screen.cells })
filled_if true size screen from count is = filled_so size screen from count (Char 0) refl is
filled_if false size screen from count is = is

order_keeps : (size : ℕ) (order : Order) (write : WriteProgress) → IsProper size order → IsInProgress size write → IsInProgress size (executed order write)
order_keeps size (CharData byte) write p is = let kept = one_stored size write (Char byte) p is in record { screen = kept.screen; address = kept.address }
order_keeps size (Sf attribute) write p is = one_stored size write (Attr attribute) tt is
order_keeps size (Sba address) write p is = record { screen = is.screen; address = p }
order_keeps size Ic write p is = record {
  screen = record {
    sendable = with_cursor write.screen write.address (subst (λ (n : ℕ). write.address < n) (sym is.screen.cells) is.address) is.screen.sendable;
    cells = is.screen.cells;
  };
  address = is.address;
}
order_keeps size Pt write p is = record {
  screen = filled_if write.after_data size write.screen write.address (prefix_len is_char (drop write.address write.screen.cells)) is.screen;
  address = tab_below size (length write.screen.cells) write.address (position is_open_attribute (drop write.address write.screen.cells)) is.screen.cells
      (some_cells size write.screen is.screen);
}
order_keeps size (Ra stop byte) write p is = record {
  screen = filled_so size write.screen write.address (distance (length write.screen.cells) write.address stop) (Char byte) p.1 is.screen;
  address = p.0;
}
order_keeps size (Eua stop) write p is = record {
  screen = record {
    sendable = with_opened write.screen write.address (distance (length write.screen.cells) write.address stop) is.screen.sendable;
    cells = length-across write.address (distance (length write.screen.cells) write.address stop) _ write.screen.cells ∙ is.screen.cells;
  };
  address = p;
}

orders_keep : (size : ℕ) (orders : List Order) (write : WriteProgress) → All (IsProper size) orders → IsInProgress size write → IsInProgress size (all_executed orders write)
orders_keep size [] write all is = is
orders_keep size (order ∷ orders) write all is =
    orders_keep size orders (executed order write) (All-tail (IsProper size) order orders all)
    (order_keeps size order write (All-head (IsProper size) order orders all) is)

-- ---- writes

prepared_if : (reset : Bool) (size : ℕ) (screen : Screen) → Keeps size screen → Keeps size (record screen { cells = if reset then map unmodified screen.cells else screen.cells })
prepared_if true size screen is = record { sendable = with_mapped screen unmodified storable_unmodified is.sendable; cells = length-map screen.cells unmodified ∙ is.cells }
prepared_if false size screen is = is

restored_if : (restore : Bool) (size : ℕ) (screen : Screen) → Keeps size screen → Keeps size (record screen { aid = if restore then NoAid else screen.aid })
restored_if true size screen is =
    record { sendable = record { few = is.sendable.few; cursor = is.sendable.cursor; aid = tt; storable = is.sendable.storable }; cells = is.cells }
restored_if false size screen is = is

write_keeps : (size : ℕ) (wcc : Option Wcc) (orders : List Order) (screen : Screen) → All (IsProper size) orders → Keeps size screen → Keeps size (written wcc orders screen)
write_keeps size None orders screen all is = is
write_keeps size (Some wcc) orders screen all is =
    restored_if wcc.restore size _
    (orders_keep size orders (record { screen = prepared wcc screen; address = screen.cursor; after_data = false }) all
    (record { screen = prepared_if wcc.reset size screen is; address = subst (λ (n : ℕ). screen.cursor < n) is.cells is.sendable.cursor })).screen

-- an erase makes them so many, whatever they were
erase_keeps : (size : ℕ) (screen : Screen) → 0 < size → size ≤ most_cells → IsSendable screen → Keeps size (cleared size screen)
erase_keeps size screen some few is =
    let long : length (replicate size (Char 0)) ≡ size = length-replicate size (Char 0) in
    record {
      sendable = record {
        few = subst (λ (n : ℕ). n ≤ most_cells) (sym long) few;
        cursor = subst (λ (n : ℕ). 0 < n) (sym long) some;
        aid = is.aid;
        storable = All-replicate IsStorableCell size (Char 0) refl;
      };
      cells = long;
    }

-- a write leaves a screen that can be sent: an erase of its size, and a Write the size that it finds
code_keeps : (size : ℕ) (code : CommandCode) (wcc : Option Wcc) (orders : List Order) (screen : Screen) → is_write code ≡ true → All (IsProper size) orders → 0 < size → size ≤ most_cells
    → IsSendable screen → (code ≡ Write → length screen.cells ≡ size) → Keeps size (after_code code size wcc orders screen)
code_keeps size Write wcc orders screen writes all some few is same = write_keeps size wcc orders screen all (record { sendable = is; cells = same refl })
code_keeps size EraseWrite wcc orders screen writes all some few is same = write_keeps size wcc orders (cleared size screen) all (erase_keeps size screen some few is)
code_keeps size EraseWriteAlternate wcc orders screen writes all some few is same = write_keeps size wcc orders (cleared size screen) all (erase_keeps size screen some few is)
code_keeps size ReadBuffer wcc orders screen writes all some few is same = absurd (cc)
code_keeps size ReadModified wcc orders screen writes all some few is same = absurd (cc)
code_keeps size ReadModifiedAll wcc orders screen writes all some few is same = absurd (cc)
code_keeps size EraseAllUnprotected wcc orders screen writes all some few is same = absurd (cc)

command_keeps : (now alternate : ScreenSize) (command : CommandParts) (body : List ℕ) (screen : Screen) → IsCommand now alternate command body → is_write command.code ≡ true
    → 0 < cells_in command.size → cells_in command.size ≤ most_cells → IsSendable screen → (command.code ≡ Write → length screen.cells ≡ cells_in command.size)
    → CanBeSent command.size (after_command command screen)
command_keeps now alternate command body screen encoded writes some few is same =
    let kept = code_keeps (cells_in command.size) command.code command.wcc command.orders screen writes (command_proper command (now, alternate, body, encoded)) some few is same in
    record { sendable = kept.sendable; whole = kept.cells }

-- ---- a paint

-- on a screen of any content
executed_keeps : (number : ℕ) (wanted : WantedScreen) (believed : Shadow) (item : WireItem) (end : TermEnd) (p : IsPaint item number wanted believed)
    → MayExecute wanted believed end → CanBeSent end.display.size end.display.screen → CanBeSent wanted.size (after_command (paint (cells_in wanted.size) believed wanted) end.display.screen)
executed_keeps number wanted believed item end p may is =
    let command = paint (cells_in wanted.size) believed wanted in
    let writes = (and_parts (is_write command.code) (asked_by command).restore (paint_writes (cells_in wanted.size) believed wanted)).0 in
    command_keeps end.display.size (alternate_of end.display.model) command p.body end.display.screen (read_as_written number wanted believed item end p may is) writes
    (has_cells end.display.model wanted.size may.size) (has_few_cells end.display.model wanted.size may.size) is.sendable (λ over. sym (may.fits over))

paint_keeps : MeetsIsOfSize → (number : ℕ) (wanted : WantedScreen) (believed : Shadow) (item : WireItem) (end : TermEnd) (p : IsPaint item number wanted believed)
    → MayBePainted wanted believed end → CanBeSent end.display.size end.display.screen → CanBeSent wanted.size (plainly_painted wanted end.display.screen)
paint_keeps sized number wanted believed item end p b is =
    subst (λ (s : Screen). CanBeSent wanted.size s) (p.paints end.display.screen b.meets) (executed_keeps number wanted believed item end p (executes sized wanted believed end b) is)

-- a note on a screen of its size
note_keeps : (command : CommandParts) (number : ℕ) (item : WireItem) (end : TermEnd) (p : IsNoted item number command) → MayTakeNote command end
    → CanBeSent end.display.size end.display.screen → CanBeSent end.display.size (after_command command end.display.screen)
note_keeps command number item end p may is =
    let cells : length end.display.screen.cells ≡ cells_in command.size = is.whole ∙ ap (λ (s : ScreenSize). cells_in s) (sym may.size) in
    let inside = is.sendable.cursor in
    let room = is.sendable.few in
    subst (λ (size : ScreenSize). CanBeSent size (after_command command end.display.screen)) may.size
    (command_keeps command.size command.size command p.body end.display.screen (p.encoded command.size) (ap is_write may.note.code) (omega (arith, cells, inside)) (omega (arith, cells, room)) is.sendable
    (λ writes. cells))

-- what the terminal shows can be sent
abbrev CanSend : TermEnd → Type 0
CanSend end = CanBeSent end.display.size end.display.screen

bound_keeps : (bound : Bool) (step : TermStep) (end : TermEnd) → CanSend step.end → CanSend end → CanSend (once_bound bound step end).end
bound_keeps true step end is old = is
bound_keeps false step end is old = old

pub takes_keep_sendable : MeetsIsOfSize → TakesKeepSendable
takes_keep_sendable sized (ToTerminal.TalksDown saying) item end stands may is = is
takes_keep_sendable sized (ToTerminal.Paint number wanted believed) item end stands may is =
    bound_keeps (is_bound end) (paint_came number wanted end) end (paint_keeps sized number wanted believed item end stands may is) is
takes_keep_sendable sized (ToTerminal.ReadBuffer number) item end stands may is = bound_keeps (is_bound end) (read_came end) end is is
takes_keep_sendable sized (ToTerminal.Note number command) item end stands may is =
    bound_keeps (is_bound end) (note_came number command end) end (note_keeps command number item end stands may is) is

pub executed_stays_sendable : MeetsIsOfSize → ExecutedStaysSendable
executed_stays_sendable sized (ToTerminal.Paint number wanted believed) item end stands may is =
    bound_keeps (is_bound end) (paint_executed number wanted believed end) end (executed_keeps number wanted believed item end stands may is) is
executed_stays_sendable sized (ToTerminal.TalksDown saying) item end stands may is = is
executed_stays_sendable sized (ToTerminal.ReadBuffer number) item end stands may is = takes_keep_sendable sized (ToTerminal.ReadBuffer number) item end stands may is
executed_stays_sendable sized (ToTerminal.Note number command) item end stands may is = takes_keep_sendable sized (ToTerminal.Note number command) item end stands may is

-- a paint leaves a screen that can be sent wherever it may be executed
pub spelt_keeps : (wanted : WantedScreen) (over : Shadow) (end : TermEnd) → MayExecute wanted over end → IsSpeltFor wanted (paint (cells_in wanted.size) over wanted) (paint_bytes (cells_in wanted.size) over wanted)
    → CanBeSent end.display.size end.display.screen → CanBeSent wanted.size (after_command (paint (cells_in wanted.size) over wanted) end.display.screen)
spelt_keeps wanted over end may spelt is =
    let command = paint (cells_in wanted.size) over wanted in
    let writes = (and_parts (is_write command.code) (asked_by command).restore (paint_writes (cells_in wanted.size) over wanted)).0 in
    command_keeps end.display.size (alternate_of end.display.model) command (paint_bytes (cells_in wanted.size) over wanted) end.display.screen
    (spelt end.display.size (alternate_of end.display.model) may.size (written_on wanted over end may is)) writes
    (has_cells end.display.model wanted.size may.size) (has_few_cells end.display.model wanted.size may.size) is.sendable (λ over_it. sym (may.fits over_it))

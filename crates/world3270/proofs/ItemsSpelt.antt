-- What the host sends in its turn, and notes, are encoded: the item of each stands for it, and may come.
use Rattle.std.proofs.Common.{◌≡◌, ◌≤◌, ◌+◌, ◌*◌, ℕ, true, Some, List, [], ◌++◌, length, refl, ap, sym, subst, arith, inr, IfSome}
use Rattle.host_core.specs.Application.{IsValidSize}
use Rattle.std.specs.Prelude.{⊤, All}
use Rattle.codes3270.proofs.RoundTrips.{wcc_read_back}
use Rattle.codes3270.specs.Size.{ScreenSize, cells_in, most_cells, most_columns}
use Rattle.datastream.proofs.Commands.{command_proper}
use Rattle.datastream.proofs.Written.{orders_written}
use Rattle.datastream.specs.Grammar.{CommandParts, IsCommand, write, other, IsProper}
use Rattle.datastream.specs.Note.{quiet}
use Rattle.shadow.specs.Fits.{is_paintable}
use Rattle.shadow.specs.Laws.{PaintIsBounded}
use Rattle.shadow.specs.Paint.{paint}
use Rattle.telnet_wire.specs.Items.{CanCome}
use Rattle.tn3270e_msg.specs.Header.{Begins, spelling, record_limit, error_response, always_response}
use Rattle.tn3270e_msg.specs.declared.header.Header.{Header}
use Rattle.host_core.proofs.NoteBytes.{note_record_fits}
use Rattle.host_core.specs.Answering.{number_in}
use Rattle.host_core.specs.Messages.{ToTerminal}
use Rattle.host_core.specs.NoteLaws.{IsNoteOf}
use Rattle.host_core.specs.Notes.{note_orders, note_command}
use Rattle.host_core.specs.Says.{written, read_buffer_bytes, command_header, command_record, item_sent}
use Rattle.world3270.specs.statement.Numbers.{IsNumber}
use Rattle.world3270.specs.refinement.Sendable.{PaintsAScreen, IsSpelt}
use Rattle.world3270.specs.refinement.Represents.{RepresentsDown}
use Rattle.world3270.specs.refinement.RepresentsEnds.{PaintRepresents}

-- what fits where it is sent: a paint what is believed, and a note a screen of some size
abbrev pub CommandFitsScreen : ToTerminal → Type 0
CommandFitsScreen (ToTerminal.TalksDown saying) = ⊥
CommandFitsScreen (ToTerminal.Paint number wanted believed) = is_paintable believed wanted ≡ true
CommandFitsScreen (ToTerminal.ReadBuffer number) = ⊤
CommandFitsScreen (ToTerminal.Note number command) = (size : ScreenSize) × IsValidSize size × (size.columns ≤ most_columns) × IsNoteOf size command

-- what is known of a command under way
pub record IsSound (message : ToTerminal) : Type 0 where
  pub screen : PaintsAScreen message
  pub encoded : IsSpelt message
  pub number : IfSome (number_in message) IsNumber

-- its item stands for it, and may come
pub record IsEncodable (message : ToTerminal) : Type 0 where
  pub stands : RepresentsDown (item_sent message) message
  pub comes : CanCome record_limit (item_sent message)

begins : (flag number : ℕ) (body : List ℕ) → flag ≤ always_response → IsNumber number
    → Begins (spelling (command_header flag number) ++ body) (command_header flag number) body
begins flag number body flags fits = record { is_header = record { kind = tt; flag = flags }; number = omega arith; encoded = refl }

-- five bytes are before a body
record_length : (header : Header) (body : List ℕ) → length (spelling header ++ body) ≡ 5 + length body
record_length header body = omega arith

-- a paint of a screen of any model is within the limit
paint_fits : (whole bytes cells : ℕ) → whole ≡ 5 + bytes → bytes ≤ 9 + 3 * cells → cells ≤ most_cells → whole ≤ record_limit
paint_fits whole bytes cells is few size = omega arith

note_spelt : (size alternate : ScreenSize) (command : CommandParts) (text : List ℕ) → cells_in size ≤ most_cells → command ≡ note_command size text
    → All (IsProper (cells_in command.size)) command.orders → IsCommand command.size alternate command (written command)
note_spelt size alternate command text few is proper =
    subst (λ (c : CommandParts). IsCommand c.size alternate c (written c)) (sym is)
    (write _ _ _ refl (inr refl) refl (ap (λ w. Some w) (sym (wcc_read_back quiet)))
    (orders_written (cells_in size) few (note_orders size text) (subst (λ (c : CommandParts). All (IsProper (cells_in c.size)) c.orders) is proper)) refl)

note_comes : (size : ScreenSize) (number : ℕ) (command : CommandParts) (text : List ℕ) → size.columns ≤ most_columns → command ≡ note_command size text
    → length (command_record always_response number command) ≤ record_limit
note_comes size number command text narrow is =
    let fits = note_record_fits size number text (command_record always_response number (note_command size text)) narrow refl in
    subst (λ (c : CommandParts). length (command_record always_response number c) ≤ record_limit) (sym is) (omega arith)

pub spells : PaintRepresents → PaintIsBounded → (message : ToTerminal) → CommandFitsScreen message → IsSound message → IsEncodable message
spells stands bounded (ToTerminal.TalksDown saying) suits sound = absurd suits
spells stands bounded (ToTerminal.Paint number wanted believed) suits sound =
    let body : List ℕ = written (paint (cells_in wanted.size) believed wanted) in
    record {
      stands = stands number wanted believed (spelling (command_header always_response number) ++ body) body sound.screen.size
          (begins always_response number body (omega arith) sound.number)
          sound.encoded suits;
      comes = paint_fits (length (spelling (command_header always_response number) ++ body)) (length body) (length wanted.cells)
          (record_length (command_header always_response number) body) (bounded (cells_in wanted.size) believed wanted (omega (arith, sound.screen.size))) (omega (arith, sound.screen.size, sound.screen.few));
    }
spells stands bounded (ToTerminal.ReadBuffer number) suits sound = record {
  stands = record {
    bytes = spelling (command_header error_response number) ++ read_buffer_bytes;
    body = read_buffer_bytes;
    is_record = refl;
    begins = begins error_response number read_buffer_bytes (omega arith) sound.number;
    encoded = λ now alternate. other _ [] refl (inr refl) refl refl refl refl;
  };
  comes = omega arith;
}
spells stands bounded (ToTerminal.Note number command) suits sound = record {
  stands = record {
    bytes = command_record always_response number command;
    body = written command;
    is_record = refl;
    begins = begins always_response number (written command) (omega arith) sound.number;
    encoded = λ alternate. note_spelt suits.0 alternate command suits.3.text suits.1.addresses suits.3.is (command_proper command sound.encoded);
  };
  comes = note_comes suits.0 number command suits.3.text suits.2 suits.3.is;
}

use Rattle.std.proofs.Common.{◌≡◌, ◌++◌, [], ◌∷◌}
use Rattle.std.specs.List.{flat_map}
use Rattle.codes3270.specs.Address.{address_bytes}
use Rattle.datastream.specs.Inbound.{read_buffer, cell_bytes}
use Rattle.codes3270.proofs.Appendings.{some_then}
use Rattle.presentation.proofs.buffer.Buffer.put_buffer.Goals as goal

pub returns-clause-bytes : goal.returns-clause-bytes
returns-clause-bytes c =
    let screen = c.args.self.now.screen in
    let whole : read_buffer screen ≡ (c.aid_byte.result ∷ []) ++ (address_bytes screen.cursor ++ flat_map cell_bytes screen.cells) =
    rw (c.aid_byte.ensures.byte, ← c.self.view_is) in
    rw whole (some_then _ _ _ _ _ _ _ c.in_ok-put_byte.ensures c.put_cursor_and_cells.ensures)

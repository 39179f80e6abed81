use Rattle.std.proofs.Common.{◌≡◌, ℕ, List, ◌++◌, ap}
use Rattle.std.specs.List.{flat_map}
use Rattle.codes3270.specs.Address.{address_bytes}
use Rattle.datastream.specs.Inbound.{cell_bytes}
use Rattle.codes3270.proofs.Appendings.{some_then, some_same}
use Rattle.presentation.proofs.buffer.Buffer.put_cursor_and_cells.Goals as goal

pub returns : goal.returns
returns c =
    let screen = c.args.self.now.screen in
    let cells : List ℕ = flat_map cell_bytes screen.cells in
    let cursor : c.addr_to_bytes.result ≡ address_bytes screen.cursor = rw (← c.self.view_is) c.addr_to_bytes.ensures.bytes in
    let whole : c.addr_to_bytes.result ++ flat_map cell_bytes c.cells.result.now ≡ address_bytes screen.cursor ++ cells =
    rw c.cells.ensures.cells (ap (λ (front : List ℕ). front ++ cells) cursor) in
    some_same _ _ _ _ _ whole (some_then _ _ _ _ _ _ _ c.in_ok-put_bytes.ensures c.put_cells.ensures)

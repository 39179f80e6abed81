use Rattle.std.proofs.Common.{◌≡◌, ℕ, List, ◌++◌, ap}
use Rattle.codes3270.specs.Address.{address_bytes}
use Rattle.datastream.specs.Inbound.{modified_text}
use Rattle.codes3270.proofs.Appendings.{some_then, some_same}
use Rattle.presentation.proofs.buffer.Buffer.put_cursor_and_fields.Goals as goal

pub returns : goal.returns
returns c =
    let screen = c.args.self.now.screen in
    let fields : List ℕ = modified_text screen.cells in
    let cursor : c.addr_to_bytes.result ≡ address_bytes screen.cursor = rw (← c.self.view_is) c.addr_to_bytes.ensures.bytes in
    let whole : c.addr_to_bytes.result ++ fields ≡ address_bytes screen.cursor ++ fields = ap (λ (front : List ℕ). front ++ fields) cursor in
    some_same _ _ _ _ _ whole (some_then _ _ _ _ _ _ _ c.in_ok-put_bytes.ensures c.put_modified_text.ensures)

use Rattle.std.proofs.Common.{◌≡◌, ◌&&◌, not, false, ◌++◌, [], ◌∷◌, sym, ◌∙◌}
use Rattle.codes3270.specs.Address.{address_bytes}
use Rattle.codes3270.specs.Aid.{is_short_aid}
use Rattle.datastream.specs.Inbound.{read_modified, modified_text}
use Rattle.codes3270.proofs.Appendings.{some_then}
use Rattle.presentation.proofs.buffer.Buffer.put_modified.Goals as goal

pub returns-else-is_short_form-clause-bytes : goal.returns-else-is_short_form-clause-bytes
returns-else-is_short_form-clause-bytes c =
    let screen = c.args.self.now.screen in
    let long : (is_short_aid screen.aid && not c.args.all) ≡ false =
    rw (← c.self.view_is) (sym c.is_short_form.ensures ∙ c.if-is_short_form.false) in
    let whole : read_modified c.args.all screen ≡ (c.aid_byte.result ∷ []) ++ (address_bytes screen.cursor ++ modified_text screen.cells) =
    rw (long, c.aid_byte.ensures.byte, ← c.self.view_is) in
    rw whole (some_then _ _ _ _ _ _ _ c.in_ok-put_byte.ensures c.put_cursor_and_fields.ensures)

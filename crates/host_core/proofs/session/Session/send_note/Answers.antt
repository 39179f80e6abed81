use Rattle.std.proofs.Common.{◌++◌, ◌∷◌, [], ℕ, List, ap, refl, arith, ◌∙◌, subst}
use Rattle.host_core.specs.Application.{IsValidSize}
use Rattle.host_core.specs.Session.{Session}
use Rattle.host_core.specs.Notes.{note_command}
use Rattle.host_core.specs.Says.{written}
use Rattle.telnet_wire.specs.Items.{Record, sent_bytes}
use Rattle.host_core.proofs.NoteBytes.{note_is_kept, note_record_fits, note_sent}
use Rattle.host_core.proofs.session.Session.send_note.Goals as goal

pub send_record-requires : goal.send_record-requires
send_record-requires c =
    let fits =
    note_record_fits c.self.inside.size c.self.inside.next_seq c.args.text.now c.as_slice.result.now c.put_note.ensures.narrow
    (c.as_slice.ensures.value ∙ c.put_note.ensures.appended ∙ ap (λ (bytes : List ℕ). bytes ++ written (note_command c.self.inside.size c.args.text.now)) c.begin_record.ensures.begun) in
    omega arith

pub invariant_of-self : goal.invariant_of-self
invariant_of-self c = (
  note_is_kept c.self.inside.size c.self.inside.next_seq c.args.text.now c.put_note.new.bytes.items c.put_note.ensures.size c.requires.text
      (c.put_note.ensures.appended ∙ ap (λ (bytes : List ℕ). bytes ++ written (note_command c.self.inside.size c.args.text.now)) c.begin_record.ensures.begun),
  omega arith,
  c.self.invariant.2,
  rw (← c.self.view_is) at c.requires.known,
)

pub returns-clause-sent : goal.returns-clause-sent
returns-clause-sent c =
    let shaped : IsValidSize c.args.self.now.size = subst (λ (conn : Session). IsValidSize conn.size) c.self.view_is c.put_note.ensures.size in
    note_sent c.args.self.now _ c.args.text.now c.put_note.new.bytes.items c.args.out.now c.send_record.new.out
    shaped c.requires.text
    (rw (← c.self.view_is) (c.put_note.ensures.appended ∙ ap (λ (bytes : List ℕ). bytes ++ written (note_command c.self.inside.size c.args.text.now)) c.begin_record.ensures.begun))
    (rw (← c.self.view_is, c.next_seq-self-inside.ensures) refl)
    (c.send_record.ensures.sent ∙ ap (λ (bytes : List ℕ). c.args.out.now.items ++ sent_bytes (Record bytes ∷ [])) c.as_slice.ensures.value)

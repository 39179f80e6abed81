-- A note, as it is written.
use Rattle.std.proofs.Common.{◌≡◌, ◌≤◌, ◌-◌, ◌+◌, ◌*◌, ℕ, zero, suc, true, List, [], ◌∷◌, ◌++◌, length, map, take, drop, Some, refl, ap, sym, ◌∙◌, arith, append_assoc, inr, Vec}
use Rattle.std.specs.Prelude.{replicate, All, slice_index_or}
use Rattle.std.specs.List.{list_all}
use Rattle.std.specs.declared.alloc.Global.{Global}
use Rattle.std.proofs.lemmas.List.{take-replicate}
use Rattle.std.proofs.lemmas.List.Elements.{All-take}
use Rattle.codes3270.proofs.RoundTrips.{wcc_read_back}
use Rattle.codes3270.specs.Size.{ScreenSize, cells_in, most_columns}
use Rattle.datastream.proofs.Written.{orders_written, orders_bytes-chars}
use Rattle.datastream.specs.Grammar.{CommandParts, IsCommand, write}
use Rattle.datastream.specs.Note.{quiet}
use Rattle.datastream.specs.Writing.{order_bytes, orders_bytes, command_start, write_bytes}
use Rattle.datastream.specs.declared.command_code.CommandCode.TheVariants.{Write}
use Rattle.datastream.specs.declared.order.Order.TheVariants.{Sba, Char as CharData}
use Rattle.shadow.specs.Stores.{is_plain, is_plain_order}
use Rattle.telnet_wire.specs.Items.{Record, sent_bytes}
use Rattle.tn3270e_msg.specs.Header.{next_number}
use Rattle.host_core.proofs.Commands.{write_record, read_behind, plain_behind}
use Rattle.host_core.proofs.Notes.{IsStored, few_taken, graphic_stored, orders_proper}
use Rattle.host_core.specs.Application.{IsValidSize, message_place}
use Rattle.host_core.specs.Representation.{command_in, pending_in, IsPlainWrite, IsSentOn}
use Rattle.host_core.specs.Notes.{IsNoteText, in_cells, note_orders, note_command, noted_as}
use Rattle.host_core.specs.Rooms.{note_room}
use Rattle.host_core.specs.Says.{written}
use Rattle.host_core.specs.Session.{Session, Pending}
use Rattle.host_core.specs.declared.pending.Pending.TheVariants as unanswered

-- ---- the text, cut to its cells

pub front_stored : (room : ℕ) (text : List ℕ) → IsNoteText text → All IsStored (take room text)
front_stored room text is = All-take IsStored room text (λ k d below. graphic_stored (slice_index_or text k d) (is.graphic k d below))

one_less : (a b : ℕ) → suc a - suc b ≡ a - b
one_less a b = omega arith

none_less : (n : ℕ) → n ≡ n - 0
none_less n = omega arith

cut_cells : (room count : ℕ) (text : List ℕ) → room ≤ count → take room (text ++ replicate count 0) ≡ take room text ++ replicate (room - length (take room text)) 0
cut_cells zero count [] few = refl
cut_cells zero count (byte ∷ text) few = refl
cut_cells (suc room) count [] few = take-replicate (suc room) count 0 few ∙ ap (λ (n : ℕ). replicate n 0) (none_less (suc room))
cut_cells (suc room) count (byte ∷ text) few =
    ap (λ (rest : List ℕ). byte ∷ rest)
    (cut_cells room count text (omega arith)
    ∙ ap (λ (n : ℕ). take room text ++ replicate n 0) (sym (one_less room (length (take room text)))))

row_cells : (room : ℕ) (text front nulls : List ℕ) → front ≡ take room text → nulls ≡ replicate (room - length front) 0 → front ++ nulls ≡ in_cells room text
row_cells room text front nulls is behind =
    ap (λ (rest : List ℕ). front ++ rest) behind
    ∙ ap (λ (some : List ℕ). some ++ replicate (room - length some) 0) is
    ∙ sym (cut_cells room room text (omega arith))

-- ---- its bytes

in_parts : (old start place front nulls : List ℕ) → (((old ++ start) ++ place) ++ front) ++ nulls ≡ old ++ (start ++ (place ++ (front ++ nulls)))
in_parts old start place front nulls = simp append_assoc

pub note_written : (shape : ScreenSize) (text front nulls old begun placed put new : List ℕ)
    → front ≡ take (shape.columns - 1) text → nulls ≡ replicate (shape.columns - 1 - length front) 0
    → begun ≡ old ++ command_start Write quiet → placed ≡ begun ++ order_bytes (Sba (message_place shape + 1))
    → put ≡ placed ++ front → new ≡ put ++ nulls
    → new ≡ old ++ written (note_command shape text)
note_written shape text front nulls old begun placed put new is behind started at chars all =
    all ∙ ap (λ (some : List ℕ). some ++ nulls)
    (chars ∙ ap (λ (some : List ℕ). some ++ front)
    (at ∙ ap (λ (some : List ℕ). some ++ order_bytes (Sba (message_place shape + 1))) started))
    ∙ in_parts old (command_start Write quiet) (order_bytes (Sba (message_place shape + 1))) front nulls
    ∙ ap (λ (some : List ℕ). old ++ (command_start Write quiet ++ (order_bytes (Sba (message_place shape + 1)) ++ some)))
    (row_cells (shape.columns - 1) text front nulls is behind ∙ sym (orders_bytes-chars (in_cells (shape.columns - 1) text)))

-- ---- its command

each_plain : (text : List ℕ) → list_all is_plain_order (map CharData text) ≡ true
each_plain [] = refl
each_plain (byte ∷ text) = each_plain text

note_plain : (shape : ScreenSize) (text : List ℕ) → is_plain (note_command shape text) ≡ true
note_plain shape text = each_plain (in_cells (shape.columns - 1) text)

note_spelt : (shape : ScreenSize) (text : List ℕ) → IsValidSize shape → IsNoteText text → IsCommand shape shape (note_command shape text) (write_bytes Write quiet (note_orders shape text))
note_spelt shape text shaped is =
    write _ _ _ refl (inr refl) refl (ap Some (sym (wcc_read_back quiet))) (orders_written (cells_in shape) shaped.addresses (note_orders shape text) (orders_proper shape text shaped is)) refl

note_again : (shape : ScreenSize) (number : ℕ) (text sent : List ℕ) → IsValidSize shape → IsNoteText text → sent ≡ write_record number Write quiet (note_orders shape text)
    → command_in shape (drop 5 sent) ≡ note_command shape text
note_again shape number text sent shaped is begun = read_behind shape number Write quiet (note_orders shape text) sent refl (note_spelt shape text shaped is) begun

pub note_is_kept : (shape : ScreenSize) (number : ℕ) (text sent : List ℕ) → IsValidSize shape → IsNoteText text → sent ≡ write_record number Write quiet (note_orders shape text)
    → IsPlainWrite shape (drop 5 sent)
note_is_kept shape number text sent shaped is begun =
    plain_behind shape number Write quiet (note_orders shape text) sent refl (note_spelt shape text shaped is) (note_plain shape text) refl begun

pub note_sent : (conn new : Session) (text sent : List ℕ) (before after : Vec ℕ Global) → IsValidSize conn.size → IsNoteText text
    → sent ≡ write_record conn.next_seq Write quiet (note_orders conn.size text)
    → new ≡ record conn { pending = pending_in conn.size (unanswered.Noting conn.next_seq) sent; next_seq = next_number conn.next_seq }
    → after.items ≡ before.items ++ sent_bytes (Record sent ∷ [])
    → IsSentOn (noted_as text conn) before after new
note_sent conn new text sent before after shaped is begun changed put = record {
  conn = changed ∙ ap (λ (command : CommandParts). record conn { pending = Pending.Noting conn.next_seq command; next_seq = next_number conn.next_seq })
      (note_again conn.size conn.next_seq text sent shaped is begun);
  bytes = put ∙ ap (λ (bytes : List ℕ). before.items ++ sent_bytes (Record bytes ∷ [])) begun;
}

-- ---- its length

note_length : (shape : ScreenSize) (text : List ℕ) → length (written (note_command shape text)) ≤ 5 + (shape.columns - 1)
note_length shape text =
    let cells = few_taken (shape.columns - 1) (text ++ replicate (shape.columns - 1) 0) in
    let bytes : length (orders_bytes (map CharData (in_cells (shape.columns - 1) text))) ≡ length (in_cells (shape.columns - 1) text) =
    ap (λ (some : List ℕ). length some) (orders_bytes-chars (in_cells (shape.columns - 1) text)) in
    omega arith

pub note_record_fits : (shape : ScreenSize) (number : ℕ) (text sent : List ℕ) → shape.columns ≤ most_columns → sent ≡ write_record number Write quiet (note_orders shape text)
    → 2 * length sent + 2 ≤ note_room
note_record_fits shape number text sent narrow begun =
    let whole : length sent ≡ length (write_record number Write quiet (note_orders shape text)) = ap (λ (some : List ℕ). length some) begun in
    let few = note_length shape text in
    omega arith

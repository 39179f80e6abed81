-- A paint that is sent.
use Rattle.std.proofs.Common.{◌≡◌, ◌==◌, ℕ, Bool, true, false, List, [], ◌∷◌, ◌++◌, drop, refl, ap, sym, subst, ◌∙◌, Vec, if◌then◌else◌}
use Rattle.std.specs.declared.alloc.Global.{Global}
use Rattle.std.proofs.lemmas.Bool.{and_parts, eqb-true}
use Rattle.codes3270.specs.Size.{ScreenSize, cells_in, model_2}
use Rattle.codes3270.specs.declared.write_control.Wcc.{Wcc}
use Rattle.datastream.specs.Grammar.{CommandParts, IsCommand, size_after}
use Rattle.datastream.specs.declared.command_code.CommandCode.TheVariants.{Write, EraseWrite, EraseWriteAlternate}
use Rattle.datastream.specs.Wanted.{WantedScreen}
use Rattle.panels.specs.Screen.{Values}
use Rattle.panels.specs.declared.message.Message.{Message}
use Rattle.shadow.specs.Belief.{Shadow, IsOfSize, cells_of_fields}
use Rattle.shadow.specs.Paint.{paint, paint_bytes, paint_code, writes_over, is_base_size, erase_code}
use Rattle.shadow.specs.Stores.{is_plain}
use Rattle.telnet_wire.specs.Items.{Record, sent_bytes}
use Rattle.tn3270e_msg.specs.Header.{spelling, always_response, next_number}
use Rattle.host_core.proofs.Commands.{IsSentCode, sent_command, read_behind, plain_behind}
use Rattle.host_core.specs.Acts.{painted, values_shown, wanted_by}
use Rattle.host_core.specs.Application.{Application}
use Rattle.host_core.specs.Representation.{BelievesTheSize, command_in, pending_in, IsPlainWrite, IsSentOn}
use Rattle.host_core.specs.Messages.{ToTerminal}
use Rattle.host_core.specs.Says.{command_header, item_sent}
use Rattle.host_core.specs.Session.{Session, Pending, model_in}
use Rattle.host_core.specs.declared.pending.Pending.TheVariants as unanswered
use Rattle.host_core.specs.declared.turn.Turn.TheVariants as whose

-- ---- the size that it sets

base_is : (size : ScreenSize) → is_base_size size ≡ true → size ≡ model_2
base_is size is =
    let parts = and_parts (size.rows == model_2.rows) (size.columns == model_2.columns) is in
    ap (λ (rows : ℕ). record { rows = rows; columns = size.columns }) (eqb-true size.rows model_2.rows parts.0)
    ∙ ap (λ (columns : ℕ). record { rows = model_2.rows; columns = columns }) (eqb-true size.columns model_2.columns parts.1)

sets : (n : ℕ) (shadow : Shadow) (wanted : WantedScreen) → size_after (paint_code n shadow wanted) wanted.size wanted.size ≡ wanted.size
sets n shadow wanted = by_over (writes_over n shadow)
  where
    by_base : (b : Bool) → is_base_size wanted.size ≡ b → size_after (if b then EraseWrite else EraseWriteAlternate) wanted.size wanted.size ≡ wanted.size
    by_base true e = sym (base_is wanted.size e)
    by_base false e = refl

    by_over : (b : Bool) → size_after (if b then Write else erase_code wanted.size) wanted.size wanted.size ≡ wanted.size
    by_over true = refl
    by_over false = by_base (is_base_size wanted.size) refl

is_sent : (n : ℕ) (shadow : Shadow) (wanted : WantedScreen) → IsSentCode (paint_code n shadow wanted)
is_sent n shadow wanted = by_over (writes_over n shadow)
  where
    by_base : (b : Bool) → IsSentCode (if b then EraseWrite else EraseWriteAlternate)
    by_base true = refl
    by_base false = refl

    by_over : (b : Bool) → IsSentCode (if b then Write else erase_code wanted.size)
    by_over true = refl
    by_over false = by_base (is_base_size wanted.size)

-- ---- its record

-- the record of a paint
abbrev pub paint_record : ℕ → ℕ → Shadow → WantedScreen → List ℕ
paint_record size number shadow wanted = spelling (command_header always_response number) ++ paint_bytes size shadow wanted

control : WantedScreen → Wcc
control wanted = record { alarm = false; restore = true; reset = wanted.reset }

-- a paint is the write that is read from its bytes, for a screen of the wanted size
same_paint : (n : ℕ) (shadow : Shadow) (wanted : WantedScreen) → sent_command wanted.size (paint_code n shadow wanted) (control wanted) (paint n shadow wanted).orders ≡ paint n shadow wanted
unfolding control
same_paint n shadow wanted = ap (λ (size : ScreenSize). record (paint n shadow wanted) { size = size }) (sets n shadow wanted)

-- its bytes spell it for a screen of the wanted size
abbrev pub IsPaintSpelt : ℕ → Shadow → WantedScreen → Type 0
IsPaintSpelt n shadow wanted = IsCommand wanted.size wanted.size (paint n shadow wanted) (paint_bytes n shadow wanted)

spelt_so : (n : ℕ) (shadow : Shadow) (wanted : WantedScreen) → IsPaintSpelt n shadow wanted
    → IsCommand wanted.size wanted.size (sent_command wanted.size (paint_code n shadow wanted) (control wanted) (paint n shadow wanted).orders) (paint_bytes n shadow wanted)
spelt_so n shadow wanted encoded = subst (λ (command : CommandParts). IsCommand wanted.size wanted.size command (paint_bytes n shadow wanted)) (sym (same_paint n shadow wanted)) encoded

paint_again : (n number : ℕ) (shadow : Shadow) (wanted : WantedScreen) (sent : List ℕ) → IsPaintSpelt n shadow wanted → sent ≡ paint_record n number shadow wanted
    → command_in wanted.size (drop 5 sent) ≡ paint n shadow wanted
unfolding control
paint_again n number shadow wanted sent encoded begun =
    read_behind wanted.size number (paint_code n shadow wanted) (control wanted) (paint n shadow wanted).orders sent (is_sent n shadow wanted) (spelt_so n shadow wanted encoded) begun
    ∙ same_paint n shadow wanted

pub paint_is_kept : (n number : ℕ) (shadow : Shadow) (wanted : WantedScreen) (sent : List ℕ) → IsPaintSpelt n shadow wanted → is_plain (paint n shadow wanted) ≡ true
    → sent ≡ paint_record n number shadow wanted → IsPlainWrite wanted.size (drop 5 sent)
unfolding control
paint_is_kept n number shadow wanted sent encoded plain begun =
    plain_behind wanted.size number (paint_code n shadow wanted) (control wanted) (paint n shadow wanted).orders sent (is_sent n shadow wanted) (spelt_so n shadow wanted encoded)
    (ap is_plain (same_paint n shadow wanted) ∙ plain) (sets n shadow wanted) begun

-- a paint is a Write only where what is believed has the wanted size
over_size : (n : ℕ) (shadow : Shadow) (wanted : WantedScreen) → paint_code n shadow wanted ≡ Write → IsOfSize n shadow
over_size n Shadow.NothingKnown wanted writes = tt
over_size n (Shadow.Unformatted known) wanted writes = absurd (erases (is_base_size wanted.size) writes)
  where
    erases : (b : Bool) → (if b then EraseWrite else EraseWriteAlternate) ≡ Write → ⊥
    erases true e = cc
    erases false e = cc
over_size n (Shadow.Formatted beliefs) wanted writes = by_size (cells_of_fields beliefs == n) refl writes
  where
    by_base : (b : Bool) → (if b then EraseWrite else EraseWriteAlternate) ≡ Write → ⊥
    by_base true e = cc
    by_base false e = cc

    by_size : (b : Bool) → (cells_of_fields beliefs == n) ≡ b → (if b then Write else erase_code wanted.size) ≡ Write → cells_of_fields beliefs ≡ n
    by_size true e is = eqb-true (cells_of_fields beliefs) n e
    by_size false e is = absurd (by_base (is_base_size wanted.size) is)

pub paint_believes : (number : ℕ) (shadow : Shadow) (wanted : WantedScreen) (sent : List ℕ) → IsPaintSpelt (cells_in wanted.size) shadow wanted
    → sent ≡ paint_record (cells_in wanted.size) number shadow wanted → BelievesTheSize wanted.size (unanswered.Writing number) sent shadow
paint_believes number shadow wanted sent encoded begun writes =
    over_size (cells_in wanted.size) shadow wanted
    (sym (ap (λ (command : CommandParts). command.code) (paint_again (cells_in wanted.size) number shadow wanted sent encoded begun)) ∙ writes)

-- the connection once a panel is shown
shown_conn : Session → ScreenSize → ℕ → Message → Values → Pending → Session
shown_conn conn size panel message values pending =
    record conn { size = size; turn = whose.Terminal; pending = pending; next_seq = next_number conn.next_seq; panel = panel; message = message; values = values }

-- the values make no difference to what is kept
pub same_wanted : (app : Application) (conn : Session) (left : Values) (panel : ℕ) (message : Message) (keep : Bool) (values : Values)
    → wanted_by app (record conn { values = left }) panel message keep values ≡ wanted_by app conn panel message keep values
same_wanted app conn left panel message true values = refl
same_wanted app conn left panel message false values = refl

pub shows : (app : Application) (conn new : Session) (asked : ℕ) (message : Message) (keep : Bool) (values : Values) (wanted : WantedScreen) (sent : List ℕ) (before after : Vec ℕ Global)
    → wanted ≡ wanted_by app conn (app.shown (model_in conn) asked) message keep (values_shown app (app.shown (model_in conn) asked) message values)
    → IsPaintSpelt (cells_in wanted.size) conn.shadow wanted → sent ≡ paint_record (cells_in wanted.size) conn.next_seq conn.shadow wanted
    → new ≡ record conn {
      size = wanted.size;
      turn = whose.Terminal;
      pending = pending_in wanted.size (unanswered.Writing conn.next_seq) sent;
      next_seq = next_number conn.next_seq;
      panel = app.shown (model_in conn) asked;
      message = message;
      values = values_shown app (app.shown (model_in conn) asked) message values;
    }
    → after.items ≡ before.items ++ sent_bytes (Record sent ∷ [])
    → IsSentOn (painted app conn asked message keep values) before after new
unfolding shown_conn
shows app conn new asked message keep values wanted sent before after chosen encoded begun is put =
    let panel : ℕ = app.shown (model_in conn) asked in
    let left = values_shown app panel message values in
    record {
      conn = is ∙ ap (λ (command : CommandParts). shown_conn conn wanted.size panel message left (Pending.Writing conn.next_seq command))
          (paint_again (cells_in wanted.size) conn.next_seq conn.shadow wanted sent encoded begun)
          ∙ ap (λ (w : WantedScreen). shown_conn conn w.size panel message left (Pending.Writing conn.next_seq (paint (cells_in w.size) conn.shadow w))) chosen;
      bytes = put ∙ ap (λ (bytes : List ℕ). before.items ++ sent_bytes (Record bytes ∷ [])) begun
          ∙ ap (λ (w : WantedScreen). before.items ++ sent_bytes (item_sent (ToTerminal.Paint conn.next_seq w conn.shadow) ∷ [])) chosen;
    }

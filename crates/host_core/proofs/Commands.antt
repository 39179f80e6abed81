-- What the bytes of a command that the host sends are read as.
use Rattle.std.proofs.Common.{◌≡◌, ℕ, true, List, ◌++◌, drop, Some, refl, ap, sym, subst, ◌∙◌}
use Rattle.codes3270.specs.Size.{ScreenSize, cells_in}
use Rattle.codes3270.specs.declared.write_control.Wcc.{Wcc}
use Rattle.codes3270.specs.WriteControl.{wcc_of, wcc_byte}
use Rattle.datastream.proofs.Sequences.{orders_in-whole}
use Rattle.datastream.specs.Grammar.{CommandParts, IsCommand, write, other, is_write, codes_of, size_after}
use Rattle.datastream.specs.Reading.{orders_in}
use Rattle.datastream.specs.Writing.{orders_bytes, write_bytes}
use Rattle.datastream.specs.declared.command_code.CommandCode.{CommandCode}
use Rattle.datastream.specs.declared.command_code.CommandCode.TheVariants.{Write, EraseWrite, EraseWriteAlternate, ReadBuffer, ReadModified, ReadModifiedAll, EraseAllUnprotected}
use Rattle.datastream.specs.declared.order.Order.{Order}
use Rattle.shadow.specs.Stores.{is_plain}
use Rattle.tn3270e_msg.specs.Header.{spelling, always_response}
use Rattle.tn3270e_msg.specs.declared.header.Header.{Header}
use Rattle.host_core.specs.Says.{command_header}
use Rattle.host_core.specs.Representation.{code_in, command_in, IsPlainWrite}

-- a write, of any of the three kinds
abbrev pub IsSentCode : CommandCode → Type 0
IsSentCode code = is_write code ≡ true

code_again : (code : CommandCode) → IsSentCode code → code_in (codes_of code).1 ≡ code
code_again Write is = refl
code_again EraseWrite is = refl
code_again EraseWriteAlternate is = refl
code_again ReadBuffer is = absurd (cc)
code_again ReadModified is = absurd (cc)
code_again ReadModifiedAll is = absurd (cc)
code_again EraseAllUnprotected is = absurd (cc)

-- such a write, for a screen of this shape
abbrev pub sent_command : ScreenSize → CommandCode → Wcc → List Order → CommandParts
sent_command shape code wcc orders = record { code = code; size = size_after code shape shape; wcc = Some wcc; orders = orders }

orders_again : (shape : ScreenSize) (code : CommandCode) (wcc : Wcc) (orders : List Order) → is_write code ≡ true
    → IsCommand shape shape (sent_command shape code wcc orders) (write_bytes code wcc orders)
    → (wcc ≡ wcc_of (wcc_byte wcc)) × (orders_in (cells_in (size_after code shape shape)) (orders_bytes orders) ≡ orders)
orders_again shape code wcc orders writes (write byte control text is_one stands sized read are is) =
    let same_control : wcc_byte wcc ≡ control = cc in
    let same_text : orders_bytes orders ≡ text = cc in
    let size : ℕ = cells_in (size_after code shape shape) in
    (cc, ap (orders_in size) same_text ∙ orders_in-whole size orders text are)
orders_again shape code wcc orders writes (other byte ignored is_none stands sized none few is) = absurd (cc)

-- the write that is sent is the one that its bytes are read as
pub write_again : (shape : ScreenSize) (code : CommandCode) (wcc : Wcc) (orders : List Order) → IsSentCode code
    → IsCommand shape shape (sent_command shape code wcc orders) (write_bytes code wcc orders)
    → command_in shape (write_bytes code wcc orders) ≡ sent_command shape code wcc orders
write_again shape code wcc orders sent encoded =
    let again = orders_again shape code wcc orders sent encoded in
    ap (λ (c : CommandCode). record { code = c; size = size_after c shape shape; wcc = Some (wcc_of (wcc_byte wcc)); orders = orders_in (cells_in (size_after c shape shape)) (orders_bytes orders) })
    (code_again code sent)
    ∙ ap (λ (w : Wcc). record { code = code; size = size_after code shape shape; wcc = Some w; orders = orders_in (cells_in (size_after code shape shape)) (orders_bytes orders) }) (sym again.0)
    ∙ ap (λ (o : List Order). sent_command shape code wcc o) again.1

-- ---- behind the header of a record

behind_header : (header : Header) (bytes : List ℕ) → drop 5 (spelling header ++ bytes) ≡ bytes
behind_header header bytes = refl

-- the record of a write that is sent
abbrev pub write_record : ℕ → CommandCode → Wcc → List Order → List ℕ
write_record number code wcc orders = spelling (command_header always_response number) ++ write_bytes code wcc orders

pub read_behind : (shape : ScreenSize) (number : ℕ) (code : CommandCode) (wcc : Wcc) (orders : List Order) (sent : List ℕ) → IsSentCode code
    → IsCommand shape shape (sent_command shape code wcc orders) (write_bytes code wcc orders)
    → sent ≡ write_record number code wcc orders → command_in shape (drop 5 sent) ≡ sent_command shape code wcc orders
read_behind shape number code wcc orders sent is encoded begun =
    ap (λ (bytes : List ℕ). command_in shape (drop 5 bytes)) begun
    ∙ ap (command_in shape) (behind_header (command_header always_response number) (write_bytes code wcc orders))
    ∙ write_again shape code wcc orders is encoded

pub plain_behind : (shape : ScreenSize) (number : ℕ) (code : CommandCode) (wcc : Wcc) (orders : List Order) (sent : List ℕ) → IsSentCode code
    → IsCommand shape shape (sent_command shape code wcc orders) (write_bytes code wcc orders)
    → is_plain (sent_command shape code wcc orders) ≡ true → size_after code shape shape ≡ shape
    → sent ≡ write_record number code wcc orders → IsPlainWrite shape (drop 5 sent)
plain_behind shape number code wcc orders sent is encoded plain sized begun =
    let same : command_in shape (drop 5 sent) ≡ sent_command shape code wcc orders = read_behind shape number code wcc orders sent is encoded begun in
    let bytes : drop 5 sent ≡ write_bytes code wcc orders =
    ap (λ (all : List ℕ). drop 5 all) begun ∙ behind_header (command_header always_response number) (write_bytes code wcc orders) in
    record {
      encoded = subst (λ (command : CommandParts). IsCommand shape shape command (drop 5 sent)) (sym same)
          (subst (λ (all : List ℕ). IsCommand shape shape (sent_command shape code wcc orders) all) (sym bytes) encoded);
      plain = ap is_plain same ∙ plain;
      size = ap (λ (command : CommandParts). command.size) same ∙ sized;
    }

-- What is heard or written keeps the size of what is believed.
use Rattle.std.proofs.Common.{◌≡◌, ℕ, suc, ◌+◌, ◌-◌, ◌<◌, Bool, true, false, List, [], ◌∷◌, ◌++◌, length, map, flat_map, take, drop, replicate, set, Option, Some, None, Ok, Err, refl, ap, sym, subst, arith, ◌∙◌, length-append, if◌then◌else◌, All}
use Rattle.std.specs.Prelude.{IfOk, nat_lt}
use Rattle.std.specs.List.{list_any, list_all}
use Rattle.std.proofs.lemmas.Bool.{and_parts}
use Rattle.std.proofs.lemmas.List.{length-map, length-replicate, length-set, take-append-drop}
use Rattle.std.proofs.lemmas.List.Elements.{All-head, All-tail}
use Rattle.codes3270.specs.Size.{cells_in}
use Rattle.codes3270.specs.Aid.{is_short_aid}
use Rattle.codes3270.specs.declared.attention.Aid.{Aid}
use Rattle.codes3270.specs.declared.attention.Aid.TheVariants.{NoAid, Enter, Clear, Pf, Pa}
use Rattle.codes3270.specs.declared.attribute.Cell.{Cell}
use Rattle.codes3270.specs.declared.attribute.Cell.TheVariants.{Char}
use Rattle.codes3270.specs.declared.write_control.Wcc.{Wcc}
use Rattle.datastream.specs.Grammar.{is_write}
use Rattle.datastream.specs.InboundFields.{Returned, leading_text, returned, cells_sent}
use Rattle.datastream.specs.InboundText.{InboundParts, IsSent, IsProperPart, IsWhole, stands_alone}
use Rattle.datastream.specs.InboundText.IsInbound.{alone, long}
use Rattle.datastream.specs.declared.command_code.CommandCode.{CommandCode}
use Rattle.datastream.specs.declared.command_code.CommandCode.TheVariants.{Write, EraseWrite, EraseWriteAlternate, ReadBuffer, ReadModified, ReadModifiedAll, EraseAllUnprotected}
use Rattle.datastream.specs.declared.inbound_part.Form.{Form}
use Rattle.datastream.specs.declared.inbound_part.Form.TheVariants.{Modified, All as AllModified, Buffer}
use Rattle.datastream.specs.declared.order.Order.{Order}
use Rattle.datastream.proofs.InboundData.{inbound_proper}
use Rattle.datastream.proofs.InboundSlices.{cells_whole}
use Rattle.shadow.specs.declared.fault.HeardFault.TheVariants.{NoSuchField, Contradiction}
use Rattle.shadow.specs.declared.known.Known.{Known}
use Rattle.shadow.specs.declared.known.Known.TheVariants.{Attr as KnownAttr, Char as KnownChar}
use Rattle.shadow.specs.declared.mdt_state.MdtState.TheVariants.{Unknown}
use Rattle.shadow.specs.Belief.{Belief, Shadow, cells_of_fields, IsOfSize}
use Rattle.shadow.specs.Exactness.{FieldIsExact, KnownIsExact}
use Rattle.shadow.specs.Heard.{Answer, starts_at, is_nowhere, answer_and, answers, contradicts, was_erased, after_long, settled, heard_long, unknown_fact, after_attention, heard_attention, heard_short, heard_parts, heard}
use Rattle.shadow.specs.AfterReadBuffer.{known_chars, seen, denies_buffer}
use Rattle.shadow.specs.Sized.{HeardIsOfSize, TakenIsOfSize}
use Rattle.shadow.specs.Stores.{Store, stores, stores_unplaced, is_plain_order}
use Rattle.shadow.specs.Taken.{old_char, field_cells, first_place, laid_out, new_cell, known_stored, mark_off, marks_off_if, known_ahead, beliefs_from, formatted_as, believed, resets, known_after, after_write, taken_write, taken_erase, taken_code}
use Rattle.shadow.proofs.Erasing.{erase_seen}
use Rattle.shadow.proofs.HeardOthers.{seen_meets}
use Rattle.shadow.proofs.LaidOut.{meets_size}
use Rattle.shadow.proofs.Stored.{stored}

-- ---- a screen that is wholly known

seen_size : (cells : List Cell) (n : ℕ) → length cells ≡ n → IsOfSize n (seen cells)
seen_size cells n is =
    subst (λ (m : ℕ). IsOfSize m (seen cells)) is
    (meets_size (seen cells) (record { cells = cells; cursor = 0; aid = NoAid }) (seen_meets (record { cells = cells; cursor = 0; aid = NoAid })))

-- ---- what was heard

attention_cells : (bs : List Belief) → cells_of_fields (map after_attention bs) ≡ cells_of_fields bs
attention_cells [] = refl
attention_cells (b ∷ bs) = cases b.attr.protected (attention_cells bs)
  where
    cases : (p : Bool) → cells_of_fields (map after_attention bs) ≡ cells_of_fields bs
        → suc (if p then b else record b { mdt = Unknown; fact = unknown_fact b.length }).length + cells_of_fields (map after_attention bs) ≡ suc b.length + cells_of_fields bs
    cases true e = ap (λ (k : ℕ). suc b.length + k) e
    cases false e = ap (λ (k : ℕ). suc b.length + k) e

pub attention_size : (n : ℕ) (shadow : Shadow) → IsOfSize n shadow → IsOfSize n (heard_attention shadow)
attention_size n Shadow.NothingKnown h = tt
attention_size n (Shadow.Unformatted known) h = tt
attention_size n (Shadow.Formatted bs) h = attention_cells bs ∙ h

short_size : (n : ℕ) (aid : Aid) (shadow : Shadow) → IsOfSize n shadow → IsOfSize n (heard_short n aid shadow)
short_size n Clear shadow h = length-replicate n (Some 0)
short_size n (Pa key) shadow h = attention_size n shadow h
short_size n NoAid shadow h = attention_size n shadow h
short_size n Enter shadow h = attention_size n shadow h
short_size n (Pf key) shadow h = attention_size n shadow h

one_cells : (erased : Bool) (b : Belief) (n : ℕ) (text : Option (List ℕ)) (others : Option (List Answer)) (found : List Answer) → answer_and b text others ≡ Some found
    → ((more : List Answer) → others ≡ Some more → cells_of_fields (map (after_long erased) more) ≡ n) → cells_of_fields (map (after_long erased) found) ≡ suc b.length + n
one_cells erased b n text None found e rest = absurd (cc)
one_cells erased b n text (Some more) found e rest =
    let same : record { field = b; text = text } ∷ more ≡ found = cc in
    subst (λ (as_ : List Answer). cells_of_fields (map (after_long erased) as_) ≡ suc b.length + n) same (ap (λ (k : ℕ). suc b.length + k) (rest more refl))

answers_cells : (erased : Bool) (size : ℕ) (bs : List Belief) (rs : List Returned) (found : List Answer) → answers size bs rs ≡ Some found → cells_of_fields (map (after_long erased) found) ≡ cells_of_fields bs
answers_cells erased size [] [] found e = let same : [] ≡ found = cc in subst (λ (as_ : List Answer). cells_of_fields (map (after_long erased) as_) ≡ 0) same refl
answers_cells erased size [] (r ∷ rs) found e = absurd (cc)
answers_cells erased size (b ∷ bs) [] found e = one_cells erased b (cells_of_fields bs) None (answers size bs []) found e (λ more is. answers_cells erased size bs [] more is)
answers_cells erased size (b ∷ bs) (r ∷ rs) found e =
    cases (starts_at size b r.first) e (λ more is. answers_cells erased size bs rs more is) (λ more is. answers_cells erased size bs (r ∷ rs) more is)
  where
    cases : (t : Bool) → (if t then answer_and b (Some r.text) (answers size bs rs) else answer_and b None (answers size bs (r ∷ rs))) ≡ Some found
        → ((more : List Answer) → answers size bs rs ≡ Some more → cells_of_fields (map (after_long erased) more) ≡ cells_of_fields bs)
        → ((more : List Answer) → answers size bs (r ∷ rs) ≡ Some more → cells_of_fields (map (after_long erased) more) ≡ cells_of_fields bs)
        → cells_of_fields (map (after_long erased) found) ≡ suc b.length + cells_of_fields bs
    cases true e there later = one_cells erased b (cells_of_fields bs) (Some r.text) (answers size bs rs) found e there
    cases false e there later = one_cells erased b (cells_of_fields bs) None (answers size bs (r ∷ rs)) found e later

settled_size : (n : ℕ) (found : Option (List Answer)) → ((erased : Bool) (as_ : List Answer) → found ≡ Some as_ → cells_of_fields (map (after_long erased) as_) ≡ n) → IfOk (settled found) (IsOfSize n)
settled_size n None each = tt
settled_size n (Some as_) each = cases (list_any contradicts as_)
  where
    cases : (t : Bool) → IfOk (if t then Err Contradiction else Ok (Shadow.Formatted (map (after_long (list_any was_erased as_)) as_))) (IsOfSize n)
    cases true = tt
    cases false = each (list_any was_erased as_) as_ refl

long_size : (n : ℕ) (shadow : Shadow) (ahead : List ℕ) (rs : List Returned) → IsOfSize n shadow → IfOk (heard_long n shadow ahead rs) (IsOfSize n)
long_size n Shadow.NothingKnown ahead [] h = tt
long_size n Shadow.NothingKnown ahead (r ∷ rs) h = tt
long_size n (Shadow.Unformatted known) ahead [] h = cases (nat_lt (length known) (length ahead))
  where
    cases : (t : Bool) → IfOk (if t then Err Contradiction else Ok Shadow.NothingKnown) (IsOfSize n)
    cases true = tt
    cases false = tt
long_size n (Shadow.Unformatted known) ahead (r ∷ rs) h = tt
long_size n (Shadow.Formatted bs) ahead rs h = cases (list_any (is_nowhere n bs) rs) (nat_lt 0 (length ahead))
  where
    cases : (t u : Bool) → IfOk (if t then Err NoSuchField else if u then Err Contradiction else settled (answers n bs rs)) (IsOfSize n)
    cases true u = tt
    cases false true = tt
    cases false false = settled_size n (answers n bs rs) (λ erased as_ e. answers_cells erased n bs rs as_ e ∙ h)

-- a buffer has a cell for each of the screen
buffer_cells : (a : InboundParts) → IsSent a → a.form ≡ Buffer → length (cells_sent a.parts) ≡ cells_in a.size
buffer_cells a (bytes, alone byte stands known is_cursor none is) form = absurd (let bad = ap (λ (f : Form). stands_alone f a.aid) (sym form) ∙ stands in cc)
buffer_cells a (bytes, long byte high low cursor text goes_on known is_cursor address are whole is) form =
    cells_whole (cells_in a.size) a.parts (subst (λ (f : Form). All (IsProperPart (cells_in a.size) f) a.parts) form (inbound_proper a (bytes, long byte high low cursor text goes_on known is_cursor address are whole is)))
    ∙ subst (λ (f : Form). IsWhole (cells_in a.size) f a.parts) form whole

pub heard_size : HeardIsOfSize
heard_size shadow inbound sent h = cases inbound.form (buffer_cells inbound sent)
  where
    parts_size : IfOk (heard_parts (cells_in inbound.size) shadow inbound.parts) (IsOfSize (cells_in inbound.size))
    parts_size = long_size (cells_in inbound.size) shadow (leading_text inbound.parts) (returned inbound.parts) h

    short : (t : Bool) → IfOk (if t then Ok (heard_short (cells_in inbound.size) inbound.aid shadow) else heard_parts (cells_in inbound.size) shadow inbound.parts) (IsOfSize (cells_in inbound.size))
    short true = short_size (cells_in inbound.size) inbound.aid shadow h
    short false = parts_size

    read : (t : Bool) → length (cells_sent inbound.parts) ≡ cells_in inbound.size → IfOk (if t then Err Contradiction else Ok (seen (cells_sent inbound.parts))) (IsOfSize (cells_in inbound.size))
    read true whole = tt
    read false whole = seen_size (cells_sent inbound.parts) (cells_in inbound.size) whole

    cases : (form : Form) → (form ≡ Buffer → length (cells_sent inbound.parts) ≡ cells_in inbound.size) → IfOk (heard (cells_in inbound.size) shadow (record inbound { form = form })) (IsOfSize (cells_in inbound.size))
    cases Modified whole = short (is_short_aid inbound.aid)
    cases AllModified whole = parts_size
    cases Buffer whole = read (denies_buffer shadow (cells_sent inbound.parts)) (whole refl)

-- ---- what was written

abbrev has_attr : List Known → Bool
has_attr [] = false
has_attr (KnownChar known fresh ∷ cells) = has_attr cells
has_attr (KnownAttr attribute mark ∷ cells) = true

-- the cells from the first attribute on
abbrev from_attr : List Known → List Known
from_attr [] = []
from_attr (KnownChar known fresh ∷ cells) = from_attr cells
from_attr (KnownAttr attribute mark ∷ cells) = KnownAttr attribute mark ∷ cells

parted : (cells : List Known) → length (known_ahead cells) + length (from_attr cells) ≡ length cells
parted [] = refl
parted (KnownChar k f ∷ cells) = let h = parted cells in omega arith
parted (KnownAttr a m ∷ cells) = omega arith

some_attr : (cells : List Known) → has_attr cells ≡ true → 0 < length (from_attr cells)
some_attr [] e = absurd (cc)
some_attr (KnownChar k f ∷ cells) e = some_attr cells e
some_attr (KnownAttr a m ∷ cells) e = omega arith

no_attr : (cells : List Known) → has_attr cells ≡ false → length (from_attr cells) ≡ 0
no_attr [] e = refl
no_attr (KnownChar k f ∷ cells) e = no_attr cells e
no_attr (KnownAttr a m ∷ cells) e = absurd (cc)

-- the last field goes on at address 0
ring_last : (rest more : List Known) → has_attr rest ≡ false → length (known_ahead (rest ++ more)) ≡ length rest + length (known_ahead more)
ring_last [] more e = omega arith
ring_last (KnownChar k f ∷ rest) more e = let h = ring_last rest more e in omega arith
ring_last (KnownAttr a m ∷ rest) more e = absurd (cc)

-- any other ends at the next attribute
ring_inner : (rest more : List Known) → has_attr rest ≡ true → length (known_ahead (rest ++ more)) + length (from_attr rest) ≡ length rest
ring_inner [] more e = absurd (cc)
ring_inner (KnownChar k f ∷ rest) more e = let h = ring_inner rest more e in omega arith
ring_inner (KnownAttr a m ∷ rest) more e = omega arith

none_from : (before : List Belief) (whole : List Known) (n : ℕ) (rest : List Known) → has_attr rest ≡ false → beliefs_from before whole n rest ≡ []
none_from before whole n [] e = refl
none_from before whole n (KnownChar k f ∷ rest) e = none_from before whole (n + 1) rest e
none_from before whole n (KnownAttr a m ∷ rest) e = absurd (cc)

cells_from : (before : List Belief) (whole : List Known) (n : ℕ) (rest : List Known) → has_attr rest ≡ true → cells_of_fields (beliefs_from before whole n rest) ≡ length (from_attr rest) + length (known_ahead whole)
cells_from before whole n [] e = absurd (cc)
cells_from before whole n (KnownChar k f ∷ rest) e = cells_from before whole (n + 1) rest e
cells_from before whole n (KnownAttr a m ∷ rest) e = cases (has_attr rest) refl (cells_from before whole (n + 1) rest)
  where
    cases : (t : Bool) → has_attr rest ≡ t → (has_attr rest ≡ true → cells_of_fields (beliefs_from before whole (n + 1) rest) ≡ length (from_attr rest) + length (known_ahead whole))
        → suc (length (known_ahead (rest ++ whole))) + cells_of_fields (beliefs_from before whole (n + 1) rest) ≡ suc (length rest) + length (known_ahead whole)
    cases true is later = let more = later is in let inner = ring_inner rest whole is in omega arith
    cases false is later =
        let none : cells_of_fields (beliefs_from before whole (n + 1) rest) ≡ 0 = ap cells_of_fields (none_from before whole (n + 1) rest is) in
        let last = ring_last rest whole is in
        omega arith

believed_size : (before : List Belief) (cells : List Known) (n : ℕ) → length cells ≡ n → IsOfSize n (believed before cells)
believed_size before cells n long_ = by_fields (beliefs_from before cells 0 cells) refl
  where
    count : length (known_ahead cells) + length (from_attr cells) ≡ length cells
    count = parted cells

    bare : (t : Bool) → has_attr cells ≡ t → cells_of_fields (beliefs_from before cells 0 cells) ≡ 0 → length (known_ahead cells) ≡ n
    bare true is none = absurd (let all = cells_from before cells 0 cells is in let some = some_attr cells is in omega arith)
    bare false is none = omega (arith, no_attr cells is, count, long_)

    framed : (t : Bool) → has_attr cells ≡ t → (b : Belief) (bs : List Belief) → beliefs_from before cells 0 cells ≡ b ∷ bs → cells_of_fields (b ∷ bs) ≡ n
    framed true is b bs same = let all = ap cells_of_fields (sym same) ∙ cells_from before cells 0 cells is in omega (arith, all, count, long_)
    framed false is b bs same = absurd (let none = sym (none_from before cells 0 cells is) ∙ same in cc)

    by_fields : (bs : List Belief) → beliefs_from before cells 0 cells ≡ bs → IsOfSize n (formatted_as bs (known_ahead cells))
    by_fields [] same = bare (has_attr cells) refl (ap cells_of_fields same)
    by_fields (b ∷ bs) same = framed (has_attr cells) refl b bs same

length-known_stored : (ss : List Store) (cells : List Known) → length (known_stored ss cells) ≡ length cells
length-known_stored [] cells = refl
length-known_stored (store ∷ ss) cells = length-known_stored ss (set cells store.at (new_cell store.cell)) ∙ length-set cells store.at (new_cell store.cell)

length-off : (off : Bool) (cells : List Known) → length (marks_off_if off cells) ≡ length cells
length-off true cells = length-map cells mark_off
length-off false cells = refl

write_size : (size : ℕ) (wcc : Option Wcc) (orders : List Order) (before : List Belief) (cells : List Known) → length cells ≡ size → IsOfSize size (after_write size wcc orders before cells)
write_size size wcc orders before cells is = cases (stores_unplaced orders)
  where
    cases : (t : Bool) → IsOfSize size (if t then Shadow.NothingKnown else believed before (known_after size wcc orders cells))
    cases true = tt
    cases false =
        believed_size before (known_after size wcc orders cells) size (length-known_stored (stores size 0 orders) (marks_off_if (resets wcc) cells) ∙ length-off (resets wcc) cells ∙ is)

flat_cells : (bs : List Belief) → All FieldIsExact bs → length (flat_map field_cells bs) ≡ cells_of_fields bs
flat_cells [] h = refl
flat_cells (b ∷ bs) h =
    omega (arith, length-append (field_cells b) (flat_map field_cells bs), length-map (known_chars b.length b.fact) old_char, (All-head FieldIsExact b bs h).whole, flat_cells bs (All-tail FieldIsExact b bs h))

laid_size : (size : ℕ) (bs : List Belief) → All FieldIsExact bs → cells_of_fields bs ≡ size → length (laid_out size bs) ≡ size
laid_size size bs h is =
    let flat : List Known = flat_map field_cells bs in
    let k : ℕ = size - first_place bs in
    omega (arith, is, flat_cells bs h, length-append (drop k flat) (take k flat), length-append (take k flat) (drop k flat), ap length (take-append-drop k flat))

written_size : (size : ℕ) (wcc : Option Wcc) (orders : List Order) (shadow : Shadow) → KnownIsExact shadow → IsOfSize size shadow → IsOfSize size (taken_write size wcc orders shadow)
written_size size wcc orders Shadow.NothingKnown exact h = tt
written_size size wcc orders (Shadow.Unformatted known) exact h = write_size size wcc orders [] (map old_char known) (length-map known old_char ∙ h)
written_size size wcc orders (Shadow.Formatted bs) exact h = write_size size wcc orders bs (laid_out size bs) (laid_size size bs exact h)

length-stored : (ss : List Store) (cells : List Cell) → length (stored ss cells) ≡ length cells
length-stored [] cells = refl
length-stored (store ∷ ss) cells = length-stored ss (set cells store.at store.cell) ∙ length-set cells store.at store.cell

pub taken_size : TakenIsOfSize
taken_size command shadow encoded plain exact sized = cases command.code refl
  where
    erased : IsOfSize (cells_in command.size) (taken_erase command)
    erased =
        let nulls : List Cell = replicate (cells_in command.size) (Char 0) in
        let ss : List Store = stores (cells_in command.size) 0 command.orders in
        subst (IsOfSize (cells_in command.size)) (sym (erase_seen command encoded plain))
        (seen_size (stored ss nulls) (cells_in command.size) (length-stored ss nulls ∙ length-replicate (cells_in command.size) (Char 0)))

    writes : (code : CommandCode) → command.code ≡ code → is_write code ≡ true
    writes code is = sym (ap is_write is) ∙ (and_parts (is_write command.code) (list_all is_plain_order command.orders) plain).0

    cases : (code : CommandCode) → command.code ≡ code → IsOfSize (cells_in command.size) (taken_code code (cells_in command.size) command shadow)
    cases Write is = written_size (cells_in command.size) command.wcc command.orders shadow exact (sized is)
    cases EraseWrite is = erased
    cases EraseWriteAlternate is = erased
    cases ReadBuffer is = absurd (let no = writes ReadBuffer is in cc)
    cases ReadModified is = absurd (let no = writes ReadModified is in cc)
    cases ReadModifiedAll is = absurd (let no = writes ReadModifiedAll is in cc)
    cases EraseAllUnprotected is = absurd (let no = writes EraseAllUnprotected is in cc)

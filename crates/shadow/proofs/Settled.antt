-- When the text of each field is known, but for its nulls.
use Rattle.std.proofs.Common.{◌≡◌, ℕ, ◌+◌, ◌-◌, Bool, true, false, not, ◌||◌, ◌&&◌, List, [], ◌∷◌, ◌++◌, length, map, set, flat_map, drop, take, Option, Some, None, Ok, Err, refl, ap, sym, subst, ◌∙◌, if◌then◌else◌, eqb-true, All}
use Rattle.std.specs.Prelude.{⊤, ◌==◌, IfOk}
use Rattle.std.specs.List.{list_any, slice_get}
use Rattle.std.proofs.lemmas.Bool.{and_parts, or_right}
use Rattle.std.proofs.lemmas.Option.{slice_get-get_or}
use Rattle.std.proofs.lemmas.List.Elements.{All-head, All-tail, All-nil, All-cons, All-append, All-drop, All-take, All-set, All-weaker}
use Rattle.std.proofs.lemmas.List.Sums.{AllPass-from_list_all, list_all-from_AllPass}
use Rattle.codes3270.specs.Size.{cells_in}
use Rattle.codes3270.specs.declared.attribute.Attr.{Attr as Attribute}
use Rattle.codes3270.specs.declared.attribute.Cell.{Cell}
use Rattle.codes3270.specs.declared.attribute.Cell.TheVariants.{Char, Attr}
use Rattle.datastream.specs.Fields.{Field, fields, fields_from}
use Rattle.datastream.specs.Grammar.{CommandParts}
use Rattle.datastream.specs.InboundFields.{leading_text, returned, cells_sent}
use Rattle.datastream.specs.Meaning.{after_command}
use Rattle.datastream.specs.Screen.{Screen, blank_screen, is_char, text_before_attribute}
use Rattle.datastream.specs.Wanted.{WantedScreen}
use Rattle.datastream.specs.declared.command_code.CommandCode.{CommandCode}
use Rattle.datastream.specs.declared.command_code.CommandCode.TheVariants.{Write, EraseWrite, EraseWriteAlternate, ReadBuffer, ReadModified, ReadModifiedAll, EraseAllUnprotected}
use Rattle.datastream.specs.declared.inbound_part.Form.{Form}
use Rattle.datastream.specs.declared.inbound_part.Form.TheVariants.{Modified, All as AllModified, Buffer}
use Rattle.datastream.specs.declared.order.Order.{Order}
use Rattle.datastream.specs.declared.wanted.Want.{Want}
use Rattle.datastream.specs.declared.wanted.Want.TheVariants.{Char as WantChar, Attr as WantAttr, Keep}
use Rattle.shadow.specs.declared.fault.HeardFault.TheVariants.{Contradiction}
use Rattle.shadow.specs.declared.known.Known.{Known}
use Rattle.shadow.specs.declared.known.Known.TheVariants.{Attr as KnownAttr, Char as KnownChar}
use Rattle.shadow.specs.declared.mdt_state.MdtState.{MdtState}
use Rattle.shadow.specs.declared.mdt_state.MdtState.TheVariants.{On, Off, Unknown}
use Rattle.shadow.specs.AfterReadBuffer.{known_chars, belief_seen, formatted_or, seen, mark_seen, same_attr, denies_buffer}
use Rattle.shadow.specs.Belief.{Fact, Belief, Shadow, fields_of, cells_of_fields}
use Rattle.shadow.specs.Exactness.{IsExactIfProtected}
use Rattle.shadow.specs.Fits.{is_keep, is_paintable, fits}
use Rattle.shadow.specs.Heard.{Answer, was_erased, lost_text, text_fact, is_on, unprotected_fact, after_long, heard_short, heard_parts, heard}
use Rattle.shadow.specs.Notes.{IsOverProtected}
use Rattle.shadow.specs.Pairs.{Pairwise}
use Rattle.shadow.specs.Paint.{is_there, marks, unless, cell_to_store, to_store, painting, is_base_size, erase_code, paint}
use Rattle.shadow.specs.Painted.{keeps_ahead, attr_or_kept, painted_from, cells_under, plainly_painted}
use Rattle.shadow.specs.Settled.{is_settled_fact, IsSettledField, IsSettled, SettledIsDecided, IsReturned, ReturnsInput, WantsInputReturned, ReturnedIsSettled, ReadIsSettled, PaintReturnsInput, NoteReturnsInput, NoteStaysSettled}
use Rattle.shadow.specs.Stores.{Store, stores}
use Rattle.shadow.specs.Taken.{old_char, field_cells, first_place, laid_out, new_cell, known_stored, marks_off_if, belief_after, beliefs_from, known_after, after_write, resets, taken_write, taken_code, taken}
use Rattle.shadow.proofs.ExactHeard.{Each, long_gives, seen_has}
use Rattle.shadow.proofs.ExactPainted.{Shaped, all_shaped, known_painted, stored_over, stores_painted, no_address}
use Rattle.shadow.proofs.ExactTaken.{write_has}
use Rattle.shadow.proofs.FieldPlaces.{both_false}
use Rattle.shadow.proofs.Keeps.{HasNoKeep, no_keep_ahead}
use Rattle.shadow.proofs.LaidOut.{laid_out_fits, fields_size}
use Rattle.shadow.proofs.NotesTaken.{IfFree, free_stays, stays_exact}
use Rattle.shadow.proofs.Paints.{same_attr_true, paints_stores, paint_wcc, painted_if, wanted_painted}
use Rattle.shadow.proofs.Pairs.{pairwise-length}

pub settled_decided : SettledIsDecided
settled_decided shadow = (
  AllPass-from_list_all (λ (b : Belief). is_settled_fact b.fact) (fields_of shadow),
  list_all-from_AllPass (λ (b : Belief). is_settled_fact b.fact) (fields_of shadow),
)

-- ---- inbound data

read_settled : (f : Field) → IsSettledField (belief_seen f)
read_settled f = refl

pub read_is_settled : ReadIsSettled
read_is_settled size shadow inbound is = cases inbound.form is
  where
    read : (t : Bool) → IfOk (if t then Err Contradiction else Ok (seen (cells_sent inbound.parts))) IsSettled
    read true = tt
    read false = seen_has IsSettledField read_settled (cells_sent inbound.parts)

    cases : (form : Form) → form ≡ Buffer → IfOk (heard size shadow (record inbound { form = form })) IsSettled
    cases Modified e = absurd (cc)
    cases AllModified e = absurd (cc)
    cases Buffer e = read (denies_buffer shadow (cells_sent inbound.parts))

abbrev IsReady : Belief → Type 0
IsReady belief = IsReturned belief × IsExactIfProtected belief

text_settled : (count : ℕ) (text : List ℕ) → is_settled_fact (text_fact count text) ≡ true
text_settled count [] = refl
text_settled count (c ∷ text) = refl

one_settled : (erased : Bool) (a : Answer) → (was_erased a ≡ true → erased ≡ true) → IsReady a.field → IsSettledField (after_long erased a)
one_settled erased a all ready = cases a.field.attr.protected refl a.text all
  where
    lost : a.field.attr.protected ≡ false → lost_text a.field None ≡ true
    lost free = ap (λ (p : Bool). not p && is_on a.field.mdt) free ∙ ap is_on (ready.0 free)

    cases : (p : Bool) → a.field.attr.protected ≡ p → (text : Option (List ℕ)) → (lost_text a.field text ≡ true → erased ≡ true)
        → is_settled_fact (if p then a.field.fact else unprotected_fact erased a.field text) ≡ true
    cases true p text all = ap is_settled_fact (ready.1 p).1
    cases false p (Some text) all = text_settled a.field.length text
    cases false p None all = rw (all (lost p)) refl

all_settled : (erased : Bool) (ans : List Answer) → (list_any was_erased ans ≡ true → erased ≡ true) → Each IsReady ans → All IsSettledField (map (after_long erased) ans)
all_settled erased [] all ready = All-nil IsSettledField
all_settled erased (a ∷ ans) all ready =
    All-cons IsSettledField (after_long erased a) (map (after_long erased) ans)
    (one_settled erased a (λ e. all (ap (λ (t : Bool). t || list_any was_erased ans) e)) (All-head (λ (x : Answer). IsReady x.field) a ans ready))
    (all_settled erased ans (λ e. all (or_right (was_erased a) (list_any was_erased ans) e)) (All-tail (λ (x : Answer). IsReady x.field) a ans ready))

pub returned_is_settled : ReturnedIsSettled
returned_is_settled size shadow inbound is long returns exact = cases inbound.form is
  where
    fields_heard : IfOk (heard_parts size shadow inbound.parts) IsSettled
    fields_heard =
        long_gives IsReady IsSettledField (λ ans none. all_settled (list_any was_erased ans) ans (λ e. e)) size shadow (leading_text inbound.parts) (returned inbound.parts)
        (λ k d below. (returns k d below, exact k d below))

    cases : (form : Form) → form ≡ Modified → IfOk (heard size shadow (record inbound { form = form })) IsSettled
    cases Modified e =
        subst (λ (t : Bool). IfOk (if t then Ok (heard_short size inbound.aid shadow) else heard_parts size shadow inbound.parts) IsSettled) (sym long) fields_heard
    cases AllModified e = absurd (cc)
    cases Buffer e = absurd (cc)

-- ---- where MDT of each input field is on

-- MDT of what is known, wanted or there
abbrev MarkedOn : Known → Type 0
MarkedOn (KnownAttr attribute mdt) = attribute.protected ≡ false → mdt ≡ On
MarkedOn (KnownChar slot fresh) = ⊤

abbrev WantedOn : Want → Type 0
WantedOn (WantAttr attribute) = attribute.protected ≡ false → attribute.mdt ≡ true
WantedOn (WantChar byte) = ⊤
WantedOn Keep = ⊤

abbrev CellOn : Cell → Type 0
CellOn (Attr attribute) = attribute.protected ≡ false → attribute.mdt ≡ true
CellOn (Char byte) = ⊤

-- the fields of known cells
from_returned : (bs : List Belief) (whole : List Known) (n : ℕ) (rest : List Known) → All MarkedOn rest → All IsReturned (beliefs_from bs whole n rest)
from_returned bs whole n [] h = All-nil IsReturned
from_returned bs whole n (KnownChar slot fresh ∷ rest) h = from_returned bs whole (n + 1) rest (All-tail MarkedOn (KnownChar slot fresh) rest h)
from_returned bs whole n (KnownAttr a m ∷ rest) h =
    All-cons IsReturned (belief_after bs n a m (rest ++ whole)) (beliefs_from bs whole (n + 1) rest) (All-head MarkedOn (KnownAttr a m) rest h)
    (from_returned bs whole (n + 1) rest (All-tail MarkedOn (KnownAttr a m) rest h))

-- the fields of a screen all of whose cells are known
seen_on : (mdt : Bool) → mdt ≡ true → mark_seen mdt ≡ On
seen_on true e = refl
seen_on false e = absurd (cc)

each_seen : (whole : List Cell) (n : ℕ) (rest : List Cell) → All CellOn rest → All IsReturned (map belief_seen (fields_from whole n rest))
each_seen whole n [] h = All-nil IsReturned
each_seen whole n (Char c ∷ rest) h = each_seen whole (n + 1) rest (All-tail CellOn (Char c) rest h)
each_seen whole n (Attr a ∷ rest) h =
    All-cons IsReturned _ (map belief_seen (fields_from whole (n + 1) rest)) (λ free. seen_on a.mdt (All-head CellOn (Attr a) rest h free)) (each_seen whole (n + 1) rest (All-tail CellOn (Attr a) rest h))

seen_returned : (cells : List Cell) → All CellOn cells → ReturnsInput (seen cells)
seen_returned cells h = cases (fields cells) (each_seen cells 0 cells h)
  where
    cases : (fs : List Field) → All IsReturned (map belief_seen fs) → All IsReturned (fields_of (formatted_or fs (text_before_attribute cells)))
    cases [] h = All-nil IsReturned
    cases (f ∷ fs) h = h

-- ---- a paint

all_wanted_on : (wanted : WantedScreen) → WantsInputReturned wanted → All WantedOn wanted.cells
all_wanted_on wanted h k d below = cases _ (slice_get-get_or wanted.cells k d below)
  where
    cases : (want : Want) → slice_get wanted.cells k ≡ Some want → WantedOn want
    cases (WantAttr attribute) at = h k attribute at
    cases (WantChar byte) at = tt
    cases Keep at = tt

marked_on : (mdt : MdtState) (wanted : Bool) → wanted ≡ true → marks mdt wanted ≡ true → mdt ≡ On
marked_on On true is e = refl
marked_on Off true is e = absurd (cc)
marked_on Unknown true is e = absurd (cc)
marked_on mdt false is e = absurd (cc)

one_painted : (ahead : List Want) (want : Want) (k : Known) → is_keep want ≡ false → keeps_ahead ahead ≡ false → WantedOn want → MarkedOn (stored_over k (cell_to_store ahead want k))
one_painted ahead Keep k none apart on = absurd (cc)
one_painted ahead (WantChar c) k none apart on = cases (is_there k (Char c)) refl
  where
    there : (k : Known) → is_there k (Char c) ≡ true → MarkedOn k
    there (KnownAttr b m) e = absurd (cc)
    there (KnownChar slot fresh) e = tt

    cases : (t : Bool) → is_there k (Char c) ≡ t → MarkedOn (stored_over k (unless t (Char c)))
    cases true e = there k e
    cases false e = tt
one_painted ahead (WantAttr a) k none apart on = rw apart (cases (is_there k (Attr a)) refl)
  where
    there : (k : Known) → is_there k (Attr a) ≡ true → MarkedOn k
    there (KnownChar slot fresh) e = absurd (cc)
    there (KnownAttr b m) e = λ free.
        let parts = and_parts (same_attr b a) (marks m a.mdt) e in
        marked_on m a.mdt (on (ap (λ (z : Attribute). z.protected) (sym (same_attr_true b a parts.0)) ∙ free)) parts.1

    cases : (t : Bool) → is_there k (Attr a) ≡ t → MarkedOn (stored_over k (unless t (Attr a)))
    cases true e = there k e
    cases false e = λ free. seen_on a.mdt (on free)

all_painted_on : (whole rest : List Want) (known : List Known) → HasNoKeep whole → HasNoKeep rest → All WantedOn rest → All MarkedOn (known_painted whole rest known)
all_painted_on whole [] known apart none on = All-nil MarkedOn
all_painted_on whole (want ∷ rest) [] apart none on = All-nil MarkedOn
all_painted_on whole (want ∷ rest) (k ∷ known) apart none on =
    let parts = both_false (is_keep want) (list_any is_keep rest) none in
    All-cons MarkedOn (stored_over k (cell_to_store (rest ++ whole) want k)) (known_painted whole rest known)
    (one_painted (rest ++ whole) want k parts.0 (no_keep_ahead rest whole parts.1 apart) (All-head WantedOn want rest on))
    (all_painted_on whole rest known apart parts.1 (All-tail WantedOn want rest on))

painted_cells_on : (reset : Bool) (whole rest : List Want) (cells : List Cell) → HasNoKeep whole → HasNoKeep rest → All WantedOn rest → All CellOn (painted_from reset whole rest cells)
painted_cells_on reset whole [] cells apart none on = All-nil CellOn
painted_cells_on reset whole (want ∷ rest) [] apart none on = All-nil CellOn
painted_cells_on reset whole (WantChar c ∷ rest) (there ∷ cells) apart none on =
    All-cons CellOn (Char c) (painted_from reset whole rest cells) tt (painted_cells_on reset whole rest cells apart none (All-tail WantedOn (WantChar c) rest on))
painted_cells_on reset whole (Keep ∷ rest) (there ∷ cells) apart none on = absurd (cc)
painted_cells_on reset whole (WantAttr a ∷ rest) (there ∷ cells) apart none on =
    All-cons CellOn (attr_or_kept (keeps_ahead (rest ++ whole)) reset a there) (painted_from reset whole rest cells)
    (subst (λ (keeps : Bool). CellOn (attr_or_kept keeps reset a there)) (sym (no_keep_ahead rest whole none apart)) (All-head WantedOn (WantAttr a) rest on))
    (painted_cells_on reset whole rest cells apart none (All-tail WantedOn (WantAttr a) rest on))

-- a paint that erases
erase_returns : (wanted : WantedScreen) (shadow : Shadow) → length wanted.cells ≡ cells_in wanted.size → HasNoKeep wanted.cells → All WantedOn wanted.cells
    → ReturnsInput (taken_code (erase_code wanted.size) (cells_in wanted.size) (paint (cells_in wanted.size) Shadow.NothingKnown wanted) shadow)
erase_returns wanted shadow long none on = cases (is_base_size wanted.size)
  where
    size : ℕ
    size = cells_in wanted.size

    command : CommandParts
    command = paint size Shadow.NothingKnown wanted

    can : is_paintable Shadow.NothingKnown wanted ≡ true
    can = ap (λ (t : Bool). not t || fits Shadow.NothingKnown wanted) none

    erased : ReturnsInput (seen (after_command command (blank_screen size)).cells)
    erased =
        subst (λ (s : Screen). ReturnsInput (seen s.cells)) (sym (wanted_painted Shadow.NothingKnown wanted (blank_screen size) long can tt))
        (seen_returned (plainly_painted wanted (blank_screen size)).cells
        (painted_cells_on wanted.reset wanted.cells wanted.cells (cells_under (length wanted.cells) (blank_screen size).cells) none none on))

    cases : (t : Bool) → ReturnsInput (taken_code (if t then EraseWrite else EraseWriteAlternate) size command shadow)
    cases true = erased
    cases false = erased

pub paint_returns_input : PaintReturnsInput
paint_returns_input Shadow.NothingKnown wanted s long can none on meets = erase_returns wanted Shadow.NothingKnown long none (all_wanted_on wanted on)
paint_returns_input (Shadow.Unformatted known) wanted s long can none on meets = erase_returns wanted (Shadow.Unformatted known) long none (all_wanted_on wanted on)
paint_returns_input (Shadow.Formatted bs) wanted s long can none on meets = cases (cells_of_fields bs == cells_in wanted.size) refl
  where
    cases : (t : Bool) → (cells_of_fields bs == cells_in wanted.size) ≡ t → ReturnsInput (taken (cells_in wanted.size) (painted_if t (cells_in wanted.size) bs wanted) (Shadow.Formatted bs))
    cases false e = erase_returns wanted (Shadow.Formatted bs) long none (all_wanted_on wanted on)
    cases true e =
        let size : ℕ = cells_in wanted.size in
        let there : length s.cells ≡ size = sym (fields_size s.cells bs meets.1 meets.0) ∙ eqb-true (cells_of_fields bs) size e in
        let wants : List Want = wanted.cells in
        let laid : List Known = laid_out size bs in
        let olds : List Known = marks_off_if wanted.reset laid in
        let more : List Store = to_store wants 0 wants olds in
        let orders : List Order = painting size wanted.cursor None more in
        let news : List Known = known_painted wants wants olds in
        let shape : Pairwise Shaped olds s.cells = all_shaped wanted.reset laid s.cells (laid_out_fits size s.cells bs there meets.1 meets.0) in
        let same : length wants ≡ length olds = long ∙ sym there ∙ pairwise-length Shaped olds s.cells shape in
        let is : known_after size (Some (paint_wcc wanted.reset)) orders laid ≡ news =
        ap (λ (stored : List Store). known_stored stored olds) (paints_stores size wanted.cursor more 0 None no_address) ∙ stores_painted wants 0 wants olds [] refl same in
        write_has IsReturned size (Some (paint_wcc wanted.reset)) orders bs laid
        (subst (λ (cells : List Known). All IsReturned (beliefs_from bs cells 0 cells)) (sym is)
        (from_returned bs news 0 news (all_painted_on wants wants olds none none (all_wanted_on wanted on))))

-- ---- a note

chars_on : (known : List (Option ℕ)) → All MarkedOn (map old_char known)
chars_on [] = All-nil MarkedOn
chars_on (k ∷ known) = All-cons MarkedOn (old_char k) (map old_char known) tt (chars_on known)

fields_on : (bs : List Belief) → All IsReturned bs → All MarkedOn (flat_map field_cells bs)
fields_on [] h = All-nil MarkedOn
fields_on (b ∷ bs) h =
    All-append MarkedOn (field_cells b) (flat_map field_cells bs)
    (All-cons MarkedOn (KnownAttr b.attr b.mdt) (map old_char (known_chars b.length b.fact)) (All-head IsReturned b bs h) (chars_on (known_chars b.length b.fact)))
    (fields_on bs (All-tail IsReturned b bs h))

laid_on : (size : ℕ) (bs : List Belief) → All IsReturned bs → All MarkedOn (laid_out size bs)
laid_on size bs h =
    let cells : List Known = flat_map field_cells bs in
    let turn : ℕ = size - first_place bs in
    All-append MarkedOn (drop turn cells) (take turn cells) (All-drop MarkedOn turn cells (fields_on bs h)) (All-take MarkedOn turn cells (fields_on bs h))

new_on : (cell : Cell) → is_char cell ≡ true → MarkedOn (new_cell cell)
new_on (Char c) e = tt
new_on (Attr a) e = absurd (cc)

stored_on : (cells : List Cell) (more : List Store) (known : List Known) → All (IsOverProtected cells) more → All MarkedOn known → All MarkedOn (known_stored more known)
stored_on cells [] known over h = h
stored_on cells (store ∷ more) known over h =
    stored_on cells more (set known store.at (new_cell store.cell)) (All-tail (IsOverProtected cells) store more over)
    (All-set MarkedOn known store.at (new_cell store.cell) (new_on store.cell (All-head (IsOverProtected cells) store more over).0.0) h)

pub note_returns_input : NoteReturnsInput
note_returns_input command shadow s note meets h = cases command.code note.writes
  where
    size : ℕ
    size = length s.cells

    after : (bs : List Belief) (laid : List Known) → All MarkedOn laid → ReturnsInput (after_write size command.wcc command.orders bs laid)
    after bs laid on =
        let cells : List Known = known_after size command.wcc command.orders laid in
        let off : All MarkedOn (marks_off_if (resets command.wcc) laid) = subst (λ (t : Bool). All MarkedOn (marks_off_if t laid)) (sym note.keeps_mdt) on in
        write_has IsReturned size command.wcc command.orders bs laid (from_returned bs cells 0 cells (stored_on s.cells (stores size 0 command.orders) (marks_off_if (resets command.wcc) laid) note.over off))

    written : (shadow : Shadow) → ReturnsInput shadow → ReturnsInput (taken_write size command.wcc command.orders shadow)
    written Shadow.NothingKnown h = All-nil IsReturned
    written (Shadow.Unformatted known) h = after [] (map old_char known) (chars_on known)
    written (Shadow.Formatted bs) h = after bs (laid_out size bs) (laid_on size bs h)

    cases : (code : CommandCode) → code ≡ Write → ReturnsInput (taken size (record command { code = code }) shadow)
    cases Write is = written shadow h
    cases EraseWrite is = absurd (cc)
    cases EraseWriteAlternate is = absurd (cc)
    cases ReadBuffer is = absurd (cc)
    cases ReadModified is = absurd (cc)
    cases ReadModifiedAll is = absurd (cc)
    cases EraseAllUnprotected is = absurd (cc)

abbrev IsSettledIfFree : Belief → Type 0
IsSettledIfFree = IfFree (λ (fact : Fact). is_settled_fact fact ≡ true)

field_settled : (b : Belief) → IsSettledIfFree b × IsExactIfProtected b → IsSettledField b
field_settled b h = cases b.attr.protected refl
  where
    cases : (p : Bool) → b.attr.protected ≡ p → IsSettledField b
    cases true p = ap is_settled_fact (h.1 p).1
    cases false p = h.0 p

pub note_stays_settled : NoteStaysSettled
note_stays_settled command shadow s note meets known exact h =
    let free = free_stays (λ (fact : Fact). is_settled_fact fact ≡ true) command shadow s note meets (λ k d below _. h k d below) in
    let protected = (stays_exact command shadow s note meets known exact).1 in
    All-weaker (λ (b : Belief). IsSettledIfFree b × IsExactIfProtected b) IsSettledField field_settled (fields_of (taken (length s.cells) command shadow)) (λ k d below. (free k d below, protected k d below))

-- What is believed can be stored, whatever is written.
use Rattle.std.proofs.Common.{ℕ, ◌+◌, ◌-◌, Bool, true, false, ◌&&◌, List, [], ◌∷◌, ◌++◌, length, map, flat_map, take, drop, set, Option, Some, None, unwrap_or, refl, if◌then◌else◌, nat_eq, All}
use Rattle.std.specs.Prelude.{⊤, IfSome}
use Rattle.std.specs.List.{prefix_len}
use Rattle.std.proofs.lemmas.List.Elements.{All-head, All-tail, All-nil, All-cons, All-append, All-take, All-drop, All-set, All-map, All-replicate, All-weaker}
use Rattle.codes3270.specs.Size.{cells_in}
use Rattle.codes3270.specs.declared.attribute.Cell.{Cell}
use Rattle.codes3270.specs.declared.attribute.Cell.TheVariants.{Char, Attr}
use Rattle.codes3270.specs.declared.write_control.Wcc.{Wcc}
use Rattle.datastream.specs.Grammar.{IsProper}
use Rattle.datastream.specs.InboundFields.{IsStorableCell}
use Rattle.datastream.specs.Meaning.{WriteProgress, by_place, across, filled, opened, erased, unmodified, executed, all_executed, cleared, prepared, written}
use Rattle.datastream.specs.Screen.{Screen, blank_screen, is_char, is_protected}
use Rattle.datastream.specs.Span.{distance, is_within}
use Rattle.datastream.specs.declared.command_code.CommandCode.{CommandCode}
use Rattle.datastream.specs.declared.command_code.CommandCode.TheVariants.{Write, EraseWrite, EraseWriteAlternate, ReadBuffer, ReadModified, ReadModifiedAll, EraseAllUnprotected}
use Rattle.datastream.specs.declared.order.Order.{Order}
use Rattle.datastream.specs.declared.order.Order.TheVariants.{Sf, Sba, Ic, Pt, Ra, Eua, Char as CharData}
use Rattle.datastream.proofs.Commands.{command_proper}
use Rattle.shadow.specs.declared.known.Known.{Known}
use Rattle.shadow.specs.declared.known.Known.TheVariants.{Attr as KnownAttr, Char as KnownChar}
use Rattle.shadow.specs.Belief.{Fact, Belief, Shadow}
use Rattle.shadow.specs.AfterReadBuffer.{known_chars, seen}
use Rattle.shadow.specs.Storable.{IsStorable, IsStorableIfKnown, FactCanBeStored, FieldCanBeStored, CanBeStored, TakenCanBeStored}
use Rattle.shadow.specs.Stores.{Store, stores, address_after, stores_unplaced}
use Rattle.shadow.specs.Taken.{old_char, field_cells, first_place, laid_out, new_cell, known_stored, mark_off, marks_off_if, known_ahead, fresh_ahead, and_char, whole_text, exact_or_any, fact_known, fact_before, fact_after, belief_after, beliefs_from, formatted_as, believed, resets, known_after, after_write, taken_write, taken}
use Rattle.shadow.proofs.StorableHeard.{seen_storable}

-- ---- what is known of each cell

abbrev IsStorableKnown : Known → Type 0
IsStorableKnown (KnownChar known fresh) = IsStorableIfKnown known
IsStorableKnown (KnownAttr attribute mark) = ⊤

chars_storable : (n : ℕ) (fact : Fact) → FactCanBeStored fact → All IsStorableIfKnown (known_chars n fact)
chars_storable n (Fact.Exact value) h = All-map IsStorableIfKnown Some value h
chars_storable n (Fact.ExactOrNulls value) h = All-replicate IsStorableIfKnown n None tt
chars_storable n (Fact.Text value) h = All-replicate IsStorableIfKnown n None tt
chars_storable n (Fact.TextOrNulls value) h = All-replicate IsStorableIfKnown n None tt
chars_storable n (Fact.Any known) h = h

old_storable : (known : List (Option ℕ)) → All IsStorableIfKnown known → All IsStorableKnown (map old_char known)
old_storable known h = All-map IsStorableKnown old_char known h

each_field_storable : (bs : List Belief) → All FieldCanBeStored bs → All IsStorableKnown (flat_map field_cells bs)
each_field_storable [] h = All-nil IsStorableKnown
each_field_storable (b ∷ bs) h =
    let chars : List (Option ℕ) = known_chars b.length b.fact in
    All-append IsStorableKnown (field_cells b) (flat_map field_cells bs)
    (All-cons IsStorableKnown (KnownAttr b.attr b.mdt) (map old_char chars) tt (old_storable chars (chars_storable b.length b.fact (All-head FieldCanBeStored b bs h))))
    (each_field_storable bs (All-tail FieldCanBeStored b bs h))

laid_out_storable : (size : ℕ) (bs : List Belief) → All FieldCanBeStored bs → All IsStorableKnown (laid_out size bs)
laid_out_storable size bs h =
    let cells : List Known = flat_map field_cells bs in
    let each : All IsStorableKnown cells = each_field_storable bs h in
    All-append IsStorableKnown (drop (size - first_place bs) cells) (take (size - first_place bs) cells) (All-drop IsStorableKnown (size - first_place bs) cells each) (All-take IsStorableKnown (size - first_place bs) cells each)

-- ---- what a write makes of it

abbrev IsStorableStore : Store → Type 0
IsStorableStore store = IsStorableCell store.cell

-- `n` is the number of cells of the screen for which the orders were read
module _ (n : ℕ) where
  stores_storable : (size at : ℕ) (orders : List Order) → All (IsProper n) orders → All IsStorableStore (stores size at orders)
  stores_storable size at [] h = All-nil IsStorableStore
  stores_storable size at (CharData c ∷ orders) h =
      All-cons IsStorableStore (record { at = at; cell = Char c }) (stores size (address_after size at (CharData c)) orders) (All-head (IsProper n) (CharData c) orders h)
      (stores_storable size (address_after size at (CharData c)) orders (All-tail (IsProper n) (CharData c) orders h))
  stores_storable size at (Sf a ∷ orders) h =
      All-cons IsStorableStore (record { at = at; cell = Attr a }) (stores size (address_after size at (Sf a)) orders) tt
      (stores_storable size (address_after size at (Sf a)) orders (All-tail (IsProper n) (Sf a) orders h))
  stores_storable size at (Sba to ∷ orders) h = stores_storable size to orders (All-tail (IsProper n) (Sba to) orders h)
  stores_storable size at (Ic ∷ orders) h = stores_storable size at orders (All-tail (IsProper n) Ic orders h)
  stores_storable size at (Pt ∷ orders) h = stores_storable size at orders (All-tail (IsProper n) Pt orders h)
  stores_storable size at (Ra stop c ∷ orders) h = stores_storable size at orders (All-tail (IsProper n) (Ra stop c) orders h)
  stores_storable size at (Eua stop ∷ orders) h = stores_storable size at orders (All-tail (IsProper n) (Eua stop) orders h)

  new_storable : (cell : Cell) → IsStorableCell cell → IsStorableKnown (new_cell cell)
  new_storable (Char c) h = h
  new_storable (Attr a) h = tt

  known_stored_storable : (stores : List Store) (cells : List Known) → All IsStorableStore stores → All IsStorableKnown cells → All IsStorableKnown (known_stored stores cells)
  known_stored_storable [] cells each h = h
  known_stored_storable (store ∷ stores) cells each h =
      known_stored_storable stores (set cells store.at (new_cell store.cell)) (All-tail IsStorableStore store stores each)
      (All-set IsStorableKnown cells store.at (new_cell store.cell) (new_storable store.cell (All-head IsStorableStore store stores each)) h)

  off_storable : (cell : Known) → IsStorableKnown cell → IsStorableKnown (mark_off cell)
  off_storable (KnownChar known fresh) h = h
  off_storable (KnownAttr attribute mark) h = tt

  marks_off_storable : (off : Bool) (cells : List Known) → All IsStorableKnown cells → All IsStorableKnown (marks_off_if off cells)
  marks_off_storable true cells h = All-map IsStorableKnown mark_off cells (All-weaker IsStorableKnown (λ cell. IsStorableKnown (mark_off cell)) off_storable cells h)
  marks_off_storable false cells h = h

  known_after_storable : (size : ℕ) (wcc : Option Wcc) (orders : List Order) (cells : List Known) → All (IsProper n) orders → All IsStorableKnown cells → All IsStorableKnown (known_after size wcc orders cells)
  known_after_storable size wcc orders cells proper h =
      known_stored_storable (stores size 0 orders) (marks_off_if (resets wcc) cells) (stores_storable size 0 orders proper) (marks_off_storable (resets wcc) cells h)

  -- ---- the fields of what is known

  ahead_storable : (cells : List Known) → All IsStorableKnown cells → All IsStorableIfKnown (known_ahead cells)
  ahead_storable [] h = All-nil IsStorableIfKnown
  ahead_storable (KnownChar known fresh ∷ cells) h =
      All-cons IsStorableIfKnown known (known_ahead cells) (All-head IsStorableKnown (KnownChar known fresh) cells h) (ahead_storable cells (All-tail IsStorableKnown (KnownChar known fresh) cells h))
  ahead_storable (KnownAttr attribute mark ∷ cells) h = All-nil IsStorableIfKnown

  and_char_storable : (known : Option ℕ) (rest : Option (List ℕ)) → IsStorableIfKnown known → IfSome rest (All IsStorable) → IfSome (and_char known rest) (All IsStorable)
  and_char_storable None rest h more = tt
  and_char_storable (Some c) None h more = tt
  and_char_storable (Some c) (Some text) h more = All-cons IsStorable c text h more

  whole_storable : (known : List (Option ℕ)) → All IsStorableIfKnown known → IfSome (whole_text known) (All IsStorable)
  whole_storable [] h = All-nil IsStorable
  whole_storable (k ∷ known) h = and_char_storable k (whole_text known) (All-head IsStorableIfKnown k known h) (whole_storable known (All-tail IsStorableIfKnown k known h))

  exact_or_any_storable : (text : Option (List ℕ)) (known : List (Option ℕ)) → IfSome text (All IsStorable) → All IsStorableIfKnown known → FactCanBeStored (exact_or_any text known)
  exact_or_any_storable (Some text) known whole h = whole
  exact_or_any_storable None known whole h = h

  known_storable : (known : List (Option ℕ)) → All IsStorableIfKnown known → FactCanBeStored (fact_known known)
  known_storable known h = exact_or_any_storable (whole_text known) known (whole_storable known h) h

  before_storable : (bs : List Belief) (place len : ℕ) → All FieldCanBeStored bs → IfSome (fact_before bs place len) FactCanBeStored
  before_storable [] place len h = tt
  before_storable (b ∷ bs) place len h = cases (nat_eq b.place place && nat_eq b.length len) (before_storable bs place len (All-tail FieldCanBeStored b bs h))
    where
      cases : (t : Bool) → IfSome (fact_before bs place len) FactCanBeStored → IfSome (if t then Some b.fact else fact_before bs place len) FactCanBeStored
      cases true later = All-head FieldCanBeStored b bs h
      cases false later = later

  after_storable : (bs : List Belief) (place : ℕ) (ahead : List Known) → All FieldCanBeStored bs → All IsStorableKnown ahead → FactCanBeStored (fact_after bs place ahead)
  after_storable bs place ahead h cells = cases (fresh_ahead ahead)
    where
      known : FactCanBeStored (fact_known (known_ahead ahead))
      known = known_storable (known_ahead ahead) (ahead_storable ahead cells)

      kept : (o : Option Fact) → IfSome o FactCanBeStored → FactCanBeStored (unwrap_or o (fact_known (known_ahead ahead)))
      kept None found = known
      kept (Some fact) found = found

      cases : (t : Bool) → FactCanBeStored (if t then fact_known (known_ahead ahead) else unwrap_or (fact_before bs place (length (known_ahead ahead))) (fact_known (known_ahead ahead)))
      cases true = known
      cases false = kept (fact_before bs place (length (known_ahead ahead))) (before_storable bs place (length (known_ahead ahead)) h)

  from_storable : (bs : List Belief) (whole : List Known) (n : ℕ) (rest : List Known) → All FieldCanBeStored bs → All IsStorableKnown whole → All IsStorableKnown rest → All FieldCanBeStored (beliefs_from bs whole n rest)
  from_storable bs whole n [] h all cells = All-nil FieldCanBeStored
  from_storable bs whole n (KnownChar k f ∷ rest) h all cells = from_storable bs whole (n + 1) rest h all (All-tail IsStorableKnown (KnownChar k f) rest cells)
  from_storable bs whole n (KnownAttr a m ∷ rest) h all cells =
      let more : All IsStorableKnown rest = All-tail IsStorableKnown (KnownAttr a m) rest cells in
      All-cons FieldCanBeStored (belief_after bs n a m (rest ++ whole)) (beliefs_from bs whole (n + 1) rest) (after_storable bs n (rest ++ whole) h (All-append IsStorableKnown rest whole more all))
      (from_storable bs whole (n + 1) rest h all more)

  formatted_storable : (bs : List Belief) (known : List (Option ℕ)) → All FieldCanBeStored bs → All IsStorableIfKnown known → CanBeStored (formatted_as bs known)
  formatted_storable [] known h chars = chars
  formatted_storable (b ∷ bs) known h chars = h

  write_storable : (size : ℕ) (wcc : Option Wcc) (orders : List Order) (bs : List Belief) (cells : List Known) → All (IsProper n) orders → All FieldCanBeStored bs → All IsStorableKnown cells
      → CanBeStored (after_write size wcc orders bs cells)
  write_storable size wcc orders bs cells proper h each = cases (stores_unplaced orders)
    where
      now : List Known
      now = known_after size wcc orders cells

      each_now : All IsStorableKnown now
      each_now = known_after_storable size wcc orders cells proper each

      cases : (t : Bool) → CanBeStored (if t then Shadow.NothingKnown else believed bs now)
      cases true = tt
      cases false = formatted_storable (beliefs_from bs now 0 now) (known_ahead now) (from_storable bs now 0 now h each_now each_now) (ahead_storable now each_now)

  written_storable : (size : ℕ) (wcc : Option Wcc) (orders : List Order) (shadow : Shadow) → All (IsProper n) orders → CanBeStored shadow → CanBeStored (taken_write size wcc orders shadow)
  written_storable size wcc orders Shadow.NothingKnown proper h = tt
  written_storable size wcc orders (Shadow.Unformatted known) proper h = write_storable size wcc orders [] (map old_char known) proper (All-nil FieldCanBeStored) (old_storable known h)
  written_storable size wcc orders (Shadow.Formatted bs) proper h = write_storable size wcc orders bs (laid_out size bs) proper h (laid_out_storable size bs h)

  -- ---- the screen after an erase

  by_place_storable : (rule : ℕ → Cell → Cell) → ((at : ℕ) (old : Cell) → IsStorableCell old → IsStorableCell (rule at old)) → (at : ℕ) (cells : List Cell) → All IsStorableCell cells
      → All IsStorableCell (by_place rule at cells)
  by_place_storable rule keeps at [] h = All-nil IsStorableCell
  by_place_storable rule keeps at (cell ∷ cells) h =
      All-cons IsStorableCell (rule at cell) (by_place rule (at + 1) cells) (keeps at cell (All-head IsStorableCell cell cells h)) (by_place_storable rule keeps (at + 1) cells (All-tail IsStorableCell cell cells h))

  one_of : (t : Bool) (x y : Cell) → IsStorableCell x → IsStorableCell y → IsStorableCell (if t then x else y)
  one_of true x y p q = p
  one_of false x y p q = q

  across_storable : (from count : ℕ) (rule : ℕ → Cell → Cell) (cells : List Cell) → ((at : ℕ) (old : Cell) → IsStorableCell old → IsStorableCell (rule at old)) → All IsStorableCell cells
      → All IsStorableCell (across from count rule cells)
  across_storable from count rule cells keeps h =
      by_place_storable (λ at old. if is_within (length cells) from count at then rule at old else old) (λ at old p. one_of (is_within (length cells) from count at) (rule at old) old (keeps at old p) p) 0 cells h

  erased_storable : (cell : Cell) → IsStorableCell cell → IsStorableCell (erased cell)
  erased_storable (Char c) h = refl
  erased_storable (Attr a) h = tt

  filled_storable : (from count c : ℕ) (cells : List Cell) → IsStorable c → All IsStorableCell cells → All IsStorableCell (filled from count (Char c) cells)
  filled_storable from count c cells is h = across_storable from count (λ at old. Char c) cells (λ at old p. is) h

  opened_storable : (from count : ℕ) (cells : List Cell) → All IsStorableCell cells → All IsStorableCell (opened from count cells)
  opened_storable from count cells h =
      across_storable from count (λ at old. if is_protected cells at then old else erased old) cells (λ at old p. one_of (is_protected cells at) old (erased old) p (erased_storable old p)) h

  tabbed_storable : (nulls : Bool) (from count : ℕ) (cells : List Cell) → All IsStorableCell cells → All IsStorableCell (if nulls then filled from count (Char 0) cells else cells)
  tabbed_storable true from count cells h = filled_storable from count 0 cells refl h
  tabbed_storable false from count cells h = h

  order_storable : (order : Order) (write : WriteProgress) → IsProper n order → All IsStorableCell write.screen.cells → All IsStorableCell (executed order write).screen.cells
  order_storable (CharData c) write p h = All-set IsStorableCell write.screen.cells write.address (Char c) p h
  order_storable (Sf a) write p h = All-set IsStorableCell write.screen.cells write.address (Attr a) tt h
  order_storable (Sba to) write p h = h
  order_storable Ic write p h = h
  order_storable Pt write p h = tabbed_storable write.after_data write.address (prefix_len is_char (drop write.address write.screen.cells)) write.screen.cells h
  order_storable (Ra stop c) write p h = filled_storable write.address (distance (length write.screen.cells) write.address stop) c write.screen.cells p.1 h
  order_storable (Eua stop) write p h = opened_storable write.address (distance (length write.screen.cells) write.address stop) write.screen.cells h

  orders_storable : (orders : List Order) (write : WriteProgress) → All (IsProper n) orders → All IsStorableCell write.screen.cells → All IsStorableCell (all_executed orders write).screen.cells
  orders_storable [] write proper h = h
  orders_storable (order ∷ orders) write proper h =
      orders_storable orders (executed order write) (All-tail (IsProper n) order orders proper) (order_storable order write (All-head (IsProper n) order orders proper) h)

  unmodified_storable : (cell : Cell) → IsStorableCell cell → IsStorableCell (unmodified cell)
  unmodified_storable (Char c) h = h
  unmodified_storable (Attr a) h = tt

  prepared_storable : (reset : Bool) (cells : List Cell) → All IsStorableCell cells → All IsStorableCell (if reset then map unmodified cells else cells)
  prepared_storable true cells h = All-map IsStorableCell unmodified cells (All-weaker IsStorableCell (λ cell. IsStorableCell (unmodified cell)) unmodified_storable cells h)
  prepared_storable false cells h = h

  screen_storable : (wcc : Option Wcc) (orders : List Order) (screen : Screen) → All (IsProper n) orders → All IsStorableCell screen.cells → All IsStorableCell (written wcc orders screen).cells
  screen_storable None orders screen proper h = h
  screen_storable (Some wcc) orders screen proper h =
      orders_storable orders (record { screen = prepared wcc screen; address = screen.cursor; after_data = false }) proper (prepared_storable wcc.reset screen.cells h)

  erase_storable : (count size : ℕ) (wcc : Option Wcc) (orders : List Order) → All (IsProper n) orders → CanBeStored (seen (written wcc orders (cleared count (blank_screen size))).cells)
  erase_storable count size wcc orders proper =
      let screen : Screen = cleared count (blank_screen size) in
      seen_storable (written wcc orders screen).cells (screen_storable wcc orders screen proper (All-replicate IsStorableCell count (Char 0) refl))

-- ---- any command

pub taken_stored : TakenCanBeStored
taken_stored size command shadow h encoded = cases command.code
  where
    n : ℕ
    n = cells_in command.size

    proper : All (IsProper (cells_in command.size)) command.orders
    proper = command_proper command encoded

    cases : (code : CommandCode) → CanBeStored (taken size (record command { code = code }) shadow)
    cases Write = written_storable n size command.wcc command.orders shadow proper h
    cases EraseWrite = erase_storable n n n command.wcc command.orders proper
    cases EraseWriteAlternate = erase_storable n n n command.wcc command.orders proper
    cases ReadBuffer = h
    cases ReadModified = h
    cases ReadModifiedAll = h
    cases EraseAllUnprotected = h

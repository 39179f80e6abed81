-- Characters in cells that follow one another.
use Rattle.std.proofs.Common.{◌≡◌, ℕ, ◌+◌, ◌%◌, ◌<◌, ◌≤◌, suc, true, List, [], ◌∷◌, ◌++◌, length, length-append, append_assoc, map, take, drop, set, refl, ap, sym, ◌∙◌, arith}
use Rattle.std.specs.List.{All}
use Rattle.std.proofs.lemmas.List.Elements.{All-append, All-take, All-drop, All-map, All-nil, All-cons, All-head, All-tail}
use Rattle.std.proofs.Math.Nat.{mod-eq_of_lt}
use Rattle.std.proofs.Math.Seq.{drop-append-add}
use Rattle.std.proofs.lemmas.List.{drop-drop, length-map, length-drop, length-take-le, map-append, set_split, take_at}
use Rattle.codes3270.specs.declared.attribute.Cell.{Cell}
use Rattle.codes3270.specs.declared.attribute.Cell.TheVariants.{Char}
use Rattle.codes3270.specs.Storable.{is_storable}
use Rattle.datastream.specs.declared.order.Order.{Order}
use Rattle.datastream.specs.declared.order.Order.TheVariants.{Sf, Sba, Ic, Pt, Ra, Eua, Char as CharData}
use Rattle.datastream.specs.Grammar.{IsProper}
use Rattle.datastream.specs.Reading.{characters_ahead}
use Rattle.datastream.specs.Screen.{Screen}
use Rattle.datastream.specs.Meaning.{WriteProgress, all_executed, executed}
use Rattle.datastream.specs.InboundFields.{IsStorableCell, IsSendable}
use Rattle.presentation.specs.Runs.{placed}
use Rattle.presentation.proofs.Storable.{with_cells}

-- ---- a text from a place on

pub length-placed : (from : ℕ) (text : List ℕ) (cells : List Cell) → from + length text ≤ length cells → length (placed from text cells) ≡ length cells
length-placed from text cells room =
    let front : length (take from cells) ≡ from = length-take-le from cells (omega (arith, room)) in
    omega (
      arith,
      room,
      front,
      length-append (take from cells) (map Char text ++ drop (from + length text) cells),
      length-append (map Char text) (drop (from + length text) cells),
      length-map text Char,
      length-drop (from + length text) cells,
    )

pub placed_one : (from code : ℕ) (cells : List Cell) → from < length cells → set cells from (Char code) ≡ placed from (code ∷ []) cells
placed_one from code cells inside =
    let more : suc from ≡ from + 1 = omega arith in
    set_split cells from (Char code) inside ∙ ap (λ (n : ℕ). take from cells ++ (Char code ∷ drop n cells)) more

-- a text, and then another behind it
pub placed_more : (from to : ℕ) (front behind : List ℕ) (cells : List Cell) → from + length front ≡ to → to + length behind ≤ length cells
    → placed to behind (placed from front cells) ≡ placed from (front ++ behind) cells
placed_more from to front behind cells there room =
    let before : List Cell = take from cells in
    let middle : List Cell = map Char front in
    let after : List Cell = drop (from + length front) cells in
    let first : List Cell = before ++ middle in
    let regrouped : placed from front cells ≡ first ++ after = sym (append_assoc before middle after) in
    let long : length first ≡ to = omega (arith, there, room, length-append before middle, length-map front Char, length-take-le from cells (omega (arith, there, room))) in
    let taken : take to (placed from front cells) ≡ first = ap (take to) regrouped ∙ take_at first after to long in
    let k : ℕ = length behind in
    let left : drop (to + k) (placed from front cells) ≡ drop k after =
    ap (drop (to + k)) regrouped ∙ ap (λ (n : ℕ). drop (n + k) (first ++ after)) (sym long) ∙ drop-append-add first after k in
    let ends : drop k after ≡ drop (from + length (front ++ behind)) cells =
    let both : from + length front + k ≡ from + length (front ++ behind) = omega (arith, length-append front behind) in
    drop-drop k (from + length front) cells ∙ ap (λ (n : ℕ). drop n cells) both in
    ap (λ (cs : List Cell). cs ++ (map Char behind ++ drop (to + k) (placed from front cells))) taken
    ∙ ap (λ (cs : List Cell). first ++ (map Char behind ++ cs)) (left ∙ ends)
    ∙ append_assoc before middle (map Char behind ++ drop (from + length (front ++ behind)) cells)
    ∙ ap (λ (cs : List Cell). before ++ cs) (sym (append_assoc middle (map Char behind) (drop (from + length (front ++ behind)) cells)))
    ∙ ap (λ (cs : List Cell). before ++ (cs ++ drop (from + length (front ++ behind)) cells)) (sym (map-append Char front behind))

-- ---- the characters of a write, for which there are cells up to the last

abbrev pub after_run : Screen → List Cell → ℕ → WriteProgress
after_run screen cells address = record { screen = record screen { cells = cells }; address = address; after_data = true }

pub run_executed : (text : List ℕ) (write : WriteProgress) → 0 < length text → write.address + length text ≤ length write.screen.cells
    → all_executed (map CharData text) write
    ≡ after_run write.screen (placed write.address text write.screen.cells) ((write.address + length text) % length write.screen.cells)
run_executed [] write some room = absurd (omega (arith, some))
run_executed (code ∷ []) write some room =
    ap (λ (cs : List Cell). after_run write.screen cs ((write.address + 1) % length write.screen.cells))
    (placed_one write.address code write.screen.cells (omega (arith, room)))
run_executed (code ∷ next ∷ more) write some room =
    let cells : List Cell = write.screen.cells in
    let at : ℕ = write.address in
    let n : ℕ = length cells in
    let behind : List ℕ = next ∷ more in
    let one : List Cell = placed at (code ∷ []) cells in
    let inside : at + 1 < n = omega (arith, room) in
    let same : length one ≡ n = length-placed at (code ∷ []) cells (omega (arith, inside)) in
    let step : executed (CharData code) write ≡ after_run write.screen one (at + 1) =
    ap (λ (cs : List Cell). after_run write.screen cs ((at + 1) % n)) (placed_one at code cells (omega (arith, inside)))
    ∙ ap (λ (k : ℕ). after_run write.screen one k) (mod-eq_of_lt inside) in
    let there : at + 1 + length behind ≡ at + length (code ∷ behind) = omega arith in
    ap (all_executed (map CharData behind)) step
    ∙ run_executed (next ∷ more) (after_run write.screen one (at + 1)) (omega arith) (omega (arith, same, room))
    ∙ ap (λ (cs : List Cell). after_run write.screen cs ((at + 1 + length behind) % length one)) (placed_more at (at + 1) (code ∷ []) behind cells refl (omega (arith, room)))
    ∙ ap (λ (m : ℕ). after_run write.screen (placed at (code ∷ behind) cells) ((at + 1 + length behind) % m)) same
    ∙ ap (λ (k : ℕ). after_run write.screen (placed at (code ∷ behind) cells) (k % n)) there

pub storable_placed : (from : ℕ) (text : List ℕ) (cells : List Cell) → All (λ byte. is_storable byte ≡ true) text → All IsStorableCell cells → All IsStorableCell (placed from text cells)
storable_placed from text cells chars each =
    All-append IsStorableCell (take from cells) (map Char text ++ drop (from + length text) cells) (All-take IsStorableCell from cells each)
    (All-append IsStorableCell (map Char text) (drop (from + length text) cells) (All-map IsStorableCell Char text chars)
    (All-drop IsStorableCell (from + length text) cells each))

pub with_placed : (screen : Screen) (from : ℕ) (text : List ℕ) → All (λ byte. is_storable byte ≡ true) text → from + length text ≤ length screen.cells → IsSendable screen
    → IsSendable (record screen { cells = placed from text screen.cells })
with_placed screen from text chars room proper =
    with_cells screen (placed from text screen.cells) (length-placed from text screen.cells room) (storable_placed from text screen.cells chars proper.storable) proper

-- ---- orders one after another

pub executed_behind : (front behind : List Order) (write : WriteProgress) → all_executed (front ++ behind) write ≡ all_executed behind (all_executed front write)
executed_behind [] behind write = refl
executed_behind (order ∷ front) behind write = executed_behind front behind (executed order write)

-- ---- the characters ahead of other orders

pub characters_proper : (size : ℕ) (orders : List Order) → All (IsProper size) orders → All (λ byte. is_storable byte ≡ true) (characters_ahead orders)
characters_proper size [] each = All-nil (λ byte. is_storable byte ≡ true)
characters_proper size (CharData code ∷ orders) each =
    All-cons (λ byte. is_storable byte ≡ true) code (characters_ahead orders) (All-head (IsProper size) (CharData code) orders each)
    (characters_proper size orders (All-tail (IsProper size) (CharData code) orders each))
characters_proper size (Sf attr ∷ orders) each = All-nil (λ byte. is_storable byte ≡ true)
characters_proper size (Sba address ∷ orders) each = All-nil (λ byte. is_storable byte ≡ true)
characters_proper size (Ic ∷ orders) each = All-nil (λ byte. is_storable byte ≡ true)
characters_proper size (Pt ∷ orders) each = All-nil (λ byte. is_storable byte ≡ true)
characters_proper size (Ra stop char ∷ orders) each = All-nil (λ byte. is_storable byte ≡ true)
characters_proper size (Eua stop ∷ orders) each = All-nil (λ byte. is_storable byte ≡ true)

characters_split : (orders : List Order) → map CharData (characters_ahead orders) ++ drop (length (characters_ahead orders)) orders ≡ orders
characters_split [] = refl
characters_split (CharData code ∷ orders) =
    let more : length (code ∷ characters_ahead orders) ≡ suc (length (characters_ahead orders)) = omega arith in
    ap (λ (n : ℕ). map CharData (code ∷ characters_ahead orders) ++ drop n (CharData code ∷ orders)) more
    ∙ ap (λ (os : List Order). CharData code ∷ os) (characters_split orders)
characters_split (Sf attr ∷ orders) = refl
characters_split (Sba address ∷ orders) = refl
characters_split (Ic ∷ orders) = refl
characters_split (Pt ∷ orders) = refl
characters_split (Ra stop char ∷ orders) = refl
characters_split (Eua stop ∷ orders) = refl

pub run_first : (text : List ℕ) (orders left : List Order) (start now : WriteProgress) → text ≡ characters_ahead orders → left ≡ drop (length text) orders
    → now ≡ all_executed (map CharData text) start → all_executed left now ≡ all_executed orders start
run_first text orders left start now ahead behind is =
    let whole : map CharData text ++ left ≡ orders =
    ap (λ (os : List Order). map CharData text ++ os) behind
    ∙ ap (λ (cs : List ℕ). map CharData cs ++ drop (length cs) orders) ahead
    ∙ characters_split orders in
    ap (all_executed left) is ∙ sym (executed_behind (map CharData text) left start) ∙ ap (λ (os : List Order). all_executed os start) whole

pub run_then : (text front behind : List ℕ) (start now : WriteProgress) → front ++ behind ≡ text → now ≡ all_executed (map CharData front) start
    → all_executed (map CharData behind) now ≡ all_executed (map CharData text) start
run_then text front behind start now whole is =
    ap (all_executed (map CharData behind)) is
    ∙ sym (executed_behind (map CharData front) (map CharData behind) start)
    ∙ ap (λ (os : List Order). all_executed os start) (sym (map-append CharData front behind) ∙ ap (map CharData) whole)

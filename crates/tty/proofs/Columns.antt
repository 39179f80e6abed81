-- Cells that are added one after another.
use Rattle.std.proofs.Common.{◌≡◌, ℕ, zero, suc, ◌+◌, ◌*◌, ◌-◌, ◌<◌, ◌≤◌, Bool, List, [], ◌∷◌, ◌++◌, length, map, take, get_or, Option, Result, Ok, Err, OnOk, arith, sym, ◌∙◌, ap, append_assoc, append-nil, length-append}
use Rattle.std.specs.List.{flat_map, range_with_len}
use Rattle.std.proofs.lemmas.List.{length-take-le}
use Rattle.std.proofs.lemmas.List.FromFn.{map-range_with_len_more, length-map-range_with_len}
use Rattle.codes3270.specs.declared.attribute.Cell.{Cell}
use Rattle.keyboard.specs.State.{Keyboard}
use Rattle.tty.specs.declared.status.Trouble.{Trouble}
use Rattle.tty.specs.declared.place.Place.{Place}
use Rattle.presentation.specs.Sizes.{SizedScreen}
use Rattle.tty.specs.declared.picture.PictureCell.{PictureCell}
use Rattle.tty.specs.Pictures.{PictureParts, origin, plain}
use Rattle.tty.specs.Painting.{notice_of, notice_side, page_cells, page_of, painted_at, place_of, picture_of, screen_cells, status_rows, with_status}
use Rattle.tty.specs.StatusRow.{connection_word, reason, seconds_text, signs, in_columns, keys_hint, letter_at, position_text, status_cells}
use Rattle.tty.specs.declared.status.StatusPlace.{StatusPlace}
use Rattle.tty.specs.declared.status.StatusPlace.TheVariants as status

-- what a function gives of the first numbers, one more
pub listed_more : {A : Type 0} (f : ℕ → A) (count : ℕ) → map f (range_with_len 0 (count + 1)) ≡ map f (range_with_len 0 count) ++ f count ∷ []
listed_more f count = map-range_with_len_more f 0 count count (omega arith)

pub added_more : {A : Type 0} (f : ℕ → A) (count : ℕ) (item : A) (before now after : List A) → item ≡ f count
    → now ≡ before ++ map f (range_with_len 0 count) → after ≡ now ++ item ∷ [] → after ≡ before ++ map f (range_with_len 0 (count + 1))
added_more {A = A} f count item before now after is so_far more =
    more ∙ ap (λ (items : List A). items ++ item ∷ []) so_far ∙ append_assoc before (map f (range_with_len 0 count)) (item ∷ [])
    ∙ ap (λ (last : A). before ++ (map f (range_with_len 0 count) ++ last ∷ [])) is
    ∙ ap (λ (items : List A). before ++ items) (sym (listed_more f count))

-- five lists that are added one after another
five_added : {A : Type 0} (before a b c d e : List A) → ((((before ++ a) ++ b) ++ c) ++ d) ++ e ≡ before ++ ((((a ++ b) ++ c) ++ d) ++ e)
five_added {A = A} before a b c d e =
    ap (λ (items : List A). (((items ++ c) ++ d) ++ e)) (append_assoc before a b)
    ∙ ap (λ (items : List A). (items ++ d) ++ e) (append_assoc before (a ++ b) c)
    ∙ ap (λ (items : List A). items ++ e) (append_assoc before ((a ++ b) ++ c) d)
    ∙ append_assoc before (((a ++ b) ++ c) ++ d) e

pub six_added : {A : Type 0} (before a b c d e f : List A) → (((((before ++ a) ++ b) ++ c) ++ d) ++ e) ++ f ≡ before ++ (((((a ++ b) ++ c) ++ d) ++ e) ++ f)
six_added {A = A} before a b c d e f =
    ap (λ (items : List A). items ++ f) (five_added before a b c d e) ∙ append_assoc before ((((a ++ b) ++ c) ++ d) ++ e) f

pub seven_added : {A : Type 0} (before a b c d e f g : List A)
    → ((((((before ++ a) ++ b) ++ c) ++ d) ++ e) ++ f) ++ g ≡ before ++ ((((((a ++ b) ++ c) ++ d) ++ e) ++ f) ++ g)
seven_added {A = A} before a b c d e f g =
    ap (λ (items : List A). items ++ g) (six_added before a b c d e f) ∙ append_assoc before (((((a ++ b) ++ c) ++ d) ++ e) ++ f) g

pub ok_then : {T E P Q : Type 0} (result : Result T E) → (P → Q) → OnOk result P → OnOk result Q
ok_then (Ok done) f h = f h
ok_then (Err fault) f h = tt

pub columns_counted : (count : ℕ) (text : List ℕ) → length (in_columns count text) ≡ count
columns_counted count text = length-map-range_with_len (λ (column : ℕ). plain (letter_at text column)) 0 count

status_counted : (columns : ℕ) (keyboard : Keyboard) (connected : Bool) (trouble : Option Trouble) (lu : List ℕ) (held : Bool) (seconds : ℕ) (cursor : Place)
    → 72 ≤ columns → length (status_cells columns keyboard connected trouble lu held seconds cursor) ≡ columns
status_counted columns keyboard connected trouble lu held seconds cursor wide =
    let a = in_columns 16 (connection_word connected) in
    let b = in_columns 13 (reason keyboard.lock trouble) in
    let c = in_columns 8 (signs keyboard.inserting held) in
    let d = in_columns 15 lu in
    let e = in_columns 17 keys_hint in
    let f = in_columns (columns - 72) (position_text cursor) in
    let t = in_columns 3 (seconds_text seconds) in
    let six = length-append (((((a ++ b) ++ t) ++ c) ++ d) ++ e) f in
    let five = length-append ((((a ++ b) ++ t) ++ c) ++ d) e in
    let four = length-append (((a ++ b) ++ t) ++ c) d in
    let three = length-append ((a ++ b) ++ t) c in
    let two = length-append (a ++ b) t in
    let one = length-append a b in
    let timed = columns_counted 3 (seconds_text seconds) in
    let first = columns_counted 16 (connection_word connected) in
    let second = columns_counted 13 (reason keyboard.lock trouble) in
    let third = columns_counted 8 (signs keyboard.inserting held) in
    let fourth = columns_counted 15 lu in
    let fifth = columns_counted 17 keys_hint in
    let sixth = columns_counted (columns - 72) (position_text cursor) in
    omega (arith, wide, six, five, four, three, two, one, timed, first, second, third, fourth, fifth, sixth)

-- the rows of a screen, and a row at a place
placed_counted : (place : StatusPlace) (rows columns : ℕ) (screen row : List PictureCell) → 0 < rows → length screen ≡ rows * columns
    → length row ≡ columns → length (with_status place columns screen row) ≡ (rows + status_rows place) * columns
placed_counted status.Below rows columns screen row some many one =
    let whole = length-append screen row in
    omega (arith, whole, many, one)
placed_counted status.Over zero columns screen row some many one = absurd (omega (arith, some))
placed_counted status.Over (suc rows) columns screen row some many one =
    let less = length-take-le (length screen - columns) screen (omega arith) in
    let whole = length-append (take (length screen - columns) screen) row in
    omega (arith, whole, less, many, one)
placed_counted status.Nowhere rows columns screen row some many one = omega (arith, many)

pub picture_counted : (place : StatusPlace) (rows columns : ℕ) (cells : List Cell) (keyboard : Keyboard) (connected : Bool) (trouble : Option Trouble) (lu : List ℕ) (held : Bool) (seconds : ℕ) (cursor : Place)
    → 72 ≤ columns → 0 < rows → length cells ≡ rows * columns
    → length (with_status place columns (screen_cells cells) (status_cells columns keyboard connected trouble lu held seconds cursor)) ≡ (rows + status_rows place) * columns
picture_counted place rows columns cells keyboard connected trouble lu held seconds cursor wide some many =
    placed_counted place rows columns (screen_cells cells) (status_cells columns keyboard connected trouble lu held seconds cursor) some
    (length-map-range_with_len (painted_at cells) 0 (length cells) ∙ many)
    (status_counted columns keyboard connected trouble lu held seconds cursor wide)

-- ---- pages

pages_counted : (f : ℕ → List PictureCell) (columns : ℕ) → ((row : ℕ) → length (f row) ≡ columns) → (from count : ℕ)
    → length (flat_map f (range_with_len from count)) ≡ count * columns
pages_counted f columns each from zero = omega arith
pages_counted f columns each from (suc count) =
    let whole = length-append (f from) (flat_map f (range_with_len (from + 1) count)) in
    let one = each from in
    let rest = pages_counted f columns each (from + 1) count in
    omega (arith, whole, one, rest)

pub page_counted : (rows columns : ℕ) (lines : List (List ℕ)) → length (page_cells rows columns lines) ≡ rows * columns
page_counted rows columns lines =
    pages_counted (λ (row : ℕ). in_columns columns (get_or lines row [])) columns (λ row. columns_counted columns (get_or lines row [])) 0 rows

one_page_more : (f : ℕ → List PictureCell) (from count : ℕ)
    → flat_map f (range_with_len from (suc count)) ≡ flat_map f (range_with_len from count) ++ f (from + count)
one_page_more f from zero =
    let same : from ≡ from + 0 = omega arith in
    append-nil (f from) ∙ ap f same
one_page_more f from (suc count) =
    let same : from + 1 + count ≡ from + suc count = omega arith in
    ap (λ (rest : List PictureCell). f from ++ rest) (one_page_more f (from + 1) count)
    ∙ sym (append_assoc (f from) (flat_map f (range_with_len (from + 1) count)) (f (from + 1 + count)))
    ∙ ap (λ (row : ℕ). (f from ++ flat_map f (range_with_len (from + 1) count)) ++ f row) same

pages_more : (f : ℕ → List PictureCell) (count : ℕ)
    → flat_map f (range_with_len 0 (count + 1)) ≡ flat_map f (range_with_len 0 count) ++ f count
pages_more f count =
    let more : count + 1 ≡ suc count = omega arith in
    let last : 0 + count ≡ count = omega arith in
    ap (λ (many : ℕ). flat_map f (range_with_len 0 many)) more ∙ one_page_more f 0 count
    ∙ ap (λ (row : ℕ). flat_map f (range_with_len 0 count) ++ f row) last

-- one more line of a page
pub line_added : (columns row : ℕ) (lines : List (List ℕ)) (line : List ℕ) (before now after : List PictureCell) → line ≡ get_or lines row []
    → now ≡ before ++ page_cells row columns lines → after ≡ now ++ in_columns columns line → after ≡ before ++ page_cells (row + 1) columns lines
line_added columns row lines line before now after is so_far more =
    more ∙ ap (λ (items : List PictureCell). items ++ in_columns columns line) so_far
    ∙ append_assoc before (page_cells row columns lines) (in_columns columns line)
    ∙ ap (λ (text : List ℕ). before ++ (page_cells row columns lines ++ in_columns columns text)) is
    ∙ ap (λ (items : List PictureCell). before ++ items) (sym (pages_more (λ (at : ℕ). in_columns columns (get_or lines at [])) row))

parts : ℕ → ℕ → List PictureCell → Place → PictureParts
parts rows columns cells cursor = record { rows = rows; columns = columns; cells = cells; cursor = cursor }

-- a picture, by its parts
pub picture_made : (place : StatusPlace) (sized : SizedScreen) (keyboard : Keyboard) (connected : Bool) (trouble : Option Trouble) (lu : List ℕ) (held : Bool) (seconds : ℕ)
    (rows columns : ℕ) (cells : List PictureCell) (cursor : Place)
    → rows ≡ sized.size.rows + status_rows place → columns ≡ sized.size.columns → cursor ≡ place_of sized.size.columns sized.screen.cursor
    → cells ≡ with_status place columns (screen_cells sized.screen.cells) (status_cells columns keyboard connected trouble lu held seconds cursor)
    → record { rows = rows; columns = columns; cells = cells; cursor = cursor } ≡ picture_of place sized keyboard connected trouble lu held seconds
unfolding parts
picture_made place sized keyboard connected trouble lu held seconds rows columns cells cursor high wide there all =
    let shown : ℕ → Place → List PictureCell =
    λ width at. with_status place width (screen_cells sized.screen.cells) (status_cells width keyboard connected trouble lu held seconds at) in
    ap (λ (items : List PictureCell). parts rows columns items cursor) all
    ∙ ap (λ (count : ℕ). parts count columns (shown columns cursor) cursor) high
    ∙ ap (λ (width : ℕ). parts (sized.size.rows + status_rows place) width (shown width cursor) cursor) wide
    ∙ ap (λ (at : Place). parts (sized.size.rows + status_rows place) sized.size.columns (shown sized.size.columns at) at) there

pub page_made : (sized : SizedScreen) (lines : List (List ℕ)) (rows columns : ℕ) (cells : List PictureCell)
    → rows ≡ sized.size.rows → columns ≡ sized.size.columns → cells ≡ page_cells rows columns lines
    → record { rows = rows; columns = columns; cells = cells; cursor = origin } ≡ page_of sized lines
unfolding parts
page_made sized lines rows columns cells high wide all =
    ap (λ (items : List PictureCell). parts rows columns items origin) all
    ∙ ap (λ (count : ℕ). parts count columns (page_cells count columns lines) origin) high
    ∙ ap (λ (width : ℕ). parts sized.size.rows width (page_cells sized.size.rows width lines) origin) wide

pub notice_made : (tty_rows tty_columns : ℕ) (text : List ℕ) (rows columns : ℕ) (cells : List PictureCell)
    → rows ≡ notice_side tty_rows → columns ≡ notice_side tty_columns → cells ≡ in_columns (rows * columns) text
    → record { rows = rows; columns = columns; cells = cells; cursor = origin } ≡ notice_of tty_rows tty_columns text
unfolding parts
notice_made tty_rows tty_columns text rows columns cells high wide all =
    ap (λ (items : List PictureCell). parts rows columns items origin) all
    ∙ ap (λ (count : ℕ). parts count columns (in_columns (count * columns) text) origin) high
    ∙ ap (λ (width : ℕ). parts (notice_side tty_rows) width (in_columns (notice_side tty_rows * width) text) origin) wide

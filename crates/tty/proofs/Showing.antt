-- What is written has a tty show a picture.
use Rattle.std.proofs.Common.{◌≡◌, inl, inr, ℕ, ◌+◌, ◌*◌, ◌<◌, ◌≤◌, ◌==◌, ◌&&◌, ◌||◌, not, nat_lt, Bool, true, false, List, [], ◌∷◌, ◌++◌, length, drop, get_or, Option, Some, None, if◌then◌else◌, arith, refl, sym, ◌∙◌, ap, subst, eq-eqb}
use Rattle.std.specs.Prelude.{IfSome}
use Rattle.std.proofs.Math.Nat.{mul-le-mul_right}
use Rattle.std.proofs.lemmas.Bool.{and_parts, and_from, eqb-true, lt-ltb, ltb-true, ltb-false}
use Rattle.std.proofs.lemmas.Bool.Decides.{nat_tests}
use Rattle.tty.specs.declared.place.Place.{Place}
use Rattle.tty.specs.declared.look.Look.{Look}
use Rattle.tty.specs.declared.look.Look.TheVariants.{Plain, UnprotectedNormal, UnprotectedBright, ProtectedNormal, ProtectedBright, Erased}
use Rattle.tty.specs.declared.colors.Colors.{Colors}
use Rattle.tty.specs.declared.colors.Colors.TheVariants.{Dark, Light, Terminal, Mono}
use Rattle.tty.specs.declared.picture.PictureCell.{PictureCell}
use Rattle.tty.specs.Looks.{number_of, same_look}
use Rattle.tty.specs.Pictures.{PictureParts, IsSized, erased_cell, same_cell, origin, next_place}
use Rattle.tty.specs.Spelling.{selection}
use Rattle.tty.specs.Tty.{Tty, TtyCell, Rendition, Control, is_inside, after, after_all}
use Rattle.tty.specs.Changes.{written, changes, update, redrawing, same_size, drawing_of}
use Rattle.tty.specs.Drawn.{rendition_of, tty_cell, erased, ShowsFrom, HasRoom, IsBeyond, Shows, ShowsKnown}

-- ---- looks and cells that are the same

look_numbered : ℕ → Look
look_numbered number =
    if number == 0 then Plain else if number == 1 then UnprotectedNormal else if number == 2 then UnprotectedBright
    else if number == 3 then ProtectedNormal else if number == 4 then ProtectedBright else Erased

numbered_back : (look : Look) → look_numbered (number_of look) ≡ look
unfolding look_numbered
numbered_back Plain = refl
numbered_back UnprotectedNormal = refl
numbered_back UnprotectedBright = refl
numbered_back ProtectedNormal = refl
numbered_back ProtectedBright = refl
numbered_back Erased = refl

same_looks : (one other : Look) → same_look one other ≡ true → one ≡ other
same_looks one other same =
    sym (numbered_back one) ∙ ap look_numbered (eqb-true (number_of one) (number_of other) same) ∙ numbered_back other

cell_with : ℕ → Look → PictureCell
cell_with glyph look = record { glyph = glyph; look = look }

same_cells : (one other : PictureCell) → same_cell one other ≡ true → one ≡ other
unfolding cell_with
same_cells one other same =
    let parts = and_parts (one.glyph == other.glyph) (same_look one.look other.look) same in
    ap (λ (glyph : ℕ). cell_with glyph one.look) (eqb-true one.glyph other.glyph parts.0)
    ∙ ap (cell_with other.glyph) (same_looks one.look other.look parts.1)

-- ---- what one cell's writing does

after_joined : (first second : List Control) (tty : Tty) → after_all (first ++ second) tty ≡ after_all second (after_all first tty)
after_joined [] second tty = refl
after_joined (control ∷ first) second tty = after_joined first second (after control tty)

selecting : (colors : Colors) (look : Look) (tty : Tty) → after (selection colors look) tty ≡ record tty { rendition = rendition_of colors look }
selecting Dark Plain tty = refl
selecting Dark UnprotectedNormal tty = refl
selecting Dark UnprotectedBright tty = refl
selecting Dark ProtectedNormal tty = refl
selecting Dark ProtectedBright tty = refl
selecting Dark Erased tty = refl
selecting Light Plain tty = refl
selecting Light UnprotectedNormal tty = refl
selecting Light UnprotectedBright tty = refl
selecting Light ProtectedNormal tty = refl
selecting Light ProtectedBright tty = refl
selecting Light Erased tty = refl
selecting Terminal Plain tty = refl
selecting Terminal UnprotectedNormal tty = refl
selecting Terminal UnprotectedBright tty = refl
selecting Terminal ProtectedNormal tty = refl
selecting Terminal ProtectedBright tty = refl
selecting Terminal Erased tty = refl
selecting Mono Plain tty = refl
selecting Mono UnprotectedNormal tty = refl
selecting Mono UnprotectedBright tty = refl
selecting Mono ProtectedNormal tty = refl
selecting Mono ProtectedBright tty = refl
selecting Mono Erased tty = refl

erased_is : (colors : Colors) → tty_cell colors erased_cell ≡ erased
erased_is Dark = refl
erased_is Light = refl
erased_is Terminal = refl
erased_is Mono = refl

-- ---- places of the tty

-- the places of these cells are places of the tty
abbrev pub InsideFrom : ℕ → ℕ → ℕ → Place → List PictureCell → Type 0
InsideFrom rows width columns place [] = Unit {0}
InsideFrom rows width columns place (new ∷ news) =
    ((nat_lt place.row rows && nat_lt place.column width) ≡ true) × InsideFrom rows width columns (next_place columns place) news

-- the place after this one, behind the last of a row or not
abbrev next_by : Bool → Place → Place
next_by last place = if last then record { row = place.row + 1; column = 0 } else record { row = place.row; column = place.column + 1 }

left_by : (last : Bool) (columns high : ℕ) (place : Place) (count : ℕ) → place.column + 1 == columns ≡ last
    → place.row * columns + place.column + (count + 1) ≤ high * columns → place.column < columns
    → ((next_by last place).row * columns + (next_by last place).column + count ≤ high * columns) × ((next_by last place).column < columns)
left_by true columns high place count e few within =
    let end : place.column + 1 ≡ columns = eqb-true (place.column + 1) columns e in
    let next : (place.row + 1) * columns ≡ place.row * columns + columns = omega arith in
    (omega (arith, end, few, next), omega (arith, end))
left_by false columns high place count e few within = (omega (arith, few), grind (arith, nat_tests))

row_by : (lower : Bool) (columns high : ℕ) (place : Place) (count : ℕ) → nat_lt place.row high ≡ lower
    → place.row * columns + place.column + (count + 1) ≤ high * columns → place.row < high
row_by true columns high place count e few = ltb-true place.row high e
row_by false columns high place count e few =
    let high_row : high ≤ place.row = ltb-false place.row high e in
    let more : high * columns ≤ place.row * columns = mul-le-mul_right columns high_row in
    absurd (omega (arith, more, few))

row_inside : (columns high : ℕ) (place : Place) (count : ℕ) → place.row * columns + place.column + (count + 1) ≤ high * columns → place.row < high
row_inside columns high place count few = row_by (nat_lt place.row high) columns high place count refl few

pub inside_from : (rows width columns high : ℕ) (place : Place) (news : List PictureCell) → high ≤ rows → columns ≤ width
    → place.row * columns + place.column + length news ≤ high * columns → place.column < columns → InsideFrom rows width columns place news
inside_from rows width columns high place [] tall wide few within = tt
inside_from rows width columns high place (new ∷ news) tall wide few within =
    let more : place.row * columns + place.column + (length news + 1) ≤ high * columns = omega (arith, few) in
    let row : place.row < rows = let lower = row_inside columns high place (length news) more in omega (arith, lower, tall) in
    let column : place.column < width = omega (arith, within, wide) in
    let left = left_by (place.column + 1 == columns) columns high place (length news) refl more within in (
      and_from (nat_lt place.row rows) (nat_lt place.column width) (lt-ltb place.row rows row) (lt-ltb place.column width column),
      inside_from rows width columns high (next_place columns place) news tall wide left.0 left.1,
    )

module _ (colors : Colors) where
  -- a grid with a cell
  abbrev grid_with : Place → PictureCell → (ℕ → ℕ → TtyCell) → ℕ → ℕ → TtyCell
  grid_with place cell grid row column = if row == place.row && column == place.column then tty_cell colors cell else grid row column

  -- the tty has what a run goes on with
  abbrev Running : Place → Option Look → Tty → Type 0
  Running place None tty = Unit {0}
  Running place (Some look) tty = (tty.cursor ≡ place) × (tty.rendition ≡ rendition_of colors look)

  -- a tty with this grid and size, after a cell was written
  record HasWritten (place : Place) (cell : PictureCell) (grid : ℕ → ℕ → TtyCell) (rows columns : ℕ) (new : Tty) : Type 0 where
    shown : (row column : ℕ) → new.grid row column ≡ grid_with place cell grid row column
    rows_kept : new.rows ≡ rows
    columns_kept : new.columns ≡ columns
    cursor : new.cursor ≡ record { row = place.row; column = place.column + 1 }
    rendition : new.rendition ≡ rendition_of colors cell.look
    sound : new.garbled ≡ false

  graphic_written : (cell : PictureCell) (tty : Tty) → tty.rendition ≡ rendition_of colors cell.look → is_inside tty tty.cursor ≡ true
      → tty.garbled ≡ false → HasWritten tty.cursor cell tty.grid tty.rows tty.columns (after (Control.Graphic cell.glyph) tty)
  graphic_written cell tty looks inside sound = record {
    shown = λ row column. ap (λ (rendition : Rendition). if row == tty.cursor.row && column == tty.cursor.column then record { glyph = cell.glyph; rendition = rendition } else tty.grid row column) looks;
    rows_kept = refl;
    columns_kept = refl;
    cursor = refl;
    rendition = looks;
    sound = rw (sound, inside) refl;
  }

  looking_written : (cell : PictureCell) (tty : Tty) → is_inside tty tty.cursor ≡ true → tty.garbled ≡ false
      → HasWritten tty.cursor cell tty.grid tty.rows tty.columns (after (Control.Graphic cell.glyph) (after (selection colors cell.look) tty))
  looking_written cell tty inside sound =
      let chosen : Tty = record tty { rendition = rendition_of colors cell.look } in
      subst (λ (now : Tty). HasWritten tty.cursor cell tty.grid tty.rows tty.columns (after (Control.Graphic cell.glyph) now))
      (sym (selecting colors cell.look tty)) (graphic_written cell chosen refl inside sound)

  further_written : (same : Bool) (look : Look) (cell : PictureCell) (tty : Tty) → same_look look cell.look ≡ same → tty.rendition ≡ rendition_of colors look
      → is_inside tty tty.cursor ≡ true → tty.garbled ≡ false
      → HasWritten tty.cursor cell tty.grid tty.rows tty.columns
      (after_all (if same then Control.Graphic cell.glyph ∷ [] else selection colors cell.look ∷ Control.Graphic cell.glyph ∷ []) tty)
  further_written true look cell tty e looks inside sound = graphic_written cell tty (looks ∙ ap (rendition_of colors) (same_looks look cell.look e)) inside sound
  further_written false look cell tty e looks inside sound = looking_written cell tty inside sound

  cell_written : (place : Place) (run : Option Look) (cell : PictureCell) (tty : Tty) → Running place run tty → is_inside tty place ≡ true
      → tty.garbled ≡ false → HasWritten place cell tty.grid tty.rows tty.columns (after_all (written colors place run cell) tty)
  cell_written place None cell tty running inside sound =
      let moved : Tty = record tty { cursor = place; garbled = tty.garbled || not (is_inside tty place) } in
      looking_written cell moved inside (rw (sound, inside) refl)
  cell_written place (Some look) cell tty running inside sound =
      subst (λ (at : Place). HasWritten at cell tty.grid tty.rows tty.columns (after_all (written colors place (Some look) cell) tty)) running.0
      (further_written (same_look look cell.look) look cell tty refl running.1
      (subst (λ (at : Place). is_inside tty at ≡ true) (sym running.0) inside) sound)

  -- ---- the order of places

  record Before (one other : Place) : Type 0 where
    row : one.row ≤ other.row
    column : other.row ≤ one.row → one.column < other.column

  before_next_by : (last : Bool) (one other : Place) → Before one other
      → Before one (if last then record { row = other.row + 1; column = 0 } else record { row = other.row; column = other.column + 1 })
  before_next_by true one other before = let row = before.row in record { row = omega arith; column = λ back. absurd (omega (arith, row, back)) }
  before_next_by false one other before = record { row = before.row; column = λ back. let less = before.column back in omega (arith, less) }

  before_next : (columns : ℕ) (one other : Place) → Before one other → Before one (next_place columns other)
  before_next columns one other before = before_next_by (other.column + 1 == columns) one other before

  behind_by : (last : Bool) (place : Place)
      → Before place (if last then record { row = place.row + 1; column = 0 } else record { row = place.row; column = place.column + 1 })
  behind_by true place = record { row = omega arith; column = λ back. absurd (omega (arith, back)) }
  behind_by false place = record { row = omega arith; column = λ back. omega arith }

  behind : (columns : ℕ) (place : Place) → Before place (next_place columns place)
  behind columns place = behind_by (place.column + 1 == columns) place

  elsewhere_by : (same_row same_column : Bool) (one other : Place) → Before one other → other.row == one.row ≡ same_row
      → other.column == one.column ≡ same_column → same_row && same_column ≡ false
  elsewhere_by false same_column one other before row column = refl
  elsewhere_by true false one other before row column = refl
  elsewhere_by true true one other before row column =
      let same : other.row ≡ one.row = eqb-true other.row one.row row in
      let less : one.column < other.column = before.column (omega (arith, same)) in
      absurd (let equal : other.column ≡ one.column = eqb-true other.column one.column column in omega (arith, less, equal))

  -- a cell before a place leaves that place as it is
  elsewhere : (cell : PictureCell) (grid : ℕ → ℕ → TtyCell) (one other : Place) → Before one other
      → grid_with one cell grid other.row other.column ≡ grid other.row other.column
  elsewhere cell grid one other before =
      let no : (other.row == one.row && other.column == one.column) ≡ false =
      elsewhere_by (other.row == one.row) (other.column == one.column) one other before refl refl in
      ap (λ (here : Bool). if here then tty_cell colors cell else grid other.row other.column) no

  -- and one behind it, too
  earlier_by : (same_row same_column : Bool) (one other : Place) → Before other one → other.row == one.row ≡ same_row
      → other.column == one.column ≡ same_column → same_row && same_column ≡ false
  earlier_by false same_column one other before row column = refl
  earlier_by true false one other before row column = refl
  earlier_by true true one other before row column =
      let same : other.row ≡ one.row = eqb-true other.row one.row row in
      let less : other.column < one.column = before.column (omega (arith, same)) in
      absurd (let equal : other.column ≡ one.column = eqb-true other.column one.column column in omega (arith, less, equal))

  earlier : (cell : PictureCell) (grid : ℕ → ℕ → TtyCell) (one other : Place) → Before other one
      → grid_with one cell grid other.row other.column ≡ grid other.row other.column
  earlier cell grid one other before =
      let no : (other.row == one.row && other.column == one.column) ≡ false =
      earlier_by (other.row == one.row) (other.column == one.column) one other before refl refl in
      ap (λ (here : Bool). if here then tty_cell colors cell else grid other.row other.column) no

  beyond_by : (same_row same_column : Bool) (high columns : ℕ) (one other : Place) → one.row < high → one.column < columns
      → IsBeyond high columns other → other.row == one.row ≡ same_row → other.column == one.column ≡ same_column → same_row && same_column ≡ false
  beyond_by false same_column high columns one other tall wide beyond row column = refl
  beyond_by true false high columns one other tall wide beyond row column = refl
  beyond_by true true high columns one other tall wide beyond row column =
      let same_row : other.row ≡ one.row = eqb-true other.row one.row row in
      let same_column : other.column ≡ one.column = eqb-true other.column one.column column in
      absurd (elim beyond [ inl below ↦ omega (arith, below, same_row, tall) | inr right ↦ omega (arith, right, same_column, wide) ])

  -- a cell of a picture leaves each place beyond the picture as it is
  unreached : (cell : PictureCell) (grid : ℕ → ℕ → TtyCell) (high columns : ℕ) (one other : Place)
      → (nat_lt one.row high && nat_lt one.column columns) ≡ true → IsBeyond high columns other
      → grid_with one cell grid other.row other.column ≡ grid other.row other.column
  unreached cell grid high columns one other within beyond =
      let parts = and_parts (nat_lt one.row high) (nat_lt one.column columns) within in
      let no : (other.row == one.row && other.column == one.column) ≡ false =
      beyond_by (other.row == one.row) (other.column == one.column) high columns one other (ltb-true one.row high parts.0) (ltb-true one.column columns parts.1) beyond refl refl in
      ap (λ (here : Bool). if here then tty_cell colors cell else grid other.row other.column) no

  at_place : (cell : PictureCell) (grid : ℕ → ℕ → TtyCell) (place : Place) → grid_with place cell grid place.row place.column ≡ tty_cell colors cell
  at_place cell grid place =
      let row : place.row == place.row ≡ true = eq-eqb place.row place.row refl in
      let column : place.column == place.column ≡ true = eq-eqb place.column place.column refl in
      rw (row, column) refl

  -- ---- all cells

  -- where `news` are to be, the tty shows `olds`, and blanks beyond their end
  abbrev HadFrom : ℕ → Place → List PictureCell → List PictureCell → (ℕ → ℕ → TtyCell) → Type 0
  HadFrom columns place olds [] grid = Unit {0}
  HadFrom columns place olds (new ∷ news) grid =
      (grid place.row place.column ≡ tty_cell colors (get_or olds 0 erased_cell)) × HadFrom columns (next_place columns place) (drop 1 olds) news grid

  had_kept : (columns : ℕ) (news olds : List PictureCell) (one place : Place) (cell : PictureCell) (grid after : ℕ → ℕ → TtyCell)
      → ((row column : ℕ) → after row column ≡ grid_with one cell grid row column) → Before one place
      → HadFrom columns place olds news grid → HadFrom columns place olds news after
  had_kept columns [] olds one place cell grid after written before had = tt
  had_kept columns (new ∷ news) olds one place cell grid after written before had = (
    written place.row place.column ∙ elsewhere cell grid one place before ∙ had.0,
    had_kept columns news (drop 1 olds) one (next_place columns place) cell grid after written (before_next columns one place before) had.1,
  )

  -- a tty after these cells, of a picture of `high` rows, were written where one with this grid and size was
  record GoesOn (columns high : ℕ) (place : Place) (news : List PictureCell) (grid : ℕ → ℕ → TtyCell) (rows width : ℕ) (end : Tty) : Type 0 where
    shows : ShowsFrom colors columns place news end.grid
    beyond : (other : Place) → IsBeyond high columns other → end.grid other.row other.column ≡ grid other.row other.column
    kept : (other : Place) → Before other place → end.grid other.row other.column ≡ grid other.row other.column
    rows_kept : end.rows ≡ rows
    columns_kept : end.columns ≡ width
    sound : end.garbled ≡ false

  -- that of the cells from a place on
  abbrev Rest : (columns high : ℕ) → Place → List PictureCell → List PictureCell → Type 0
  Rest columns high place olds news =
      (run : Option Look) (tty : Tty) → HadFrom columns place olds news tty.grid → Running place run tty
      → InsideFrom tty.rows tty.columns columns place news → InsideFrom high columns columns place news → tty.garbled ≡ false
      → GoesOn columns high place news tty.grid tty.rows tty.columns (after_all (changes colors columns place run olds news) tty)

  running_on : (last : Bool) (place : Place) (cell : PictureCell) (tty : Tty) → tty.cursor ≡ record { row = place.row; column = place.column + 1 }
      → tty.rendition ≡ rendition_of colors cell.look
      → Running (if last then record { row = place.row + 1; column = 0 } else record { row = place.row; column = place.column + 1 }) (if last then None else Some cell.look) tty
  running_on true place cell tty cursor rendition = tt
  running_on false place cell tty cursor rendition = (cursor, rendition)

  step : (same : Bool) (columns high : ℕ) (place : Place) (run : Option Look) (old new : PictureCell) (olds news : List PictureCell) (tty : Tty)
      → same_cell old new ≡ same → Rest columns high (next_place columns place) olds news
      → tty.grid place.row place.column ≡ tty_cell colors old → HadFrom columns (next_place columns place) olds news tty.grid
      → Running place run tty → InsideFrom tty.rows tty.columns columns place (new ∷ news) → InsideFrom high columns columns place (new ∷ news) → tty.garbled ≡ false
      → GoesOn columns high place (new ∷ news) tty.grid tty.rows tty.columns
      (after_all ((if same then [] else written colors place run new)
      ++ changes colors columns (next_place columns place) (if same then None else if place.column + 1 == columns then None else Some new.look) olds news) tty)
  step true columns high place run old new olds news tty e rest was had running inside within sound =
      let on = rest None tty had tt inside.1 within.1 sound in
      record {
        shows = (on.kept place (behind columns place) ∙ was ∙ ap (tty_cell colors) (same_cells old new e), on.shows);
        beyond = on.beyond;
        kept = λ other before. on.kept other (before_next columns other place before);
        rows_kept = on.rows_kept;
        columns_kept = on.columns_kept;
        sound = on.sound;
      }
  step false columns high place run old new olds news tty e rest was had running inside within sound =
      let next : Place = next_place columns place in
      let goes : Option Look = if place.column + 1 == columns then None else Some new.look in
      let now : Tty = after_all (written colors place run new) tty in
      let w : HasWritten place new tty.grid tty.rows tty.columns now = cell_written place run new tty running inside.0 sound in
      let fits : InsideFrom now.rows now.columns columns next news =
      subst (λ (rows : ℕ). InsideFrom rows now.columns columns next news) (sym w.rows_kept)
      (subst (λ (width : ℕ). InsideFrom tty.rows width columns next news) (sym w.columns_kept) inside.1) in
      let on : GoesOn columns high next news now.grid now.rows now.columns (after_all (changes colors columns next goes olds news) now) =
      rest goes now (had_kept columns news olds place next new tty.grid now.grid w.shown (behind columns place) had)
      (running_on (place.column + 1 == columns) place new now w.cursor w.rendition) fits within.1 w.sound in
      subst (GoesOn columns high place (new ∷ news) tty.grid tty.rows tty.columns) (sym (after_joined (written colors place run new) (changes colors columns next goes olds news) tty))
      record {
        shows = (on.kept place (behind columns place) ∙ w.shown place.row place.column ∙ at_place new tty.grid place, on.shows);
        beyond = λ other is. on.beyond other is ∙ w.shown other.row other.column ∙ unreached new tty.grid high columns place other within.0 is;
        kept = λ other before.
            on.kept other (before_next columns other place before) ∙ w.shown other.row other.column ∙ earlier new tty.grid place other before;
        rows_kept = on.rows_kept ∙ w.rows_kept;
        columns_kept = on.columns_kept ∙ w.columns_kept;
        sound = on.sound;
      }

  changes_shown : (columns high : ℕ) (place : Place) (olds news : List PictureCell) → Rest columns high place olds news
  changes_shown columns high place olds [] run tty had running inside within sound =
      record { shows = tt; beyond = λ other is. refl; kept = λ other before. refl; rows_kept = refl; columns_kept = refl; sound = sound }
  changes_shown columns high place olds (new ∷ news) run tty had running inside within sound =
      let old : PictureCell = get_or olds 0 erased_cell in
      step (same_cell old new) columns high place run old new (drop 1 olds) news tty refl
      (changes_shown columns high (next_place columns place) (drop 1 olds) news) had.0 had.1 running inside within sound

  -- ---- a whole picture

  had_from : (columns : ℕ) (place : Place) (olds news : List PictureCell) (grid : ℕ → ℕ → TtyCell) → length news ≤ length olds
      → ShowsFrom colors columns place olds grid → HadFrom columns place olds news grid
  had_from columns place olds [] grid few shows = tt
  had_from columns place [] (new ∷ news) grid few shows = absurd (omega (arith, few))
  had_from columns place (old ∷ olds) (new ∷ news) grid few shows =
      (shows.0, had_from columns (next_place columns place) olds news grid (omega (arith, few)) shows.1)

  had_erased : (columns : ℕ) (place : Place) (news : List PictureCell) (grid : ℕ → ℕ → TtyCell)
      → ((row column : ℕ) → grid row column ≡ tty_cell colors erased_cell) → HadFrom columns place [] news grid
  had_erased columns place [] grid blank = tt
  had_erased columns place (new ∷ news) grid blank =
      (blank place.row place.column, had_erased columns (next_place columns place) news grid blank)

  -- beyond a picture of this size the tty shows blanks
  abbrev IsBlankBeyond : (rows columns : ℕ) → (ℕ → ℕ → TtyCell) → Type 0
  IsBlankBeyond rows columns grid = (place : Place) → IsBeyond rows columns place → grid place.row place.column ≡ erased

  -- the cells that changed, and the cursor
  update_shown : (olds : List PictureCell) (picture : PictureParts) (tty : Tty) → IsSized picture → HasRoom picture tty
      → HadFrom picture.columns origin olds picture.cells tty.grid → IsBlankBeyond picture.rows picture.columns tty.grid
      → tty.garbled ≡ false → Shows colors picture (after_all (update colors olds picture) tty)
  update_shown olds picture tty sized room had blank sound =
      let written_cells : List Control = changes colors picture.columns origin None olds picture.cells in
      let now : Tty = after_all written_cells tty in
      let many : length picture.cells ≤ picture.rows * picture.columns = omega (arith, sized.cells) in
      let row : picture.cursor.row < picture.rows = sized.row in
      let column : picture.cursor.column < picture.columns = sized.column in
      let tall : picture.rows ≤ tty.rows = room.rows in
      let wide : picture.columns ≤ tty.columns = room.columns in
      let on : GoesOn picture.columns picture.rows origin picture.cells tty.grid tty.rows tty.columns now =
      changes_shown picture.columns picture.rows origin olds picture.cells None tty had tt
      (inside_from tty.rows tty.columns picture.columns picture.rows origin picture.cells tall wide (omega (arith, many)) (omega (arith, column)))
      (inside_from picture.rows picture.columns picture.columns picture.rows origin picture.cells (omega arith) (omega arith) (omega (arith, many)) (omega (arith, column))) sound in
      let rows_now : now.rows ≡ tty.rows = on.rows_kept in
      let columns_now : now.columns ≡ tty.columns = on.columns_kept in
      let sound_now : now.garbled ≡ false = on.sound in
      let inside : is_inside now picture.cursor ≡ true =
      and_from (nat_lt picture.cursor.row now.rows) (nat_lt picture.cursor.column now.columns)
      (lt-ltb picture.cursor.row now.rows (omega (arith, row, tall, rows_now))) (lt-ltb picture.cursor.column now.columns (omega (arith, column, wide, columns_now))) in
      subst (Shows colors picture) (sym (after_joined written_cells (Control.CursorTo picture.cursor ∷ []) tty))
      record { cells = on.shows; beyond = λ place is. on.beyond place is ∙ blank place is; cursor = refl; sound = rw (sound_now, inside) refl }

  redrawing_shown : (picture : PictureParts) (tty : Tty) → IsSized picture → HasRoom picture tty → Shows colors picture (after_all (redrawing colors picture) tty)
  redrawing_shown picture tty sized room =
      let cleared : Tty = after Control.EraseAll (after (Control.SelectRendition 0 []) tty) in
      update_shown [] picture cleared sized (record { rows = room.rows; columns = room.columns })
      (had_erased picture.columns origin picture.cells cleared.grid (λ row column. sym (erased_is colors))) (λ place is. refl) refl

  over_shown : (same : Bool) (shown picture : PictureParts) (tty : Tty) → same_size shown picture ≡ same → IsSized shown → IsSized picture
      → HasRoom picture tty → Shows colors shown tty → Shows colors picture (after_all (if same then update colors shown.cells picture else redrawing colors picture) tty)
  over_shown false shown picture tty e old sized room shows = redrawing_shown picture tty sized room
  over_shown true shown picture tty e old sized room shows =
      let parts = and_parts (shown.rows == picture.rows) (shown.columns == picture.columns) e in
      let rows : shown.rows ≡ picture.rows = eqb-true shown.rows picture.rows parts.0 in
      let columns : shown.columns ≡ picture.columns = eqb-true shown.columns picture.columns parts.1 in
      let many : length shown.cells ≡ length picture.cells =
      old.cells ∙ ap (λ (count : ℕ). count * shown.columns) rows ∙ ap (λ (count : ℕ). picture.rows * count) columns ∙ sym sized.cells in
      update_shown shown.cells picture tty sized room
      (had_from picture.columns origin shown.cells picture.cells tty.grid (omega (arith, many))
      (subst (λ (count : ℕ). ShowsFrom colors count origin shown.cells tty.grid) columns shows.cells))
      (subst (λ (high : ℕ). IsBlankBeyond high picture.columns tty.grid) rows
      (subst (λ (width : ℕ). IsBlankBeyond shown.rows width tty.grid) columns shows.beyond))
      shows.sound

  pub controls_shown : (known : Option PictureParts) (picture : PictureParts) → IfSome known IsSized → IsSized picture
      → (tty : Tty) → HasRoom picture tty → ShowsKnown colors known tty → Shows colors picture (after_all (drawing_of colors known picture) tty)
  controls_shown None picture old sized tty room shows = redrawing_shown picture tty sized room
  controls_shown (Some shown) picture old sized tty room shows = over_shown (same_size shown picture) shown picture tty refl old sized room shows

-- What is drawn is read back.
use Rattle.std.proofs.Common.{◌≡◌, ℕ, ◌*◌, ◌<◌, ◌≤◌, ◌&&◌, nat_lt, Bool, true, false, List, [], ◌∷◌, length, drop, get_or, Option, Some, None, if◌then◌else◌, arith, sym, subst}
use Rattle.std.specs.Prelude.{IfSome}
use Rattle.std.specs.List.{list_all}
use Rattle.std.proofs.lemmas.Bool.{and_parts, ltb-true}
use Rattle.tty.specs.declared.place.Place.{Place}
use Rattle.tty.specs.declared.colors.Colors.{Colors}
use Rattle.tty.specs.declared.look.Look.{Look}
use Rattle.tty.specs.declared.picture.PictureCell.{PictureCell}
use Rattle.tty.specs.Looks.{same_look}
use Rattle.tty.specs.Pictures.{PictureParts, IsSized, erased_cell, same_cell, origin, next_place, has_graphic}
use Rattle.tty.specs.Spelling.{selection}
use Rattle.tty.specs.Tty.{Control, after_all}
use Rattle.tty.specs.Changes.{written, change, run_after, changes, update, redrawing, same_size, drawing_of}
use Rattle.tty.specs.Drawn.{Shows, IsShownAfter}
use Rattle.tty.proofs.ReadBack.{EachReadBack, all_read, each_joined, graphic_read, look_read, default_read, erase_read, place_read}
use Rattle.tty.proofs.Showing.{InsideFrom, inside_from, controls_shown}

module _ (colors : Colors) where
  further_read : (same : Bool) (cell : PictureCell) → has_graphic cell ≡ true
      → EachReadBack (if same then Control.Graphic cell.glyph ∷ [] else selection colors cell.look ∷ Control.Graphic cell.glyph ∷ [])
  further_read true cell graphic = (graphic_read cell.glyph graphic, tt)
  further_read false cell graphic = (look_read colors cell.look, (graphic_read cell.glyph graphic, tt))

  written_read : (place : Place) (run : Option Look) (cell : PictureCell) → (nat_lt place.row 999 && nat_lt place.column 999) ≡ true
      → has_graphic cell ≡ true → EachReadBack (written colors place run cell)
  written_read place None cell inside graphic =
      let parts = and_parts (nat_lt place.row 999) (nat_lt place.column 999) inside in
      (place_read place (ltb-true place.row 999 parts.0) (ltb-true place.column 999 parts.1), (look_read colors cell.look, (graphic_read cell.glyph graphic, tt)))
  written_read place (Some look) cell inside graphic = further_read (same_look look cell.look) cell graphic

  change_read : (same : Bool) (place : Place) (run : Option Look) (cell : PictureCell) → (nat_lt place.row 999 && nat_lt place.column 999) ≡ true
      → has_graphic cell ≡ true → EachReadBack (if same then [] else written colors place run cell)
  change_read true place run cell inside graphic = tt
  change_read false place run cell inside graphic = written_read place run cell inside graphic

  changes_read : (columns : ℕ) (place : Place) (run : Option Look) (olds news : List PictureCell) → InsideFrom 999 999 columns place news
      → list_all has_graphic news ≡ true → EachReadBack (changes colors columns place run olds news)
  changes_read columns place run olds [] inside graphic = tt
  changes_read columns place run olds (new ∷ news) inside graphic =
      let old : PictureCell = get_or olds 0 erased_cell in
      let parts = and_parts (has_graphic new) (list_all has_graphic news) graphic in
      each_joined (change colors place run old new) (changes colors columns (next_place columns place) (run_after columns place old new) (drop 1 olds) news)
      (change_read (same_cell old new) place run new inside.0 parts.0)
      (changes_read columns (next_place columns place) (run_after columns place old new) (drop 1 olds) news inside.1 parts.1)

  update_read : (olds : List PictureCell) (picture : PictureParts) → IsSized picture → EachReadBack (update colors olds picture)
  update_read olds picture sized =
      let many : length picture.cells ≤ picture.rows * picture.columns = let cells = sized.cells in omega (arith, cells) in
      let row : picture.cursor.row < picture.rows = sized.row in
      let column : picture.cursor.column < picture.columns = sized.column in
      let tall : picture.rows < 1000 = sized.few_rows in
      let wide : picture.columns < 1000 = sized.few_columns in
      each_joined (changes colors picture.columns origin None olds picture.cells) (Control.CursorTo picture.cursor ∷ [])
      (changes_read picture.columns origin None olds picture.cells
      (inside_from 999 999 picture.columns picture.rows origin picture.cells (omega (arith, tall)) (omega (arith, wide)) (omega (arith, many)) (omega (arith, column))) sized.graphic)
      (place_read picture.cursor (omega (arith, row, tall)) (omega (arith, column, wide)), tt)

  redrawing_read : (picture : PictureParts) → IsSized picture → EachReadBack (redrawing colors picture)
  redrawing_read picture sized = (default_read, (erase_read, update_read [] picture sized))

  over_read : (same : Bool) (shown picture : PictureParts) → IsSized picture → EachReadBack (if same then update colors shown.cells picture else redrawing colors picture)
  over_read true shown picture sized = update_read shown.cells picture sized
  over_read false shown picture sized = redrawing_read picture sized

  drawing_read : (known : Option PictureParts) (picture : PictureParts) → IsSized picture → EachReadBack (drawing_of colors known picture)
  drawing_read None picture sized = redrawing_read picture sized
  drawing_read (Some shown) picture sized = over_read (same_size shown picture) shown picture sized

  pub drawing_shown : (known : Option PictureParts) (picture : PictureParts) → IfSome known IsSized → IsSized picture → IsShownAfter colors known picture
  drawing_shown known picture old sized tty room shows =
      subst (λ (controls : List Control). Shows colors picture (after_all controls tty)) (sym (all_read (drawing_of colors known picture) (drawing_read known picture sized)))
      (controls_shown colors known picture old sized tty room shows)

-- What is written to turn one picture into another (our profile): the cells that changed, in runs within a row. A run
-- begins with its place and its look.
use Rattle.std.specs.Prelude.{ℕ, ◌+◌, ◌==◌, Bool, ◌&&◌, List, [], ◌∷◌, ◌++◌, drop, Option, Some, None, if◌then◌else◌, slice_index_or}
use Rattle.tty.specs.declared.place.Place.{Place}
use Rattle.tty.specs.declared.colors.Colors.{Colors}
use Rattle.tty.specs.declared.look.Look.{Look}
use Rattle.tty.specs.declared.picture.PictureCell.{PictureCell}
use Rattle.tty.specs.Looks.{same_look}
use Rattle.tty.specs.Pictures.{PictureParts, erased_cell, same_cell, origin, next_place}
use Rattle.tty.specs.Spelling.{selection}
use Rattle.tty.specs.Tty.{Control}

-- what writes a cell: in a run whose last cell has this look, or, if there is no run, as the first of one
abbrev pub written : Colors → Place → Option Look → PictureCell → List Control
written colors place None cell =
    Control.CursorTo place ∷ selection colors cell.look ∷ Control.Graphic cell.glyph ∷ []
written colors place (Some look) cell =
    if same_look look cell.look then Control.Graphic cell.glyph ∷ []
    else selection colors cell.look ∷ Control.Graphic cell.glyph ∷ []

-- what writes a cell if it changed; nothing if it didn't
abbrev pub change : Colors → Place → Option Look → PictureCell → PictureCell → List Control
change colors place run old new = if same_cell old new then [] else written colors place run new

-- the look of the run that goes on after a cell; none after a cell that didn't change, and after the last of a row
abbrev pub run_after : ℕ → Place → PictureCell → PictureCell → Option Look
run_after columns place old new = if same_cell old new then None else if place.column + 1 == columns then None
    else Some new.look

-- what changes the cells `olds` into these, from a place on; a cell beyond the end of `olds` was erased
abbrev pub changes : Colors → ℕ → Place → Option Look → List PictureCell → List PictureCell → List Control
changes colors columns place run olds [] = []
changes colors columns place run olds (new ∷ news) =
    let old : PictureCell = slice_index_or olds 0 erased_cell in
    change colors place run old new
    ++ changes colors columns (next_place columns place) (run_after columns place old new) (drop 1 olds) news

-- what writes the cells that changed, and then the cursor's place
abbrev pub update : Colors → List PictureCell → PictureParts → List Control
update colors olds picture = changes colors picture.columns origin None olds picture.cells ++ Control.CursorTo picture.cursor ∷ []

-- what erases the tty and writes the whole picture
abbrev pub redrawing : Colors → PictureParts → List Control
redrawing colors picture = Control.SelectRendition 0 [] ∷ Control.EraseAll ∷ update colors [] picture

abbrev pub same_size : PictureParts → PictureParts → Bool
same_size one other = one.rows == other.rows && one.columns == other.columns

-- what draws a picture on a tty that shows another one, or is unknown
abbrev pub drawing_of : Colors → Option PictureParts → PictureParts → List Control
drawing_of colors None picture = redrawing colors picture
drawing_of colors (Some shown) picture =
    if same_size shown picture then update colors shown.cells picture else redrawing colors picture

-- how a tty is drawn: the colours, and the picture that it shows, if it is known
pub record DrawingParts : Type 0 where
  pub colors : Colors
  pub shown : Option PictureParts

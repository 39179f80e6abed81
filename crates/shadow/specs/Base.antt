-- For proofs alone: the screen that the orders of a paint write on (our profile).
use Rattle.std.specs.Prelude.{◌≡◌, Bool, true, List, length, if◌then◌else◌}
use Rattle.shadow.specs.declared.known.Known.{Known}
use Rattle.shadow.specs.declared.painting.Base.{Base}
use Rattle.shadow.specs.InPlace.{cells_known}
use Rattle.shadow.specs.Paint.{known_nulls}
use Rattle.shadow.specs.Taken.{mark_off, marks_off_if}

abbrev pub mark_off_if : Bool → Known → Known
mark_off_if resets known = if resets then mark_off known else known

abbrev pub known_base : Base → List Known
known_base base = if base.formatted then marks_off_if base.reset (cells_known base.beliefs.now)
    else known_nulls base.cells

-- holds if the paint erases, or the screen that it writes over has the wanted number of cells
abbrev pub IsBase : Base → Type 0
IsBase base = base.formatted ≡ true → length base.beliefs.now ≡ base.cells

-- The models of the 3278, and the sizes of their screens (GA23-0059-07 on screen sizes; our profile has models 2 to 5).
use Rattle.std.specs.Prelude.{◌==◌, ℕ, ◌*◌, if◌then◌else◌}
use Rattle.codes3270.specs.declared.size.Model.{Model}
use Rattle.codes3270.specs.declared.size.Model.TheVariants.{M2, M3, M4, M5}

-- the size of a screen: its rows, and the cells of a row
pub record ScreenSize : Type 0 where
  pub rows : ℕ
  pub columns : ℕ

-- the number of cells of a screen
abbrev pub cells_in : ScreenSize → ℕ
cells_in size = size.rows * size.columns

-- the size at the start of every connection, and after Erase/Write
abbrev pub model_2 : ScreenSize
model_2 = record { rows = 24; columns = 80 }

-- the size after Erase/Write Alternate
abbrev pub alternate_of : Model → ScreenSize
alternate_of M2 = model_2
alternate_of M3 = record { rows = 32; columns = 80 }
alternate_of M4 = record { rows = 43; columns = 80 }
alternate_of M5 = record { rows = 27; columns = 132 }

-- the model whose alternate size has this number of cells; the four numbers are different
abbrev pub model_with : ℕ → Model
model_with cells = if cells == 1920 then M2 else if cells == 2560 then M3 else if cells == 3440 then M4 else M5

-- the number of cells of the largest screen, that of model 5
abbrev pub most_cells : ℕ
most_cells = 3564

-- the number of cells of the longest row, that of model 5
abbrev pub most_columns : ℕ
most_columns = 132

-- The rows of the screen that a panel is laid out on, and the numbers of models (our profile).
use Rattle.std.specs.Prelude.{ℕ, ◌-◌, ◌*◌, ℤ, pos, int_le, Bool, ◌&&◌, if◌then◌else◌}
use Rattle.std.specs.Ordering.{int_eq}
use Rattle.codes3270.specs.declared.size.Model.{Model}
use Rattle.codes3270.specs.declared.size.Model.TheVariants.{M2, M3, M4, M5}
use Rattle.codes3270.specs.Size.{ScreenSize}

-- the number of rows for a panel's items, and the address at which the row below them starts, which is for messages
abbrev pub item_rows : ScreenSize → ℕ
item_rows size = size.rows - 1

abbrev pub message_start : ScreenSize → ℕ
message_start size = item_rows size * size.columns

-- the most characters of a message on a screen: its row without the attribute in the first column
abbrev pub message_room : ScreenSize → ℕ
message_room size = size.columns - 1

-- whether a number is that of a model: 2 to 5
abbrev pub is_model_number : ℤ → Bool
is_model_number number = int_le (pos 2) number && int_le number (pos 5)

-- the model with a number from 2 to 5; model 2 for any other number
abbrev pub model_numbered : ℤ → Model
model_numbered number =
    if int_eq number (pos 3) then M3
    else if int_eq number (pos 4) then M4
    else if int_eq number (pos 5) then M5
    else M2

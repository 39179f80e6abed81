-- What `{}` prints of a tty that is too small (our profile).
use Rattle.std.specs.Prelude.{ℕ, List, ◌++◌, codes}
use Rattle.std.specs.Fmt.{decimal}
use Rattle.tty.specs.declared.room.TooSmall.{TooSmall}

abbrev pub too_small_text : TooSmall → List ℕ
too_small_text fault =
    codes "the tty has "
    ++ (decimal fault.rows ++ (codes " rows of " ++ (decimal fault.columns ++ (codes " columns, and the screen needs "
    ++ (decimal fault.needed_rows ++ (codes " rows of " ++ decimal fault.needed_columns))))))

-- The exit status for a file that can't be opened (our profile).
use Rattle.std.specs.Prelude.{ℕ}

abbrev pub file_refused : ℕ
file_refused = 1

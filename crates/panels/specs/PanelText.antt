-- The panel text in an input that may have a script after it (our profile). Only LF ends a line, as in a script.
use Rattle.std.specs.Prelude.{ℕ, ◌+◌, ◌==◌, ◌&&◌, ◌||◌, Bool, true, List, [], ◌∷◌, codes, bytes_eq, nat_eq, take, if◌then◌else◌}
use Rattle.std.specs.List.{starts_with}

-- whether the text begins with a line `%%`
abbrev pub is_at_mark : List ℕ → Bool
is_at_mark text = bytes_eq text (codes "%%") || starts_with nat_eq text (codes "%%\n")

-- the index of the first line `%%`, or else the text's length; `begins` says whether a line begins here
abbrev pub mark_place : Bool → List ℕ → ℕ
mark_place begins [] = 0
mark_place begins (char ∷ text) = if begins && is_at_mark (char ∷ text) then 0 else 1 + mark_place (char == 10) text

-- the panel text: everything before that line
abbrev pub panel_text : List ℕ → List ℕ
panel_text input = take (mark_place true input) input

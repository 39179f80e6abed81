-- The screen as text (our profile).
use Rattle.std.specs.Prelude.{ℕ, List, [], ◌∷◌, ◌++◌, codes}
use Rattle.std.specs.Fmt.{decimal}
use Rattle.datastream.specs.Screen.{Screen}
use Rattle.presentation.specs.Sizes.{SizedScreen}
use Rattle.term_core.specs.ScreenText.{newline, all_lines}

-- the line with the cursor's buffer address, 0-based
abbrev pub cursor_line : Screen → List ℕ
cursor_line screen = codes "cursor " ++ decimal screen.cursor ++ newline ∷ []

-- a line for each row of the screen, and the line of the cursor
abbrev pub screen_text : SizedScreen → List ℕ
screen_text sized = all_lines sized ++ cursor_line sized.screen

-- An input with a panel text and a script, and the page that is printed for it (our profile).
use Rattle.std.specs.Prelude.{◌≡◌, ℕ, ◌==◌, true, List, Option, drop}
use Rattle.std.specs.List.{after_first}
use Rattle.host_core.specs.declared.terminals.Terminals.{Terminals}
use Rattle.lu_pool.specs.Reading.{IsReadFrom as IsPoolReadFrom, IsRight}
use Rattle.lu_pool.specs.declared.entry.Entry.{Entry}
use Rattle.panels.specs.Defines.{IsReadFrom}
use Rattle.panels.specs.Panel.{Panels as PanelsRead}
use Rattle.panels.specs.PanelText.{mark_place, panel_text}
use Rattle.term_core.specs.ScreenText.{newline}
use Rattle.world3270.specs.model.ByteWorld.{ByteWorld, new_byte_world}
use Rattle.scripts.specs.Plays.{IsPlayed, terminal_models}
use Rattle.applications.specs.PanelHosts.{lus_of}

-- ---- the script of an input

-- the text after the first line
abbrev pub behind_line : List ℕ → List ℕ
behind_line text = after_first (λ char. char == newline) text

-- the script: the text after the line that ends the panel text
abbrev pub script_text : List ℕ → List ℕ
script_text input = behind_line (drop (mark_place true input) input)

-- ---- the world in which a script begins

-- holds for a world of the text's panels, with a pool of their LUs, a host for these terminals, and terminals of models
-- 2 to 5; neither the text nor the LU names have a fault
pub record IsWorldOf (serves : Terminals) (text : List ℕ) (world : ByteWorld) : Type 0 where
  pub panels : PanelsRead
  pub panels_read : IsReadFrom text panels
  pub pool : List Entry
  pub pool_read : IsPoolReadFrom (lus_of panels) pool
  pub lus_right : IsRight (lus_of panels)
  pub world_is : world ≡ new_byte_world serves panels pool terminal_models

-- ---- the page

-- Holds for the page of an input, with a host for these terminals: the output up to the first invalid line, if any.
pub record IsScriptPage (serves : Terminals) (input page : List ℕ) (stopped : Option ℕ) : Type 0 where
  pub old : ByteWorld
  pub begins : IsWorldOf serves (panel_text input) old
  pub new : ByteWorld
  pub is_played : IsPlayed (script_text input) old page stopped new

-- An input has only one page, and only one number of its first invalid line, if any.
abbrev pub ScriptsHaveOnePage : Type 0
ScriptsHaveOnePage = (serves : Terminals) (input page other : List ℕ) (stopped ended : Option ℕ)
    → IsScriptPage serves input page stopped → IsScriptPage serves input other ended
    → (page ≡ other) × (stopped ≡ ended)

-- Keymaps: what an operator's keys do (our profile).
use Rattle.std.specs.Prelude.{ℕ, ◌+◌, ◌==◌, List, Option, Some, None, get_or}
use Rattle.std.specs.List.{position}
use Rattle.tty.specs.declared.action.Action.{Action}
use Rattle.tty.specs.declared.action.Action.TheVariants.{Nothing}
use Rattle.tty.specs.declared.keymap.Binding.{Binding}
use Rattle.tty.specs.declared.keystroke.Keystroke.{Keystroke}
use Rattle.tty.specs.declared.keystroke.Keystroke.TheVariants.{Control, Alt, Named}
use Rattle.tty.specs.StandardKeys.{standard}

-- the number of a key: a control character's code, 256 and the code of Alt's character, or 512 and the place of a key
-- that sends a sequence; 1024 for what is no key
abbrev pub key_number : Keystroke → ℕ
key_number (Control byte) = byte
key_number (Alt byte) = 256 + byte
key_number (Named place) = 512 + place
key_number _ = 1024

abbrev pub bound_at : List Binding → Option ℕ → Action → Action
bound_at bindings None other = other
bound_at bindings (Some place) other = (get_or bindings place (record { key = 0; action = Nothing })).action

-- what a keystroke does under these bindings: the action of the first one of its key, or, if there is none, the usual
abbrev pub action_of : List Binding → Keystroke → Action
action_of bindings keystroke =
    bound_at bindings (position (λ binding. binding.key == key_number keystroke) bindings) (standard keystroke)

-- A keyboard, as contracts see it (our profile).
use Rattle.std.specs.Prelude.{Bool, false}
use Rattle.keyboard.specs.declared.key.Lock.{Lock}
use Rattle.keyboard.specs.declared.key.Lock.TheVariants.{Free, Wait}

-- the keyboard lock, and whether insert mode is on
pub record Keyboard : Type 0 where
  pub lock : Lock
  pub inserting : Bool

-- the keyboard at the start: locked, insert mode off
abbrev pub fresh : Keyboard
fresh = record { lock = Wait; inserting = false }

-- the keyboard with the lock Free; insert mode stays as it is
abbrev pub freed : Keyboard → Keyboard
freed keyboard = record keyboard { lock = Free }

-- Keys keep a screen sendable, for proofs in the crates above (our profile).
use Rattle.std.specs.Prelude.{⊤, ℕ}
use Rattle.codes3270.specs.Aid.{IsRealAid}
use Rattle.codes3270.specs.declared.attention.Aid.TheVariants as aid
use Rattle.datastream.specs.InboundFields.{IsSendable}
use Rattle.datastream.specs.Screen.{Screen}
use Rattle.keyboard.specs.declared.key.Key.{Key}
use Rattle.keyboard.specs.declared.key.Key.TheVariants.{Pf, Pa}
use Rattle.keyboard.specs.Keys.{pressed}
use Rattle.keyboard.specs.State.{Keyboard}

-- holds if a terminal has the key (GA23-0059-07 on attention identification): its PF or PA number is in range
abbrev pub IsKey : Key → Type 0
IsKey (Pf number) = IsRealAid (aid.Pf number)
IsKey (Pa number) = IsRealAid (aid.Pa number)
IsKey _ = ⊤

-- A key keeps a screen sendable.
abbrev pub KeysKeepSendable : Type 0
KeysKeepSendable = (columns : ℕ) (key : Key) (keyboard : Keyboard) (screen : Screen) → IsKey key → IsSendable screen
    → IsSendable (pressed columns key keyboard screen).screen

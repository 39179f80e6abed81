-- The screens that are seen in the example's runs: readers and proofs need them, and nothing rests on them (our
-- profile).
use Rattle.std.specs.Prelude.{ℕ, Bool, true, false, List, [], ◌∷◌, ◌++◌, map, replicate, ◌+◌}
use Rattle.host_core.specs.Application.{message_place}
use Rattle.codes3270.specs.Size.{ScreenSize}
use Rattle.codes3270.specs.declared.attention.Aid.{Aid}
use Rattle.codes3270.specs.declared.attention.Aid.TheVariants.{NoAid}
use Rattle.codes3270.specs.declared.attribute.Cell.{Cell}
use Rattle.codes3270.specs.declared.attribute.Cell.TheVariants.{Char, Attr}
use Rattle.codes3270.specs.declared.attribute.Display.TheVariants.{Normal}
use Rattle.datastream.specs.Screen.{Screen}
use Rattle.panels.specs.Screen.{autoskip_attr}

-- ---- parts of screens, in code page 037

-- a protected item, which the cursor skips; without characters it is a stopper
abbrev pub skipped : List ℕ → List Cell
skipped chars = Attr (autoskip_attr false) ∷ map Char chars

-- a field to type into, modified or not, and its stopper
abbrev pub typed_into : (mdt : Bool) → List ℕ → List Cell
typed_into mdt chars = Attr (record { protected = false; numeric = false; display = Normal; mdt = mdt })
    ∷ map Char chars ++ skipped []

-- the last row with a message of 15 cells
abbrev pub message_seen : List ℕ → List Cell
message_seen message = Attr (autoskip_attr true) ∷ map Char message

abbrev pub no_message : List ℕ
no_message = replicate 15 0

-- `REQUIRED: name`
abbrev pub required_name : List ℕ
required_name =
    0xD9 ∷ 0xC5 ∷ 0xD8 ∷ 0xE4 ∷ 0xC9 ∷ 0xD9 ∷ 0xC5 ∷ 0xC4 ∷ 0x7A ∷ 0x40 ∷ 0x95 ∷ 0x81 ∷ 0x94 ∷ 0x85 ∷ 0 ∷ []

-- `KEY NOT ACTIVE`
abbrev pub key_not_active : List ℕ
key_not_active =
    0xD2 ∷ 0xC5 ∷ 0xE8 ∷ 0x40 ∷ 0xD5 ∷ 0xD6 ∷ 0xE3 ∷ 0x40 ∷ 0xC1 ∷ 0xC3 ∷ 0xE3 ∷ 0xC9 ∷ 0xE5 ∷ 0xC5 ∷ 0 ∷ []

-- the name's field, with nothing in it
abbrev pub no_name : List Cell
no_name = typed_into false (0 ∷ 0 ∷ 0 ∷ [])

-- ---- the sign-on

-- `NAME`, the two fields, the message
abbrev pub sign_on_cells : List Cell → List Cell → List ℕ → List Cell
sign_on_cells name letter message =
    skipped (0xD5 ∷ 0xC1 ∷ 0xD4 ∷ 0xC5 ∷ []) ++ name ++ letter ++ replicate 3 (Char 0) ++ message_seen message

-- as the host writes it, the cursor in the first field
abbrev pub sign_on_seen : List Cell → List Cell → List ℕ → Screen
sign_on_seen name letter message = record { cells = sign_on_cells name letter message; cursor = 6; aid = NoAid }

-- as it is first seen, with `Y` in the second field
abbrev pub fresh_sign_on : Screen
fresh_sign_on = sign_on_seen no_name (typed_into false (0xE8 ∷ [])) no_message

-- with `X` typed into the second field, and a message
abbrev pub lettered_sign_on : List ℕ → Screen
lettered_sign_on message = sign_on_seen no_name (typed_into true (0xE7 ∷ [])) message

-- the operator erased the input, and the name is asked for
abbrev pub erased_sign_on : Screen
erased_sign_on = sign_on_seen no_name (typed_into false (0 ∷ [])) required_name

-- with `A` typed into the first field, and the cursor after it
abbrev pub typing_sign_on : List ℕ → Screen
typing_sign_on message = record {
  cells = sign_on_cells (typed_into true (0xC1 ∷ 0 ∷ 0 ∷ [])) (typed_into false (0xE8 ∷ [])) message;
  cursor = 7;
  aid = NoAid;
}

-- ---- others

-- the second panel, with a name of three cells
abbrev pub greeting_seen : List ℕ → Screen
greeting_seen name = record {
  cells = skipped (name ++ replicate 12 0) ++ replicate 16 (Char 0) ++ message_seen no_message;
  cursor = 0;
  aid = NoAid;
}

-- an unformatted screen of nulls, but for a note in the last row
abbrev pub unformatted : ScreenSize → Aid → List ℕ → Screen
unformatted size aid note =
    record { cells = replicate (message_place size + 1) (Char 0) ++ map Char note; cursor = 0; aid = aid }

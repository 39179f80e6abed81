-- The first message of a page: `open MODEL [LU]` begins a session, `resume TOKEN` resumes one (our profile).
use Rattle.std.specs.Prelude.{ℕ, ◌==◌, List, [], ◌∷◌, drop, codes, nat_eq, Option, None, Some, Result, Ok, Err, if◌then◌else◌}
use Rattle.std.specs.List.{starts_with}
use Rattle.std.specs.Option.{option_map}
use Rattle.codes3270.specs.declared.size.Model.{Model}
use Rattle.codes3270.specs.declared.size.Model.TheVariants.{M2, M3, M4, M5}
use Rattle.tn3270e_msg.specs.Lu.{lu_of}
use Rattle.hex.specs.Hex.{decode_sized}
use Rattle.hex.specs.declared.error.FromHexError.{FromHexError}
use Rattle.web_wire.specs.declared.opening.Opening.{Opening}
use Rattle.web_wire.specs.declared.opening.Opening.TheVariants.{New, Resume}

abbrev pub if_decoded : Result (List ℕ) FromHexError → Option (List ℕ)
if_decoded (Ok bytes) = Some bytes
if_decoded (Err e) = None

-- the token that 32 hexadecimal digits are: 16 bytes
abbrev pub token_of : List ℕ → Option (List ℕ)
token_of text = if_decoded (decode_sized text 16)

-- the model with this digit
abbrev pub model_of : ℕ → Option Model
model_of digit =
    if digit == 0x32 then Some M2
    else if digit == 0x33 then Some M3
    else if digit == 0x34 then Some M4
    else if digit == 0x35 then Some M5
    else None

-- a session of this model, for the LU in what follows the digit: nothing, or a blank and a name
abbrev pub new_session : Model → List ℕ → Option Opening
new_session model [] = Some (New model None)
new_session model (blank ∷ name) =
    if blank == 0x20 then option_map (λ lu. New model (Some lu)) (lu_of name) else None

abbrev pub with_model : Option Model → List ℕ → Option Opening
with_model None rest = None
with_model (Some model) rest = new_session model rest

abbrev pub session_of : List ℕ → Option Opening
session_of [] = None
session_of (digit ∷ rest) = with_model (model_of digit) rest

-- what the text of the first message asks for; None if it is neither
abbrev pub opening_of : List ℕ → Option Opening
opening_of text =
    if starts_with nat_eq text (codes "open ") then session_of (drop 5 text)
    else if starts_with nat_eq text (codes "resume ") then option_map Resume (token_of (drop 7 text))
    else None

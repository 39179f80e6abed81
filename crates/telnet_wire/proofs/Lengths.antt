-- How long what is written on the wire can be.
use Rattle.std.proofs.Common.{ℕ, ◌+◌, ◌*◌, ◌<◌, ◌≤◌, ◌==◌, true, false, List, [], ◌∷◌, length, arith, length-append, rules, if◌then◌else◌, Result, Ok, Err, OnErr, IsOk}
use Rattle.std.specs.declared.alloc.AllocError.{AllocError}
use Rattle.std.specs.List.{flat_map}
use Rattle.telnet_wire.specs.Token.{Sub, escaped, spelling, text}
use Rattle.telnet_wire.specs.Items.{record_tokens}

escaped_fits : (byte : ℕ) → length (escaped byte) ≤ 2
escaped_fits byte = elim (byte == 255) as (λ v. length (if v then 255 ∷ 255 ∷ [] else byte ∷ []) ≤ 2) [ true ↦ omega arith | false ↦ omega arith ]

escaped_all_fit : (bytes : List ℕ) → length (flat_map escaped bytes) ≤ 2 * length bytes
escaped_all_fit [] = omega arith
escaped_all_fit (byte ∷ bytes) = simp length-append (omega (arith, escaped_fits byte, escaped_all_fit bytes))

-- a subnegotiation takes at most two bytes for each of its own, and its begin and end
pub sub_fits : (bytes : List ℕ) → length (spelling (Sub bytes)) ≤ 2 * length bytes + 4
sub_fits bytes = simp length-append (omega (arith, escaped_all_fit bytes))

-- a record takes at most two bytes for each of its own, and its end
pub record_fits : (bytes : List ℕ) → length (text (record_tokens bytes)) ≤ 2 * length bytes + 2
record_fits [] = omega arith
record_fits (byte ∷ bytes) = simp length-append (omega (arith, escaped_fits byte, record_fits bytes))

-- a call that is refused only where there is no room succeeds where there is
pub ok_with_room : (result : Result (Unit {0}) AllocError) (capacity needed : ℕ) → OnErr result (capacity < needed) → needed ≤ capacity → IsOk result
ok_with_room (Ok answer) capacity needed full fits = search rules
ok_with_room (Err fault) capacity needed full fits = absurd (omega arith)

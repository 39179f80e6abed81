-- What a reader holds.
use Rattle.std.proofs.Common.{◌≡◌, ℕ, ◌+◌, ◌≤◌, List, ◌++◌, length, take, drop, Option, Some, None, Result, Ok, Err, IfErr, IfOk, IfSome, take_at, refl, sym, ap, ◌∙◌, arith}
use borrow.Rule.Slice.PartMut.{put_mid}
use Rattle.std.proofs.Math.Seq.{paste}
use Rattle.std.proofs.lemmas.List.Edits.{paste_all, take-paste}
use Rattle.std.proofs.lemmas.Slice.{put_mid-paste}
use Rattle.std.proofs.lemmas.List.{length-take-le, take_all}
use Rattle.service_wire.specs.Fronts.{Lacks}
use Rattle.service_wire.specs.Header.{HasHeader, IsHeader, IsRefused, IsWholly}
use Rattle.service_wire.specs.declared.header_fault.HeaderFault.{HeaderFault}
use Rattle.service_wire.specs.declared.header.Header.{Header}
use Rattle.service_wire.proofs.Missing.{wholly}

pub put_parts : (room bytes put : List ℕ) (place k : ℕ) → place + length bytes ≤ length room → put ≡ bytes → k ≡ length bytes → (take place (put_mid place k room put) ≡ take place room) × (take (place + length bytes) (put_mid place k room put) ≡ take place room ++ bytes)
put_parts room bytes put place k fits same count =
    let whole : put_mid place k room put ≡ paste room place bytes (length bytes) = put_mid-paste place k room put bytes (length bytes) same (sym count) refl in
    let parts : put_mid place k room put ≡ take place room ++ (bytes ++ drop (place + length bytes) room) = whole ∙ paste_all room place bytes (length bytes) refl in
    let before : take place (take place room ++ (bytes ++ drop (place + length bytes) room)) ≡ take place room =
    take_at (take place room) (bytes ++ drop (place + length bytes) room) place (length-take-le place room (omega arith)) in
    let added : take (place + length bytes) (paste room place bytes (length bytes)) ≡ take place room ++ take (length bytes) bytes =
    take-paste room place bytes (length bytes) (omega arith) (omega arith) in
    (ap (take place) parts ∙ before, ap (take (place + length bytes)) whole ∙ added ∙ ap (λ (b : List ℕ). take place room ++ b) (take_all (length bytes) bytes (omega arith)))

pub found_wholly : (old bytes : List ℕ) (answer : Result (Option Header) HeaderFault) → Lacks IsHeader old (length bytes) → IfOk answer (λ found. IfSome found (HasHeader (old ++ bytes))) → IfOk answer (λ found. IfSome found (IsWholly (old ++ bytes)))
found_wholly old bytes (Ok None) lacks is = is
found_wholly old bytes (Ok (Some header)) lacks is = wholly old bytes header lacks is
found_wholly old bytes (Err why) lacks is = is

pub refused_here : (old bytes read : List ℕ) (answer : Result (Option Header) HeaderFault) → read ≡ old ++ bytes → IfErr answer (IsRefused read) → IfErr answer (IsRefused (old ++ bytes))
refused_here old bytes read answer same is = rw same at is

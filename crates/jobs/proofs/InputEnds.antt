-- How the reading of an input ends, from its reads.
use Rattle.std.proofs.Common.{◌≡◌, ℕ, zero, suc, ◌+◌, ◌<◌, ◌≤◌, List, ◌++◌, length, take, Result, Ok, Err, IfOk, IfErr, OnErr, OnOk, IsUtf8, refl, sym, subst, arith, length-append}
use Rattle.std.specs.Io.KnownBytes.{Consumes}
use Rattle.std.proofs.KnownBytes.{Consumes-trans}
use Rattle.std.proofs.lemmas.List.{length-take-le}
use Rattle.jobs.specs.Counting.{Input, more}
use Rattle.jobs.specs.Runs.{ReadWhole, NotRead, too_many_bytes, no_text, most_bytes, RefusesInput, IsInput}
use Rattle.jobs.specs.declared.fault.Fault.{Fault}
use Rattle.jobs.specs.declared.fault.Fault.TheVariants.{InputNotRead}

-- one read more, where as many were counted before as there were rounds
pub reads_more : (first old new rounds : ℕ) → (rounds ≡ 0 → old ≡ first) → (0 < rounds → old ≡ more first rounds) → new ≡ more old 1
    → new ≡ more first (rounds + 1)
reads_more first old new zero none some is = let before = none refl in omega arith
reads_more first old new (suc rounds) none some is =
    let positive : 0 < suc rounds = omega arith in
    let before = some positive in
    omega arith

-- what was read is no text
pub refused : {T : Type 0} → (text : Result T Fault) (old new : Input) (bytes : List ℕ) → ReadWhole old new bytes → IfErr text (λ fault. fault ≡ InputNotRead)
    → OnErr text (IsUtf8 bytes → ⊥) → IfErr text (λ fault. RefusesInput fault old new)
refused (Ok text) old new bytes whole is none = tt
refused (Err fault) old new bytes whole is none = subst (λ f. RefusesInput f old new) (sym is) (no_text bytes whole none)

-- what was read is text, and not too much
pub accepted : {T : Type 0} → (bytes_of : T → List ℕ) → (text : Result T Fault) (old new : Input) (bytes : List ℕ) → ReadWhole old new bytes
    → length bytes ≤ most_bytes → IfOk text (λ it. bytes_of it ≡ bytes) → OnOk text (IsUtf8 bytes) → IfOk text (λ it. IsInput old new (bytes_of it))
accepted bytes_of (Ok it) old new bytes whole within is utf8 = subst (IsInput old new) (sym is) (record { read_whole = whole; within = within; utf8 = utf8 })
accepted bytes_of (Err fault) old new bytes whole within is utf8 = tt

-- what was read before, and now, is too much
pub too_many : (first old new : Input) (bytes buffer : List ℕ) (count : ℕ) → Consumes first.left old.left bytes → Consumes old.left new.left (take count buffer)
    → count ≤ length buffer → most_bytes < length bytes + count → NotRead first new
too_many first old new bytes buffer count before now within long =
    too_many_bytes (bytes ++ take count buffer) (Consumes-trans first.left old.left new.left bytes (take count buffer) before now)
    (let n = length-take-le count buffer within in let m = length-append bytes (take count buffer) in omega arith)

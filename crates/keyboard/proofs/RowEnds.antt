-- The rows of a screen of any size.
use Rattle.std.proofs.Common.{◌≡◌, ℕ, zero, suc, ◌+◌, ◌-◌, ◌*◌, ◌/◌, ◌%◌, ◌<◌, ◌≤◌, arith}
use Rattle.std.proofs.Math.Nat.{mod-lt, div-lt_iff_lt-mul, mul-le-mul_right}
use Rattle.std.proofs.lemmas.Nat.{div-add-mod'}

pub some_columns : (rows columns : ℕ) → 0 < rows * columns → 0 < columns
some_columns rows zero some = absurd (omega (arith, some))
some_columns rows (suc columns) some = omega arith

pub few_columns : (rows columns : ℕ) → 0 < rows * columns → columns ≤ rows * columns
few_columns zero columns some = absurd (omega (arith, some))
few_columns (suc rows) columns some = omega (arith, mul-le-mul_right {m = 1} {n = suc rows} columns (omega arith))

-- a row ends on the screen
pub row_ends_inside : (rows columns at : ℕ) → at < rows * columns → at + (columns - 1 - at % columns) < rows * columns
row_ends_inside rows columns at inside =
    let some : 0 < columns = some_columns rows columns (omega (arith, inside)) in
    let row : at / columns < rows = (div-lt_iff_lt-mul {x = at} {y = rows} some).1 inside in
    let split : at / columns * columns + at % columns ≡ at = div-add-mod' at columns in
    let below : at % columns < columns = mod-lt at some in
    let next : (at / columns + 1) * columns ≤ rows * columns = mul-le-mul_right columns (omega (arith, row)) in
    let more : (at / columns + 1) * columns ≡ at / columns * columns + columns = omega arith in
    omega (arith, split, below, next, more)

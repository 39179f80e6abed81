-- One append after another, and a loop of appends.
use Rattle.std.proofs.Common.{◌≡◌, ℕ, ◌≤◌, List, [], ◌++◌, length, take, Result, Ok, Err, Vec, vec_len, arith, refl, sym, ◌∙◌, ap, append_assoc, append-nil, length-append, take_at}
use Rattle.std.specs.Vec.{vec_capacity}
use Rattle.std.proofs.lemmas.List.{take_all, take-take, take-append-le}
use Rattle.codes3270.specs.Appending.{Appends, AppendsSome}

pub some_from : {A E : Type 0} (old new : Vec ℕ A) (result : Result (Unit {0}) E) (bytes : List ℕ) → Appends old new result bytes → AppendsSome old new result bytes
some_from old new (Ok u) bytes a = record {
  ok = a.ok;
  kept = ap (take (vec_len old)) a.ok ∙ take_at old.items bytes (vec_len old) (omega (arith, old.ok.0));
  longer = omega (arith, old.ok.0, new.ok.0, ap length a.ok, length-append old.items bytes);
  room = tt;
  capacity = a.capacity;
}
some_from old new (Err e) bytes a = record {
  ok = tt;
  kept = ap (take (vec_len old)) a.err ∙ take_all (vec_len old) old.items (omega (arith, old.ok.0));
  longer = omega (arith, old.ok.0, new.ok.0, ap length a.err);
  room = a.room;
  capacity = a.capacity;
}

-- so far a front of a text was appended, and this rest of it is missing
pub record IsAppending {A : Type 0} (old now : Vec ℕ A) (rest whole : List ℕ) : Type 0 where
  pub joined : now.items ++ rest ≡ old.items ++ whole
  pub kept : take (vec_len old) now.items ≡ old.items
  pub longer : vec_len old ≤ vec_len now
  pub capacity : vec_capacity old ≤ vec_capacity now

pub appending_from : {A : Type 0} (old : Vec ℕ A) (whole : List ℕ) → IsAppending old old whole whole
appending_from old whole = record {
  joined = refl;
  kept = take_all (vec_len old) old.items (omega (arith, old.ok.0));
  longer = omega arith;
  capacity = omega arith;
}

-- a piece more
pub appending_more : {A E : Type 0} (old now new : Vec ℕ A) (u : Unit {0}) (piece rest whole : List ℕ) → IsAppending old now (piece ++ rest) whole → AppendsSome {E = E} now new (Ok u) piece
    → IsAppending old new rest whole
appending_more old now new u piece rest whole before here = record {
  joined = ap (λ (items : List ℕ). items ++ rest) here.ok ∙ append_assoc now.items piece rest ∙ before.joined;
  kept = ap (take (vec_len old)) here.ok ∙ take-append-le (vec_len old) now.items piece (let longer = before.longer in omega (arith, now.ok.0)) ∙ before.kept;
  longer = let first = before.longer in let second = here.longer in omega arith;
  capacity = let first = before.capacity in let second = here.capacity in omega arith;
}

-- a piece had no room
pub appending_stopped : {A E F : Type 0} (old now new : Vec ℕ A) (e : E) (f : F) (piece rest whole : List ℕ) → IsAppending old now (piece ++ rest) whole → AppendsSome now new (Err e) piece
    → AppendsSome old new (Err f) whole
appending_stopped old now new e f piece rest whole before here =
    let sum = ap length before.joined in
    let left = length-append now.items (piece ++ rest) in
    let right = length-append old.items whole in
    let parts = length-append piece rest in
    record {
      ok = tt;
      kept = sym (take-take (vec_len old) (vec_len now) new.items before.longer) ∙ ap (take (vec_len old)) here.kept ∙ before.kept;
      longer = let first = before.longer in let second = here.longer in omega arith;
      room = let room = here.room in let first = before.capacity in omega (arith, old.ok.0, now.ok.0);
      capacity = let first = before.capacity in let second = here.capacity in omega arith;
    }

-- all of it was appended
pub appending_done : {A E : Type 0} (old now : Vec ℕ A) (u : Unit {0}) (whole : List ℕ) → IsAppending old now [] whole → AppendsSome {E = E} old now (Ok u) whole
appending_done old now u whole before = record {
  ok = sym (append-nil now.items) ∙ before.joined;
  kept = before.kept;
  longer = before.longer;
  room = tt;
  capacity = before.capacity;
}

-- a last piece, behind which nothing is missing once it is there
pub appending_last : {A E : Type 0} (old now new : Vec ℕ A) (result : Result (Unit {0}) E) (piece whole : List ℕ) → IsAppending old now piece whole → AppendsSome now new result piece
    → AppendsSome old new result whole
appending_last {E = E} old now new (Ok u) piece whole before here =
    let start : IsAppending old now (piece ++ []) whole = rw append-nil before in
    appending_done {E = E} old new u whole (appending_more {E = E} old now new u piece [] whole start here)
appending_last old now new (Err e) piece whole before here =
    let start : IsAppending old now (piece ++ []) whole = rw append-nil before in
    appending_stopped old now new e e piece [] whole start here

-- a second append behind one that succeeded
pub some_then : {A E F : Type 0} (old now new : Vec ℕ A) (u : Unit {0}) (result : Result (Unit {0}) E) (first second : List ℕ)
    → AppendsSome {E = F} old now (Ok u) first → AppendsSome now new result second → AppendsSome old new result (first ++ second)
some_then {E = E} {F = F} old now new u result first second before here =
    appending_last {E = E} old now new result second (first ++ second)
    (appending_more {E = F} old old now u first second (first ++ second) (appending_from old (first ++ second)) before) here

-- what failed has failed for a longer text too
pub some_longer : {A E F : Type 0} (old new : Vec ℕ A) (e : E) (f : F) (first second : List ℕ) → AppendsSome old new (Err e) first → AppendsSome old new (Err f) (first ++ second)
some_longer old new e f first second stopped = appending_stopped old old new e f first second (first ++ second) (appending_from old (first ++ second)) stopped

-- the same text otherwise said
pub some_same : {A E : Type 0} (old new : Vec ℕ A) (result : Result (Unit {0}) E) (some other : List ℕ) → some ≡ other → AppendsSome old new result some → AppendsSome old new result other
some_same old new result some other same here = rw (← same) here

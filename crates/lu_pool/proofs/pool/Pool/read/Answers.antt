use Rattle.std.proofs.Common.{◌≡◌, ◌+◌, ◌≤◌, [], ◌∷◌, ◌++◌, None, length, length-append, arith, refl}
use Rattle.lu_pool.specs.Pool.{entry}
use Rattle.std.proofs.lemmas.Result.{err_from_is_err_and}
use Rattle.lu_pool.specs.Reading.{parsed_names}
use Rattle.lu_pool.proofs.Listing.{none_listed, one_more_listed, first_fault, listed_pool, read_from, all_right, reading_at, readings_length}
use Rattle.lu_pool.proofs.Changes.{one_holder, one_lu}
use Rattle.lu_pool.proofs.pool.Pool.read.Goals as goal

pub loop-place-init : goal.loop-place-init
loop-place-init c = rw c.in_ok-entries.ensures.items (record {
  count = rw (readings_length c.args.names.now) (c.is_count.ensures.0 c.if-not-is_count.false);
  listed = none_listed (parsed_names c.args.names.now);
  long = refl;
})

pub loop-place-preserved : goal.loop-place-preserved
loop-place-preserved c =
    let here = reading_at c.args.names.now c.loop-place.place c.index-names-place.result c.as_bytes.result.now c.loop-place-test.true c.index-names-place.is c.as_bytes.ensures.value in
    let new = (rw c.deref.ensures.value at c.in_ok-lu.ensures.new) in
    let long : length (c.loop-place.entries.items ++ entry c.in_ok-lu.lu None ∷ []) ≡ c.loop-place.place + 1 = omega (arith, length-append c.loop-place.entries.items (entry c.in_ok-lu.lu None ∷ []), c.loop-place.invariant.long) in
    rw c.in_ok-add_free.ensures (record {
      count = c.loop-place.invariant.count;
      listed = one_more_listed (parsed_names c.args.names.now) c.loop-place.place c.loop-place.entries.items c.in_ok-lu.lu _ c.loop-place.invariant.listed here new;
      long = long;
    })

pub returns-in_err-lu-clause-fault : goal.returns-in_err-lu-clause-fault
returns-in_err-lu-clause-fault c =
    let p = err_from_is_err_and c.from_residual-in_err-lu.result c.from_residual-in_err-lu.ensures.1 in
    let here = reading_at c.args.names.now c.loop-place.place c.index-names-place.result c.as_bytes.result.now c.loop-place-test.true c.index-names-place.is c.as_bytes.ensures.value in
    let fault = (rw c.deref.ensures.value at c.in_err-lu.ensures.fault) in
    rw (p.1, p.2) (first_fault (parsed_names c.args.names.now) c.loop-place.place c.loop-place.entries.items _ _ c.loop-place.invariant.count c.loop-place.invariant.listed c.loop-place.invariant.long here fault)

pub invariant_of-result : goal.invariant_of-result
invariant_of-result c =
    let whole : length (parsed_names c.args.names.now) ≤ c.loop-place.place = omega (arith, readings_length c.args.names.now) in
    listed_pool (parsed_names c.args.names.now) c.loop-place.place c.loop-place.entries.items c.loop-place.invariant.count c.loop-place.invariant.listed whole

pub returns-clause-read : goal.returns-clause-read
returns-clause-read c =
    let whole : length (parsed_names c.args.names.now) ≤ c.loop-place.place = omega (arith, readings_length c.args.names.now) in
    read_from (parsed_names c.args.names.now) c.loop-place.place c.loop-place.entries.items c.loop-place.invariant.listed whole

pub returns-clause-right : goal.returns-clause-right
returns-clause-right c =
    let whole : length (parsed_names c.args.names.now) ≤ c.loop-place.place = omega (arith, readings_length c.args.names.now) in
    all_right (parsed_names c.args.names.now) c.loop-place.place c.loop-place.entries.items c.loop-place.invariant.count c.loop-place.invariant.listed whole

pub returns-clause-one_holder : goal.returns-clause-one_holder
returns-clause-one_holder c =
    let whole : length (parsed_names c.args.names.now) ≤ c.loop-place.place = omega (arith, readings_length c.args.names.now) in
    one_holder c.loop-place.entries.items (listed_pool (parsed_names c.args.names.now) c.loop-place.place c.loop-place.entries.items c.loop-place.invariant.count c.loop-place.invariant.listed whole)

pub returns-clause-one_lu : goal.returns-clause-one_lu
returns-clause-one_lu c =
    let whole : length (parsed_names c.args.names.now) ≤ c.loop-place.place = omega (arith, readings_length c.args.names.now) in
    one_lu c.loop-place.entries.items (listed_pool (parsed_names c.args.names.now) c.loop-place.place c.loop-place.entries.items c.loop-place.invariant.count c.loop-place.invariant.listed whole)

pub returns-clause-is_pool : goal.returns-clause-is_pool
returns-clause-is_pool c =
    let whole : length (parsed_names c.args.names.now) ≤ c.loop-place.place = omega (arith, readings_length c.args.names.now) in
    listed_pool (parsed_names c.args.names.now) c.loop-place.place c.loop-place.entries.items c.loop-place.invariant.count c.loop-place.invariant.listed whole

use Rattle.lu_pool.proofs.Finding.{any_place_by}
use Rattle.lu_pool.proofs.places.any_place.Goals as goal

pub returns : goal.returns
returns c =
    let all = any_place_by c.args.entries.now c.free_place.result c.free_place.ensures in
    rw c.ok_or.ensures.value (record { granted = all.0; refused = all.1 })

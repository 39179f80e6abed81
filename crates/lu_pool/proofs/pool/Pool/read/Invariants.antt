use Rattle.std.proofs.Common.{◌≡◌, length}
use Rattle.lu_pool.specs.Pool.{IsCount}
use Rattle.lu_pool.specs.Reading.{parsed_names}
use Rattle.lu_pool.proofs.Listing.{IsListed}
use Rattle.lu_pool.proofs.pool.Pool.read.Given as goal

abbrev pub invariant-loop-place : goal.invariant-loop-place
invariant-loop-place l = record {
  count : IsCount (length (parsed_names l.names));
  listed : IsListed (parsed_names l.names) l.place l.entries.items;
  long : length l.entries.items ≡ l.place;
}

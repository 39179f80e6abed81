use Rattle.datastream.proofs.OrderPlaces.{by_place, ends_by_place, only_by_place}
use Rattle.datastream.proofs.laws.tabs_by_place.Goals as goal

pub returns-clause-by_place : goal.returns-clause-by_place
returns-clause-by_place c = λ orders start. (_, by_place orders start, ends_by_place orders start)

pub returns-clause-only : goal.returns-clause-only
returns-clause-only c = only_by_place

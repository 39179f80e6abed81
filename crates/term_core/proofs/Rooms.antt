-- The room that a terminal makes for its output suffices.
use Rattle.std.proofs.Common.{arith, subst}
use Rattle.tn3270e_msg.specs.declared.cause.Stop.{Stop}
use Rattle.term_core.specs.Feeds.{StopsFor}
use Rattle.term_core.specs.Laws.{FeedingHasRoom, KeysHaveRoom}

pub feeding_has_room : FeedingHasRoom
feeding_has_room room old new bytes fed roomy feeds memory =
    let stops = subst (λ (stop : Stop). StopsFor room stop old bytes fed.taken new) memory feeds.stops in
    omega (arith, roomy, stops.2)

pub keys_have_room : KeysHaveRoom
keys_have_room room key old roomy lacks = omega (arith, roomy, lacks.full)

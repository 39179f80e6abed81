use Rattle.std.proofs.Common.{◌≡◌, map, take}
use Rattle.world3270.specs.model.ByteWorld.{new_slot}
use Rattle.world3270.proofs.network.new_slots.Given as goal

abbrev pub invariant-loop-model : goal.invariant-loop-model
invariant-loop-model l = l.slots.items ≡ map new_slot (take l.model-index l.models)

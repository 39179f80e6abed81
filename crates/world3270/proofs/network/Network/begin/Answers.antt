use Rattle.std.proofs.Common.{subst, sym, ◌≡◌, false}
use Rattle.world3270.specs.model.ByteWorld.{ByteWorld}
use Rattle.world3270.specs.model.ByteSteps.{is_held}
use Rattle.world3270.proofs.Steps.{is_free_there}
use Rattle.world3270.proofs.network.Network.begin.Goals as goal

pub attach-requires-clause-free : goal.attach-requires-clause-free
attach-requires-clause-free c =
    let old : ByteWorld = record { host = c.self.inside.host; links = c.self.inside.links.items; slots = c.self.inside.slots.items } in
    is_free_there c.args.conn old (subst (λ (w : ByteWorld). is_held c.args.conn w ≡ false) (sym c.self.view_is) c.requires.free)

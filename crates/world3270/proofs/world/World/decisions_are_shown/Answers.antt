use Rattle.world3270.proofs.world.World.decisions_are_shown.Goals as goal

pub returns : goal.returns
returns c = c.what_is_shown_stays.ensures.decisions c.args.self.now

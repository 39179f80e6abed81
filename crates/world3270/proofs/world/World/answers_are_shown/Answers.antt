use Rattle.world3270.proofs.world.World.answers_are_shown.Goals as goal

pub returns : goal.returns
returns c = c.what_is_shown_stays.ensures.answers c.args.self.now

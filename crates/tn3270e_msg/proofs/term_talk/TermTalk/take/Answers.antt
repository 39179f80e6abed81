use Rattle.std.proofs.Common.{refl}
use Rattle.tn3270e_msg.specs.Hearing.{heard_says}
use Rattle.tn3270e_msg.proofs.term_talk.TermTalk.take.Goals as goal

pub returns : goal.returns
returns c =
    rw (← c.self.view_is) (record {
      comes = heard_says c.hear.result;
      hears = c.hear.ensures;
      gives = (rw c.transition-transition.ensures at c.follow.ensures);
      model = refl;
      wanted = refl;
    })

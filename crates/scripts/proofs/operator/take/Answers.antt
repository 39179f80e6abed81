use Rattle.std.proofs.Common.{⊎_elim, sym, ◌∙◌}
use Rattle.scripts.proofs.Waits.{is_fed}
use Rattle.scripts.proofs.operator.take.Goals as goal

pub returns-in-Going : goal.returns-in-Going
returns-in-Going c =
    let feeds = c.feed.ensures.fed in
    is_fed c.feed.new.self.room c.args.terminal.now.terminal c.feed.new.self.terminal c.args.bytes.now c.feed.result.taken c.feed.result.stop c.requires
    feeds.few feeds.takes feeds.stops
    (λ memory. ⊎_elim (λ is. absurd (let no = sym is ∙ memory in cc)) (λ is. absurd (let no = sym is.1 ∙ memory in cc)) c.in-Going.is)

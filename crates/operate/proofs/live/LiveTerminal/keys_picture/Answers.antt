use Rattle.std.proofs.Common.{IfOk, List, ℕ, subst, ◌≡◌}
use Rattle.presentation.specs.Sizes.{SizedScreen}
use Rattle.tty.specs.Painting.{page_of}
use Rattle.operate.specs.Live.{Live}
use Rattle.operate.proofs.live.LiveTerminal.keys_picture.Goals as goal

pub returns : goal.returns
returns c =
    subst (λ (live : Live). IfOk c.page.result (λ picture. picture ≡ page_of live.seat.terminal.station.screen live.seat.settings.page)) c.self.view_is
    (subst (λ (screen : SizedScreen). IfOk c.page.result (λ picture. picture ≡ page_of screen c.self.inside.settings.page)) c.screen.ensures
    (subst (λ (lines : List (List ℕ)). IfOk c.page.result (λ picture. picture ≡ page_of c.screen.result.now lines)) c.lines.ensures c.page.ensures))

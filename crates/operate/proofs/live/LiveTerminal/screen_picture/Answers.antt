use Rattle.std.proofs.Common.{IfOk, length, nat_lt, subst, ◌≡◌}
use Rattle.presentation.specs.Sizes.{SizedScreen}
use Rattle.term_core.specs.State.{Terminal, phase_of}
use Rattle.tty.specs.Painting.{picture_of}
use Rattle.operate.specs.Live.{Live, is_connected, lu_place, screen_at, seconds_of, status_place}
use Rattle.operate.proofs.live.LiveTerminal.screen_picture.Goals as goal

pub returns : goal.returns
returns c =
    let terminal : Terminal = c.self.inside.terminal.terminal in
    subst (λ (live : Live). IfOk c.new.result (λ picture. picture ≡ screen_at live.seat)) c.self.view_is
    (subst (λ (screen : SizedScreen). IfOk c.new.result (λ picture. picture ≡ picture_of (status_place c.self.inside.overlay c.self.inside.size.rows screen.size.rows) screen terminal.station.keyboard (is_connected (phase_of terminal.link)) c.self.inside.trouble (lu_place (phase_of terminal.link)) (nat_lt 0 (length c.self.inside.typeahead)) (seconds_of c.self.inside.waited))) c.screen-screen.ensures
    (rw c.seconds_of.ensures at (rw c.len.ensures at (rw c.status_place.ensures at (rw c.phase-phase.ensures at (rw c.lu_place.ensures at (rw c.is_connected.ensures at (rw c.keyboard.ensures at c.new.ensures))))))))

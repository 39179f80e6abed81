use Rattle.std.proofs.Common.{◌∙◌, Some, ap, refl, slice_set}
use Rattle.applications.specs.SessionNames.{session_after}
use Rattle.server.specs.Hosts.{opened as with_opened}
use Rattle.service_events.specs.declared.notice.Notice.TheVariants as notice
use Rattle.jobs.specs.Sockets.{opened, slot_at, with_slot}
use Rattle.server.specs.Accepting.{begins, client_of, starved}
use Rattle.server.specs.ConnectionInfos.{new_info}
use Rattle.server.specs.Watching.{Noticed}
use Rattle.server.proofs.Admitting.{begun_is}
use Rattle.server.proofs.Reports.{told_once}
use Rattle.server.proofs.server.Server.admit.Goals as goal

pub returns-in-Err : goal.returns-in-Err
returns-in-Err g c =
    starved c.in-Some.conn c.in-Some.ensures.least (ap (λ it. record c.args.self.now { hosts = it }) c.in-Err.ensures.unchanged) refl refl

pub returns : goal.returns
returns g c =
    begins c.in-Some.conn c.in-Some.ensures.least
    (begun_is c.args.self.now c.open.new.self (with_opened c.in-Some.conn c.args.self.now.hosts)
    c.open-2.new.self (with_slot c.in-Some.conn (opened c.args.accepted.socket (slot_at c.in-Some.conn c.args.self.now.sockets)) c.args.self.now.sockets)
    c.set.new.self (slice_set c.args.self.now.infos c.in-Some.conn (Some (new_info (client_of c.in-Some.conn c.args.accepted c.args.self.now) c.args.self.now.now)))
    c.next-self.result (session_after c.args.self.now.next_session)
    c.in-Ok.ensures.opened c.open-2.ensures
    (c.set.ensures ∙ ap (λ it. slice_set c.args.self.now.infos c.in-Some.conn (Some it)) c.new.ensures) c.next-self.ensures)
    (told_once g.W.Watcher.noticed g.W.Watcher.showed (Noticed (notice.Connected (client_of c.in-Some.conn c.args.accepted c.args.self.now)))
    c.args.watcher.now c.notice-2.new.self c.notice-2.result c.notice-2.ensures)

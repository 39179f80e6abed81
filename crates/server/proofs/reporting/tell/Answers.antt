use Rattle.service_events.specs.declared.notice.Notice.TheVariants as notice
use Rattle.server.specs.Watching.{Noticed, Showed}
use Rattle.server.proofs.Reports.{told_once}
use Rattle.server.proofs.reporting.tell.Goals as goal

pub returns-in-Rejected : goal.returns-in-Rejected
returns-in-Rejected g c =
    rw c.in-Rejected.is (told_once g.W.Watcher.noticed g.W.Watcher.showed (Noticed (notice.Rejected c.args.client.now c.in-Rejected.rejection)) c.args.watcher.now c.notice.new.self c.notice.result c.notice.ensures)

pub returns-in-Bound : goal.returns-in-Bound
returns-in-Bound g c =
    rw c.in-Bound.is (told_once g.W.Watcher.noticed g.W.Watcher.showed (Noticed (notice.Bound c.args.client.now c.in-Bound.lu)) c.args.watcher.now c.notice-in-Bound.new.self c.notice-in-Bound.result c.notice-in-Bound.ensures)

pub returns-in-KeyDropped : goal.returns-in-KeyDropped
returns-in-KeyDropped g c =
    rw c.in-KeyDropped.is (told_once g.W.Watcher.noticed g.W.Watcher.showed (Noticed (notice.KeyDropped c.args.client.now c.in-KeyDropped.key)) c.args.watcher.now c.notice-in-KeyDropped.new.self c.notice-in-KeyDropped.result c.notice-in-KeyDropped.ensures)

pub returns-in-RuleBroken : goal.returns-in-RuleBroken
returns-in-RuleBroken g c =
    rw c.in-RuleBroken.is (told_once g.W.Watcher.noticed g.W.Watcher.showed (Noticed (notice.RuleBroken c.args.client.now c.in-RuleBroken.broken)) c.args.watcher.now c.notice-in-RuleBroken.new.self c.notice-in-RuleBroken.result c.notice-in-RuleBroken.ensures)

pub returns-in-CharacterReplaced : goal.returns-in-CharacterReplaced
returns-in-CharacterReplaced g c =
    rw c.in-CharacterReplaced.is (told_once g.W.Watcher.noticed g.W.Watcher.showed (Noticed (notice.CharacterReplaced c.args.client.now)) c.args.watcher.now c.notice-in-CharacterReplaced.new.self c.notice-in-CharacterReplaced.result c.notice-in-CharacterReplaced.ensures)

pub returns-in-ScreenRestored : goal.returns-in-ScreenRestored
returns-in-ScreenRestored g c =
    rw c.in-ScreenRestored.is (told_once g.W.Watcher.noticed g.W.Watcher.showed (Noticed (notice.ScreenRestored c.args.client.now c.in-ScreenRestored.why)) c.args.watcher.now c.notice-in-ScreenRestored.new.self c.notice-in-ScreenRestored.result c.notice-in-ScreenRestored.ensures)

pub returns-in-Shown : goal.returns-in-Shown
returns-in-Shown g c =
    rw c.in-Shown.is (told_once g.W.Watcher.noticed g.W.Watcher.showed (Showed c.args.host.now c.args.conn) c.args.watcher.now c.shown.new.self c.shown.result c.shown.ensures)

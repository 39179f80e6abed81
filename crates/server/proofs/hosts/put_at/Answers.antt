use Rattle.std.proofs.Common.{arith, ◌∙◌}
use Rattle.server.proofs.Places.{put_behind, put_set}
use Rattle.server.proofs.hosts.put_at.Goals as goal

pub returns-then-place-len-clause-put : goal.returns-then-place-len-clause-put
returns-then-place-len-clause-put c =
    let below = c.if-place-len.true in
    let count = c.len.ensures in
    let len = c.args.hosts.now.ok.0 in
    put_set c.args.place c.args.host c.args.hosts.now.items (omega (arith, below, count, len))

pub returns-in_ok-push-clause-put : goal.returns-in_ok-push-clause-put
returns-in_ok-push-clause-put c =
    let above = c.if-place-len.false in
    let count = c.len.ensures in
    let len = c.args.hosts.now.ok.0 in
    c.in_ok-push.ensures.items ∙ put_behind c.args.place c.args.host c.args.hosts.now.items (omega (arith, above, count, len))

use Rattle.std.proofs.Common.{rules}
use Rattle.applications.proofs.ended_session.notification_of.Goals as goal

pub returns : goal.returns
returns c = record {
  notification = record { session = c.as_str.result; lu = c.as_str-2.result; reason = c.args.ended.now.reason };
  session = search rules;
  lu = search rules;
  reason = search rules;
  bytes_are = search rules;
}

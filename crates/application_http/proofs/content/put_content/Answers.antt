use Rattle.std.proofs.Common.{sym, subst}
use Rattle.application_http.specs.Contents.{IsAccepted}
use Rattle.application_http.proofs.Contents.{accepts, whole_in, lacking_in, wrong_in}
use Rattle.application_http.proofs.content.put_content.Goals as goal

pub returns-in-Ok-clause-whole : goal.returns-in-Ok-clause-whole
returns-in-Ok-clause-whole c =
    let accepted : IsAccepted c.args.bytes.now c.in-Ok.framing c.behind.result.now =
    subst (IsAccepted c.args.bytes.now c.in-Ok.framing) (sym c.behind.ensures) (accepts c.args.bytes.now c.args.head c.in-Ok.framing c.requires.is_head c.if-head-ne-ACCEPTED.false c.in-Ok.is) in
    whole_in c.args.is_closed c.args.bytes.now c.behind.result.now c.in-Ok.framing _ c.put_body.result accepted c.put_body.ensures.whole

pub returns-in-Ok-clause-lacks_end : goal.returns-in-Ok-clause-lacks_end
returns-in-Ok-clause-lacks_end c =
    let accepted : IsAccepted c.args.bytes.now c.in-Ok.framing c.behind.result.now =
    subst (IsAccepted c.args.bytes.now c.in-Ok.framing) (sym c.behind.ensures) (accepts c.args.bytes.now c.args.head c.in-Ok.framing c.requires.is_head c.if-head-ne-ACCEPTED.false c.in-Ok.is) in
    lacking_in c.args.is_closed c.args.bytes.now c.behind.result.now c.in-Ok.framing c.put_body.result accepted c.put_body.ensures.lacks_end

pub returns-in-Ok-clause-wrong : goal.returns-in-Ok-clause-wrong
returns-in-Ok-clause-wrong c =
    let accepted : IsAccepted c.args.bytes.now c.in-Ok.framing c.behind.result.now =
    subst (IsAccepted c.args.bytes.now c.in-Ok.framing) (sym c.behind.ensures) (accepts c.args.bytes.now c.args.head c.in-Ok.framing c.requires.is_head c.if-head-ne-ACCEPTED.false c.in-Ok.is) in
    wrong_in c.args.is_closed c.args.bytes.now c.behind.result.now c.in-Ok.framing c.put_body.result accepted c.put_body.ensures.wrong

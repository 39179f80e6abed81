use Rattle.std.proofs.Common.{rules, ◌≡◌, length}
use Rattle.application_http.specs.Keeping.{kept_after}
use Rattle.application_http.proofs.Contents.{is_kept}
use Rattle.application_http.proofs.content.kept_in.Goals as goal

pub returns : goal.returns
returns c =
    let same : c.kept_after.result ≡ kept_after c.args.is_over c.args.head.framing (length c.behind.result.now) c.args.head.kept = search rules in
    is_kept c.args.is_over c.args.bytes.now c.behind.result.now c.args.head c.kept_after.result c.requires c.behind.ensures same

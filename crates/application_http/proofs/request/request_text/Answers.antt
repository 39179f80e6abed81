use Rattle.application_http.proofs.Texts.{question_plain}
use Rattle.application_http.proofs.request.request_text.Goals as goal

pub post_text-requires : goal.post_text-requires
post_text-requires c = rw c.in_ok-value.ensures (question_plain c.args.request.now)

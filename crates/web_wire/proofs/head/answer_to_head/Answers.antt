use Rattle.std.proofs.Common.{◌∙◌}
use Rattle.web_wire.specs.Heads.{status_of}
use Rattle.web_wire.proofs.HeadLemmas.{decided}
use Rattle.web_wire.proofs.head.answer_to_head.Goals as goal

pub returns-in-Some : goal.returns-in-Some
returns-in-Some c =
    decided _ c.in-Some.status _
    (c.in-Some.ensures ∙ (λ i. status_of c.args.site.now (c.of-method.ensures i) (c.of-target.ensures i) (c.only_value-host.ensures i) (c.only_value-origin.ensures i) (c.is_last-is_last.ensures i)))

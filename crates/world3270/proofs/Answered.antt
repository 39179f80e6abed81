-- What the host does, and what it does by an answer, but for why memory may be wanted.
use Rattle.std.proofs.Common.{◌≡◌, Option, Some, None}
use Rattle.host_core.specs.Acts.{Sent}
use Rattle.host_core.specs.Application.{Application}
use Rattle.host_core.specs.Does.{Does, DoesAnswer, sent_on}
use Rattle.host_core.specs.State.{Connection}
use Rattle.host_core.specs.declared.acted.Acted.{Acted}
use Rattle.host_core.specs.declared.acted.Acted.TheVariants as acted
use Rattle.host_core.specs.declared.question.Answer.{Answer as ApplicationAnswer}

abbrev pub IsDone : Option Sent → Connection → Acted → Connection → Type 0
IsDone None old act new = (act ≡ acted.Nothing) × (new ≡ old)
IsDone (Some sent) old acted.Sent new = new ≡ sent_on sent old
IsDone (Some sent) old acted.Memory new = new ≡ old
IsDone (Some sent) old acted.Nothing new = ⊥

pub by_act : (what : Option Sent) (old : Connection) (act : Acted) (new : Connection) → Does what old act new → IsDone what old act new
by_act None old act new does = does
by_act (Some sent) old acted.Sent new does = does
by_act (Some sent) old acted.Memory new does = does.0
by_act (Some sent) old acted.Nothing new does = does

pub by_answer : (app : Application) (said : ApplicationAnswer) (what : Option Sent) (old : Connection) (act : Acted) (new : Connection) → DoesAnswer app said what old act new → IsDone what old act new
by_answer app said None old act new does = does
by_answer app said (Some sent) old acted.Sent new does = does
by_answer app said (Some sent) old acted.Memory new does = does.0
by_answer app said (Some sent) old acted.Nothing new does = does

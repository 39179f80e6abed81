use Rattle.std.proofs.lemmas.Str.{IsUtf8-string_bytes}
use Rattle.jobs.proofs.input.text_of.Goals as goal

pub returns-in-Ok-clause-utf8 : goal.returns-in-Ok-clause-utf8
returns-in-Ok-clause-utf8 c = rw (← c.in-Ok.ensures.ok) (IsUtf8-string_bytes c.in-Ok.text)

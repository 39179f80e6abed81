use Rattle.panels.proofs.KeptFields.{fields_kept_whole}
use Rattle.panels.proofs.NothingElseKept.{nothing_else_kept}
use Rattle.panels.proofs.laws.kept_fields_are_whole.Goals as goal

pub returns : goal.returns
returns c = record { whole = fields_kept_whole; nothing_else = nothing_else_kept }

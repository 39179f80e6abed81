use Rattle.tty.proofs.Hiding.{hidden_blank, hidden_untold}
use Rattle.tty.proofs.laws.hidden_fields_are_not_drawn.Goals as goal

pub returns-clause-blank : goal.returns-clause-blank
returns-clause-blank c = hidden_blank

pub returns-clause-untold : goal.returns-clause-untold
returns-clause-untold c = hidden_untold

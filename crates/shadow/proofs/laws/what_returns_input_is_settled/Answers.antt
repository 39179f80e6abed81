use Rattle.shadow.proofs.Settled.{settled_decided, returned_is_settled, read_is_settled, paint_returns_input, note_returns_input, note_stays_settled}
use Rattle.shadow.proofs.laws.what_returns_input_is_settled.Goals as goal

pub returns : goal.returns
returns c = record { decided = settled_decided; returned = returned_is_settled; read = read_is_settled; painted = paint_returns_input; noted = note_returns_input; kept = note_stays_settled }

use Rattle.std.proofs.Common.{◌∙◌, sym}
use Rattle.shadow.proofs.Placed.{known_there}
use Rattle.shadow.proofs.queries.known_held_at.Goals as goal

pub returns : goal.returns
returns c = c.known_cell.ensures ∙ sym (known_there c.args.beliefs.now c.args.at c.get.result c.requires.held c.requires.placed c.get.ensures)

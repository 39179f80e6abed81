use Rattle.panels.proofs.FieldsWanted.{fields_on_the_screen}
use Rattle.panels.proofs.laws.fields_are_on_the_screen.Goals as goal

pub returns : goal.returns
returns c = fields_on_the_screen

use Rattle.std.proofs.Common.{sym}
use Rattle.presentation.proofs.FieldLists.{fields_listed}
use Rattle.presentation.proofs.screen.Screen.fields.Goals as goal

pub returns : goal.returns
returns c = sym (fields_listed c.args.self.now.screen.cells)

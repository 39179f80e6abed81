use Rattle.std.proofs.Common.{arith}
use Rattle.panels.proofs.Linking.{first_value_few}
use Rattle.panels.proofs.draft.Draft.first_value.Goals as goal

pub overflow_add-result : goal.overflow_add-result
overflow_add-result c =
    let few = first_value_few c.args.self.now c.args.panel.now c.args.index c.requires.faultless c.requires.there in
    omega arith

use Rattle.world3270.proofs.Numbers.{numbers_fit}
use Rattle.world3270.proofs.laws.numbers_have_15_bits.Goals as goal

pub returns : goal.returns
returns c = numbers_fit c.what_is_given.ensures

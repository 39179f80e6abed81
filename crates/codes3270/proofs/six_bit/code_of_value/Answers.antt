use Rattle.codes3270.proofs.SixBitCodes.{code_is_graphic}
use Rattle.codes3270.proofs.six_bit.code_of_value.Goals as goal

pub returns-clause-graphic : goal.returns-clause-graphic
returns-clause-graphic c = code_is_graphic c.args.value c.requires

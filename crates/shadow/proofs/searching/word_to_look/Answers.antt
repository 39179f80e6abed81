use Rattle.std.proofs.Common.{arith}
use Rattle.shadow.specs.Base.{known_base}
use Rattle.shadow.proofs.Looking.{covered}
use Rattle.shadow.proofs.searching.word_to_look.Goals as goal

pub returns : goal.returns
returns c =
    covered c.args.wanted.now.cells (known_base c.args.base.now) c.bytes.result.now c.args.word c.attribute_word.result c.character_word.result c.unlike-unlike.result
    c.bytes.ensures.bytes (λ place low inside. c.attribute_word.ensures place low (omega (arith, inside, c.bytes.ensures.size))) (λ place low inside. c.character_word.ensures place low (omega (arith, inside, c.bytes.ensures.size)))
    (λ place low inside. c.unlike-unlike.ensures place low (omega (arith, inside, c.requires.whole)))

use Rattle.std.proofs.Common.{pos, ap, ◌∙◌, w64, arith}
use Rattle.std.proofs.lemmas.Int.{to_z_pos}
use Rattle.std.proofs.lemmas.Iterator.{YieldsList-from_chars}
use Rattle.std.proofs.lemmas.Iterator.Consumers.{count_from_yields_List}
use Rattle.panels.proofs.items.characters_in.Goals as goal

pub returns : goal.returns
returns c =
    to_z_pos w64 c.count.result (omega (arith, c.count.ensures.bound, c.chars.ensures.len)) ∙ ap pos (count_from_yields_List c.chars.result _ c.count.ensures.ran (YieldsList-from_chars c.args.text.now c.utf8.text cc))

use Rattle.std.proofs.Common.{◌∷◌, ◌+◌, take, sym, ap, ◌∙◌, arith}
use Rattle.std.proofs.lemmas.List.{take_all, length-drop}
use Rattle.service_wire.specs.HeaderLine.{words}
use Rattle.service_wire.proofs.HeaderWords.{no_space, first_space}
use Rattle.service_wire.proofs.header_line.split_word.Goals as goal

pub returns-in_default : goal.returns-in_default
returns-in_default c = no_space c.args.text.now (sym c.place_of.ensures.place ∙ c.in_default.is)

pub returns : goal.returns
returns c =
    let text = c.args.text.now in
    let space = c.in-Some.space in
    let (split, inside) = first_space text space (sym c.place_of.ensures.place ∙ c.in-Some.is) in
    split ∙ ap (λ rest. take space text ∷ words rest) (sym (take_all _ _ (omega (arith, length-drop (space + 1) text))))

use Rattle.std.proofs.Common.{◌≡◌, ◌∙◌, ℕ, drop, ap, arith}
use Rattle.std.specs.List.{list_all}
use Rattle.datastream.specs.Screen.{is_char}
use Rattle.presentation.proofs.Steps.{none_found}
use Rattle.presentation.proofs.cells.has_only_characters_from.Goals as goal

pub returns : goal.returns
returns c =
    let cells = c.args.cells.now in
    let at : c.get.result ≡ c.args.at = c.get.ensures.value in
    none_found cells c.get.result c.attribute_from.result c.len.result c.attribute_from.ensures.place c.attribute_from.ensures.within (omega (arith, at, c.requires)) c.len.ensures.len
    ∙ ap (λ (n : ℕ). list_all is_char (drop n cells)) at

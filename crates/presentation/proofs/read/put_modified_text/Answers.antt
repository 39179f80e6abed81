use Rattle.std.proofs.Common.{◌≡◌, ◌∙◌, Bool, List, true, cond, map, ap, sym}
use Rattle.std.specs.List.{flat_map, list_all}
use Rattle.codes3270.specs.declared.attribute.Cell.{Cell}
use Rattle.codes3270.proofs.Appendings.{some_same}
use Rattle.datastream.specs.CellCodes.{code_in}
use Rattle.datastream.specs.Inbound.{modified_field, modified_text, is_modified, without_nulls}
use Rattle.datastream.specs.Screen.{is_char, places_from, text_before_attribute}
use Rattle.presentation.proofs.Steps.{text_of_all}
use Rattle.presentation.proofs.read.put_modified_text.Goals as goal

pub returns-then-has_only_characters : goal.returns-then-has_only_characters
returns-then-has_only_characters c =
    let cells : List Cell = c.args.buffer.now.screen.cells in
    let same : c.cells-cells.result.now ≡ cells = c.cells-cells.ensures.cells in
    let all : list_all is_char cells ≡ true = ap (list_all is_char) (sym same) ∙ sym c.has_only_characters.ensures ∙ c.if-has_only_characters.true in
    let codes : c.codes.result.now ≡ text_before_attribute cells = c.codes.ensures.codes ∙ ap (map code_in) same ∙ sym (text_of_all cells all) in
    let is : without_nulls c.codes.result.now ≡ modified_text cells =
    ap without_nulls codes
    ∙ sym (ap (λ (test : Bool). cond test (without_nulls (text_before_attribute cells)) (flat_map (modified_field cells) (places_from is_modified 0 cells))) all) in
    some_same _ _ _ _ _ is c.put_without_nulls.ensures

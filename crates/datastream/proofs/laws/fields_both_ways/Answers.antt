use Rattle.datastream.proofs.FieldViews.{places_of_fields, ascending, listed_field, field_listed, each_cell, none_listed, no_attribute, none_governs, fields_total}
use Rattle.datastream.proofs.laws.fields_both_ways.Goals as goal

pub returns-clause-ascend : goal.returns-clause-ascend
returns-clause-ascend c = λ cells. (places_of_fields cells 0 cells, λ i j order below. ascending 0 cells i j 0 order below)

pub returns-clause-listed : goal.returns-clause-listed
returns-clause-listed c = λ cells field. (listed_field cells field, field_listed cells field)

pub returns-clause-each_cell : goal.returns-clause-each_cell
returns-clause-each_cell c = each_cell

pub returns-clause-unformatted : goal.returns-clause-unformatted
returns-clause-unformatted c = λ cells. ((none_listed cells 0 cells, no_attribute cells 0 cells), none_governs cells)

pub returns-clause-all_cells : goal.returns-clause-all_cells
returns-clause-all_cells c = fields_total

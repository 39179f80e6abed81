use Rattle.term_core.proofs.Lengths.{read_modified_fits, read_buffer_fits}
use Rattle.term_core.proofs.station.readings_fit.Goals as goal

pub returns-clause-modified : goal.returns-clause-modified
returns-clause-modified c =
    let laws = c.fields_both_ways.ensures in
    read_modified_fits laws.ascend laws.listed laws.all_cells c.args.screen.now.screen c.cursor-on_the_screen.ensures.sendable.few

pub returns-clause-buffer : goal.returns-clause-buffer
returns-clause-buffer c = read_buffer_fits c.args.screen.now.screen c.cursor-on_the_screen.ensures.sendable.few

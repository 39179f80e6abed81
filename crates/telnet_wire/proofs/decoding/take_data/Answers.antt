use Rattle.telnet_wire.proofs.Runs.{run_taken}
use Rattle.telnet_wire.proofs.decoding.take_data.Goals as goal

pub returns-clause-taken : goal.returns-clause-taken
returns-clause-taken c =
    rw (c.add_all.ensures, c.drop_complete_record.ensures)
    (run_taken c.args.state c.args.record_buffer.now c.args.sub_buffer.now.bytes c.args.run.now c.requires.some c.requires.plain c.requires.fits.gathered_fits c.requires.room)

use Rattle.std.proofs.Common.{arith, ◌≡◌, ◌<◌, length, ◌+◌}
use Rattle.std.proofs.lemmas.Bool.Decides.{nat_tests}
use Rattle.codes3270.specs.Size.{cells_in}
use Rattle.datastream.proofs.InboundRuns.{reads_text, text_shorter}
use Rattle.datastream.proofs.InboundSequences.{reads_on, reads_fault, reads_whole, reads_nothing, shorter}
use Rattle.datastream.proofs.inbound_reader.check_fields.Goals as goal

pub loop-rest-init : goal.loop-rest-init
loop-rest-init c = reads_text (cells_in c.args.size) c.args.form c.requires c.args.text.now 0 c.args.text.now _ (reads_nothing _ _ _) c.behind_words-rest.ensures

pub loop-rest-smaller : goal.loop-rest-smaller
loop-rest-smaller c = omega (arith, shorter _ _ _ _ _ c.in-Ok.ensures, text_shorter _ _ c.behind_words-rest-in-Ok.ensures)

pub loop-rest-preserved : goal.loop-rest-preserved
loop-rest-preserved c =
    reads_text (cells_in c.args.size) c.args.form c.requires c.args.text.now (c.loop-rest.invariant.0 + 1) c.in-Ok.after.now _
    (reads_on _ _ _ _ _ _ _ c.loop-rest.invariant.1 c.in-Ok.ensures) c.behind_words-rest-in-Ok.ensures

pub returns-in-Err : goal.returns-in-Err
returns-in-Err c =
    let some : 0 < length c.loop-rest.rest.now = grind (arith, nat_tests) in
    reads_fault _ _ _ _ _ _ c.requires some c.loop-rest.invariant.1 c.in-Err.ensures

pub returns : goal.returns
returns c =
    let none : length c.loop-rest.rest.now ≡ 0 = grind (arith, nat_tests) in
    reads_whole _ _ _ _ _ none c.loop-rest.invariant.1

use Rattle.std.proofs.Common.{◌≡◌, slice_index_or, Some, subst}
use Rattle.std.specs.Prelude.{slice_get}
use Rattle.std.proofs.lemmas.Option.{slice_get-get_or}
use Rattle.panels.specs.declared.fault.TreeFault.TheVariants.{UnknownKey}
use Rattle.panels.specs.Faults.{faults_of}
use Rattle.panels.proofs.Turning.{fault_next}
use Rattle.panels.proofs.draft.Draft.add_of_part.Goals as goal

pub loop-fault-preserved : goal.loop-fault-preserved
loop-fault-preserved c =
    let faults = c.faults_in-fault-items.result.now in
    let fault = slice_index_or faults c.loop-fault.fault-index UnknownKey in
    let listed : slice_get (faults_of c.args.pass) c.loop-fault.fault-index ≡ Some fault =
    subst (λ all. slice_get all c.loop-fault.fault-index ≡ Some fault) c.faults_in-fault-items.ensures (slice_get-get_or faults c.loop-fault.fault-index UnknownKey c.loop-fault-test.true) in
    fault_next c.args.pass c.loop-fault.fault-index fault c.args.part c.args.self.now c.loop-fault.found.items c.add_if_faulty.new.found.items listed c.requires.there
    c.in_ok-add_if_faulty.ensures c.loop-fault.invariant

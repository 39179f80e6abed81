use Rattle.std.proofs.Common.{arith, subst, sym, ℕ, List}
use Rattle.datastream.specs.declared.inbound_part.Form.TheVariants.{Buffer}
use Rattle.datastream.specs.InboundReading.{IsReadTo}
use Rattle.datastream.proofs.InboundRuns.{reads_cells}
use Rattle.datastream.proofs.InboundSequences.{reads_nothing, reads_on}
use Rattle.datastream.proofs.inbound_reader.pass_cells.Goals as goal

pub returns-then-count-gt0 : goal.returns-then-count-gt0
returns-then-count-gt0 c = (
  omega arith,
  omega arith,
  λ size. subst (λ (rest : List ℕ). IsReadTo size Buffer c.args.text.now c.min-count.result rest) (sym c.split_at.ensures.back)
      (reads_cells size c.args.text.now c.min-count.result (omega (arith, c.count_characters.ensures.value, c.min-count.ensures))),
)

pub returns-in-Ok : goal.returns-in-Ok
returns-in-Ok c = (omega arith, omega (arith, c.requires), λ size. reads_on size Buffer _ 0 _ _ _ (reads_nothing size Buffer _) c.in-Ok.ensures)

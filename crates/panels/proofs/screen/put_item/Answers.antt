use Rattle.std.proofs.Common.{◌<◌, ◌+◌, ◌-◌, refl, sym, subst, arith}
use Rattle.std.specs.Prelude.{option_map}
use Rattle.codes3270.specs.Size.{cells_in}
use Rattle.panels.specs.Put.{cell_with}
use Rattle.panels.proofs.Putting.{put_next}
use Rattle.panels.proofs.screen.put_item.Goals as goal

pub put-requires-clause-in_range : goal.put-requires-clause-in_range
put-requires-clause-in_range c =
    let start = c.args.extent.first - 1 in
    let within : start + c.loop-distance.distance < cells_in c.args.wanted.now.size = omega arith in
    subst (λ shape. start + c.loop-distance.distance < cells_in shape) (sym c.loop-distance.invariant.0) within

pub loop-distance-preserved : goal.loop-distance-preserved
loop-distance-preserved c =
    let start = c.args.extent.first - 1 in
    let within : start + c.loop-distance.distance < cells_in c.args.wanted.now.size = omega arith in
    put_next start c.loop-distance.distance _ (cell_with c.args.attr (option_map (λ bytes. bytes.now) c.args.content)) c.args.wanted.now _
    c.loop-distance.wanted _ refl c.cell_of.ensures.cell within c.put.ensures.put c.put.ensures.size c.loop-distance.invariant

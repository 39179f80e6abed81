use Rattle.std.proofs.Common.{arith, rules}
use Rattle.panels.specs.declared.panel.Field.{Field}
use Rattle.panels.specs.Screen.{field_cell}
use Rattle.panels.proofs.Putting.{put_back, fits_at}
use Rattle.panels.proofs.screen.put_fields.Goals as goal

pub put_field-requires : goal.put_field-requires
put_field-requires c =
    fits_at (λ (field : Field). field.extent) c.args.wanted.now.size c.loop-index.wanted.size c.args.fields.now c.loop-index.index c.index-fields-index.result
    c.loop-index.invariant.0 c.requires (omega arith) (omega arith) c.index-fields-index.is

pub loop-index-preserved : goal.loop-index-preserved
loop-index-preserved c =
    put_back (field_cell c.args.values.now c.args.message.now c.args.keep) c.args.fields.now c.loop-index.index c.index-fields-index.result c.args.wanted.now c.loop-index.wanted c.put_field.new.wanted (omega arith) (omega arith) c.index-fields-index.is
    c.loop-index.invariant (search rules)

use Rattle.std.proofs.Common.{refl, string_bytes}
use Rattle.scripts.proofs.Playing.{does_happen}
use Rattle.scripts.proofs.player.play_line.Goals as goal

pub returns-in_ok-happen-in-Happen : goal.returns-in_ok-happen-in-Happen
returns-in_ok-happen-in-Happen c =
    rw c.in-Happen.is (
      refl,
      does_happen c.in-Happen.event c.args.line.now c.args.world.now c.happen.new.world c.in_ok-happen-in-Happen.field-0 (string_bytes c.args.text.now)
          (string_bytes c.happen.new.text) c.in_ok-happen-in-Happen.ensures.steps c.in_ok-happen-in-Happen.ensures.whole c.in_ok-happen-in-Happen.ensures.said,
    )

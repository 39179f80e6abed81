use Rattle.std.proofs.Common.{IfSome}
use Rattle.tty.specs.Pictures.{IsSized}
use Rattle.tty.proofs.AllRead.{drawing_shown}
use Rattle.tty.proofs.drawing.Drawing.draw.Goals as goal

pub returns-clause-shown : goal.returns-clause-shown
returns-clause-shown c =
    let known : IfSome c.args.self.now.shown IsSized = rw (← c.self.view_is) c.put_drawing-put.ensures.known in
    drawing_shown c.args.self.now.colors c.args.self.now.shown c.args.picture known c.put_drawing-put.ensures.sized

use Rattle.std.proofs.Common.{◌∙◌, ap, sym, arith, get_or, if◌then◌else◌, Bool}
use Rattle.shadow.specs.InPlace.{cells_known}
use Rattle.shadow.specs.Paint.{known_nulls}
use Rattle.shadow.specs.Taken.{marks_off_if}
use Rattle.shadow.proofs.Placed.{known_reset, null_there}
use Rattle.shadow.proofs.painting.Base.known.Goals as goal

pub returns-then-self : goal.returns-then-self
returns-then-self c =
    let base = c.args.self.now in
    let i = c.args.place in
    let one = c.known_place.result in
    c.known_place.ensures ∙ sym (known_reset base.reset base.beliefs.now i c.get.result one (omega (arith, c.requires.placed, c.requires.base c.if-self.true)) c.get.ensures)
    ∙ sym (ap (λ (t : Bool). get_or (if t then marks_off_if base.reset (cells_known base.beliefs.now) else known_nulls base.cells) i one) c.if-self.true)

pub returns-else-self : goal.returns-else-self
returns-else-self c =
    let base = c.args.self.now in
    let i = c.args.place in
    sym (ap (λ (t : Bool). get_or (if t then marks_off_if base.reset (cells_known base.beliefs.now) else known_nulls base.cells) i _) c.if-self.false ∙ null_there base.cells i _ c.requires.placed)

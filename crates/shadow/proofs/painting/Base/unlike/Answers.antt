use Rattle.std.proofs.Common.{◌∙◌, ◌+◌, ◌*◌, ℕ, Bool, Some, None, false, ap, sym, arith, get_or, if◌then◌else◌}
use Rattle.shadow.specs.declared.known.Known.TheVariants.{Char as KnownChar}
use Rattle.shadow.specs.InPlace.{cells_known}
use Rattle.shadow.specs.Paint.{known_nulls}
use Rattle.shadow.specs.Taken.{marks_off_if}
use Rattle.shadow.proofs.Placed.{null_there}
use Rattle.shadow.proofs.Looking.{char_there}
use Rattle.shadow.proofs.painting.Base.unlike.Goals as goal

pub returns-then-self : goal.returns-then-self
returns-then-self c = λ place low inside clear.
    let base = c.args.self.now in
    let cell = 64 * c.args.word + place in
    ap (λ (t : Bool). get_or (if t then marks_off_if base.reset (cells_known base.beliefs.now) else known_nulls base.cells) cell (KnownChar None false)) c.if-self.true
    ∙ char_there base.reset base.beliefs.now cell (get_or c.args.bytes.now cell 0) (omega (arith, inside, c.requires.base c.if-self.true)) (c.unlike.ensures place low (omega (arith, inside, c.requires.base c.if-self.true)) clear)

pub returns-else-self : goal.returns-else-self
returns-else-self c = λ place low inside clear.
    let base = c.args.self.now in
    let cell = 64 * c.args.word + place in
    ap (λ (t : Bool). get_or (if t then marks_off_if base.reset (cells_known base.beliefs.now) else known_nulls base.cells) cell (KnownChar None false)) c.if-self.false
    ∙ null_there base.cells cell (KnownChar None false) inside
    ∙ ap (λ (b : ℕ). KnownChar (Some b) false) (sym (c.bits_written.ensures place low (omega (arith, inside, c.requires.whole)) clear))

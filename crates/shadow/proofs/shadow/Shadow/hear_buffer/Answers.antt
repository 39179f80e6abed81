use Rattle.std.proofs.Common.{◌≡◌, ◌∙◌, ap, sym, subst, Bool, true, false, Ok, Err, List, ℕ, Result, refl, if◌then◌else◌}
use Rattle.codes3270.specs.declared.attribute.Cell.{Cell}
use Rattle.datastream.specs.Fields.{fields}
use Rattle.datastream.specs.InboundFields.{cells_sent}
use Rattle.shadow.specs.declared.fault.HeardFault.{HeardFault}
use Rattle.shadow.specs.declared.fault.HeardFault.TheVariants.{Contradiction}
use Rattle.codes3270.specs.Size.{cells_in}
use Rattle.shadow.specs.Belief.{Shadow, IsOfSize}
use Rattle.shadow.specs.InPlace.{beliefs_held, shadow_held, IsHeld}
use Rattle.shadow.specs.AfterReadBuffer.{denies_buffer, others, seen}
use Rattle.shadow.specs.Since.{beliefs_of_cells}
use Rattle.shadow.proofs.Placed.{known_size}
use Rattle.shadow.proofs.Reading.{read_seen, read_held}
use Rattle.shadow.proofs.Whole.{denies_held}
use Rattle.shadow.proofs.shadow.Shadow.hear_buffer.Goals as goal
use Rattle.shadow.proofs.shadow.Shadow.hear_buffer.Goals.{else-self-via-then-self+else-any_other, else-self-via-else-self}

pub invariant_of-self : goal.invariant_of-self
invariant_of-self c = subst IsHeld (sym c.put_read.ensures) (read_held c.cells-2.result)

pub returns-then-any_other : goal.returns-then-any_other
returns-then-any_other c =
    let places = c.self.inside.beliefs in
    let screen = cells_sent c.args.inbound.now.parts in
    let answer : Bool → Result Shadow HeardFault = λ t. if t then Err Contradiction else Ok (seen screen) in
    let denied : denies_buffer c.args.self.now screen ≡ true =
    ap (λ (s : Shadow). denies_buffer s screen) (sym c.self.view_is ∙ ap (λ (k : Bool). shadow_held k places) c.if-self.true)
    ∙ denies_held places screen ∙ ap (λ (cs : List Cell). others (beliefs_held places 0 places) (fields cs)) (sym c.cells.ensures.cells)
    ∙ sym c.any_other.ensures ∙ c.if-any_other.true in
    (ap answer denied, refl)

pub returns : goal.returns
returns c =
    let places = c.self.inside.beliefs in
    let screen = cells_sent c.args.inbound.now.parts in
    let read : c.put_read.new.beliefs ≡ beliefs_of_cells screen = c.put_read.ensures ∙ ap beliefs_of_cells c.cells-2.ensures.cells in
    let known : shadow_held true c.put_read.new.beliefs ≡ seen screen = ap (shadow_held true) read ∙ read_seen screen in
    let answer : Bool → Result Shadow HeardFault = λ t. if t then Err Contradiction else Ok (seen screen) in
    let allowed : denies_buffer c.args.self.now screen ≡ false =
    elim c.else-self.branch [
      | else-self-via-then-self+else-any_other w ↦
          ap (λ (s : Shadow). denies_buffer s screen) (sym c.self.view_is ∙ ap (λ (k : Bool). shadow_held k places) w.if-self.true)
          ∙ denies_held places screen ∙ ap (λ (cs : List Cell). others (beliefs_held places 0 places) (fields cs)) (sym w.cells.ensures.cells)
          ∙ sym w.any_other.ensures ∙ w.if-any_other.false
      | else-self-via-else-self w ↦
          ap (λ (s : Shadow). denies_buffer s screen) (sym c.self.view_is ∙ ap (λ (k : Bool). shadow_held k places) w.if-self.false)
    ] in
    ap answer allowed ∙ ap Ok (sym known)

pub any_other-requires-clause-whole : goal.any_other-requires-clause-whole
any_other-requires-clause-whole c =
    let places = c.self.inside.beliefs in
    let n : ℕ = cells_in c.args.inbound.now.size in
    c.cells.ensures.whole ∙ sym (known_size places n (subst (IsOfSize n) (sym c.self.view_is ∙ ap (λ (k : Bool). shadow_held k places) c.if-self.true) c.requires.size))

use Rattle.std.proofs.Common.{◌≡◌, ◌≤◌, ◌+◌, ◌%◌, ℕ, List, ◌∙◌, ap, sym, length, arith}
use Rattle.codes3270.specs.Size.{cells_in}
use Rattle.codes3270.specs.declared.attribute.Cell.{Cell}
use Rattle.datastream.specs.Meaning.{WriteProgress}
use Rattle.presentation.specs.Sizes.{SizedScreen}
use Rattle.presentation.specs.Runs.{placed}
use Rattle.presentation.proofs.Sized.{sized, changed_sized}
use Rattle.presentation.proofs.CellRuns.{length-placed, with_placed, after_run, run_executed}
use Rattle.presentation.proofs.buffer.Buffer.put_front.Goals as goal

pub invariant_of-self : goal.invariant_of-self
invariant_of-self c =
    let i = c.self.inside in
    let old : SizedScreen = sized i.model i.size i.cursor i.aid i.cells in
    let text : List ℕ = c.args.text.now in
    let at : ℕ = c.from.result in
    let there : at ≡ c.args.position.address = c.from.ensures ∙ c.get.ensures.value in
    let same = ap (λ (s : SizedScreen). cells_in s.size) c.self.view_is in
    let room : at + length text ≤ length i.cells = omega (arith, there, same, c.requires.room, c.self.invariant.cells) in
    changed_sized old (placed at text i.cells) c.put_characters.new.self i.cursor c.put_characters.ensures (length-placed at text i.cells room)
    (with_placed old.screen at text c.requires.storable room c.self.invariant.sendable) c.self.invariant

pub returns-clause-write : goal.returns-clause-write
returns-clause-write c =
    let i = c.self.inside in
    let old : SizedScreen = sized i.model i.size i.cursor i.aid i.cells in
    let text : List ℕ = c.args.text.now in
    let a : ℕ = c.args.position.address in
    let n : ℕ = cells_in c.args.size in
    let there : c.from.result ≡ a = c.from.ensures ∙ c.get.ensures.value in
    let same = ap (λ (s : SizedScreen). cells_in s.size) c.self.view_is in
    let room : a + length text ≤ length i.cells = omega (arith, same, c.requires.room, c.self.invariant.cells) in
    let whole : n ≡ length i.cells = ap cells_in c.requires.same ∙ sym same ∙ sym c.self.invariant.cells in
    let now : c.put_characters.new.self ≡ placed a text i.cells = c.put_characters.ensures ∙ ap (λ (k : ℕ). placed k text i.cells) there in
    let write : WriteProgress = record { screen = old.screen; address = a; after_data = c.args.position.nulls } in
    rw (c.after_data.ensures, c.forward.ensures.value, ← c.self.view_is)
    (ap (λ (cs : List Cell). after_run old.screen cs ((a + length text) % n)) now
    ∙ ap (λ (m : ℕ). after_run old.screen (placed a text i.cells) ((a + length text) % m)) whole
    ∙ sym (run_executed text write c.requires.some room))

use Rattle.std.proofs.Common.{◌≡◌, ◌+◌, ◌-◌, ◌<◌, ◌∙◌, ℕ, List, true, false, arith, ap, sym, length, take, drop, get_or}
use Rattle.std.proofs.lemmas.List.{get_or-drop, get_or-take, length-drop, length-take-le}
use Rattle.std.proofs.lemmas.Bool.Decides.{nat_tests}
use Rattle.datastream.specs.CellBits.{has_bit}
use Rattle.shadow.specs.declared.cell_belief.CellBelief.TheVariants.{Known, Unknown}
use Rattle.shadow.specs.InPlace.{chars_known, is_attribute}
use Rattle.shadow.specs.PackedBeliefs.{place_by}
use Rattle.shadow.proofs.Keeping.{size_kept, character_seen}
use Rattle.shadow.proofs.KnownRuns.{known_run}
use Rattle.shadow.proofs.Ranges.{char_inside}
use Rattle.shadow.proofs.Stretches.{attribute_bit}
use Rattle.shadow.proofs.cell_beliefs.CellBeliefs.has_text.Goals as goal

pub codes_between-requires-clause-few : goal.codes_between-requires-clause-few
codes_between-requires-clause-few c =
    let i = c.self.inside in
    let size : length c.args.self.now ≡ length i.cells.codes = size_kept (place_by i.heads i.cells.attributes i.known i.told) i.cells.codes c.args.self.now c.self.view_is in
    omega (arith, size, c.self.invariant.1, c.attribute_from-to.ensures.within)

pub returns : goal.returns
returns c = λ same.
    let i = c.self.inside in
    let now = c.args.self.now in
    let from : ℕ = c.args.from in
    let to : ℕ = c.attribute_from-to.result in
    let text : List ℕ = c.args.text.now in
    let size : length now ≡ length i.cells.codes = size_kept (place_by i.heads i.cells.attributes i.known i.told) i.cells.codes now c.self.view_is in
    let low : to < length now = omega (arith, c.if-cells-to.false, c.len-cells.ensures.len) in
    let count : to ≡ from + length (chars_known (drop from now)) = c.attribute_from-to.ensures.place in
    let is : take (to - from) (drop from i.cells.codes) ≡ text = sym c.codes_between.ensures ∙ c.are_same.ensures same in
    let long : length text ≡ to - from = sym (ap length is) ∙ length-take-le (to - from) (drop from i.cells.codes) (omega (arith, size, low, count, length-drop from i.cells.codes)) in
    let set : c.are_set.result ≡ true = grind (arith, nat_tests) in
    let each : (j : ℕ) → j < length text → get_or (drop from now) j Unknown ≡ Known (get_or text j 0) = λ j less.
    let inside : from + j < length i.cells.codes = omega (arith, size, low, long, less, count) in
    let plain : has_bit i.cells.attributes (from + j) ≡ false =
    sym (attribute_bit i.heads i.cells.attributes i.known i.told i.cells.codes now c.self.view_is (from + j) inside) ∙ ap is_attribute (sym (get_or-drop from now j Unknown)) ∙ char_inside (drop from now) j (omega (arith, long, less, count)) in
    get_or-drop from now j Unknown
    ∙ character_seen i.heads i.cells.attributes i.known i.told i.cells.codes (from + j) inside now c.self.view_is plain (c.are_set.ensures set (from + j) (omega arith) (omega (arith, long, less, count)))
    ∙ ap Known (sym (get_or-drop from i.cells.codes j 0) ∙ sym (get_or-take (to - from) (drop from i.cells.codes) j 0 (omega (arith, long, less))) ∙ ap (λ (bytes : List ℕ). get_or bytes j 0) is) in
    (known_run (drop from now) text (omega (arith, long, count)) each, omega (arith, long, low, count))

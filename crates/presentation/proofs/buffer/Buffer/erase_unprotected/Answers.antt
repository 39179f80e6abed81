use Rattle.std.proofs.Common.{◌≡◌, ◌<◌, ℕ, List, ◌∙◌, ap, arith, length, map, cond}
use Rattle.std.proofs.lemmas.List.{length-map}
use Rattle.codes3270.specs.declared.attribute.Cell.{Cell}
use Rattle.datastream.specs.Meaning.{opened, erased, open_unmodified}
use Rattle.datastream.specs.Screen.{is_protected}
use Rattle.datastream.proofs.Places.{length-across}
use Rattle.presentation.specs.Sizes.{SizedScreen}
use Rattle.presentation.proofs.Sized.{sized, changed_sized}
use Rattle.presentation.proofs.Storable.{with_mapped, with_opened, with_cursor, storable_open_unmodified}
use Rattle.presentation.proofs.buffer.Buffer.erase_unprotected.Goals as goal

pub invariant_of-self : goal.invariant_of-self
invariant_of-self c =
    let i = c.self.inside in
    let old : SizedScreen = sized i.model i.size i.cursor i.aid i.cells in
    let far : ℕ = c.cells.result in
    let first : ℕ = c.first.result in
    let home : ℕ = c.home_of-self-inside.result in
    let all : List Cell = map open_unmodified (opened first far i.cells) in
    let new : c.reset_open_mdt.new.cells ≡ all = c.reset_open_mdt.ensures ∙ ap (map open_unmodified) c.erase_unprotected_in.ensures in
    let same : length all ≡ length i.cells =
    length-map (opened first far i.cells) open_unmodified ∙ length-across first far (λ (at : ℕ) (was : Cell). cond (is_protected i.cells at) was (erased was)) i.cells in
    let below : home < length all = omega (arith, same, c.self.invariant.cells, c.home_of-self-inside.ensures.in_range) in
    let sent = with_mapped (record old.screen { cells = opened first far i.cells }) open_unmodified storable_open_unmodified (with_opened old.screen first far c.self.invariant.sendable) in
    changed_sized old all c.reset_open_mdt.new.cells home new same
    (with_cursor (record old.screen { cells = all }) home below sent) c.self.invariant

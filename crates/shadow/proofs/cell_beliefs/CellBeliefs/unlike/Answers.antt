use Rattle.std.proofs.Common.{◌≡◌, ◌∙◌, ◌+◌, ◌*◌, ℕ, List, ap, sym, arith, length}
use Rattle.std.specs.Prelude.{slice_index_or}
use Rattle.datastream.specs.CellBits.{has_bit}
use Rattle.shadow.specs.declared.cell_belief.CellBelief.TheVariants.{Known}
use Rattle.shadow.specs.PackedBeliefs.{place_by}
use Rattle.shadow.proofs.Keeping.{size_kept, character_seen}
use Rattle.shadow.proofs.Looking.{plain_bits, bit_true, bit_false}
use Rattle.shadow.proofs.cell_beliefs.CellBeliefs.unlike.Goals as goal

pub returns : goal.returns
returns c = λ place low inside clear.
    let i = c.self.inside in
    let size : length c.args.self.now ≡ length i.cells.codes = size_kept (place_by i.heads i.cells.attributes i.known i.told) i.cells.codes c.args.self.now c.self.view_is in
    let cell = 64 * c.args.word + place in
    let bits = plain_bits c.attribute_word.result c.word.result c.differing.result place c.word.type_inv low clear in
    character_seen i.heads i.cells.attributes i.known i.told i.cells.codes cell (omega (arith, inside, size)) c.args.self.now c.self.view_is
    (bit_false (has_bit i.cells.attributes cell) _ (c.attribute_word.ensures place low (omega (arith, inside, size, c.self.invariant.1, c.self.invariant.2))) bits.0)
    (bit_true (has_bit i.known cell) _ (c.word.ensures place low (omega (arith, inside, size, c.self.invariant.1, c.self.invariant.2))) bits.1)
    ∙ ap Known (sym (c.differing.ensures place low (omega (arith, inside, c.requires.whole)) bits.2 ∙ ap (λ (codes : List ℕ). slice_index_or codes cell 0) c.codes.ensures.codes))

pub differing-requires-clause-whole : goal.differing-requires-clause-whole
differing-requires-clause-whole c =
    let i = c.self.inside in
    let size : length c.args.self.now ≡ length i.cells.codes = size_kept (place_by i.heads i.cells.attributes i.known i.told) i.cells.codes c.args.self.now c.self.view_is in
    c.requires.whole ∙ size ∙ sym (ap length c.codes.ensures.codes)

use Rattle.std.proofs.Common.{◌≡◌, ◌<◌, ◌≤◌, ◌+◌, ◌-◌, ◌++◌, ◌∙◌, ℕ, List, true, false, arith, ap, sym, subst, length, take, drop, get_or}
use Rattle.codes3270.specs.Size.{ScreenSize, cells_in}
use Rattle.datastream.specs.CellBits.{has_bit, kept}
use Rattle.shadow.specs.PackedBeliefs.{place_by, MarksKnown}
use Rattle.shadow.specs.Runs.{placed}
use Rattle.shadow.proofs.HeldRuns.{run_held, run_marked, length-placed, copied_inside, copied_apart, length-copied}
use Rattle.shadow.proofs.Keeping.{size_kept}
use Rattle.shadow.proofs.Ranges.{bit_inside, bit_outside}
use Rattle.shadow.proofs.cell_beliefs.CellBeliefs.hold_run.Goals as goal

pub store_characters-requires : goal.store_characters-requires
store_characters-requires c =
    let i = c.self.inside in
    let size : length c.args.self.now ≡ length i.cells.codes = size_kept (place_by i.heads i.cells.attributes i.known i.told) i.cells.codes c.args.self.now c.self.view_is in
    omega (arith, size, c.requires, c.self.invariant.1)

-- the places, how many they are, and the bits of those that are known
held : (c : goal.After-put_range) → (let i = c.self.inside in
    let places = kept (place_by i.heads c.store_characters.new.self.attributes c.put_range.new.self i.told) 0 c.store_characters.new.self.codes in
    (places ≡ placed c.args.from c.args.text.now c.args.self.now) × (length c.store_characters.new.self.codes ≡ length i.cells.codes) × MarksKnown c.put_range.new.self places)
held c =
    let i = c.self.inside in
    let from : ℕ = c.args.from in
    let text : List ℕ = c.args.text.now in
    let size : length c.args.self.now ≡ length i.cells.codes = size_kept (place_by i.heads i.cells.attributes i.known i.told) i.cells.codes c.args.self.now c.self.view_is in
    let room : from + length text ≤ length i.cells.codes = omega (arith, size, c.requires) in
    let codes : c.store_characters.new.self.codes ≡ take from i.cells.codes ++ (text ++ drop (from + length text) i.cells.codes) = c.store_characters.ensures.codes in
    let long : length c.store_characters.new.self.codes ≡ length i.cells.codes = ap length codes ∙ length-copied from text i.cells.codes room in
    let bytes_inside : (at : ℕ) → from ≤ at → at < from + length text → get_or c.store_characters.new.self.codes at 0 ≡ get_or text (at - from) 0 =
    λ at above below. ap (λ (bytes : List ℕ). get_or bytes at 0) codes ∙ copied_inside from text i.cells.codes at room above below in
    let bytes_apart : (at : ℕ) → (from ≤ at → at < from + length text → ⊥) → get_or c.store_characters.new.self.codes at 0 ≡ get_or i.cells.codes at 0 =
    λ at away. ap (λ (bytes : List ℕ). get_or bytes at 0) codes ∙ copied_apart from text i.cells.codes at room away in
    let attributes_inside : (at : ℕ) → from ≤ at → at < from + length text → has_bit c.store_characters.new.self.attributes at ≡ false =
    λ at above below. bit_inside from (from + length text) at false _ (has_bit i.cells.attributes at) (c.store_characters.ensures.attributes at) above below in
    let attributes_apart : (at : ℕ) → (from ≤ at → at < from + length text → ⊥) → has_bit c.store_characters.new.self.attributes at ≡ has_bit i.cells.attributes at =
    λ at away. bit_outside from (from + length text) at false _ (has_bit i.cells.attributes at) (c.store_characters.ensures.attributes at) away in
    let known_inside : (at : ℕ) → from ≤ at → at < from + length text → has_bit c.put_range.new.self at ≡ true =
    λ at above below. bit_inside from (from + length text) at true _ (has_bit i.known at) (c.put_range.ensures at) above below in
    let known_apart : (at : ℕ) → (from ≤ at → at < from + length text → ⊥) → has_bit c.put_range.new.self at ≡ has_bit i.known at =
    λ at away. bit_outside from (from + length text) at true _ (has_bit i.known at) (c.put_range.ensures at) away in (
      run_held i.heads i.cells.attributes i.known i.told i.cells.codes c.args.self.now c.self.view_is from text room c.store_characters.new.self.attributes c.put_range.new.self c.store_characters.new.self.codes long
          bytes_inside bytes_apart attributes_inside attributes_apart known_inside known_apart,
      long,
      run_marked i.heads i.cells.attributes i.known i.told i.cells.codes c.args.self.now c.self.view_is from text room c.store_characters.new.self.attributes c.put_range.new.self c.store_characters.new.self.codes long
          bytes_inside bytes_apart attributes_inside attributes_apart known_inside known_apart (subst (MarksKnown i.known) c.self.view_is c.self.invariant.3),
    )

pub returns-clause-beliefs : goal.returns-clause-beliefs
returns-clause-beliefs c = (held c).0

pub returns-clause-size : goal.returns-clause-size
returns-clause-size c =
    let i = c.self.inside in
    let size : length c.args.self.now ≡ length i.cells.codes = size_kept (place_by i.heads i.cells.attributes i.known i.told) i.cells.codes c.args.self.now c.self.view_is in
    ap length (held c).0 ∙ length-placed c.args.from c.args.text.now c.args.self.now c.requires

pub invariant_of-self : goal.invariant_of-self
invariant_of-self c =
    let there : cells_in c.store_characters.new.self.size ≡ cells_in c.self.inside.cells.size = ap (λ (shape : ScreenSize). cells_in shape) c.store_characters.ensures.size in (
      c.self.invariant.0,
      (held c).1 ∙ c.self.invariant.1 ∙ sym there,
      rw there c.self.invariant.2,
      (held c).2,
    )

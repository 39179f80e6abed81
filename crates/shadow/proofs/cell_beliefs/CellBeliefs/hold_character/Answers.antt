use Rattle.std.proofs.Common.{◌≡◌, ◌<◌, ◌≤◌, ◌+◌, ◌-◌, ◌∷◌, [], ◌∙◌, ℕ, List, true, false, refl, arith, ap, sym, subst, length, set, get_or}
use Rattle.std.proofs.lemmas.List.{length-set, get_or-set_other}
use Rattle.codes3270.specs.Size.{ScreenSize, cells_in}
use Rattle.codes3270.specs.declared.attribute.Cell.{Cell}
use Rattle.datastream.specs.CellBits.{has_bit, kept}
use Rattle.datastream.specs.CellCodes.{code_in}
use Rattle.datastream.specs.Screen.{is_char}
use Rattle.shadow.specs.PackedBeliefs.{place_by, MarksKnown}
use Rattle.shadow.specs.Runs.{placed}
use Rattle.shadow.proofs.HeldRuns.{run_held, run_marked, length-placed, bit_here, bit_elsewhere, one_inside}
use Rattle.shadow.proofs.Keeping.{size_kept}
use Rattle.shadow.proofs.cell_beliefs.CellBeliefs.hold_character.Goals as goal

pub set-requires : goal.set-requires
set-requires c =
    let i = c.self.inside in
    let size : length c.args.self.now ≡ length i.cells.codes = size_kept (place_by i.heads i.cells.attributes i.known i.told) i.cells.codes c.args.self.now c.self.view_is in
    omega (arith, size, c.requires, c.self.invariant.1)

-- the places, how many they are, and the bits of those that are known
held : (c : goal.After-put) → (let i = c.self.inside in
    let places = kept (place_by i.heads c.set.new.self.attributes c.put.new.self i.told) 0 c.set.new.self.codes in
    (places ≡ placed c.args.at (c.args.char ∷ []) c.args.self.now) × (length c.set.new.self.codes ≡ length i.cells.codes) × MarksKnown c.put.new.self places)
held c =
    let i = c.self.inside in
    let from : ℕ = c.args.at in
    let text : List ℕ = c.args.char ∷ [] in
    let size : length c.args.self.now ≡ length i.cells.codes = size_kept (place_by i.heads i.cells.attributes i.known i.told) i.cells.codes c.args.self.now c.self.view_is in
    let room : from + length text ≤ length i.cells.codes = omega (arith, size, c.requires) in
    let codes : c.set.new.self.codes ≡ set i.cells.codes from c.args.char = c.set.ensures.codes ∙ ap (λ (cell : Cell). set i.cells.codes from (code_in cell)) c.character.ensures in
    let plain = ap is_char c.character.ensures in
    let long : length c.set.new.self.codes ≡ length i.cells.codes = ap length codes ∙ length-set i.cells.codes from c.args.char in
    let bytes_inside : (at : ℕ) → from ≤ at → at < from + length text → get_or c.set.new.self.codes at 0 ≡ get_or text (at - from) 0 =
    λ at above below. ap (λ (bytes : List ℕ). get_or bytes at 0) codes ∙ one_inside from c.args.char i.cells.codes at room above below in
    let bytes_apart : (at : ℕ) → (from ≤ at → at < from + length text → ⊥) → get_or c.set.new.self.codes at 0 ≡ get_or i.cells.codes at 0 =
    λ at away. ap (λ (bytes : List ℕ). get_or bytes at 0) codes ∙ get_or-set_other i.cells.codes from at c.args.char 0 (λ same. away (omega arith) (omega arith)) in
    let attributes_inside : (at : ℕ) → from ≤ at → at < from + length text → has_bit c.set.new.self.attributes at ≡ false =
    λ at above below. bit_here from at _ _ (has_bit i.cells.attributes at) (c.set.ensures.attributes at) (omega arith) ∙ rw plain refl in
    let attributes_apart : (at : ℕ) → (from ≤ at → at < from + length text → ⊥) → has_bit c.set.new.self.attributes at ≡ has_bit i.cells.attributes at =
    λ at away. bit_elsewhere from at _ _ (has_bit i.cells.attributes at) (c.set.ensures.attributes at) (λ same. away (omega arith) (omega arith)) in
    let known_inside : (at : ℕ) → from ≤ at → at < from + length text → has_bit c.put.new.self at ≡ true =
    λ at above below. bit_here from at true _ (has_bit i.known at) (c.put.ensures at) (omega arith) in
    let known_apart : (at : ℕ) → (from ≤ at → at < from + length text → ⊥) → has_bit c.put.new.self at ≡ has_bit i.known at =
    λ at away. bit_elsewhere from at true _ (has_bit i.known at) (c.put.ensures at) (λ same. away (omega arith) (omega arith)) in (
      run_held i.heads i.cells.attributes i.known i.told i.cells.codes c.args.self.now c.self.view_is from text room c.set.new.self.attributes c.put.new.self c.set.new.self.codes long
          bytes_inside bytes_apart attributes_inside attributes_apart known_inside known_apart,
      long,
      run_marked i.heads i.cells.attributes i.known i.told i.cells.codes c.args.self.now c.self.view_is from text room c.set.new.self.attributes c.put.new.self c.set.new.self.codes long
          bytes_inside bytes_apart attributes_inside attributes_apart known_inside known_apart (subst (MarksKnown i.known) c.self.view_is c.self.invariant.3),
    )

pub returns-clause-beliefs : goal.returns-clause-beliefs
returns-clause-beliefs c = (held c).0

pub returns-clause-size : goal.returns-clause-size
returns-clause-size c = ap length (held c).0 ∙ length-placed c.args.at (c.args.char ∷ []) c.args.self.now (omega (arith, c.requires))

pub invariant_of-self : goal.invariant_of-self
invariant_of-self c =
    let there : cells_in c.set.new.self.size ≡ cells_in c.self.inside.cells.size = ap (λ (shape : ScreenSize). cells_in shape) c.set.ensures.size in (
      c.self.invariant.0,
      (held c).1 ∙ c.self.invariant.1 ∙ sym there,
      rw there c.self.invariant.2,
      (held c).2,
    )

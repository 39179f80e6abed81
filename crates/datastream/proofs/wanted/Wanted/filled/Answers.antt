use Rattle.std.proofs.Common.{◌≡◌, ◌∙◌, ◌<◌, ◌≤◌, arith, ℕ, List, All, false, length, replicate, ap, subst, sym}
use Rattle.std.proofs.lemmas.List.{length-replicate}
use Rattle.std.proofs.lemmas.List.Elements.{All-replicate}
use Rattle.codes3270.specs.Size.{ScreenSize, cells_in, most_cells}
use Rattle.datastream.specs.CellBits.{kept}
use Rattle.datastream.specs.CellCodes.{code_in}
use Rattle.datastream.specs.Wanted.{IsProper, WantedScreen, IsScreen, want_by}
use Rattle.datastream.specs.declared.wanted.Want.{Want}
use Rattle.datastream.proofs.Keeping.{all_kept, all_are_kept}
use Rattle.datastream.proofs.wanted.Wanted.filled.Goals as goal

abbrev made : ScreenSize → List Want → ℕ → WantedScreen
made size cells cursor = record { size = size; cells = cells; cursor = cursor; reset = false }

pub invariant_of-result : goal.invariant_of-result
invariant_of-result c =
    let n : ℕ = cells_in c.args.size in
    let few : n ≤ most_cells = c.filled.ensures.few in
    let now : List Want = kept (want_by c.filled.result.attributes c.all.result) 0 c.filled.result.codes in
    let same = all_kept n c.filled.result.attributes c.all.result c.args.want (code_in c.packed.result) c.packed.ensures.byte c.packed.ensures.kept
    (λ cell inside. c.filled.ensures.attributes cell (omega (arith, inside, few)) ∙ c.packed.ensures.attribute) (λ cell inside. c.all.ensures cell (omega (arith, inside, few)) ∙ c.is_character.ensures)
    c.filled.result.codes c.filled.ensures.codes in (
      subst (λ (size : ScreenSize). IsScreen (made size now c.first.result)) (sym c.filled.ensures.size) (record {
        size = subst (λ (cells : List Want). length cells ≡ n) (sym same) (length-replicate n c.args.want);
        few = few;
        proper = subst (λ (cells : List Want). All IsProper cells) (sym same) (All-replicate (λ want. IsProper want) n c.args.want c.requires);
        cursor_in_range = subst (λ (cursor : ℕ). cursor < n) (sym c.first.ensures) (omega (arith, c.cells-cells.ensures.value, c.cells-cells.ensures.some));
      }),
      all_are_kept n c.filled.result.attributes c.all.result c.args.want (code_in c.packed.result) c.packed.ensures.byte c.packed.ensures.kept
          (λ cell inside. c.filled.ensures.attributes cell (omega (arith, inside, few)) ∙ c.packed.ensures.attribute) (λ cell inside. c.all.ensures cell (omega (arith, inside, few)) ∙ c.is_character.ensures)
          c.filled.result.codes c.filled.ensures.codes,
    )

pub returns : goal.returns
returns c =
    let n : ℕ = cells_in c.args.size in
    let few : n ≤ most_cells = c.filled.ensures.few in
    let now : List Want = kept (want_by c.filled.result.attributes c.all.result) 0 c.filled.result.codes in
    let same = all_kept n c.filled.result.attributes c.all.result c.args.want (code_in c.packed.result) c.packed.ensures.byte c.packed.ensures.kept
    (λ cell inside. c.filled.ensures.attributes cell (omega (arith, inside, few)) ∙ c.packed.ensures.attribute) (λ cell inside. c.all.ensures cell (omega (arith, inside, few)) ∙ c.is_character.ensures)
    c.filled.result.codes c.filled.ensures.codes in
    ap (λ (size : ScreenSize). made size now c.first.result) c.filled.ensures.size
    ∙ ap (λ (cells : List Want). made c.args.size cells c.first.result) same ∙ ap (λ (cursor : ℕ). made c.args.size (replicate n c.args.want) cursor) c.first.ensures

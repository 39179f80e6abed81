-- What is known of cells stands on the screen.
use Rattle.std.proofs.Common.{◌≡◌, ℕ, zero, suc, List, [], ◌∷◌, map, Some, None, refl, ap, sym, subst}
use Rattle.std.specs.Prelude.{slice_get, option_and_then}
use Rattle.std.proofs.lemmas.Option.{same_Some}
use Rattle.codes3270.specs.declared.attribute.Attr.{Attr as Attribute}
use Rattle.codes3270.specs.declared.attribute.Cell.{Cell}
use Rattle.codes3270.specs.declared.attribute.Cell.TheVariants.{Char, Attr}
use Rattle.datastream.specs.KeptByKeys.{without_mdt}
use Rattle.datastream.specs.Screen.{Screen}
use Rattle.shadow.specs.declared.known.Known.{Known}
use Rattle.shadow.specs.declared.known.Known.TheVariants.{Attr as KnownAttr, Char as KnownChar}
use Rattle.shadow.specs.Queries.{known_cell, known_cells}
use Rattle.shadow.specs.Belief.{Shadow, cells_of_fields}
use Rattle.shadow.specs.Heard.{is_on}
use Rattle.shadow.specs.Laws.{IsSameCell, KnownIsThere, AttributesAreKnown}
use Rattle.shadow.specs.Meets.{Meets, Knows}
use Rattle.shadow.specs.Pairs.{Pairwise}
use Rattle.shadow.specs.Taken.{old_char, laid_out}
use Rattle.shadow.proofs.LaidOut.{CellFits, laid_out_fits, bare_fits, fields_size}

cells_fit : (shadow : Shadow) (s : Screen) → Knows shadow → Meets shadow s → Pairwise CellFits (known_cells shadow) s.cells
cells_fit Shadow.NothingKnown s knows meets = absurd knows
cells_fit (Shadow.Unformatted known) s knows meets = bare_fits s.cells 0 known s.cells meets.0 meets.1
cells_fit (Shadow.Formatted bs) s knows meets = laid_out_fits (cells_of_fields bs) s.cells bs (sym (fields_size s.cells bs meets.1 meets.0)) meets.1 meets.0

is_same : (k : Known) (there cell : Cell) → CellFits k there → known_cell k ≡ Some cell → IsSameCell cell there
is_same (KnownAttr a m) (Attr b) cell fits is =
    subst (λ c. IsSameCell c (Attr b)) (same_Some _ _ is) (subst (λ (k : Attribute). without_mdt b ≡ without_mdt (record k { mdt = is_on m })) fits.0 refl)
is_same (KnownAttr a m) (Char c) cell fits is = absurd fits
is_same (KnownChar known fresh) (Attr b) cell fits is = absurd fits
is_same (KnownChar None fresh) (Char c) cell fits is = absurd (cc)
is_same (KnownChar (Some x) fresh) (Char c) cell fits is = subst (λ d. IsSameCell d (Char c)) (same_Some _ _ is) (ap (λ d. Char d) fits.0)

known_here : (ks : List Known) (cells : List Cell) (at : ℕ) (cell : Cell) → Pairwise CellFits ks cells → option_and_then known_cell (slice_get ks at) ≡ Some cell
    → (there : Cell) × (slice_get cells at ≡ Some there) × IsSameCell cell there
known_here [] cells at cell fits is = absurd (cc)
known_here (k ∷ ks) [] at cell fits is = absurd fits
known_here (k ∷ ks) (c ∷ cells) zero cell fits is = (c, refl, is_same k c cell fits.0 is)
known_here (k ∷ ks) (c ∷ cells) (suc at) cell fits is = known_here ks cells at cell fits.1 is

pub known_there : KnownIsThere
known_there Shadow.NothingKnown s at cell meets is = absurd (cc)
known_there (Shadow.Unformatted known) s at cell meets is = known_here (map old_char known) s.cells at cell (cells_fit (Shadow.Unformatted known) s tt meets) is
known_there (Shadow.Formatted bs) s at cell meets is = known_here (laid_out (cells_of_fields bs) bs) s.cells at cell (cells_fit (Shadow.Formatted bs) s tt meets) is

is_known : (k : Known) (there : Cell) (attribute : Attribute) → CellFits k there → there ≡ Attr attribute → (cell : Cell) × (known_cell k ≡ Some cell)
is_known (KnownAttr a m) there attribute fits is = (_, refl)
is_known (KnownChar known fresh) there attribute fits is = absurd (subst (λ c. CellFits (KnownChar known fresh) c) is fits)

attribute_here : (ks : List Known) (cells : List Cell) (at : ℕ) (attribute : Attribute) → Pairwise CellFits ks cells → slice_get cells at ≡ Some (Attr attribute)
    → (cell : Cell) × (option_and_then known_cell (slice_get ks at) ≡ Some cell)
attribute_here [] [] at attribute fits is = absurd (cc)
attribute_here [] (c ∷ cells) at attribute fits is = absurd fits
attribute_here (k ∷ ks) [] at attribute fits is = absurd fits
attribute_here (k ∷ ks) (c ∷ cells) zero attribute fits is = is_known k c attribute fits.0 (same_Some _ _ is)
attribute_here (k ∷ ks) (c ∷ cells) (suc at) attribute fits is = attribute_here ks cells at attribute fits.1 is

pub attributes_known : AttributesAreKnown
attributes_known shadow s at attribute knows meets is = attribute_here (known_cells shadow) s.cells at attribute (cells_fit shadow s knows meets) is

-- What keeps a screen's cells those of its size.
use Rattle.std.proofs.Common.{◌≡◌, ℕ, ◌<◌, ◌≤◌, true, List, length, replicate, ◌∙◌, sym, subst, arith}
use Rattle.std.proofs.lemmas.List.{length-replicate}
use Rattle.std.proofs.lemmas.List.Elements.{All-replicate}
use Rattle.codes3270.specs.Size.{ScreenSize, cells_in, most_cells}
use Rattle.codes3270.specs.declared.size.Model.{Model}
use Rattle.codes3270.specs.declared.attention.Aid.{Aid}
use Rattle.codes3270.specs.declared.attention.Aid.TheVariants.{NoAid}
use Rattle.codes3270.specs.declared.attribute.Cell.{Cell}
use Rattle.codes3270.specs.declared.attribute.Cell.TheVariants.{Char}
use Rattle.datastream.specs.InboundFields.{IsSendable, IsStorableCell}
use Rattle.datastream.specs.Screen.{Screen}
use Rattle.presentation.specs.Sizes.{SizedScreen, HasSize, IsSized}

-- ---- by the parts of a screen

abbrev pub sized : Model → ScreenSize → ℕ → Aid → List Cell → SizedScreen
sized model size cursor aid cells = record { model = model; size = size; screen = record { cells = cells; cursor = cursor; aid = aid } }

-- another screen with as many cells
pub sized_with : (old : SizedScreen) (screen : Screen) → length screen.cells ≡ length old.screen.cells → IsSendable screen → IsSized old → IsSized (record old { screen = screen })
sized_with old screen same sendable whole = record { cells = same ∙ whole.cells; size = whole.size; sendable = sendable }

-- the same with other cells and another cursor, of which a function says what they are
pub changed_sized : (old : SizedScreen) (cells new : List Cell) (cursor : ℕ) → new ≡ cells → length cells ≡ length old.screen.cells
    → IsSendable (record { cells = cells; cursor = cursor; aid = old.screen.aid }) → IsSized old
    → IsSized (sized old.model old.size cursor old.screen.aid new)
changed_sized old cells new cursor is same sendable whole =
    subst (λ (all : List Cell). IsSized (sized old.model old.size cursor old.screen.aid all)) (sym is)
    (sized_with old (record { cells = cells; cursor = cursor; aid = old.screen.aid }) same sendable whole)

pub blank_sized : (model : Model) (size : ScreenSize) → HasSize model size → 0 < cells_in size → cells_in size ≤ most_cells
    → IsSized (sized model size 0 NoAid (replicate (cells_in size) (Char 0)))
blank_sized model size has some few =
    let count : length (replicate (cells_in size) (Char 0)) ≡ cells_in size = length-replicate (cells_in size) (Char 0) in
    record {
      cells = count;
      size = has;
      sendable = record {
        few = omega (arith, count, few);
        cursor = omega (arith, count, some);
        aid = tt;
        storable = All-replicate IsStorableCell (cells_in size) (Char 0) (λ i. true);
      };
    }

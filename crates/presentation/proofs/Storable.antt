-- Changes that keep the characters of a screen storable, and its size.
use Rattle.std.proofs.Common.{◌≡◌, ℕ, ◌<◌, true, false, not, cond, Bool, List, length, map, set, arith}
use Rattle.std.specs.List.{All}
use Rattle.std.proofs.lemmas.List.{length-set, length-map}
use Rattle.std.proofs.lemmas.List.Elements.{All-set, All-map}
use Rattle.codes3270.specs.declared.attribute.Cell.{Cell}
use Rattle.codes3270.specs.declared.attribute.Cell.TheVariants.{Char, Attr}
use Rattle.datastream.specs.Screen.{Screen, is_protected}
use Rattle.datastream.specs.Span.{is_within}
use Rattle.datastream.specs.Meaning.{across, filled, opened, erased, unmodified, modified, open_unmodified}
use Rattle.datastream.proofs.Places.{length-across, get_or-across}
use Rattle.datastream.specs.InboundFields.{IsStorableCell, IsSendable}

-- ---- one cell

choose : (test : Bool) (x y : Cell) → IsStorableCell x → IsStorableCell y → IsStorableCell (cond test x y)
choose true x y p q = p
choose false x y p q = q

pub storable_erased : (cell : Cell) → IsStorableCell cell → IsStorableCell (erased cell)
storable_erased (Char byte) p = λ i. true
storable_erased (Attr attribute) p = tt

pub storable_unmodified : (cell : Cell) → IsStorableCell cell → IsStorableCell (unmodified cell)
storable_unmodified (Char byte) p = p
storable_unmodified (Attr attribute) p = tt

pub storable_modified : (cell : Cell) → IsStorableCell cell → IsStorableCell (modified cell)
storable_modified (Char byte) p = p
storable_modified (Attr attribute) p = tt

pub storable_open_unmodified : (cell : Cell) → IsStorableCell cell → IsStorableCell (open_unmodified cell)
storable_open_unmodified (Char byte) p = p
storable_open_unmodified (Attr attribute) p = protected_or (attribute.protected)
  where
    protected_or : (protected : Bool) → IsStorableCell (cond (not protected) (unmodified (Attr attribute)) (Attr attribute))
    protected_or true = tt
    protected_or false = tt

-- ---- all cells

pub storable_across : (from count : ℕ) (rule : ℕ → Cell → Cell) (cells : List Cell) → ((at : ℕ) (old : Cell) → IsStorableCell old → IsStorableCell (rule at old)) → All IsStorableCell cells → All IsStorableCell (across from count rule cells)
storable_across from count rule cells keeps each k d below =
    let inside : k < length cells = rw (length-across from count rule cells) at below in
    rw (get_or-across from count rule cells k d inside)
    (choose (is_within (length cells) from count k) _ _ (keeps k _ (each k d inside)) (each k d inside))

-- ---- a screen with other cells

pub with_cells : (screen : Screen) (cells : List Cell) → length cells ≡ length screen.cells → All IsStorableCell cells → IsSendable screen → IsSendable (record screen { cells = cells })
with_cells screen cells same each proper = record {
  few = omega (arith, same, proper.few);
  cursor = omega (arith, same, proper.cursor);
  aid = proper.aid;
  storable = each;
}

pub with_filled : (screen : Screen) (from count : ℕ) (new : Cell) → IsStorableCell new → IsSendable screen → IsSendable (record screen { cells = filled from count new screen.cells })
with_filled screen from count new p proper =
    with_cells screen (filled from count new screen.cells) (length-across from count _ screen.cells)
    (storable_across from count (λ (at : ℕ) (old : Cell). new) screen.cells (λ at old q. p) proper.storable)
    proper

pub with_opened : (screen : Screen) (from count : ℕ) → IsSendable screen → IsSendable (record screen { cells = opened from count screen.cells })
with_opened screen from count proper =
    let rule : ℕ → Cell → Cell = λ at old. cond (is_protected screen.cells at) old (erased old) in
    with_cells screen (opened from count screen.cells) (length-across from count rule screen.cells)
    (storable_across from count rule screen.cells
    (λ at old p. choose (is_protected screen.cells at) old (erased old) p (storable_erased old p)) proper.storable)
    proper

pub with_mapped : (screen : Screen) (change : Cell → Cell) → ((cell : Cell) → IsStorableCell cell → IsStorableCell (change cell)) → IsSendable screen → IsSendable (record screen { cells = map change screen.cells })
with_mapped screen change keeps proper =
    with_cells screen (map change screen.cells) (length-map screen.cells change)
    (All-map IsStorableCell change screen.cells (λ k d below. keeps _ (proper.storable k d below)))
    proper

pub with_stored : (screen : Screen) (at : ℕ) (cell : Cell) → IsStorableCell cell → IsSendable screen → IsSendable (record screen { cells = set screen.cells at cell })
with_stored screen at cell p proper =
    with_cells screen (set screen.cells at cell) (length-set screen.cells at cell)
    (All-set IsStorableCell screen.cells at cell p proper.storable)
    proper

pub with_cursor : (screen : Screen) (at : ℕ) → at < length screen.cells → IsSendable screen → IsSendable (record screen { cursor = at })
with_cursor screen at below proper = record { few = proper.few; cursor = below; aid = proper.aid; storable = proper.storable }

-- What is believed has the size of the screen, and so has what is shown there.
use Rattle.std.proofs.Common.{◌≡◌, ◌<◌, ◌≤◌, ◌-◌, ◌*◌, ℕ, zero, suc, List, Option, Some, None, sym, subst, arith}
use Rattle.std.specs.Prelude.{IfSome, slice_index_or}
use Rattle.codes3270.specs.Size.{ScreenSize, cells_in, most_cells}
use Rattle.panels.specs.Panel.{PanelParts, Panels, AreLaidOut, IsAbove, IsLaidOut, size_of}
use Rattle.panels.specs.Size.{message_start}
use Rattle.panels.specs.declared.panel.Field.{Field}
use Rattle.shadow.specs.Belief.{IsOfSize, Shadow, cells_believed}
use Rattle.host_core.proofs.Showing.{laid_out_at}
use Rattle.host_core.specs.Application.{IsValidSize, panel_at}
use Rattle.host_core.specs.Representation.{BelievesTheSize}
use Rattle.host_core.specs.Learning.{HaveFields}
use Rattle.host_core.specs.Session.{Session}
use Rattle.host_core.specs.Sound.{IsShownOn}
use Rattle.host_core.specs.declared.pending.Pending.{Pending as PendingKind}
use Rattle.host_core.specs.declared.pending.Pending.TheVariants as unanswered

-- ---- a size

-- what the getters of a size say makes it one with a row for messages
pub is_shape : (size : ScreenSize) → cells_in size ≤ most_cells → 0 < cells_in size → 1 < size.columns → IsValidSize size
is_shape size few some several = record { columns = several; row = by_rows size.rows size.columns some; addresses = few }
  where
    by_rows : (rows columns : ℕ) → 0 < rows * columns → columns ≤ rows * columns
    by_rows zero columns below = absurd (omega arith)
    by_rows (suc rows) columns below = omega arith

-- ---- what is believed

pub believes_any : (shape : ScreenSize) (pending : PendingKind) (sent : List ℕ) (shadow : Shadow) → IsOfSize (cells_in shape) shadow → BelievesTheSize shape pending sent shadow
believes_any shape unanswered.Nothing sent shadow is = is
believes_any shape (unanswered.Writing number) sent shadow is = λ writes. is
believes_any shape (unanswered.Reading number) sent shadow is = is
believes_any shape (unanswered.Noting number) sent shadow is = is

-- ---- the fields of a panel

field_believed : (cells : Option ℕ) (size : ScreenSize) (field : Field) → IfSome cells (λ count. count ≡ cells_in size) → IsAbove size field.extent
    → 0 < cells_in size → message_start size ≤ cells_in size → IfSome cells (λ count. field.extent.first - 1 < count)
field_believed None size field sized above some rows = tt
field_believed (Some count) size field sized above some rows = omega (arith, sized, above, some, rows)

rows_within : (rows columns : ℕ) → (rows - 1) * columns ≤ rows * columns
rows_within zero columns = omega arith
rows_within (suc rows) columns = subst (λ (n : ℕ). n * columns ≤ suc rows * columns) (sym (less_one rows)) (omega arith)
  where
    less_one : (n : ℕ) → suc n - 1 ≡ n
    less_one n = omega arith

pub fields_believed : (panels : Panels) (conn : Session) → AreLaidOut panels → IsShownOn panels conn → IsOfSize (cells_in conn.size) conn.shadow
    → HaveFields conn.shadow (panel_at panels conn.panel).fields
fields_believed panels conn laid on known =
    let panel : PanelParts = panel_at panels conn.panel in
    let is : IsLaidOut panel = laid_out_at panels conn.panel laid in
    let sized : IsOfSize (cells_in (size_of panel)) conn.shadow = subst (λ (size : ScreenSize). IsOfSize (cells_in size) conn.shadow) (sym on.size) known in
    λ k d below.
    field_believed (cells_believed conn.shadow) (size_of panel) (slice_index_or panel.fields k d) sized (is.fields k d below)
    (omega (arith, is.cursor)) (rows_within (size_of panel).rows (size_of panel).columns)

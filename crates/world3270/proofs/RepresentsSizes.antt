-- The sizes of a terminal's screen: two of them with as many cells are one; and a paint that may come is read as it was written.
use Rattle.std.proofs.Common.{◌≡◌, ◌<◌, ◌≤◌, ◌==◌, inl, inr, ℕ, Bool, true, false, List, Some, length, refl, sym, ap, subst, ◌∙◌, arith, if◌then◌else◌}
use Rattle.std.proofs.lemmas.Bool.{eqb-true}
use Rattle.std.specs.Prelude.{IfSome}
use Rattle.codes3270.specs.Size.{ScreenSize, alternate_of, cells_in, model_2, most_cells, most_columns}
use Rattle.codes3270.specs.declared.size.Model.{Model}
use Rattle.codes3270.specs.declared.size.Model.TheVariants.{M2, M3, M4, M5}
use Rattle.datastream.specs.Grammar.{IsCommand}
use Rattle.datastream.specs.Wanted.{WantedScreen}
use Rattle.datastream.specs.declared.command_code.CommandCode.{CommandCode}
use Rattle.datastream.specs.declared.command_code.CommandCode.TheVariants.{Write, EraseWrite, EraseWriteAlternate}
use Rattle.presentation.specs.Sizes.{HasSize}
use Rattle.shadow.specs.Belief.{Shadow, Belief, cells_believed, cells_of_fields}
use Rattle.shadow.specs.Paint.{paint, writes_over, is_base_size, erase_code, paint_code}
use Rattle.shadow.specs.Sized.{MeetsIsOfSize}
use Rattle.telnet_wire.specs.Items.{WireItem}
use Rattle.term_core.specs.Records.{is_restoring_write}
use Rattle.world3270.specs.refinement.Sendable.{CanBeSent}
use Rattle.world3270.specs.refinement.Represents.{IsPaint}
use Rattle.world3270.specs.refinement.RepresentsEnds.{IsOpen, MayBePainted}
use Rattle.world3270.specs.model.Terminal.{TermEnd}

-- a size has cells, and no more than an address can name
pub has_cells : (model : Model) (size : ScreenSize) → HasSize model size → 0 < cells_in size
has_cells model size (inl base) = subst (λ (s : ScreenSize). 0 < cells_in s) (sym base) (omega arith)
has_cells model size (inr alternate) = subst (λ (s : ScreenSize). 0 < cells_in s) (sym alternate) (by_model model)
  where
    by_model : (m : Model) → 0 < cells_in (alternate_of m)
    by_model M2 = omega arith
    by_model M3 = omega arith
    by_model M4 = omega arith
    by_model M5 = omega arith

pub has_few_cells : (model : Model) (size : ScreenSize) → HasSize model size → cells_in size ≤ most_cells
has_few_cells model size (inl base) = subst (λ (s : ScreenSize). cells_in s ≤ most_cells) (sym base) (omega arith)
has_few_cells model size (inr alternate) = subst (λ (s : ScreenSize). cells_in s ≤ most_cells) (sym alternate) (by_model model)
  where
    by_model : (m : Model) → cells_in (alternate_of m) ≤ most_cells
    by_model M2 = omega arith
    by_model M3 = omega arith
    by_model M4 = omega arith
    by_model M5 = omega arith

-- nor more columns than any model
pub is_narrow : (model : Model) (size : ScreenSize) → HasSize model size → size.columns ≤ most_columns
is_narrow model size (inl base) = subst (λ (s : ScreenSize). s.columns ≤ most_columns) (sym base) (omega arith)
is_narrow model size (inr alternate) = subst (λ (s : ScreenSize). s.columns ≤ most_columns) (sym alternate) (by_model model)
  where
    by_model : (m : Model) → ScreenSize.columns (alternate_of m) ≤ most_columns
    by_model M2 = omega arith
    by_model M3 = omega arith
    by_model M4 = omega arith
    by_model M5 = omega arith

-- both sizes of a model have as many cells only if they are one
alternate_is_base : (model : Model) → cells_in (alternate_of model) ≡ cells_in model_2 → alternate_of model ≡ model_2
alternate_is_base M2 same = refl
alternate_is_base M3 same = absurd (omega (arith, same))
alternate_is_base M4 same = absurd (omega (arith, same))
alternate_is_base M5 same = absurd (omega (arith, same))

pub same_size : (model : Model) (one other : ScreenSize) → HasSize model one → HasSize model other → cells_in one ≡ cells_in other → one ≡ other
same_size model one other (inl first) (inl second) same = first ∙ sym second
same_size model one other (inr first) (inr second) same = first ∙ sym second
same_size model one other (inr first) (inl second) same =
    first ∙ alternate_is_base model (sym (ap (λ (s : ScreenSize). cells_in s) first) ∙ same ∙ ap (λ (s : ScreenSize). cells_in s) second) ∙ sym second
same_size model one other (inl first) (inr second) same =
    first ∙ sym (alternate_is_base model (sym (ap (λ (s : ScreenSize). cells_in s) second) ∙ sym same ∙ ap (λ (s : ScreenSize). cells_in s) first)) ∙ sym second

-- ---- a paint

-- a paint is a write that restores, with whichever of the three codes
pub paint_writes : (size : ℕ) (believed : Shadow) (wanted : WantedScreen) → is_restoring_write (paint size believed wanted) ≡ true
paint_writes size believed wanted = by_over (writes_over size believed)
  where
    restores : CommandCode → Bool
    restores code = is_restoring_write (record (paint size believed wanted) { code = code })

    by_base : (b : Bool) → restores (if b then EraseWrite else EraseWriteAlternate) ≡ true
    by_base true = refl
    by_base false = refl

    by_over : (b : Bool) → restores (if b then Write else erase_code wanted.size) ≡ true
    by_over true = refl
    by_over false = by_base (is_base_size wanted.size)

-- a paint is a Write only if what is believed has the wanted size
pub written_over : (n : ℕ) (believed : Shadow) (wanted : WantedScreen) → paint_code n believed wanted ≡ Write → cells_believed believed ≡ Some n
written_over n believed wanted writes = by_belief believed writes
  where
    by_base : (b : Bool) → (if b then EraseWrite else EraseWriteAlternate) ≡ Write → ⊥
    by_base true e = cc
    by_base false e = cc

    by_size : (beliefs : List Belief) (b : Bool) → (cells_of_fields beliefs == n) ≡ b → (if b then Write else erase_code wanted.size) ≡ Write → Some (cells_of_fields beliefs) ≡ Some n
    by_size beliefs true e is = ap (λ (cells : ℕ). Some cells) (eqb-true (cells_of_fields beliefs) n e)
    by_size beliefs false e is = absurd (by_base (is_base_size wanted.size) is)

    by_belief : (shadow : Shadow) → paint_code n shadow wanted ≡ Write → cells_believed shadow ≡ Some n
    by_belief Shadow.NothingKnown is = absurd (by_base (is_base_size wanted.size) is)
    by_belief (Shadow.Unformatted known) is = absurd (by_base (is_base_size wanted.size) is)
    by_belief (Shadow.Formatted beliefs) is = by_size beliefs (cells_of_fields beliefs == n) refl is

-- A terminal may execute a paint, whatever its screen has: the wanted size is one of its model's, and a Write finds as many cells as it was
-- written for.
pub record MayExecute (wanted : WantedScreen) (believed : Shadow) (end : TermEnd) : Type 0 where
  pub is_open : IsOpen end.talk.talk.state
  pub size : HasSize end.display.model wanted.size
  pub now : HasSize end.display.model end.display.size
  pub fits : paint_code (cells_in wanted.size) believed wanted ≡ Write → cells_in wanted.size ≡ length end.display.screen.cells

-- it may if its screen meets the belief
pub executes : MeetsIsOfSize → (wanted : WantedScreen) (believed : Shadow) (end : TermEnd) → MayBePainted wanted believed end → MayExecute wanted believed end
executes sized wanted believed end may = record {
  is_open = may.is_open;
  size = may.size;
  now = may.now;
  fits = λ writes. subst (λ known. IfSome known (λ (cells : ℕ). cells ≡ length end.display.screen.cells)) (written_over (cells_in wanted.size) believed wanted writes) (sized believed end.display.screen may.meets);
}

-- a Write finds a screen of the wanted size
pub written_on : (wanted : WantedScreen) (believed : Shadow) (end : TermEnd) → MayExecute wanted believed end → CanBeSent end.display.size end.display.screen
    → paint_code (cells_in wanted.size) believed wanted ≡ Write → wanted.size ≡ end.display.size
written_on wanted believed end may is writes = same_size end.display.model wanted.size end.display.size may.size may.now (may.fits writes ∙ is.whole)

-- its bytes are that very command for the screen as it is
pub read_as_written : (number : ℕ) (wanted : WantedScreen) (believed : Shadow) (item : WireItem) (end : TermEnd) (p : IsPaint item number wanted believed)
    → MayExecute wanted believed end → CanBeSent end.display.size end.display.screen
    → IsCommand end.display.size (alternate_of end.display.model) (paint (cells_in wanted.size) believed wanted) p.body
read_as_written number wanted believed item end p may is =
    p.encoded end.display.size (alternate_of end.display.model) may.size (written_on wanted believed end may is)

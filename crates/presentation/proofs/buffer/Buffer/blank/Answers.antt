use Rattle.std.proofs.Common.{◌≡◌, ◌≤◌, ◌<◌, ◌∙◌, ℕ, List, ap, arith, inl, sym, subst, replicate}
use Rattle.codes3270.specs.Size.{ScreenSize, cells_in, most_cells}
use Rattle.codes3270.specs.declared.attention.Aid.TheVariants.{NoAid}
use Rattle.codes3270.specs.declared.attribute.Cell.{Cell}
use Rattle.codes3270.specs.declared.attribute.Cell.TheVariants.{Char}
use Rattle.presentation.specs.Sizes.{IsSized}
use Rattle.presentation.proofs.Sized.{blank_sized, sized}
use Rattle.presentation.proofs.buffer.Buffer.blank.Goals as goal

pub returns : goal.returns
returns c =
    let model = c.args.model in
    ap (λ (cells : List Cell). sized model c.base-2.result c.first.result NoAid cells) (c.nulls.ensures ∙ ap (λ (size : ScreenSize). replicate (cells_in size) (Char 0)) (c.base.ensures ∙ sym c.base-2.ensures))
    ∙ ap (λ (at : ℕ). sized model c.base-2.result at NoAid (replicate (cells_in c.base-2.result) (Char 0))) c.first.ensures
    ∙ ap (λ (size : ScreenSize). sized model size 0 NoAid (replicate (cells_in size) (Char 0))) c.base-2.ensures

pub invariant_of-result : goal.invariant_of-result
invariant_of-result c =
    let model = c.args.model in
    let size : ScreenSize = c.base-2.result in
    let few : cells_in size ≤ most_cells = rw c.base-2.ensures (omega arith) in
    let some : 0 < cells_in size = rw c.base-2.ensures (omega arith) in
    let is : sized model size c.first.result NoAid c.nulls.result ≡ sized model size 0 NoAid (replicate (cells_in size) (Char 0)) =
    ap (λ (cells : List Cell). sized model size c.first.result NoAid cells) (c.nulls.ensures ∙ ap (λ (s : ScreenSize). replicate (cells_in s) (Char 0)) (c.base.ensures ∙ sym c.base-2.ensures))
    ∙ ap (λ (at : ℕ). sized model size at NoAid (replicate (cells_in size) (Char 0))) c.first.ensures in
    subst IsSized (sym is) (blank_sized model size (inl c.base-2.ensures) some few)

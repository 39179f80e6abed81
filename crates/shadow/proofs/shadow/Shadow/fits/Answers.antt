use Rattle.std.proofs.Common.{◌∙◌, ap, sym, ℕ, Bool, List, true, ◌&&◌}
use Rattle.codes3270.specs.Size.{cells_in}
use Rattle.shadow.specs.Belief.{Belief, Shadow, fields_of}
use Rattle.shadow.specs.Fits.{fields_fit, is_of_size}
use Rattle.shadow.specs.InPlace.{beliefs_held, shadow_held}
use Rattle.shadow.proofs.Placed.{fields_held, has_size}
use Rattle.shadow.proofs.shadow.Shadow.fits.Goals as goal

pub returns-in-Some : goal.returns-in-Some
returns-in-Some c =
    let wanted = c.args.wanted.now in
    let places = c.in-Some.beliefs.now in
    let n : ℕ = cells_in wanted.size in
    c.fits_over.ensures
    ∙ ap (λ (t : Bool). t && fields_fit (beliefs_held places 0 places) wanted.cells) (sym (has_size places n))
    ∙ ap (λ (bs : List Belief). is_of_size n (shadow_held true places) && fields_fit bs wanted.cells) (sym (fields_held places))
    ∙ ap (λ (s : Shadow). is_of_size n s && fields_fit (fields_of s) wanted.cells) (sym c.in-Some.ensures.0)

pub returns-in-None : goal.returns-in-None
returns-in-None c =
    let wanted = c.args.wanted.now in
    c.fits_fields.ensures ∙ ap (λ (s : Shadow). is_of_size (cells_in wanted.size) s && fields_fit (fields_of s) wanted.cells) (sym c.in-None.ensures)

use Rattle.std.proofs.Common.{List, ℕ, Some, ap, sym, ◌∙◌}
use Rattle.std.specs.Prelude.{option_copied}
use Rattle.panels.proofs.Setting.{set_again}
use Rattle.panels.proofs.values.Values.get.Goals as goal

pub returns-clause-same : goal.returns-clause-same
returns-clause-same c =
    rw (← c.self.view_is)
    (set_again c.self.inside.values.entries c.args.field c.as_slice.result.now c.len-count.ensures.ordered
    (sym c.get.ensures.value ∙ ap option_copied c.in_ok-get.was ∙ ap (λ (value : List ℕ). Some value) (sym c.as_slice.ensures.bytes)))

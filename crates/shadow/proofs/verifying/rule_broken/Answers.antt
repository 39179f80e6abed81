use Rattle.std.proofs.Common.{◌≡◌, ◌+◌, ◌++◌, ◌∙◌, ap, sym, drop, get_or, Bool, List, ℕ, Option, Some, if◌then◌else◌}
use Rattle.std.proofs.lemmas.List.{get_or_default}
use Rattle.shadow.specs.declared.cell_belief.CellBelief.{CellBelief}
use Rattle.shadow.specs.declared.cell_belief.CellBelief.TheVariants.{Unknown}
use Rattle.shadow.specs.declared.rule_break.Rule.{Rule}
use Rattle.shadow.specs.declared.rule_break.Rule.TheVariants.{Applies}
use Rattle.shadow.specs.InPlace.{chars_known, known_text}
use Rattle.shadow.specs.Runs.{operator_rule_at}
use Rattle.shadow.specs.Since.{beliefs_of_cells}
use Rattle.shadow.proofs.RuleWalk.{rule_here}
use Rattle.shadow.proofs.verifying.rule_broken.Goals as goal

pub returns-then-is_other : goal.returns-then-is_other
returns-then-is_other c =
    let whole = c.args.beliefs.now in
    let n : ℕ = c.args.place in
    let read : List CellBelief = beliefs_of_cells c.args.rest.now ++ beliefs_of_cells c.args.whole.now in
    let same : Option Rule = operator_rule_at n (get_or whole n Unknown) c.args.cell (drop (n + 1) whole ++ whole) (known_text (chars_known read)) in
    sym (rule_here whole n c.args.cell read c.requires.placed c.requires.held ∙ ap (λ (other : Bool). if other then Some Applies else same) (sym c.is_other.ensures ∙ c.if-is_other.true))

pub returns : goal.returns
returns c =
    let whole = c.args.beliefs.now in
    let n : ℕ = c.args.place in
    let read : List CellBelief = beliefs_of_cells c.args.rest.now ++ beliefs_of_cells c.args.whole.now in
    let same : Option Rule = operator_rule_at n (get_or whole n Unknown) c.args.cell (drop (n + 1) whole ++ whole) (known_text (chars_known read)) in
    let held : c.get.result ≡ get_or whole n Unknown = c.get.ensures ∙ get_or_default whole n c.get.result Unknown c.requires.placed in
    c.operator_rule.ensures
    ∙ ap (λ (p : CellBelief). operator_rule_at n p c.args.cell (drop (n + 1) whole ++ whole) (known_text (chars_known read))) held
    ∙ sym (rule_here whole n c.args.cell read c.requires.placed c.requires.held ∙ ap (λ (other : Bool). if other then Some Applies else same) (sym c.is_other.ensures ∙ c.if-is_other.false))

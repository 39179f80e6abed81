use Rattle.std.proofs.Common.{◌≡◌, ◌∙◌, not, false, ap, sym, rules, tests}
use Rattle.std.specs.Prelude.{option_copied}
use Rattle.std.proofs.lemmas.Bool.{false≢true}
use Rattle.std.specs.Option.{option_map_or}
use Rattle.panels.specs.Faults.{stem_at}
use Rattle.panels.specs.Items.{is_name}
use Rattle.panels.specs.Walk.{is_letter_of}
use Rattle.panels.proofs.Naming.{bad_name, lost_otherwise}
use Rattle.panels.proofs.draft.Draft.has_fault.Goals as goal

pub returns-in-Some-stem : goal.returns-in-Some-stem
returns-in-Some-stem c =
    let bad : not c.is_name.result ≡ option_map_or (λ name. not (is_name (is_letter_of c.args.part) name)) (stem_at c.args.part c.args.self.now.panels) false = search (rules, tests) in
    bad_name c.args.self.now c.args.fault c.args.part _ c.in-BadName-default.is-0 bad

pub returns-then-is_none : goal.returns-then-is_none
returns-then-is_none c = rw (c.in-NoTarget-Text.is-0, c.in-NoTarget-Text.is-1) (search rules)

pub returns-else-has_lost_cursor : goal.returns-else-has_lost_cursor
returns-else-has_lost_cursor c =
    lost_otherwise c.args.self.now c.args.fault c.args.part c.in-NoTarget-Panel.panel c.in-Some-panel-4.panel.now c.has_lost_otherwise.result c.in-NoTarget-Panel.is-0 c.in-NoTarget-Panel.is-1
    (sym c.panel-in-NoTarget-Panel.ensures ∙ ap option_copied c.in-Some-panel-4.is) (λ lost. false≢true (sym c.if-has_lost_cursor.false ∙ c.has_lost_cursor.ensures.1 lost))
    c.has_lost_otherwise.ensures

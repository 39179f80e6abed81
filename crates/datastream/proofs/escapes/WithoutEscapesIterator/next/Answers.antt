use Rattle.std.proofs.Common.{◌≡◌, ◌∙◌, [], sym, rules}
use Rattle.datastream.proofs.Replacing.{nothing_left, copied_first, escape_first}
use Rattle.datastream.proofs.escapes.WithoutEscapesIterator.next.Goals as goal

pub returns-then-is_escape-clause-steps : goal.returns-then-is_escape-clause-steps
returns-then-is_escape-clause-steps c = rw (← c.self.view_is) (escape_first _ _ (sym c.is_escape.ensures ∙ c.if-is_escape.true))

pub returns-then-is_escape-clause-goes : goal.returns-then-is_escape-clause-goes
returns-then-is_escape-clause-goes c =
    let step = returns-then-is_escape-clause-steps c in
    search rules

pub returns-in_default-clause-steps : goal.returns-in_default-clause-steps
returns-in_default-clause-steps c =
    let ends : c.args.self.now ≡ [] = rw (← c.self.view_is) (nothing_left _ _ c.in_default.len_below) in
    (ends, ends)

pub returns-clause-steps : goal.returns-clause-steps
returns-clause-steps c =
    let copied = c.copied_behind-self-inside.ensures in
    rw (← c.self.view_is) (copied_first _ _ _ (sym c.is_escape.ensures ∙ c.if-is_escape.false) c.in-len1-up.len_at_least copied.operands copied.one_less)

pub returns-clause-goes : goal.returns-clause-goes
returns-clause-goes c =
    let step = returns-clause-steps c in
    search rules

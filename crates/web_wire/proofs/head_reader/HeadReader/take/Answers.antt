use Rattle.std.proofs.Common.{◌≡◌, ◌++◌, ◌-◌, ℕ, List, length, take, ap, sym, subst, ◌∙◌}
use Rattle.web_wire.specs.Heads.{most_head, with_more}
use Rattle.web_wire.proofs.HeadLemmas.{take_more_of}
use Rattle.web_wire.proofs.head_reader.HeadReader.take.Goals as goal

pub returns-clause-taken : goal.returns-clause-taken
returns-clause-taken c =
    let old = c.self.inside.bytes.items in
    subst (λ (before : List ℕ). c.extend_from_slice.new.self.items ≡ with_more before c.args.bytes.now) c.self.view_is
    (c.in_ok-extend_from_slice.ensures.items
    ∙ ap (λ (bytes : List ℕ). old ++ bytes)
    (c.front_of.ensures ∙ ap (λ (bytes : List ℕ). take (most_head - length bytes) c.args.bytes.now) c.as_slice.ensures.value)
    ∙ sym (take_more_of most_head old c.args.bytes.now c.self.invariant))

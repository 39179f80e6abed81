use Rattle.std.proofs.Common.{◌≡◌, Some, subst, false, string_bytes, rules, tests}
use Rattle.std.specs.Prelude.{bytes_eq, is_some}
use Rattle.std.specs.Map.{update}
use Rattle.std.proofs.lemmas.Map.Text.{btree_map_updates_text}
use Rattle.panels.specs.Index.{part_named}
use Rattle.panels.proofs.Indexing.{none_of, noted_absent}
use Rattle.panels.proofs.index.note.Goals as goal

pub returns-in_ok-insert : goal.returns-in_ok-insert
returns-in_ok-insert c = λ other.
    let name = c.in-Some.name.now in
    let absent : is_some (part_named c.args.index.now name) ≡ false = search (rules, tests) in
    rw c.in-Some.is (noted_absent (part_named c.args.index.now) (part_named c.insert.new.self) name c.args.part other
    (λ cs.
    subst (λ n. part_named c.insert.new.self cs ≡ update bytes_eq (part_named c.args.index.now) n (Some c.args.part) cs) c.in_ok-from_str.ensures.ok
    (btree_map_updates_text (string_bytes c.in_ok-from_str.field-0) c.args.index.now c.insert.new.self (Some c.args.part) c.in_ok-insert.ensures.updates cs))
    (none_of _ absent))

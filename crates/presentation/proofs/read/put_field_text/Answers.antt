use Rattle.std.proofs.Common.{◌≡◌, ◌+◌, ◌-◌, ◌<◌, ◌≤◌, ◌==◌, ◌∙◌, ◌++◌, ℕ, List, [], not, length, take, drop, ap, sym, subst, arith, append-nil}
use Rattle.std.proofs.lemmas.List.Elements.{filter-append}
use Rattle.std.proofs.lemmas.Result.{err_from_is_err_and}
use Rattle.codes3270.proofs.Appendings.{IsAppending, appending_from, appending_more, appending_stopped, some_longer, some_same, some_then}
use Rattle.datastream.specs.Inbound.{without_nulls}
use Rattle.datastream.specs.Screen.{field_text}
use Rattle.presentation.proofs.Steps.{next_within, field_codes_front, field_codes_inside, field_codes_round}
use Rattle.presentation.proofs.read.put_field_text.Goals as goal

without_nulls-append : (xs ys : List ℕ) → without_nulls (xs ++ ys) ≡ without_nulls xs ++ without_nulls ys
without_nulls-append xs ys = filter-append (λ (byte : ℕ). not (byte == 0)) xs ys

pub between-requires-clause-few : goal.between-requires-clause-few
between-requires-clause-few c =
    let within = next_within c.args.cells.now c.args.attr c.args.next c.requires.placed c.requires.attribute c.requires.next in
    omega (arith, within, c.codes-codes.ensures.len)

pub returns-in_err-put_without_nulls : goal.returns-in_err-put_without_nulls
returns-in_err-put_without_nulls c =
    let failed = err_from_is_err_and c.from_residual.result c.from_residual.ensures.1 in
    let found = field_codes_front c.args.cells.now c.codes-codes.result.now c.args.attr c.args.next c.codes-codes.ensures.codes c.requires.placed c.requires.attribute c.requires.next in
    let whole : without_nulls c.between.result.now ++ without_nulls found.0 ≡ without_nulls (field_text c.args.cells.now c.args.attr) =
    sym (without_nulls-append c.between.result.now found.0) ∙ ap without_nulls (ap (λ (front : List ℕ). front ++ found.0) c.between.ensures ∙ sym found.1) in
    rw failed.1 (some_same _ _ _ _ _ whole (some_longer _ _ _ _ _ _ c.in_err-put_without_nulls.ensures))

pub returns-in_err-put_without_nulls-2 : goal.returns-in_err-put_without_nulls-2
returns-in_err-put_without_nulls-2 c =
    let failed = err_from_is_err_and c.from_residual-in_err-put_without_nulls-2.result c.from_residual-in_err-put_without_nulls-2.ensures.1 in
    let front : List ℕ = c.between.result.now in
    let behind : List ℕ = c.between-then-next-codes.result.now in
    let end : length c.args.cells.now ≤ c.args.next = omega (arith, c.if-next-codes.true, c.codes-codes.ensures.len) in
    let is = field_codes_round c.args.cells.now c.codes-codes.result.now c.args.attr c.args.next c.attribute_from.result c.codes-codes.ensures.codes c.requires.placed c.requires.attribute c.requires.next end c.attribute_from.ensures.place in
    let whole : without_nulls front ++ without_nulls behind ≡ without_nulls (field_text c.args.cells.now c.args.attr) =
    sym (without_nulls-append front behind)
    ∙ ap without_nulls (ap (λ (text : List ℕ). text ++ behind) c.between.ensures ∙ ap (λ (text : List ℕ). take (c.args.next - (c.args.attr + 1)) (drop (c.args.attr + 1) c.codes-codes.result.now) ++ text) c.between-then-next-codes.ensures ∙ sym is) in
    let all : List ℕ = without_nulls front ++ without_nulls behind in
    let first = appending_more _ _ _ _ (without_nulls front) (without_nulls behind) all (appending_from c.args.out.now all) c.in_ok-put_without_nulls.ensures in
    let then = subst (λ (rest : List ℕ). IsAppending c.args.out.now c.put_without_nulls.new.out rest all) (sym (append-nil (without_nulls behind))) first in
    rw failed.1 (some_same _ _ _ _ _ whole (appending_stopped _ _ _ _ _ (without_nulls behind) [] all then c.in_err-put_without_nulls-2.ensures))

pub returns-in_ok-put_without_nulls-2 : goal.returns-in_ok-put_without_nulls-2
returns-in_ok-put_without_nulls-2 c =
    let front : List ℕ = c.between.result.now in
    let behind : List ℕ = c.between-then-next-codes.result.now in
    let end : length c.args.cells.now ≤ c.args.next = omega (arith, c.if-next-codes.true, c.codes-codes.ensures.len) in
    let is = field_codes_round c.args.cells.now c.codes-codes.result.now c.args.attr c.args.next c.attribute_from.result c.codes-codes.ensures.codes c.requires.placed c.requires.attribute c.requires.next end c.attribute_from.ensures.place in
    let whole : without_nulls front ++ without_nulls behind ≡ without_nulls (field_text c.args.cells.now c.args.attr) =
    sym (without_nulls-append front behind)
    ∙ ap without_nulls (ap (λ (text : List ℕ). text ++ behind) c.between.ensures ∙ ap (λ (text : List ℕ). take (c.args.next - (c.args.attr + 1)) (drop (c.args.attr + 1) c.codes-codes.result.now) ++ text) c.between-then-next-codes.ensures ∙ sym is) in
    some_same _ _ _ _ _ whole (some_then _ _ _ _ _ _ _ c.in_ok-put_without_nulls.ensures c.in_ok-put_without_nulls-2.ensures)

pub returns-else-next-codes : goal.returns-else-next-codes
returns-else-next-codes c =
    let within = next_within c.args.cells.now c.args.attr c.args.next c.requires.placed c.requires.attribute c.requires.next in
    let inner : c.args.next < length c.args.cells.now = omega (arith, within, c.if-next-codes.false, c.codes-codes.ensures.len) in
    let is = field_codes_inside c.args.cells.now c.codes-codes.result.now c.args.attr c.args.next c.codes-codes.ensures.codes c.requires.placed c.requires.attribute c.requires.next inner in
    some_same _ _ _ _ _ (ap without_nulls (c.between.ensures ∙ sym is)) c.in_ok-put_without_nulls.ensures

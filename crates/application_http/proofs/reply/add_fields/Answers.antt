use Rattle.std.proofs.Common.{string_bytes}
use Rattle.std.proofs.lemmas.Result.{err_from_is_err_and}
use Rattle.serde_json.specs.View.{members_view, view}
use Rattle.application_http.proofs.Replies.{arrays_added, has_first, has_later, texts_added}
use Rattle.application_http.proofs.reply.add_fields.Goals as goal

pub loop-name-preserved : goal.loop-name-preserved
loop-name-preserved c =
    let name = string_bytes c.in-Some.name.now in
    let value = view c.in-Some.value.now in
    let rest = members_view c.next.new.self in record {
      arrays = arrays_added name value rest _ _ _ (rw c.in-Some.ensures.steps at c.loop-name.invariant.arrays) (rw c.as_str.ensures.value at c.in_ok-add_member.ensures.arrays);
      texts = texts_added name value rest _ _ _ (rw c.in-Some.ensures.steps at c.loop-name.invariant.texts) (rw c.as_str.ensures.value at c.in_ok-add_member.ensures.texts);
      refused = λ later. c.loop-name.invariant.refused (rw c.in-Some.ensures.steps (has_later name value rest later));
    }

pub returns-in_err-add_member-clause-refused : goal.returns-in_err-add_member-clause-refused
returns-in_err-add_member-clause-refused c =
    let some = rw c.as_str.ensures.value at c.in_err-add_member.ensures.refused in
    let same = err_from_is_err_and c.from_residual.result c.from_residual.ensures.1 in
    rw same.1 (c.loop-name.invariant.refused (rw c.in-Some.ensures.steps (has_first (string_bytes c.in-Some.name.now) (view c.in-Some.value.now) (members_view c.next.new.self) some)))

use Rattle.std.proofs.Common.{ℕ, List, IfOk, IfErr, true, subst, ◌∙◌}
use Rattle.application_http.specs.Readings.{IsFound, IsRefused}
use Rattle.application_http.proofs.Readings.{same_bytes}
use Rattle.application_http.proofs.reader.ReplyReader.end.Goals as goal

pub returns-clause-found : goal.returns-clause-found
returns-clause-found c = λ so_far is.
    let same = same_bytes c.self.inside.is_over c.self.inside.bytes.items so_far c.args.self.now c.if-self.false c.self.view_is is in
    subst (λ (bytes : List ℕ). IfOk c.conclude.result (IsFound true bytes)) (c.as_slice.ensures.value ∙ same) c.conclude.ensures.found

pub returns-clause-refused : goal.returns-clause-refused
returns-clause-refused c = λ so_far is.
    let same = same_bytes c.self.inside.is_over c.self.inside.bytes.items so_far c.args.self.now c.if-self.false c.self.view_is is in
    subst (λ (bytes : List ℕ). IfErr c.conclude.result (IsRefused true bytes)) (c.as_slice.ensures.value ∙ same) c.conclude.ensures.refused

use Rattle.std.proofs.Common.{◌++◌, ℕ, List, IfOk, IfErr, false, subst}
use Rattle.application_http.specs.Readings.{IsFound, IsRefusedAfter}
use Rattle.application_http.proofs.Readings.{same_bytes}
use Rattle.application_http.proofs.reader.ReplyReader.feed.Goals as goal

pub returns-clause-found : goal.returns-clause-found
returns-clause-found c = λ so_far is.
    let same = same_bytes c.self.inside.is_over c.self.inside.bytes.items so_far c.args.self.now c.if-self.false c.self.view_is is in
    subst (λ (old : List ℕ). IfOk c.advance-answer.result (IsFound false (old ++ c.args.bytes.now))) same c.advance-answer.ensures.found

pub returns-clause-refused : goal.returns-clause-refused
returns-clause-refused c = λ so_far is.
    let same = same_bytes c.self.inside.is_over c.self.inside.bytes.items so_far c.args.self.now c.if-self.false c.self.view_is is in
    subst (λ (old : List ℕ). IfErr c.advance-answer.result (IsRefusedAfter old c.args.bytes.now)) same c.advance-answer.ensures.refused

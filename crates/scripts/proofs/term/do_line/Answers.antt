use Rattle.std.proofs.Common.{[], refl, sym, string_bytes}
use Rattle.std.proofs.lemmas.List.{append-nil}
use Rattle.std.proofs.lemmas.Result.{on_ok_weaker}
use Rattle.scripts.proofs.term.do_line.Goals as goal

pub returns-in-Wait : goal.returns-in-Wait
returns-in-Wait g c =
    rw c.in-Wait.is (on_ok_weaker c.wait.result (λ waited. ([], (waited, refl), sym (append-nil (string_bytes c.args.text.now)))) c.wait.ensures)

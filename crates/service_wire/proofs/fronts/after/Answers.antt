use Rattle.std.proofs.Common.{◌++◌, length, sym, ap, ◌∙◌, arith}
use Rattle.std.proofs.lemmas.List.{take_all, length-drop}
use Rattle.std.proofs.lemmas.Bool.Decides.{Decides-eqb}
use Rattle.std.proofs.lemmas.Slice.Eq.{starts_is}
use Rattle.service_wire.proofs.fronts.after.Goals as goal

pub returns-then-starts_with : goal.returns-then-starts_with
returns-then-starts_with c =
    let bytes = c.args.bytes.now in
    let mark = c.args.mark.now in
    let split = (starts_is Decides-eqb bytes mark c.starts_with.result c.starts_with.ensures.value).0 c.if-starts_with.true in
    split ∙ ap (λ rest. mark ++ rest) (sym (take_all _ _ (omega (arith, length-drop (length mark) bytes))))

pub returns-else-starts_with : goal.returns-else-starts_with
returns-else-starts_with c = λ rest split.
    let yes = (starts_is Decides-eqb c.args.bytes.now c.args.mark.now c.starts_with.result c.starts_with.ensures.value).1 rest split in
    let no = c.if-starts_with.false in cc

use Rattle.std.proofs.Common.{◌∙◌, ◌++◌, ◌-◌, [], arith}
use Rattle.std.specs.Prelude.{codes}
use Rattle.std.specs.Fmt.{decimal, digits}
use Rattle.std.proofs.lemmas.List.FromFn.{get_or-map-range_with_len}
use Rattle.keyboard.proofs.key_names.pa_name.Goals as goal

pub returns : goal.returns
unfolding digits
returns c = c.name_at.ensures ∙ get_or-map-range_with_len (λ number. codes "pa" ++ decimal number) 1 3 (c.get.result - 1) c.args.key [] (omega arith) (omega (arith, c.get.ensures.value))

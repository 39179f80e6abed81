use Rattle.std.proofs.Common.{sym, []}
use Rattle.std.proofs.lemmas.List.{get_or-map}
use Rattle.keyboard.proofs.key_names.name_at.Goals as goal

pub returns : goal.returns
returns c = sym (get_or-map (λ name. name.now) c.args.names.now c.args.index _ [] c.requires)

use Rattle.std.proofs.Common.{◌≡◌, ◌-◌, map}
use Rattle.std.specs.List.{range_with_len}
use Rattle.keyboard.specs.KeyNames.{pf_keys, named_among}
use Rattle.keyboard.specs.declared.key.Key.TheVariants.{Pf}
use Rattle.keyboard.proofs.key_names.pf_named.Given as goal

abbrev pub invariant-loop-number : goal.invariant-loop-number
invariant-loop-number l = named_among pf_keys l.name ≡ named_among (map Pf (range_with_len l.number (25 - l.number))) l.name

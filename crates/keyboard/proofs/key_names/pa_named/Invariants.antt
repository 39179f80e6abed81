use Rattle.std.proofs.Common.{◌≡◌, ◌-◌, map}
use Rattle.std.specs.List.{range_with_len}
use Rattle.keyboard.specs.KeyNames.{pa_keys, named_among}
use Rattle.keyboard.specs.declared.key.Key.TheVariants.{Pa}
use Rattle.keyboard.proofs.key_names.pa_named.Given as goal

abbrev pub invariant-loop-number : goal.invariant-loop-number
invariant-loop-number l = named_among pa_keys l.name ≡ named_among (map Pa (range_with_len l.number (4 - l.number))) l.name

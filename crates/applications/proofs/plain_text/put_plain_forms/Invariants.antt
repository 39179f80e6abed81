use Rattle.std.proofs.Common.{◌≡◌, ◌++◌, drop, flat_map, string_bytes}
use Rattle.applications.specs.PlainTexts.{plain_form}
use Rattle.applications.proofs.plain_text.put_plain_forms.Given as goal

abbrev pub invariant-loop-character : goal.invariant-loop-character
invariant-loop-character l = string_bytes l.fn.plain ++ flat_map plain_form l.characters ≡ string_bytes l.plain ++ flat_map plain_form (drop l.character-index l.characters)

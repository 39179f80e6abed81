use Rattle.std.proofs.Common.{◌≡◌, ℕ, List, ◌++◌, drop}
use Rattle.std.specs.Fmt.{HasWritten, IsPlainFormatter}
use Rattle.std.specs.List.{flat_map}
use Rattle.service_wire.specs.Texts.{spelt}
use Rattle.service_wire.proofs.note_text.NoteTextDisplay.fmt.Given as goal

abbrev pub invariant-loop-code : goal.invariant-loop-code
invariant-loop-code g l =
    IsPlainFormatter l.fn.f
    → (done : List ℕ) × HasWritten g.W.Write.write_str_gives l.fn.f done l.f × (done ++ flat_map spelt (drop l.code-index l.code-items) ≡ flat_map spelt l.code-items)

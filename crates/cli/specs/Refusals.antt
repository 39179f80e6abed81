-- The exit status for arguments that give no job (our profile).
use Rattle.std.specs.Prelude.{ℕ}
use Rattle.cli.specs.declared.refusal.WordFault.{WordFault}
use Rattle.cli.specs.declared.refusal.WordFault.TheVariants.{Memory, Refused}

-- the exit status of a refusal
abbrev pub status_of : WordFault → ℕ
status_of (Refused _) = 2
status_of Memory = 3

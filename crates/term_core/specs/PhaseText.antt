-- What `{}` prints of a terminal's phase (our profile).
use Rattle.std.specs.Prelude.{ℕ, List, ◌++◌, codes}
use Rattle.std.specs.Fmt.{decimal}
use Rattle.tn3270e_msg.specs.Words.{cause_number, lu_text}
use Rattle.term_core.specs.declared.phase.TermPhase.{TermPhase}
use Rattle.term_core.specs.declared.phase.TermPhase.TheVariants as phase

-- the phase's name, followed by the LU, the reason's code (RFC 1647, section 3) or the cause's number
abbrev pub phase_text : TermPhase → List ℕ
phase_text phase.Idle = codes "idle"
phase_text phase.Talking = codes "talking"
phase_text (phase.Bound lu) = codes "bound " ++ lu_text lu
phase_text (phase.Refused reason) = codes "refused " ++ decimal reason.0
phase_text (phase.Closed cause) = codes "closed " ++ decimal (cause_number cause)

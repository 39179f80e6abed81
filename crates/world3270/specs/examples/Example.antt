-- The example: a small host, and the ends of its runs. Readers and proofs need it, and nothing rests on it.
use Rattle.lu_pool.specs.Pool.{IsPool}
use Rattle.host_core.specs.Application.{IsApplication}
use Rattle.world3270.specs.examples.ExampleApplication.{example, example_pool}
use Rattle.world3270.specs.examples.ExampleLosses.{LosingRun}
use Rattle.world3270.specs.examples.ExampleNotes.{NotesRun}
use Rattle.world3270.specs.examples.ExampleReads.{ReadingRun, DoubtingRun}
use Rattle.world3270.specs.examples.ExampleRestarts.{RestartingRun}
use Rattle.world3270.specs.examples.ExampleRules.{BrokenRules, CheckingRun, ClearedRun, KeptRules, ToldRun, WaitingRun}
use Rattle.world3270.specs.examples.ExampleRuns.{StoredRun, ReconnectingRun}
use Rattle.world3270.specs.examples.ExampleTargets.{LeadingRun}
use Rattle.world3270.specs.examples.ExampleQuestions.{AskingRun}

pub record TheRunsEndSo : Type 0 where
  pub application : IsApplication example
  pub pool : IsPool example_pool
  pub stored : StoredRun
  pub reconnecting : ReconnectingRun
  pub reading : ReadingRun
  pub doubting : DoubtingRun
  pub restarting : RestartingRun
  pub notes : NotesRun
  pub leading : LeadingRun
  pub asking : AskingRun
  pub losing : LosingRun
  pub waiting : WaitingRun
  pub checking : CheckingRun
  pub told : ToldRun
  pub cleared : ClearedRun
  pub broken : BrokenRules
  pub kept : KeptRules

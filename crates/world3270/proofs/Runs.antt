-- All that is said of the example.
use Rattle.std.specs.Prelude.{false}
use Rattle.world3270.specs.examples.Example.{TheRunsEndSo}
use Rattle.world3270.proofs.ExampleGiven.{is_application, is_pool}
use Rattle.world3270.proofs.RunsOfEntries.{stored_run, reconnecting_run}
use Rattle.world3270.proofs.RunsOfLosses.{losing_run}
use Rattle.world3270.proofs.RunsOfNotes.{notes_run}
use Rattle.world3270.proofs.RunsOfReads.{reading_run, doubting_run}
use Rattle.world3270.proofs.RunsOfRestarts.{restarting_run}
use Rattle.world3270.proofs.RunsOfRules.{broken_rules, checking_run, cleared_run, kept_rules, told_run, waiting_run}
use Rattle.world3270.proofs.RunsOfTargets.{leading_run}
use Rattle.world3270.proofs.RunsOfQuestions.{asking_run}

pub the_runs : TheRunsEndSo
the_runs = record {
  application = is_application false;
  pool = is_pool;
  stored = stored_run;
  reconnecting = reconnecting_run;
  reading = reading_run;
  doubting = doubting_run;
  restarting = restarting_run;
  notes = notes_run;
  leading = leading_run;
  asking = asking_run;
  losing = losing_run;
  waiting = waiting_run;
  checking = checking_run;
  told = told_run;
  cleared = cleared_run;
  broken = broken_rules;
  kept = kept_rules;
}

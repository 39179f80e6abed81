use Rattle.datastream.proofs.CharacterRuns.{behind_text}
use Rattle.datastream.proofs.characters.behind_run.Goals as goal

pub loop-rest-init : goal.loop-rest-init
loop-rest-init c = behind_text _ _ c.behind_words-rest.ensures

use Rattle.panels.proofs.DefinedOnce.{defined_once}
use Rattle.panels.proofs.laws.a_text_defines_its_panels_once.Goals as goal

pub returns : goal.returns
returns c = defined_once

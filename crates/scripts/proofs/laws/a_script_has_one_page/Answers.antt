use Rattle.scripts.proofs.OneScript.{one_script_page}
use Rattle.scripts.proofs.laws.a_script_has_one_page.Goals as goal

pub returns : goal.returns
returns c = one_script_page c.a_text_defines_its_panels_once.ensures c.one_machine.ensures.step

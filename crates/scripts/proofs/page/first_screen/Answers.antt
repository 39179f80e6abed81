use Rattle.scripts.specs.Pages.{first_screen}
use Rattle.scripts.proofs.page.first_screen.Goals as goal

pub returns : goal.returns
unfolding first_screen
returns c = c.blank.ensures

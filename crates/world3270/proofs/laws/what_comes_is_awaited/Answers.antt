use Rattle.world3270.proofs.Forms.{forms_awaited}
use Rattle.world3270.proofs.laws.what_comes_is_awaited.Goals as goal

pub returns : goal.returns
returns c = forms_awaited c.what_is_given.ensures

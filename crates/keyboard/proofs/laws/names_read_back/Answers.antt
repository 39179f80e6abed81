use Rattle.keyboard.proofs.KeyNames.{names_read_back, characters_have_no_name}
use Rattle.keyboard.proofs.laws.names_read_back.Goals as goal

pub returns-clause-keys : goal.returns-clause-keys
returns-clause-keys c = names_read_back

pub returns-clause-characters : goal.returns-clause-characters
returns-clause-characters c = characters_have_no_name

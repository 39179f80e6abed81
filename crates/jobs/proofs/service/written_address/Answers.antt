use Rattle.std.proofs.Common.{◌∙◌}
use Rattle.jobs.proofs.Addresses.{address_parsed}
use Rattle.jobs.proofs.service.written_address.Goals as goal

pub returns : goal.returns
returns c = c.ok.ensures.value ∙ address_parsed c.args.word.now c.parse.result c.parse.ensures.value

use Rattle.panels.proofs.MessageTexts.{padded}
use Rattle.panels.proofs.message_text.MessageText.new.Goals as goal

pub returns : goal.returns
returns c = padded c.args.text.now c.copy_from_slice.new.self c.min-size.result 131 c.min-size.ensures c.copy_from_slice.ensures.after

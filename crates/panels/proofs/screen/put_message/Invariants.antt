use Rattle.std.specs.Prelude.{◌+◌, true}
use Rattle.panels.specs.Size.{message_start}
use Rattle.panels.specs.Screen.{item_cell, autoskip_attr}
use Rattle.panels.specs.Put.{text_with}
use Rattle.panels.proofs.Putting.{IsPutFrom}
use Rattle.panels.proofs.screen.put_message.Given as goal

abbrev pub invariant-loop-index : goal.invariant-loop-index
invariant-loop-index l = IsPutFrom (message_start l.fn.wanted.size) (l.index + 1) (item_cell (autoskip_attr true) (text_with l.title l.message)) l.fn.wanted l.wanted

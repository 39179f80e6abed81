use Rattle.std.proofs.Common.{◌≡◌, ◌∙◌, ap, sym, true, false}
use Rattle.std.specs.List.{list_all}
use Rattle.std.proofs.lemmas.Bool.{and_parts}
use Rattle.datastream.specs.Grammar.{CommandParts, is_write}
use Rattle.datastream.specs.declared.command_code.CommandCode.{CommandCode}
use Rattle.shadow.specs.Stores.{is_plain, is_plain_order}
use Rattle.shadow.proofs.shadow.Shadow.sent_taken.Goals as goal

-- a plain command is a write
no_read : (command : CommandParts) (code : CommandCode) → is_plain command ≡ true → code ≡ command.code → is_write code ≡ false → ⊥
no_read command code plain same none =
    absurd (let writes = (and_parts (is_write command.code) (list_all is_plain_order command.orders) plain).0 in
    let both : false ≡ true = sym none ∙ ap is_write same ∙ writes in cc)

pub returns-in-ReadBuffer-clause-size : goal.returns-in-ReadBuffer-clause-size
returns-in-ReadBuffer-clause-size c = absurd (no_read c.args.command.now c.code.result c.requires.plain c.code.ensures.code (ap is_write c.in-ReadBuffer.is))

pub returns-in-ReadModified-clause-size : goal.returns-in-ReadModified-clause-size
returns-in-ReadModified-clause-size c = absurd (no_read c.args.command.now c.code.result c.requires.plain c.code.ensures.code (ap is_write c.in-ReadModified.is))

pub returns-in-ReadModifiedAll-clause-size : goal.returns-in-ReadModifiedAll-clause-size
returns-in-ReadModifiedAll-clause-size c = absurd (no_read c.args.command.now c.code.result c.requires.plain c.code.ensures.code (ap is_write c.in-ReadModifiedAll.is))

pub returns-in-EraseAllUnprotected-clause-size : goal.returns-in-EraseAllUnprotected-clause-size
returns-in-EraseAllUnprotected-clause-size c = absurd (no_read c.args.command.now c.code.result c.requires.plain c.code.ensures.code (ap is_write c.in-EraseAllUnprotected.is))

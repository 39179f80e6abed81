use Rattle.std.proofs.Common.{◌∙◌, ap, sym}
use Rattle.std.specs.Prelude.{codes, slice_index_or, unwrap_or}
use Rattle.std.specs.Option.{option_and_then}
use Rattle.codes3270.specs.CodePage.{code_of}
use Rattle.panels.specs.Put.{text_with}
use Rattle.panels.proofs.Putting.{got, coded_at, required_first}
use Rattle.panels.proofs.screen.message_byte.Goals as goal

pub returns-in-KeyNotActive-clause-byte : goal.returns-in-KeyNotActive-clause-byte
returns-in-KeyNotActive-clause-byte c =
    let text = codes "KEY NOT ACTIVE" in
    c.code_or_null.ensures.code
    ∙ ap (λ o. unwrap_or (option_and_then code_of o) 0) (c.copied.ensures ∙ got text c.args.index c.get.result c.get.ensures.lookup.0 c.get.ensures.lookup.1)
    ∙ sym (coded_at text c.args.index) ∙ ap (λ m. slice_index_or (text_with c.args.title.now m) c.args.index 0) (sym c.in-KeyNotActive.is)

pub returns-in-Required-clause-byte : goal.returns-in-Required-clause-byte
returns-in-Required-clause-byte c =
    let text = codes "REQUIRED: " in
    c.code_or_null-in-Required.ensures.code
    ∙ ap (λ o. unwrap_or (option_and_then code_of o) 0)
    (c.copied-in-Required.ensures ∙ got text c.args.index c.get-in-Required.result c.get-in-Required.ensures.lookup.0 c.get-in-Required.ensures.lookup.1)
    ∙ sym (ap (λ m. slice_index_or (text_with c.args.title.now m) c.args.index 0) c.in-Required.is ∙ required_first c.args.title.now c.in-Required.field-0 c.args.index c.if-index-lt10.true)

pub returns-in-Told-clause-byte : goal.returns-in-Told-clause-byte
returns-in-Told-clause-byte c =
    let text = c.in-Told.text.characters in
    c.code_or_null-in-Told.ensures.code
    ∙ ap (λ o. unwrap_or (option_and_then code_of o) 0) (c.copied-in-Told.ensures ∙ got text c.args.index c.get-in-Told.result c.get-in-Told.ensures.lookup.0 c.get-in-Told.ensures.lookup.1)
    ∙ sym (coded_at text c.args.index) ∙ ap (λ m. slice_index_or (text_with c.args.title.now m) c.args.index 0) (sym c.in-Told.is)

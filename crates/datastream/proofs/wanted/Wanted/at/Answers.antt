use Rattle.std.proofs.Common.{◌≡◌, ap, sym, ◌∙◌, arith}
use Rattle.std.specs.Prelude.{slice_index_or}
use Rattle.codes3270.specs.Size.{cells_in}
use Rattle.datastream.specs.CellBits.{has_bit, kept}
use Rattle.datastream.specs.Wanted.{WantedScreen, want_by}
use Rattle.datastream.specs.declared.wanted.Want.TheVariants.{Char, Attr}
use Rattle.datastream.proofs.Keeping.{length_kept, want_read, attribute_wanted, character_wanted, proper_read}
use Rattle.datastream.proofs.wanted.Wanted.at.Goals as goal

pub returns-in-Attr-clause-wanted : goal.returns-in-Attr-clause-wanted
returns-in-Attr-clause-wanted c =
    let i = c.self.inside in
    let at = c.args.cell in
    let same_cells : cells_in i.cells.size ≡ cells_in c.args.self.now.size = ap (λ (screen : WantedScreen). cells_in screen.size) c.self.view_is in
    let same_size = length_kept (want_by i.cells.attributes i.characters) 0 i.cells.codes in
    want_read i.cells.attributes i.characters i.cells.codes at (omega (arith, c.self.invariant.0.size, same_size, same_cells, c.requires)) c.args.self.now.cells
    (ap (λ (screen : WantedScreen). screen.cells) c.self.view_is) (Attr c.in-Attr.attr)
    (attribute_wanted (has_bit i.cells.attributes at) (has_bit i.characters at) (slice_index_or i.cells.codes at 0) c.in-Attr.attr (sym c.get.ensures ∙ c.in-Attr.is))

pub returns-then-has-clause-wanted : goal.returns-then-has-clause-wanted
returns-then-has-clause-wanted c =
    let i = c.self.inside in
    let at = c.args.cell in
    let same_cells : cells_in i.cells.size ≡ cells_in c.args.self.now.size = ap (λ (screen : WantedScreen). cells_in screen.size) c.self.view_is in
    let same_size = length_kept (want_by i.cells.attributes i.characters) 0 i.cells.codes in
    want_read i.cells.attributes i.characters i.cells.codes at (omega (arith, c.self.invariant.0.size, same_size, same_cells, c.requires)) c.args.self.now.cells
    (ap (λ (screen : WantedScreen). screen.cells) c.self.view_is) (Char c.in-Char.byte)
    (character_wanted (has_bit i.cells.attributes at) (has_bit i.characters at) (slice_index_or i.cells.codes at 0) c.in-Char.byte (sym c.get.ensures ∙ c.in-Char.is) (sym c.has.ensures ∙ c.if-has.true))

pub returns-then-has-clause-proper : goal.returns-then-has-clause-proper
returns-then-has-clause-proper c =
    let i = c.self.inside in
    let same_cells : cells_in i.cells.size ≡ cells_in c.args.self.now.size = ap (λ (screen : WantedScreen). cells_in screen.size) c.self.view_is in
    proper_read (kept (want_by i.cells.attributes i.characters) 0 i.cells.codes) c.args.self.now.cells c.args.cell (Char c.in-Char.byte)
    (ap (λ (screen : WantedScreen). screen.cells) c.self.view_is) c.self.invariant.0.proper (omega (arith, c.self.invariant.0.size, same_cells, c.requires)) (returns-then-has-clause-wanted c)

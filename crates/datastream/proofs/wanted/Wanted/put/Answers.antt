use Rattle.std.proofs.Common.{◌≡◌, ◌∙◌, ℕ, Bool, List, All, length, set, not, ap, subst, sym, arith}
use Rattle.std.proofs.lemmas.List.{length-set}
use Rattle.std.proofs.lemmas.List.Elements.{All-set}
use Rattle.codes3270.specs.Size.{ScreenSize, cells_in}
use Rattle.datastream.specs.CellBits.{kept}
use Rattle.datastream.specs.CellCodes.{code_in}
use Rattle.datastream.specs.Screen.{is_char}
use Rattle.datastream.specs.Wanted.{IsProper, IsScreen, WantedScreen, AreKept, want_by}
use Rattle.datastream.specs.declared.wanted.Want.{Want}
use Rattle.datastream.proofs.Keeping.{length_kept, put_kept, put_are_kept}
use Rattle.datastream.proofs.wanted.Wanted.put.Goals as goal

abbrev made : ScreenSize → List Want → ℕ → Bool → WantedScreen
made size cells cursor reset = record { size = size; cells = cells; cursor = cursor; reset = reset }

pub invariant_of-self : goal.invariant_of-self
invariant_of-self c =
    let i = c.self.inside in
    let same_cells : cells_in i.cells.size ≡ cells_in c.args.self.now.size = ap (λ (screen : WantedScreen). cells_in screen.size) c.self.view_is in
    let before = c.self.invariant.0 in
    let same_size = length_kept (want_by i.cells.attributes i.characters) 0 i.cells.codes in
    let now : List Want = kept (want_by c.set.new.self.attributes c.put.new.self) 0 c.set.new.self.codes in
    let same =
    ap (λ (codes : List ℕ). kept (want_by c.set.new.self.attributes c.put.new.self) 0 codes) c.set.ensures.codes
    ∙ put_kept i.cells.attributes i.characters i.cells.codes c.args.cell c.args.want (omega (arith, before.size, same_size, same_cells, c.requires.in_range)) c.self.invariant.1
    (code_in c.packed.result) c.packed.ensures.byte c.packed.ensures.kept c.set.new.self.attributes c.put.new.self
    (not (is_char c.packed.result)) c.is_character.result c.packed.ensures.attribute c.is_character.ensures c.set.ensures.attributes c.put.ensures in (
      subst (λ (size : ScreenSize). IsScreen (made size now i.cursor i.reset)) (sym c.set.ensures.size) (record {
        size = ap length same ∙ length-set (kept (want_by i.cells.attributes i.characters) 0 i.cells.codes) c.args.cell c.args.want ∙ before.size;
        few = before.few;
        proper = subst (λ (cells : List Want). All IsProper cells) (sym same)
            (All-set IsProper (kept (want_by i.cells.attributes i.characters) 0 i.cells.codes) c.args.cell c.args.want c.requires.proper before.proper);
        cursor_in_range = before.cursor_in_range;
      }),
      subst (λ (codes : List ℕ). AreKept c.set.new.self.attributes c.put.new.self codes) (sym c.set.ensures.codes)
          (put_are_kept i.cells.attributes i.characters i.cells.codes c.args.cell c.args.want (omega (arith, before.size, same_size, same_cells, c.requires.in_range)) c.self.invariant.1
          (code_in c.packed.result) c.packed.ensures.byte c.packed.ensures.kept c.set.new.self.attributes c.put.new.self
          (not (is_char c.packed.result)) c.is_character.result c.packed.ensures.attribute c.is_character.ensures c.set.ensures.attributes c.put.ensures),
    )

pub returns-clause-put : goal.returns-clause-put
returns-clause-put c =
    let i = c.self.inside in
    let same_cells : cells_in i.cells.size ≡ cells_in c.args.self.now.size = ap (λ (screen : WantedScreen). cells_in screen.size) c.self.view_is in
    let same_size = length_kept (want_by i.cells.attributes i.characters) 0 i.cells.codes in
    let now : List Want = kept (want_by c.set.new.self.attributes c.put.new.self) 0 c.set.new.self.codes in
    ap (λ (size : ScreenSize). made size now i.cursor i.reset) c.set.ensures.size
    ∙ ap (λ (cells : List Want). made i.cells.size cells i.cursor i.reset)
    (ap (λ (codes : List ℕ). kept (want_by c.set.new.self.attributes c.put.new.self) 0 codes) c.set.ensures.codes
    ∙ put_kept i.cells.attributes i.characters i.cells.codes c.args.cell c.args.want (omega (arith, c.self.invariant.0.size, same_size, same_cells, c.requires.in_range)) c.self.invariant.1
    (code_in c.packed.result) c.packed.ensures.byte c.packed.ensures.kept c.set.new.self.attributes c.put.new.self
    (not (is_char c.packed.result)) c.is_character.result c.packed.ensures.attribute c.is_character.ensures c.set.ensures.attributes c.put.ensures)
    ∙ ap (λ (screen : WantedScreen). made screen.size (set screen.cells c.args.cell c.args.want) screen.cursor screen.reset) c.self.view_is

pub returns-clause-size : goal.returns-clause-size
returns-clause-size c = (invariant_of-self c).0.size

pub returns-clause-proper : goal.returns-clause-proper
returns-clause-proper c = (invariant_of-self c).0.proper

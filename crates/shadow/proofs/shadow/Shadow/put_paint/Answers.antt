use Rattle.std.proofs.Common.{◌≡◌, ◌∙◌, ap, sym, List, ℕ, Bool, true, false, ◌++◌, [], None, refl, append-nil, if◌then◌else◌}
use Rattle.codes3270.specs.Size.{ScreenSize, cells_in}
use Rattle.datastream.specs.Writing.{orders_bytes, write_bytes}
use Rattle.datastream.specs.declared.command_code.CommandCode.{CommandCode}
use Rattle.datastream.specs.declared.wanted.Want.{Want}
use Rattle.shadow.specs.declared.known.Known.{Known}
use Rattle.shadow.specs.InPlace.{shadow_held, cells_known}
use Rattle.datastream.specs.declared.command_code.CommandCode.TheVariants.{Write}
use Rattle.shadow.specs.Paint.{painting, to_store, paint_bytes, paint_code, erase_code, writes_over, known_before, known_nulls}
use Rattle.shadow.specs.Taken.{marks_off_if}
use Rattle.shadow.proofs.Appendings.{begun, ends}
use Rattle.shadow.proofs.Whole.{base_is, over_true}
use Rattle.shadow.proofs.shadow.Shadow.put_paint.Goals as goal

bytes : ℕ → CommandCode → Bool → ℕ → List Want → List Known → List ℕ
bytes n code reset cursor wants known =
    write_bytes code (record { alarm = false; restore = true; reset = reset }) (painting n cursor None (to_store wants 0 wants known))

pub returns-in-Ok : goal.returns-in-Ok
unfolding bytes
returns-in-Ok c =
    let code = c.paint_code.result in
    let shadow = c.args.self.now in
    let places = c.self.inside.beliefs in
    let knows = c.self.inside.knows in
    let reset = c.reset-reset.result in
    let wanted = c.args.wanted.now in
    let wants = wanted.cells in
    let n : ℕ = cells_in wanted.size in
    let formatted = c.has_fields_of-formatted.result in
    let m : ℕ = c.from-cells.result in
    let known : List Known = if formatted then marks_off_if reset (cells_known places) else known_nulls m in
    let cursor = c.cursor.result in
    let first : List ℕ = write_bytes code (record { alarm = false; restore = true; reset = reset }) [] in
    let rest : List ℕ = orders_bytes (painting n cursor None (to_store wants 0 wants known)) in
    let count : c.from-cells.result ≡ n = c.from-cells.ensures ∙ c.cells.ensures.value ∙ ap cells_in c.size-size.ensures.size in
    let over : formatted ≡ writes_over n (shadow_held knows places) = c.has_fields_of-formatted.ensures ∙ ap (λ (m : ℕ). writes_over m shadow) count ∙ ap (writes_over n) (sym c.self.view_is) in
    let base : known ≡ known_before n wanted.reset shadow =
    ap (λ (k : ℕ). if formatted then marks_off_if reset (cells_known places) else known_nulls k) count
    ∙ base_is n knows reset places c.self.invariant formatted over
    ∙ ap (known_before n reset) c.self.view_is
    ∙ ap (λ (r : Bool). known_before n r shadow) c.reset-reset.ensures in
    let same_code : code ≡ paint_code n shadow wanted =
    c.paint_code.ensures.code ∙ ap (λ (size : ScreenSize). if formatted then Write else erase_code size) c.size-size.ensures.size ∙ ap (λ (t : Bool). if t then Write else erase_code wanted.size) (over ∙ ap (writes_over n) c.self.view_is) in
    let total : paint_bytes n shadow wanted ≡ first ++ rest =
    sym (
    ap (λ (k : CommandCode). bytes n k reset cursor wants known) same_code
    ∙ ap (λ (r : Bool). bytes n (paint_code n shadow wanted) r cursor wants known) c.reset-reset.ensures
    ∙ ap (λ (m : ℕ). bytes n (paint_code n shadow wanted) wanted.reset m wants known) c.cursor.ensures.cursor
    ∙ ap (bytes n (paint_code n shadow wanted) wanted.reset wanted.cursor wanted.cells) base) in
    ends c.args.writer.now.out c.begin.new.self.out c.put_cells.new.writer.out c.put_cells.result rest [] rest (paint_bytes n shadow wanted) (sym (append-nil rest)) (λ _. refl)
    (begun c.args.writer.now.out c.begin.new.self.out first rest (paint_bytes n shadow wanted) total (rw c.paint_code.ensures.write at c.in-Ok.ensures)) c.put_cells.ensures

pub put_cells-requires-clause-base : goal.put_cells-requires-clause-base
put_cells-requires-clause-base c = λ is.
    over_true c.from-cells.result c.self.inside.knows c.self.inside.beliefs (ap (writes_over c.from-cells.result) c.self.view_is ∙ sym c.has_fields_of-formatted.ensures ∙ is)

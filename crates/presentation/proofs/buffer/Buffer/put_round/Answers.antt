use Rattle.std.proofs.Common.{◌≡◌, ◌<◌, ◌++◌, ℕ, List, true, ◌∙◌, ap, sym, subst}
use Rattle.std.specs.List.{All}
use Rattle.std.proofs.lemmas.List.{take-append-drop}
use Rattle.std.proofs.lemmas.List.Elements.{All-drop}
use Rattle.codes3270.specs.Size.{cells_in}
use Rattle.codes3270.specs.Storable.{is_storable}
use Rattle.presentation.specs.Sizes.{SizedScreen}
use Rattle.presentation.proofs.CellRuns.{run_then}
use Rattle.presentation.proofs.buffer.Buffer.put_round.Goals as goal

pub loop-rest-preserved : goal.loop-rest-preserved
loop-rest-preserved c =
    let rest : List ℕ = c.loop-rest.rest.now in
    let so_far = c.loop-rest.invariant in
    let put = c.put_front-position.ensures in
    let k : ℕ = c.min.result in
    let whole : c.split_at.result.0.now ++ c.split_at.result.1.now ≡ rest = rw (c.split_at.ensures.front, c.split_at.ensures.back) (take-append-drop k rest) in
    let same : cells_in c.loop-rest.self.size ≡ cells_in c.args.self.now.size = ap (λ (s : SizedScreen). cells_in s.size) so_far.size in
    record {
      so_far = run_then rest c.split_at.result.0.now c.split_at.result.1.now _ _ whole put.write ∙ so_far.so_far;
      size = put.size ∙ ap (λ (s : SizedScreen). record s { screen = c.put_front-position.new.self.screen }) so_far.size;
      address = subst (λ (n : ℕ). c.put_front-position.result.address < n) same put.in_range;
      storable = subst (All (λ byte. is_storable byte ≡ true)) (sym c.split_at.ensures.back) (All-drop (λ byte. is_storable byte ≡ true) k rest so_far.storable);
    }

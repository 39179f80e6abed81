use Rattle.std.proofs.Common.{◌≡◌, ◌∙◌, ◌++◌, ℕ, List, ap, map}
use Rattle.std.proofs.lemmas.List.{take-append-drop}
use Rattle.codes3270.specs.Size.{cells_in}
use Rattle.datastream.specs.declared.order.Order.{Order}
use Rattle.shadow.specs.Since.{cells_written}
use Rattle.shadow.specs.Stores.{stores}
use Rattle.shadow.specs.Taken.{known_stored}
use Rattle.datastream.specs.declared.order.Order.TheVariants.{Char as CharData}
use Rattle.shadow.proofs.StoredRuns.{text_split}
use Rattle.shadow.proofs.apply_write.store_characters.Goals as goal

pub loop-rest-preserved : goal.loop-rest-preserved
loop-rest-preserved c =
    let n : ℕ = cells_in c.args.size in
    let rest : List ℕ = c.loop-rest.rest.now in
    let front = c.split_at.result.0.now in
    let behind = c.split_at.result.1.now in
    let before = c.loop-rest.invariant in
    let put = c.store_front-at.ensures in
    let whole : front ++ behind ≡ rest = rw (c.split_at.ensures.front, c.split_at.ensures.back) (take-append-drop c.min.result rest) in
    record {
      cells = λ more. before.cells more
          ∙ ap (λ (os : List Order). known_stored (stores n c.loop-rest.at os) (cells_written c.loop-rest.beliefs c.loop-rest.pasts)) (text_split rest front behind more whole)
          ∙ put.cells (map CharData behind ++ more);
      since = λ old since. put.since old (before.since old since);
      size = put.size;
      same_size = put.same_size ∙ before.same_size;
      in_range = put.in_range;
    }

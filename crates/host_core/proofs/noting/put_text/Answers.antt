use Rattle.std.proofs.Common.{List, ℕ, ◌++◌, ap, length, arith, ◌∙◌}
use Rattle.std.specs.Vec.{vec_capacity}
use Rattle.datastream.proofs.Written.{orders_bytes-chars}
use Rattle.telnet_wire.proofs.Lengths.{ok_with_room}
use Rattle.host_core.proofs.noting.put_text.Goals as goal

pub unwrap-requires : goal.unwrap-requires
unwrap-requires c =
    let bytes = ap (λ (some : List ℕ). length some) (orders_bytes-chars c.args.text.now) in
    ok_with_room c.chars.result (vec_capacity c.args.writer.now.out.now) _ c.chars.ensures.appends.room (omega arith)

pub returns-clause-appended : goal.returns-clause-appended
returns-clause-appended c =
    rw c.unwrap.ensures at c.chars.ensures.appends.ok ∙ ap (λ (some : List ℕ). c.args.writer.now.out.now.items ++ some) (orders_bytes-chars c.args.text.now)

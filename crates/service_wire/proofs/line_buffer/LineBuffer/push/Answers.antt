use Rattle.std.proofs.Common.{◌≡◌, ap, rules, ◌∙◌, ◌++◌, ◌-◌, ◌+◌, ◌≤◌, ℕ, List, length, take}
use Rattle.std.specs.Vec.{vec_capacity, vec_len}
use Rattle.service_wire.specs.Lines.{Received}
use Rattle.service_wire.proofs.Cuts.{kept}
use Rattle.service_wire.proofs.line_buffer.LineBuffer.push.Goals as goal

pub returns : goal.returns
returns c =
    let before : Received = record { limit = c.self.inside.limit; bytes = c.self.inside.bytes.items } in
    let size : c.len.result ≡ length before.bytes = search rules in
    let front = c.front_of.ensures.front ∙ ap (λ (n : ℕ). take (before.limit - n) c.args.bytes.now) size in
    let fits : vec_len c.self.inside.bytes + length c.front_of.result.now ≤ vec_capacity c.self.inside.bytes = search rules in
    let all : c.extend_from_slice.new.self.items ≡ before.bytes ++ c.front_of.result.now = search rules in
    let within : length before.bytes ≤ before.limit = search rules in
    rw (← c.self.view_is) (ap (λ (bytes : List ℕ). record before { bytes = bytes })
    (all ∙ ap (λ (front : List ℕ). before.bytes ++ front) front) ∙ kept before c.args.bytes.now within)

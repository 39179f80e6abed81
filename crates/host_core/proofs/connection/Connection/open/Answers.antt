use Rattle.std.proofs.Common.{◌∙◌, ap, refl, arith}
use Rattle.telnet_wire.proofs.Running.{fresh_runs}
use Rattle.tn3270e_msg.specs.Header.{record_limit}
use Rattle.host_core.specs.declared.connection.HostEnd.{HostEnd}
use Rattle.host_core.proofs.connection.Connection.open.Goals as goal

pub invariant_of-self-2 : goal.invariant_of-self-2
invariant_of-self-2 c =
    let made = c.in_ok-make_out_room.ensures.room in
    let kept = c.clear.ensures.capacity in
    let put = c.put_offer.ensures.capacity in (
      fresh_runs record_limit c.in_ok-end.end.value.decoder record_limit
          (ap (λ (x : HostEnd). x.decoder) c.in_ok-end.ensures.ok ∙ c.in-Ok.ensures.made) refl,
      omega (arith, made, kept, put),
    )

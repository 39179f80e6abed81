use Rattle.std.proofs.Common.{◌≡◌, [], ap, sym, subst, ◌∙◌}
use Rattle.panels.specs.Panel.{Panels}
use Rattle.host_core.specs.State.{host_with, served_by}
use Rattle.host_core.proofs.Hosts.{served_stay}
use Rattle.world3270.specs.model.ByteWorld.{ByteWorld, new_byte_world}
use Rattle.world3270.specs.refinement.Refines.{WorldSetup, IsWorldSetup, IsReached}
use Rattle.world3270.proofs.Relying.{sound_served}
use Rattle.world3270.proofs.world.World.serving.Goals as goal

pub invariant_of-world : goal.invariant_of-world
invariant_of-world c =
    let panels : Panels = served_by c.args.serves c.args.panels in
    let begin : WorldSetup = record { serves = c.args.serves; panels = panels; pool = c.args.pool; models = c.args.models.now } in
    let is : IsWorldSetup begin = record {
      panels = sound_served c.args.serves c.args.panels c.panels_are_sound.ensures;
      marked = served_stay c.args.serves c.args.panels;
      pool = c.lus_are_listed_once.ensures;
      few = c.requires.few;
    } in
    let new : ByteWorld = new_byte_world c.args.serves c.args.panels c.args.pool c.args.models.now in
    let same : new_byte_world c.args.serves panels c.args.pool c.args.models.now ≡ new =
    ap (λ (shown : Panels). record new { host = host_with c.args.serves shown c.args.pool }) (served_stay c.args.serves c.args.panels) in
    subst (λ (w : ByteWorld). IsReached w) (same ∙ sym c.in_ok-network.ensures)
    (record { begin = begin; is_begin = is; events = []; reached = c.bytes_follow_messages.ensures.begin begin is })

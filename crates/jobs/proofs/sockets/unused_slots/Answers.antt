use Rattle.std.proofs.Common.{◌∙◌, ◌++◌, ◌∷◌, [], List, sym, ap₂}
use Rattle.std.proofs.lemmas.Grind.{replicate_next}
use Rattle.jobs.specs.Sockets.{SocketSlot, unused}
use Rattle.jobs.proofs.sockets.unused_slots.Goals as goal

pub loop-preserved : goal.loop-preserved
loop-preserved g c =
    c.in_ok-push.ensures.items ∙ ap₂ (λ (slots : List (SocketSlot g.row.S.Denot)) (slot : SocketSlot g.row.S.Denot). slots ++ slot ∷ []) c.loop.invariant c.unused.ensures
    ∙ sym (replicate_next c.loop.counter unused)

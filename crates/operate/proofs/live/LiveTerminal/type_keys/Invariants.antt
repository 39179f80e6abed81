use Rattle.std.proofs.Common.{◌≡◌, drop}
use Rattle.operate.specs.Live.{all_typed}
use Rattle.operate.proofs.live.LiveTerminal.type_keys.Given as goal

abbrev pub invariant-loop-typed : goal.invariant-loop-typed
invariant-loop-typed l = record {
  seat : all_typed (drop l.typed-index l.keys) l.self.seat ≡ all_typed l.keys l.initial.self.seat;
  kept : l.self.kept ≡ l.initial.self.kept;
}

use Rattle.std.proofs.Common.{◌≡◌, drop}
use Rattle.websocket.specs.Headers.{fields_of}
use Rattle.web_wire.specs.Heads.{values_named}
use Rattle.web_wire.proofs.head.from_named.Given as goal

abbrev pub invariant-loop-place : goal.invariant-loop-place
invariant-loop-place l =
    values_named (fields_of l.buf (drop l.place l.fields)) l.name ≡ values_named (fields_of l.buf l.fields) l.name

use Rattle.std.proofs.Common.{◌≡◌, drop}
use Rattle.websocket.specs.Headers.{fields_of}
use Rattle.service_events.specs.Scrapes.{has_field}
use Rattle.service_events.proofs.scrape.has_field.Given as goal

abbrev pub invariant-loop-field : goal.invariant-loop-field
invariant-loop-field l =
    has_field (fields_of l.bytes l.fields) l.name ≡ has_field (fields_of l.bytes (drop l.field-index l.fields)) l.name

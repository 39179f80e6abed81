use Rattle.telnet_wire.proofs.Faults as faults
use Rattle.telnet_wire.proofs.Streams as streams
use Rattle.telnet_wire.proofs.laws.one_reading.Goals as goal

pub returns : goal.returns
returns c = record {
  spelling = faults.one_spelling;
  reading = faults.one_reading;
  delivery = faults.one_delivery;
  start = streams.nothing_is_rest;
  no_bytes = streams.reading_nothing;
  pieces = streams.readings_compose;
  items = streams.items_after-append;
  deliveries = streams.deliveries_compose;
  goes_on = faults.reading_goes_on;
  delivery_goes_on = faults.delivery_goes_on;
  wrong_is_final = faults.wrong_is_final;
  fault = faults.one_fault;
  wrong_piece = streams.wrong_piece;
  taken = streams.taken_is_read;
  item = streams.item_is_read;
  written = streams.items_are_read;
}

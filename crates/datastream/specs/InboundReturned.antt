-- How contracts see a returned field of the Rust API (our profile).
use Rattle.datastream.specs.declared.inbound_fields.ReturnedField.{ReturnedField}
use Rattle.datastream.specs.InboundFields.{Returned}

-- the field's address and its characters
abbrev pub returned_of_field : ReturnedField → Returned
returned_of_field field = record { first = field.first; text = field.text.now }

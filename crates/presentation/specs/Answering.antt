-- Which form of inbound data answers a read (GA23-0059-07 on read commands).
use Rattle.std.specs.Prelude.{Bool, true, false}
use Rattle.datastream.specs.declared.inbound_part.Form.{Form}
use Rattle.datastream.specs.declared.inbound_part.Form.TheVariants.{Modified, All}

-- the form of the answer to Read Modified (false) or Read Modified All (true)
abbrev pub form_of : Bool → Form
form_of false = Modified
form_of true = All

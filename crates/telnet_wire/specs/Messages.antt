-- What `{}` prints of a fault (our profile).
use Rattle.std.specs.Prelude.{ℕ, List, codes}
use Rattle.telnet_wire.specs.declared.wire.WireFault.{WireFault}
use Rattle.telnet_wire.specs.declared.wire.WireFault.TheVariants.{TooLong, BadSub, Memory, Failed}

-- The text of a fault.
abbrev pub fault_text : WireFault → List ℕ
fault_text TooLong = codes "record or subnegotiation too long"
fault_text BadSub = codes "command inside a subnegotiation"
fault_text Memory = codes "out of memory"
fault_text Failed = codes "stream refused earlier"

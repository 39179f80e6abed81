-- What `{}` prints of a fault (our profile).
use Rattle.std.specs.Prelude.{ℕ, List, ◌++◌, codes, decimal}
use Rattle.lu_pool.specs.declared.fault.PoolFault.{PoolFault}
use Rattle.lu_pool.specs.declared.fault.PoolFault.TheVariants.{BadName, Twice, BadCount, Memory}

-- the text of a fault
abbrev pub fault_text : PoolFault → List ℕ
fault_text (BadName place) = codes "lu " ++ (decimal place ++ codes ": BadName")
fault_text (Twice place) = codes "lu " ++ (decimal place ++ codes ": Twice")
fault_text BadCount = codes "lu: BadCount"
fault_text Memory = codes "no memory"

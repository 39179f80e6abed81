-- The host of a panel text, and the fault if a text defines none (our profile).
use Rattle.std.specs.Prelude.{◌≡◌, ⊤, ℕ, List, Option, map}
use Rattle.tn3270e_msg.specs.Lu.{lu_of}
use Rattle.host_core.specs.State.{Host, host_for}
use Rattle.host_core.specs.declared.terminals.Terminals.{Terminals}
use Rattle.lu_pool.specs.Reading.{IsReadFrom as IsPoolReadFrom, IsRight, IsFirstFault}
use Rattle.lu_pool.specs.declared.entry.Entry.{Entry}
use Rattle.lu_pool.specs.declared.fault.PoolFault.{PoolFault}
use Rattle.lu_pool.specs.declared.fault.PoolFault.TheVariants as pool_fault
use Rattle.panels.specs.Defines.{IsReadFrom}
use Rattle.panels.specs.Panel.{Panels as PanelsRead}
use Rattle.panels.specs.Passes.{IsReason}
use Rattle.panels.specs.declared.fault.PanelFault.{PanelFault}
use Rattle.panels.specs.declared.fault.PanelFault.TheVariants as panel_fault
use Rattle.jobs.specs.declared.fault.Fault.{Fault}
use Rattle.jobs.specs.declared.fault.Fault.TheVariants.{Panels, Pool, NoMemory}

-- the panels' LUs, each parsed as an LU name
abbrev pub lus_of : PanelsRead → List (Option (List ℕ))
lus_of panels = map lu_of panels.lus

-- holds if these are the text's panels and a pool of their LUs; neither the text nor the names have a fault
pub record IsApplicationOf (text : List ℕ) (panels : PanelsRead) (pool : List Entry) : Type 0 where
  pub panels_read : IsReadFrom text panels
  pub pool_read : IsPoolReadFrom (lus_of panels) pool
  pub lus_right : IsRight (lus_of panels)

-- holds if this is the host of the text's panels, for these terminals
pub record IsHostOf (terminals : Terminals) (text : List ℕ) (host : Host) : Type 0 where
  pub panels : PanelsRead
  pub pool : List Entry
  pub is_application : IsApplicationOf text panels pool
  pub host_is : host ≡ host_for terminals panels pool

-- the job's fault for a fault of a panel text, and for a fault of the LU names
abbrev pub of_panels : PanelFault → Fault
of_panels panel_fault.Memory = NoMemory
of_panels panel_fault.NotToml = Panels panel_fault.NotToml
of_panels (panel_fault.Tree fault place) = Panels (panel_fault.Tree fault place)

abbrev pub of_pool : PoolFault → Fault
of_pool pool_fault.Memory = NoMemory
of_pool (pool_fault.BadName place) = Pool (pool_fault.BadName place)
of_pool (pool_fault.Twice place) = Pool (pool_fault.Twice place)
of_pool pool_fault.BadCount = Pool pool_fault.BadCount

-- holds if a text defines no panels for this reason; refused memory is no fault of the text
abbrev pub HasPanelFault : List ℕ → PanelFault → Type 0
HasPanelFault text panel_fault.Memory = ⊥
HasPanelFault text panel_fault.NotToml = IsReason text panel_fault.NotToml
HasPanelFault text (panel_fault.Tree fault place) = IsReason text (panel_fault.Tree fault place)

abbrev pub IsLuFault : List (Option (List ℕ)) → PoolFault → Type 0
IsLuFault lus pool_fault.Memory = ⊥
IsLuFault lus (pool_fault.BadName place) = IsFirstFault lus (pool_fault.BadName place)
IsLuFault lus (pool_fault.Twice place) = IsFirstFault lus (pool_fault.Twice place)
IsLuFault lus pool_fault.BadCount = IsFirstFault lus pool_fault.BadCount

-- holds if the text defines panels, and their LUs are no pool
pub record HasPoolFault (text : List ℕ) (fault : PoolFault) : Type 0 where
  pub panels : PanelsRead
  pub panels_read : IsReadFrom text panels
  pub is_fault : IsLuFault (lus_of panels) fault

-- holds if a text defines no host for this reason; refused memory says nothing of the text
abbrev pub DefinesNoHost : List ℕ → Fault → Type 0
DefinesNoHost text (Panels fault) = HasPanelFault text fault
DefinesNoHost text (Pool fault) = HasPoolFault text fault
DefinesNoHost text NoMemory = ⊤
DefinesNoHost text _ = ⊥

use Rattle.std.proofs.Common.{List, ℕ, subst, sym}
use Rattle.lu_pool.specs.Reading.{IsReadFrom, IsRight, IsFirstFault}
use Rattle.lu_pool.specs.declared.fault.PoolFault.{PoolFault}
use Rattle.lu_pool.specs.declared.fault.PoolFault.TheVariants as pool_fault
use Rattle.panels.specs.Defines.{IsReadFrom as ArePanelsReadFrom}
use Rattle.panels.specs.Panel.{Panels}
use Rattle.panels.specs.Passes.{IsReason}
use Rattle.panels.specs.declared.fault.PanelFault.{PanelFault}
use Rattle.panels.specs.declared.fault.PanelFault.TheVariants as panel_fault
use Rattle.applications.specs.PanelHosts.{DefinesNoHost, lus_of, of_panels, of_pool}
use Rattle.applications.proofs.LuNames.{lus_read}
use Rattle.applications.proofs.panel_host.application_of.Goals as goal

without_panels : (text : List ℕ) (fault : PanelFault) → IsReason text fault → DefinesNoHost text (of_panels fault)
without_panels text panel_fault.Memory is = tt
without_panels text panel_fault.NotToml is = is
without_panels text (panel_fault.Tree fault place) is = is

without_pool : (text : List ℕ) (panels : Panels) (fault : PoolFault) → ArePanelsReadFrom text panels → IsFirstFault (lus_of panels) fault → DefinesNoHost text (of_pool fault)
without_pool text panels pool_fault.Memory read is = tt
without_pool text panels (pool_fault.BadName place) read is = record { panels = panels; panels_read = read; is_fault = is }
without_pool text panels (pool_fault.Twice place) read is = record { panels = panels; panels_read = read; is_fault = is }
without_pool text panels pool_fault.BadCount read is = record { panels = panels; panels_read = read; is_fault = is }

pub returns-in-Err-clause-fault : goal.returns-in-Err-clause-fault
returns-in-Err-clause-fault c =
    subst (DefinesNoHost c.args.text.now) (sym c.of_panels.ensures) (without_panels c.args.text.now c.in-Err.fault c.in-Err.ensures.fault)

pub returns-in-Err-read-clause-fault : goal.returns-in-Err-read-clause-fault
returns-in-Err-read-clause-fault c =
    subst (DefinesNoHost c.args.text.now) (sym c.of_pool.ensures)
    (without_pool c.args.text.now c.in-Ok.panels c.in-Err-read.fault c.in-Ok.ensures.panels
    (subst (λ lus. IsFirstFault lus c.in-Err-read.fault) (lus_read c.lus.result.now c.in-Ok.panels.lus c.lus.ensures) c.in-Err-read.ensures.fault))

pub returns-clause-application : goal.returns-clause-application
returns-clause-application c =
    let lus = lus_read c.lus.result.now c.in-Ok.panels.lus c.lus.ensures in
    record {
      panels_read = c.in-Ok.ensures.panels;
      pool_read = subst (λ lus. IsReadFrom lus c.in-Ok-read.pool) lus c.in-Ok-read.ensures.read;
      lus_right = subst IsRight lus c.in-Ok-read.ensures.right;
    }

-- Each terminal of a world waits.
use Rattle.std.proofs.Common.{◌≡◌, ℕ, Bool, true, false, Option, None, Some, List, refl}
use Rattle.std.specs.Prelude.{⊤}
use Rattle.tn3270e_msg.specs.declared.cause.Cause.{Cause}
use Rattle.lu_pool.specs.Pool.{IsPool}
use Rattle.lu_pool.specs.declared.entry.Entry.{Entry}
use Rattle.codes3270.specs.declared.size.Model.{Model}
use Rattle.host_core.specs.Acts.{Sent, acted}
use Rattle.host_core.specs.Application.{Application, IsApplication}
use Rattle.host_core.specs.Messages.{ToTerminal}
use Rattle.host_core.specs.Notes.{noted}
use Rattle.host_core.specs.Questions.{answered_on}
use Rattle.host_core.specs.Takes.{took as host_took}
use Rattle.host_core.specs.declared.terminals.Terminals.{Terminals}
use Rattle.world3270.specs.refinement.LowerLaws.{LowerLaws}
use Rattle.world3270.specs.model.Steps.{run}
use Rattle.world3270.specs.model.Link.{Link, host_left_if, host_sent}
use Rattle.world3270.specs.model.Terminal.{TermEnd, TermStep, is_bound, note_came, once_bound, paint_came, read_came, took}
use Rattle.world3270.specs.model.World.{AreEvents, Event, new_world}
use Rattle.world3270.proofs.Everywhere.{Steps, everywhere}

abbrev Waits : Link → Type 0
Waits link = link.term.waits ≡ true

if_bound : (bound : Bool) (step : TermStep) (end : TermEnd) → end.waits ≡ true → step.end.waits ≡ true → (once_bound bound step end).end.waits ≡ true
if_bound true step end old new = new
if_bound false step end old new = old

takes : (end : TermEnd) (message : ToTerminal) → end.waits ≡ true → (took end message).end.waits ≡ true
takes end (ToTerminal.TalksDown saying) waits = waits
takes end (ToTerminal.Paint number wanted over) waits = if_bound (is_bound end) (paint_came number wanted end) end waits waits
takes end (ToTerminal.ReadBuffer number) waits = if_bound (is_bound end) (read_came end) end waits waits
takes end (ToTerminal.Note number command) waits = if_bound (is_bound end) (note_came number command end) end waits waits

host_leaves : (cause : Option Cause) (link : Link) → Waits link → Waits (host_left_if cause link)
host_leaves None link waits = waits
host_leaves (Some cause) link waits = waits

sends : (sent : Option Sent) (link : Link) → Waits link → Waits (host_sent sent link)
sends None link waits = waits
sends (Some sending) link waits = waits

steps : (app : Application) → Steps app (λ event. ⊤) Waits (λ display. ⊤)
steps app = record {
  never = λ serves. refl;
  begins = λ serves model terminal wanted. refl;
  up = λ pool link message rest e k waits. host_leaves (host_took pool link.host message).closes _ waits;
  acts = λ link k waits. sends (acted app link.host) link waits;
  answers = λ number said link such k waits. sends (answered_on app link.host said) link waits;
  notes = λ number text link such k waits. sends (noted text link.host) link waits;
  down = λ link message rest e k waits. takes link.term message waits;
  key = λ terminal key link such k waits. waits;
  loses = λ link waits. waits;
  host_leaves = λ link waits. waits;
  term_leaves = λ link waits. waits;
  fresh = λ model. tt;
  alone = λ link k waits. tt;
  key_alone = λ terminal key display such is. tt;
}

pub all_wait : LowerLaws → (app : Application) → IsApplication app → (serves : Terminals) (pool : List Entry) (models : List Model) (events : List Event) → IsPool pool → AreEvents events → (number : ℕ)
    → ((run app events (new_world app serves pool models)).link number).term.waits ≡ true
all_wait given app is serves pool models events lists are =
    (everywhere given app is (λ event. ⊤) Waits (λ display. ⊤) (steps app) serves pool models events lists are (λ k d below. tt)).links

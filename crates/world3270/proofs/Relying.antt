-- A host that relies on the terminals' wait does so on each connection, whatever happens; so where a host doesn't on some connection, its
-- panels are marked.
use Rattle.std.proofs.Common.{◌≡◌, ◌&&◌, ℕ, Bool, true, false, Option, None, Some, List, [], ◌∷◌, refl, ap, sym, ◌∙◌, if◌then◌else◌}
use Rattle.std.specs.Prelude.{IfSome}
use Rattle.std.specs.Option.{option_and_then}
use Rattle.codes3270.specs.declared.size.Model.{Model}
use Rattle.keyboard.specs.declared.key.Key.{Key}
use Rattle.lu_pool.specs.Asking.{answer_to}
use Rattle.panels.proofs.Marked.{sound_marked}
use Rattle.panels.specs.Panel.{AreSound, Panels}
use Rattle.tn3270e_msg.specs.declared.cause.Cause.{Cause}
use Rattle.host_core.specs.Acts.{Decision, Sent, acted, decided, decision_on, done as done_act, may_act}
use Rattle.host_core.specs.Application.{Application, application_of}
use Rattle.host_core.specs.Laws.{MarksInput, ServedIsMarked}
use Rattle.host_core.specs.Messages.{ToHost, ToTerminal}
use Rattle.host_core.specs.Notes.{may_note, noted, noted_as}
use Rattle.host_core.specs.Questions.{act_by, answered_on, has_its_panel, is_asking, panel_for}
use Rattle.host_core.specs.Session.{Session, is_agreed, unheard_of}
use Rattle.host_core.specs.State.{served_by}
use Rattle.host_core.specs.Takes.{HostStep, may_have_changed, took as host_took}
use Rattle.host_core.specs.declared.question.Answer.{Answer as ApplicationAnswer}
use Rattle.host_core.specs.declared.terminals.Terminals.{Terminals}
use Rattle.host_core.specs.declared.terminals.Terminals.TheVariants.{Waiting, Any, Verified}
use Rattle.world3270.specs.model.Enabled.{free_number, is_enabled}
use Rattle.world3270.specs.model.Link.{Link, begun, cut, host_left, host_left_if, host_sent, host_stepped, term_left, term_left_if, term_stepped}
use Rattle.world3270.specs.model.Steps.{came_down, came_up, closed_if, done, host_left_from, joined, key_went, run, stepped_by, term_anew, term_saw, went_down}
use Rattle.world3270.specs.model.Terminal.{TermStep, key_came, took as term_took}
use Rattle.world3270.specs.model.World.{Event, Place, World, display_at, new_world, with_at}
use Rattle.world3270.specs.refinement.Refines.{IsWorldSetup, WorldSetup, after}
use Rattle.world3270.proofs.HostSteps.{act_changed, just_talks}
use Rattle.world3270.proofs.OneOfMany.{all_with}

abbrev Relies : Link → Type 0
Relies link = may_have_changed link.host.unheard ≡ false

record AllRely (world : World) : Type 0 where
  serves : world.serves ≡ Waiting
  links : (number : ℕ) → Relies (world.link number)

-- one connection changes
one_relies : (world : World) (number : ℕ) (new : Link) → Relies new → AllRely world → (other : ℕ) → Relies (with_at number new world.link other)
one_relies world number new relies h = all_with (λ n link. Relies link) number new world.link relies h.links

closed_rely : (cause : Option Cause) (world : World) → AllRely world → AllRely (closed_if cause world)
closed_rely None world h = h
closed_rely (Some cause) world h = record { serves = h.serves; links = h.links }

-- ---- the ends

left_relies : (cause : Option Cause) (link : Link) → Relies link → Relies (host_left_if cause link)
left_relies None link relies = relies
left_relies (Some cause) link relies = relies

parted_relies : (cause : Option Cause) (link : Link) → Relies link → Relies (term_left_if cause link)
parted_relies None link relies = relies
parted_relies (Some cause) link relies = relies

-- what is sent leaves whether the host relies on the wait
abbrev SendsSo : Session → Option Sent → Type 0
SendsSo conn sent = IfSome sent (λ sending. may_have_changed sending.conn.unheard ≡ may_have_changed conn.unheard)

sent_relies : (sent : Option Sent) (link : Link) → SendsSo link.host sent → Relies link → Relies (host_sent sent link)
sent_relies None link so relies = relies
sent_relies (Some sending) link so relies = so ∙ relies

acted_so : (app : Application) (conn : Session) → SendsSo conn (acted app conn)
acted_so app conn = by_test (may_act conn.turn conn.pending (is_agreed conn.talk.state)) (decision_on app conn conn.turn_reason)
  where
    by_test : (b : Bool) (decision : Decision) → SendsSo conn (option_and_then (decided app conn) (if b then Some decision else None))
    by_test true (Decision.Do act) = act_changed app conn act
    by_test true Decision.Asks = tt
    by_test false decision = tt

answered_so : (app : Application) (conn : Session) (said : ApplicationAnswer) → SendsSo conn (answered_on app conn said)
answered_so app conn said = by_test (is_asking app conn && has_its_panel app said)
  where
    by_test : (b : Bool) → SendsSo conn (if b then Some (done_act app conn (act_by app conn said (panel_for app conn said))) else None)
    by_test true = act_changed app conn (act_by app conn said (panel_for app conn said))
    by_test false = tt

noted_so : (text : List ℕ) (conn : Session) → SendsSo conn (noted text conn)
noted_so text conn = by_test (may_note conn.turn conn.pending (is_agreed conn.talk.state))
  where
    by_test : (b : Bool) → SendsSo conn (if b then Some (noted_as text conn) else None)
    by_test true = refl
    by_test false = tt

-- ---- any event

came_up_relies : (number : ℕ) (up : List ToHost) (world : World) → AllRely world → AllRely (came_up number up world)
came_up_relies number [] world h = h
came_up_relies number (message ∷ rest) world h =
    let link : Link = world.link number in
    let step : HostStep = host_took (answer_to world.pool) link.host message in
    closed_rely step.closes _
    (record {
      serves = h.serves;
      links = one_relies world number (host_stepped step rest link) (left_relies step.closes _ ((just_talks (answer_to world.pool) link.host message).unheard ∙ h.links number)) h;
    })

came_down_relies : (number terminal : ℕ) (down : List ToTerminal) (world : World) → AllRely world → AllRely (came_down number terminal down world)
came_down_relies number terminal [] world h = h
came_down_relies number terminal (message ∷ rest) world h =
    let link : Link = world.link number in
    let step : TermStep = term_took link.term message in
    closed_rely step.closes _ (record { serves = h.serves; links = one_relies world number (term_stepped step rest link) (parted_relies step.closes _ (h.links number)) h })

went_down_relies : (number : ℕ) (here : Option ℕ) (world : World) → AllRely world → AllRely (went_down number here world)
went_down_relies number None world h = h
went_down_relies number (Some terminal) world h = came_down_relies number terminal (world.link number).down world h

key_relies : (terminal : ℕ) (key : Key) (place : Place) (world : World) → AllRely world → AllRely (key_went terminal key place world)
key_relies terminal key (Place.At number) world h =
    let link : Link = world.link number in
    record { serves = h.serves; links = one_relies world number (term_stepped (key_came key link.term) link.down link) (h.links number) h }
key_relies terminal key (Place.Alone display) world h = record { serves = h.serves; links = h.links }

saw_relies : (terminal : ℕ) (place : Place) (world : World) → AllRely world → AllRely (term_saw terminal place world)
saw_relies terminal (Place.At number) world h = record { serves = h.serves; links = one_relies world number (term_left (world.link number)) (h.links number) h }
saw_relies terminal (Place.Alone display) world h = h

joined_relies : (app : Application) (terminal : ℕ) (model : Model) (wanted : Option (List ℕ)) (free : Option ℕ) (world : World) → AllRely world → AllRely (joined app terminal model wanted free world)
joined_relies app terminal model wanted None world h = h
joined_relies app terminal model wanted (Some number) world h =
    record { serves = h.serves; links = one_relies world number (begun app world.serves model terminal wanted) (ap (λ (s : Terminals). may_have_changed (unheard_of s)) h.serves) h }

anew_relies : (app : Application) (terminal : ℕ) (place : Place) (world : World) → AllRely world → AllRely (term_anew app terminal place world)
anew_relies app terminal (Place.At number) world h = record { serves = h.serves; links = one_relies world number (term_left (world.link number)) (h.links number) h }
anew_relies app terminal (Place.Alone display) world h = record { serves = h.serves; links = h.links }

restarted_relies : (link : Link) → Relies link → Relies (host_left_from link)
restarted_relies link relies = by_here link.host_here
  where
    by_here : (b : Bool) → Relies (if b then host_left link else link)
    by_here true = relies
    by_here false = relies

done_relies : (app : Application) (event : Event) (world : World) → AllRely world → AllRely (done app event world)
done_relies app (Event.Press terminal key) world h = key_relies terminal key (world.place terminal) world h
done_relies app (Event.Up number) world h = came_up_relies number (world.link number).up world h
done_relies app (Event.Down number) world h = went_down_relies number (world.link number).term_here world h
done_relies app (Event.Act number) world h =
    let link : Link = world.link number in
    record { serves = h.serves; links = one_relies world number (host_sent (acted app link.host) link) (sent_relies (acted app link.host) link (acted_so app link.host) (h.links number)) h }
done_relies app (Event.Answer number said) world h =
    let link : Link = world.link number in
    record { serves = h.serves; links = one_relies world number (host_sent (answered_on app link.host said) link) (sent_relies (answered_on app link.host said) link (answered_so app link.host said) (h.links number)) h }
done_relies app (Event.Note number text) world h =
    let link : Link = world.link number in
    record { serves = h.serves; links = one_relies world number (host_sent (noted text link.host) link) (sent_relies (noted text link.host) link (noted_so text link.host) (h.links number)) h }
done_relies app (Event.Lose number) world h = record { serves = h.serves; links = one_relies world number (cut (world.link number)) (h.links number) h }
done_relies app (Event.HostSees number) world h = record { serves = h.serves; links = one_relies world number (host_left (world.link number)) (h.links number) h }
done_relies app (Event.TermSees terminal) world h = saw_relies terminal (world.place terminal) world h
done_relies app (Event.Connect terminal wanted) world h = joined_relies app terminal (display_at world (world.place terminal)).model wanted (free_number world.link) world h
done_relies app (Event.RestartTerm terminal) world h = anew_relies app terminal (world.place terminal) world h
done_relies app Event.RestartHost world h = record { serves = h.serves; links = λ number. restarted_relies (world.link number) (h.links number) }

run_relies : (app : Application) (events : List Event) (world : World) → AllRely world → AllRely (run app events world)
run_relies app [] world h = h
run_relies app (event ∷ events) world h = run_relies app events (stepped_by app event world) (by_test (is_enabled app event world))
  where
    by_test : (b : Bool) → AllRely (if b then done app event world else world)
    by_test true = done_relies app event world h
    by_test false = h

-- ---- where a host doesn't

pub marked_there : ServedIsMarked → (setup : WorldSetup) → IsWorldSetup setup → (events : List Event) (number : ℕ) → may_have_changed ((after setup events).link number).host.unheard ≡ true → MarksInput (application_of setup.panels)
marked_there marks setup is events number any = by_serves setup.serves refl
  where
    app : Application
    app = application_of setup.panels

    unheard_with : Terminals → Bool
    unheard_with serves = may_have_changed ((run app events (new_world app serves setup.pool setup.models)).link number).host.unheard

    marked_by : (serves : Terminals) → setup.serves ≡ serves → may_have_changed (unheard_of serves) ≡ true → MarksInput app
    marked_by serves same changed = marks setup.serves setup.panels (ap (λ (s : Terminals). may_have_changed (unheard_of s)) same ∙ changed) is.marked

    by_serves : (serves : Terminals) → setup.serves ≡ serves → MarksInput app
    by_serves Any same = marked_by Any same refl
    by_serves Verified same = marked_by Verified same refl
    by_serves Waiting same =
        let relies : AllRely (run app events (new_world app Waiting setup.pool setup.models)) = run_relies app events (new_world app Waiting setup.pool setup.models) (record { serves = refl; links = λ n. refl }) in
        absurd (let wrong : false ≡ true = sym (relies.links number) ∙ sym (ap unheard_with same) ∙ any in cc)

-- the panels that a host shows are sound
pub sound_served : (serves : Terminals) (panels : Panels) → AreSound panels → AreSound (served_by serves panels)
sound_served Waiting panels sound = sound
sound_served Any panels sound = sound_marked panels sound
sound_served Verified panels sound = sound_marked panels sound

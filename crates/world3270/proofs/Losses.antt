-- A lost connection takes nothing new.
use Rattle.std.proofs.Common.{◌≡◌, ◌==◌, ◌++◌, ℕ, Bool, true, false, Option, None, Some, List, [], ◌∷◌, refl, sym, subst, if◌then◌else◌}
use Rattle.codes3270.specs.declared.size.Model.{Model}
use Rattle.std.proofs.lemmas.Bool.{eqb-true}
use Rattle.keyboard.specs.declared.key.Key.{Key}
use Rattle.lu_pool.specs.Asking.{answer_to}
use Rattle.lu_pool.specs.Holders.{granted_if}
use Rattle.tn3270e_msg.specs.declared.cause.Cause.{Cause}
use Rattle.host_core.specs.Acts.{Sent, acted}
use Rattle.host_core.specs.Application.{Application}
use Rattle.host_core.specs.Messages.{ToTerminal, ToHost}
use Rattle.host_core.specs.Notes.{noted}
use Rattle.host_core.specs.Takes.{HostStep, took as host_took}
use Rattle.host_core.specs.Questions.{answered_on}
use Rattle.world3270.specs.model.Steps.{freed_if, came_up, came_down, went_down, key_went, term_saw, joined, term_anew, host_left_from, done}
use Rattle.world3270.specs.model.Link.{Link, begun, cut, sent, host_left, host_left_if, host_stepped, host_sent, term_left, term_left_if, term_stepped}
use Rattle.world3270.specs.statement.Losses.{IsRest, NothingNew, LostTakesNothing}
use Rattle.world3270.specs.model.Enabled.{is_enabled, free_number}
use Rattle.world3270.specs.model.Terminal.{TermStep, key_came, took as term_took}
use Rattle.world3270.specs.model.World.{Place, World, Event, with_at, display_at}
use Rattle.world3270.proofs.Others.{closed_link}

abbrev Fades : Link → Link → Type 0
Fades old new = old.lost ≡ true → new.lost ≡ true → NothingNew old new

whole : {X : Type 0} (queue : List X) → IsRest queue queue
whole queue = ([], refl)

as_it_is : (link : Link) → Fades link link
as_it_is link = λ before after. record { down = whole link.down; up = whole link.up }

-- a lost connection sends nothing
nothing_out : {X : Type 0} (lost : Bool) (queue messages : List X) → lost ≡ true → IsRest queue (sent lost queue messages)
nothing_out true queue messages e = whole queue
nothing_out false queue messages e = absurd (cc)

-- one of many
at_number : (link : ℕ → Link) (at number : ℕ) (new : Link) → Fades (link at) new → Fades (link number) (with_at at new link number)
at_number link at number new fades = by_test (number == at) refl
  where
    by_test : (b : Bool) → (number == at) ≡ b → Fades (link number) (if b then new else link number)
    by_test true e = subst (λ n. Fades (link n) new) (sym (eqb-true number at e)) fades
    by_test false e = as_it_is (link number)

-- ---- the ends

host_steps : (link : Link) (step : HostStep) (message : ToHost) (rest : List ToHost) (cause : Option Cause) → link.up ≡ message ∷ rest
    → Fades link (host_left_if cause (record link { up = rest; host = step.conn; down = sent link.lost link.down step.sends }))
host_steps link step message rest None e = λ before after. record { down = nothing_out link.lost link.down step.sends before; up = (message ∷ [], e) }
host_steps link step message rest (Some cause) e = λ before after. record { down = nothing_out link.lost link.down step.sends before; up = (message ∷ [], e) }

term_steps : (link : Link) (step : TermStep) (taken rest : List ToTerminal) (cause : Option Cause) → link.down ≡ taken ++ rest
    → Fades link (term_left_if cause (record link { down = rest; term = step.end; up = sent link.lost link.up step.sends }))
term_steps link step taken rest None e = λ before after. record { down = (taken, e); up = nothing_out link.lost link.up step.sends before }
term_steps link step taken rest (Some cause) e = λ before after. record { down = (taken, e); up = nothing_out link.lost link.up step.sends before }

sends : (link : Link) (sending : Option Sent) → Fades link (host_sent sending link)
sends link None = as_it_is link
sends link (Some sending) = λ before after. record { down = nothing_out link.lost link.down (sending.message ∷ []) before; up = whole link.up }

-- ---- the events

came_up_fades : (world : World) (at number : ℕ) (up : List ToHost) → (world.link at).up ≡ up → Fades (world.link number) ((came_up at up world).link number)
came_up_fades world at number [] e = as_it_is (world.link number)
came_up_fades world at number (message ∷ rest) e =
    let link : Link = world.link at in
    let step : HostStep = host_took (answer_to world.pool) link.host message in
    let new : Link = host_stepped step rest link in
    subst (λ (links : ℕ → Link). Fades (world.link number) (links number)) (sym (closed_link step.closes (record world { pool = freed_if at step.closes (granted_if at step.grants world.pool); link = with_at at new world.link })))
    (at_number world.link at number new (host_steps link step message rest step.closes e))

came_down_fades : (world : World) (at terminal number : ℕ) (down : List ToTerminal) → (world.link at).down ≡ down → Fades (world.link number) ((came_down at terminal down world).link number)
came_down_fades world at terminal number [] e = as_it_is (world.link number)
came_down_fades world at terminal number (message ∷ rest) e =
    let link : Link = world.link at in
    let step : TermStep = term_took link.term message in
    subst (λ (links : ℕ → Link). Fades (world.link number) (links number)) (sym (closed_link step.closes _))
    (at_number world.link at number (term_stepped step rest link) (term_steps link step (message ∷ []) rest step.closes e))

went_down_fades : (world : World) (at number : ℕ) (here : Option ℕ) → Fades (world.link number) ((went_down at here world).link number)
went_down_fades world at number None = as_it_is (world.link number)
went_down_fades world at number (Some terminal) = came_down_fades world at terminal number (world.link at).down refl

key_went_fades : (world : World) (terminal number : ℕ) (key : Key) (place : Place) → Fades (world.link number) ((key_went terminal key place world).link number)
key_went_fades world terminal number key (Place.At at) =
    let link : Link = world.link at in
    at_number world.link at number (term_stepped (key_came key link.term) link.down link) (term_steps link (key_came key link.term) [] link.down None refl)
key_went_fades world terminal number key (Place.Alone display) = as_it_is (world.link number)

leaves : (world : World) (at number : ℕ) → Fades (world.link number) (with_at at (term_left (world.link at)) world.link number)
leaves world at number = at_number world.link at number (term_left (world.link at)) (λ before after. record { down = whole _; up = whole _ })

term_saw_fades : (world : World) (terminal number : ℕ) (place : Place) → Fades (world.link number) ((term_saw terminal place world).link number)
term_saw_fades world terminal number (Place.At at) = leaves world at number
term_saw_fades world terminal number (Place.Alone display) = as_it_is (world.link number)

term_anew_fades : (app : Application) (world : World) (terminal number : ℕ) (place : Place) → Fades (world.link number) ((term_anew app terminal place world).link number)
term_anew_fades app world terminal number (Place.At at) = leaves world at number
term_anew_fades app world terminal number (Place.Alone display) = as_it_is (world.link number)

-- a connection that begins isn't lost
joined_fades : (app : Application) (world : World) (terminal number : ℕ) (model : Model) (wanted : Option (List ℕ)) (free : Option ℕ) → Fades (world.link number) ((joined app terminal model wanted free world).link number)
joined_fades app world terminal number model wanted None = as_it_is (world.link number)
joined_fades app world terminal number model wanted (Some found) = at_number world.link found number (begun app world.serves model terminal wanted) (λ before after. absurd (cc))

host_anew_fades : (link : Link) → Fades link (host_left_from link)
host_anew_fades link = by_here link.host_here
  where
    by_here : (b : Bool) → Fades link (if b then host_left link else link)
    by_here true = λ before after. record { down = whole _; up = whole _ }
    by_here false = as_it_is link

done_fades : (app : Application) (event : Event) (world : World) (number : ℕ) → Fades (world.link number) ((done app event world).link number)
done_fades app (Event.Press terminal key) world number = key_went_fades world terminal number key (world.place terminal)
done_fades app (Event.Up at) world number = came_up_fades world at number (world.link at).up refl
done_fades app (Event.Down at) world number = went_down_fades world at number (world.link at).term_here
done_fades app (Event.Act at) world number =
    let link : Link = world.link at in
    at_number world.link at number (host_sent (acted app link.host) link) (sends link (acted app link.host))
done_fades app (Event.Answer at said) world number =
    let link : Link = world.link at in
    at_number world.link at number (host_sent (answered_on app link.host said) link) (sends link (answered_on app link.host said))
done_fades app (Event.Note at text) world number =
    let link : Link = world.link at in
    at_number world.link at number (host_sent (noted text link.host) link) (sends link (noted text link.host))
done_fades app (Event.Lose at) world number = at_number world.link at number (cut (world.link at)) (λ before after. record { down = whole _; up = whole _ })
done_fades app (Event.HostSees at) world number = at_number world.link at number (host_left (world.link at)) (λ before after. record { down = whole _; up = whole _ })
done_fades app (Event.TermSees terminal) world number = term_saw_fades world terminal number (world.place terminal)
done_fades app (Event.Connect terminal wanted) world number = joined_fades app world terminal number (display_at world (world.place terminal)).model wanted (free_number world.link)
done_fades app (Event.RestartTerm terminal) world number = term_anew_fades app world terminal number (world.place terminal)
done_fades app Event.RestartHost world number = host_anew_fades (world.link number)

pub lost_takes_nothing : LostTakesNothing
lost_takes_nothing app event world number = by_test (is_enabled app event world)
  where
    by_test : (b : Bool) → Fades (world.link number) (World.link (if b then done app event world else world) number)
    by_test true = done_fades app event world number
    by_test false = as_it_is (world.link number)

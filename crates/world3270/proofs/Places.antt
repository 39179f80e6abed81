-- Both ends agree, after every event.
use Rattle.std.proofs.Common.{◌≡◌, ◌↔◌, ◌==◌, ◌||◌, not, find, ℕ, Bool, true, false, Option, None, Some, List, [], ◌∷◌, refl, sym, subst, ◌∙◌, if◌then◌else◌}
use Rattle.codes3270.specs.declared.size.Model.{Model}
use Rattle.std.proofs.lemmas.Bool.{eqb-true, and_parts}
use Rattle.std.specs.List.{range_with_len}
use Rattle.keyboard.specs.declared.key.Key.{Key}
use Rattle.lu_pool.specs.Asking.{answer_to}
use Rattle.lu_pool.specs.Holders.{granted_if}
use Rattle.tn3270e_msg.specs.declared.cause.Cause.{Cause}
use Rattle.host_core.specs.Acts.{Sent, acted}
use Rattle.host_core.specs.Application.{Application}
use Rattle.host_core.specs.Messages.{ToTerminal, ToHost}
use Rattle.host_core.specs.Notes.{noted}
use Rattle.host_core.specs.Takes.{HostStep, took as host_took}
use Rattle.host_core.specs.Questions.{answered_on}
use Rattle.world3270.specs.statement.Always.{Always}
use Rattle.world3270.specs.model.Steps.{closed_if, said, freed_if, came_up, left_alone, place_after, came_down, went_down, key_went, parted, term_saw, joined, term_anew, host_left_from, host_anew, done, stepped_by, run}
use Rattle.world3270.specs.model.Link.{Link, is_free, begun, cut, host_left, host_left_if, host_stepped, host_sent, term_left, term_left_if, term_stepped}
use Rattle.world3270.specs.model.Enabled.{is_enabled, free_number, may_connect, is_terminal}
use Rattle.world3270.specs.model.Places.{EndsAgree}
use Rattle.world3270.specs.model.Terminal.{Display, TermStep, new_display, after_key, key_came, took as term_took}
use Rattle.std.specs.Prelude.{is_some}
use Rattle.world3270.specs.model.World.{Place, World, Event, new_world, link_count, with_at, with_link, display_at}
use Rattle.world3270.proofs.OneOfMany.{differs}

abbrev Agree : (ℕ → Link) → (ℕ → Place) → Type 0
Agree link place = (terminal number : ℕ) → (place terminal ≡ Place.At number) ↔ ((link number).term_here ≡ Some terminal)

-- ---- one of many changes

-- a connection changes, but not who holds its terminal end
link_changed : (link : ℕ → Link) (place : ℕ → Place) (number : ℕ) (new : Link) → new.term_here ≡ (link number).term_here → Agree link place → Agree (with_at number new link) place
link_changed link place number new same a terminal other = by_test (other == number) refl
  where
    by_test : (b : Bool) → (other == number) ≡ b → (place terminal ≡ Place.At other) ↔ (Link.term_here (if b then new else link other) ≡ Some terminal)
    by_test true e =
        subst (λ n. (place terminal ≡ Place.At n) ↔ (new.term_here ≡ Some terminal)) (sym (eqb-true other number e))
        (subst (λ h. (place terminal ≡ Place.At number) ↔ (h ≡ Some terminal)) (sym same) (a terminal number))
    by_test false e = a terminal other

-- a terminal that is alone stays so
alone_changed : (link : ℕ → Link) (place : ℕ → Place) (terminal : ℕ) (old new : Display) → place terminal ≡ Place.Alone old → Agree link place → Agree link (with_at terminal (Place.Alone new) place)
alone_changed link place terminal old new alone a other number = by_test (other == terminal) refl
  where
    by_test : (b : Bool) → (other == terminal) ≡ b → ((if b then Place.Alone new else place other) ≡ Place.At number) ↔ ((link number).term_here ≡ Some other)
    by_test true e = (λ wrong. absurd (cc), λ held. let at = (a terminal number).1 (subst (λ t. (link number).term_here ≡ Some t) (eqb-true other terminal e) held) in absurd (cc))
    by_test false e = a other number

-- a terminal goes to a place, and a connection's end is held by it or by nobody
record Moved (link : ℕ → Link) (place : ℕ → Place) (terminal number : ℕ) (new : Link) (goes : Place) : Type 0 where
  here : (goes ≡ Place.At number) ↔ (new.term_here ≡ Some terminal)
  elsewhere : (n : ℕ) → (n ≡ number → ⊥) → (goes ≡ Place.At n) ↔ ((link n).term_here ≡ Some terminal)
  others : (t : ℕ) → (t ≡ terminal → ⊥) → (place t ≡ Place.At number) ↔ (new.term_here ≡ Some t)

moved : (link : ℕ → Link) (place : ℕ → Place) (terminal number : ℕ) (new : Link) (goes : Place) → Agree link place → Moved link place terminal number new goes → Agree (with_at number new link) (with_at terminal goes place)
moved link place terminal number new goes a m t n = by_terminal (t == terminal) refl
  where
    its_own : (b : Bool) → (n == number) ≡ b → (goes ≡ Place.At n) ↔ (Link.term_here (if b then new else link n) ≡ Some terminal)
    its_own true e = subst (λ x. (goes ≡ Place.At x) ↔ (new.term_here ≡ Some terminal)) (sym (eqb-true n number e)) m.here
    its_own false e = m.elsewhere n (differs n number e)

    another's : (t ≡ terminal → ⊥) → (b : Bool) → (n == number) ≡ b → (place t ≡ Place.At n) ↔ (Link.term_here (if b then new else link n) ≡ Some t)
    another's other true e = subst (λ x. (place t ≡ Place.At x) ↔ (new.term_here ≡ Some t)) (sym (eqb-true n number e)) (m.others t other)
    another's other false e = a t n

    by_terminal : (b : Bool) → (t == terminal) ≡ b → ((if b then goes else place t) ≡ Place.At n) ↔ (Link.term_here (with_at number new link n) ≡ Some t)
    by_terminal true e = subst (λ x. (goes ≡ Place.At n) ↔ (Link.term_here (with_at number new link n) ≡ Some x)) (sym (eqb-true t terminal e)) (its_own (n == number) refl)
    by_terminal false e = another's (differs t terminal e) (n == number) refl

stays : (link : ℕ → Link) (place : ℕ → Place) (terminal number : ℕ) (new : Link) → place terminal ≡ Place.At number → (link number).term_here ≡ Some terminal → new.term_here ≡ Some terminal → Agree link place
    → Moved link place terminal number new (Place.At number)
stays link place terminal number new is held holds a = record {
  here = (λ _. holds, λ _. refl);
  elsewhere = λ n other. (λ e. absurd (other (cc)), λ e. let at = (a terminal n).1 e in absurd (other (cc)));
  others = λ t other. (λ e. let too = (a t number).0 e in absurd (other (cc)), λ e. absurd (other (cc)));
}

leaves : (link : ℕ → Link) (place : ℕ → Place) (terminal number : ℕ) (new : Link) (display : Display) → place terminal ≡ Place.At number → (link number).term_here ≡ Some terminal → new.term_here ≡ None → Agree link place
    → Moved link place terminal number new (Place.Alone display)
leaves link place terminal number new display is held gone a = record {
  here = (λ e. absurd (cc), λ e. absurd (cc));
  elsewhere = λ n other. (λ e. absurd (cc), λ e. let at = (a terminal n).1 e in absurd (other (cc)));
  others = λ t other. (λ e. let too = (a t number).0 e in absurd (other (cc)), λ e. absurd (cc));
}

joins : (link : ℕ → Link) (place : ℕ → Place) (terminal number : ℕ) (new : Link) (display : Display) → place terminal ≡ Place.Alone display → (link number).term_here ≡ None → new.term_here ≡ Some terminal → Agree link place
    → Moved link place terminal number new (Place.At number)
joins link place terminal number new display is free holds a = record {
  here = (λ _. holds, λ _. refl);
  elsewhere = λ n other. (λ e. absurd (other (cc)), λ e. let at = (a terminal n).1 e in absurd (cc));
  others = λ t other. (λ e. let too = (a t number).0 e in absurd (cc), λ e. absurd (other (cc)));
}

-- ---- the host

closed_agrees : (cause : Option Cause) (world : World) → EndsAgree world → EndsAgree (closed_if cause world)
closed_agrees None world a = a
closed_agrees (Some cause) world a = a

host_leaves_it : (cause : Option Cause) (link : Link) → (host_left_if cause link).term_here ≡ link.term_here
host_leaves_it None link = refl
host_leaves_it (Some cause) link = refl

came_up_agrees : (world : World) (number : ℕ) (up : List ToHost) → EndsAgree world → EndsAgree (came_up number up world)
came_up_agrees world number [] a = a
came_up_agrees world number (message ∷ rest) a =
    let step : HostStep = host_took (answer_to world.pool) (world.link number).host message in
    let new : Link = host_stepped step rest (world.link number) in
    closed_agrees step.closes (record world { pool = freed_if number step.closes (granted_if number step.grants world.pool); link = with_at number new world.link })
    (link_changed world.link world.place number new (host_leaves_it step.closes _) a)

sends_from : (sending : Option Sent) (link : Link) → (host_sent sending link).term_here ≡ link.term_here
sends_from None link = refl
sends_from (Some sending) link = refl

sends_agrees : (world : World) (number : ℕ) (sending : Option Sent) → EndsAgree world → EndsAgree (with_link number (host_sent sending (world.link number)) world)
sends_agrees world number sending a = link_changed world.link world.place number (host_sent sending (world.link number)) (sends_from sending (world.link number)) a

host_left_from_it : (link : Link) → (host_left_from link).term_here ≡ link.term_here
host_left_from_it link = by_here link.host_here
  where
    by_here : (b : Bool) → Link.term_here (if b then host_left link else link) ≡ link.term_here
    by_here true = refl
    by_here false = refl

host_anew_agrees : (world : World) → EndsAgree world → EndsAgree (host_anew world)
host_anew_agrees world a terminal number = subst (λ h. (world.place terminal ≡ Place.At number) ↔ (h ≡ Some terminal)) (sym (host_left_from_it (world.link number))) (a terminal number)

-- ---- terminals

took_it : (world : World) (number terminal : ℕ) (next : Link) (display : Display) (cause : Option Cause) → (world.link number).term_here ≡ Some terminal → next.term_here ≡ (world.link number).term_here → EndsAgree world
    → Agree (with_at number (term_left_if cause next) world.link) (with_at terminal (place_after cause number display) world.place)
took_it world number terminal next display None held same a =
    moved world.link world.place terminal number next (Place.At number) a
    (stays world.link world.place terminal number next ((a terminal number).1 held) held (same ∙ held) a)
took_it world number terminal next display (Some cause) held same a =
    moved world.link world.place terminal number (term_left next) (Place.Alone (left_alone display)) a
    (leaves world.link world.place terminal number (term_left next) (left_alone display) ((a terminal number).1 held) held refl a)

came_down_agrees : (world : World) (number terminal : ℕ) (down : List ToTerminal) → (world.link number).term_here ≡ Some terminal → EndsAgree world → EndsAgree (came_down number terminal down world)
came_down_agrees world number terminal [] held a = a
came_down_agrees world number terminal (message ∷ rest) held a =
    let step : TermStep = term_took (world.link number).term message in
    closed_agrees step.closes (said step.sends (record world { link = with_at number (term_stepped step rest (world.link number)) world.link; place = with_at terminal (place_after step.closes number step.end.display) world.place }))
    (took_it world number terminal _ step.end.display step.closes held refl a)

went_down_agrees : (world : World) (number : ℕ) (here : Option ℕ) → (world.link number).term_here ≡ here → EndsAgree world → EndsAgree (went_down number here world)
went_down_agrees world number None e a = a
went_down_agrees world number (Some terminal) e a = came_down_agrees world number terminal (world.link number).down e a

key_went_agrees : (world : World) (terminal : ℕ) (key : Key) (place : Place) → world.place terminal ≡ place → EndsAgree world → EndsAgree (key_went terminal key place world)
key_went_agrees world terminal key (Place.At number) e a = link_changed world.link world.place number (term_stepped (key_came key (world.link number).term) (world.link number).down (world.link number)) refl a
key_went_agrees world terminal key (Place.Alone display) e a = alone_changed world.link world.place terminal display (after_key key display) e a

parted_agrees : (world : World) (terminal number : ℕ) (display : Display) → world.place terminal ≡ Place.At number → EndsAgree world → EndsAgree (parted terminal number display world)
parted_agrees world terminal number display e a =
    moved world.link world.place terminal number (term_left (world.link number)) (Place.Alone display) a
    (leaves world.link world.place terminal number (term_left (world.link number)) display e ((a terminal number).0 e) refl a)

term_saw_agrees : (world : World) (terminal : ℕ) (place : Place) → world.place terminal ≡ place → EndsAgree world → EndsAgree (term_saw terminal place world)
term_saw_agrees world terminal (Place.At number) e a = parted_agrees world terminal number (left_alone (world.link number).term.display) e a
term_saw_agrees world terminal (Place.Alone display) e a = a

term_anew_agrees : (app : Application) (world : World) (terminal : ℕ) (place : Place) → world.place terminal ≡ place → EndsAgree world → EndsAgree (term_anew app terminal place world)
term_anew_agrees app world terminal (Place.At number) e a = parted_agrees world terminal number (new_display (world.link number).term.display.model app.begins) e a
term_anew_agrees app world terminal (Place.Alone display) e a = alone_changed world.link world.place terminal display (new_display display.model app.begins) e a

-- ---- connections

-- what is found passes
pub found_passes : {X : Type 0} (p : X → Bool) (xs : List X) (x : X) → find p xs ≡ Some x → p x ≡ true
found_passes p [] x e = absurd (cc)
found_passes p (y ∷ ys) x e = by_test (p y) refl e (found_passes p ys x)
  where
    by_test : (b : Bool) → p y ≡ b → (if b then Some y else find p ys) ≡ Some x → (find p ys ≡ Some x → p x ≡ true) → p x ≡ true
    by_test true h e more = let same : y ≡ x = cc in subst (λ z. p z ≡ true) same h
    by_test false h e more = more e

nobody_there : (here : Bool) (held : Option ℕ) → not (here || is_some held) ≡ true → held ≡ None
nobody_there true held e = absurd (cc)
nobody_there false None e = refl
nobody_there false (Some terminal) e = absurd (cc)

joined_agrees : (app : Application) (world : World) (terminal : ℕ) (model : Model) (wanted : Option (List ℕ)) (number : Option ℕ) (display : Display) → free_number world.link ≡ number → world.place terminal ≡ Place.Alone display
    → EndsAgree world → EndsAgree (joined app terminal model wanted number world)
joined_agrees app world terminal model wanted None display e is a = a
joined_agrees app world terminal model wanted (Some number) display e is a =
    let free = found_passes (λ n. is_free (world.link n)) (range_with_len 0 link_count) number e in
    moved world.link world.place terminal number (begun app world.serves model terminal wanted) (Place.At number) a
    (joins world.link world.place terminal number (begun app world.serves model terminal wanted) display is (nobody_there (world.link number).host_here (world.link number).term_here free) refl a)

joins_agrees : (app : Application) (world : World) (terminal : ℕ) (model : Model) (wanted : Option (List ℕ)) (place : Place) → may_connect world place ≡ true → world.place terminal ≡ place → EndsAgree world
    → EndsAgree (joined app terminal model wanted (free_number world.link) world)
joins_agrees app world terminal model wanted (Place.At number) may e a = absurd (cc)
joins_agrees app world terminal model wanted (Place.Alone display) may e a = joined_agrees app world terminal model wanted (free_number world.link) display refl e a

-- ---- any event

done_agrees : (app : Application) (event : Event) (world : World) → is_enabled app event world ≡ true → EndsAgree world → EndsAgree (done app event world)
done_agrees app (Event.Press terminal key) world here a = key_went_agrees world terminal key (world.place terminal) refl a
done_agrees app (Event.Up number) world here a = came_up_agrees world number (world.link number).up a
done_agrees app (Event.Down number) world here a = went_down_agrees world number (world.link number).term_here refl a
done_agrees app (Event.Act number) world here a = sends_agrees world number (acted app (world.link number).host) a
done_agrees app (Event.Answer number said) world here a = sends_agrees world number (answered_on app (world.link number).host said) a
done_agrees app (Event.Note number text) world here a = sends_agrees world number (noted text (world.link number).host) a
done_agrees app (Event.Lose number) world here a = link_changed world.link world.place number (cut (world.link number)) refl a
done_agrees app (Event.HostSees number) world here a = link_changed world.link world.place number (host_left (world.link number)) refl a
done_agrees app (Event.TermSees terminal) world here a = term_saw_agrees world terminal (world.place terminal) refl a
done_agrees app (Event.Connect terminal wanted) world here a =
    joins_agrees app world terminal (display_at world (world.place terminal)).model wanted (world.place terminal) (and_parts (is_terminal world terminal) (may_connect world (world.place terminal)) here).1 refl a
done_agrees app (Event.RestartTerm terminal) world here a = term_anew_agrees app world terminal (world.place terminal) refl a
done_agrees app Event.RestartHost world here a = host_anew_agrees world a

happens_agrees : (app : Application) (event : Event) (world : World) → EndsAgree world → EndsAgree (stepped_by app event world)
happens_agrees app event world a = by_test (is_enabled app event world) refl
  where
    by_test : (b : Bool) → is_enabled app event world ≡ b → EndsAgree (if b then done app event world else world)
    by_test true here = done_agrees app event world here a
    by_test false here = a

run_agrees : (app : Application) (events : List Event) (world : World) → EndsAgree world → EndsAgree (run app events world)
run_agrees app [] world a = a
run_agrees app (event ∷ events) world a = run_agrees app events (stepped_by app event world) (happens_agrees app event world a)

pub ends_agree : Always EndsAgree
ends_agree app serves pool models events is lists few are = run_agrees app events (new_world app serves pool models) (λ terminal number. (λ e. absurd (cc), λ e. absurd (cc)))

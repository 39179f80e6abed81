-- What each step keeps of a connection, and of the display of a terminal that is alone, holds of all of them after every event.
use Rattle.std.proofs.Common.{◌≡◌, ℕ, Bool, true, false, Option, None, Some, List, [], ◌∷◌, refl, sym, subst, if◌then◌else◌}
use Rattle.codes3270.specs.declared.size.Model.TheVariants.{M2}
use Rattle.codes3270.specs.declared.size.Model.{Model}
use Rattle.std.specs.Prelude.{⊤, slice_index_or}
use Rattle.std.specs.List.{All}
use Rattle.std.proofs.lemmas.List.Elements.{All-head, All-tail}
use Rattle.keyboard.specs.declared.key.Key.{Key}
use Rattle.lu_pool.specs.Asking.{answer_to}
use Rattle.lu_pool.specs.Holders.{granted_if}
use Rattle.lu_pool.specs.Pool.{IsPool}
use Rattle.lu_pool.specs.declared.entry.Entry.{Entry}
use Rattle.tn3270e_msg.specs.declared.cause.Cause.{Cause}
use Rattle.host_core.specs.Acts.{acted}
use Rattle.host_core.specs.Application.{Application, IsApplication}
use Rattle.host_core.specs.Messages.{ToTerminal, ToHost}
use Rattle.host_core.specs.Notes.{noted}
use Rattle.host_core.specs.Takes.{Answers, HostStep, took as host_took}
use Rattle.host_core.specs.Questions.{answered_on}
use Rattle.host_core.specs.declared.question.Answer.{Answer as ApplicationAnswer}
use Rattle.host_core.specs.declared.terminals.Terminals.{Terminals}
use Rattle.world3270.specs.refinement.LowerLaws.{LowerLaws}
use Rattle.world3270.specs.model.Steps.{closed_if, said, freed_if, came_up, left_alone, place_after, came_down, went_down, key_went, parted, term_saw, joined, term_anew, host_left_from, done, stepped_by, run}
use Rattle.world3270.specs.model.Link.{Link, begun, unused, cut, host_left, host_stepped, host_sent, term_left, term_left_if, term_stepped}
use Rattle.world3270.specs.model.Enabled.{is_enabled, free_number}
use Rattle.world3270.specs.refinement.Invariant.{ConnectionInvariant}
use Rattle.world3270.specs.model.Terminal.{Display, TermStep, new_display, after_key, key_came, took as term_took}
use Rattle.world3270.specs.refinement.View.{view_of}
use Rattle.world3270.specs.model.World.{Place, World, Event, AreEvents, new_world, with_at, display_at}
use Rattle.world3270.proofs.Down.{term_view}
use Rattle.world3270.proofs.Obeys.{obeys}
use Rattle.world3270.proofs.OneOfMany.{all_with}
use Rattle.world3270.proofs.Worlds.{GoodWorld, happens_good, new_good}

-- what each step keeps, where events are such
pub record Steps (app : Application) (IsSuch : Event → Type 0) (OfLink : Link → Type 0) (OfDisplay : Display → Type 0) : Type 0 where
  pub never : (serves : Terminals) → OfLink (unused app serves)
  pub begins : (serves : Terminals) (model : Model) (terminal : ℕ) (wanted : Option (List ℕ)) → OfLink (begun app serves model terminal wanted)
  pub up : (pool : Answers) (link : Link) (message : ToHost) (rest : List ToHost) → link.up ≡ message ∷ rest → ConnectionInvariant app (view_of link) → OfLink link
      → OfLink (host_stepped (host_took pool link.host message) rest link)
  pub acts : (link : Link) → ConnectionInvariant app (view_of link) → OfLink link → OfLink (host_sent (acted app link.host) link)
  pub answers : (number : ℕ) (said : ApplicationAnswer) (link : Link) → IsSuch (Event.Answer number said) → ConnectionInvariant app (view_of link) → OfLink link
      → OfLink (host_sent (answered_on app link.host said) link)
  pub notes : (number : ℕ) (text : List ℕ) (link : Link) → IsSuch (Event.Note number text) → ConnectionInvariant app (view_of link) → OfLink link
      → OfLink (host_sent (noted text link.host) link)
  pub down : (link : Link) (message : ToTerminal) (rest : List ToTerminal) → link.down ≡ message ∷ rest → ConnectionInvariant app (view_of link) → OfLink link
      → OfLink (term_view (term_took link.term message) rest link)
  pub key : (terminal : ℕ) (key : Key) (link : Link) → IsSuch (Event.Press terminal key) → ConnectionInvariant app (view_of link) → OfLink link
      → OfLink (term_stepped (key_came key link.term) link.down link)
  pub loses : (link : Link) → OfLink link → OfLink (cut link)
  pub host_leaves : (link : Link) → OfLink link → OfLink (host_left link)
  pub term_leaves : (link : Link) → OfLink link → OfLink (term_left link)
  pub fresh : (model : Model) → OfDisplay (new_display model app.begins)
  pub alone : (link : Link) → ConnectionInvariant app (view_of link) → OfLink link → OfDisplay (left_alone link.term.display)
  pub key_alone : (terminal : ℕ) (key : Key) (display : Display) → IsSuch (Event.Press terminal key) → OfDisplay display → OfDisplay (after_key key display)

-- the display of a terminal that is alone
abbrev pub InPlace : (Display → Type 0) → Place → Type 0
InPlace OfDisplay (Place.At number) = ⊤
InPlace OfDisplay (Place.Alone display) = OfDisplay display

pub record Everywhere (OfLink : Link → Type 0) (OfDisplay : Display → Type 0) (link : ℕ → Link) (place : ℕ → Place) : Type 0 where
  pub links : (number : ℕ) → OfLink (link number)
  pub places : (terminal : ℕ) → InPlace OfDisplay (place terminal)

module _ (given : LowerLaws) (app : Application) (is : IsApplication app) (IsSuch : Event → Type 0) (OfLink : Link → Type 0) (OfDisplay : Display → Type 0) (steps : Steps app IsSuch OfLink OfDisplay) where
  abbrev Holds : World → Type 0
  Holds world = Everywhere OfLink OfDisplay world.link world.place

  -- one of many
  changed : (world : World) (number : ℕ) (new : Link) → OfLink new → Holds world → Everywhere OfLink OfDisplay (with_at number new world.link) world.place
  changed world number new is h = record { links = all_with (λ n x. OfLink x) number new world.link is h.links; places = h.places }

  replaced : (world : World) (terminal : ℕ) (new : Place) → InPlace OfDisplay new → Holds world → Everywhere OfLink OfDisplay world.link (with_at terminal new world.place)
  replaced world terminal new is h = record { links = h.links; places = all_with (λ t x. InPlace OfDisplay x) terminal new world.place is h.places }

  moved : (world : World) (number terminal : ℕ) (new : Link) (goes : Place) → OfLink new → InPlace OfDisplay goes → Holds world
      → Everywhere OfLink OfDisplay (with_at number new world.link) (with_at terminal goes world.place)
  moved world number terminal new goes is alone h = record {
    links = all_with (λ n x. OfLink x) number new world.link is h.links;
    places = all_with (λ t x. InPlace OfDisplay x) terminal goes world.place alone h.places;
  }

  closed_holds : (cause : Option Cause) (world : World) → Holds world → Holds (closed_if cause world)
  closed_holds None world h = h
  closed_holds (Some cause) world h = record { links = h.links; places = h.places }

  -- ---- the host

  came_up_holds : (world : World) (number : ℕ) (up : List ToHost) → (world.link number).up ≡ up → GoodWorld app world → Holds world → Holds (came_up number up world)
  came_up_holds world number [] e g h = h
  came_up_holds world number (message ∷ rest) e g h =
      let link : Link = world.link number in
      let step : HostStep = host_took (answer_to world.pool) link.host message in
      closed_holds step.closes (record world { pool = freed_if number step.closes (granted_if number step.grants world.pool); link = with_at number (host_stepped step rest link) world.link })
      (changed world number (host_stepped step rest link) (steps.up (answer_to world.pool) link message rest e (g.links number) (h.links number)) h)

  left_from_holds : (link : Link) → OfLink link → OfLink (host_left_from link)
  left_from_holds link h = by_here link.host_here
    where
      by_here : (b : Bool) → OfLink (if b then host_left link else link)
      by_here true = steps.host_leaves link h
      by_here false = h

  -- ---- terminals

  came_down_holds : (world : World) (number terminal : ℕ) (down : List ToTerminal) → (world.link number).down ≡ down → GoodWorld app world → Holds world → Holds (came_down number terminal down world)
  came_down_holds world number terminal [] e g h = h
  came_down_holds world number terminal (message ∷ rest) e g h =
      let link : Link = world.link number in
      let step : TermStep = term_took link.term message in
      let o = obeys given app is link message rest e (g.links number) in
      subst (λ c. Holds (closed_if c (said step.sends (record world { link = with_at number (term_left_if c (term_view step rest link)) world.link; place = with_at terminal (place_after c number step.end.display) world.place })))) (sym o.open_end)
      (moved world number terminal (term_view step rest link) (Place.At number) (steps.down link message rest e (g.links number) (h.links number)) tt h)

  went_down_holds : (world : World) (number : ℕ) (here : Option ℕ) → GoodWorld app world → Holds world → Holds (went_down number here world)
  went_down_holds world number None g h = h
  went_down_holds world number (Some terminal) g h = came_down_holds world number terminal (world.link number).down refl g h

  key_went_holds : (world : World) (terminal : ℕ) (key : Key) (place : Place) → IsSuch (Event.Press terminal key) → InPlace OfDisplay place → GoodWorld app world → Holds world → Holds (key_went terminal key place world)
  key_went_holds world terminal key (Place.At number) such alone g h =
      let link : Link = world.link number in
      changed world number (term_stepped (key_came key link.term) link.down link) (steps.key terminal key link such (g.links number) (h.links number)) h
  key_went_holds world terminal key (Place.Alone display) such alone g h =
      replaced world terminal (Place.Alone (after_key key display)) (steps.key_alone terminal key display such alone) h

  parted_holds : (world : World) (terminal number : ℕ) (display : Display) → OfDisplay display → Holds world → Holds (parted terminal number display world)
  parted_holds world terminal number display is h = moved world number terminal (term_left (world.link number)) (Place.Alone display) (steps.term_leaves (world.link number) (h.links number)) is h

  term_saw_holds : (world : World) (terminal : ℕ) (place : Place) → GoodWorld app world → Holds world → Holds (term_saw terminal place world)
  term_saw_holds world terminal (Place.At number) g h =
      parted_holds world terminal number (left_alone (world.link number).term.display) (steps.alone (world.link number) (g.links number) (h.links number)) h
  term_saw_holds world terminal (Place.Alone display) g h = h

  term_anew_holds : (world : World) (terminal : ℕ) (place : Place) → Holds world → Holds (term_anew app terminal place world)
  term_anew_holds world terminal (Place.At number) h = parted_holds world terminal number (new_display (world.link number).term.display.model app.begins) (steps.fresh (world.link number).term.display.model) h
  term_anew_holds world terminal (Place.Alone display) h = replaced world terminal (Place.Alone (new_display display.model app.begins)) (steps.fresh display.model) h

  -- ---- connections

  joined_holds : (world : World) (terminal : ℕ) (model : Model) (wanted : Option (List ℕ)) (free : Option ℕ) → Holds world → Holds (joined app terminal model wanted free world)
  joined_holds world terminal model wanted None h = h
  joined_holds world terminal model wanted (Some number) h = moved world number terminal (begun app world.serves model terminal wanted) (Place.At number) (steps.begins world.serves model terminal wanted) tt h

  -- ---- any event

  done_holds : (event : Event) (world : World) → IsSuch event → GoodWorld app world → Holds world → Holds (done app event world)
  done_holds (Event.Press terminal key) world such g h = key_went_holds world terminal key (world.place terminal) such (h.places terminal) g h
  done_holds (Event.Up number) world such g h = came_up_holds world number (world.link number).up refl g h
  done_holds (Event.Down number) world such g h = went_down_holds world number (world.link number).term_here g h
  done_holds (Event.Act number) world such g h =
      let link : Link = world.link number in
      changed world number (host_sent (acted app link.host) link) (steps.acts link (g.links number) (h.links number)) h
  done_holds (Event.Answer number said) world such g h =
      let link : Link = world.link number in
      changed world number (host_sent (answered_on app link.host said) link) (steps.answers number said link such (g.links number) (h.links number)) h
  done_holds (Event.Note number text) world such g h =
      let link : Link = world.link number in
      changed world number (host_sent (noted text link.host) link) (steps.notes number text link such (g.links number) (h.links number)) h
  done_holds (Event.Lose number) world such g h = changed world number (cut (world.link number)) (steps.loses (world.link number) (h.links number)) h
  done_holds (Event.HostSees number) world such g h = changed world number (host_left (world.link number)) (steps.host_leaves (world.link number) (h.links number)) h
  done_holds (Event.TermSees terminal) world such g h = term_saw_holds world terminal (world.place terminal) g h
  done_holds (Event.Connect terminal wanted) world such g h = joined_holds world terminal (display_at world (world.place terminal)).model wanted (free_number world.link) h
  done_holds (Event.RestartTerm terminal) world such g h = term_anew_holds world terminal (world.place terminal) h
  done_holds Event.RestartHost world such g h = record { links = λ number. left_from_holds (world.link number) (h.links number); places = h.places }

  happens_holds : (event : Event) (world : World) → IsSuch event → GoodWorld app world → Holds world → Holds (stepped_by app event world)
  happens_holds event world such g h = by_test (is_enabled app event world)
    where
      by_test : (b : Bool) → Holds (if b then done app event world else world)
      by_test true = done_holds event world such g h
      by_test false = h

  run_holds : (events : List Event) (world : World) → AreEvents events → All IsSuch events → GoodWorld app world → Holds world → Holds (run app events world)
  run_holds [] world are such g h = h
  run_holds (event ∷ events) world are such g h =
      let here = All-head IsSuch event events such in
      run_holds events (stepped_by app event world) are.1 (All-tail IsSuch event events such) (happens_good given app is event world are.0 g) (happens_holds event world here g h)

  pub everywhere : (serves : Terminals) (pool : List Entry) (models : List Model) (events : List Event) → IsPool pool → AreEvents events → All IsSuch events → Holds (run app events (new_world app serves pool models))
  everywhere serves pool models events lists are such =
      run_holds events (new_world app serves pool models) are such (new_good given app is serves pool models lists)
      (record { links = λ number. steps.never serves; places = λ terminal. steps.fresh (slice_index_or models terminal M2) })

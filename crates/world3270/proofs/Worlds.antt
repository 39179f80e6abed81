-- Each event leads from a world that keeps what is known of each connection to one that does.
use Rattle.std.proofs.Common.{◌≡◌, ◌<◌, ◌==◌, ◌&&◌, ◌++◌, ℕ, Bool, true, false, Option, None, Some, List, [], ◌∷◌, arith, replicate, refl, ap, sym, subst, ◌∙◌, if◌then◌else◌, inl}
use Rattle.codes3270.specs.declared.size.Model.{Model}
use Rattle.std.specs.Prelude.{filter_map, ◌&&◌}
use Rattle.std.specs.Option.{option_and_then}
use Rattle.std.specs.List.{list_any}
use Rattle.std.proofs.lemmas.Bool.{and_parts}
use Rattle.std.proofs.lemmas.List.{length-replicate}
use Rattle.codes3270.specs.Size.{ScreenSize, cells_in}
use Rattle.codes3270.specs.declared.attribute.Cell.TheVariants.{Char}
use Rattle.keyboard.specs.declared.key.Key.{Key}
use Rattle.lu_pool.specs.Asking.{answer_to}
use Rattle.lu_pool.specs.Holders.{holder, granted_to, granted_if, given_back}
use Rattle.lu_pool.specs.HolderLaws.{IsSound}
use Rattle.lu_pool.specs.Pool.{IsPool}
use Rattle.lu_pool.specs.declared.entry.Entry.{Entry}
use Rattle.telnet_wire.specs.declared.wire.Verb.TheVariants.{Do}
use Rattle.shadow.proofs.HeardOthers.{no_field}
use Rattle.tn3270e_msg.specs.Talk.{IsLuIfSome, NegotiationMessage}
use Rattle.tn3270e_msg.specs.declared.cause.Cause.{Cause}
use Rattle.host_core.specs.Acts.{Act, Decision, decided, decision_on, done as done_act, may_act, acted}
use Rattle.host_core.specs.Application.{Application, IsValidSize, IsApplication, message_place}
use Rattle.host_core.specs.Messages.{ToTerminal, ToHost, Verdict}
use Rattle.host_core.specs.Notes.{IsNoteText, may_note, noted_as, noted}
use Rattle.host_core.specs.Session.{Session, is_agreed}
use Rattle.host_core.specs.Takes.{freed_if, HostStep, took as host_took}
use Rattle.host_core.specs.Questions.{act_by, answered_on, has_its_panel, is_asking, panel_for}
use Rattle.host_core.specs.declared.question.Answer.{Answer as ApplicationAnswer}
use Rattle.host_core.specs.declared.terminals.Terminals.{Terminals}
use Rattle.world3270.specs.statement.Always.{is_negative}
use Rattle.world3270.specs.refinement.LowerLaws.{LowerLaws}
use Rattle.world3270.specs.model.Steps.{closed_if, verdict_in, said, came_up, host_acted, host_noted, left_alone, place_after, came_down, went_down, key_went, host_parted, parted, term_saw, joined, term_anew, host_left_from, host_anew, done, stepped_by, run, RunsCompose, host_answered}
use Rattle.world3270.specs.model.Link.{Link, begun, unused, cut, host_left, host_left_if, host_sent, term_left, term_left_if, term_stepped}
use Rattle.world3270.specs.refinement.Phases.{NegotiationPhase, LinkPhase}
use Rattle.world3270.specs.model.Enabled.{is_enabled, free_number, is_link, comes_up, is_queued}
use Rattle.world3270.specs.refinement.Invariant.{ConnectionInvariant}
use Rattle.world3270.specs.model.Terminal.{Display, TermStep, new_display, after_key, key_came, took as term_took}
use Rattle.world3270.specs.refinement.View.{view_of}
use Rattle.world3270.specs.model.World.{Place, World, Event, IsEvent, AreEvents, new_world, with_at, with_link, display_at}
use Rattle.world3270.proofs.Acting.{acts, loses, answers_are_shown}
use Rattle.world3270.proofs.Noting.{notes}
use Rattle.world3270.proofs.Down.{term_view}
use Rattle.world3270.proofs.Obeys.{obeys}
use Rattle.world3270.proofs.Keys.{keys}
use Rattle.world3270.proofs.OneOfMany.{all_with, differs}
use Rattle.world3270.proofs.Unreturned.{all_as_left, all_kept}
use Rattle.world3270.proofs.Up.{claim, Grants, host_view, answers}

-- ---- what is kept

-- the host's end, where it is held, has no LU but one that it holds
abbrev pub Holds : List Entry → ℕ → Link → Type 0
Holds pool number link = (lu : List ℕ) → link.host_here ≡ true → claim link.host ≡ Some lu → holder pool lu ≡ Some number

pub record Good (app : Application) (pool : List Entry) (link : ℕ → Link) (causes : List Cause) (verdicts : List Verdict) : Type 0 where
  pub links : (number : ℕ) → ConnectionInvariant app (view_of (link number))
  pub sound : IsSound pool
  pub holds : (number : ℕ) → Holds pool number (link number)
  pub uncaused : causes ≡ []
  pub positive : list_any is_negative verdicts ≡ false

abbrev pub GoodWorld : Application → World → Type 0
GoodWorld app world = Good app world.pool world.link world.causes world.verdicts

-- ---- a link in the place of one with the same host

record Replaces (app : Application) (old new : Link) : Type 0 where
  kept : ConnectionInvariant app (view_of new)
  here : new.host_here ≡ true → old.host_here ≡ true
  claims : claim new.host ≡ claim old.host

replaced : (app : Application) (pool : List Entry) (link : ℕ → Link) (causes : List Cause) (verdicts : List Verdict) (number : ℕ) (new : Link) → Good app pool link causes verdicts → Replaces app (link number) new → Good app pool (with_at number new link) causes verdicts
replaced app pool link causes verdicts number new g r = record {
  links = all_with (λ n x. ConnectionInvariant app (view_of x)) number new link r.kept g.links;
  sound = g.sound;
  holds = all_with (λ n x. Holds pool n x) number new link (λ lu here claims. g.holds number lu (r.here here) (sym r.claims ∙ claims)) g.holds;
  uncaused = g.uncaused;
  positive = g.positive;
}

-- ---- the host takes a message

-- nobody else has what is granted
pub granted_other : LowerLaws → (pool : List Entry) (number other : ℕ) (lu have : List ℕ) → holder pool lu ≡ None → holder pool have ≡ Some other → holder (granted_to number lu pool) have ≡ Some other
granted_other given pool number other lu have free held = given.pool.others_stay pool number lu have (λ same. let x = ap (holder pool) same in absurd (cc)) ∙ held

took_with : LowerLaws → (app : Application) (world : World) (number : ℕ) (step : HostStep) (new : Link) → GoodWorld app world → (world.link number).host_here ≡ true → ConnectionInvariant app (view_of new) → new.host ≡ step.conn
    → Grants world.pool (world.link number).host step → Good app (granted_if number step.grants world.pool) (with_at number new world.link) world.causes world.verdicts
took_with given app world number step new g here kept host (Grants.none ungranted same) =
    subst (λ grants. Good app (granted_if number grants world.pool) (with_at number new world.link) world.causes world.verdicts) (sym ungranted)
    (replaced app world.pool world.link world.causes world.verdicts number new g (record { kept = kept; here = λ _. here; claims = ap claim host ∙ same }))
took_with given app world number step new g here kept host (Grants.one name lu gave has answer) =
    subst (λ grants. Good app (granted_if number grants world.pool) (with_at number new world.link) world.causes world.verdicts) (sym gave)
    (record {
      links = all_with (λ n x. ConnectionInvariant app (view_of x)) number new world.link kept g.links;
      sound = given.pool.sound_granted world.pool number lu g.sound;
      holds = all_with (λ n x. Holds (granted_to number lu world.pool) n x) number new world.link held others;
      uncaused = g.uncaused;
      positive = g.positive;
    })
  where
    held : Holds (granted_to number lu world.pool) number new
    held mine h claims =
        let both : Some lu ≡ Some mine = sym has ∙ sym (ap claim host) ∙ claims in
        let same : lu ≡ mine = cc in
        subst (λ x. holder (granted_to number lu world.pool) x ≡ Some number) same (given.pool.held world.pool name number lu answer)

    others : (other : ℕ) → Holds (granted_to number lu world.pool) other (world.link other)
    others other have h claims = granted_other given world.pool number other lu have (given.pool.free world.pool name lu g.sound answer) (g.holds other have h claims)

came_up_good : LowerLaws → (app : Application) (world : World) (number : ℕ) (up : List ToHost) → (world.link number).up ≡ up → (world.link number).host_here ≡ true → GoodWorld app world → GoodWorld app (came_up number up world)
came_up_good given app world number [] e here g = g
came_up_good given app world number (message ∷ rest) e here g =
    let link : Link = world.link number in
    let step : HostStep = host_took (answer_to world.pool) link.host message in
    let a = answers given app world.pool g.sound link message rest e (g.links number) in
    subst (λ c. GoodWorld app (closed_if c (record world { pool = freed_if number c (granted_if number step.grants world.pool); link = with_at number (host_left_if c (host_view step rest link)) world.link }))) (sym a.open_end)
    (took_with given app world number step (host_view step rest link) g here a.kept refl a.grants)

-- ---- the host acts, and sends notes

act_claims : (app : Application) (conn : Session) (act : Act) → claim (done_act app conn act).conn ≡ claim conn
act_claims app conn Act.Read = refl
act_claims app conn (Act.Show panel message keep values) = refl

-- what a link has after a sending
record SameEnd (old new : Link) : Type 0 where
  claims : claim new.host ≡ claim old.host
  here : new.host_here ≡ old.host_here

decided_same : (app : Application) (link : Link) (decision : Decision) (b : Bool) → SameEnd link (host_sent (option_and_then (decided app link.host) (if b then Some decision else None)) link)
decided_same app link (Decision.Do act) true = record { claims = act_claims app link.host act; here = refl }
decided_same app link Decision.Asks true = record { claims = refl; here = refl }
decided_same app link decision false = record { claims = refl; here = refl }

answered_same : (app : Application) (link : Link) (act : Act) (b : Bool) → SameEnd link (host_sent (if b then Some (done_act app link.host act) else None) link)
answered_same app link act true = record { claims = act_claims app link.host act; here = refl }
answered_same app link act false = record { claims = refl; here = refl }

noted_same : (text : List ℕ) (link : Link) (b : Bool) → SameEnd link (host_sent (if b then Some (noted_as text link.host) else None) link)
noted_same text link true = record { claims = refl; here = refl }
noted_same text link false = record { claims = refl; here = refl }

sent_good : (app : Application) (world : World) (number : ℕ) (new : Link) → ConnectionInvariant app (view_of new) → SameEnd (world.link number) new → GoodWorld app world → GoodWorld app (with_link number new world)
sent_good app world number new kept same g =
    replaced app world.pool world.link world.causes world.verdicts number new g (record { kept = kept; here = λ e. sym same.here ∙ e; claims = same.claims })

host_acted_good : LowerLaws → (app : Application) → IsApplication app → (world : World) (number : ℕ) → GoodWorld app world → GoodWorld app (host_acted app number world)
host_acted_good given app is world number g =
    let link : Link = world.link number in
    sent_good app world number (host_sent (acted app link.host) link) (acts given app is link (g.links number)) (decided_same app link (decision_on app link.host link.host.turn_reason) (may_act link.host.turn link.host.pending (is_agreed link.host.talk.state))) g

host_answered_good : LowerLaws → (app : Application) → IsApplication app → (world : World) (number : ℕ) (said : ApplicationAnswer) → GoodWorld app world → GoodWorld app (host_answered app number said world)
host_answered_good given app is world number said g =
    let link : Link = world.link number in
    sent_good app world number (host_sent (answered_on app link.host said) link) (answers_are_shown given app is link (g.links number) said)
    (answered_same app link (act_by app link.host said (panel_for app link.host said)) (is_asking app link.host && has_its_panel app said)) g

host_noted_good : (app : Application) (world : World) (number : ℕ) (text : List ℕ) → IsNoteText text → GoodWorld app world → GoodWorld app (host_noted number text world)
host_noted_good app world number text is g =
    let link : Link = world.link number in
    sent_good app world number (host_sent (noted text link.host) link) (notes app text is link (g.links number)) (noted_same text link (may_note link.host.turn link.host.pending (is_agreed link.host.talk.state))) g

-- ---- the terminal

none_negative : (said more : List Verdict) → list_any is_negative said ≡ false → list_any is_negative more ≡ false → list_any is_negative (said ++ more) ≡ false
none_negative [] more h k = k
none_negative (Verdict.Positive ∷ said) more h k = none_negative said more h k
none_negative (Verdict.Negative ∷ said) more h k = absurd (cc)

came_down_good : LowerLaws → (app : Application) → IsApplication app → (world : World) (number terminal : ℕ) (down : List ToTerminal) → (world.link number).down ≡ down → GoodWorld app world → GoodWorld app (came_down number terminal down world)
came_down_good given app is world number terminal [] e g = g
came_down_good given app is world number terminal (message ∷ rest) e g =
    let link : Link = world.link number in
    let step : TermStep = term_took link.term message in
    let o = obeys given app is link message rest e (g.links number) in
    let stepped : World = record world { link = with_at number (term_view step rest link) world.link; place = with_at terminal (place_after None number step.end.display) world.place } in
    let good : GoodWorld app stepped = replaced app world.pool world.link world.causes world.verdicts number (term_view step rest link) g (record { kept = o.kept; here = λ e. e; claims = refl }) in
    subst (λ c. GoodWorld app (closed_if c (said step.sends (record world { link = with_at number (term_left_if c (term_view step rest link)) world.link; place = with_at terminal (place_after c number step.end.display) world.place })))) (sym o.open_end)
    (record { links = good.links; sound = good.sound; holds = good.holds; uncaused = good.uncaused; positive = none_negative world.verdicts (filter_map verdict_in step.sends) g.positive o.positive })

went_down_good : LowerLaws → (app : Application) → IsApplication app → (world : World) (number : ℕ) (here : Option ℕ) → GoodWorld app world → GoodWorld app (went_down number here world)
went_down_good given app is world number None g = g
went_down_good given app is world number (Some terminal) g = came_down_good given app is world number terminal (world.link number).down refl g

-- a world that differs in its places alone
same_links : (app : Application) (world : World) (place : ℕ → Place) → GoodWorld app world → GoodWorld app (record world { place = place })
same_links app world place g = record { links = g.links; sound = g.sound; holds = g.holds; uncaused = g.uncaused; positive = g.positive }

key_went_good : LowerLaws → (app : Application) (world : World) (terminal : ℕ) (key : Key) (place : Place) → GoodWorld app world → GoodWorld app (key_went terminal key place world)
key_went_good given app world terminal key (Place.At number) g =
    let link : Link = world.link number in
    replaced app world.pool world.link world.causes world.verdicts number (term_stepped (key_came key link.term) link.down link) g
    (record { kept = keys given app link key (g.links number); here = λ e. e; claims = refl })
key_went_good given app world terminal key (Place.Alone display) g = same_links app world (with_at terminal (Place.Alone (after_key key display)) world.place) g

-- ---- losses

cut_good : (app : Application) (world : World) (number : ℕ) → GoodWorld app world → GoodWorld app (with_link number (cut (world.link number)) world)
cut_good app world number g =
    replaced app world.pool world.link world.causes world.verdicts number (cut (world.link number)) g
    (record { kept = loses app (view_of (world.link number)) (g.links number); here = λ e. e; claims = refl })

-- the host leaves a connection
host_left_good : LowerLaws → (app : Application) (world : World) (number : ℕ) → GoodWorld app world → GoodWorld app (host_parted number world)
host_left_good given app world number g = record {
  links = all_with (λ n x. ConnectionInvariant app (view_of x)) number (host_left (world.link number)) world.link (loses app (view_of (world.link number)) (g.links number)) g.links;
  sound = given.pool.sound_back world.pool number g.sound;
  holds = λ other. by_test other (other == number) refl;
  uncaused = g.uncaused;
  positive = g.positive;
}
  where
    by_test : (other : ℕ) (b : Bool) → (other == number) ≡ b → Holds (given_back number world.pool) other (if b then host_left (world.link number) else world.link other)
    by_test other true e = λ lu here claims. absurd (cc)
    by_test other false e = λ lu here claims. given.pool.others_keep world.pool number other lu (differs other number e) (g.holds other lu here claims)

parted_good : (app : Application) (world : World) (terminal number : ℕ) (display : Display) → GoodWorld app world → GoodWorld app (parted terminal number display world)
parted_good app world terminal number display g =
    replaced app world.pool world.link world.causes world.verdicts number (term_left (world.link number)) g
    (record { kept = loses app (view_of (world.link number)) (g.links number); here = λ e. e; claims = refl })

term_saw_good : (app : Application) (world : World) (terminal : ℕ) (place : Place) → GoodWorld app world → GoodWorld app (term_saw terminal place world)
term_saw_good app world terminal (Place.At number) g = parted_good app world terminal number (left_alone (world.link number).term.display) g
term_saw_good app world terminal (Place.Alone display) g = g

-- ---- connections

pub some_cells : (shape : ScreenSize) → IsValidSize shape → 0 < cells_in shape
some_cells shape is = let columns = is.columns in let row = is.row in omega (arith, columns, row)

unused_kept : LowerLaws → (app : Application) → IsApplication app → (serves : Terminals) → ConnectionInvariant app (view_of (unused app serves))
unused_kept given app is serves = record {
  whole = length-replicate (cells_in app.begins) (Char 0);
  cursor = some_cells app.begins is.begins;
  unreturned = λ _. all_kept (replicate (cells_in app.begins) (Char 0));
  as_left = λ _. all_as_left (message_place app.begins) (replicate (cells_in app.begins) (Char 0));
  exact = record { known = given.belief.nothing_exact.0; protected = given.belief.nothing_exact.1 };
  unrestored = refl;
  wanted = None;
  moment = LinkPhase.Negotiating NegotiationPhase.Offering;
  sizes = record { host = inl refl; screen = inl refl; same = λ steady. refl };
  at = record {
    host_talk = refl;
    term_talk = refl;
    turn = refl;
    pending = refl;
    goes_down = record { vanished = ToTerminal.TalksDown (NegotiationMessage.Opt Do 40) ∷ []; whole = refl; none = λ e. absurd (cc) };
    goes_up = record { vanished = []; whole = refl; none = λ _. refl };
  };
  fact = (record { shadow = refl; turn_reason = refl; lock = refl; aid = refl; no_fields = no_field (replicate (cells_in app.begins) (Char 0)) 0 (cells_in app.begins); home = refl }, tt);
  shown = tt;
}

begun_kept : LowerLaws → (app : Application) → IsApplication app → (serves : Terminals) (model : Model) (terminal : ℕ) (wanted : Option (List ℕ)) → IsLuIfSome wanted → ConnectionInvariant app (view_of (begun app serves model terminal wanted))
begun_kept given app is serves model terminal wanted lu = record {
  whole = length-replicate (cells_in app.begins) (Char 0);
  cursor = some_cells app.begins is.begins;
  unreturned = λ _. all_kept (replicate (cells_in app.begins) (Char 0));
  as_left = λ _. all_as_left (message_place app.begins) (replicate (cells_in app.begins) (Char 0));
  exact = record { known = given.belief.nothing_exact.0; protected = given.belief.nothing_exact.1 };
  unrestored = refl;
  wanted = wanted;
  moment = LinkPhase.Negotiating NegotiationPhase.Offering;
  sizes = record { host = inl refl; screen = inl refl; same = λ steady. refl };
  at = record {
    host_talk = refl;
    term_talk = refl;
    turn = refl;
    pending = refl;
    goes_down = record { vanished = []; whole = refl; none = λ _. refl };
    goes_up = record { vanished = []; whole = refl; none = λ _. refl };
  };
  fact = (record { shadow = refl; turn_reason = refl; lock = refl; aid = refl; no_fields = no_field (replicate (cells_in app.begins) (Char 0)) 0 (cells_in app.begins); home = refl }, lu);
  shown = tt;
}

joined_good : LowerLaws → (app : Application) → IsApplication app → (world : World) (terminal : ℕ) (model : Model) (wanted : Option (List ℕ)) → IsLuIfSome wanted → (number : Option ℕ) → GoodWorld app world → GoodWorld app (joined app terminal model wanted number world)
joined_good given app is world terminal model wanted lu None g = g
joined_good given app is world terminal model wanted lu (Some number) g = record {
  links = all_with (λ n x. ConnectionInvariant app (view_of x)) number (begun app world.serves model terminal wanted) world.link (begun_kept given app is world.serves model terminal wanted lu) g.links;
  sound = g.sound;
  holds = all_with (λ n x. Holds world.pool n x) number (begun app world.serves model terminal wanted) world.link (λ have here claims. absurd (cc)) g.holds;
  uncaused = g.uncaused;
  positive = g.positive;
}

-- ---- beginning anew

term_anew_good : (app : Application) (world : World) (terminal : ℕ) (place : Place) → GoodWorld app world → GoodWorld app (term_anew app terminal place world)
term_anew_good app world terminal (Place.At number) g = parted_good app world terminal number (new_display (world.link number).term.display.model app.begins) g
term_anew_good app world terminal (Place.Alone display) g = same_links app world (with_at terminal (Place.Alone (new_display display.model app.begins)) world.place) g

left_from : (app : Application) (link : Link) → ConnectionInvariant app (view_of link) → ConnectionInvariant app (view_of (host_left_from link)) × (host_left_from link).host_here ≡ false
left_from app link k = by_here link.host_here refl
  where
    by_here : (b : Bool) → link.host_here ≡ b → ConnectionInvariant app (view_of (if b then host_left link else link)) × (Link.host_here (if b then host_left link else link) ≡ false)
    by_here true e = (loses app (view_of link) k, refl)
    by_here false e = (k, e)

host_anew_good : LowerLaws → (app : Application) (world : World) → GoodWorld app world → GoodWorld app (host_anew world)
host_anew_good given app world g = record {
  links = λ number. (left_from app (world.link number) (g.links number)).0;
  sound = given.pool.sound_free world.pool g.sound;
  holds = λ number lu here claims. let gone = (left_from app (world.link number) (g.links number)).1 in absurd (cc);
  uncaused = g.uncaused;
  positive = g.positive;
}

-- ---- any event

-- a message comes up to an end that is held
up_held : (link : Link) (number : ℕ) → (is_link number && comes_up link) ≡ true → link.host_here ≡ true
up_held link number e = (and_parts link.host_here (is_queued link.up) (and_parts (is_link number) (comes_up link) e).1).0

pub done_good : LowerLaws → (app : Application) → IsApplication app → (event : Event) (world : World) → IsEvent event → is_enabled app event world ≡ true → GoodWorld app world → GoodWorld app (done app event world)
done_good given app is (Event.Press terminal key) world e p g = key_went_good given app world terminal key (world.place terminal) g
done_good given app is (Event.Up number) world e p g = came_up_good given app world number (world.link number).up refl (up_held (world.link number) number p) g
done_good given app is (Event.Down number) world e p g = went_down_good given app is world number (world.link number).term_here g
done_good given app is (Event.Act number) world e p g = host_acted_good given app is world number g
done_good given app is (Event.Answer number said) world e p g = host_answered_good given app is world number said g
done_good given app is (Event.Note number text) world e p g = host_noted_good app world number text e g
done_good given app is (Event.Lose number) world e p g = cut_good app world number g
done_good given app is (Event.HostSees number) world e p g = host_left_good given app world number g
done_good given app is (Event.TermSees terminal) world e p g = term_saw_good app world terminal (world.place terminal) g
done_good given app is (Event.Connect terminal wanted) world e p g = joined_good given app is world terminal (display_at world (world.place terminal)).model wanted e (free_number world.link) g
done_good given app is (Event.RestartTerm terminal) world e p g = term_anew_good app world terminal (world.place terminal) g
done_good given app is Event.RestartHost world e p g = host_anew_good given app world g

pub happens_good : LowerLaws → (app : Application) → IsApplication app → (event : Event) (world : World) → IsEvent event → GoodWorld app world → GoodWorld app (stepped_by app event world)
happens_good given app is event world e g = by_place (is_enabled app event world) refl
  where
    by_place : (b : Bool) → is_enabled app event world ≡ b → GoodWorld app (if b then done app event world else world)
    by_place true p = done_good given app is event world e p g
    by_place false p = g

pub run_good : LowerLaws → (app : Application) → IsApplication app → (events : List Event) (world : World) → AreEvents events → GoodWorld app world → GoodWorld app (run app events world)
run_good given app is [] world e g = g
run_good given app is (event ∷ events) world e g = run_good given app is events (stepped_by app event world) e.1 (happens_good given app is event world e.0 g)

-- ---- runs in parts
pub run-append : RunsCompose
run-append app [] more world = refl
run-append app (event ∷ events) more world = run-append app events more (stepped_by app event world)

pub new_good : LowerLaws → (app : Application) → IsApplication app → (serves : Terminals) (pool : List Entry) (models : List Model) → IsPool pool → GoodWorld app (new_world app serves pool models)
new_good given app is serves pool models lists = record {
  links = λ number. unused_kept given app is serves;
  sound = given.pool.sound_free pool (given.pool.sound pool lists);
  holds = λ number lu here claims. absurd (cc);
  uncaused = refl;
  positive = refl;
}

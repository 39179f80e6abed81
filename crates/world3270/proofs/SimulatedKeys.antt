-- Whatever an operator does by the rules, but Clear in the wait: the waiting terminal takes it in his turn, and nothing of it in the wait.
use Rattle.std.proofs.Common.{◌≡◌, ◌<◌, ◌||◌, Bool, true, false, ℕ, List, [], length, refl, ap, sym, subst, ◌∙◌, if◌then◌else◌}
use Rattle.std.specs.Prelude.{is_some, replicate}
use Rattle.codes3270.specs.Size.{ScreenSize}
use Rattle.codes3270.specs.declared.attention.Aid.{Aid}
use Rattle.codes3270.specs.declared.attention.Aid.TheVariants.{NoAid, Enter, Clear, Pf, Pa}
use Rattle.codes3270.specs.declared.attribute.Cell.{Cell}
use Rattle.codes3270.specs.declared.attribute.Cell.TheVariants.{Char}
use Rattle.datastream.proofs.FieldViews.{no_attribute}
use Rattle.shadow.proofs.HeardOthers.{no_field}
use Rattle.world3270.proofs.NotesHeld.{bare_held}
use Rattle.datastream.specs.KeptByKeys.{KeptByKeys}
use Rattle.datastream.specs.InboundFields.{modified_data}
use Rattle.datastream.specs.Screen.{Screen}
use Rattle.datastream.specs.declared.inbound_part.Form.TheVariants.{Modified}
use Rattle.keyboard.specs.State.{Keyboard, freed}
use Rattle.keyboard.specs.declared.key.Lock.{Lock}
use Rattle.keyboard.specs.declared.key.Lock.TheVariants.{Free, Wait, Error}
use Rattle.keyboard.specs.declared.key.Pressed.TheVariants.{Send}
use Rattle.host_core.specs.Application.{Application}
use Rattle.host_core.specs.Messages.{ToHost}
use Rattle.world3270.specs.statement.EveryTerminal.{LinkWithReport, key_pressed, operated}
use Rattle.world3270.specs.refinement.LowerLaws.{LowerLaws}
use Rattle.world3270.specs.model.Link.{Link, sent, term_stepped}
use Rattle.world3270.specs.model.Enabled.{is_queued}
use Rattle.world3270.specs.statement.Rules.{Operates, after_sending, data_by, edited, shows, with_aid}
use Rattle.world3270.specs.model.Terminal.{Display, TermStep, bound_to, data_of, is_bound}
use Rattle.world3270.proofs.Keys.{types_now}
use Rattle.world3270.proofs.Queues.{nothing_sent}
use Rattle.world3270.proofs.RuleKeys.{edited_link, edits_kept, sends_kept, sent_link, with_aid-aid, with_aid-cursor, with_aid-whole}
use Rattle.world3270.proofs.SecondKeys.{IsSecondKey, Says, is_key, key_last, waits_drop}
use Rattle.world3270.proofs.Sent.{key_aid, key_form}
use Rattle.world3270.proofs.Simulation.{Simulated, both_say, is_waiting, since_same}
use Rattle.world3270.proofs.WithoutClear.{operated_none}

-- a key but Clear leaves the cells
pub same_cells : (aid : Aid) (screen : Screen) → is_key aid ≡ true → (with_aid aid screen).cells ≡ screen.cells
same_cells Enter screen key = refl
same_cells (Pf number) screen key = refl
same_cells (Pa number) screen key = refl
same_cells NoAid screen key = absurd (cc)
same_cells Clear screen key = absurd (cc)

pub keys_but_clear : (aid : Aid) → (aid ≡ NoAid → ⊥) → (aid ≡ Clear → ⊥) → is_key aid ≡ true
keys_but_clear Enter some unclear = refl
keys_but_clear (Pf number) some unclear = refl
keys_but_clear (Pa number) some unclear = refl
keys_but_clear NoAid some unclear = absurd (some refl)
keys_but_clear Clear some unclear = absurd (unclear refl)

pub or_again : (one more other : Bool) → ((one || more) || other) ≡ (one || (more || other))
or_again true more other = refl
or_again false more other = refl

module _ (given : LowerLaws) (app : Application) (lu : List ℕ) (t : LinkWithReport) (s : Simulated app lu t) where
  abbrev told : Link
  told = s.told

  abbrev now : Link
  now = t.link

  -- nothing is sent
  silent_up : Says told.host told.up (sent now.lost now.up [])
  silent_up = subst (λ (up : List ToHost). Says told.host told.up up) (sym (nothing_sent now.lost now.up)) s.simulates.up

  -- ---- in the operator's turn

  bound_typing : (told.term.display.keyboard.lock ≡ Wait → ⊥) → is_bound now.term ≡ true
  bound_typing free = ap (λ talk. is_some (bound_to talk.talk.state)) s.simulates.talk ∙ ap (λ state. is_some (bound_to state)) (types_now given app told s.kept free).at.term_talk

  abbrev typed : TermStep → LinkWithReport
  typed step = record { link = term_stepped step now.down now; told = step.end.display; waits = is_queued step.sends; cleared = false }

  edits_typing : (told.term.display.keyboard.lock ≡ Wait → ⊥) → (keyboard : Keyboard) (cells : List Cell) (cursor : ℕ) (erases : Bool) → KeptByKeys erases now.term.display.screen.cells cells → cursor < length cells
      → Simulated app lu (typed (shows keyboard (edited cells cursor erases now.term.display) [] now.term))
  edits_typing free keyboard cells cursor erases held on =
      let same : now.term.display ≡ record told.term.display { keyboard = now.term.display.keyboard } = s.simulates.since.same free in
      let held_told : KeptByKeys erases told.term.display.screen.cells cells = subst (λ (d : Display). KeptByKeys erases d.screen.cells cells) same held in
      let end : Link = edited_link cells cursor erases told in
      let link : Link = (typed (shows keyboard (edited cells cursor erases now.term.display) [] now.term)).link in
      record {
        told = end;
        kept = edits_kept given app told cells cursor erases s.kept free held_told on;
        agreed = s.agreed;
        any = s.any;
        unsure = s.unsure;
        marks = s.marks;
        returning = s.returning;
        display = ap (λ (d : Display). record (edited cells cursor erases d) { keyboard = freed told.term.display.keyboard }) (sym same);
        waits = refl;
        uncleared = refl;
        blank = λ unbound. absurd (let wrong : false ≡ true = sym unbound ∙ bound_typing free in cc);
        host_here = s.host_here;
        term_here = s.term_here;
        simulates = record {
          host = s.simulates.host;
          lost = s.simulates.lost;
          down = s.simulates.down;
          talk = s.simulates.talk;
          up = subst (λ (up : List ToHost). Says told.host up (sent now.lost now.up [])) (sym (nothing_sent told.lost told.up)) silent_up;
          since = since_same given end.term.display link.term.display (ap (λ (d : Display). record (edited cells cursor erases d) { keyboard = keyboard }) same) on;
        };
      }

  -- a key that sends: the same is said
  sends_typing : (told.term.display.keyboard.lock ≡ Wait → ⊥) → (keyboard : Keyboard) (aid : Aid) → (aid ≡ NoAid → ⊥)
      → Simulated app lu (typed (shows keyboard (after_sending aid now.term.display) (data_by aid now.term) now.term))
  sends_typing free keyboard aid some =
      let same : now.term.display ≡ record told.term.display { keyboard = now.term.display.keyboard } = s.simulates.since.same free in
      let end : Link = sent_link aid told in
      let step : TermStep = shows keyboard (after_sending aid now.term.display) (data_by aid now.term) now.term in
      let bound_told : is_bound told.term ≡ true = ap (λ state. is_some (bound_to state)) (types_now given app told s.kept free).at.term_talk in
      let bound_both : is_bound now.term ≡ is_bound told.term = ap (λ talk. is_some (bound_to talk.talk.state)) s.simulates.talk in
      let says_so : data_by aid now.term ≡ data_by aid told.term =
      ap (λ (bound : Bool). data_of bound (Send aid) now.term.display.size (with_aid aid now.term.display.screen)) bound_both
      ∙ ap (λ (d : Display). data_of (is_bound told.term) (Send aid) d.size (with_aid aid d.screen)) same in
      record {
        told = end;
        kept = sends_kept given app told aid s.kept free some;
        agreed = s.agreed;
        any = s.any;
        unsure = s.unsure;
        marks = s.marks;
        returning = s.returning;
        display = ap (λ (d : Display). record (after_sending aid d) { keyboard = record told.term.display.keyboard { lock = Wait } }) (sym same);
        waits = ap (λ (bound : Bool). is_queued (data_of bound (Send aid) now.term.display.size (with_aid aid now.term.display.screen))) (bound_both ∙ bound_told);
        uncleared = refl;
        blank = λ unbound. absurd (let wrong : false ≡ true = sym unbound ∙ bound_typing free in cc);
        host_here = s.host_here;
        term_here = s.term_here;
        simulates = record {
          host = s.simulates.host;
          lost = s.simulates.lost;
          down = s.simulates.down;
          talk = s.simulates.talk;
          up = subst (λ (says : List ToHost). Says told.host (sent told.lost told.up (data_by aid told.term)) (sent now.lost now.up says)) (sym says_so)
              (both_say told now (data_by aid told.term) s.simulates.lost s.simulates.up);
          since = since_same given end.term.display step.end.display (ap (λ (d : Display). record (after_sending aid d) { keyboard = keyboard }) same)
              (subst (λ (size : ℕ). (with_aid aid now.term.display.screen).cursor < size) (sym (with_aid-whole aid now.term.display.screen)) (with_aid-cursor aid now.term.display.screen (length now.term.display.screen.cells) s.simulates.since.cursor));
        };
      }

  -- ---- in the wait

  abbrev untold : TermStep → LinkWithReport
  untold step = record { link = term_stepped step now.down now; told = t.told; waits = true; cleared = false }

  edits_waiting : told.term.display.keyboard.lock ≡ Wait → (keyboard : Keyboard) (cells : List Cell) (cursor : ℕ) (erases : Bool) → KeptByKeys erases now.term.display.screen.cells cells → cursor < length cells
      → Simulated app lu (untold (shows keyboard (edited cells cursor erases now.term.display) [] now.term))
  edits_waiting waits keyboard cells cursor erases held on =
      let since = s.simulates.since in
      record {
        told = told;
        kept = s.kept;
        agreed = s.agreed;
        any = s.any;
        unsure = s.unsure;
        marks = s.marks;
        returning = s.returning;
        display = s.display;
        waits = sym (ap is_waiting waits);
        uncleared = refl;
        blank = s.blank;
        host_here = s.host_here;
        term_here = s.term_here;
        simulates = record {
          host = s.simulates.host;
          lost = s.simulates.lost;
          down = s.simulates.down;
          talk = s.simulates.talk;
          up = silent_up;
          since = record {
            erased = since.erased || erases;
            held = given.keys.composes since.erased erases told.term.display.screen.cells now.term.display.screen.cells cells since.held held;
            rest = ap (λ (d : Display). record (edited cells cursor erases d) { keyboard = keyboard }) since.rest;
            erasing = ap (λ (b : Bool). b || erases) since.erasing ∙ or_again told.term.display.erased since.erased erases;
            same = λ free. absurd (free waits);
            cursor = on;
          };
        };
      }

  abbrev key_data : Aid → ToHost
  key_data aid = ToHost.Data (modified_data Modified now.term.display.size (with_aid aid now.term.display.screen))

  -- a second key, but Clear
  sends_waiting : told.term.display.keyboard.lock ≡ Wait → (keyboard : Keyboard) (aid : Aid) → is_key aid ≡ true
      → Simulated app lu (untold (shows keyboard (after_sending aid now.term.display) (data_by aid now.term) now.term))
  sends_waiting waits keyboard aid key =
      let since = s.simulates.since in
      let shape : ScreenSize = now.term.display.size in
      let screen : Screen = with_aid aid now.term.display.screen in
      record {
        told = told;
        kept = s.kept;
        agreed = s.agreed;
        any = s.any;
        unsure = s.unsure;
        marks = s.marks;
        returning = s.returning;
        display = s.display;
        waits = sym (ap is_waiting waits);
        uncleared = refl;
        blank = s.blank;
        host_here = s.host_here;
        term_here = s.term_here;
        simulates = record {
          host = s.simulates.host;
          lost = s.simulates.lost;
          down = s.simulates.down;
          talk = s.simulates.talk;
          up = by_bound (is_bound now.term) now.lost refl;
          since = record {
            erased = since.erased;
            held = subst (λ (cells : List Cell). KeptByKeys since.erased told.term.display.screen.cells cells) (sym (same_cells aid now.term.display.screen key)) since.held;
            rest = ap (λ (d : Display). record (after_sending aid d) { keyboard = keyboard }) since.rest;
            erasing = since.erasing;
            same = λ free. absurd (free waits);
            cursor = subst (λ (size : ℕ). screen.cursor < size) (sym (with_aid-whole aid now.term.display.screen)) (with_aid-cursor aid now.term.display.screen (length now.term.display.screen.cells) since.cursor);
          };
        };
      }
    where
      second : IsSecondKey (key_data aid)
      second = record {
        parts = modified_data Modified now.term.display.size (with_aid aid now.term.display.screen);
        is = refl;
        form = key_form now.term.display.size (with_aid aid now.term.display.screen);
        key = ap is_key (key_aid now.term.display.size (with_aid aid now.term.display.screen) ∙ with_aid-aid aid now.term.display.screen) ∙ key;
      }

      by_bound : (bound lost : Bool) → now.lost ≡ lost → Says told.host told.up (sent lost now.up (data_of bound (Send aid) now.term.display.size (with_aid aid now.term.display.screen)))
      by_bound false lost is = subst (λ (up : List ToHost). Says told.host told.up up) (sym (nothing_sent lost now.up)) s.simulates.up
      by_bound true true is = s.simulates.up
      by_bound true false is =
          key_last told.host told.up now.up (key_data aid) second
          (waits_drop app told s.kept (sym s.simulates.lost ∙ is) waits) s.simulates.up

  -- Clear, before the terminal is bound: nothing is sent, and the screen has no fields
  pub clears_unbound : told.term.display.keyboard.lock ≡ Wait → is_bound now.term ≡ false → (keyboard : Keyboard) → Simulated app lu (untold (shows keyboard (after_sending Clear now.term.display) (data_by Clear now.term) now.term))
  clears_unbound waits unbound keyboard =
      let since = s.simulates.since in
      let screen : Screen = with_aid Clear now.term.display.screen in
      record {
        told = told;
        kept = s.kept;
        agreed = s.agreed;
        any = s.any;
        unsure = s.unsure;
        marks = s.marks;
        returning = s.returning;
        display = s.display;
        waits = sym (ap is_waiting waits);
        uncleared = refl;
        blank = s.blank;
        host_here = s.host_here;
        term_here = s.term_here;
        simulates = record {
          host = s.simulates.host;
          lost = s.simulates.lost;
          down = s.simulates.down;
          talk = s.simulates.talk;
          up = subst (λ (sends : List ToHost). Says told.host told.up (sent now.lost now.up sends))
              (sym (ap (λ (bound : Bool). data_of bound (Send Clear) now.term.display.size screen) unbound)) silent_up;
          since = record {
            erased = since.erased;
            held = bare_held given.keys.round since.erased told.term.display.screen.cells screen.cells
                (no_attribute told.term.display.screen.cells 0 told.term.display.screen.cells (s.blank unbound))
                (no_attribute screen.cells 0 screen.cells (no_field (replicate (length now.term.display.screen.cells) (Char 0)) 0 (length now.term.display.screen.cells)))
                (with_aid-whole Clear now.term.display.screen ∙ since.held.same_length);
            rest = ap (λ (d : Display). record (after_sending Clear d) { keyboard = keyboard }) since.rest;
            erasing = since.erasing;
            same = λ free. absurd (free waits);
            cursor = subst (λ (size : ℕ). screen.cursor < size) (sym (with_aid-whole Clear now.term.display.screen)) (with_aid-cursor Clear now.term.display.screen (length now.term.display.screen.cells) since.cursor);
          };
        };
      }

  -- ---- both

  abbrev then_it_is : (waits cleared : Bool) → TermStep → LinkWithReport
  then_it_is waits cleared step = record { link = term_stepped step now.down now; told = if waits then t.told else step.end.display; waits = waits || is_queued step.sends; cleared = cleared }

  typing : (told.term.display.keyboard.lock ≡ Wait → ⊥) → (step : TermStep) → Operates now.term step → Simulated app lu (typed step)
  typing free step (Operates.edits keyboard cells cursor erases held on is) = subst (λ (step : TermStep). Simulated app lu (typed step)) (sym is) (edits_typing free keyboard cells cursor erases held on)
  typing free step (Operates.sends keyboard aid some is) = subst (λ (step : TermStep). Simulated app lu (typed step)) (sym is) (sends_typing free keyboard aid some)

  waiting : told.term.display.keyboard.lock ≡ Wait → (step : TermStep) (does : Operates now.term step) → (key_pressed does ≡ Clear → ⊥) → Simulated app lu (untold step)
  waiting waits step (Operates.edits keyboard cells cursor erases held on is) unclear = subst (λ (step : TermStep). Simulated app lu (untold step)) (sym is) (edits_waiting waits keyboard cells cursor erases held on)
  waiting waits step (Operates.sends keyboard aid some is) unclear =
      subst (λ (step : TermStep). Simulated app lu (untold step)) (sym is) (sends_waiting waits keyboard aid (keys_but_clear aid some unclear))

  pub operates_still : (step : TermStep) (does : Operates now.term step) → (t.waits ≡ true → key_pressed does ≡ Clear → ⊥) → Simulated app lu (operated step t)
  operates_still step does unclear = by_lock told.term.display.keyboard.lock refl
    where
      by_waits : (waits : Bool) → t.waits ≡ waits → Simulated app lu (then_it_is waits false step) → Simulated app lu (operated step t)
      by_waits waits is goes =
          subst (λ (c : Bool). Simulated app lu (then_it_is t.waits c step)) (sym (operated_none t step does s.uncleared unclear))
          (subst (λ (b : Bool). Simulated app lu (then_it_is b false step)) (sym is) goes)

      by_lock : (lock : Lock) → told.term.display.keyboard.lock ≡ lock → Simulated app lu (operated step t)
      by_lock Wait is = by_waits true (s.waits ∙ ap is_waiting is) (waiting is step does (unclear (s.waits ∙ ap is_waiting is)))
      by_lock Free is = by_waits false (s.waits ∙ ap is_waiting is) (typing (λ waits. let both = sym is ∙ waits in absurd (cc)) step does)
      by_lock Error is = by_waits false (s.waits ∙ ap is_waiting is) (typing (λ waits. let both = sym is ∙ waits in absurd (cc)) step does)

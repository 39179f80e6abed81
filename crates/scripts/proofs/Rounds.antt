-- A world settles, one connection and one round more at a time.
use Rattle.std.proofs.Common.{◌≡◌, ◌∙◌, ◌<◌, ◌≤◌, ◌+◌, ◌-◌, ◌&&◌, ℕ, Bool, true, false, List, [], ◌∷◌, ◌++◌, None, OnErr, Result, Ok, Err, is_some, refl, sym, ap, subst, suc, arith, append_assoc, append-nil, add-one}
use Rattle.std.proofs.lemmas.List.{map-append}
use Rattle.std.proofs.lemmas.List.Folds.{list_all-append}
use Rattle.host_core.specs.State.{most_connections}
use Rattle.world3270.specs.model.ByteRuns.{refused_at}
use Rattle.world3270.specs.model.ByteSteps.{Steps}
use Rattle.world3270.specs.model.ByteWorld.{ByteWorld}
use Rattle.world3270.specs.declared.event.Event.{Event}
use Rattle.world3270.specs.declared.event.Event.TheVariants as event
use Rattle.world3270.specs.declared.event.Stepped.{Stepped}
use Rattle.scripts.specs.Happenings.{AreRounds, Happening, IsStopped, OthersIf, RunsEvents, TakePlace, all_bytes, all_skipped, events_of, is_skipped, most_rounds, round_below, exchange_events}
use Rattle.scripts.proofs.Happenings.{takes_place, then_take_place}

-- ---- where a run stops

-- at this event
pub stopped_here : (event : Event) (answer : Stepped) (old new : ByteWorld) → Steps event old answer new → is_some (refused_at answer) ≡ true → IsStopped old new
stopped_here event answer old new steps refused = record {
  happenings = [];
  mid = old;
  take_place = refl;
  event = event;
  answer = answer;
  steps = steps;
  refused = refused;
}

-- after some that took place
pub stopped_after : (happenings : List Happening) (old mid new : ByteWorld) → TakePlace happenings old mid → IsStopped mid new → IsStopped old new
stopped_after happenings old mid new before stopped = record {
  happenings = happenings ++ stopped.happenings;
  mid = stopped.mid;
  take_place = then_take_place happenings stopped.happenings old mid stopped.mid before stopped.take_place;
  event = stopped.event;
  answer = stopped.answer;
  steps = stopped.steps;
  refused = stopped.refused;
}

-- after one
pub stopped_after_one : (event : Event) (answer : Stepped) (old mid new : ByteWorld) → Steps event old answer mid → refused_at answer ≡ None → IsStopped mid new
    → IsStopped old new
stopped_after_one event answer old mid new steps whole =
    stopped_after (record { event = event; answer = answer } ∷ []) old mid new (takes_place event answer old mid steps whole)

pub if_stopped : {T E : Type 0} (result : Result T E) (old new : ByteWorld) → IsStopped old new → OnErr result (IsStopped old new)
if_stopped (Ok value) old new stopped = tt
if_stopped (Err error) old new stopped = stopped

-- ---- a round

all_three : (a b c : Bool) → ((a && b) && c) ≡ (a && (b && (c && true)))
all_three false b c = refl
all_three true false c = refl
all_three true true false = refl
all_three true true true = refl

pub exchanged : (number : ℕ) (old first second new : ByteWorld) (up act down : Stepped) (first_quiet second_quiet third_quiet : Bool)
    → Steps (event.Up number all_bytes) old up first → refused_at up ≡ None → Steps (event.Act number) first act second → refused_at act ≡ None
    → Steps (event.Down number all_bytes) second down new → refused_at down ≡ None
    → first_quiet ≡ is_skipped up → second_quiet ≡ is_skipped act → third_quiet ≡ is_skipped down
    → RunsEvents (exchange_events number) old ((first_quiet && second_quiet) && third_quiet) new
exchanged number old first second new up act down first_quiet second_quiet third_quiet comes_up up_whole acts act_whole comes_down down_whole one two three = record {
  happenings = record { event = event.Up number all_bytes; answer = up } ∷ record { event = event.Act number; answer = act }
      ∷ record { event = event.Down number all_bytes; answer = down } ∷ [];
  are = refl;
  take_place = (first, comes_up, up_whole, (second, acts, act_whole, (new, comes_down, down_whole, refl)));
  quiet_is = rw (one, two, three) (all_three (is_skipped up) (is_skipped act) (is_skipped down));
}

pub no_exchange : (old : ByteWorld) → RunsEvents (round_below 0) old true old
unfolding round_below
no_exchange old = record { happenings = []; are = refl; take_place = refl; quiet_is = refl }

round_suc : (number : ℕ) → round_below (suc number) ≡ round_below number ++ exchange_events number
unfolding round_below
round_suc number = refl

round_more : (number : ℕ) → round_below (number + 1) ≡ round_below number ++ exchange_events number
round_more number = ap round_below (add-one number) ∙ round_suc number

pub exchanged_more : (number : ℕ) (old mid new : ByteWorld) (quiet still all : Bool) → RunsEvents (round_below number) old quiet mid
    → RunsEvents (exchange_events number) mid still new → all ≡ (quiet && still) → RunsEvents (round_below (number + 1)) old all new
exchanged_more number old mid new quiet still all before now is = record {
  happenings = before.happenings ++ now.happenings;
  are = map-append (λ (happening : Happening). happening.event) before.happenings now.happenings
      ∙ ap (λ (front : List Event). front ++ events_of now.happenings) before.are ∙ ap (λ (back : List Event). round_below number ++ back) now.are
      ∙ sym (round_more number);
  take_place = then_take_place before.happenings now.happenings old mid new before.take_place now.take_place;
  quiet_is = is ∙ ap (λ (b : Bool). b && still) before.quiet_is ∙ ap (λ (b : Bool). all_skipped before.happenings && b) now.quiet_is
      ∙ sym (list_all-append (λ (happening : Happening). is_skipped happening.answer) before.happenings now.happenings);
}

-- ---- rounds

-- So many rounds were made, and more may come.
pub record RoundsMade (made : ℕ) (old now : ByteWorld) : Type 0 where
  pub happenings : List Happening
  pub take_place : TakePlace happenings old now
  pub with_others : (left : ℕ) (others : List Happening) → made + left ≡ most_rounds → AreRounds left others → AreRounds most_rounds (happenings ++ others)

-- the rounds are over
abbrev pub RoundsEnd : ByteWorld → ByteWorld → Type 0
RoundsEnd old new = (happenings : List Happening) × AreRounds most_rounds happenings × TakePlace happenings old new

pub no_rounds : (old : ByteWorld) → RoundsMade 0 old old
no_rounds old = record {
  happenings = [];
  take_place = refl;
  with_others = λ left others is more. let all : left ≡ most_rounds = omega (arith, is) in subst (λ (n : ℕ). AreRounds n others) all more;
}

one_round : (left : ℕ) (round others : List Happening) → events_of round ≡ round_below most_connections
    → OthersIf (all_skipped round) others (AreRounds left others) → AreRounds (suc left) (round ++ others)
unfolding AreRounds
one_round left round others are then = (round, others, refl, are, then)

no_round : AreRounds 0 []
unfolding AreRounds
no_round = refl

module _ (made : ℕ) (old mid new : ByteWorld) (quiet : Bool) (before : RoundsMade made old mid) (now : RunsEvents (round_below most_connections) mid quiet new) where
  all_take_place : TakePlace (before.happenings ++ now.happenings) old new
  all_take_place = then_take_place before.happenings now.happenings old mid new before.take_place now.take_place

  -- another round may come
  pub round_made : quiet ≡ false → RoundsMade (made + 1) old new
  round_made loud = record {
    happenings = before.happenings ++ now.happenings;
    take_place = all_take_place;
    with_others = λ left others is more.
        let on : OthersIf (all_skipped now.happenings) others (AreRounds left others) =
        subst (λ (b : Bool). OthersIf b others (AreRounds left others)) (sym loud ∙ now.quiet_is) more in
        subst (AreRounds most_rounds) (sym (append_assoc before.happenings now.happenings others))
        (before.with_others (suc left) (now.happenings ++ others) (omega (arith, is)) (one_round left now.happenings others now.are on));
  }

  -- all of it was skipped
  pub rounds_end : made < most_rounds → quiet ≡ true → RoundsEnd old new
  rounds_end few still =
      let left : ℕ = most_rounds - made - 1 in
      let over : OthersIf (all_skipped now.happenings) [] (AreRounds left []) =
      subst (λ (b : Bool). OthersIf b [] (AreRounds left [])) (sym still ∙ now.quiet_is) refl in
      let all : AreRounds most_rounds (before.happenings ++ (now.happenings ++ [])) =
      before.with_others (suc left) (now.happenings ++ []) (omega (arith, few)) (one_round left now.happenings [] now.are over) in (
        before.happenings ++ now.happenings,
        subst (λ (round : List Happening). AreRounds most_rounds (before.happenings ++ round)) (append-nil now.happenings) all,
        all_take_place,
      )

-- all rounds were made
pub rounds_made : (made : ℕ) (old new : ByteWorld) → made ≤ most_rounds → most_rounds ≤ made → RoundsMade made old new → RoundsEnd old new
rounds_made made old new few all before = (
  before.happenings,
  subst (AreRounds most_rounds) (append-nil before.happenings) (before.with_others 0 [] (omega (arith, few, all)) no_round),
  before.take_place,
)

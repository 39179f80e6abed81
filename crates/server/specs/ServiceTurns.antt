-- The turns of a service (our profile): the parts of a turn in their order, and one turn after another.
use Rattle.std.specs.Prelude.{◌≡◌, ◌||◌, ◌<◌, ℕ, zero, suc, Bool, true, false, Result, Ok, Err}
use Rattle.jobs.specs.declared.fault.Fault.{Fault}
use Rattle.jobs.specs.declared.fault.Fault.TheVariants as fault

module _ {S : Type 0} (served timed : S → Bool → Result Bool Fault → S → Type 0)
    (consulted obeyed : S → Result Bool Fault → S → Type 0)
    (told : S → Bool → S → Type 0) where
  -- Holds for a whole turn: connections are served, limits applied, the application consulted, commands obeyed, and the
  -- watcher called.
  pub record TakesWhole (old : S) (busy : Bool) (did : Bool) (new : S) : Type 0 where
    pub after_serving : S
    pub after_time : S
    pub after_consulting : S
    pub after_obeying : S
    pub moved : Bool
    pub limited : Bool
    pub decided : Bool
    pub commanded : Bool
    pub seen : Bool
    pub serves : served old busy (Ok moved) after_serving
    pub keeps_time : timed after_serving moved (Ok limited) after_time
    pub consults : consulted after_time (Ok decided) after_consulting
    pub obeys : obeyed after_consulting (Ok commanded) after_obeying
    pub tells : told after_obeying seen new
    pub did_is : did ≡ ((((moved || limited) || decided) || commanded) || seen)

  -- Holds for a turn that ends by a fault in one of its parts. No later part is done.
  pub data BreaksOff (old : S) (busy : Bool) (why : Fault) (new : S) : Type 0 where
    serving : served old busy (Err why) new → BreaksOff old busy why new
    keeping_time : (moved : Bool) (mid : S) → served old busy (Ok moved) mid → timed mid moved (Err why) new
        → BreaksOff old busy why new
    consulting : (moved limited : Bool) (mid late : S) → served old busy (Ok moved) mid
        → timed mid moved (Ok limited) late → consulted late (Err why) new
        → BreaksOff old busy why new
    obeying : (moved limited decided : Bool) (mid late last : S) → served old busy (Ok moved) mid
        → timed mid moved (Ok limited) late → consulted late (Ok decided) last → obeyed last (Err why) new
        → BreaksOff old busy why new

  module _ (is_over : S → Bool) where
    -- Holds for `count` whole turns. A turn waits unless the turn before did something; the first one waits. No turn
    -- begins once operators ended the service.
    abbrev pub TakesTurns : (count : ℕ) → S → (busy : Bool) → S → Type 0
    TakesTurns zero old busy new = (busy ≡ false) × (new ≡ old)
    TakesTurns (suc count) old busy new = (before : Bool) × (mid : S) × TakesTurns count old before mid
        × (is_over mid ≡ false)
        × TakesWhole mid before busy new

    -- Holds if at most this number of turns is taken, until a turn fails, operators ended the service, which is then
    -- finished, or all turns are taken.
    pub data EndsBy (finished : S → Result Unit Fault → S → Type 0) (turns : ℕ) (old : S) (answer : Result Unit Fault)
        (new : S) : Type 0 where
      broke_off : (count : ℕ) (busy : Bool) (mid : S) (why : Fault) → count < turns → TakesTurns count old busy mid
          → is_over mid ≡ false → BreaksOff mid busy why new → answer ≡ Err why
          → EndsBy finished turns old answer new
      ended : (count : ℕ) (busy : Bool) (mid : S) → count < turns → TakesTurns count old busy mid → is_over mid ≡ true
          → finished mid answer new
          → EndsBy finished turns old answer new
      turns_over : (busy : Bool) → TakesTurns turns old busy new → answer ≡ Err fault.TurnsOver
          → EndsBy finished turns old answer new

-- An event happens where it has a place, and is skipped elsewhere.
use Rattle.std.proofs.Common.{◌≡◌, ◌<◌, ◌&&◌, ◌||◌, ◌+◌, ◌-◌, ℕ, suc, Bool, true, false, Option, Some, None, is_some, refl, ap, sym, subst, ◌∙◌, arith, if◌then◌else◌}
use Rattle.std.proofs.lemmas.Bool.{lt-ltb}
use Rattle.std.proofs.lemmas.List.{set-get_or}
use Rattle.host_core.specs.Acts.{Sent}
use Rattle.host_core.specs.Application.{Application}
use Rattle.host_core.specs.Does.{Does as HostDoes, DoesAnswer}
use Rattle.host_core.specs.KeepAlive.{kept_alive, kept_alive_answer, may_keep_alive, with_nop}
use Rattle.host_core.specs.State.{Host, Connection, Service, unused, connection_at, with_connection, most_connections, phase_of, state_at}
use Rattle.host_core.specs.declared.phase.Phase.TheVariants as phase
use Rattle.host_core.specs.declared.acted.Acted.{Acted}
use Rattle.host_core.specs.declared.question.Answer.{Answer as ApplicationAnswer}
use Rattle.host_core.specs.declared.acted.Acted.TheVariants as acted
use Rattle.world3270.specs.model.ByteWorld.{ByteWorld, host_there, is_there, terminal_there, with_host}
use Rattle.world3270.specs.model.ByteSteps.{OnConnection, Steps, IsStep, IsStepIf, is_enabled, answer_acted, is_link, is_held, free_from, host_gone_below, host_gone_if_there}
use Rattle.world3270.specs.declared.event.Event.{Event}
use Rattle.world3270.specs.declared.event.Event.TheVariants as event
use Rattle.world3270.specs.declared.event.Stepped.{Stepped}
use Rattle.world3270.specs.declared.event.Stepped.TheVariants as stepped

pub it_happens : (event : Event) (old : ByteWorld) (answer : Stepped) (new : ByteWorld) → is_enabled event old ≡ true
    → IsStep event old answer new → Steps event old answer new
it_happens event old answer new is stepped_by = subst (λ (b : Bool). IsStepIf b event old answer new) (sym is) stepped_by

pub it_is_skipped : (event : Event) (old : ByteWorld) (answer : Stepped) (new : ByteWorld) → is_enabled event old ≡ false → answer ≡ stepped.Skipped → new ≡ old
    → Steps event old answer new
it_is_skipped event old answer new is skips same = subst (λ (b : Bool). IsStepIf b event old answer new) (sym is) (skips, same)

-- ---- the host acts

both : (linked place : Bool) → linked ≡ true → place ≡ true → (linked && place) ≡ true
both linked place one two = ap (λ (b : Bool). b && place) one ∙ two

neither : (linked : Bool) → (linked && false) ≡ false
neither true = refl
neither false = refl

same_host : (number : ℕ) (old host : Host) → connection_at number host ≡ connection_at number old → host ≡ with_connection number (connection_at number host) old → host ≡ old
same_host number old host connection others =
    others ∙ ap (λ (l : Connection). with_connection number l old) connection ∙ ap (λ ls. record old { connections = ls }) (set-get_or old.connections number unused)

pub host_acted : (event : Event) (does : Option Sent) (number : ℕ) (old : ByteWorld) (act : Acted) (answer : Stepped) (host : Host)
    → number < most_connections → HostDoes does (connection_at number old.host) act (connection_at number host) → host ≡ with_connection number (connection_at number host) old.host
    → answer ≡ answer_acted act → is_enabled event old ≡ (is_link number && is_some does)
    → (OnConnection (HostDoes does) number old answer (with_host host old) → IsStep event old answer (with_host host old))
    → Steps event old answer (with_host host old)
host_acted event None number old act answer host below acts others answers place stepped_by =
    it_is_skipped event old answer (with_host host old) (place ∙ neither (is_link number)) (answers ∙ ap answer_acted acts.0)
    (ap (λ (h : Host). with_host h old) (same_host number old.host host acts.1 others))
host_acted event (Some sent) number old act answer host below acts others answers place stepped_by =
    it_happens event old answer (with_host host old) (place ∙ both (is_link number) true (lt-ltb number most_connections below) refl)
    (stepped_by (record { act = act; host = host; acts = acts; others = others; answers = answers; leaves = refl }))

pub host_answered : (event : Event) (app : Application) (said : ApplicationAnswer) (does : Option Sent) (number : ℕ) (old : ByteWorld) (act : Acted) (answer : Stepped) (host : Host)
    → number < most_connections → DoesAnswer app said does (connection_at number old.host) act (connection_at number host) → host ≡ with_connection number (connection_at number host) old.host
    → answer ≡ answer_acted act → is_enabled event old ≡ (is_link number && is_some does)
    → (OnConnection (DoesAnswer app said does) number old answer (with_host host old) → IsStep event old answer (with_host host old))
    → Steps event old answer (with_host host old)
host_answered event app said None number old act answer host below acts others answers place stepped_by =
    it_is_skipped event old answer (with_host host old) (place ∙ neither (is_link number)) (answers ∙ ap answer_acted acts.0)
    (ap (λ (h : Host). with_host h old) (same_host number old.host host acts.1 others))
host_answered event app said (Some sent) number old act answer host below acts others answers place stepped_by =
    it_happens event old answer (with_host host old) (place ∙ both (is_link number) true (lt-ltb number most_connections below) refl)
    (stepped_by (record { act = act; host = host; acts = acts; others = others; answers = answers; leaves = refl }))

-- the host sends NOP, or nothing
pub host_kept_alive : (number : ℕ) (old : ByteWorld) (act : Acted) (answer : Stepped) (host : Host) → number < most_connections
    → act ≡ kept_alive_answer (connection_at number old.host) → host ≡ with_connection number (kept_alive (connection_at number old.host)) old.host
    → answer ≡ answer_acted act → Steps (event.KeepAlive number) old answer (with_host host old)
host_kept_alive number old act answer host below is host_is answers = by_may (may_keep_alive (connection_at number old.host)) refl
  where
    by_may : (may : Bool) → may_keep_alive (connection_at number old.host) ≡ may → Steps (event.KeepAlive number) old answer (with_host host old)
    by_may true e =
        it_happens (event.KeepAlive number) old answer (with_host host old)
        (both (is_link number) (may_keep_alive (connection_at number old.host)) (lt-ltb number most_connections below) e)
        (answers ∙ ap answer_acted (is ∙ ap (λ (b : Bool). if b then acted.Sent else acted.Nothing) e), ap (λ (h : Host). with_host h old) host_is)
    by_may false e =
        it_is_skipped (event.KeepAlive number) old answer (with_host host old) (ap (λ (b : Bool). is_link number && b) e ∙ neither (is_link number))
        (answers ∙ ap answer_acted (is ∙ ap (λ (b : Bool). if b then acted.Sent else acted.Nothing) e))
        (ap (λ (h : Host). with_host h old)
        (host_is
        ∙ ap (λ (b : Bool). with_connection number (if b then with_nop (connection_at number old.host) else connection_at number old.host) old.host) e
        ∙ ap (λ ls. record old.host { connections = ls }) (set-get_or old.host.connections number unused)))

-- ---- the least number that is free

pub free_on : (most index : ℕ) (world : ByteWorld) → index < most → is_held index world ≡ true
    → free_from (most - index) index world ≡ free_from (most - (index + 1)) (index + 1) world
unfolding free_from
free_on most index world below held =
    let next : most - index ≡ suc (most - (index + 1)) = omega arith in
    ap (λ (n : ℕ). free_from n index world) next
    ∙ ap (λ (b : Bool). if b then free_from (most - (index + 1)) (index + 1) world else Some index) held

pub free_here : (most index : ℕ) (world : ByteWorld) → index < most → is_held index world ≡ false → free_from (most - index) index world ≡ Some index
unfolding free_from
free_here most index world below free =
    let next : most - index ≡ suc (most - (index + 1)) = omega arith in
    ap (λ (n : ℕ). free_from n index world) next
    ∙ ap (λ (b : Bool). if b then free_from (most - (index + 1)) (index + 1) world else Some index) free

pub none_from : (number : ℕ) (world : ByteWorld) → free_from 0 number world ≡ None
unfolding free_from
none_from number world = refl

-- ---- a number that nobody holds

not_either : (one other : Bool) → (one || other) ≡ false → one ≡ false
not_either true other e = absurd (cc)
not_either false other e = refl

free_there : (service : Service) → is_there service ≡ false → phase_of service ≡ phase.Free
free_there Service.Free e = refl
free_there (Service.Open rest conn) e = absurd (cc)
free_there (Service.Closed cause) e = absurd (cc)

pub is_free_there : (number : ℕ) (world : ByteWorld) → is_held number world ≡ false → phase_of (state_at number world.host) ≡ phase.Free
is_free_there number world e =
    free_there (state_at number world.host) (not_either (host_there number world) (terminal_there number world) e)

-- ---- the host leaves all

pub gone_none : (world : ByteWorld) → world ≡ host_gone_below 0 world
unfolding host_gone_below
gone_none world = refl

next_gone : (index : ℕ) (world : ByteWorld) → host_gone_if_there index (host_gone_below index world) ≡ host_gone_below (suc index) world
unfolding host_gone_below
next_gone index world = refl

pub one_more_gone : (index : ℕ) (world now next : ByteWorld) → now ≡ host_gone_below index world → next ≡ host_gone_if_there index now
    → next ≡ host_gone_below (index + 1) world
one_more_gone index world now next so_far is =
    let count : suc index ≡ index + 1 = omega arith in
    is ∙ ap (λ (w : ByteWorld). host_gone_if_there index w) so_far ∙ next_gone index world ∙ ap (λ (n : ℕ). host_gone_below n world) count

-- A frame that closes nothing, and what holds of a result.
use Rattle.std.proofs.Common.{◌≡◌, ℕ, Bool, false, ap, refl, IfErr, IfOk, Result, Ok, Err}
use Rattle.web.specs.declared.page_turn.PageTurn.TheVariants as turned
use Rattle.web_wire.specs.Steps.{is_closed}
use Rattle.web_wire.specs.declared.received.Closing.{Closing}
use Rattle.web_wire.specs.declared.received.Received.{Received}
use Rattle.web_wire.specs.declared.received.Received.TheVariants.{Waiting, Handled, Opened, Keys, Pong, Closed}

pub not_closed : (frame : Received) → ((closing : Closing) → frame ≡ Closed closing → ⊥) → is_closed frame ≡ false
not_closed Waiting never = refl
not_closed Handled never = refl
not_closed (Opened opening) never = refl
not_closed Keys never = refl
not_closed Pong never = refl
not_closed (Closed closing) never = absurd (never closing refl)

-- a turn with as many bytes of keys
pub same_count : {heard moved : Bool} {typed count : ℕ} → typed ≡ count → turned.Going heard moved typed ≡ turned.Going heard moved count
same_count {heard} {moved} same = ap (λ bytes. turned.Going heard moved bytes) same

-- what holds of a value follows from what else holds of it
pub when_ok : {A E : Type 0} {P Q : A → Type 0} (result : Result A E) → ((value : A) → P value → Q value) → IfOk result P → IfOk result Q
when_ok (Ok value) leads holds = leads value holds
when_ok (Err error) leads holds = tt

-- and so of an error
pub when_err : {A E : Type 0} {P Q : E → Type 0} (result : Result A E) → ((error : E) → P error → Q error) → IfErr result P → IfErr result Q
when_err (Ok value) leads holds = tt
when_err (Err error) leads holds = leads error holds

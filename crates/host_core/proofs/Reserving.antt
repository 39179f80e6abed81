-- An LU that a pool refuses is held, if the pool has it; and what is reserved is no connection's.
use Rattle.std.proofs.Common.{◌≡◌, ◌≢◌, ◌<◌, ◌∙◌, ℕ, zero, suc, Bool, true, false, List, [], ◌∷◌, Option, Some, None, Result, Ok, Err, ◌⊎◌, inl, inr, find, if◌then◌else◌, refl, sym, ap, subst, arith}
use Rattle.std.specs.Prelude.{◌↔◌, IfOk, OnErr, slice_get}
use Rattle.std.specs.Str.{bytes_eq}
use Rattle.shadow.proofs.Pairs.{bytes_eq-refl, bytes_eq_true}
use Rattle.lu_pool.specs.Asking.{answer_to, answer_to_lu, granted, named}
use Rattle.lu_pool.specs.Holders.{granted_if, granted_to}
use Rattle.lu_pool.specs.Pool.{Holds, entry}
use Rattle.lu_pool.specs.declared.entry.Entry.{Entry}
use Rattle.tn3270e_msg.specs.declared.reply.Reason.{Reason}
use Rattle.tn3270e_msg.specs.Lu.{lu_of}
use Rattle.host_core.specs.Reserving.{HasLu, IsTaken, reserver}
use Rattle.host_core.specs.Sound.{IsSound, OthersHold}
use Rattle.host_core.specs.State.{Host, most_connections}
use Rattle.host_core.specs.Takes.{granted_by}

-- ---- what is refused

held_by_first : (first : Entry) (rest : List Entry) (lu : List ℕ) (reason : Reason) (holder : Option ℕ) → first.holder ≡ holder → first.lu ≡ lu
    → granted first ≡ Err reason → IsTaken (first ∷ rest) lu
held_by_first first rest lu reason None held same refused = absurd (let free : granted (entry first.lu None) ≡ Err reason = subst (λ (h : Option ℕ). granted (entry first.lu h) ≡ Err reason) held refused in cc)
held_by_first first rest lu reason (Some holder) held same refused =
    (holder, (zero, (rw (← held, ← same) refl)))

abbrev Named : List Entry → List ℕ → Result (List ℕ) Reason → Type 0
Named pool lu answer = named (find (λ at. bytes_eq at.lu lu) pool) ≡ answer

-- the first entry has the LU, or the rest is asked
here : (first : Entry) (rest : List Entry) (lu : List ℕ) (answer : Result (List ℕ) Reason) → bytes_eq first.lu lu ≡ true → Named (first ∷ rest) lu answer → granted first ≡ answer
here first rest lu answer is gives = subst (λ (b : Bool). named (if b then Some first else find (λ at. bytes_eq at.lu lu) rest) ≡ answer) is gives

there : (first : Entry) (rest : List Entry) (lu : List ℕ) (answer : Result (List ℕ) Reason) → bytes_eq first.lu lu ≡ false → Named (first ∷ rest) lu answer → Named rest lu answer
there first rest lu answer other gives = subst (λ (b : Bool). named (if b then Some first else find (λ at. bytes_eq at.lu lu) rest) ≡ answer) other gives

further : (first : Entry) (rest : List Entry) (lu : List ℕ) → bytes_eq first.lu lu ≡ false → (place : ℕ) (holder : Option ℕ) → slice_get (first ∷ rest) place ≡ Some (entry lu holder) → HasLu rest lu
further first rest lu other zero holder at =
    let same : first ≡ entry lu holder = cc in
    absurd (let is : bytes_eq first.lu lu ≡ true = ap (λ (e : Entry). bytes_eq e.lu lu) same ∙ bytes_eq-refl lu in cc)
further first rest lu other (suc place) holder at = (place, holder, at)

taken_later : (first : Entry) (rest : List Entry) (lu : List ℕ) → IsTaken rest lu → IsTaken (first ∷ rest) lu
taken_later first rest lu later = (later.0, (suc later.1.0, later.1.1))

refused_is_taken : (pool : List Entry) (lu : List ℕ) (reason : Reason) → Named pool lu (Err reason) → HasLu pool lu → IsTaken pool lu
refused_is_taken [] lu reason refused has = absurd (let at = has.2 in cc)
refused_is_taken (first ∷ rest) lu reason refused has = by_name first rest lu reason refused has (λ more. refused_is_taken rest lu reason more) (bytes_eq first.lu lu) refl
  where
    by_name : (first : Entry) (rest : List Entry) (lu : List ℕ) (reason : Reason) → Named (first ∷ rest) lu (Err reason) → HasLu (first ∷ rest) lu
        → (Named rest lu (Err reason) → HasLu rest lu → IsTaken rest lu) → (b : Bool) → bytes_eq first.lu lu ≡ b → IsTaken (first ∷ rest) lu
    by_name first rest lu reason refused has later true is =
        held_by_first first rest lu reason first.holder refl (bytes_eq_true first.lu lu is) (here first rest lu (Err reason) is refused)
    by_name first rest lu reason refused has later false other =
        taken_later first rest lu (later (there first rest lu (Err reason) other refused) (further first rest lu other has.0 has.1 has.2))

granted_first : (first : Entry) (lu other : List ℕ) (holder : Option ℕ) → first.holder ≡ holder → first.lu ≡ lu → granted first ≡ Ok other → other ≡ lu
granted_first first lu other None free is gives =
    let given : Ok first.lu ≡ Ok other = subst (λ (h : Option ℕ). granted (entry first.lu h) ≡ Ok other) free gives in
    let same : first.lu ≡ other = cc in
    sym same ∙ is
granted_first first lu other (Some holder) held is gives =
    absurd (let refused : granted (entry first.lu (Some holder)) ≡ Ok other = subst (λ (h : Option ℕ). granted (entry first.lu h) ≡ Ok other) held gives in cc)

granted_is_it : (pool : List Entry) (lu other : List ℕ) → Named pool lu (Ok other) → other ≡ lu
granted_is_it [] lu other grants = absurd (cc)
granted_is_it (first ∷ rest) lu other grants = by_name first rest lu other grants (λ more. granted_is_it rest lu other more) (bytes_eq first.lu lu) refl
  where
    by_name : (first : Entry) (rest : List Entry) (lu other : List ℕ) → Named (first ∷ rest) lu (Ok other) → (Named rest lu (Ok other) → other ≡ lu)
        → (b : Bool) → bytes_eq first.lu lu ≡ b → other ≡ lu
    by_name first rest lu other grants later true is =
        granted_first first lu other first.holder refl (bytes_eq_true first.lu lu is) (here first rest lu (Ok other) is grants)
    by_name first rest lu other grants later false not_it = later (there first rest lu (Ok other) not_it grants)

-- ---- asking a pool for an LU under a number of no connection

by_lu : (pool : List Entry) (lu : List ℕ) (answer : Result (List ℕ) Reason) → lu_of lu ≡ Some lu → answer ≡ answer_to pool (Some lu)
    → Named pool lu answer
by_lu pool lu answer reads is = sym (is ∙ ap (answer_to_lu pool) reads)

pub asked_pool : (holder : ℕ) (pool new : List Entry) (answer answer_is : Result (List ℕ) Reason) → answer ≡ answer_is → IfOk answer (λ lu. new ≡ granted_to holder lu pool)
    → OnErr answer (new ≡ pool) → new ≡ granted_if holder (granted_by answer_is) pool
asked_pool holder pool new (Ok lu) answer_is is grants refused = grants ∙ ap (λ a. granted_if holder (granted_by a) pool) is
asked_pool holder pool new (Err reason) answer_is is grants refused = refused ∙ ap (λ a. granted_if holder (granted_by a) pool) is

-- who holds what then
abbrev Granted : List Entry → ℕ → Result (List ℕ) Reason → List Entry → Type 0
Granted old conn answer new = (other : ℕ) (what : List ℕ) → Holds new other what ↔ (Holds old other what ⊎ ((other ≡ conn) × (answer ≡ Ok what)))

pub asked_taken : (holder : ℕ) (pool new : List Entry) (lu : List ℕ) (answer : Result (List ℕ) Reason) → lu_of lu ≡ Some lu → answer ≡ answer_to pool (Some lu)
    → OnErr answer (new ≡ pool) → Granted pool holder answer new → HasLu new lu → IsTaken new lu
asked_taken holder pool new lu (Ok given) reads is refused held has =
    (holder, (held holder lu).1 (inr (refl, ap Ok (granted_is_it pool lu given (by_lu pool lu (Ok given) reads is)))))
asked_taken holder pool new lu (Err reason) reads is refused held has =
    subst (λ (p : List Entry). IsTaken p lu) (sym refused)
    (refused_is_taken pool lu reason (by_lu pool lu (Err reason) reads is) (subst (λ (p : List Entry). HasLu p lu) refused has))

pub asked_holders : (holder : ℕ) (pool new : List Entry) (lu : List ℕ) (answer : Result (List ℕ) Reason) → lu_of lu ≡ Some lu → answer ≡ answer_to pool (Some lu)
    → Granted pool holder answer new → (other : ℕ) (what : List ℕ) → Holds new other what → Holds pool other what ⊎ ((other ≡ holder) × (what ≡ lu))
asked_holders holder pool new lu answer reads is held other what holds = elim ((held other what).0 holds) [
  | inl before ↦ inl before
  | inr now ↦ inr (now.0, granted_is_it pool lu what (by_lu pool lu answer reads is ∙ now.1))
]

pub asked_others : (holder : ℕ) (pool new : List Entry) (answer : Result (List ℕ) Reason) → Granted pool holder answer new → OthersHold holder pool new
asked_others holder pool new answer held other lu ne = (
  λ h. elim ((held other lu).0 h) [ inl before ↦ before | inr now ↦ absurd (ne now.0) ],
  λ h. (held other lu).1 (inl h),
)

pub others_on : (holder : ℕ) (old mid new : List Entry) → OthersHold holder old mid → OthersHold holder mid new → OthersHold holder old new
others_on holder old mid new one other it lu ne = (λ h. (one it lu ne).0 ((other it lu ne).0 h), λ h. (other it lu ne).1 ((one it lu ne).1 h))

-- ---- hosts

reserver_is_none : (number holder : ℕ) → number < most_connections → number ≢ reserver holder
reserver_is_none number holder below e = absurd (omega (arith, below, e))

-- what no connection holds may change
pub reserving_sound : (number : ℕ) (pool : List Entry) (host : Host) → IsSound host → OthersHold (reserver number) host.pool pool → IsSound (record host { pool = pool })
reserving_sound number pool host sound others = record {
  connections = sound.connections;
  sessions = sound.sessions;
  held = λ other below lu. (
    λ h. (sound.held other below lu).0 ((others other lu (reserver_is_none other number below)).0 h),
    λ e. (others other lu (reserver_is_none other number below)).1 ((sound.held other below lu).1 e),
  );
  shown = sound.shown;
  marked = sound.marked;
}

pub counting_sound : (next : ℕ) (host : Host) → IsSound host → IsSound (record host { sessions = record { latest = host.sessions.latest; next = next } })
counting_sound next host sound = record { connections = sound.connections; sessions = sound.sessions; held = sound.held; shown = sound.shown; marked = sound.marked }

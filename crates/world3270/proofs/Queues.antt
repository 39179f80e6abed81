-- What messages are under way; and what is said behind others is not nothing.
use Rattle.std.proofs.Common.{◌≡◌, Bool, true, false, List, [], ◌∷◌, ◌++◌, refl, ap, sym, ◌∙◌, append_assoc, append-nil}
use Rattle.world3270.specs.model.Link.{sent}
use Rattle.world3270.specs.refinement.Phases.{IsInFlight}

-- what is sent is under way behind the rest
pub more : {X : Type 0} (lost : Bool) (queue messages new : List X) → IsInFlight lost queue messages → IsInFlight lost (sent lost queue new) (messages ++ new)
more true queue messages new h = record { vanished = h.vanished ++ new; whole = sym (append_assoc queue h.vanished new) ∙ ap (λ q. q ++ new) h.whole; none = λ e. absurd (cc) }
more false queue messages new h =
    let all : queue ≡ messages = sym (append-nil queue) ∙ ap (λ v. queue ++ v) (sym (h.none refl)) ∙ h.whole in
    record { vanished = []; whole = append-nil _ ∙ ap (λ q. q ++ new) all; none = λ _. refl }

-- where nothing is sent, nothing changes
pub nothing_sent : {X : Type 0} (lost : Bool) (queue : List X) → sent lost queue [] ≡ queue
nothing_sent true queue = refl
nothing_sent false queue = append-nil queue

-- on a lost connection it is still under way
pub still : {X : Type 0} (lost : Bool) (queue messages : List X) → IsInFlight lost queue messages → IsInFlight true queue messages
still lost queue messages h = record { vanished = h.vanished; whole = h.whole; none = λ e. absurd (cc) }

-- what is taken is the first message under way
pub front : {X : Type 0} (lost : Bool) (queue : List X) (x : X) (rest : List X) (m : X) (messages : List X) → queue ≡ x ∷ rest → IsInFlight lost queue (m ∷ messages)
    → (x ≡ m) × IsInFlight lost rest messages
front lost queue x rest m messages e h =
    let whole : x ∷ (rest ++ h.vanished) ≡ m ∷ messages = ap (λ q. q ++ h.vanished) (sym e) ∙ h.whole in
    (cc, record { vanished = h.vanished; whole = cc; none = h.none })

-- where nothing is under way, nothing is taken
pub nothing : {X : Type 0} (lost : Bool) (queue : List X) (x : X) (rest : List X) → queue ≡ x ∷ rest → IsInFlight lost queue [] → ⊥
nothing lost queue x rest e h =
    let whole : x ∷ (rest ++ h.vanished) ≡ [] = ap (λ q. q ++ h.vanished) (sym e) ∙ h.whole in
    absurd (cc)

none_queued : {X : Type 0} (queue vanished : List X) → queue ++ vanished ≡ [] → queue ≡ []
none_queued [] vanished is = refl
none_queued (message ∷ queue) vanished is = absurd (cc)

-- nor is anything in the queue
pub empty_queue : {X : Type 0} (lost : Bool) (queue : List X) → IsInFlight lost queue [] → queue ≡ []
empty_queue lost queue way = none_queued queue way.vanished way.whole

pub not_empty : {X : Type 0} (some : List X) (x : X) (others : List X) → some ++ x ∷ others ≡ [] → ⊥
not_empty [] x others e = absurd (cc)
not_empty (first ∷ some) x others e = absurd (cc)

-- What is under way on one way of a connection, where its sender says more, bytes come, or it is lost.
use Rattle.std.proofs.Common.{◌≡◌, ◌≤◌, ◌-◌, not, ℕ, zero, suc, Bool, true, false, List, [], ◌∷◌, ◌++◌, drop, take, length, length-append, length-drop, refl, ap, subst, ◌∙◌, arith, if◌then◌else◌}
use Rattle.std.proofs.lemmas.List.{take-append-le}
use Rattle.telnet_wire.specs.Items.{WireItem, sent_bytes}
use Rattle.host_core.specs.Messages.{ToTerminal, ToHost}
use Rattle.host_core.specs.Session.{Session}
use Rattle.world3270.specs.model.ByteWorld.{Transit, under_way, came, cut, is_live, is_senders}
use Rattle.world3270.specs.model.Link.{Link, sent}
use Rattle.world3270.specs.refinement.Representation.{IsFlow}
use Rattle.world3270.specs.refinement.Represents.{ByteLink, LinkRepresentsBy, is_nop}
use Rattle.world3270.specs.refinement.RepresentsLinks.{HostSendsBy, said_down, sent_down}

-- ---- a sender says more

-- on a lost connection that vanishes
pub more_under_way : (out more : List ℕ) (under : Transit) → IsFlow true out under → under_way under (out ++ more) ≡ sent (not (is_live under)) (under_way under out) more
more_under_way out more Transit.Live flow = refl
more_under_way out more (Transit.Cut kept) flow = take-append-le kept out more flow
more_under_way out more (Transit.SenderGone bytes) flow = absurd (cc)

pub more_flows : (out more : List ℕ) (under : Transit) → IsFlow true out under → IsFlow true (out ++ more) under
more_flows out more Transit.Live flow = tt
more_flows out more (Transit.Cut kept) flow = let whole = length-append out more in omega (arith, flow, whole)
more_flows out more (Transit.SenderGone bytes) flow = flow

-- and stands for anything that the host sends
vanishes : {X : Type 0} (lost : Bool) (queue some others : List X) → lost ≡ true → sent lost queue some ≡ sent lost queue others
vanishes true queue some others is = refl
vanishes false queue some others is = absurd (cc)

pub lost_says : {heard : List WireItem → List WireItem} {Up : WireItem → ToHost → Type 0} → HostSendsBy heard Up → (bytes : ByteLink) (link : Link) (conn : Session) (items : List WireItem) (messages : List ToTerminal)
    → LinkRepresentsBy heard Up is_nop bytes link → link.lost ≡ true → LinkRepresentsBy heard Up is_nop (said_down conn items bytes) (sent_down conn messages link)
lost_says {heard} {Up} sends bytes link conn items messages stands is =
    subst (λ (down : List ℕ). LinkRepresentsBy heard Up is_nop (record bytes { host = conn; down = down }) (sent_down conn messages link))
    (vanishes bytes.lost bytes.down (sent_bytes []) (sent_bytes items) (stands.lost ∙ is))
    (subst (λ (down : List ToTerminal). LinkRepresentsBy heard Up is_nop (said_down conn [] bytes) (record link { host = conn; down = down }))
    (vanishes link.lost link.down [] messages is)
    (sends bytes link conn [] [] stands tt tt))

-- ---- the first bytes came

take_nothing : (count : ℕ) → take {A = ℕ} count [] ≡ []
take_nothing zero = refl
take_nothing (suc count) = refl

drop_take : (count kept : ℕ) (out : List ℕ) → take (kept - count) (drop count out) ≡ drop count (take kept out)
drop_take zero kept out = let same : kept - 0 ≡ kept = omega arith in ap (λ (n : ℕ). take n out) same
drop_take (suc count) zero out = let none : 0 - suc count ≡ 0 = omega arith in ap (λ (n : ℕ). take n (drop (suc count) out)) none
drop_take (suc count) (suc kept) [] = take_nothing (suc kept - suc count)
drop_take (suc count) (suc kept) (byte ∷ out) =
    let less : suc kept - suc count ≡ kept - count = omega arith in
    ap (λ (n : ℕ). take n (drop count out)) less ∙ drop_take count kept out

pub came_under_way : (count : ℕ) (under : Transit) (out : List ℕ)
    → under_way (came count under) (if is_senders under then drop count out else out) ≡ drop count (under_way under out)
came_under_way count Transit.Live out = refl
came_under_way count (Transit.Cut kept) out = drop_take count kept out
came_under_way count (Transit.SenderGone bytes) out = refl

-- what was cut is still no more than its sender has to send
pub came_flows : (there : Bool) (count : ℕ) (out : List ℕ) (under : Transit) → IsFlow there out under
    → IsFlow there (if is_senders under then drop count out else out) (came count under)
came_flows there count out Transit.Live flow = tt
came_flows there count out (Transit.Cut kept) flow = fewer kept flow
  where
    fewer : (kept : ℕ) → kept ≤ length out → kept - count ≤ length (drop count out)
    fewer kept few = omega (arith, length-drop count out, few)
came_flows there count out (Transit.SenderGone bytes) flow = flow

-- it is lost as before, and its bytes are its sender's as before
pub came_live : (count : ℕ) (under : Transit) → is_live (came count under) ≡ is_live under
came_live count Transit.Live = refl
came_live count (Transit.Cut kept) = refl
came_live count (Transit.SenderGone bytes) = refl

pub came_senders : (count : ℕ) (under : Transit) → is_senders (came count under) ≡ is_senders under
came_senders count Transit.Live = refl
came_senders count (Transit.Cut kept) = refl
came_senders count (Transit.SenderGone bytes) = refl

-- ---- it is lost

all_taken : (out : List ℕ) → take (length out) out ≡ out
all_taken [] = refl
all_taken (byte ∷ out) = ap (λ (bytes : List ℕ). byte ∷ bytes) (all_taken out)

pub cut_under_way : (under : Transit) (out : List ℕ) → under_way (cut (length out) under) out ≡ under_way under out
cut_under_way Transit.Live out = all_taken out
cut_under_way (Transit.Cut kept) out = refl
cut_under_way (Transit.SenderGone bytes) out = refl

-- From the body to the whole message.
use Rattle.std.proofs.Common.{◌≡◌, ℕ, List, drop, length, sym, ◌∙◌, subst, Bool, Result, Ok, Err, IfOk, IfErr, inr}
use Rattle.std.specs.Prelude.{IsFalse, IsTrue}
use Rattle.http1.specs.declared.framing.Framing.{Framing}
use Rattle.application_http.specs.Keeping.{kept_after}
use Rattle.application_http.specs.declared.content.Head.{Head}
use Rattle.application_http.specs.declared.fault.ReplyFault.{ReplyFault}
use Rattle.application_http.specs.declared.fault.ReplyFault.TheVariants as fault
use Rattle.application_http.specs.Contents.{IsHead, IsKept, IsAccepted, IsCompleteBody, IsIncompleteBody, HasContent, IsUnfinished, IsBadBody, IsBadMessage, accepted_status}

pub accepts : (bytes : List ℕ) (found : Head) (framing : Framing) → IsHead bytes found → found.status ≡ accepted_status → found.framing ≡ Ok framing → IsAccepted bytes framing (drop found.len bytes)
accepts bytes found framing h ok framed = record {
  head = h.head;
  reads = h.reads;
  status = sym h.status ∙ ok;
  framed = sym h.framing ∙ framed;
}

pub is_kept : (is_over : Bool) (bytes after : List ℕ) (found : Head) (kept : ℕ) → IsHead bytes found → after ≡ drop found.len bytes
    → kept ≡ kept_after is_over found.framing (length after) found.kept → IsKept is_over bytes kept
is_kept is_over bytes after found kept h behind e =
    (h.head, drop found.len bytes, h.reads, e ∙ (λ i. kept_after is_over (h.framing i) (length (behind i)) (h.kept i)))

pub bad_in : (closed : Bool) (bytes after : List ℕ) (framing : Framing) (why : ReplyFault) → IsAccepted bytes framing after → IsBadBody closed framing after why → IsBadMessage closed bytes why
bad_in closed bytes after framing fault.Memory a h = (framing, after, a, h)
bad_in closed bytes after framing fault.BadChunks a h = (after, subst (λ f. IsAccepted bytes f after) h.0 a, h.1)
bad_in closed bytes after framing fault.TooLong a h = absurd h
bad_in closed bytes after framing fault.CutShort a h = absurd h
bad_in closed bytes after framing fault.NotHttp a h = absurd h
bad_in closed bytes after framing fault.TooManyFields a h = absurd h
bad_in closed bytes after framing (fault.Status code) a h = absurd h
bad_in closed bytes after framing fault.BadLength a h = absurd h
bad_in closed bytes after framing fault.NotJson a h = absurd h
bad_in closed bytes after framing (fault.Key what key) a h = absurd h

module _ (closed : Bool) (bytes after : List ℕ) (framing : Framing) where
  pub whole_in : (content : List ℕ) (result : Result Bool ReplyFault) → IsAccepted bytes framing after
      → IfOk result (λ is_whole. IsTrue is_whole → IsCompleteBody closed framing after content) → IfOk result (λ is_whole. IsTrue is_whole → HasContent closed bytes content)
  whole_in content (Ok is_whole) a h = λ is. (framing, after, a, h is)
  whole_in content (Err why) a h = tt

  pub lacking_in : (result : Result Bool ReplyFault) → IsAccepted bytes framing after
      → IfOk result (λ is_whole. IsFalse is_whole → IsIncompleteBody closed framing after) → IfOk result (λ is_whole. IsFalse is_whole → IsUnfinished closed bytes)
  lacking_in (Ok is_whole) a h = λ is. inr (framing, after, a, h is)
  lacking_in (Err why) a h = tt

  pub wrong_in : (result : Result Bool ReplyFault) → IsAccepted bytes framing after → IfErr result (IsBadBody closed framing after) → IfErr result (IsBadMessage closed bytes)
  wrong_in (Ok is_whole) a h = tt
  wrong_in (Err why) a h = bad_in closed bytes after framing why a h

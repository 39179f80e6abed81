-- The content of a reply (RFC 9112, sections 4, 6, 7), by the grammars of httparse and http1. Limits are our profile.
use Rattle.std.specs.Prelude.{◌≡◌, ℕ, ◌<◌, ◌≤◌, ◌⊎◌, Bool, true, List, ◌++◌, length, drop, map, Ok, Err, Result}
use Rattle.httparse.specs.Grammar.{Field, ResponseHead, ReadsResponse, HasNoResponse, NeverHasResponse, status_code}
use Rattle.httparse.specs.Spans.{ResponseExceeds, name_and_value}
use Rattle.http1.specs.Body.{Body, body_of, ReadsBody}
use Rattle.http1.specs.Framing.{response_framing}
use Rattle.http1.specs.Message.{known_of}
use Rattle.http1.specs.declared.conn.Limits.{Limits}
use Rattle.http1.specs.declared.framing.Framing.{Framing}
use Rattle.http1.specs.declared.framing.Framing.TheVariants.{NoBody, Length, Chunked, UntilClose}
use Rattle.http1.specs.declared.framing.FramingError.{FramingError}
use Rattle.http1.specs.declared.framing.MethodKind.TheVariants.{Other}
use Rattle.application_http.specs.Keeping.{kept_after, kept_by}
use Rattle.application_http.specs.declared.content.Head.{Head}
use Rattle.application_http.specs.declared.fault.ReplyFault.{ReplyFault}
use Rattle.application_http.specs.declared.fault.ReplyFault.TheVariants as fault

-- the most bytes of a reply, and the most fields of its head or trailers of its body
abbrev pub most_bytes : ℕ
most_bytes = 65536

abbrev pub most_fields : ℕ
most_fields = 64

-- no part of a chunked body has a lower limit than the whole reply
abbrev pub limits : Limits
limits = record { max_head_len = most_bytes; max_extensions_len = most_bytes; max_trailers_len = most_bytes }

-- the only status that a reply may have (RFC 9110, section 15.3.1)
abbrev pub accepted_status : ℕ
accepted_status = 200

-- how a response to POST with this head is framed (RFC 9112, section 6.3)
abbrev pub framing_of : ResponseHead → Result Framing FramingError
framing_of head = response_framing Other (status_code head) head.minor (known_of head.fields)

-- for how many seconds a response with this head keeps the connection
abbrev pub promise_of : ResponseHead → ℕ
promise_of head = kept_by head.minor (known_of head.fields) (map name_and_value head.fields)

-- holds if the bytes begin with a head that has this length, status, framing and promise
pub record IsHead (bytes : List ℕ) (found : Head) : Type 0 where
  pub head : ResponseHead
  pub reads : ReadsResponse bytes head (drop found.len bytes)
  pub within : found.len ≤ length bytes
  pub status : found.status ≡ status_code head
  pub framing : found.framing ≡ framing_of head
  pub kept : found.kept ≡ promise_of head

-- holds if the bytes begin with a head after which the connection is kept for this time, in seconds; it is over if it
-- is closed, or if more bytes follow these
abbrev pub IsKept : (is_over : Bool) → (bytes : List ℕ) → ℕ → Type 0
IsKept is_over bytes kept = (head : ResponseHead) × (after : List ℕ) × ReadsResponse bytes head after
    × (kept ≡ kept_after is_over (framing_of head) (length after) (promise_of head))

-- holds if the bytes begin with a head of status 200 with this framing, and these bytes follow it
pub record IsAccepted (bytes : List ℕ) (framing : Framing) (after : List ℕ) : Type 0 where
  pub head : ResponseHead
  pub reads : ReadsResponse bytes head after
  pub status : status_code head ≡ accepted_status
  pub framed : framing_of head ≡ Ok framing

-- holds if the bytes begin with this body; one that ends with the connection is complete only once that is closed
abbrev pub ReadsEnded : (closed : Bool) → Framing → List ℕ → Body → List ℕ → Type 0
ReadsEnded closed NoBody after body rest = ReadsBody limits NoBody after body rest
ReadsEnded closed (Length length) after body rest = ReadsBody limits (Length length) after body rest
ReadsEnded closed Chunked after body rest = ReadsBody limits Chunked after body rest
ReadsEnded closed UntilClose after body rest = (closed ≡ true) × ReadsBody limits UntilClose after body rest

-- holds if the bytes after the head are a complete body with this content
abbrev pub IsCompleteBody : (closed : Bool) → Framing → (after content : List ℕ) → Type 0
IsCompleteBody closed framing after content = (trailers : List Field) × (rest : List ℕ)
    × ReadsEnded closed framing after (body_of content trailers) rest

-- holds if the bytes after the head aren't a complete body
abbrev pub IsIncompleteBody : (closed : Bool) → Framing → (after : List ℕ) → Type 0
IsIncompleteBody closed framing after = (content : List ℕ) → ¬ (IsCompleteBody closed framing after content)

-- holds if the bytes never begin a chunked body with at most 64 trailers, whatever bytes follow
abbrev pub NeverChunked : List ℕ → Type 0
NeverChunked after = (more : List ℕ) (body : Body) (rest : List ℕ) → ReadsBody limits Chunked (after ++ more) body rest
    → most_fields < length body.trailers

-- holds if the bytes begin with a reply of status 200 that has this content
abbrev pub HasContent : (closed : Bool) → (bytes content : List ℕ) → Type 0
HasContent closed bytes content = (framing : Framing) × (after : List ℕ) × IsAccepted bytes framing after
    × IsCompleteBody closed framing after content

-- holds if the head or the body isn't complete
abbrev pub IsUnfinished : (closed : Bool) → (bytes : List ℕ) → Type 0
IsUnfinished closed bytes = HasNoResponse bytes
    ⊎ ((framing : Framing) × (after : List ℕ) × IsAccepted bytes framing after × IsIncompleteBody closed framing after)

-- ---- what must be stored

-- holds if these bytes begin a chunked body, and the content of each such body begins with `front`
pub record BeginsContent (taken front : List ℕ) : Type 0 where
  pub begins : (more : List ℕ) × (body : Body) × (rest : List ℕ) × ReadsBody limits Chunked (taken ++ more) body rest
  pub front_is : (more : List ℕ) (body : Body) (rest : List ℕ) → ReadsBody limits Chunked (taken ++ more) body rest
      → (later : List ℕ) × (body.bytes ≡ front ++ later)

-- holds if a byte of the content must be stored: the content is complete, or its chunk is read
abbrev pub StoresContent : (closed : Bool) → Framing → (after : List ℕ) → Type 0
StoresContent closed NoBody after = ⊥
StoresContent closed (Length len) after = (0 < len) × (len ≤ length after)
StoresContent closed Chunked after = (taken left front : List ℕ) × (after ≡ taken ++ left) × (0 < length front)
    × BeginsContent taken front
StoresContent closed UntilClose after = (closed ≡ true) × (0 < length after)

-- ---- what is wrong

-- holds if the bytes are no reply, nor the start of one, for this reason; memory is refused only for a content
abbrev pub IsBadMessage : (closed : Bool) → (bytes : List ℕ) → ReplyFault → Type 0
IsBadMessage closed bytes fault.Memory = (framing : Framing) × (after : List ℕ) × IsAccepted bytes framing after
    × StoresContent closed framing after
IsBadMessage closed bytes fault.NotHttp = NeverHasResponse bytes
IsBadMessage closed bytes fault.TooManyFields = ResponseExceeds most_fields bytes
IsBadMessage closed bytes (fault.Status code) = (head : ResponseHead) × (after : List ℕ)
    × ReadsResponse bytes head after × (code ≡ status_code head) × ¬ (code ≡ accepted_status)
IsBadMessage closed bytes fault.BadLength = (head : ResponseHead) × (after : List ℕ) × (why : FramingError)
    × ReadsResponse bytes head after × (status_code head ≡ accepted_status) × (framing_of head ≡ Err why)
IsBadMessage closed bytes fault.BadChunks = (after : List ℕ) × IsAccepted bytes Chunked after × NeverChunked after
IsBadMessage closed bytes _ = ⊥

-- holds if the bytes after a head are no body, nor the start of one, for this reason
abbrev pub IsBadBody : (closed : Bool) → Framing → (after : List ℕ) → ReplyFault → Type 0
IsBadBody closed framing after fault.Memory = StoresContent closed framing after
IsBadBody closed framing after fault.BadChunks = (framing ≡ Chunked) × NeverChunked after
IsBadBody closed framing after _ = ⊥

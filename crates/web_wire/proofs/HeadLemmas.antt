-- The first bytes of a request, and the answer to a handshake that lacks something.
use Rattle.std.proofs.Common.{◌≡◌, ◌++◌, ◌≤◌, ◌<◌, ◌+◌, ◌-◌, ℕ, suc, true, false, List, length, get_or, take, drop, refl, ap, arith, take_all, drop-cons, length-drop, ◌∙◌}
use Rattle.std.proofs.Math.Seq.{take-append-add}
use Rattle.std.proofs.Common.{Bool, Result, Ok, Err, Option, None, Some, [], ◌∷◌, inl, inr, bytes_eq, codes, map, option_map, if◌then◌else◌}
use Rattle.std.specs.Option.{option_or}
use Rattle.std.proofs.lemmas.Bool.Decides.{eqb_tells}
use lib.Dec.{eqb}
use Rattle.web_wire.specs.declared.head.HttpStatus.{HttpStatus}
use Rattle.web_wire.specs.declared.head.HttpStatus.TheVariants.{Found, BadRequest, Forbidden, NotFound, MethodNotAllowed, UpgradeRequired, HeadTooLarge}
use Rattle.httparse.specs.Grammar.{RequestHead, ReadsRequest}
use Rattle.httparse.specs.declared.spans.HeaderSpan.{HeaderSpan}
use Rattle.httparse.specs.Spans.{header_bytes, name_and_value}
use Rattle.websocket.specs.Headers.{eq_ignore_case, fields_of}
use Rattle.websocket.specs.declared.handshake.failure.HandshakeError.{HandshakeError}
use Rattle.websocket.specs.declared.handshake.failure.HandshakeError.TheVariants as fault
use Rattle.websocket.specs.Handshake.{Answers, requested_key}
use Rattle.web_wire.specs.declared.head.Answer.{Answer}
use Rattle.web_wire.specs.declared.head.Answer.TheVariants.{Handshake, Status}
use Rattle.web_wire.specs.Origins.{is_allowed_host, is_allowed_origin}
use Rattle.web_wire.specs.Heads.{IsAnswerToHead, IsCalledFor, IsDecided, IsHandshakeAnswer, StartsNamed, after_scheme, failed_status, host_meant, host_refusal, is_nothing, only_value, origin_refusal, path_meant, resource_status, status_of, values_named}

-- what is taken of more bytes, if what is there is no more than may be taken
pub take_more_of : (most : ℕ) (old bytes : List ℕ) → length old ≤ most → take most (old ++ bytes) ≡ old ++ take (most - length old) bytes
take_more_of most old bytes fits =
    let e : most ≡ length old + (most - length old) = omega arith in
    ap (λ (n : ℕ). take n (old ++ bytes)) e ∙ take-append-add old bytes (most - length old)

pub handshake_failed : (key : Result (List ℕ) HandshakeError) (fault : HandshakeError) → Answers (Err fault) key → IsHandshakeAnswer key (Status (failed_status fault))
handshake_failed (Ok key) fault answers = inr (answers.0, ap (λ it. Status (failed_status it)) answers.1)
handshake_failed (Err e) fault answers = let same : fault ≡ e = cc answers in ap (λ it. Status (failed_status it)) same

-- ---- a field with a name

pub starts_named : (buf : List ℕ) (fields : List HeaderSpan) (place : ℕ) (none : HeaderSpan) (name : List ℕ) → place < length fields
    → eq_ignore_case (header_bytes buf (get_or fields place none)).0 name ≡ true
    → StartsNamed (fields_of buf (take (length fields - place) (drop place fields))) name
starts_named buf fields place none name below is =
    rw (take_all (length fields - place) (drop place fields) (omega (arith, length-drop place fields)), drop-cons fields place none below) is

pub passed_over : (buf : List ℕ) (fields : List HeaderSpan) (place : ℕ) (none : HeaderSpan) (name : List ℕ) → place < length fields
    → eq_ignore_case (header_bytes buf (get_or fields place none)).0 name ≡ false
    → values_named (fields_of buf (drop (place + 1) fields)) name ≡ values_named (fields_of buf (drop place fields)) name
passed_over buf fields place none name below is =
    let next : place + 1 ≡ suc place = omega arith in
    rw (next, drop-cons fields place none below, is) refl

-- ---- the answer to a head

pub nothing_after : (rest : List ℕ) (count size : ℕ) → length rest ≡ size - count → count ≤ size → eqb size count ≡ is_nothing rest
nothing_after [] count size is within = elim (eqb_tells size count) [ inl p ↦ p.0 | inr p ↦ absurd (p.1 (omega (arith, is, within))) ]
nothing_after (b ∷ bs) count size is within = elim (eqb_tells size count) [ inl p ↦ absurd (omega (arith, is, p.1)) | inr p ↦ p.0 ]

pub decided : (found : Option HttpStatus) (status : HttpStatus) (key : Result (List ℕ) HandshakeError) → Some status ≡ found → IsDecided found key (Status status)
decided None status key is = absurd (cc is)
decided (Some it) status key is = let same : status ≡ it = cc is in ap (λ found. Status found) same

-- ---- no complete head is too large

if_not_large : (b : Bool) (then_ else_ : Option HttpStatus) → (then_ ≡ Some HeadTooLarge → ⊥) → (else_ ≡ Some HeadTooLarge → ⊥) → (if b then then_ else else_) ≡ Some HeadTooLarge → ⊥
if_not_large true then_ else_ one other = one
if_not_large false then_ else_ one other = other

or_not_large : (first second : Option HttpStatus) → (first ≡ Some HeadTooLarge → ⊥) → (second ≡ Some HeadTooLarge → ⊥) → option_or first second ≡ Some HeadTooLarge → ⊥
or_not_large None second one other = other
or_not_large (Some it) second one other = one

host_not_large : (origins : List (List ℕ)) (host : Option (List ℕ)) → host_refusal origins host ≡ Some HeadTooLarge → ⊥
host_not_large origins None is = cc is
host_not_large origins (Some host) is = if_not_large (is_allowed_host origins host) None (Some Forbidden) (λ e. cc e) (λ e. cc e) is

origin_not_large : (origins : List (List ℕ)) (origin : Option (List ℕ)) → origin_refusal origins origin ≡ Some HeadTooLarge → ⊥
origin_not_large origins None is = cc is
origin_not_large origins (Some origin) is = if_not_large (is_allowed_origin origins origin) None (Some Forbidden) (λ e. cc e) (λ e. cc e) is

resource_not_large : (origins : List (List ℕ)) (target : List ℕ) (origin : Option (List ℕ)) (is_last : Bool) → resource_status origins target origin is_last ≡ Some HeadTooLarge → ⊥
resource_not_large origins target origin is_last =
    if_not_large (bytes_eq target (codes "/")) _ _ (λ e. cc e)
    (if_not_large (bytes_eq target (codes "/terminal")) _ _
    (if_not_large is_last _ _ (origin_not_large origins origin) (λ e. cc e)) (λ e. cc e))

status_not_large : (origins : List (List ℕ)) (method target : List ℕ) (host origin : Option (List ℕ)) (is_last : Bool) → status_of origins method target host origin is_last ≡ Some HeadTooLarge → ⊥
status_not_large origins method target host origin is_last =
    or_not_large _ _ (host_not_large origins (option_map (host_meant (after_scheme target)) host))
    (if_not_large (bytes_eq method (codes "GET")) _ _ (resource_not_large origins (path_meant (after_scheme target) target) origin is_last) (λ e. cc e))

failed_not_large : (e : HandshakeError) → Status HeadTooLarge ≡ Status (failed_status e) → ⊥
failed_not_large fault.WrongHttpMethod is = cc is
failed_not_large fault.WrongHttpVersion is = cc is
failed_not_large fault.MissingConnectionUpgradeHeader is = cc is
failed_not_large fault.MissingUpgradeWebSocketHeader is = cc is
failed_not_large fault.MissingSecWebSocketVersionHeader is = cc is
failed_not_large fault.MissingSecWebSocketKey is = cc is
failed_not_large fault.InvalidSecWebSocketKey is = cc is
failed_not_large fault.SecWebSocketAcceptKeyMismatch is = cc is
failed_not_large (fault.SecWebSocketSubProtocolError e) is = cc is
failed_not_large fault.UnexpectedExtension is = cc is
failed_not_large (fault.Http status) is = cc is
failed_not_large fault.InvalidHeader is = cc is
failed_not_large fault.OutOfMemory is = cc is

handshake_not_large : (key : Result (List ℕ) HandshakeError) → IsHandshakeAnswer key (Status HeadTooLarge) → ⊥
handshake_not_large (Ok key) (inl p) = cc p.1
handshake_not_large (Ok key) (inr p) = cc p.1
handshake_not_large (Err e) is = failed_not_large e is

decided_not_large : (found : Option HttpStatus) (key : Result (List ℕ) HandshakeError) → (found ≡ Some HeadTooLarge → ⊥) → IsDecided found key (Status HeadTooLarge) → ⊥
decided_not_large None key small is = handshake_not_large key is
decided_not_large (Some status) key small is = let same : status ≡ HeadTooLarge = cc is in small (ap (λ it. Some it) same)

-- the answer to a complete head is called for
pub called_for : (origins : List (List ℕ)) (bytes : List ℕ) (head : RequestHead) (rest : List ℕ) (answer : Answer) → ReadsRequest bytes head rest → IsAnswerToHead origins head rest answer → IsCalledFor origins bytes answer
called_for origins bytes head rest (Handshake key) reads is = (head, rest, reads, is)
called_for origins bytes head rest (Status Found) reads is = (head, rest, reads, is)
called_for origins bytes head rest (Status BadRequest) reads is = inl (head, rest, reads, is)
called_for origins bytes head rest (Status Forbidden) reads is = (head, rest, reads, is)
called_for origins bytes head rest (Status NotFound) reads is = (head, rest, reads, is)
called_for origins bytes head rest (Status MethodNotAllowed) reads is = (head, rest, reads, is)
called_for origins bytes head rest (Status UpgradeRequired) reads is = (head, rest, reads, is)
called_for origins bytes head rest (Status HeadTooLarge) reads is =
    let fields = map name_and_value head.fields in
    absurd (decided_not_large _ (requested_key head.method head.minor fields)
    (status_not_large origins head.method head.target (only_value fields (codes "Host")) (only_value fields (codes "Origin")) (is_nothing rest)) is)

-- How a request is answered, by its head (RFC 9110, RFC 9112, and section 4.2 of RFC 6455; which resources there are:
-- our profile).
use Rattle.std.specs.Prelude.{◌≡◌, ℕ, ◌<◌, ◌≤◌, ◌⊎◌, Bool, true, false, ◌==◌, List, [], ◌∷◌, ◌++◌, length, map, take, drop, codes, bytes_eq, nat_eq, position, Option, None, Some, option_map, unwrap_or, Result, Ok, Err, if◌then◌else◌}
use Rattle.std.specs.List.{starts_with}
use Rattle.std.specs.Option.{option_or}
use Rattle.httparse.specs.Grammar.{RequestHead, ReadsRequest, HasNoRequest, NeverHasRequest}
use Rattle.httparse.specs.Spans.{RequestExceeds, name_and_value}
use Rattle.websocket.specs.Headers.{Fields, eq_ignore_case}
use Rattle.websocket.specs.Handshake.{IsValidKey, accept_key_of, requested_key}
use Rattle.websocket.specs.declared.handshake.failure.HandshakeError.{HandshakeError}
use Rattle.websocket.specs.declared.handshake.failure.HandshakeError.TheVariants.{MissingSecWebSocketVersionHeader}
use Rattle.web_wire.specs.declared.head.Answer.{Answer}
use Rattle.web_wire.specs.declared.head.Answer.TheVariants.{Handshake, Status}
use Rattle.web_wire.specs.declared.head.HttpStatus.{HttpStatus}
use Rattle.web_wire.specs.declared.head.HttpStatus.TheVariants.{Found, BadRequest, Forbidden, NotFound, MethodNotAllowed, UpgradeRequired, HeadTooLarge}
use Rattle.web_wire.specs.Origins.{is_allowed_host, is_allowed_origin}

-- the most bytes of a head, and the most fields
abbrev pub most_head : ℕ
most_head = 8192

abbrev pub most_fields : ℕ
most_fields = 64

-- the first bytes of a request; later ones are dropped
abbrev pub with_more : (old bytes : List ℕ) → List ℕ
with_more old bytes = take most_head (old ++ bytes)

-- ---- fields

-- the values of the fields with this name
abbrev pub values_named : Fields → (name : List ℕ) → List (List ℕ)
values_named [] name = []
values_named (field ∷ fields) name =
    if eq_ignore_case field.0 name then field.1 ∷ values_named fields name else values_named fields name

-- holds if there is no field, or the first one has this name
abbrev pub StartsNamed : Fields → (name : List ℕ) → Type 0
StartsNamed [] name = Unit {0}
StartsNamed (field ∷ fields) name = eq_ignore_case field.0 name ≡ true

-- the only one of the values; None if there is none, or more than one
abbrev pub only : List (List ℕ) → Option (List ℕ)
only (value ∷ []) = Some value
only _ = None

abbrev pub only_value : Fields → (name : List ℕ) → Option (List ℕ)
only_value fields name = only (values_named fields name)

-- ---- the answer to a complete head

-- There must be one field Host (RFC 9112, section 3.2), with the host of an allowed origin, against DNS rebinding.
abbrev pub host_refusal : (origins : List (List ℕ)) → Option (List ℕ) → Option HttpStatus
host_refusal origins None = Some BadRequest
host_refusal origins (Some host) = if is_allowed_host origins host then None else Some Forbidden

-- A handshake must have one field Origin, with an allowed origin (RFC 6455, section 10.2).
abbrev pub origin_refusal : (origins : List (List ℕ)) → Option (List ℕ) → Option HttpStatus
origin_refusal origins None = Some Forbidden
origin_refusal origins (Some origin) = if is_allowed_origin origins origin then None else Some Forbidden

-- A client sends nothing after its handshake until that is answered (RFC 6455, section 4.1).
abbrev pub handshake_refusal : (origins : List (List ℕ)) → (origin : Option (List ℕ)) → (is_last : Bool)
    → Option HttpStatus
handshake_refusal origins origin is_last = if is_last then origin_refusal origins origin else Some BadRequest

-- the status for a resource: the page, or the terminal's WebSocket; None if the handshake goes on
abbrev pub resource_status : (origins : List (List ℕ)) → (target : List ℕ) → (origin : Option (List ℕ))
    → (is_last : Bool) → Option HttpStatus
resource_status origins target origin is_last =
    if bytes_eq target (codes "/") then Some Found
    else if bytes_eq target (codes "/terminal") then handshake_refusal origins origin is_last
    else Some NotFound

-- What follows the scheme of a target in absolute-form (RFC 9112, section 3.2.2); None for one of another form.
abbrev pub after_scheme : (target : List ℕ) → Option (List ℕ)
after_scheme target =
    if starts_with nat_eq target (codes "http://") then Some (drop 7 target)
    else if starts_with nat_eq target (codes "https://") then Some (drop 8 target)
    else None

abbrev pub is_slash : ℕ → Bool
is_slash byte = byte == 0x2F

-- where the path begins behind a scheme: at the first slash
abbrev pub path_start : List ℕ → ℕ
path_start rest = unwrap_or (position is_slash rest) (length rest)

-- the host for which a request is: that of a target in absolute-form, and else that of the field Host
abbrev pub host_meant : Option (List ℕ) → (host : List ℕ) → List ℕ
host_meant None host = host
host_meant (Some rest) host = take (path_start rest) rest

abbrev pub or_root : (path : List ℕ) → List ℕ
or_root [] = codes "/"
or_root (byte ∷ path) = byte ∷ path

-- the path of a target: in absolute-form what follows the host, `/` if nothing does
abbrev pub path_meant : Option (List ℕ) → (target : List ℕ) → List ℕ
path_meant None target = target
path_meant (Some rest) target = or_root (drop (path_start rest) rest)

abbrev pub method_status : (origins : List (List ℕ)) → (method target : List ℕ) → (origin : Option (List ℕ))
    → (is_last : Bool) → Option HttpStatus
method_status origins method target origin is_last =
    if bytes_eq method (codes "GET") then resource_status origins target origin is_last else Some MethodNotAllowed

-- the status of a request with these values of the fields Host and Origin; None if the handshake goes on
abbrev pub status_of : (origins : List (List ℕ)) → (method target : List ℕ) → (host origin : Option (List ℕ))
    → (is_last : Bool) → Option HttpStatus
status_of origins method target host origin is_last =
    option_or (host_refusal origins (option_map (host_meant (after_scheme target)) host))
    (method_status origins method (path_meant (after_scheme target) target) origin is_last)

-- the status for a handshake that lacks something (RFC 6455, section 4.2.2: 426 for another version)
abbrev pub failed_status : HandshakeError → HttpStatus
failed_status MissingSecWebSocketVersionHeader = UpgradeRequired
failed_status _ = BadRequest

-- holds for the answer to a handshake: with a valid key it is accepted
abbrev pub IsHandshakeAnswer : Result (List ℕ) HandshakeError → Answer → Type 0
IsHandshakeAnswer (Ok key) answer = (IsValidKey key × (answer ≡ Handshake (accept_key_of key)))
    ⊎ ((¬ (IsValidKey key)) × (answer ≡ Status BadRequest))
IsHandshakeAnswer (Err e) answer = answer ≡ Status (failed_status e)

abbrev pub IsDecided : Option HttpStatus → Result (List ℕ) HandshakeError → Answer → Type 0
IsDecided None key answer = IsHandshakeAnswer key answer
IsDecided (Some status) key answer = answer ≡ Status status

-- holds for the answer to a request of these parts
abbrev pub IsAnswerToParts : (origins : List (List ℕ)) → (method target : List ℕ) → (minor : ℕ) → Fields
    → (is_last : Bool) → Answer → Type 0
IsAnswerToParts origins method target minor fields is_last answer = IsDecided
    (status_of origins method target (only_value fields (codes "Host")) (only_value fields (codes "Origin")) is_last)
    (requested_key method minor fields) answer

abbrev pub is_nothing : List ℕ → Bool
is_nothing [] = true
is_nothing (byte ∷ bytes) = false

abbrev pub IsAnswerToHead : (origins : List (List ℕ)) → RequestHead → (rest : List ℕ) → Answer → Type 0
IsAnswerToHead origins head rest answer =
    IsAnswerToParts origins head.method head.target head.minor (map name_and_value head.fields) (is_nothing rest) answer

-- ---- the answer to the bytes that were received

-- holds if the bytes begin with a complete head that has this answer
abbrev pub HasHead : (origins : List (List ℕ)) → List ℕ → Answer → Type 0
HasHead origins bytes answer =
    (head : RequestHead) × (rest : List ℕ) × ReadsRequest bytes head rest × IsAnswerToHead origins head rest answer

-- holds if the head isn't complete within the most bytes, or has more than the most fields
abbrev pub IsTooLarge : List ℕ → Type 0
IsTooLarge bytes = (HasNoRequest bytes × (most_head ≤ length bytes)) ⊎ RequestExceeds most_fields bytes

abbrev pub IsCalledFor : (origins : List (List ℕ)) → List ℕ → Answer → Type 0
IsCalledFor origins bytes (Status HeadTooLarge) = IsTooLarge bytes
IsCalledFor origins bytes (Status BadRequest) = HasHead origins bytes (Status BadRequest) ⊎ NeverHasRequest bytes
IsCalledFor origins bytes answer = HasHead origins bytes answer

-- Holds for the answer to the bytes so far. There is none if they have no complete head, and more of them may follow.
abbrev pub IsAnswerTo : (origins : List (List ℕ)) → List ℕ → Option Answer → Type 0
IsAnswerTo origins bytes None = HasNoRequest bytes × (length bytes < most_head)
IsAnswerTo origins bytes (Some answer) = IsCalledFor origins bytes answer

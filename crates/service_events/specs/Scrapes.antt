-- Which status a client of the metrics port is answered (our profile, after RFC 9110 and RFC 9112).
use Rattle.std.specs.Prelude.{◌≡◌, ◌≤◌, ◌<◌, ◌-◌, ◌==◌, ◌⊎◌, ◌&&◌, ◌||◌, ℕ, Bool, true, not, List, [], ◌∷◌, ◌++◌, length, map, take, drop, codes, bytes_eq, nat_eq, nat_le, position, Option, Some, None, unwrap_or, if◌then◌else◌}
use Rattle.std.specs.Char.{is_ascii_digit}
use Rattle.std.specs.List.{list_all, list_any, starts_with}
use Rattle.std.specs.Option.{option_map_or}
use Rattle.httparse.specs.Grammar.{RequestHead, ReadsRequest, HasNoRequest, NeverHasRequest}
use Rattle.httparse.specs.Spans.{RequestExceeds, name_and_value}
use Rattle.websocket.specs.Headers.{Fields, eq_ignore_case}
use Rattle.web_wire.specs.Heads.{only_value}
use Rattle.service_events.specs.declared.scrape.Method.{Method}
use Rattle.service_events.specs.declared.scrape.Method.TheVariants as method
use Rattle.service_events.specs.declared.scrape.Resource.{Resource}
use Rattle.service_events.specs.declared.scrape.Resource.TheVariants as resource
use Rattle.service_events.specs.declared.scrape.HttpStatus.{HttpStatus}
use Rattle.service_events.specs.declared.scrape.HttpStatus.TheVariants as status

-- the most bytes of a head, and the most fields
abbrev pub most_head : ℕ
most_head = 4096

abbrev pub most_fields : ℕ
most_fields = 64

-- the first bytes of a request; later ones are dropped, since the status doesn't depend on them
abbrev pub with_more : (old bytes : List ℕ) → List ℕ
with_more old bytes = take most_head (old ++ bytes)

-- a client has 5 seconds, here in milliseconds
abbrev pub client_time : ℕ
client_time = 5000

-- whether a client that connected at `began` has had its time at `now`, in milliseconds
abbrev pub is_late : (began now : ℕ) → Bool
is_late began now = nat_le client_time (now - began)

-- the bytes before the first one that is `end`; all if there is none
abbrev pub before : (end : ℕ) → List ℕ → List ℕ
before end bytes = option_map_or (λ place. take place bytes) (position (λ byte. byte == end) bytes) bytes

-- a target without its query, which follows the first `?`
abbrev pub path_of : List ℕ → List ℕ
path_of target = before 63 target

-- the resource with this path
abbrev pub resource_of : List ℕ → Option Resource
resource_of path =
    if bytes_eq path (codes "/metrics") then Some resource.Metrics else
    if bytes_eq path (codes "/sessions") then Some resource.Sessions else
    if bytes_eq path (codes "/sessions.json") then Some resource.SessionData else None

-- whether this is what may follow the name of a host: nothing, or a port (RFC 9112, section 3.2)
abbrev pub is_port : List ℕ → Bool
is_port [] = true
is_port (byte ∷ digits) = byte == 58 && list_all is_ascii_digit digits

-- whether a host is this name, at any port
abbrev pub is_name_with_port : (name host : List ℕ) → Bool
is_name_with_port name host = starts_with nat_eq host name && is_port (drop (length name) host)

-- whether a host is this machine, at any port
abbrev pub is_local : List ℕ → Bool
is_local host = is_name_with_port (codes "127.0.0.1") host
    || (is_name_with_port (codes "localhost") host || is_name_with_port (codes "[::1]") host)

-- whether there is a field with this name
abbrev pub has_field : Fields → (name : List ℕ) → Bool
has_field fields name = list_any (λ field. eq_ignore_case field.0 name) fields

-- A request must have one field Host, which HTTP/1.0 may lack (RFC 9112, section 3.2). It must name this machine,
-- against DNS rebinding. `host` is the value of the only one; `lacks` is whether there is none.
abbrev pub host_refusal : (minor : ℕ) → (lacks : Bool) → (host : Option (List ℕ)) → Option HttpStatus
host_refusal minor lacks None = if minor == 0 && lacks then None else Some status.BadRequest
host_refusal minor lacks (Some host) = if is_local host then None else Some status.Forbidden

-- the method with this name, of those that the resources have
abbrev pub method_of : List ℕ → Option Method
method_of name =
    if bytes_eq name (codes "GET") then Some method.Get else
    if bytes_eq name (codes "HEAD") then Some method.Head else None

-- the status for a resource
abbrev pub status_for_resource : Method → Option Resource → HttpStatus
status_for_resource asked None = status.NotFound
status_for_resource asked (Some found) = status.Found asked found

abbrev pub status_for_method : Option Method → (target : List ℕ) → HttpStatus
status_for_method (Some asked) target = status_for_resource asked (resource_of (path_of target))
status_for_method None target = status.MethodNotAllowed

-- the status of a complete head with this method, target and refusal by its host
abbrev pub status_of_parts : (name target : List ℕ) → (refusal : Option HttpStatus) → HttpStatus
status_of_parts name target refusal = unwrap_or refusal (status_for_method (method_of name) target)

abbrev pub refusal_of : (minor : ℕ) → Fields → Option HttpStatus
refusal_of minor fields =
    host_refusal minor (not (has_field fields (codes "Host"))) (only_value fields (codes "Host"))

abbrev pub status_of : RequestHead → HttpStatus
status_of head = status_of_parts head.method head.target (refusal_of head.minor (map name_and_value head.fields))

-- holds if the bytes begin with a complete head that has this status
abbrev pub HasHead : List ℕ → HttpStatus → Type 0
HasHead bytes found =
    (head : RequestHead) × (rest : List ℕ) × ReadsRequest bytes head rest × (found ≡ status_of head)

-- Holds if the bytes have this status. A head is too large if it isn't complete within the most bytes, or has more than
-- the most fields.
abbrev pub IsCalledFor : List ℕ → HttpStatus → Type 0
IsCalledFor bytes (status.Found asked found) = HasHead bytes (status.Found asked found)
IsCalledFor bytes status.Forbidden = HasHead bytes status.Forbidden
IsCalledFor bytes status.NotFound = HasHead bytes status.NotFound
IsCalledFor bytes status.MethodNotAllowed = HasHead bytes status.MethodNotAllowed
IsCalledFor bytes status.BadRequest = HasHead bytes status.BadRequest ⊎ NeverHasRequest bytes
IsCalledFor bytes status.HeadTooLarge = (HasNoRequest bytes × (most_head ≤ length bytes))
    ⊎ RequestExceeds most_fields bytes

-- Holds if there is no status yet: the bytes have no complete head, and more of them may follow.
abbrev pub IsAnswerTo : List ℕ → Option HttpStatus → Type 0
IsAnswerTo bytes None = HasNoRequest bytes × (length bytes < most_head)
IsAnswerTo bytes (Some found) = IsCalledFor bytes found

-- The origins at which a server may be used (RFC 6454, section 6.2; which ones: our profile).
use Rattle.std.specs.Prelude.{◌≡◌, ℕ, ◌==◌, Bool, not, ◌&&◌, ◌||◌, List, [], ◌∷◌, ◌++◌, drop, codes, decimal, bytes_eq, nat_eq, Option, None, Some, is_some, Ok, Err, ⊤, if◌then◌else◌}
use Rattle.std.specs.List.{list_any, starts_with}
use Rattle.url.specs.Parts.{Parts, has_credentials}
use Rattle.url.specs.Parser.{parse_url}
use Rattle.url.specs.Origin.{ascii_serialization, is_http, origin_of}
use Rattle.web_wire.specs.declared.origin.OriginFault.{OriginFault}
use Rattle.web_wire.specs.declared.origin.OriginFault.TheVariants as fault

-- whether a URL has nothing but scheme, host and port
abbrev pub is_bare : Parts → Bool
is_bare url = not (has_credentials url)
    && (bytes_eq url.path (codes "/") && (not (is_some url.query) && not (is_some url.fragment)))

-- the reason for which a URL isn't taken as an origin; None if it is
abbrev pub refusal : Parts → Option OriginFault
refusal url =
    if is_http url.scheme then (if is_bare url then None else Some fault.NotOnlyOrigin) else Some fault.NotHttp

-- the origin of a URL, as a browser sends it in the field Origin
abbrev pub origin_text : Parts → List ℕ
origin_text url = ascii_serialization (origin_of url)

-- holds if the text is a URL of this origin
abbrev pub IsOrigin : (text origin : List ℕ) → Type 0
IsOrigin text origin =
    (url : Parts) × (parse_url None text ≡ Ok url) × (refusal url ≡ None) × (origin ≡ origin_text url)

-- holds if a text is refused for this reason
abbrev pub IsRefused : List ℕ → OriginFault → Type 0
IsRefused text fault.Memory = ⊤
IsRefused text (fault.NotUrl e) = parse_url None text ≡ Err e
IsRefused text found = (url : Parts) × (parse_url None text ≡ Ok url) × (refusal url ≡ Some found)

-- what follows the host's name for a port: nothing for the default one of http
abbrev pub port_suffix : ℕ → List ℕ
port_suffix port = if port == 80 then codes "" else codes ":" ++ decimal port

abbrev pub local_origin : (host : List ℕ) → (port : ℕ) → List ℕ
local_origin host port = codes "http://" ++ (host ++ port_suffix port)

-- the origins of a server at this port for browsers on the same machine
abbrev pub local_origins : ℕ → List (List ℕ)
local_origins port =
    local_origin (codes "127.0.0.1") port ∷ local_origin (codes "localhost") port ∷ []

-- whether this is one of the origins
abbrev pub is_allowed_origin : (origins : List (List ℕ)) → List ℕ → Bool
is_allowed_origin origins value = list_any (λ origin. bytes_eq origin value) origins

-- whether this is the host, with the port, of an origin
abbrev pub is_host_of : (origin host : List ℕ) → Bool
is_host_of origin host =
    (starts_with nat_eq origin (codes "http://") && bytes_eq (drop 7 origin) host)
    || (starts_with nat_eq origin (codes "https://") && bytes_eq (drop 8 origin) host)

-- whether this is the host of one of the origins
abbrev pub is_allowed_host : (origins : List (List ℕ)) → List ℕ → Bool
is_allowed_host origins value = list_any (λ origin. is_host_of origin value) origins

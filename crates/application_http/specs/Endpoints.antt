-- The URL at which an application listens (our profile): http, an address of this machine, and no part that isn't sent.
use Rattle.std.specs.Prelude.{ℕ, Bool, false, not, ◌==◌, List, [], ◌∷◌, codes, bytes_eq, slice_index, Option, Some, None, is_some, unwrap_or, ⊤, if◌then◌else◌, ◌≡◌, Ok, Err}
use Rattle.std.specs.declared.net.ip_addr.IpAddr.{IpAddr}
use Rattle.std.specs.declared.net.ip_addr.IpAddr.TheVariants.{V4, V6}
use Rattle.std.specs.Net.Addr.{ipv4_octets, ipv6_segments, IsLoopbackV4, IsLoopbackV6}
use Rattle.url.specs.Parts.{Parts, has_credentials, nonempty_host, text_between}
use Rattle.url.specs.Parser.{parse_url}
use Rattle.url.specs.declared.host.Host.{Host}
use Rattle.url.specs.declared.host.Host.TheVariants.{Domain, Ipv4, Ipv6}
use Rattle.url.specs.declared.slicing.Position.TheVariants.{BeforeHost, AfterPort}
use Rattle.application_http.specs.declared.endpoint.EndpointFault.{EndpointFault}
use Rattle.application_http.specs.declared.endpoint.EndpointFault.TheVariants as fault

-- whether the host names this machine: localhost, 127.0.0.0/8 or ::1
abbrev pub is_local : Option (Host (List ℕ)) → Bool
is_local None = false
is_local (Some (Domain name)) = bytes_eq name (codes "localhost")
is_local (Some (Ipv4 address)) = slice_index (ipv4_octets address) 0 == 127
is_local (Some (Ipv6 address)) = bytes_eq (ipv6_segments address) (0 ∷ 0 ∷ 0 ∷ 0 ∷ 0 ∷ 0 ∷ 0 ∷ 1 ∷ [])

-- the first reason for which a URL is refused; None if it is accepted
abbrev pub refusal : Parts → Option EndpointFault
refusal url =
    if not (bytes_eq url.scheme (codes "http")) then Some fault.NotHttp
    else (if has_credentials url then Some fault.HasUser
    else (if is_some url.fragment then Some fault.HasFragment
    else (if is_local (nonempty_host url) then None else Some fault.NotThisMachine)))

-- holds if this is the URL of an application
abbrev pub IsEndpoint : Parts → Type 0
IsEndpoint url = refusal url ≡ None

-- holds if a text is refused for this reason
abbrev pub IsRefused : List ℕ → EndpointFault → Type 0
IsRefused text fault.Memory = ⊤
IsRefused text (fault.NotUrl e) = parse_url None text ≡ Err e
IsRefused text found = (url : Parts) × (parse_url None text ≡ Ok url) × (refusal url ≡ Some found)

-- holds if the address is of this machine: 127.0.0.0/8 or ::1
abbrev pub IsLoopback : IpAddr → Type 0
IsLoopback (V4 address) = IsLoopbackV4 address
IsLoopback (V6 address) = IsLoopbackV6 address

-- holds if this is the host's IP address; that of localhost is 127.0.0.1
abbrev pub IsAddressOf : Option (Host (List ℕ)) → IpAddr → Type 0
IsAddressOf (Some (Ipv4 address)) ip = ip ≡ V4 address
IsAddressOf (Some (Ipv6 address)) ip = ip ≡ V6 address
IsAddressOf _ (V4 address) = ipv4_octets address ≡ 127 ∷ 0 ∷ 0 ∷ 1 ∷ []
IsAddressOf _ (V6 address) = ⊥

-- the port, 80 if the URL names none (RFC 9110, section 4.2.1)
abbrev pub port_of : Parts → ℕ
port_of url = unwrap_or url.port 80

-- the request target is the path and the query after a question mark (RFC 9112, section 3.2.1)
abbrev pub query_mark : Parts → List ℕ
query_mark url = if is_some url.query then codes "?" else codes ""

abbrev pub query_text : Parts → List ℕ
query_text url = unwrap_or url.query (codes "")

-- the field Host: the host and the port as the URL has them (RFC 9112, section 3.2)
abbrev pub host_of : Parts → List ℕ
host_of url = text_between url BeforeHost AfterPort

-- The values of options (our profile).
use Rattle.std.specs.Prelude.{ℕ, ◌==◌, ◌&&◌, Bool, false, nat_le, List, [], ◌∷◌, Option, Some, None, option_map, if◌then◌else◌, bytes_eq, codes}
use Rattle.std.specs.List.{after_first, before_first}
use Rattle.std.specs.Option.{option_and_then, option_map_or}
use Rattle.std.specs.Net.Reader.{read_ipv4, read_ipv6, whole_value}
use Rattle.std.specs.declared.net.ip_addr.IpAddr.{IpAddr}
use Rattle.std.specs.declared.net.ip_addr.IpAddr.TheVariants as ip
use Rattle.codes3270.specs.declared.size.Model.{Model}
use Rattle.codes3270.specs.declared.size.Model.TheVariants.{M2, M3, M4, M5}
use Rattle.jobs.specs.LineParts.{number_of}
use Rattle.jobs.specs.declared.endpoint.HostEndpoint.{HostEndpoint}
use Rattle.tty.specs.declared.colors.Colors.{Colors}
use Rattle.tty.specs.declared.colors.Colors.TheVariants.{Dark}
use Rattle.jobs.specs.declared.tty_size.TtySize.{TtySize}

-- the number from `low` to `high` that a word has in decimal digits; None if it has none
abbrev pub number_in_word : (low high : ℕ) → List ℕ → Option ℕ
number_in_word low high word =
    option_and_then (λ number. if nat_le low number && nat_le number high then Some number else None) (number_of word)

-- a port number that needs no privileges
abbrev pub port_of : List ℕ → Option ℕ
port_of word = number_in_word 1024 65535 word

-- a port number of a service
abbrev pub service_port_of : List ℕ → Option ℕ
service_port_of word = number_in_word 1 65535 word

-- whether another port is given and is equal to this one
abbrev pub is_same_port : ℕ → Option ℕ → Bool
is_same_port port None = false
is_same_port port (Some other) = port == other

-- a time limit in seconds; 0 is no limit
abbrev pub seconds_of : List ℕ → Option ℕ
seconds_of word = number_in_word 0 1000000 word

-- how long an application may take for a reply, in seconds
abbrev pub reply_time_of : List ℕ → Option ℕ
reply_time_of word = number_in_word 1 3600 word

abbrev pub turns_of : List ℕ → Option ℕ
turns_of word = number_in_word 1 1000000 word

-- the 3278 model with this number, 2 to 5
abbrev pub model_numbered : ℕ → Option Model
model_numbered number =
    if number == 2 then Some M2 else
    if number == 3 then Some M3 else
    if number == 4 then Some M4 else
    if number == 5 then Some M5 else
    None

abbrev pub model_of : List ℕ → Option Model
model_of word = option_and_then model_numbered (number_of word)

-- 127.0.0.1
abbrev pub this_machine : IpAddr
this_machine = ip.V4 (record { octets = 127 ∷ 0 ∷ 0 ∷ 1 ∷ [] })

-- the address that a word spells: four decimal octets, otherwise the groups of an IPv6 address (RFC 4291, 2.2)
unfoldable pub written_address : List ℕ → Option IpAddr
written_address word =
    option_map_or (λ octets. Some (ip.V4 (record { octets = octets }))) (whole_value (read_ipv4 word))
    (option_map (λ segments. ip.V6 (record { segments = segments })) (whole_value (read_ipv6 word)))

-- the address that a word means: 127.0.0.1 for `localhost` (RFC 6761, 6.3), otherwise the one that it spells
abbrev pub address_of : List ℕ → Option IpAddr
address_of word = if bytes_eq word (codes "localhost") then Some this_machine else written_address word

-- the most sessions of `web`
abbrev pub session_count_of : List ℕ → Option ℕ
session_count_of word = number_in_word 1 64 word

-- the most sessions of `web` for one address; 0 is no limit
abbrev pub address_count_of : List ℕ → Option ℕ
address_count_of word = number_in_word 0 64 word

abbrev pub is_colon : ℕ → Bool
is_colon char = char == 58

-- the host that a word names: a port of this machine, or an address, a colon and a port
abbrev pub endpoint_of : List ℕ → Option HostEndpoint
endpoint_of word =
    if bytes_eq (after_first is_colon word) []
    then option_map (λ port. record { host = this_machine; port = port }) (service_port_of word)
    else option_and_then
    (λ host. option_map (λ port. record { host = host; port = port }) (service_port_of (after_first is_colon word)))
    (address_of (before_first is_colon word))

-- the letter between rows and columns
abbrev pub is_x : ℕ → Bool
is_x char = char == 120

-- a number of rows or columns of a tty
abbrev pub tty_side_of : List ℕ → Option ℕ
tty_side_of word = number_in_word 1 9999 word

-- the size of a tty in a word such as `24x80`: its rows and its columns
abbrev pub tty_size_of : List ℕ → Option TtySize
tty_size_of word =
    option_and_then
    (λ rows. option_map (λ columns. record { rows = rows; columns = columns }) (tty_side_of (after_first is_x word)))
    (tty_side_of (before_first is_x word))

-- ---- the values of options that aren't given

abbrev pub usual_turns : ℕ
usual_turns = 10000

abbrev pub usual_model : Model
usual_model = M2

-- the time without a byte that ends a lone ESC, in milliseconds
abbrev pub escape_time_of : List ℕ → Option ℕ
escape_time_of word = number_in_word 1 10000 word

abbrev pub usual_escape : ℕ
usual_escape = 500

abbrev pub usual_colors : Colors
usual_colors = Dark

abbrev pub usual_reply_time : ℕ
usual_reply_time = 30

abbrev pub usual_negotiate : ℕ
usual_negotiate = 30

abbrev pub usual_keepalive : ℕ
usual_keepalive = 60

abbrev pub usual_idle : ℕ
usual_idle = 0

abbrev pub usual_drain : ℕ
usual_drain = 0

abbrev pub usual_sessions : ℕ
usual_sessions = 64

abbrev pub usual_keep : ℕ
usual_keep = 120

abbrev pub usual_address_count : ℕ
usual_address_count = 0

-- The networks of clients, by which they are counted (our profile).
use Rattle.std.specs.Prelude.{ℕ, ◌+◌, ◌/◌, ◌^◌, ◌==◌, ◌&&◌, Bool, not, nat_le, nat_lt, List, length, filter, Option, position}
use Rattle.std.specs.Net.Addr.{ipv4_bits, ipv6_bits}
use Rattle.std.specs.declared.net.ip_addr.IpAddr.{IpAddr}
use Rattle.std.specs.declared.net.ip_addr.IpAddr.TheVariants.{V4, V6}

-- The number of a client's network: an IPv4 address has its own; of IPv6 addresses those have one whose first 64 bits are
-- equal (RFC 4291, 2.5.1), of which one client may have all.
abbrev pub network_of : IpAddr → ℕ
network_of (V4 address) = ipv4_bits address
network_of (V6 address) = 2 ^ 64 + ipv6_bits address / 2 ^ 64

-- how many of these are of a network
abbrev pub count_of : {T : Type 0} → (of : T → ℕ) → (network : ℕ) → List T → ℕ
count_of of network all = length (filter (λ it. of it == network) all)

-- whether a network has as many sessions as it may have; 0 is no limit
abbrev pub has_most : {T : Type 0} → (of : T → ℕ) → (network most : ℕ) → List T → Bool
has_most of network most all = not (most == 0) && nat_le most (count_of of network all)

-- the most clients without a session of one network that keep their places from those of others
abbrev pub fair_share : ℕ
fair_share = 8

-- whether a client of another network makes room for one of this network, since it has more than its share
abbrev pub is_crowd : {V : Type 0} → (of : V → ℕ) → (network : ℕ) → List V → (other : ℕ) → Bool
is_crowd of network visitors other = not (other == network) && nat_lt fair_share (count_of of other visitors)

-- the first client of a network that has more than its share, if a client of another network comes
abbrev pub crowded_place : {V : Type 0} → (of : V → ℕ) → (network : ℕ) → List V → Option ℕ
crowded_place of network visitors = position (λ it. is_crowd of network visitors (of it)) visitors

-- The address that a parse gives is the one that the word writes.
use Rattle.std.proofs.Common.{◌≡◌, ◌∙◌, refl, sym, ap, subst, arith, ne_eqb, ℕ, List, [], ◌∷◌, ◌++◌, length, Some, None, Result, Ok, Err, append-nil, lit≤}
use Rattle.std.specs.Result.{result_ok}
use Rattle.std.specs.Net.Grammar.{IsColonHex, IsDotted, IsIpText, Parses}
use Rattle.std.specs.Net.Reader.{Read, read_ipv4, read_ipv6, whole_value}
use Rattle.std.specs.declared.net.ip_addr.IpAddr.{IpAddr}
use Rattle.std.specs.declared.net.ip_addr.IpAddr.TheVariants as ip
use Rattle.std.proofs.NetLemmas.Ipv4.{read_ipv4_complete, read_ipv4_sound}
use Rattle.std.proofs.NetLemmas.Ipv6.{EndsGroups-nil, IsDotted-not_colon_hex, read_ipv6_complete, read_ipv6_sound}
use Rattle.jobs.specs.OptionValues.{written_address}

module _ (Spells : List ℕ → List ℕ → Type 0) (text : List ℕ) (read : Read (List ℕ))
    (sound : (value rest : List ℕ) → read ≡ Some (value, rest) → (front : List ℕ) × (text ≡ front ++ rest) × Spells front value)
    (none : (value : List ℕ) → Spells text value → ⊥) where
  none_at : (value rest : List ℕ) → read ≡ Some (value, rest) → whole_value (Some (value, rest)) ≡ None
  none_at value [] is =
      let (front, split, spells) = sound value [] is in
      absurd (none value (subst (λ (t : List ℕ). Spells t value) (sym (split ∙ append-nil front)) spells))
  none_at value (char ∷ rest) is = rw (ne_eqb (length (char ∷ rest)) 0 (omega arith)) refl

  none_of : (answer : Read (List ℕ)) → read ≡ answer → whole_value answer ≡ None
  none_of None is = refl
  none_of (Some parts) is = none_at parts.0 parts.1 is

  no_whole : whole_value read ≡ None
  no_whole = none_of read refl

whole_ipv4 : (text octets : List ℕ) → IsDotted text octets → whole_value (read_ipv4 text) ≡ Some octets
whole_ipv4 text octets spells = ap whole_value (rw append-nil at (read_ipv4_complete text octets [] spells (lit≤ tt)))

whole_ipv6 : (text segments : List ℕ) → IsColonHex text segments → whole_value (read_ipv6 text) ≡ Some segments
whole_ipv6 text segments spells = ap whole_value (rw append-nil at (read_ipv6_complete text segments [] spells EndsGroups-nil))

no_ipv4 : (text : List ℕ) → ((octets : List ℕ) → IsDotted text octets → ⊥) → whole_value (read_ipv4 text) ≡ None
no_ipv4 text none = no_whole IsDotted text (read_ipv4 text) (λ octets rest is. read_ipv4_sound text octets rest is) none

no_ipv6 : (text : List ℕ) → ((segments : List ℕ) → IsColonHex text segments → ⊥) → whole_value (read_ipv6 text) ≡ None
no_ipv6 text none = no_whole IsColonHex text (read_ipv6 text) (λ segments rest is. read_ipv6_sound text segments rest is) none

pub address_parsed : {E : Type 0} (word : List ℕ) (parsed : Result IpAddr E) → Parses IsIpText word parsed → result_ok parsed ≡ written_address word
unfolding written_address
address_parsed {E} word (Ok (ip.V4 address)) spells = rw (whole_ipv4 word address.octets spells) refl
address_parsed {E} word (Ok (ip.V6 address)) spells =
    rw (no_ipv4 word (λ octets dotted. IsDotted-not_colon_hex word octets address.segments dotted spells), whole_ipv6 word address.segments spells) refl
address_parsed {E} word (Err fault) none =
    rw (no_ipv4 word (λ octets dotted. none (ip.V4 (record { octets = octets })) dotted), no_ipv6 word (λ segments spells. none (ip.V6 (record { segments = segments })) spells)) refl

-- Which words and lines name no client.
use Rattle.std.proofs.Common.{◌≡◌, ◌≢◌, ℕ, List, [], ◌∷◌, ◌++◌, length, get_or, codes, Option, Some, None, sym, ap, ◌∙◌, arith}
use Rattle.std.specs.declared.net.socket_addr.SocketAddr.{SocketAddr}
use Rattle.std.specs.declared.net.socket_addr.SocketAddr.TheVariants.{V4, V6}
use Rattle.std.specs.Net.Grammar.{IsIpv4Text, IsIpv6Text}
use Rattle.service_wire.specs.HeaderLine.{IsTcp, IsPair, IsPort, IsNoPair, IsNoClient, IsLine, words}

-- the parts of equal lists of five words
head_is : {a b : List ℕ} {xs ys : List (List ℕ)} → a ∷ xs ≡ b ∷ ys → a ≡ b
head_is e = cc

tail_is : {a b : List ℕ} {xs ys : List (List ℕ)} → a ∷ xs ≡ b ∷ ys → xs ≡ ys
tail_is e = cc

no_addresses : {A : Type 0} (family : List ℕ) (Spells : List ℕ → A → Type 0) (f s t p q : List ℕ) (address : A) (port : ℕ) → IsNoPair Spells s t → ¬ (IsTcp family Spells (f ∷ s ∷ t ∷ p ∷ q ∷ []) address port)
no_addresses family Spells f s t p q address port none is =
    let rest = tail_is is.all in
    let pair : IsPair Spells s t address = rw (head_is rest, head_is (tail_is rest)) is.addresses in
    none address pair

no_ports : {A : Type 0} (family : List ℕ) (Spells : List ℕ → A → Type 0) (f s t p q : List ℕ) (address : A) (port : ℕ) → IsNoPair IsPort p q → ¬ (IsTcp family Spells (f ∷ s ∷ t ∷ p ∷ q ∷ []) address port)
no_ports family Spells f s t p q address port none is =
    let rest = tail_is (tail_is (tail_is is.all)) in
    let pair : IsPair IsPort p q port = rw (head_is rest, head_is (tail_is rest)) is.ports in
    none port pair

family_is : {A : Type 0} (family : List ℕ) (Spells : List ℕ → A → Type 0) (f : List ℕ) (ws : List (List ℕ)) (address : A) (port : ℕ) → IsTcp family Spells (f ∷ ws) address port → f ≡ family
family_is family Spells f ws address port is = head_is is.all

one_family : codes "TCP4" ≢ codes "TCP6"
one_family e = let same : 52 ≡ 54 = ap (λ text. get_or text 3 0) e in omega (arith, same)

pub no_ipv4_addresses : (f s t p q : List ℕ) → f ≡ codes "TCP4" → IsNoPair IsIpv4Text s t → IsNoClient (f ∷ s ∷ t ∷ p ∷ q ∷ [])
no_ipv4_addresses f s t p q family none (V4 client) is = no_addresses _ _ f s t p q _ _ none is
no_ipv4_addresses f s t p q family none (V6 client) is = one_family (sym family ∙ family_is _ _ _ _ _ _ is.0)

pub no_ipv6_addresses : (f s t p q : List ℕ) → f ≡ codes "TCP6" → IsNoPair IsIpv6Text s t → IsNoClient (f ∷ s ∷ t ∷ p ∷ q ∷ [])
no_ipv6_addresses f s t p q family none (V4 client) is = one_family (sym (family_is _ _ _ _ _ _ is) ∙ family)
no_ipv6_addresses f s t p q family none (V6 client) is = no_addresses _ _ f s t p q _ _ none is.0

pub no_pair_of_ports : (f s t p q : List ℕ) → IsNoPair IsPort p q → IsNoClient (f ∷ s ∷ t ∷ p ∷ q ∷ [])
no_pair_of_ports f s t p q none (V4 client) is = no_ports _ _ f s t p q _ _ none is
no_pair_of_ports f s t p q none (V6 client) is = no_ports _ _ f s t p q _ _ none is.0

pub no_family : (f s t p q : List ℕ) → f ≢ codes "TCP4" → f ≢ codes "TCP6" → IsNoClient (f ∷ s ∷ t ∷ p ∷ q ∷ [])
no_family f s t p q ipv4 ipv6 (V4 client) is = ipv4 (family_is _ _ _ _ _ _ is)
no_family f s t p q ipv4 ipv6 (V6 client) is = ipv6 (family_is _ _ _ _ _ _ is.0)

pub not_five : (ws : List (List ℕ)) → length ws ≢ 5 → IsNoClient ws
not_five ws other (V4 client) is = other (ap length is.all)
not_five ws other (V6 client) is = other (ap length is.0.all)

pub no_line : (line : List ℕ) (ws : List (List ℕ)) → ((rest : List ℕ) → ¬ (line ≡ codes "UNKNOWN" ++ rest)) → words line ≡ ws → IsNoClient ws → (client : Option SocketAddr) → ¬ (IsLine line client)
no_line line ws other are none None is = other is.0 is.1
no_line line ws other are none (Some client) is = none client (rw are at is)

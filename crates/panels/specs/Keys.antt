-- The keys that may lead from a panel to another, and what the application may decide on (our profile).
use Rattle.std.specs.Prelude.{codes, ℕ, ◌+◌, ◌≤◌, ◌||◌, Bool, List, [], ◌∷◌, Option, Some, None, option_and_then, slice_get, bytes_eq}
use Rattle.std.specs.List.{list_any}
use Rattle.codes3270.specs.declared.attention.Aid.{Aid}
use Rattle.codes3270.specs.declared.attention.Aid.TheVariants.{NoAid, Enter, Clear, Pf, Pa}

-- `enter`, `clear`, `pa1` to `pa3`, `pf1` to `pf24`
abbrev pub key_names : List (List ℕ)
key_names =
    codes "enter" ∷ codes "clear" ∷ codes "pa1" ∷ codes "pa2" ∷ codes "pa3" ∷ codes "pf1" ∷ codes "pf2" ∷ codes "pf3"
    ∷ codes "pf4"
    ∷ codes "pf5" ∷ codes "pf6" ∷ codes "pf7" ∷ codes "pf8" ∷ codes "pf9" ∷ codes "pf10" ∷ codes "pf11" ∷ codes "pf12"
    ∷ codes "pf13"
    ∷ codes "pf14" ∷ codes "pf15" ∷ codes "pf16" ∷ codes "pf17" ∷ codes "pf18" ∷ codes "pf19" ∷ codes "pf20"
    ∷ codes "pf21" ∷ codes "pf22"
    ∷ codes "pf23" ∷ codes "pf24" ∷ []

abbrev pub is_key_name : List ℕ → Bool
is_key_name name = list_any (bytes_eq name) key_names

-- the name in `asks` by which the application decides what a session shows first
abbrev pub connect_name : List ℕ
connect_name = codes "connect"

-- whether `asks` may have a name: that of a key, or `connect`
abbrev pub is_asked_name : List ℕ → Bool
is_asked_name name = is_key_name name || bytes_eq name connect_name

-- the index of a key in `key_names`: PA1 to PA3 have 2 to 4, PF1 to PF24 have 5 to 28
abbrev pub place_of_key : Aid → Option ℕ
place_of_key NoAid = None
place_of_key Enter = Some 0
place_of_key Clear = Some 1
place_of_key (Pa number) = Some (1 + number)
place_of_key (Pf number) = Some (4 + number)

-- the name of a key in a panel text
abbrev pub name_of_key : Aid → Option (List ℕ)
name_of_key aid = option_and_then (slice_get key_names) (place_of_key aid)

-- holds if the number of a PF key is 1 to 24, and that of a PA key 1 to 3
abbrev pub IsKey : Aid → Type 0
IsKey (Pf number) = (1 ≤ number) × (number ≤ 24)
IsKey (Pa number) = (1 ≤ number) × (number ≤ 3)
IsKey _ = Unit {0}

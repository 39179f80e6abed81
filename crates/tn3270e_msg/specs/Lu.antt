-- Names of logical units (our profile).
use Rattle.std.specs.Prelude.{◌≡◌, ℕ, ◌-◌, Bool, true, false, ◌&&◌, ◌||◌, not, ◌==◌, nat_le, List, [], ◌∷◌, ◌++◌, length, take, replicate, map, Option, None, Some, if◌then◌else◌}
use Rattle.std.specs.List.{list_all}
use Rattle.std.specs.Char.{is_ascii_digit, is_ascii_uppercase, to_ascii_uppercase}

-- whether a byte can be in an LU name: A to Z, 0 to 9, @, # and $
abbrev pub is_lu_letter : ℕ → Bool
is_lu_letter letter =
    is_ascii_uppercase letter || (is_ascii_digit letter || (letter == 0x40 || (letter == 0x23 || letter == 0x24)))

-- whether this is an LU name: one to eight of these bytes, the first not a digit
abbrev pub is_lu : List ℕ → Bool
is_lu [] = false
is_lu (first ∷ rest) = not (is_ascii_digit first)
    && (list_all is_lu_letter (first ∷ rest) && nat_le (length (first ∷ rest)) 8)

-- the LU name that a text is, in upper or lower case
abbrev pub lu_of : List ℕ → Option (List ℕ)
lu_of text = if is_lu (map to_ascii_uppercase text) then Some (map to_ascii_uppercase text) else None

-- a name with zeros after it, up to eight bytes
abbrev pub padded : List ℕ → List ℕ
padded name = name ++ replicate (8 - length name) 0

-- holds if these are eight bytes, of which the first `count` are an LU name and the rest are 0
pub record IsPadded (letters : List ℕ) (count : ℕ) : Type 0 where
  pub is_lu : is_lu (take count letters) ≡ true
  pub all : count ≡ length (take count letters)
  pub padded : letters ≡ padded (take count letters)

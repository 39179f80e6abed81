-- For proofs alone: the returned fields, one after another (our profile).
use Rattle.std.specs.Prelude.{◌==◌, ℕ, List, [], ◌∷◌, Option, Some, None, if◌then◌else◌}
use Rattle.codes3270.specs.Size.{most_cells}
use Rattle.datastream.specs.InboundFields.{Returned}

-- the next returned field, with its first cell's address and its text, and those after it; none if that is `most_cells`
abbrev pub came_of : ℕ → List ℕ → List Returned → List Returned
came_of first text rest = if first == most_cells then [] else record { first = first; text = text } ∷ rest

-- the text of the next returned field, if its first cell is at an address
abbrev pub text_at : ℕ → List Returned → Option (List ℕ)
text_at first [] = None
text_at first (came ∷ more) = if first == came.first then Some came.text else None

-- the fields after the next one if its first cell is at an address, else all of them
abbrev pub came_past : ℕ → List Returned → List Returned
came_past first [] = []
came_past first (came ∷ more) = if first == came.first then more else came ∷ more

-- For proofs alone: what a call of several parts appends to a writer's vector (our profile).
use Rattle.std.specs.Prelude.{◌≡◌, ⊤, true, ℕ, List, Result, Vec}
use Rattle.std.specs.Borrow.{MutBor}
use Rattle.codes3270.specs.Appending.{AppendsSome}
use Rattle.codes3270.specs.declared.attribute.Cell.{Cell}
use Rattle.codes3270.specs.declared.attribute.Cell.TheVariants.{Char, Attr}
use Rattle.codes3270.specs.Storable.{is_storable}

-- holds if the call appended the bytes, or appended a first part of them and returned an error
pub record WritesSome {A E : Type 0} (old new : MutBor (Vec ℕ A)) (result : Result (Unit {0}) E)
    (bytes : List ℕ) : Type 0 where
  pub same_vector : new.ghost_name ≡ old.ghost_name
  pub appends : AppendsSome old.now new.now result bytes

abbrev pub IsStorableCell : Cell → Type 0
IsStorableCell (Char byte) = is_storable byte ≡ true
IsStorableCell (Attr attribute) = ⊤

-- Changes that leave characters as they are.
use Rattle.std.proofs.Common.{◌≡◌, ℕ, refl}
use Rattle.codes3270.specs.declared.attribute.Cell.TheVariants.{Char}
use Rattle.datastream.specs.Meaning.{unmodified, open_unmodified}

pub keeps_unmodified : (code : ℕ) → unmodified (Char code) ≡ Char code
keeps_unmodified code = refl

pub keeps_open_unmodified : (code : ℕ) → open_unmodified (Char code) ≡ Char code
keeps_open_unmodified code = refl

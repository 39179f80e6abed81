-- How the names of panels' LUs are read.
use Rattle.std.proofs.Common.{◌≡◌, refl, ap, ◌∙◌, ℕ, List, [], ◌∷◌, map, String, string_bytes}
use Rattle.tn3270e_msg.specs.Lu.{lu_of}
use Rattle.lu_pool.specs.Reading.{parsed_names}

each_read : {Z : Type 0} (names : List (String Z)) → parsed_names names ≡ map lu_of (map string_bytes names)
each_read [] = refl
each_read (name ∷ names) = ap (λ lus. lu_of (string_bytes name) ∷ lus) (each_read names)

pub lus_read : {Z : Type 0} (names : List (String Z)) (lus : List (List ℕ)) → map string_bytes names ≡ lus → parsed_names names ≡ map lu_of lus
lus_read names lus is = each_read names ∙ ap (map lu_of) is

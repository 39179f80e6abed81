-- For proofs alone: borrowed texts (our profile).
use Rattle.std.specs.Prelude.{ℕ, List, Option, option_map}
use Rattle.std.specs.Borrow.{Bor}
use Rattle.shadow.specs.Belief.{Belief}
use Rattle.shadow.specs.Heard.{Answer}

abbrev pub text_of : Option (Bor (List ℕ)) → Option (List ℕ)
text_of text = option_map (λ t. t.now) text

abbrev pub answer : Belief → Option (List ℕ) → Answer
answer field text = record { field = field; text = text }

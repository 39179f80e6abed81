-- The words of a line, from one space to the next.
use Rattle.std.proofs.Common.{◌≡◌, ℕ, ◌+◌, ◌<◌, Bool, false, ◌==◌, List, [], ◌∷◌, length, take, drop, Some, None, ap, arith, position, lt-ltb, inl, inr}
use Rattle.std.specs.List.{position_or_len}
use Rattle.std.proofs.lemmas.Bool.{cases_lt}
use Rattle.std.proofs.lemmas.List.Elements.{All-from_get_or}
use Rattle.std.proofs.lemmas.List.Splits.{slice_split_none, slice_split_first, length-slice_split}
use Rattle.std.proofs.lemmas.List.Sums.{fails_before_first}
use Rattle.service_wire.specs.HeaderLine.{words}

is_space : ℕ → Bool
is_space byte = byte == 0x20

pub no_space : (text : List ℕ) → position (λ byte. byte == 0x20) text ≡ None → words text ≡ text ∷ []
unfolding words
no_space text none =
    elim (cases_lt (position_or_len (λ byte. byte == 0x20) text) (length text)) [
      | inl inside ↦ absurd (let found : position (λ byte. byte == 0x20) text ≡ Some (position_or_len (λ byte. byte == 0x20) text) = rw (lt-ltb _ _ inside) in cc)
      | inr past ↦ slice_split_none (λ byte. byte == 0x20) text (All-from_get_or (λ byte. (byte == 0x20) ≡ false) text 0 (λ k h. fails_before_first (λ byte. byte == 0x20) text k 0 (omega arith)))
    ]

pub first_space : (text : List ℕ) (at : ℕ) → position (λ byte. byte == 0x20) text ≡ Some at → (words text ≡ take at text ∷ words (drop (at + 1) text)) × (at < length text)
unfolding words
first_space text at some =
    elim (cases_lt (position_or_len (λ byte. byte == 0x20) text) (length text)) [
      | inl inside ↦
          let found : position (λ byte. byte == 0x20) text ≡ Some (position_or_len (λ byte. byte == 0x20) text) = rw (lt-ltb _ _ inside) in
          let here : position_or_len (λ byte. byte == 0x20) text ≡ at = cc in
          (rw (← here) (slice_split_first (λ byte. byte == 0x20) text 0 inside), rw (← here) inside)
      | inr past ↦ absurd (let none : position (λ byte. byte == 0x20) text ≡ None = search (arith) in cc)
    ]

pub some_word : (text : List ℕ) → 0 < length (words text)
unfolding words
some_word text = omega (arith, length-slice_split (λ byte. byte == 0x20) text)

pub six_words : (line one two three four five a b c d e : List ℕ) → words line ≡ a ∷ words one → words one ≡ b ∷ words two → words two ≡ c ∷ words three → words three ≡ d ∷ words four → words four ≡ e ∷ words five → ¬ (length (words line) ≡ 5)
six_words line one two three four five a b c d e first second third fourth fifth all =
    omega (arith, all, ap length first, ap length second, ap length third, ap length fourth, ap length fifth, some_word five)

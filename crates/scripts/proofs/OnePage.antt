-- An input has no two pages.
use Rattle.std.proofs.Common.{◌≡◌, sym, ap, subst, ◌∙◌, List, [], ◌∷◌, ◌++◌, ℕ, ◌+◌, Option, None, Some}
use Rattle.codes3270.specs.Size.{alternate_of}
use Rattle.codes3270.specs.declared.size.Model.{Model}
use Rattle.datastream.specs.Grammar.{CommandParts}
use Rattle.datastream.specs.declared.fault.CommandFault.{CommandFault}
use Rattle.datastream.proofs.Commands.{one_command, command_or_fault, one_command_fault}
use Rattle.presentation.specs.Sizes.{SizedScreen, applied}
use Rattle.jobs.specs.HexLines.{bytes_of_line}
use Rattle.scripts.specs.Pages.{TakesCommand, accepted, refused, refusal_line, TakesLine, Prints, IsPage}

one_taking : (bytes : List ℕ) (old new other : SizedScreen) (said told : List ℕ) → TakesCommand bytes old new said → TakesCommand bytes old other told
    → (new ≡ other) × (said ≡ told)
one_taking bytes old new other said told (accepted a is_a new_is said_is) (accepted b is_b other_is told_is) =
    let same : a ≡ b = one_command old.size (alternate_of old.model) a b bytes is_a is_b in
    (new_is ∙ ap (λ (command : CommandParts). applied command old) same ∙ sym other_is, said_is ∙ sym told_is)
one_taking bytes old new other said told (accepted a is_a new_is said_is) (refused g is_g other_is told_is) = absurd (command_or_fault old.size (alternate_of old.model) a g bytes is_a is_g)
one_taking bytes old new other said told (refused f is_f new_is said_is) (accepted b is_b other_is told_is) = absurd (command_or_fault old.size (alternate_of old.model) b f bytes is_b is_f)
one_taking bytes old new other said told (refused f is_f new_is said_is) (refused g is_g other_is told_is) =
    let same : f ≡ g = one_command_fault old.size (alternate_of old.model) f g bytes is_f is_g in
    (new_is ∙ sym other_is, said_is ∙ ap (λ (fault : CommandFault). refusal_line fault) same ∙ sym told_is)

one_line : (found : Option (List ℕ)) (number : ℕ) (others : List (List ℕ)) (screen : SizedScreen) (printed text : List ℕ) (m n : Option ℕ)
    → ((new : SizedScreen) (behind rest : List ℕ) → Prints (number + 1) others new behind m → Prints (number + 1) others new rest n → (behind ≡ rest) × (m ≡ n))
    → TakesLine found number (λ new behind. Prints (number + 1) others new behind m) screen printed m
    → TakesLine found number (λ new behind. Prints (number + 1) others new behind n) screen text n
    → (printed ≡ text) × (m ≡ n)
one_line None number others screen printed text m n one_rest a b = (a.0 ∙ sym b.0, a.1 ∙ sym b.1)
one_line (Some bytes) number others screen printed text m n one_rest a b =
    let same = one_taking bytes screen a.0 b.0 a.1 b.1 a.3 b.3 in
    let rest = one_rest b.0 a.2 b.2 (subst (λ (new : SizedScreen). Prints (number + 1) others new a.2 m) same.0 a.4) b.4 in
    (a.5 ∙ ap (λ (front : List ℕ). front ++ a.2) same.1 ∙ ap (λ (back : List ℕ). b.1 ++ back) rest.0 ∙ sym b.5, rest.1)

one_printing : (lines : List (List ℕ)) (number : ℕ) (screen : SizedScreen) (printed text : List ℕ) (m n : Option ℕ)
    → Prints number lines screen printed m → Prints number lines screen text n → (printed ≡ text) × (m ≡ n)
one_printing [] number screen printed text m n a b = (a.0 ∙ sym b.0, a.1 ∙ sym b.1)
one_printing (line ∷ others) number screen printed text m n a b =
    one_line (bytes_of_line line) number others screen printed text m n (λ new behind rest. one_printing others (number + 1) new behind rest m n) a b

pub one_page : (model : Model) (input printed text : List ℕ) (m n : Option ℕ) → IsPage model input printed m → IsPage model input text n
    → (printed ≡ text) × (m ≡ n)
one_page model input printed text m n a b = one_printing _ 1 _ printed text m n a b

-- A page, one line more at a time.
use Rattle.std.proofs.Common.{◌≡◌, refl, sym, ap, subst, ◌∙◌, List, [], ◌∷◌, ◌++◌, ℕ, ◌+◌, append_assoc, Option, None, Some}
use Rattle.std.proofs.lemmas.List.{append-nil}
use Rattle.codes3270.specs.declared.size.Model.{Model}
use Rattle.presentation.specs.Sizes.{SizedScreen}
use Rattle.jobs.specs.HexLines.{bytes_of_line}
use Rattle.scripts.specs.ScreenText.{screen_text}
use Rattle.scripts.specs.Pages.{TakesCommand, Prints, IsPage}

prints_none : (number : ℕ) (line : List ℕ) (others : List (List ℕ)) (screen : SizedScreen) → bytes_of_line line ≡ None → Prints number (line ∷ others) screen [] (Some number)
prints_none number line others screen none = rw none (refl, refl)

prints_more : (number : ℕ) (line bytes said behind : List ℕ) (others : List (List ℕ)) (screen new : SizedScreen) (not_hex : Option ℕ) → bytes_of_line line ≡ Some bytes
    → TakesCommand bytes screen new said → Prints (number + 1) others new behind not_hex → Prints number (line ∷ others) screen (said ++ behind) not_hex
prints_more number line bytes said behind others screen new not_hex some takes then = rw some (new, said, behind, takes, then, refl)

-- the lines that are left print the rest of the page
abbrev pub PrintsRest : Model → List ℕ → List ℕ → ℕ → List (List ℕ) → SizedScreen → Type 0
PrintsRest model input text number left screen =
    (printed : List ℕ) (not_hex : Option ℕ) → Prints number left screen printed not_hex → IsPage model input (text ++ printed) not_hex

module _ (model : Model) (input text : List ℕ) (number : ℕ) (left : List (List ℕ)) (screen : SizedScreen) (so_far : PrintsRest model input text number left screen) where
  pub is_no_line : (line : List ℕ) (others : List (List ℕ)) → left ≡ line ∷ others → bytes_of_line line ≡ None → IsPage model input text (Some number)
  is_no_line line others is none =
      let stopped = so_far [] (Some number) (subst (λ (lines : List (List ℕ)). Prints number lines screen [] (Some number)) (sym is) (prints_none number line others screen none)) in
      subst (λ (all : List ℕ). IsPage model input all (Some number)) (append-nil text) stopped

  pub line_more : (line bytes said more : List ℕ) (others : List (List ℕ)) (new : SizedScreen) (next : ℕ) → left ≡ line ∷ others → bytes_of_line line ≡ Some bytes
      → TakesCommand bytes screen new said → more ≡ text ++ said → next ≡ number + 1 → PrintsRest model input more next others new
  line_more line bytes said more others new next is some takes added counted = λ behind not_hex then.
      let others_print : Prints (number + 1) others new behind not_hex = subst (λ (n : ℕ). Prints n others new behind not_hex) counted then in
      let all = prints_more number line bytes said behind others screen new not_hex some takes others_print in
      let page = so_far (said ++ behind) not_hex (subst (λ (lines : List (List ℕ)). Prints number lines screen (said ++ behind) not_hex) (sym is) all) in
      subst (λ (whole : List ℕ). IsPage model input whole not_hex) (sym (append_assoc text said behind) ∙ ap (λ (front : List ℕ). front ++ behind) (sym added)) page

  pub ends : (more : List ℕ) → left ≡ [] → more ≡ text ++ screen_text screen → IsPage model input more None
  ends more is added =
      let page = so_far (screen_text screen) None (subst (λ (lines : List (List ℕ)). Prints number lines screen (screen_text screen) None) (sym is) (refl, refl)) in
      subst (λ (whole : List ℕ). IsPage model input whole None) (sym added) page

-- The texts and the arrays of an object, member by member.
use Rattle.std.proofs.Common.{◌≡◌, ◌++◌, ℕ, List, append_assoc, inl, inr, length, refl, sym, ap, ◌∙◌, arith}
use Rattle.std.proofs.lemmas.List.{append-nil, length-append}
use Rattle.serde_json.specs.Data.{Data, null, boolean, number, string, array, object, Members, no_members, member}
use Rattle.application_http.specs.Replies.{HasTexts, arrays_in, texts_in}

texts_apart : (name : List ℕ) (value : Data) (rest : Members) → texts_in (member name value rest) ≡ texts_in (member name value no_members) ++ texts_in rest
texts_apart name null rest = refl
texts_apart name (boolean b) rest = refl
texts_apart name (number n) rest = refl
texts_apart name (string text) rest = refl
texts_apart name (array texts) rest = simp append-nil
texts_apart name (object inner) rest = refl

arrays_apart : (name : List ℕ) (value : Data) (rest : Members) → arrays_in (member name value rest) ≡ arrays_in (member name value no_members) ++ arrays_in rest
arrays_apart name null rest = refl
arrays_apart name (boolean b) rest = refl
arrays_apart name (number n) rest = refl
arrays_apart name (string text) rest = refl
arrays_apart name (array texts) rest = refl
arrays_apart name (object inner) rest = refl

added : {A : Type 0} (whole old new both first rest : List A) → whole ≡ old ++ both → both ≡ first ++ rest → new ≡ old ++ first → whole ≡ new ++ rest
added whole old new both first rest e apart more =
    e ∙ ap (λ it. old ++ it) apart ∙ sym (append_assoc old first rest) ∙ ap (λ it. it ++ rest) (sym more)

module _ (name : List ℕ) (value : Data) (rest : Members) where
  pub texts_added : (whole old new : List (List ℕ × List ℕ)) → whole ≡ old ++ texts_in (member name value rest)
      → new ≡ old ++ texts_in (member name value no_members) → whole ≡ new ++ texts_in rest
  texts_added whole old new e more = added whole old new _ _ (texts_in rest) e (texts_apart name value rest) more

  pub arrays_added : (whole old new : List (List ℕ)) → whole ≡ old ++ arrays_in (member name value rest)
      → new ≡ old ++ arrays_in (member name value no_members) → whole ≡ new ++ arrays_in rest
  arrays_added whole old new e more = added whole old new _ _ (arrays_in rest) e (arrays_apart name value rest) more

  pub has_first : HasTexts (member name value no_members) → HasTexts (member name value rest)
  has_first (inl h) = inl (omega (arith, h, ap length (arrays_apart name value rest), length-append (arrays_in (member name value no_members)) (arrays_in rest)))
  has_first (inr h) = inr (omega (arith, h, ap length (texts_apart name value rest), length-append (texts_in (member name value no_members)) (texts_in rest)))

  pub has_later : HasTexts rest → HasTexts (member name value rest)
  has_later (inl h) = inl (omega (arith, h, ap length (arrays_apart name value rest), length-append (arrays_in (member name value no_members)) (arrays_in rest)))
  has_later (inr h) = inr (omega (arith, h, ap length (texts_apart name value rest), length-append (texts_in (member name value no_members)) (texts_in rest)))

-- A text is typed, one character more at a time.
use Rattle.std.proofs.Common.{◌≡◌, ◌∙◌, ℕ, Bool, true, false, List, [], ◌∷◌, ◌++◌, None, refl, sym, ap, subst, append_assoc, append-nil}
use Rattle.std.proofs.lemmas.Grind.{flat_map-append}
use Rattle.keyboard.specs.declared.key.Key.TheVariants as key
use Rattle.world3270.specs.model.ByteRuns.{refused_at}
use Rattle.world3270.specs.model.ByteSteps.{Steps}
use Rattle.world3270.specs.model.ByteWorld.{ByteWorld}
use Rattle.world3270.specs.declared.event.Event.TheVariants as event
use Rattle.world3270.specs.declared.event.Stepped.{Stepped}
use Rattle.scripts.specs.Happenings.{AreTyped, Happening, OthersIf, TakePlace, answer_text, answers_text, is_refused}
use Rattle.scripts.proofs.Happenings.{then_take_place, takes_place}

-- Some characters were typed, and these are left.
pub record Typed (terminal : ℕ) (all left : List ℕ) (old now : ByteWorld) (before behind : List ℕ) : Type 0 where
  pub happenings : List Happening
  pub take_place : TakePlace happenings old now
  pub said : behind ≡ before ++ answers_text happenings
  pub with_others : (others : List Happening) → AreTyped terminal left others → AreTyped terminal all (happenings ++ others)

abbrev pub TypingEnds : ℕ → List ℕ → ByteWorld → ByteWorld → List ℕ → List ℕ → Type 0
TypingEnds terminal all old new before behind =
    (happenings : List Happening) × AreTyped terminal all happenings × TakePlace happenings old new × (behind ≡ before ++ answers_text happenings)

pub all_typed : (terminal : ℕ) (all left : List ℕ) (old new : ByteWorld) (before behind : List ℕ) → Typed terminal all left old new before behind → left ≡ []
    → TypingEnds terminal all old new before behind
all_typed terminal all left old new before behind typed none = (
  typed.happenings,
  subst (AreTyped terminal all) (append-nil typed.happenings) (typed.with_others [] (subst (λ (text : List ℕ). AreTyped terminal text []) (sym none) refl)),
  typed.take_place,
  typed.said,
)

module _ (terminal : ℕ) (all left : List ℕ) (old mid : ByteWorld) (before said : List ℕ) (typed : Typed terminal all left old mid before said)
    (char : ℕ) (next : List ℕ) (is : left ≡ char ∷ next) (answer : Stepped) (new : ByteWorld)
    (steps : Steps (event.Key terminal (key.Char char)) mid answer new) (whole : refused_at answer ≡ None)
    (behind : List ℕ) (says : behind ≡ said ++ answer_text answer) where
  abbrev this : Happening
  this = record { event = event.Key terminal (key.Char char); answer = answer }

  all_take_place : TakePlace (typed.happenings ++ this ∷ []) old new
  all_take_place = then_take_place typed.happenings (this ∷ []) old mid new typed.take_place (takes_place this.event answer mid new steps whole)

  all_said : behind ≡ before ++ answers_text (typed.happenings ++ this ∷ [])
  all_said = says ∙ ap (λ (text : List ℕ). text ++ answer_text answer) typed.said ∙ append_assoc before (answers_text typed.happenings) (answer_text answer)
      ∙ ap (λ (text : List ℕ). before ++ (answers_text typed.happenings ++ text)) (sym (append-nil (answer_text answer)))
      ∙ ap (λ (text : List ℕ). before ++ text) (sym (flat_map-append (λ (happening : Happening). answer_text happening.answer) typed.happenings (this ∷ [])))

  with_this : (others : List Happening) → OthersIf (is_refused answer) others (AreTyped terminal next others)
      → AreTyped terminal all (typed.happenings ++ (this ∷ others))
  with_this others more = typed.with_others (this ∷ others) (subst (λ (text : List ℕ). AreTyped terminal text (this ∷ others)) (sym is) (refl, more))

  -- it wasn't refused
  pub typed_more : is_refused answer ≡ false → Typed terminal all next old new before behind
  typed_more done = record {
    happenings = typed.happenings ++ this ∷ [];
    take_place = all_take_place;
    said = all_said;
    with_others = λ others more.
        subst (AreTyped terminal all) (sym (append_assoc typed.happenings (this ∷ []) others))
        (with_this others (subst (λ (b : Bool). OthersIf b others (AreTyped terminal next others)) (sym done) more));
  }

  -- it was
  pub typing_ends : is_refused answer ≡ true → TypingEnds terminal all old new before behind
  typing_ends refused = (
    typed.happenings ++ this ∷ [],
    with_this [] (subst (λ (b : Bool). OthersIf b [] (AreTyped terminal next [])) (sym refused) refl),
    all_take_place,
    all_said,
  )

-- What is known of fields.
use Rattle.std.proofs.Common.{◌≡◌, ℕ, ◌+◌, ◌-◌, ◌==◌, not, Bool, true, false, List, [], ◌∷◌, Option, Some, None, refl, ap, sym, ◌∙◌, if◌then◌else◌, arith}
use Rattle.std.specs.Prelude.{All, option_and_then}
use Rattle.std.specs.Option.{option_map_or}
use Rattle.std.proofs.lemmas.Bool.{and_parts}
use Rattle.std.proofs.lemmas.List.Elements.{All-head, All-tail}
use Rattle.datastream.specs.Inbound.{without_nulls}
use Rattle.codes3270.specs.Storable.{is_storable}
use Rattle.panels.specs.Characters.{AreCharacters}
use Rattle.shadow.specs.Queries.{value_of, field_at, text_at}
use Rattle.shadow.specs.Belief.{Fact, Belief, Shadow}
use Rattle.shadow.specs.Meets.{told}
use Rattle.shadow.specs.Storable.{IsTextChar, CanBeStored, ToldCanBeStored}
use Rattle.panels.specs.declared.panel.Field.{Field}
use Rattle.host_core.specs.Acts.{is_settled_fact, text_known}

-- ---- the text of a field

pub text_there : (place : ℕ) (shadow : Shadow) (belief : Belief) → field_at place shadow ≡ Some belief → text_at place shadow ≡ value_of belief.fact
text_there place shadow belief there = ap (λ (known : Option Belief). option_map_or (λ (b : Belief). value_of b.fact) known []) there

-- ---- the text that is told

abbrev IsSettled : Option Belief → Type 0
IsSettled known = option_map_or (λ belief. is_settled_fact belief.fact) known false ≡ true

without_nulls-cons : (byte : ℕ) (rest : List ℕ) → without_nulls (byte ∷ rest) ≡ (if not (byte == 0) then byte ∷ without_nulls rest else without_nulls rest)
without_nulls-cons byte rest = refl

no_nulls : (text : List ℕ) → All IsTextChar text → without_nulls text ≡ text
no_nulls [] each = refl
no_nulls (byte ∷ text) each =
    let here = and_parts (is_storable byte) (not (byte == 0)) (All-head IsTextChar byte text each) in
    let rest = no_nulls text (All-tail IsTextChar byte text each) in
    without_nulls-cons byte text ∙ ap (λ (keeps : Bool). if keeps then byte ∷ without_nulls text else without_nulls text) here.1 ∙ ap (λ (more : List ℕ). byte ∷ more) rest

told_is : (fact : Fact) (text : List ℕ) → is_settled_fact fact ≡ true → ((value : List ℕ) → told fact ≡ Some value → All IsTextChar value)
    → text ≡ without_nulls (value_of fact) → Some text ≡ told fact
told_is (Fact.Exact value) text settled stored is = ap (λ (t : List ℕ). Some t) is
told_is (Fact.ExactOrNulls value) text settled stored is = absurd (cc)
told_is (Fact.Text value) text settled stored is = ap (λ (t : List ℕ). Some t) (is ∙ no_nulls value (stored value refl))
told_is (Fact.TextOrNulls value) text settled stored is = absurd (cc)
told_is (Fact.Any known) text settled stored is = absurd (cc)

told_of : Option Belief → Option (List ℕ)
told_of known = option_and_then (λ belief. told belief.fact) known

told_of_known : ToldCanBeStored → (shadow : Shadow) (place : ℕ) (known : Option Belief) (text : List ℕ) → CanBeStored shadow → field_at place shadow ≡ known → IsSettled known
    → ((belief : Belief) → field_at place shadow ≡ Some belief → text ≡ without_nulls (value_of belief.fact)) → Some text ≡ told_of known
unfolding told_of
told_of_known law shadow place None text stored there settled is = absurd (cc)
told_of_known law shadow place (Some belief) text stored there settled is =
    told_is belief.fact text settled (λ value tells. law shadow place belief value stored there tells) (is belief there)

chars_of_known : ToldCanBeStored → (shadow : Shadow) (place : ℕ) (known : Option Belief) (text : List ℕ) → CanBeStored shadow → field_at place shadow ≡ known → Some text ≡ told_of known
    → AreCharacters text
unfolding told_of
chars_of_known law shadow place None text stored there tells = absurd (cc)
chars_of_known law shadow place (Some belief) text stored there tells = law shadow place belief text stored there (sym tells)

attribute_of : (place first : ℕ) → place + 1 ≡ first → first - 1 ≡ place
attribute_of place first is = omega arith

-- the text that was read of a field is the one that is known
pub text_is_known : ToldCanBeStored → (shadow : Shadow) (field : Field) (place : ℕ) (text : List ℕ) → CanBeStored shadow → place + 1 ≡ field.extent.first
    → IsSettled (field_at place shadow) → ((belief : Belief) → field_at place shadow ≡ Some belief → text ≡ without_nulls (value_of belief.fact))
    → Some text ≡ text_known shadow field
unfolding told_of
text_is_known law shadow field place text stored at settled is =
    told_of_known law shadow place (field_at place shadow) text stored refl settled is
    ∙ ap (λ (p : ℕ). told_of (field_at p shadow)) (sym (attribute_of place field.extent.first at))

-- and it is of characters
pub text_is_characters : ToldCanBeStored → (shadow : Shadow) (field : Field) (text : List ℕ) → CanBeStored shadow → Some text ≡ text_known shadow field → AreCharacters text
unfolding told_of
text_is_characters law shadow field text stored known =
    chars_of_known law shadow (field.extent.first - 1) (field_at (field.extent.first - 1) shadow) text stored refl known

-- the field that is believed to be there, and its text
pub known_there : ToldCanBeStored → (shadow : Shadow) (field : Field) (place : ℕ) (known : Option Belief) → CanBeStored shadow → place + 1 ≡ field.extent.first → field_at place shadow ≡ known
    → IsSettled known → (belief : Belief) × (field_at place shadow ≡ Some belief) × (text_known shadow field ≡ Some (without_nulls (value_of belief.fact)))
known_there law shadow field place None stored at there settled = absurd (cc)
known_there law shadow field place (Some belief) stored at there settled =
    let only = λ (other : Belief) (is : field_at place shadow ≡ Some other).
    let same : belief ≡ other = cc in
    ap (λ (b : Belief). without_nulls (value_of b.fact)) same in (
      belief,
      there,
      sym (text_is_known law shadow field place (without_nulls (value_of belief.fact)) stored at (rw there settled) only),
    )

unsettled_told : (fact : Fact) → is_settled_fact fact ≡ false → told fact ≡ None
unsettled_told (Fact.Exact value) unsettled = absurd (cc)
unsettled_told (Fact.ExactOrNulls value) unsettled = refl
unsettled_told (Fact.Text value) unsettled = absurd (cc)
unsettled_told (Fact.TextOrNulls value) unsettled = refl
unsettled_told (Fact.Any known) unsettled = refl

told_of_unsettled : (known : Option Belief) → option_map_or (λ belief. is_settled_fact belief.fact) known false ≡ false → told_of known ≡ None
unfolding told_of
told_of_unsettled None unsettled = refl
told_of_unsettled (Some belief) unsettled = unsettled_told belief.fact unsettled

-- of a field in doubt no text is known
pub unknown_there : (shadow : Shadow) (field : Field) (place : ℕ) → place + 1 ≡ field.extent.first
    → option_map_or (λ belief. is_settled_fact belief.fact) (field_at place shadow) false ≡ false → text_known shadow field ≡ None
unfolding told_of
unknown_there shadow field place at unsettled =
    ap (λ (p : ℕ). told_of (field_at p shadow)) (attribute_of place field.extent.first at) ∙ told_of_unsettled (field_at place shadow) unsettled

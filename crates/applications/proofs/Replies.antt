-- The texts and the faults of an application's reply.
use Rattle.std.specs.Prelude.{ℕ, ◌<◌, List, [], ◌∷◌, IsTrue, Option, None, Some, chars, filter_map, length, map, string_bytes, take, ◌≡◌}
use Rattle.std.proofs.Common.{sym, subst, ap, ◌∙◌, arith, inl, inr, ⊎_elim}
use Rattle.std.proofs.lemmas.List.Elements.{All-take}
use Rattle.std.proofs.lemmas.Str.{chars-nil}
use Rattle.application_http.specs.Replies.{field_text}
use Rattle.application_http.specs.declared.reply.Reply.{Reply}
use Rattle.application_http.specs.declared.request.FieldText.{FieldText}
use Rattle.panels.proofs.Codes.{codes_are_characters}
use Rattle.panels.specs.Characters.{AreCharacters, codes_of, is_character}
use Rattle.panels.specs.Panel.{Panels}
use Rattle.panels.specs.Screen.{Values}
use Rattle.panels.specs.Values.{HasToGrow}
use Rattle.applications.proofs.PlainForms.{empty_is_plain}
use Rattle.applications.specs.PlainTexts.{plain_text}
use Rattle.applications.specs.Applications.{AreKnownArrays, AreKnownTexts, HasItsNames, IsAnswerFault, IsArrayFault, IsFirstArrayFault, IsFirstTextFault, IsFirstValueFault, IsTextFault, TakesMemory, as_byte, message_bytes, message_in, most_characters, value_by, with_arrays, with_text}
use Rattle.applications.specs.declared.application_reply.AnswerFault.{AnswerFault}
use Rattle.applications.specs.declared.application_reply.AnswerFault.TheVariants as flaw

-- a field's value has characters alone
pub value_has_only_characters : (text codes : List ℕ) → codes ≡ value_by text → AreCharacters codes
value_has_only_characters text codes is =
    subst AreCharacters (sym is) (All-take (λ byte. IsTrue (is_character byte)) most_characters (codes_of (chars text)) (codes_are_characters (chars text)))

-- ---- what takes no memory

-- an empty text has no codes
pub no_codes : (text codes : List ℕ) → codes ≡ [] → length text ≡ 0 → codes ≡ codes_of (chars text)
no_codes [] codes is empty = is ∙ sym (ap codes_of chars-nil)
no_codes (byte ∷ text) codes is empty = absurd (omega (arith, empty))

-- an empty message has no bytes
pub no_bytes : (text bytes : List ℕ) → bytes ≡ [] → length text ≡ 0 → bytes ≡ message_bytes text
no_bytes [] bytes is empty = is ∙ sym (ap (filter_map as_byte) chars-nil)
no_bytes (byte ∷ text) bytes is empty = absurd (omega (arith, empty))

-- what a text takes memory for that isn't empty
pub takes_memory : (value : Option (List ℕ)) (text : List ℕ) → 0 < length text → TakesMemory value text
takes_memory None text some = tt
takes_memory (Some value) text some = some

pub value_takes_memory : (value : Option (List ℕ)) (text codes : List ℕ) → codes ≡ value_by text → HasToGrow value codes → TakesMemory value text
value_takes_memory None text codes is grows = tt
value_takes_memory (Some value) [] codes is grows = absurd (omega (arith, grows, ap length (is ∙ ap (λ it. take most_characters (codes_of it)) chars-nil)))
value_takes_memory (Some value) (byte ∷ text) codes is grows = omega arith

-- a text that is plain and isn't empty is one of a text that isn't empty
pub plain_is_of_a_text : (text plain : List ℕ) → plain ≡ plain_text text → 0 < length plain → 0 < length text
plain_is_of_a_text [] plain is some = absurd (omega (arith, some, ap length (is ∙ empty_is_plain)))
plain_is_of_a_text (byte ∷ text) plain is some = omega arith

pub plain_takes : (value : Option (List ℕ)) (text plain : List ℕ) → plain ≡ plain_text text → TakesMemory value plain → TakesMemory value text
plain_takes None text plain is takes = tt
plain_takes (Some value) text plain is takes = plain_is_of_a_text text plain is takes

-- ---- one text after another

-- if the fields of the texts that are left are known, all are; and the fault of the first of them, once these values are set, is that of the
-- first of all
pub record AreKnownBefore (panels : Panels) (texts : List FieldText) (first values : Values) (left : List FieldText) : Type 0 where
  pub known : AreKnownTexts panels left → AreKnownTexts panels texts
  pub wrong : (fault : AnswerFault) → IsFirstTextFault panels values left fault → IsFirstTextFault panels first texts fault

-- the same of arrays
pub record AreKnownArraysBefore (panels : Panels) (stems left : List (List ℕ)) : Type 0 where
  pub known : AreKnownArrays panels left → AreKnownArrays panels stems
  pub wrong : (fault : AnswerFault) → IsFirstArrayFault panels left fault → IsFirstArrayFault panels stems fault

-- ---- the faults of a reply

no_text_fault : (panels : Panels) (values : Values) (texts : List FieldText) (fault : AnswerFault)
    → ((values : Values) (text : FieldText) → IsTextFault panels values (field_text text) fault → ⊥) → IsFirstTextFault panels values texts fault → ⊥
no_text_fault panels values [] fault none is = is
no_text_fault panels values (text ∷ texts) fault none is =
    ⊎_elim (λ here. none values text here) (λ later. no_text_fault panels (with_text panels (field_text text) values) texts fault none later.1) is

no_array_fault : (panels : Panels) (stems : List (List ℕ)) (fault : AnswerFault) → ((stem : List ℕ) → IsArrayFault panels stem fault → ⊥) → IsFirstArrayFault panels stems fault → ⊥
no_array_fault panels [] fault none is = is
no_array_fault panels (stem ∷ stems) fault none is = ⊎_elim (λ here. none stem here) (λ later. no_array_fault panels stems fault none later.1) is

no_value_fault : (panels : Panels) (reply : Reply) (fault : AnswerFault) → ((stem : List ℕ) → IsArrayFault panels stem fault → ⊥)
    → ((values : Values) (text : FieldText) → IsTextFault panels values (field_text text) fault → ⊥) → IsFirstValueFault panels reply fault → ⊥
no_value_fault panels reply fault no_array no_text is =
    ⊎_elim (λ array. no_array_fault panels (map string_bytes reply.arrays.items) fault no_array array)
    (λ text. no_text_fault panels (with_arrays panels (map string_bytes reply.arrays.items) []) reply.fields.items fault no_text text.1) is

module _ (panels : Panels) (shown : ℕ) (reply : Reply) (names : HasItsNames panels shown reply) where
  pub fields_refused : (fault : AnswerFault) → IsFirstValueFault panels reply fault → IsAnswerFault panels shown reply fault
  fields_refused flaw.Memory is = (names, inr is)
  fields_refused flaw.UnknownPanel is = absurd (no_value_fault panels reply flaw.UnknownPanel (λ stem here. here) (λ values text here. here) is)
  fields_refused flaw.UnknownCursor is = absurd (no_value_fault panels reply flaw.UnknownCursor (λ stem here. here) (λ values text here. here) is)
  fields_refused (flaw.UnknownField name) is = (names, is)
  fields_refused (flaw.FieldNotArray name) is = (names, is)

  pub message_refused : (fault : AnswerFault) → fault ≡ flaw.Memory → 0 < length (message_in reply) → IsAnswerFault panels shown reply fault
  message_refused fault is some = subst (IsAnswerFault panels shown reply) (sym is) (names, inl some)

-- Which rule a terminal has broken, if its answer to Read Buffer shows that it has (our profile). The host reads the
-- screen after a key, and believes what that key's data said. The operator may have changed input since then, because a
-- terminal needn't wait for the host. What a terminal may do is GA23-0059-07 on the MDT bit and on Erase Input.
use Rattle.std.specs.Prelude.{◌≡◌, ◌||◌, not, nat_lt, ℕ, Bool, false, List, [], ◌∷◌, length, map, Option, Some, None, if◌then◌else◌, bytes_eq}
use Rattle.std.specs.Option.{option_or}
use Rattle.codes3270.specs.declared.attribute.Cell.{Cell}
use Rattle.datastream.specs.Fields.{Field, fields}
use Rattle.datastream.specs.KeptByKeys.{KeptByKeys}
use Rattle.datastream.specs.Inbound.{without_nulls}
use Rattle.datastream.specs.Screen.{Screen}
use Rattle.shadow.specs.declared.mdt_state.MdtState.{MdtState}
use Rattle.shadow.specs.declared.mdt_state.MdtState.TheVariants.{On, Off, Unknown}
use Rattle.shadow.specs.declared.rule_break.Rule.{Rule}
use Rattle.shadow.specs.declared.rule_break.Rule.TheVariants.{Applies, Edits, Sends}
use Rattle.shadow.specs.declared.rule_break.RuleBreak.{RuleBreak}
use Rattle.shadow.specs.Belief.{Fact, Belief, Shadow, nulls}
use Rattle.shadow.specs.Heard.{is_on}
use Rattle.shadow.specs.Meets.{Meets}
use Rattle.shadow.specs.AfterReadBuffer.{differs, is_other}

-- ---- one field

-- whether MDT isn't what is believed
abbrev pub mdt_differs : MdtState → Bool → Bool
mdt_differs On mdt = not mdt
mdt_differs Off mdt = mdt
mdt_differs Unknown mdt = false

-- whether the text is as Erase Input leaves it
abbrev pub is_erased : List ℕ → Bool
is_erased text = bytes_eq text (nulls (length text))

-- whether the text is the believed one
abbrev pub is_believed : Fact → List ℕ → Bool
is_believed (Fact.Exact value) text = not (differs (map Some value) text)
is_believed (Fact.ExactOrNulls value) text = bytes_eq value text
is_believed (Fact.Text value) text = bytes_eq value (without_nulls text)
is_believed (Fact.TextOrNulls value) text = bytes_eq value (without_nulls text)
is_believed (Fact.Any known) text = not (differs known text)

-- The rule that an unprotected field shows to be broken. With MDT on it may have any text. With MDT off it must have
-- the believed text or all nulls; if the last key returned it, all nulls.
abbrev pub input_rule : Belief → Field → Option Rule
input_rule belief field =
    if field.attr.mdt || is_erased field.text then None
    else if is_on belief.mdt then Some Sends
    else if is_believed belief.fact field.text then None
    else Some Edits

-- the rule that a protected field shows to be broken: no operator changes its MDT
abbrev pub protected_rule : Belief → Field → Option Rule
protected_rule belief field = if mdt_differs belief.mdt field.attr.mdt then Some Edits else None

abbrev pub operator_rule : Belief → Field → Option Rule
operator_rule belief field = if belief.attr.protected then protected_rule belief field else input_rule belief field

-- The rule that a field shows to be broken. Its attribute, but for MDT, and its characters if it is protected must be
-- those that writes left.
abbrev pub rule_broken : Belief → Field → Option Rule
rule_broken belief field = if is_other belief field then Some Applies else operator_rule belief field

-- ---- the screen

abbrev pub lesser : ℕ → ℕ → ℕ
lesser one other = if nat_lt one other then one else other

abbrev pub break_at : ℕ → Option Rule → Option RuleBreak
break_at cell None = None
break_at cell (Some rule) = Some (record { rule = rule; cell = cell })

-- the rule that the first such field shows to be broken, and the address of its attribute, believed or read
abbrev pub first_break : List Belief → List Field → Option RuleBreak
first_break [] [] = None
first_break [] (field ∷ more) = break_at field.place (Some Applies)
first_break (belief ∷ beliefs) [] = break_at belief.place (Some Applies)
first_break (belief ∷ beliefs) (field ∷ more) =
    option_or (break_at (lesser belief.place field.place) (rule_broken belief field)) (first_break beliefs more)

-- the rule that a screen with these cells shows to be broken
abbrev pub rule_break : Shadow → List Cell → Option RuleBreak
rule_break Shadow.NothingKnown cells = None
rule_break (Shadow.Unformatted known) cells = first_break [] (fields cells)
rule_break (Shadow.Formatted beliefs) cells = first_break beliefs (fields cells)

-- ---- the law

-- No break is found on a screen that a terminal can have if it keeps the rules: one that meets the belief, or one that
-- an operator can make of such a screen.
abbrev pub RulesAreNotBroken : Type 0
RulesAreNotBroken = (erased : Bool) (shadow : Shadow) (left now : Screen) → Meets shadow left
    → KeptByKeys erased left.cells now.cells → rule_break shadow now.cells ≡ None

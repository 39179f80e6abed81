-- A Read Buffer's answer is heard of any screen that differs in input alone from one that meets what is believed: it is compared with
-- attributes and protected characters.
use Rattle.std.proofs.Common.{◌≡◌, ◌==◌, ◌||◌, ◌&&◌, ℕ, Bool, true, false, None, List, [], ◌∷◌, length, refl, ap, sym, subst, ◌∙◌, if◌then◌else◌}
use Rattle.std.specs.Prelude.{map, not, IsOkAnd, Ok, Err}
use Rattle.std.specs.List.{list_all}
use Rattle.codes3270.specs.Size.{ScreenSize}
use Rattle.codes3270.specs.declared.attribute.Cell.{Cell}
use Rattle.codes3270.specs.declared.attribute.Cell.TheVariants.{Char, Attr}
use Rattle.datastream.specs.Fields.{Field, fields}
use Rattle.datastream.specs.KeptByKeys.{KeptByKeys, hold_under}
use Rattle.datastream.specs.HeldLaws.{HeldIsRound}
use Rattle.datastream.specs.InboundFields.{buffer_data, cells_sent}
use Rattle.datastream.specs.Screen.{Screen, is_char, last_attribute, text_before_attribute}
use Rattle.shadow.specs.Belief.{Belief, Shadow}
use Rattle.shadow.specs.Doubt.{DoubtAllowsInput, doubted}
use Rattle.shadow.specs.Heard.{after_attention, heard, unknown_fact}
use Rattle.shadow.specs.Laws.{Believed, HearsBuffer}
use Rattle.shadow.specs.Meets.{KnownIs, Meets}
use Rattle.shadow.specs.Pairs.{Pairwise}
use Rattle.shadow.specs.AfterReadBuffer.{differs, is_other, known_chars, others, same_attr, seen}
use Rattle.shadow.specs.declared.fault.HeardFault.TheVariants.{Contradiction}
use Rattle.shadow.specs.declared.mdt_state.MdtState.TheVariants.{Unknown}
use Rattle.datastream.proofs.FieldViews.{no_attribute, none_listed}
use Rattle.world3270.proofs.StillKept.{Alike, walked}

-- ---- what is in doubt is compared as it was

abbrev open_belief : Belief → Belief
open_belief belief = record belief { mdt = Unknown; fact = unknown_fact belief.length }

abbrev other_if : Belief → Field → Bool → Bool → Bool
other_if belief field guarded misses = not (field.place == belief.place) || not (same_attr field.attr belief.attr) || (guarded && misses)

other_same : (belief : Belief) (field : Field) → is_other (after_attention belief) field ≡ is_other belief field
other_same belief field = by_kind belief.attr.protected refl
  where
    by_kind : (guarded : Bool) → belief.attr.protected ≡ guarded → is_other (after_attention belief) field ≡ is_other belief field
    by_kind true e = ap (λ (p : Bool). is_other (if p then belief else open_belief belief) field) e
    by_kind false e =
        ap (λ (p : Bool). is_other (if p then belief else open_belief belief) field) e
        ∙ ap (λ (p : Bool). other_if belief field p (differs (known_chars belief.length (unknown_fact belief.length)) field.text)) e
        ∙ sym (ap (λ (p : Bool). other_if belief field p (differs (known_chars belief.length belief.fact) field.text)) e)

others_same : (beliefs : List Belief) (found : List Field) → others (map after_attention beliefs) found ≡ others beliefs found
others_same [] [] = refl
others_same [] (field ∷ more) = refl
others_same (belief ∷ beliefs) [] = refl
others_same (belief ∷ beliefs) (field ∷ more) =
    ap (λ (b : Bool). b || others (map after_attention beliefs) more) (other_same belief field) ∙ ap (λ (b : Bool). is_other belief field || b) (others_same beliefs more)

-- ---- a screen without fields

bare_alike : (more : Bool) (lefts nows : List Cell) → Alike more lefts nows → list_all is_char lefts ≡ true → list_all is_char nows ≡ true
bare_alike more [] [] alike bare = refl
bare_alike more [] (now ∷ nows) alike bare = absurd alike
bare_alike more (left ∷ lefts) [] alike bare = absurd alike
bare_alike more (Char left ∷ lefts) (Char now ∷ nows) alike bare = bare_alike more lefts nows alike.1 bare
bare_alike more (Char left ∷ lefts) (Attr now ∷ nows) alike bare = absurd alike.0
bare_alike more (Attr left ∷ lefts) (Char now ∷ nows) alike bare = absurd alike.0
bare_alike more (Attr left ∷ lefts) (Attr now ∷ nows) alike bare = absurd (cc)

pub still_unformatted : HeldIsRound → (erased : Bool) (left now : List Cell) → KeptByKeys erased left now → fields left ≡ [] → fields now ≡ []
still_unformatted round erased left now held none =
    none_listed now 0 now (bare_alike erased left now (walked erased (hold_under erased (last_attribute now)) left now ((round erased left now).0 held)) (no_attribute left 0 left none))

any_text : (text : List ℕ) → Pairwise KnownIs (map (λ _. None) text) text
any_text [] = tt
any_text (char ∷ chars) = (tt, any_text chars)

-- ---- it is heard

pub reads_input : HeldIsRound → HearsBuffer → DoubtAllowsInput → (size : ScreenSize) (erased : Bool) (shadow : Shadow) (left now : Screen) → Meets shadow left → KeptByKeys erased left.cells now.cells
    → IsOkAnd (heard (length now.cells) shadow (buffer_data size now)) (Believed false now)
reads_input round reads doubt size erased Shadow.NothingKnown left now meets held = reads size Shadow.NothingKnown now tt
reads_input round reads doubt size erased (Shadow.Unformatted known) left now meets held =
    reads size (Shadow.Unformatted (map (λ _. None) (text_before_attribute now.cells))) now
    (still_unformatted round erased left.cells now.cells held meets.0, any_text (text_before_attribute now.cells))
reads_input round reads doubt size erased (Shadow.Formatted beliefs) left now meets held =
    let sent : List Cell = cells_sent (buffer_data size now).parts in
    subst (λ (denied : Bool). IsOkAnd (if denied then Err Contradiction else Ok (seen sent)) (Believed false now)) (others_same beliefs (fields sent))
    (reads size (doubted (Shadow.Formatted beliefs)) now (doubt erased (Shadow.Formatted beliefs) left now meets held))

-- What a terminal sends after keys is heard, and what is then believed is so.
use Rattle.std.proofs.Common.{◌≡◌, ℕ, Bool, false, List, [], ◌∷◌, ◌++◌, length, map, flat_map, replicate, Some, None, Result, Ok, Err, IsOkAnd, refl, ap, sym, subst, ◌∙◌, if◌then◌else◌}
use Rattle.std.proofs.lemmas.List.{length-replicate}
use Rattle.codes3270.specs.declared.attention.Aid.{Aid}
use Rattle.codes3270.specs.declared.attention.Aid.TheVariants.{NoAid, Enter, Clear, Pf, Pa}
use Rattle.codes3270.specs.declared.attribute.Cell.{Cell}
use Rattle.codes3270.specs.declared.attribute.Cell.TheVariants.{Char as CharCell, Attr as AttrCell}
use Rattle.codes3270.specs.Aid.{is_short_aid}
use Rattle.datastream.specs.Screen.{Screen}
use Rattle.datastream.specs.KeptByKeys.{KeptByKeys}
use Rattle.datastream.specs.InboundFields.{Returned, leading_text, returned, cells_sent, field_parts, parts_of_fields, parts_of_cells, leading_text_of, returned_of}
use Rattle.datastream.specs.InboundText.{stands_alone}
use Rattle.datastream.specs.declared.inbound_part.Form.TheVariants.{Modified}
use Rattle.datastream.specs.declared.inbound_part.Part.{Part}
use Rattle.datastream.specs.declared.inbound_part.Part.TheVariants.{Char}
use Rattle.shadow.specs.declared.fault.HeardFault.{HeardFault}
use Rattle.shadow.specs.Belief.{Shadow}
use Rattle.shadow.specs.Meets.{Meets, Knows, IsTold, ListsFields}
use Rattle.shadow.specs.Heard.{heard, heard_long, heard_parts}
use Rattle.shadow.specs.Laws.{IsSentFrom, Believed, HearsModified, HearsAll, HearsBuffer}
use Rattle.shadow.proofs.HeldKeyed.{held_keyed}
use Rattle.shadow.proofs.HeardMeets.{heard_meets}
use Rattle.shadow.proofs.HeardOthers.{attention_meets, attention_lists, cleared_meets, seen_meets, seen_lists, seen_told, not_denied}

-- fields come back from their parts
lead_fields : (fields : List Returned) → leading_text (flat_map field_parts fields) ≡ []
lead_fields [] = refl
lead_fields (field ∷ fields) = refl

lead_back : (chars : List ℕ) (fields : List Returned) → leading_text (parts_of_fields chars fields) ≡ chars
lead_back [] fields = lead_fields fields
lead_back (char ∷ chars) fields = ap (λ cs. char ∷ cs) (lead_back chars fields)

returned_past : (chars : List ℕ) (parts : List Part) → returned (map Char chars ++ parts) ≡ returned parts
returned_past [] parts = refl
returned_past (char ∷ chars) parts = returned_past chars parts

lead_text : (text : List ℕ) (fields : List Returned) → leading_text (map Char text ++ flat_map field_parts fields) ≡ text
lead_text [] fields = lead_fields fields
lead_text (char ∷ chars) fields = ap (λ cs. char ∷ cs) (lead_text chars fields)

returned_fields : (fields : List Returned) → returned (flat_map field_parts fields) ≡ fields
returned_fields [] = refl
returned_fields (field ∷ fields) =
    ap (λ text. record { first = field.first; text = text } ∷ returned (map Char field.text ++ flat_map field_parts fields)) (lead_text field.text fields)
    ∙ ap (λ rs. field ∷ rs) (returned_past field.text (flat_map field_parts fields) ∙ returned_fields fields)

returned_back : (chars : List ℕ) (fields : List Returned) → returned (parts_of_fields chars fields) ≡ fields
returned_back chars fields = returned_past chars (flat_map field_parts fields) ∙ returned_fields fields

pub cells_back : (cells : List Cell) → cells_sent (parts_of_cells cells) ≡ cells
cells_back [] = refl
cells_back (CharCell char ∷ cells) = ap (λ cs. CharCell char ∷ cs) (cells_back cells)
cells_back (AttrCell attr ∷ cells) = ap (λ cs. AttrCell attr ∷ cs) (cells_back cells)

long_heard : (size : ℕ) (shadow : Shadow) (now : Screen) → heard_parts size shadow (parts_of_fields (leading_text_of now.cells) (returned_of now.cells)) ≡ heard_long size shadow (leading_text_of now.cells) (returned_of now.cells)
long_heard size shadow now =
    ap (λ l. heard_long size shadow l (returned (parts_of_fields (leading_text_of now.cells) (returned_of now.cells)))) (lead_back (leading_text_of now.cells) (returned_of now.cells))
    ∙ ap (heard_long size shadow (leading_text_of now.cells)) (returned_back (leading_text_of now.cells) (returned_of now.cells))

long_believed : (size : ℕ) (erased : Bool) (shadow : Shadow) (left now : Screen) → Knows shadow → length now.cells ≡ size → Meets shadow left → KeptByKeys erased left.cells now.cells
    → IsOkAnd (heard_parts size shadow (parts_of_fields (leading_text_of now.cells) (returned_of now.cells))) (λ new. Meets new now × ListsFields new now × IsTold new now)
long_believed size erased shadow left now knows whole meets held =
    subst (λ r. IsOkAnd r (λ new. Meets new now × ListsFields new now × IsTold new now)) (sym (long_heard size shadow now))
    (heard_meets size erased shadow left now knows whole meets (held_keyed erased left.cells now.cells held))

believed_long : (now : Screen) (r : Result Shadow HeardFault) → IsOkAnd r (λ new. Meets new now × ListsFields new now × IsTold new now) → IsOkAnd r (Believed false now)
believed_long now (Ok new) h = (h.0, h.1, λ _. h.2)
believed_long now (Err fault) h = h

cleared_length : (size : ℕ) (cells : List Cell) → cells ≡ replicate size (CharCell 0) → length cells ≡ size
cleared_length size cells e = ap length e ∙ length-replicate size (CharCell 0)

pub hears_modified : HearsModified
hears_modified size erased shadow left now knows meets sent = cases now.aid sent
  where
    cases : (aid : Aid) → IsSentFrom erased left.cells now.cells aid
        → IsOkAnd (heard (length now.cells) shadow (if stands_alone Modified aid then record { form = Modified; size = size; aid = aid; cursor = None; parts = [] } else record { form = Modified; size = size; aid = aid; cursor = Some now.cursor; parts = parts_of_fields (leading_text_of now.cells) (returned_of now.cells) })) (Believed (is_short_aid aid) now)
    cases NoAid sent = believed_long now _ (long_believed (length now.cells) erased shadow left now knows refl meets sent)
    cases Enter sent = believed_long now _ (long_believed (length now.cells) erased shadow left now knows refl meets sent)
    cases (Pf key) sent = believed_long now _ (long_believed (length now.cells) erased shadow left now knows refl meets sent)
    cases (Pa key) sent = let keyed = held_keyed erased left.cells now.cells sent in (attention_meets erased shadow left now meets keyed, attention_lists erased shadow left now knows meets keyed, λ e. absurd (cc))
    cases Clear sent =
        let null = sent ∙ ap (λ n. replicate n (CharCell 0)) (sym (cleared_length _ now.cells sent)) in
        (cleared_meets _ now null, (λ some. absurd (some (cleared_meets _ now null).0)), λ e. absurd (cc))

pub hears_all : HearsAll
hears_all size erased shadow left now knows meets held = believed_long now _ (long_believed (length now.cells) erased shadow left now knows refl meets held)

pub hears_buffer : HearsBuffer
hears_buffer size shadow now meets =
    rw (cells_back now.cells, not_denied shadow now meets) (seen_meets now, seen_lists now, λ _. seen_told now)

-- What is exact stays so, whatever is written; and an erase makes each field exact.
use Rattle.std.proofs.Common.{◌≡◌, ℕ, ◌+◌, Bool, true, false, ◌&&◌, List, [], ◌∷◌, ◌++◌, length, map, Option, Some, None, unwrap_or, refl, ap, sym, subst, ◌∙◌, if◌then◌else◌, nat_eq, eqb-true, All}
use Rattle.std.proofs.lemmas.Bool.{and_parts}
use Rattle.std.proofs.lemmas.List.{length-map}
use Rattle.std.proofs.lemmas.List.Elements.{All-head, All-tail, All-nil, All-cons}
use Rattle.codes3270.specs.declared.write_control.Wcc.{Wcc}
use Rattle.datastream.specs.Meaning.{after_command}
use Rattle.datastream.specs.declared.order.Order.{Order}
use Rattle.datastream.specs.declared.command_code.CommandCode.{CommandCode}
use Rattle.datastream.specs.declared.command_code.CommandCode.TheVariants.{Write, EraseWrite, EraseWriteAlternate, ReadBuffer, ReadModified, ReadModifiedAll, EraseAllUnprotected}
use Rattle.shadow.specs.declared.known.Known.{Known}
use Rattle.shadow.specs.declared.known.Known.TheVariants.{Attr as KnownAttr, Char as KnownChar}
use Rattle.shadow.specs.Belief.{Fact, Belief, Shadow, fields_of}
use Rattle.shadow.specs.Stores.{stores_unplaced}
use Rattle.shadow.specs.Taken.{old_char, laid_out, known_ahead, fresh_ahead, and_char, whole_text, exact_or_any, fact_known, fact_before, fact_after, belief_after, beliefs_from, formatted_as, believed, known_after, after_write, taken_write, taken}
use Rattle.codes3270.specs.Size.{cells_in}
use Rattle.datastream.specs.Screen.{blank_screen}
use Rattle.shadow.specs.Exactness.{is_erase, IsExactWhereKnown, FieldIsExact, IsExactIfProtected, TakenStaysExact, ErasedIsExact}
use Rattle.shadow.proofs.AfterReadBuffer.{whole_fresh}
use Rattle.shadow.proofs.ExactHeard.{exact_fact, seen_exact, seen_protected}

-- ---- where all characters are known

pub found_exact : (bs : List Belief) (place len : ℕ) (fact : Fact) → fact_before bs place len ≡ Some fact → All FieldIsExact bs → IsExactWhereKnown len fact
found_exact [] place len fact e h = absurd (cc)
found_exact (b ∷ bs) place len fact e h = cases (nat_eq b.place place && nat_eq b.length len) refl e (λ found. found_exact bs place len fact found (All-tail FieldIsExact b bs h))
  where
    cases : (t : Bool) → (nat_eq b.place place && nat_eq b.length len) ≡ t → (if t then Some b.fact else fact_before bs place len) ≡ Some fact
        → (fact_before bs place len ≡ Some fact → IsExactWhereKnown len fact) → IsExactWhereKnown len fact
    cases true test found later =
        let same : b.fact ≡ fact = cc in
        subst (λ (g : Fact). IsExactWhereKnown len g) same (subst (λ (l : ℕ). IsExactWhereKnown l b.fact) (eqb-true _ _ (and_parts _ _ test).1) (All-head FieldIsExact b bs h))
    cases false test found later = later found

whole_text_known : (ks : List (Option ℕ)) (text : List ℕ) → whole_text ks ≡ Some text → ks ≡ map Some text
whole_text_known [] text e = let none : [] ≡ text = cc in ap (map Some) none
whole_text_known (None ∷ ks) text e = absurd (cc)
whole_text_known (Some c ∷ ks) text e = cases (whole_text ks) e (whole_text_known ks)
  where
    cases : (o : Option (List ℕ)) → and_char (Some c) o ≡ Some text → ((more : List ℕ) → o ≡ Some more → ks ≡ map Some more) → Some c ∷ ks ≡ map Some text
    cases None e ih = absurd (cc)
    cases (Some more) e ih = let same : c ∷ more ≡ text = cc in ap (λ (xs : List (Option ℕ)). Some c ∷ xs) (ih more refl) ∙ ap (map Some) same

known_exact : (ks : List (Option ℕ)) → IsExactWhereKnown (length ks) (fact_known ks)
known_exact ks = cases (whole_text ks) refl
  where
    cases : (o : Option (List ℕ)) → whole_text ks ≡ o → IsExactWhereKnown (length ks) (exact_or_any o ks)
    cases (Some text) e = exact_fact (length ks) text (sym (ap length (whole_text_known ks text e) ∙ length-map text Some))
    cases None e = record { whole = refl; exact = λ text is. absurd (let some = ap whole_text is ∙ whole_fresh text in cc) }

after_exact : (bs : List Belief) (place : ℕ) (ahead : List Known) → All FieldIsExact bs → IsExactWhereKnown (length (known_ahead ahead)) (fact_after bs place ahead)
after_exact bs place ahead h = cases (fresh_ahead ahead)
  where
    kept : (o : Option Fact) → fact_before bs place (length (known_ahead ahead)) ≡ o → IsExactWhereKnown (length (known_ahead ahead)) (unwrap_or o (fact_known (known_ahead ahead)))
    kept None e = known_exact (known_ahead ahead)
    kept (Some fact) e = found_exact bs place (length (known_ahead ahead)) fact e h

    cases : (t : Bool) → IsExactWhereKnown (length (known_ahead ahead)) (if t then fact_known (known_ahead ahead) else unwrap_or (fact_before bs place (length (known_ahead ahead))) (fact_known (known_ahead ahead)))
    cases true = known_exact (known_ahead ahead)
    cases false = kept (fact_before bs place (length (known_ahead ahead))) refl

from_exact : (bs : List Belief) (whole : List Known) (n : ℕ) (rest : List Known) → All FieldIsExact bs → All FieldIsExact (beliefs_from bs whole n rest)
from_exact bs whole n [] h = All-nil FieldIsExact
from_exact bs whole n (KnownChar k f ∷ rest) h = from_exact bs whole (n + 1) rest h
from_exact bs whole n (KnownAttr a m ∷ rest) h =
    All-cons FieldIsExact (belief_after bs n a m (rest ++ whole)) (beliefs_from bs whole (n + 1) rest) (after_exact bs n (rest ++ whole) h) (from_exact bs whole (n + 1) rest h)

module _ (P : Belief → Type 0) where
  -- of some fields, or of a screen without any
  formatted_has : (bs : List Belief) (known : List (Option ℕ)) → All P bs → All P (fields_of (formatted_as bs known))
  formatted_has [] known h = All-nil P
  formatted_has (b ∷ bs) known h = h

  pub write_has : (size : ℕ) (wcc : Option Wcc) (orders : List Order) (bs : List Belief) (cells : List Known)
      → All P (beliefs_from bs (known_after size wcc orders cells) 0 (known_after size wcc orders cells)) → All P (fields_of (after_write size wcc orders bs cells))
  write_has size wcc orders bs cells h = cases (stores_unplaced orders)
    where
      cases : (t : Bool) → All P (fields_of (if t then Shadow.NothingKnown else believed bs (known_after size wcc orders cells)))
      cases true = All-nil P
      cases false = formatted_has (beliefs_from bs (known_after size wcc orders cells) 0 (known_after size wcc orders cells)) (known_ahead (known_after size wcc orders cells)) h

written_exact : (size : ℕ) (wcc : Option Wcc) (orders : List Order) (shadow : Shadow) → All FieldIsExact (fields_of shadow) → All FieldIsExact (fields_of (taken_write size wcc orders shadow))
written_exact size wcc orders Shadow.NothingKnown h = All-nil FieldIsExact
written_exact size wcc orders (Shadow.Unformatted known) h =
    let cells : List Known = known_after size wcc orders (map old_char known) in
    write_has FieldIsExact size wcc orders [] (map old_char known) (from_exact [] cells 0 cells (All-nil FieldIsExact))
written_exact size wcc orders (Shadow.Formatted bs) h =
    let cells : List Known = known_after size wcc orders (laid_out size bs) in
    write_has FieldIsExact size wcc orders bs (laid_out size bs) (from_exact bs cells 0 cells h)

pub taken_exact : TakenStaysExact
taken_exact size command shadow h = cases command.code
  where
    cases : (code : CommandCode) → All FieldIsExact (fields_of (taken size (record command { code = code }) shadow))
    cases Write = written_exact size command.wcc command.orders shadow h
    cases EraseWrite = seen_exact (after_command (record command { code = EraseWrite }) (blank_screen (cells_in command.size))).cells
    cases EraseWriteAlternate = seen_exact (after_command (record command { code = EraseWriteAlternate }) (blank_screen (cells_in command.size))).cells
    cases ReadBuffer = h
    cases ReadModified = h
    cases ReadModifiedAll = h
    cases EraseAllUnprotected = h

-- ---- protected fields

pub erased_exact : ErasedIsExact
erased_exact size command shadow = cases command.code
  where
    cases : (code : CommandCode) → is_erase code ≡ true → All IsExactIfProtected (fields_of (taken size (record command { code = code }) shadow))
    cases Write e = absurd (cc)
    cases EraseWrite e = seen_protected (after_command (record command { code = EraseWrite }) (blank_screen (cells_in command.size))).cells
    cases EraseWriteAlternate e = seen_protected (after_command (record command { code = EraseWriteAlternate }) (blank_screen (cells_in command.size))).cells
    cases ReadBuffer e = absurd (cc)
    cases ReadModified e = absurd (cc)
    cases ReadModifiedAll e = absurd (cc)
    cases EraseAllUnprotected e = absurd (cc)

-- What came, field by field, in a walk over the places.
use Rattle.std.proofs.Common.{◌≡◌, ℕ, ◌+◌, ◌<◌, Bool, true, false, not, ◌&&◌, ◌||◌, List, [], ◌∷◌, ◌++◌, length, map, drop, get_or, Option, Some, None, Ok, Err, refl, ap, sym, subst, ◌∙◌, if◌then◌else◌, option_map}
use Rattle.std.specs.Prelude.{Result, nat_lt, ◌==◌}
use Rattle.std.specs.List.{list_any}
use Rattle.std.proofs.lemmas.List.{at_drop_more}
use Rattle.datastream.specs.InboundFields.{Returned}
use Rattle.shadow.specs.declared.fault.HeardFault.{HeardFault}
use Rattle.shadow.specs.declared.fault.HeardFault.TheVariants.{NoSuchField, Contradiction}
use Rattle.shadow.specs.declared.cell_belief.CellBelief.{CellBelief}
use Rattle.shadow.specs.declared.cell_belief.CellBelief.TheVariants.{Attr, Known, Unplaced, Unknown}
use Rattle.shadow.specs.Belief.{Belief, Shadow, next_address}
use Rattle.shadow.specs.Came.{text_at, came_past}
use Rattle.shadow.specs.Filled.{text_came, came_behind, is_possible, any_lost, long_after, contradicts_held, lost_held}
use Rattle.shadow.specs.Heard.{Answer, answers, is_nowhere, heard_long, contradicts, contradicts_text, lost_text, was_erased, after_long, settled}
use Rattle.shadow.specs.Borrowed.{answer}
use Rattle.shadow.specs.InPlace.{beliefs_held}
use Rattle.shadow.proofs.FieldPlaces.{nowhere_more}
use Rattle.shadow.proofs.Paired.{answers_step}

module _ (size : ℕ) where
  -- ---- one place further

  possible_on : (whole : List CellBelief) (n : ℕ) (held : CellBelief) (rest : List CellBelief) (came : List Returned)
      → is_possible size (beliefs_held whole n (held ∷ rest)) came ≡ (not (contradicts_held held n (rest ++ whole) (text_came size held n came)) && is_possible size (beliefs_held whole (n + 1) rest) (came_behind size held n came))
  possible_on whole n (Attr a m t) rest [] = refl
  possible_on whole n (Attr a m t) rest (c ∷ came) = refl
  possible_on whole n (Known c) rest came = refl
  possible_on whole n (Unplaced c) rest came = refl
  possible_on whole n Unknown rest came = refl

  pub possible_step : (whole : List CellBelief) (n : ℕ) (held : CellBelief) (came : List Returned) → n < length whole → held ≡ get_or whole n held
      → is_possible size (beliefs_held whole n (drop n whole)) came
      ≡ (not (contradicts_held held n (drop (n + 1) whole ++ whole) (text_came size held n came)) && is_possible size (beliefs_held whole (n + 1) (drop (n + 1) whole)) (came_behind size held n came))
  possible_step whole n held came within is =
      at_drop_more (λ rest. is_possible size (beliefs_held whole n rest) came) whole n held within
      ∙ ap (λ x. is_possible size (beliefs_held whole n (x ∷ drop (n + 1) whole)) came) (sym is)
      ∙ possible_on whole n held (drop (n + 1) whole) came

  lost_on : (whole : List CellBelief) (n : ℕ) (held : CellBelief) (rest : List CellBelief) (came : List Returned)
      → any_lost size (beliefs_held whole n (held ∷ rest)) came ≡ (lost_held held n (rest ++ whole) (text_came size held n came) || any_lost size (beliefs_held whole (n + 1) rest) (came_behind size held n came))
  lost_on whole n (Attr a m t) rest came = refl
  lost_on whole n (Known c) rest came = refl
  lost_on whole n (Unplaced c) rest came = refl
  lost_on whole n Unknown rest came = refl

  pub lost_step : (whole : List CellBelief) (n : ℕ) (held : CellBelief) (came : List Returned) → n < length whole → held ≡ get_or whole n held
      → any_lost size (beliefs_held whole n (drop n whole)) came
      ≡ (lost_held held n (drop (n + 1) whole ++ whole) (text_came size held n came) || any_lost size (beliefs_held whole (n + 1) (drop (n + 1) whole)) (came_behind size held n came))
  lost_step whole n held came within is =
      at_drop_more (λ rest. any_lost size (beliefs_held whole n rest) came) whole n held within
      ∙ ap (λ x. any_lost size (beliefs_held whole n (x ∷ drop (n + 1) whole)) came) (sym is)
      ∙ lost_on whole n held (drop (n + 1) whole) came

  -- ---- all fields with what came for them

  -- what is asked of the answers
  abbrev Answered : List Belief → List Returned → Option (List Answer) → Type 0
  Answered bs rs None = is_possible size bs rs ≡ false
  Answered bs rs (Some found) =
      (is_possible size bs rs ≡ not (list_any contradicts found)) × (any_lost size bs rs ≡ list_any was_erased found) × ((erased : Bool) → long_after size erased bs rs ≡ map (after_long erased) found)

  possible_next : (b : Belief) (bs : List Belief) (rs : List Returned) → is_possible size (b ∷ bs) rs ≡ (not (contradicts_text b (text_at (next_address size b.place) rs)) && is_possible size bs (came_past (next_address size b.place) rs))
  possible_next b bs [] = refl
  possible_next b bs (r ∷ rs) = refl

  and_false : (p : Bool) → (p && false) ≡ false
  and_false true = refl
  and_false false = refl

  not_or : (p q : Bool) → (not p && not q) ≡ not (p || q)
  not_or true q = refl
  not_or false q = refl

  answered_next : (b : Belief) (bs : List Belief) (rs : List Returned) (found : Option (List Answer)) → Answered bs (came_past (next_address size b.place) rs) found
      → Answered (b ∷ bs) rs (option_map (λ more. answer b (text_at (next_address size b.place) rs) ∷ more) found)
  answered_next b bs rs None h =
      let text = text_at (next_address size b.place) rs in
      possible_next b bs rs ∙ ap (λ t. not (contradicts_text b text) && t) h ∙ and_false (not (contradicts_text b text))
  answered_next b bs rs (Some found) h =
      let text = text_at (next_address size b.place) rs in (
        possible_next b bs rs ∙ ap (λ t. not (contradicts_text b text) && t) h.0 ∙ not_or (contradicts_text b text) (list_any contradicts found),
        ap (λ t. lost_text b text || t) h.1,
        λ erased. ap (λ as_. after_long erased (answer b text) ∷ as_) (h.2 erased),
      )

  answered : (bs : List Belief) (rs : List Returned) → Answered bs rs (answers size bs rs)
  answered [] [] = (refl, refl, λ erased. refl)
  answered [] (r ∷ rs) = refl
  answered (b ∷ bs) rs =
      subst (Answered (b ∷ bs) rs) (sym (answers_step size b bs rs))
      (answered_next b bs rs (answers size bs (came_past (next_address size b.place) rs)) (answered bs (came_past (next_address size b.place) rs)))

  heard_after : List Belief → List Returned → Bool → Result Shadow HeardFault
  heard_after bs rs t = if t then Ok (Shadow.Formatted (long_after size (any_lost size bs rs) bs rs)) else Err Contradiction

  abbrev failed : Result Shadow HeardFault
  failed = Err Contradiction

  pub settled_possible : (bs : List Belief) (rs : List Returned) → is_possible size bs rs ≡ true → settled (answers size bs rs) ≡ Ok (Shadow.Formatted (long_after size (any_lost size bs rs) bs rs))
  settled_possible bs rs e = cases (answers size bs rs) (answered bs rs)
    where
      inner : (found : List Answer) (t : Bool) → Answered bs rs (Some found) → list_any contradicts found ≡ t
          → (if t then Err Contradiction else Ok (Shadow.Formatted (map (after_long (list_any was_erased found)) found))) ≡ Ok (Shadow.Formatted (long_after size (any_lost size bs rs) bs rs))
      inner found true h is = absurd (let bad = sym e ∙ h.0 ∙ ap not is in cc)
      inner found false h is = ap (λ b. Ok (Shadow.Formatted (map (after_long b) found))) (sym h.1) ∙ ap (λ bs_. Ok (Shadow.Formatted bs_)) (sym (h.2 (any_lost size bs rs)))

      cases : (found : Option (List Answer)) → Answered bs rs found → settled found ≡ Ok (Shadow.Formatted (long_after size (any_lost size bs rs) bs rs))
      cases None h = absurd (let bad = sym e ∙ h in cc)
      cases (Some found) h = inner found (list_any contradicts found) h refl

  pub settled_impossible : (bs : List Belief) (rs : List Returned) → is_possible size bs rs ≡ false → settled (answers size bs rs) ≡ Err Contradiction
  settled_impossible bs rs e = cases (answers size bs rs) (answered bs rs)
    where
      inner : (found : List Answer) (t : Bool) → Answered bs rs (Some found) → list_any contradicts found ≡ t
          → (if t then Err Contradiction else Ok (Shadow.Formatted (map (after_long (list_any was_erased found)) found))) ≡ failed
      inner found true h is = refl
      inner found false h is = absurd (let bad = sym e ∙ h.0 ∙ ap not is in cc)

      cases : (found : Option (List Answer)) → Answered bs rs found → settled found ≡ failed
      cases None h = refl
      cases (Some found) h = inner found (list_any contradicts found) h refl

  -- where each text is a field's, and none stands before them
  pub fields_heard : (bs : List Belief) (leading_text : List ℕ) (rs : List Returned) → list_any (is_nowhere size bs) rs ≡ false → nat_lt 0 (length leading_text) ≡ false
      → heard_long size (Shadow.Formatted bs) leading_text rs ≡ settled (answers size bs rs)
  fields_heard bs leading_text rs somewhere none = rw (somewhere, none) refl

  pub or_more : (p q r : Bool) → (p || (q || r)) ≡ ((p || q) || r)
  or_more true q r = refl
  or_more false q r = refl

  -- ---- what is refused, and for which fault

  -- what is possible comes for fields
  matched : (size first : ℕ) (b : Belief) (bs : List Belief) (rs : List Returned) → next_address size b.place ≡ first → list_any (is_nowhere size bs) (came_past first rs) ≡ false → list_any (is_nowhere size (b ∷ bs)) rs ≡ false
  matched size first b bs [] same e = refl
  matched size first b bs (r ∷ rs) same e = cases (first == r.first) refl e
    where
      cases : (t : Bool) → (first == r.first) ≡ t → list_any (is_nowhere size bs) (if t then rs else r ∷ rs) ≡ false → list_any (is_nowhere size (b ∷ bs)) (r ∷ rs) ≡ false
      cases true is e = rw (same, is) (nowhere_more size b bs rs e)
      cases false is e = nowhere_more size b bs (r ∷ rs) e

  pub possible_somewhere : (bs : List Belief) (rs : List Returned) → is_possible size bs rs ≡ true → list_any (is_nowhere size bs) rs ≡ false
  possible_somewhere [] [] e = refl
  possible_somewhere [] (r ∷ rs) e = absurd (cc)
  possible_somewhere (b ∷ bs) rs e =
      let first = next_address size b.place in
      matched size first b bs rs refl (possible_somewhere bs (came_past first rs) (later (contradicts_text b (text_at first rs)) (is_possible size bs (came_past first rs)) (sym (possible_next b bs rs) ∙ e)))
    where
      later : (t u : Bool) → (not t && u) ≡ true → u ≡ true
      later true u h = absurd (cc)
      later false u h = h

  -- which fault it is
  abbrev pub fault_in : List Belief → List Returned → HeardFault
  fault_in bs rs = if list_any (is_nowhere size bs) rs then NoSuchField else Contradiction

  abbrev faulty : Bool → Bool → Result Shadow HeardFault → Result Shadow HeardFault
  faulty nowhere some more = if nowhere then Err NoSuchField else (if some then Err Contradiction else more)

  pub lead_refused : (bs : List Belief) (leading_text : List ℕ) (rs : List Returned) → nat_lt 0 (length leading_text) ≡ true → heard_long size (Shadow.Formatted bs) leading_text rs ≡ Err (fault_in bs rs)
  lead_refused bs leading_text rs some = cases (list_any (is_nowhere size bs) rs) (nat_lt 0 (length leading_text)) some
    where
      cases : (t u : Bool) → u ≡ true → faulty t u (settled (answers size bs rs)) ≡ Err (if t then NoSuchField else Contradiction)
      cases true u e = refl
      cases false u e = ap (λ (v : Bool). if v then Err Contradiction else settled (answers size bs rs)) e

  pub impossible_refused : (bs : List Belief) (leading_text : List ℕ) (rs : List Returned) → is_possible size bs rs ≡ false → heard_long size (Shadow.Formatted bs) leading_text rs ≡ Err (fault_in bs rs)
  impossible_refused bs leading_text rs e = cases (list_any (is_nowhere size bs) rs) (nat_lt 0 (length leading_text)) (settled (answers size bs rs)) (settled_impossible bs rs e)
    where
      cases : (t u : Bool) (more : Result Shadow HeardFault) → more ≡ failed → faulty t u more ≡ Err (if t then NoSuchField else Contradiction)
      cases true u more e = refl
      cases false true more e = refl
      cases false false more e = e

  pub possible_heard : (bs : List Belief) (leading_text : List ℕ) (rs : List Returned) (erased : Bool) → is_possible size bs rs ≡ true → any_lost size bs rs ≡ erased → nat_lt 0 (length leading_text) ≡ false
      → heard_long size (Shadow.Formatted bs) leading_text rs ≡ Ok (Shadow.Formatted (long_after size erased bs rs))
  possible_heard bs leading_text rs erased e lost none =
      fields_heard bs leading_text rs (possible_somewhere bs rs e) none ∙ settled_possible bs rs e ∙ ap (λ (t : Bool). Ok (Shadow.Formatted (long_after size t bs rs))) lost

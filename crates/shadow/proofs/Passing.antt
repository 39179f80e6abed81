-- Fields changed in one walk over the places, which goes on round the end.
use Rattle.std.proofs.Common.{◌≡◌, ℕ, suc, ◌≤◌, Bool, true, false, List, [], ◌∷◌, ◌++◌, length, replicate, Option, Some, None, refl, ap, arith}
use Rattle.shadow.specs.declared.cell_belief.CellBelief.{CellBelief}
use Rattle.shadow.specs.declared.cell_belief.CellBelief.TheVariants.{Attr, Known, Unplaced, Unknown}
use Rattle.shadow.specs.Filled.{Fill, Change, filled, fill_next, first_told, text_behind, front_filled, all_changed, last_fill}
use Rattle.shadow.specs.InPlace.{chars_known, text_told, is_attribute, has_attribute, AreHeld, is_whole, known_text}

-- ---- what fills one place

pub still_char : (f : Fill) (p : CellBelief) → is_attribute p ≡ false → is_attribute (filled f p) ≡ false
still_char Fill.Same p e = e
still_char Fill.Unknown p e = refl
still_char Fill.Null p e = refl
still_char (Fill.Chars []) p e = refl
still_char (Fill.Chars (c ∷ text)) p e = refl
still_char Fill.Unplaced (Attr a m t) e = absurd (cc)
still_char Fill.Unplaced (Known c) e = refl
still_char Fill.Unplaced (Unplaced c) e = refl
still_char Fill.Unplaced Unknown e = refl

pub still_held : (whole : List CellBelief) (p : CellBelief) (ps : List CellBelief) → is_attribute p ≡ false → AreHeld whole ps → AreHeld whole (p ∷ ps)
still_held whole (Attr a m t) ps e h = absurd (cc)
still_held whole (Known c) ps e h = h
still_held whole (Unplaced c) ps e h = h
still_held whole Unknown ps e h = h

-- two lists of places that begin alike
abbrev pub Alike : List CellBelief → List CellBelief → Type 0
Alike ps qs = (chars_known ps ≡ chars_known qs) × (text_told ps ≡ text_told qs)

alike_behind : (p : CellBelief) (ps qs : List CellBelief) → Alike ps qs → Alike (p ∷ ps) (p ∷ qs)
alike_behind (Attr a m t) ps qs h = (refl, refl)
alike_behind (Known c) ps qs h = (ap (λ cs. Some c ∷ cs) h.0, refl)
alike_behind (Unplaced c) ps qs h = (ap (λ cs. None ∷ cs) h.0, ap (λ cs. c ∷ cs) h.1)
alike_behind Unknown ps qs h = (ap (λ cs. None ∷ cs) h.0, refl)

-- the characters before the first attribute, filled
abbrev pub fills : Fill → List CellBelief → List CellBelief
fills f [] = []
fills f (Attr a m t ∷ ps) = []
fills f (Known c ∷ ps) = filled f (Known c) ∷ fills (fill_next f) ps
fills f (Unplaced c ∷ ps) = filled f (Unplaced c) ∷ fills (fill_next f) ps
fills f (Unknown ∷ ps) = filled f Unknown ∷ fills (fill_next f) ps

-- what stands behind a place, and in front of what begins as `more` filled
pub walk_alike : (f : Fill) (cs : List Change) (ps whole more : List CellBelief) → length cs ≡ length ps → Alike more (fills (last_fill f cs ps) whole) → Alike (all_changed f cs ps ++ more) (fills f (ps ++ whole))
walk_alike f [] [] whole more even h = h
walk_alike f (c ∷ cs) [] whole more even h = absurd (omega arith)
walk_alike f [] (p ∷ ps) whole more even h = absurd (omega arith)
walk_alike f (c ∷ cs) (Attr a m t ∷ ps) whole more even h = (refl, refl)
walk_alike f (c ∷ cs) (Known x ∷ ps) whole more even h = alike_behind (filled f (Known x)) _ _ (walk_alike (fill_next f) cs ps whole more (omega arith) h)
walk_alike f (c ∷ cs) (Unplaced x ∷ ps) whole more even h = alike_behind (filled f (Unplaced x)) _ _ (walk_alike (fill_next f) cs ps whole more (omega arith) h)
walk_alike f (c ∷ cs) (Unknown ∷ ps) whole more even h = alike_behind (filled f Unknown) _ _ (walk_alike (fill_next f) cs ps whole more (omega arith) h)

-- the walk that begins with nothing, and then goes on round the end, is one that begins as it ends
pub front_walk : (g : Fill) (cs : List Change) (ps : List CellBelief) → length cs ≡ length ps → front_filled g (all_changed Fill.Same cs ps) ≡ all_changed g cs ps
front_walk g [] [] even = refl
front_walk g (c ∷ cs) [] even = absurd (omega arith)
front_walk g [] (p ∷ ps) even = absurd (omega arith)
front_walk g (c ∷ cs) (Attr a m t ∷ ps) even = refl
front_walk g (c ∷ cs) (Known x ∷ ps) even = ap (λ qs. filled g (Known x) ∷ qs) (front_walk (fill_next g) cs ps (omega arith))
front_walk g (c ∷ cs) (Unplaced x ∷ ps) even = ap (λ qs. filled g (Unplaced x) ∷ qs) (front_walk (fill_next g) cs ps (omega arith))
front_walk g (c ∷ cs) (Unknown ∷ ps) even = ap (λ qs. filled g Unknown ∷ qs) (front_walk (fill_next g) cs ps (omega arith))

last_any : (f g : Fill) (cs : List Change) (ps : List CellBelief) → length cs ≡ length ps → has_attribute ps ≡ true → last_fill f cs ps ≡ last_fill g cs ps
last_any f g [] [] even e = absurd (cc)
last_any f g (c ∷ cs) [] even e = absurd (cc)
last_any f g [] (p ∷ ps) even e = absurd (omega arith)
last_any f g (c ∷ cs) (Attr a m t ∷ ps) even e = refl
last_any f g (c ∷ cs) (Known x ∷ ps) even e = last_any (fill_next f) (fill_next g) cs ps (omega arith) e
last_any f g (c ∷ cs) (Unplaced x ∷ ps) even e = last_any (fill_next f) (fill_next g) cs ps (omega arith) e
last_any f g (c ∷ cs) (Unknown ∷ ps) even e = last_any (fill_next f) (fill_next g) cs ps (omega arith) e

last_same : (cs : List Change) (ps : List CellBelief) → length cs ≡ length ps → has_attribute ps ≡ false → last_fill Fill.Same cs ps ≡ Fill.Same
last_same [] [] even e = refl
last_same (c ∷ cs) [] even e = refl
last_same [] (p ∷ ps) even e = absurd (omega arith)
last_same (c ∷ cs) (Attr a m t ∷ ps) even e = absurd (cc)
last_same (c ∷ cs) (Known x ∷ ps) even e = last_same cs ps (omega arith) e
last_same (c ∷ cs) (Unplaced x ∷ ps) even e = last_same cs ps (omega arith) e
last_same (c ∷ cs) (Unknown ∷ ps) even e = last_same cs ps (omega arith) e

pub last_again : (cs : List Change) (ps : List CellBelief) → length cs ≡ length ps → last_fill (last_fill Fill.Same cs ps) cs ps ≡ last_fill Fill.Same cs ps
last_again cs ps even = cases (has_attribute ps) refl
  where
    cases : (t : Bool) → has_attribute ps ≡ t → last_fill (last_fill Fill.Same cs ps) cs ps ≡ last_fill Fill.Same cs ps
    cases true e = last_any (last_fill Fill.Same cs ps) Fill.Same cs ps even e
    cases false e = ap (λ f. last_fill f cs ps) (last_same cs ps even e)

-- ---- what a filled field says

pub fills_same : (ps : List CellBelief) → Alike (fills Fill.Same ps) ps
fills_same [] = (refl, refl)
fills_same (Attr a m t ∷ ps) = (refl, refl)
fills_same (Known c ∷ ps) = alike_behind (Known c) _ _ (fills_same ps)
fills_same (Unplaced c ∷ ps) = alike_behind (Unplaced c) _ _ (fills_same ps)
fills_same (Unknown ∷ ps) = alike_behind Unknown _ _ (fills_same ps)

pub fills_unknown : (ps : List CellBelief) → chars_known (fills Fill.Unknown ps) ≡ replicate (length (chars_known ps)) None
fills_unknown [] = refl
fills_unknown (Attr a m t ∷ ps) = refl
fills_unknown (Known c ∷ ps) = ap (λ ks. None ∷ ks) (fills_unknown ps)
fills_unknown (Unplaced c ∷ ps) = ap (λ ks. None ∷ ks) (fills_unknown ps)
fills_unknown (Unknown ∷ ps) = ap (λ ks. None ∷ ks) (fills_unknown ps)

pub fills_null : (ps : List CellBelief) → chars_known (fills Fill.Null ps) ≡ replicate (length (chars_known ps)) (Some 0)
fills_null [] = refl
fills_null (Attr a m t ∷ ps) = refl
fills_null (Known c ∷ ps) = ap (λ ks. Some 0 ∷ ks) (fills_null ps)
fills_null (Unplaced c ∷ ps) = ap (λ ks. Some 0 ∷ ks) (fills_null ps)
fills_null (Unknown ∷ ps) = ap (λ ks. Some 0 ∷ ks) (fills_null ps)

one_told : (text : List ℕ) (ps : List CellBelief) (ks : List (Option ℕ)) → chars_known ps ≡ ks → chars_known (first_told text ∷ ps) ≡ None ∷ ks
one_told [] ps ks e = ap (λ cs. None ∷ cs) e
one_told (c ∷ text) ps ks e = ap (λ cs. None ∷ cs) e

pub fills_chars : (text : List ℕ) (ps : List CellBelief) → chars_known (fills (Fill.Chars text) ps) ≡ replicate (length (chars_known ps)) None
fills_chars text [] = refl
fills_chars text (Attr a m t ∷ ps) = refl
fills_chars text (Known c ∷ ps) = one_told text _ _ (fills_chars (text_behind text) ps)
fills_chars text (Unplaced c ∷ ps) = one_told text _ _ (fills_chars (text_behind text) ps)
fills_chars text (Unknown ∷ ps) = one_told text _ _ (fills_chars (text_behind text) ps)

text_on : (text : List ℕ) (ps : List CellBelief) (n : ℕ) → length text ≤ suc n → (length (text_behind text) ≤ n → text_told ps ≡ text_behind text) → text_told (first_told text ∷ ps) ≡ text
text_on [] ps n few h = refl
text_on (c ∷ text) ps n few h = ap (λ cs. c ∷ cs) (h (omega arith))

none_there : (text : List ℕ) → length text ≤ 0 → [] ≡ text
none_there [] few = refl
none_there (c ∷ text) few = absurd (omega arith)

pub fills_text : (text : List ℕ) (ps : List CellBelief) → length text ≤ length (chars_known ps) → text_told (fills (Fill.Chars text) ps) ≡ text
fills_text text [] few = none_there text few
fills_text text (Attr a m t ∷ ps) few = none_there text few
fills_text text (Known c ∷ ps) few = text_on text _ (length (chars_known ps)) few (fills_text (text_behind text) ps)
fills_text text (Unplaced c ∷ ps) few = text_on text _ (length (chars_known ps)) few (fills_text (text_behind text) ps)
fills_text text (Unknown ∷ ps) few = text_on text _ (length (chars_known ps)) few (fills_text (text_behind text) ps)

pub fills_told : (ps : List CellBelief) → chars_known (fills Fill.Unplaced ps) ≡ replicate (length (chars_known ps)) None
fills_told [] = refl
fills_told (Attr a m t ∷ ps) = refl
fills_told (Known c ∷ ps) = ap (λ ks. None ∷ ks) (fills_told ps)
fills_told (Unplaced c ∷ ps) = ap (λ ks. None ∷ ks) (fills_told ps)
fills_told (Unknown ∷ ps) = ap (λ ks. None ∷ ks) (fills_told ps)

pub fills_known : (ps : List CellBelief) → is_whole (chars_known ps) ≡ true → text_told (fills Fill.Unplaced ps) ≡ known_text (chars_known ps)
fills_known [] e = refl
fills_known (Attr a m t ∷ ps) e = refl
fills_known (Known c ∷ ps) e = ap (λ cs. c ∷ cs) (fills_known ps e)
fills_known (Unplaced c ∷ ps) e = absurd (cc)
fills_known (Unknown ∷ ps) e = absurd (cc)

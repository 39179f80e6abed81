-- A walk that changes fields from attribute to attribute is the walk over all places.
use Rattle.std.proofs.Common.{◌≡◌, ℕ, suc, ◌+◌, ◌-◌, ◌<◌, ◌≤◌, Bool, List, [], ◌∷◌, ◌++◌, length, take, drop, set, get_or, Option, Some, None, refl, ap, sym, subst, arith, ◌∙◌, append_assoc, append-nil, length-append}
use Rattle.std.proofs.Math.Seq.{drop-nil}
use Rattle.std.proofs.lemmas.List.{get_or_default, drop_more, take_more_set, drop-set-lt, take_at, drop_at, length-take-le, take-append-drop, take_all, at_drop_all}
use Rattle.codes3270.specs.declared.attribute.Attr.{Attr as Attribute}
use Rattle.datastream.specs.InboundFields.{Returned}
use Rattle.shadow.specs.declared.mdt_state.MdtState.{MdtState}
use Rattle.shadow.specs.declared.cell_belief.TextKnowledge.{TextKnowledge}
use Rattle.shadow.specs.declared.cell_belief.TextKnowledge.TheVariants.{Cells, ExactOrNulls, Text, TextOrNulls}
use Rattle.shadow.specs.declared.cell_belief.CellBelief.{CellBelief}
use Rattle.shadow.specs.declared.cell_belief.CellBelief.TheVariants.{Attr, Known, Unplaced, Unknown}
use Rattle.shadow.specs.declared.apply_inbound.Unreturned.{Unreturned}
use Rattle.shadow.specs.Filled.{Fill, Change, filled, fill_next, fill_after, changed, came_behind, text_came, of_known, unreturned_at, unreturned_from, long_change, long_changes, all_changed, last_fill, front_filled}
use Rattle.shadow.specs.InPlace.{chars_known}
use Rattle.shadow.specs.PackedBeliefs.{with_head}
use Rattle.shadow.proofs.Passing.{fills}
use Rattle.shadow.proofs.Stretches.{drop_drop}

-- ---- what fills the characters of a field

pub fill_here : (f : Fill) → f ≡ fill_after 0 f
fill_here Fill.Same = refl
fill_here Fill.Unknown = refl
fill_here Fill.Null = refl
fill_here (Fill.Chars text) = refl
fill_here Fill.Unplaced = refl

pub fill_further : (k : ℕ) (f : Fill) → fill_after k (fill_next f) ≡ fill_after (suc k) f
fill_further k Fill.Same = refl
fill_further k Fill.Unknown = refl
fill_further k Fill.Null = refl
fill_further k (Fill.Chars []) = ap Fill.Chars (drop-nil k ∙ sym (drop-nil (suc k)))
fill_further k (Fill.Chars (c ∷ text)) = refl
fill_further k Fill.Unplaced = refl

pub front_parts : (f : Fill) (ps : List CellBelief) → front_filled f ps ≡ fills f ps ++ drop (length (chars_known ps)) ps
front_parts f [] = refl
front_parts f (Attr a m t ∷ ps) = refl
front_parts f (Known c ∷ ps) = ap (λ (qs : List CellBelief). filled f (Known c) ∷ qs) (front_parts (fill_next f) ps)
front_parts f (Unplaced c ∷ ps) = ap (λ (qs : List CellBelief). filled f (Unplaced c) ∷ qs) (front_parts (fill_next f) ps)
front_parts f (Unknown ∷ ps) = ap (λ (qs : List CellBelief). filled f Unknown ∷ qs) (front_parts (fill_next f) ps)

length-fills : (f : Fill) (ps : List CellBelief) → length (fills f ps) ≡ length (chars_known ps)
length-fills f [] = refl
length-fills f (Attr a m t ∷ ps) = refl
length-fills f (Known c ∷ ps) = ap suc (length-fills (fill_next f) ps)
length-fills f (Unplaced c ∷ ps) = ap suc (length-fills (fill_next f) ps)
length-fills f (Unknown ∷ ps) = ap suc (length-fills (fill_next f) ps)

pub same_fills : (ps : List CellBelief) → fills Fill.Same ps ≡ take (length (chars_known ps)) ps
same_fills [] = refl
same_fills (Attr a m t ∷ ps) = refl
same_fills (Known c ∷ ps) = ap (λ (qs : List CellBelief). Known c ∷ qs) (same_fills ps)
same_fills (Unplaced c ∷ ps) = ap (λ (qs : List CellBelief). Unplaced c ∷ qs) (same_fills ps)
same_fills (Unknown ∷ ps) = ap (λ (qs : List CellBelief). Unknown ∷ qs) (same_fills ps)

pub same_front : (ps : List CellBelief) → front_filled Fill.Same ps ≡ ps
same_front ps = front_parts Fill.Same ps ∙ ap (λ (qs : List CellBelief). qs ++ drop (length (chars_known ps)) ps) (same_fills ps) ∙ take-append-drop (length (chars_known ps)) ps

-- behind its characters an attribute stands, or nothing
pub none_left : (ps : List CellBelief) → length (chars_known (drop (length (chars_known ps)) ps)) ≡ 0
none_left [] = refl
none_left (Attr a m t ∷ ps) = refl
none_left (Known c ∷ ps) = none_left ps
none_left (Unplaced c ∷ ps) = none_left ps
none_left (Unknown ∷ ps) = none_left ps

-- ---- what is known of a field's characters

known_tail : (xs ys zs : List CellBelief) → chars_known ys ≡ chars_known zs → chars_known (xs ++ ys) ≡ chars_known (xs ++ zs)
known_tail [] ys zs e = e
known_tail (Attr a m t ∷ xs) ys zs e = refl
known_tail (Known c ∷ xs) ys zs e = ap (λ (ks : List (Option ℕ)). Some c ∷ ks) (known_tail xs ys zs e)
known_tail (Unplaced c ∷ xs) ys zs e = ap (λ (ks : List (Option ℕ)). None ∷ ks) (known_tail xs ys zs e)
known_tail (Unknown ∷ xs) ys zs e = ap (λ (ks : List (Option ℕ)). None ∷ ks) (known_tail xs ys zs e)

unreturned_alike : (p : CellBelief) (xs ys : List CellBelief) → chars_known xs ≡ chars_known ys → unreturned_at p xs ≡ unreturned_at p ys
unreturned_alike (Attr a m Cells) xs ys e = ap of_known e
unreturned_alike (Attr a m ExactOrNulls) xs ys e = refl
unreturned_alike (Attr a m Text) xs ys e = refl
unreturned_alike (Attr a m TextOrNulls) xs ys e = refl
unreturned_alike (Known c) xs ys e = refl
unreturned_alike (Unplaced c) xs ys e = refl
unreturned_alike Unknown xs ys e = refl

-- ---- the walk

module _ (erased : Bool) (whole : List CellBelief) where
  abbrev changes : ℕ → List Returned → List CellBelief → List Change
  changes at came ps = long_changes (length whole) erased at came ps (unreturned_from whole ps)

  -- what is left of it from a place on, and what it ends with
  abbrev pub walk : Fill → ℕ → List Returned → List CellBelief → List CellBelief
  walk f at came ps = all_changed f (changes at came ps) ps

  abbrev pub walk_fill : Fill → ℕ → List Returned → List CellBelief → Fill
  walk_fill f at came ps = last_fill f (changes at came ps) ps

  walk_on : (f : Fill) (at : ℕ) (came : List Returned) (p : CellBelief) (ps : List CellBelief) → (let k = length (chars_known ps) in walk (fill_next f) (at + 1) came ps ≡ fills (fill_next f) ps ++ walk (fill_after k (fill_next f)) (at + 1 + k) came (drop k ps))
      → (let k = length (chars_known ps) in filled f p ∷ walk (fill_next f) (at + 1) came ps ≡ (filled f p ∷ fills (fill_next f) ps) ++ walk (fill_after (suc k) f) (at + suc k) came (drop k ps))
  walk_on f at came p ps e =
      let k : ℕ = length (chars_known ps) in
      let same : at + 1 + k ≡ at + suc k = omega arith in
      ap (λ (qs : List CellBelief). filled f p ∷ qs)
      (e ∙ ap (λ (n : ℕ). fills (fill_next f) ps ++ walk (fill_after k (fill_next f)) n came (drop k ps)) same
      ∙ ap (λ (g : Fill). fills (fill_next f) ps ++ walk g (at + suc k) came (drop k ps)) (fill_further k f))

  pub walk_passed : (f : Fill) (at : ℕ) (came : List Returned) (ps : List CellBelief) → (let k = length (chars_known ps) in walk f at came ps ≡ fills f ps ++ walk (fill_after k f) (at + k) came (drop k ps))
  walk_passed f at came [] = refl
  walk_passed f at came (Attr a m t ∷ ps) = let same : at ≡ at + 0 = omega arith in ap (λ (n : ℕ). walk f n came (Attr a m t ∷ ps)) same
  walk_passed f at came (Known c ∷ ps) = walk_on f at came (Known c) ps (walk_passed (fill_next f) (at + 1) came ps)
  walk_passed f at came (Unplaced c ∷ ps) = walk_on f at came (Unplaced c) ps (walk_passed (fill_next f) (at + 1) came ps)
  walk_passed f at came (Unknown ∷ ps) = walk_on f at came Unknown ps (walk_passed (fill_next f) (at + 1) came ps)

  fill_on : (f : Fill) (at : ℕ) (came : List Returned) (ps : List CellBelief) → (let k = length (chars_known ps) in walk_fill (fill_next f) (at + 1) came ps ≡ walk_fill (fill_after k (fill_next f)) (at + 1 + k) came (drop k ps))
      → (let k = length (chars_known ps) in walk_fill (fill_next f) (at + 1) came ps ≡ walk_fill (fill_after (suc k) f) (at + suc k) came (drop k ps))
  fill_on f at came ps e =
      let k : ℕ = length (chars_known ps) in
      let same : at + 1 + k ≡ at + suc k = omega arith in
      e ∙ ap (λ (n : ℕ). walk_fill (fill_after k (fill_next f)) n came (drop k ps)) same ∙ ap (λ (g : Fill). walk_fill g (at + suc k) came (drop k ps)) (fill_further k f)

  pub fill_passed : (f : Fill) (at : ℕ) (came : List Returned) (ps : List CellBelief) → (let k = length (chars_known ps) in walk_fill f at came ps ≡ walk_fill (fill_after k f) (at + k) came (drop k ps))
  fill_passed f at came [] = fill_here f
  fill_passed f at came (Attr a m t ∷ ps) = let same : at ≡ at + 0 = omega arith in ap (λ (n : ℕ). walk_fill f n came (Attr a m t ∷ ps)) same
  fill_passed f at came (Known c ∷ ps) = fill_on f at came ps (fill_passed (fill_next f) (at + 1) came ps)
  fill_passed f at came (Unplaced c ∷ ps) = fill_on f at came ps (fill_passed (fill_next f) (at + 1) came ps)
  fill_passed f at came (Unknown ∷ ps) = fill_on f at came ps (fill_passed (fill_next f) (at + 1) came ps)

  -- what holds between two fields
  pub record Between (f : Fill) (at : ℕ) (came all : List Returned) (now : List CellBelief) : Type 0 where
    pub size : length now ≡ length whole
    pub left : drop at now ≡ drop at whole
    pub front : chars_known now ≡ chars_known whole
    pub stands : length (chars_known (drop at now)) ≡ 0
    pub walked : walk Fill.Same 0 all whole ≡ take at now ++ walk f at came (drop at whole)
    pub ends : walk_fill Fill.Same 0 all whole ≡ walk_fill f at came (drop at whole)

  -- at the first attribute
  pub begins : (at : ℕ) (came : List Returned) → at ≡ 0 + length (chars_known (drop 0 whole)) → Between Fill.Same at came came whole
  begins at came is =
      let k : ℕ = length (chars_known whole) in
      let same : k ≡ at = omega arith in
      let from : 0 + k ≡ at = omega arith in
      record {
        size = refl;
        left = refl;
        front = refl;
        stands = subst (λ (n : ℕ). length (chars_known (drop n whole)) ≡ 0) same (none_left whole);
        walked = walk_passed Fill.Same 0 came whole
            ∙ ap (λ (n : ℕ). fills Fill.Same whole ++ walk Fill.Same n came (drop k whole)) from
            ∙ ap (λ (qs : List CellBelief). qs ++ walk Fill.Same at came (drop k whole)) (same_fills whole)
            ∙ ap (λ (n : ℕ). take n whole ++ walk Fill.Same at came (drop n whole)) same;
        ends = fill_passed Fill.Same 0 came whole ∙ ap (λ (n : ℕ). walk_fill Fill.Same n came (drop k whole)) from ∙ ap (λ (n : ℕ). walk_fill Fill.Same at came (drop n whole)) same;
      }

  -- what all fields come to, with those of the last round the end
  abbrev pub all_taken : List Returned → List CellBelief
  all_taken all = front_filled (walk_fill Fill.Same 0 all whole) (walk Fill.Same 0 all whole)

  -- behind the last one
  pub finished : (f : Fill) (at : ℕ) (came all : List Returned) (now : List CellBelief) → Between f at came all now → length whole ≤ at
      → take 0 now ++ front_filled f (drop 0 now) ≡ front_filled (walk_fill Fill.Same 0 all whole) (walk Fill.Same 0 all whole)
  finished f at came all now h over =
      let size = h.size in
      let walked : walk Fill.Same 0 all whole ≡ now = h.walked ∙ at_drop_all (λ (qs : List CellBelief). take at now ++ walk f at came qs) whole at over ∙ append-nil (take at now) ∙ take_all at now (omega arith) in
      let ends : walk_fill Fill.Same 0 all whole ≡ f = h.ends ∙ at_drop_all (walk_fill f at came) whole at over in
      ap (λ (g : Fill). front_filled g now) (sym ends) ∙ ap (front_filled (walk_fill Fill.Same 0 all whole)) (sym walked)

  -- the places after a field's step, by what stands before its attribute, and behind
  module _ (at k : ℕ) (xs rest : List CellBelief) (a : Attribute) (m : MdtState) (t : TextKnowledge) (one : Change) (before : length xs ≡ at) (count : k ≡ length (chars_known rest)) where
    abbrev new : CellBelief
    new = Attr a one.mdt one.knowledge

    parts : (xs ++ new ∷ front_filled one.fill rest) ≡ (xs ++ new ∷ fills one.fill rest) ++ drop k rest
    parts =
        ap (λ (qs : List CellBelief). xs ++ new ∷ qs) (front_parts one.fill rest ∙ ap (λ (n : ℕ). fills one.fill rest ++ drop n rest) (sym count))
        ∙ sym (append_assoc xs (new ∷ fills one.fill rest) (drop k rest))

    long : length (xs ++ new ∷ fills one.fill rest) ≡ at + 1 + k
    long = omega (arith, length-append xs (new ∷ fills one.fill rest), length-fills one.fill rest)

    pub taken : take (at + 1 + k) (xs ++ new ∷ front_filled one.fill rest) ≡ xs ++ new ∷ fills one.fill rest
    taken = ap (take (at + 1 + k)) parts ∙ take_at (xs ++ new ∷ fills one.fill rest) (drop k rest) (at + 1 + k) long

    pub dropped : drop (at + 1 + k) (xs ++ new ∷ front_filled one.fill rest) ≡ drop k rest
    dropped = ap (drop (at + 1 + k)) parts ∙ drop_at (xs ++ new ∷ fills one.fill rest) (drop k rest) (at + 1 + k) long

    known_before : (ys zs : List CellBelief) (n : MdtState) (u : TextKnowledge) → chars_known (xs ++ new ∷ ys) ≡ chars_known (xs ++ Attr a n u ∷ zs)
    known_before ys zs n u = known_tail xs (new ∷ ys) (Attr a n u ∷ zs) refl

    pub stepped : (f : Fill) (came all : List Returned) (now after : List CellBelief) → Between f at came all now → now ≡ xs ++ Attr a m t ∷ rest → drop at now ≡ Attr a m t ∷ rest
        → one ≡ long_change erased (Attr a m t) (unreturned_at (Attr a m t) (rest ++ now)) (text_came (length whole) (Attr a m t) at came) → after ≡ xs ++ new ∷ front_filled one.fill rest → take at now ≡ xs
        → Between (fill_after k one.fill) (at + 1 + k) (came_behind (length whole) (Attr a m t) at came) all after
    stepped f came all now after h is here is_one is_after is_taken =
        let behind = came_behind (length whole) (Attr a m t) at came in
        let there : drop at whole ≡ Attr a m t ∷ rest = sym h.left ∙ here in
        let whole_rest : drop (at + 1) whole ≡ rest = sym (drop_drop at 1 whole) ∙ ap (drop 1) there in
        let left : drop (at + 1 + k) after ≡ drop (at + 1 + k) whole = ap (drop (at + 1 + k)) is_after ∙ dropped ∙ ap (drop k) (sym whole_rest) ∙ drop_drop (at + 1) k whole in
        let whole_left : drop (at + 1 + k) whole ≡ drop k rest = sym (drop_drop (at + 1) k whole) ∙ ap (drop k) whole_rest in
        let change : long_change erased (Attr a m t) (unreturned_at (Attr a m t) (rest ++ whole)) (text_came (length whole) (Attr a m t) at came) ≡ one =
        ap (λ (u : Unreturned). long_change erased (Attr a m t) u (text_came (length whole) (Attr a m t) at came)) (unreturned_alike (Attr a m t) (rest ++ whole) (rest ++ now) (known_tail rest whole now (sym h.front))) ∙ sym is_one in
        record {
          size = ap length is_after ∙ omega (arith, h.size, ap length is, length-append xs (new ∷ front_filled one.fill rest), length-append xs (Attr a m t ∷ rest), ap length (front_parts one.fill rest), length-append (fills one.fill rest) (drop (length (chars_known rest)) rest), length-fills one.fill rest, ap length (take-append-drop (length (chars_known rest)) rest), length-append (take (length (chars_known rest)) rest) (drop (length (chars_known rest)) rest), ap length (same_fills rest), length-fills Fill.Same rest);
          left = left;
          front = ap chars_known is_after ∙ known_before (front_filled one.fill rest) rest m t ∙ ap chars_known (sym is) ∙ h.front;
          stands = ap (λ (qs : List CellBelief). length (chars_known qs)) (left ∙ whole_left) ∙ ap (λ (n : ℕ). length (chars_known (drop n rest))) count ∙ none_left rest;
          walked = h.walked
              ∙ ap (λ (qs : List CellBelief). qs ++ walk f at came (drop at whole)) is_taken
              ∙ ap (λ (qs : List CellBelief). xs ++ walk f at came qs) there
              ∙ ap (λ (c : Change). xs ++ Attr a c.mdt c.knowledge ∷ walk c.fill (at + 1) behind rest) change
              ∙ ap (λ (qs : List CellBelief). xs ++ new ∷ qs) (walk_passed one.fill (at + 1) behind rest)
              ∙ ap (λ (n : ℕ). xs ++ new ∷ (fills one.fill rest ++ walk (fill_after n one.fill) (at + 1 + n) behind (drop n rest))) (sym count)
              ∙ sym (append_assoc xs (new ∷ fills one.fill rest) (walk (fill_after k one.fill) (at + 1 + k) behind (drop k rest)))
              ∙ ap (λ (qs : List CellBelief). qs ++ walk (fill_after k one.fill) (at + 1 + k) behind (drop k rest)) (sym (ap (take (at + 1 + k)) is_after ∙ taken))
              ∙ ap (λ (qs : List CellBelief). take (at + 1 + k) after ++ walk (fill_after k one.fill) (at + 1 + k) behind qs) (sym whole_left);
          ends = h.ends
              ∙ ap (walk_fill f at came) there
              ∙ ap (λ (c : Change). walk_fill c.fill (at + 1) behind rest) change
              ∙ fill_passed one.fill (at + 1) behind rest
              ∙ ap (λ (n : ℕ). walk_fill (fill_after n one.fill) (at + 1 + n) behind (drop n rest)) (sym count)
              ∙ ap (walk_fill (fill_after k one.fill) (at + 1 + k) behind) (sym whole_left);
        }

  -- the step of the field whose attribute stands at a place
  pub step : (f : Fill) (at k : ℕ) (came all : List Returned) (now after : List CellBelief) (held : CellBelief) (one : Change) → Between f at came all now → at < length now → held ≡ get_or now at held
      → one ≡ long_change erased held (unreturned_at held (drop (at + 1) now ++ now)) (text_came (length whole) held at came) → k ≡ length (chars_known (drop (at + 1) now))
      → (let put = set now at (changed held f one) in after ≡ take (at + 1) put ++ front_filled one.fill (drop (at + 1) put))
      → Between (fill_after k one.fill) (at + 1 + k) (came_behind (length whole) held at came) all after
  step f at k came all now after held one h within is is_one count is_after = by_place held here h.stands is_one is_after
    where
      rest : List CellBelief
      rest = drop (at + 1) now

      here : drop at now ≡ held ∷ drop (at + 1) now
      here = drop_more now at held within ∙ ap (λ (p : CellBelief). p ∷ drop (at + 1) now) (sym is)

      put_parts : (p : CellBelief) (g : Fill) → take (at + 1) (set now at p) ++ front_filled g (drop (at + 1) (set now at p)) ≡ take at now ++ p ∷ front_filled g (drop (at + 1) now)
      put_parts p g =
          ap (λ (qs : List CellBelief). qs ++ front_filled g (drop (at + 1) (set now at p))) (take_more_set now at p within)
          ∙ ap (λ (qs : List CellBelief). (take at now ++ p ∷ []) ++ front_filled g qs) (drop-set-lt (at + 1) now at p (omega arith))
          ∙ append_assoc (take at now) (p ∷ []) (front_filled g (drop (at + 1) now))

      by_place : (p : CellBelief) → drop at now ≡ p ∷ drop (at + 1) now → length (chars_known (drop at now)) ≡ 0
          → one ≡ long_change erased p (unreturned_at p (drop (at + 1) now ++ now)) (text_came (length whole) p at came)
          → (let put = set now at (changed p f one) in after ≡ take (at + 1) put ++ front_filled one.fill (drop (at + 1) put))
          → Between (fill_after k one.fill) (at + 1 + k) (came_behind (length whole) p at came) all after
      by_place (Attr a m t) there stands is_one is_after =
          stepped at k (take at now) (drop (at + 1) now) a m t one (length-take-le at now (omega arith)) count f came all now after h
          (sym (take-append-drop at now) ∙ ap (λ (qs : List CellBelief). take at now ++ qs) there) there is_one (is_after ∙ put_parts (Attr a one.mdt one.knowledge) one.fill) refl
      by_place (Known c) there stands is_one is_after = absurd (let no = ap (λ (qs : List CellBelief). length (chars_known qs)) there in omega arith)
      by_place (Unplaced c) there stands is_one is_after = absurd (let no = ap (λ (qs : List CellBelief). length (chars_known qs)) there in omega arith)
      by_place Unknown there stands is_one is_after = absurd (let no = ap (λ (qs : List CellBelief). length (chars_known qs)) there in omega arith)

-- an attribute's head alone is changed
headed : (p : CellBelief) (rest : List CellBelief) (f : Fill) (one : Change) → length (chars_known (p ∷ rest)) ≡ 0 → with_head one.mdt one.knowledge p ≡ changed p f one
headed (Attr a m t) rest f one none = refl
headed (Known c) rest f one none = absurd (omega arith)
headed (Unplaced c) rest f one none = absurd (omega arith)
headed Unknown rest f one none = absurd (omega arith)

pub head_changed : (now : List CellBelief) (at : ℕ) (held : CellBelief) (f : Fill) (one : Change) → at < length now → held ≡ get_or now at held → length (chars_known (drop at now)) ≡ 0
    → set now at (with_head one.mdt one.knowledge (get_or now at Unknown)) ≡ set now at (changed held f one)
head_changed now at held f one within is stands =
    let there : drop at now ≡ held ∷ drop (at + 1) now = drop_more now at held within ∙ ap (λ (p : CellBelief). p ∷ drop (at + 1) now) (sym is) in
    let none : length (chars_known (held ∷ drop (at + 1) now)) ≡ 0 = ap (λ (qs : List CellBelief). length (chars_known qs)) (sym there) ∙ stands in
    ap (set now at) (ap (with_head one.mdt one.knowledge) (get_or_default now at Unknown held within ∙ sym is) ∙ headed held (drop (at + 1) now) f one none)

-- what is filled with what it holds stays
pub same_filled : (from : ℕ) (ps : List CellBelief) → ps ≡ take from ps ++ front_filled Fill.Same (drop from ps)
same_filled from ps =
    let rest : List CellBelief = drop from ps in
    sym (take-append-drop from ps) ∙ ap (λ (qs : List CellBelief). take from ps ++ qs)
    (sym (front_parts Fill.Same rest ∙ ap (λ (qs : List CellBelief). qs ++ drop (length (chars_known rest)) rest) (same_fills rest) ∙ take-append-drop (length (chars_known rest)) rest))

-- the step of a field, whose attribute's head is held, and then its characters
pub passed : (erased : Bool) (whole : List CellBelief) (f : Fill) (at end : ℕ) (came left all : List Returned) (now headed_ after : List CellBelief) (held : CellBelief) (one : Change) → Between erased whole f at came all now
    → at < length now → held ≡ get_or now at held → one ≡ long_change erased held (unreturned_at held (drop (at + 1) now ++ now)) (text_came (length whole) held at came)
    → end ≡ at + 1 + length (chars_known (drop (at + 1) now)) → headed_ ≡ set now at (with_head one.mdt one.knowledge (get_or now at Unknown))
    → after ≡ take (at + 1) headed_ ++ front_filled one.fill (drop (at + 1) headed_) → left ≡ came_behind (length whole) held at came → Between erased whole (fill_after (end - at - 1) one.fill) end left all after
passed erased whole f at end came left all now headed_ after held one h within is is_one is_end is_headed is_after is_left =
    let k : ℕ = end - at - 1 in
    let there : at + 1 + k ≡ end = omega arith in
    let set_is = is_headed ∙ head_changed now at held f one within is h.stands in
    let next = step erased whole f at k came all now after held one h within is is_one (omega arith) (is_after ∙ ap (λ (ps : List CellBelief). take (at + 1) ps ++ front_filled one.fill (drop (at + 1) ps)) set_is) in
    subst (λ (rs : List Returned). Between erased whole (fill_after k one.fill) end rs all after) (sym is_left)
    (subst (λ (n : ℕ). Between erased whole (fill_after k one.fill) n (came_behind (length whole) held at came) all after) there next)

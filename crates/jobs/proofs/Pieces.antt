-- The lines that are left of a text, and the words that are left of a line.
use Rattle.std.proofs.Common.{◌≡◌, refl, sym, ap, subst, ◌∙◌, ⊎_elim, inl, inr, ◌⊎◌, Bool, true, false, cond, List, [], ◌∷◌, ◌++◌, ℕ, ◌<◌, length, take, drop, get_or, eqb, arith, ne_eqb, Bor, Option, None, Some, MatchOption, All, encode_utf8}
use Rattle.std.proofs.lemmas.Bool.{cases_lt, true≢false}
use Rattle.std.proofs.lemmas.List.{get_or_default, nil_from_length, take-append-drop}
use Rattle.std.proofs.lemmas.List.Elements.{All-head, All-tail}
use Rattle.std.proofs.lemmas.List.Splits.{slice_split_none, slice_split_at}
use Rattle.std.proofs.lemmas.Str.{NoCharPasses-byte}
use Rattle.std.specs.List.{onto_first}
use Rattle.std.specs.declared.str.SplitTerminator.{SplitTerminator}
use Rattle.std.specs.declared.str.Split.{Split}
use Rattle.std.specs.Char.{len_utf8}
use Rattle.std.specs.Str.{NoCharPasses}
use Rattle.std.specs.Str.Iter.{split_text, split_has_more, split_pattern, split_steps, split_terminator_parts, split_terminator_pattern, split_terminator_steps}
use Rattle.std.specs.Str.Pattern.{FindsChar}
use Rattle.jobs.specs.HexLines.{lines_of, words_of}

-- ---- a text cut at the first of an ASCII character

-- the text has no such byte
abbrev Lacks : ℕ → List ℕ → Type 0
Lacks c text = All (λ x. eqb x c ≡ false) text

byte_differs : (c x : ℕ) → c < 128 → (x < 128 → eqb x c ≡ false) → eqb x c ≡ false
byte_differs c x low differs = ⊎_elim differs (λ high. ne_eqb x c (λ e. omega arith)) (cases_lt x 128)

lacks : (c : ℕ) (text : List ℕ) → c < 128 → NoCharPasses (λ d. eqb d c) text → Lacks c text
lacks c text low none = λ k d l.
    rw (get_or_default text k d 0 l) (byte_differs c (get_or text k 0) low (λ ascii. NoCharPasses-byte (λ d. eqb d c) text k none l ascii))

newline_alone : encode_utf8 10 ≡ 10 ∷ []
unfolding lib.Utf8.encode
newline_alone = refl

blank_alone : encode_utf8 32 ≡ 32 ∷ []
unfolding lib.Utf8.encode
blank_alone = refl

-- what an iterator that cuts says of a piece: it is the whole text, or ends at the character
cut : (c : ℕ) (text front rest : List ℕ) (live : Bool) (found : Option (ℕ × ℕ)) → c < 128 → encode_utf8 c ≡ c ∷ [] → 0 < len_utf8 c → FindsChar c text found
    → MatchOption found ((front ≡ text) × (live ≡ false)) (λ q. 0 < q.1 → (front ≡ take q.0 text) × (live ≡ true) × (rest ≡ drop q.1 text))
    → Lacks c front × (((front ≡ text) × (live ≡ false)) ⊎ ((live ≡ true) × (text ≡ front ++ c ∷ rest)))
cut c text front rest live None low one long finds h = (subst (Lacks c) (sym h.0) (lacks c text low finds), inl h)
cut c text front rest live (Some q) low one long finds h =
    let parts = h (omega (arith, finds.1.ends)) in
    let behind : drop q.0 text ≡ c ∷ rest = finds.1.split ∙ ap (λ (some : List ℕ). some ++ drop q.1 text) one ∙ ap (λ (some : List ℕ). c ∷ some) (sym parts.2) in
    let whole : take q.0 text ++ drop q.0 text ≡ text = take-append-drop q.0 text in
    (subst (Lacks c) (sym parts.0) (lacks c (take q.0 text) low finds.0), inr (parts.1, sym whole ∙ ap (λ (some : List ℕ). take q.0 text ++ some) behind ∙ ap (λ (some : List ℕ). some ++ c ∷ rest) (sym parts.0)))

-- ---- lines

-- the lines that the iterator has yet to give
abbrev pub lines_left : SplitTerminator ℕ → List (List ℕ)
lines_left it = cond (split_has_more (split_terminator_parts it)) (lines_of (split_text (split_terminator_parts it))) []

lines_at : (front rest : List ℕ) → Lacks 10 front → lines_of (front ++ 10 ∷ rest) ≡ front ∷ lines_of rest
lines_at [] rest none = refl
lines_at (b ∷ front) rest none =
    rw (All-head (λ x. eqb x 10 ≡ false) b front none) (ap (onto_first b) (lines_at front rest (All-tail (λ x. eqb x 10 ≡ false) b front none)))

lines_last : (text : List ℕ) → Lacks 10 text → 0 < length text → lines_of text ≡ text ∷ []
lines_last [] none some = absurd (omega arith)
lines_last (b ∷ []) none some = rw (All-head (λ x. eqb x 10 ≡ false) b [] none) refl
lines_last (b ∷ c ∷ text) none some =
    rw (All-head (λ x. eqb x 10 ≡ false) b (c ∷ text) none) (ap (onto_first b) (lines_last (c ∷ text) (All-tail (λ x. eqb x 10 ≡ false) b (c ∷ text) none) (omega arith)))

nonempty : (text : List ℕ) → (length text ≡ 0 → ⊥) → 0 < length text
nonempty text some = omega arith

no_lines_left : (more : Bool) (text : List ℕ) → (more ≡ true → text ≡ []) → cond more (lines_of text) [] ≡ []
no_lines_left true text h = ap lines_of (h refl)
no_lines_left false text h = refl

-- where `next` gives `None` the text is empty
empty_text : (text : List ℕ) (found : Option (ℕ × ℕ)) → FindsChar 10 text found → MatchOption found (length text ≡ 0) (λ q. q.1 ≡ 0) → text ≡ []
empty_text text None finds h = nil_from_length text h
empty_text text (Some q) finds h = absurd (omega (arith, finds.1.ends))

module _ (it next : SplitTerminator ℕ) (pattern : split_terminator_pattern it ≡ 10) where
  pub lines_left_some : (line : Bor (List ℕ)) → split_terminator_steps FindsChar (λ c d. d ≡ c) it (Some line) next → lines_left it ≡ line.now ∷ lines_left next
  lines_left_some line h =
      let text = split_text (split_terminator_parts it) in
      let rest = split_text (split_terminator_parts next) in
      let found = h.2.1 in
      let piece = cut 10 text line.now rest _ found.0 (omega arith) newline_alone (omega arith) (subst (λ c. FindsChar c text found.0) pattern found.1) found.2 in
      rw h.0 (⊎_elim
      (λ last. rw (last.1, ← last.0) (lines_last line.now piece.0 (nonempty line.now (λ e. true≢false (sym (h.3 e) ∙ last.1)))))
      (λ on. rw (on.0, on.1) (lines_at line.now rest piece.0))
      piece.1)

  pub lines_left_none : split_terminator_steps FindsChar (λ c d. d ≡ c) it None next → lines_left it ≡ []
  lines_left_none h =
      let text = split_text (split_terminator_parts it) in
      no_lines_left _ text (λ more. let found = h.0 more in empty_text text found.0 (subst (λ c. FindsChar c text found.0) pattern found.1) found.2)

-- ---- words

-- the words that the iterator has yet to give
abbrev pub words_left : Split ℕ → List (List ℕ)
words_left it = cond (split_has_more it) (words_of (split_text it)) []

module _ (it next : Split ℕ) where
  pub words_left_some : (word : Bor (List ℕ)) → split_pattern it ≡ 32 → split_steps FindsChar (λ c d. d ≡ c) it (Some word) next → words_left it ≡ word.now ∷ words_left next
  words_left_some word pattern h =
      let text = split_text it in
      let rest = split_text next in
      let found = h.1.1.1 in
      let piece = cut 32 text word.now rest _ found.0 (omega arith) blank_alone (omega arith) (subst (λ c. FindsChar c text found.0) pattern found.1) found.2 in
      rw (← h.0) (⊎_elim
      (λ last. rw (last.1, ← last.0) (slice_split_none (λ x. eqb x 32) word.now piece.0))
      (λ on. rw (on.0, on.1) (slice_split_at (λ x. eqb x 32) word.now 32 rest piece.0 refl))
      piece.1)

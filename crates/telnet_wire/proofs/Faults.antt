-- What went wrong is read in no way, and went wrong in one.
use Rattle.std.proofs.Common.{◌≡◌, ◌≢◌, ℕ, ◌<◌, ◌≤◌, ◌⊎◌, inl, inr, ⊎_elim, List, [], ◌∷◌, ◌++◌, length, refl, sym, ◌∙◌, ap, subst, arith, append_assoc}
use Rattle.std.specs.List.{flat_map, AllByRecursion}
use Rattle.std.proofs.lemmas.List.{append-nil, length_push}
use Rattle.std.proofs.lemmas.Grind.{flat_map-append}
use Rattle.telnet_wire.specs.declared.wire.WireFault.{WireFault}
use Rattle.telnet_wire.specs.declared.wire.WireFault.TheVariants.{TooLong, BadSub, Memory, Failed}
use Rattle.telnet_wire.specs.Token.{Token, Data, End, Opt, Sub, Other, escaped, opened, spelling, text, IsToken, IsShort, IsPartial}
use Rattle.telnet_wire.specs.Items.{items_after, unfinished_after, IsWithin}
use Rattle.telnet_wire.specs.Reading.{Rest, Reads, IsWrong, GoesWrong}
use Rattle.telnet_wire.specs.Laws.{OneSpelling, OneReading, OneDelivery, WrongIsFinal, OneFault, ReadingGoesOn, DeliveryGoesOn}
use Rattle.telnet_wire.proofs.Prefixes.{escaped-first, escaped-not_command, content-first, spelling-first, BeginsWithNone, BeginsWithNone-partial, text-unique, codes, code_of-bound, sub_text}
use Rattle.telnet_wire.proofs.Streams.{items_after-append, unfinished_after-append, all-append}

none_of_nil : BeginsWithNone []
none_of_nil = BeginsWithNone-partial [] (record { token = End; missing = 255 ∷ 239 ∷ []; proper = λ e. cc; is_token = tt; is_short = tt; encoded = refl })

pub one_spelling : OneSpelling
one_spelling tokens others p q e =
    (text-unique tokens others [] [] p q none_of_nil none_of_nil (append-nil (text tokens) ∙ e ∙ sym (append-nil (text others)))).0

abbrev rest_of : List ℕ → List ℕ → Rest
rest_of u p = record { unfinished = u; partial = p }

pub one_reading : OneReading
one_reading limit from bytes tokens others to other a ra b rb =
    let r = text-unique tokens others to.partial other.partial a.each b.each
    (BeginsWithNone-partial to.partial ra.partial) (BeginsWithNone-partial other.partial rb.partial) (sym a.encoded ∙ b.encoded) in
    (r.0, same to other (a.unfinished ∙ ap (unfinished_after from.unfinished) r.0 ∙ sym b.unfinished) r.1)
  where
    same : (x y : Rest) → x.unfinished ≡ y.unfinished → x.partial ≡ y.partial → x ≡ y
    same x y p q = ap (λ u. rest_of u x.partial) p ∙ ap (λ z. rest_of y.unfinished z) q

pub one_delivery : OneDelivery
one_delivery limit from bytes items others to other a b =
    let r = one_reading limit from bytes a.tokens b.tokens to other a.reads a.is_rest b.reads b.is_rest in
    (a.said ∙ ap (items_after from.unfinished) r.0 ∙ sym b.said, r.1)

-- a record in its limit was so at each moment
within_before : (limit : ℕ) (d : List ℕ) (ts : List Token) → AllByRecursion (IsWithin limit) (items_after d ts)
    → length (unfinished_after d ts) ≤ limit → length d ≤ limit
within_before limit d [] p h = h
within_before limit d (Data b ∷ ts) p h = let ih = within_before limit (d ++ b ∷ []) ts p h in omega (arith, ih, length_push d b)
within_before limit d (End ∷ ts) p h = p.0
within_before limit d (Opt v c ∷ ts) p h = within_before limit d ts p.1 h
within_before limit d (Sub s ∷ ts) p h = within_before limit d ts p.1 h
within_before limit d (Other c ∷ ts) p h = within_before limit d ts p.1 h

all-right : {A : Type 0} (P : A → Type 0) (xs ys : List A) → AllByRecursion P (xs ++ ys) → AllByRecursion P ys
all-right P [] ys p = p
all-right P (x ∷ xs) ys p = all-right P xs ys p.1

-- tokens stand in front of a stream only as its own first tokens
text-split : (ts us : List Token) (x r : List ℕ) → AllByRecursion IsToken ts → AllByRecursion IsToken us → BeginsWithNone r
    → text ts ++ x ≡ text us ++ r → (vs : List Token) × (us ≡ ts ++ vs) × (x ≡ text vs ++ r)
text-split [] us x r p q f e = (us, refl, e)
text-split (t ∷ ts) [] x r p q f e = absurd (f t (text ts ++ x) p.0 (sym e ∙ append_assoc (spelling t) (text ts) x))
text-split (t ∷ ts) (u ∷ us) x r p q f e =
    let first = spelling-first t u (text ts ++ x) (text us ++ r) p.0 q.0
    (sym (append_assoc (spelling t) (text ts) x) ∙ e ∙ append_assoc (spelling u) (text us) r) in
    let others = text-split ts us x r p.1 q.1 f first.1 in
    (others.0, cc, others.2)

-- a subnegotiation's content that has ended is no longer than the whole content
content-within : (s t : List ℕ) (c : ℕ) (y z : List ℕ) → c ≢ 255 → flat_map escaped s ++ 255 ∷ c ∷ y ≡ flat_map escaped t ++ z → length t ≤ length s
content-within s [] c y z ne e = omega arith
content-within [] (b ∷ t) c y z ne e = absurd (escaped-not_command b c _ y ne (sym (e ∙ append_assoc (escaped b) (flat_map escaped t) z)))
content-within (a ∷ s) (b ∷ t) c y z ne e =
    let first = escaped-first a b _ _ (sym (append_assoc (escaped a) (flat_map escaped s) (255 ∷ c ∷ y)) ∙ e ∙ append_assoc (escaped b) (flat_map escaped t) z) in
    let ih = content-within s t c y z ne first.1 in
    omega (arith, ih)

-- content alone doesn't end
content-open : (s t : List ℕ) (c : ℕ) (y : List ℕ) → c ≢ 255 → flat_map escaped s ++ 255 ∷ c ∷ y ≡ flat_map escaped t → ⊥
content-open [] [] c y ne e = cc
content-open (a ∷ s) [] c y ne e = nothing_left (escaped a ++ flat_map escaped s) e
  where
    nothing_left : (xs : List ℕ) → xs ++ 255 ∷ c ∷ y ≡ [] → ⊥
    nothing_left [] h = cc
    nothing_left (x ∷ xs) h = cc
content-open [] (b ∷ t) c y ne e = escaped-not_command b c (flat_map escaped t) y ne (sym e)
content-open (a ∷ s) (b ∷ t) c y ne e =
    content-open s t c y ne (escaped-first a b _ _ (sym (append_assoc (escaped a) (flat_map escaped s) (255 ∷ c ∷ y)) ∙ e)).1

-- contents of one length
content-same : (s t x : List ℕ) → length s ≡ length t → flat_map escaped s ++ x ≡ flat_map escaped t → x ≡ []
content-same [] [] x h e = e
content-same [] (b ∷ t) x h e = absurd (omega (arith, h))
content-same (a ∷ s) [] x h e = absurd (omega (arith, h))
content-same (a ∷ s) (b ∷ t) x h e =
    content-same s t x (omega (arith, h)) (escaped-first a b _ _ (sym (append_assoc (escaped a) (flat_map escaped s) x) ∙ e)).1

-- only a subnegotiation begins like one
sub_alone : (u : Token) (x y : List ℕ) → IsToken u → spelling u ++ x ≡ 255 ∷ 250 ∷ y
    → (s : List ℕ) × (u ≡ Sub s) × (flat_map escaped s ++ 255 ∷ 240 ∷ x ≡ y)
sub_alone (Data a) x y p e = absurd (escaped-not_command a 250 x y (omega arith) e)
sub_alone End x y p e = absurd (omega (arith, (codes e).0))
sub_alone (Opt v c) x y p e = absurd (omega (arith, code_of-bound v, (codes e).0))
sub_alone (Sub s) x y p e = (s, refl, (codes (sym (sub_text s x) ∙ e)).1)
sub_alone (Other c) x y p e = absurd (omega (arith, (codes e).0, p))

-- the bytes of a subnegotiation that went wrong
abbrev SubWrong : WireFault → List ℕ → Type 0
SubWrong TooLong wrong = (content : List ℕ) × (wrong ≡ opened content) × (length content ≡ 257)
SubWrong BadSub wrong = (content : List ℕ) × (code : ℕ) × (wrong ≡ opened content ++ 255 ∷ code ∷ []) × (code ≢ 255) × (code ≢ 240) × (length content ≤ 256)
SubWrong _ wrong = ⊥

-- what an open subnegotiation and a command in it are, with what follows
bad_text : (content : List ℕ) (code : ℕ) (z : List ℕ)
    → (opened content ++ 255 ∷ code ∷ []) ++ z ≡ 255 ∷ 250 ∷ (flat_map escaped content ++ 255 ∷ code ∷ z)
bad_text content code z = ap (λ x. 255 ∷ 250 ∷ x) (append_assoc (flat_map escaped content) (255 ∷ code ∷ []) z)

not_token : (fault : WireFault) (wrong : List ℕ) → SubWrong fault wrong → (u : Token) (x z : List ℕ) → IsToken u → IsShort u
    → spelling u ++ x ≡ wrong ++ z → ⊥
not_token TooLong wrong (content, is, long) u x z p q e =
    let r = sub_alone u x (flat_map escaped content ++ z) p (e ∙ ap (λ w. w ++ z) is) in
    let short : length r.0 ≤ 256 = subst IsShort r.1 q in
    omega (arith, content-within r.0 content 240 x z (omega arith) r.2)
not_token BadSub wrong (content, code, is, plain, going, fits) u x z p q e =
    let r = sub_alone u x (flat_map escaped content ++ 255 ∷ code ∷ z) p (e ∙ ap (λ w. w ++ z) is ∙ bad_text content code z) in
    going (sym (content-first r.0 content 240 code x z (omega arith) plain r.2).1)
not_token Memory wrong h u x z p q e = h
not_token Failed wrong h u x z p q e = h

begins_with_none : (fault : WireFault) (wrong : List ℕ) → SubWrong fault wrong → BeginsWithNone wrong
begins_with_none TooLong wrong (content, is, long) t more p e =
    let r = sub_alone t more (flat_map escaped content) p (sym e ∙ is) in
    content-open r.0 content 240 more (omega arith) r.2
begins_with_none BadSub wrong (content, code, is, plain, going, fits) t more p e =
    let r = sub_alone t more (flat_map escaped content ++ 255 ∷ code ∷ []) p (sym e ∙ is) in
    going (sym (content-first r.0 content 240 code more [] (omega arith) plain r.2).1)
begins_with_none Memory wrong h t more p e = h
begins_with_none Failed wrong h t more p e = h

no_stream : (fault : WireFault) (wrong : List ℕ) → SubWrong fault wrong → (vs : List Token) (more r : List ℕ)
    → AllByRecursion IsToken vs → AllByRecursion IsShort vs → IsPartial r → wrong ++ more ≡ text vs ++ r → ⊥
no_stream fault wrong h [] more r p q part e =
    not_token fault wrong h part.token [] (more ++ part.missing) part.is_token part.is_short
    (append-nil (spelling part.token) ∙ part.encoded ∙ ap (λ z. z ++ part.missing) (sym e) ∙ append_assoc wrong more part.missing)
no_stream fault wrong h (v ∷ vs) more r p q part e =
    not_token fault wrong h v (text vs ++ r) more p.0 q.0 (sym (append_assoc (spelling v) (text vs) r) ∙ sym e)

-- of two that begin alike there is one
one_wrong : (fault other : WireFault) (wrong another more : List ℕ) → SubWrong fault wrong → SubWrong other another → wrong ++ more ≡ another
    → (more ≡ []) × (fault ≡ other)
one_wrong TooLong TooLong wrong another more (s, is, n) (t, is', m) e =
    let f : opened s ++ more ≡ opened t = ap (λ z. z ++ more) (sym is) ∙ e ∙ is' in
    (content-same s t more (n ∙ sym m) (codes f).1, refl)
one_wrong TooLong BadSub wrong another more (s, is, n) (t, code, is', plain, going, m) e =
    let f : opened s ++ more ≡ opened t ++ 255 ∷ code ∷ [] = ap (λ z. z ++ more) (sym is) ∙ e ∙ is' in
    absurd (omega (arith, n, m, content-within t s code [] more plain (sym (codes f).1)))
one_wrong BadSub TooLong wrong another more (s, code, is, plain, going, n) (t, is', m) e =
    let f : (opened s ++ 255 ∷ code ∷ []) ++ more ≡ opened t = ap (λ z. z ++ more) (sym is) ∙ e ∙ is' in
    absurd (content-open s t code more plain (codes (sym (bad_text s code more) ∙ f)).1)
one_wrong BadSub BadSub wrong another more (s, code, is, plain, going, n) (t, code', is', plain', going', m) e =
    let f : (opened s ++ 255 ∷ code ∷ []) ++ more ≡ opened t ++ 255 ∷ code' ∷ [] = ap (λ z. z ++ more) (sym is) ∙ e ∙ is' in
    ((content-first s t code code' more [] plain plain' (codes (sym (bad_text s code more) ∙ f)).1).2, refl)
one_wrong Memory other wrong another more h k e = absurd h
one_wrong Failed other wrong another more h k e = absurd h
one_wrong TooLong Memory wrong another more h k e = absurd k
one_wrong TooLong Failed wrong another more h k e = absurd k
one_wrong BadSub Memory wrong another more h k e = absurd k
one_wrong BadSub Failed wrong another more h k e = absurd k

-- a record that is too long, or a subnegotiation that is wrong
wrong_cases : (limit : ℕ) (rest : Rest) (fault : WireFault) → IsWrong limit rest fault
    → ((byte : ℕ) × (rest.partial ≡ escaped byte) × (length rest.unfinished ≡ limit) × (fault ≡ TooLong))
    ⊎ (SubWrong fault rest.partial × (length rest.unfinished ≤ limit))
wrong_cases limit rest TooLong (inl h) = inl (h.0, h.1, h.2, refl)
wrong_cases limit rest TooLong (inr h) = inr ((h.0, h.1, h.2), h.3)
wrong_cases limit rest BadSub h = inr ((h.0, h.1, h.2, h.3, h.4, h.5), h.6)
wrong_cases limit rest Memory h = absurd h
wrong_cases limit rest Failed h = absurd h

-- the unfinished record was in its limit at each moment
never_over : (limit : ℕ) (d : List ℕ) (ts vs : List Token) → AllByRecursion (IsWithin limit) (items_after d (ts ++ vs))
    → length (unfinished_after d (ts ++ vs)) ≤ limit → length (unfinished_after d ts) ≤ limit
never_over limit d ts vs p h = within_before limit (unfinished_after d ts) vs
    (all-right _ (items_after d ts) _ (subst (AllByRecursion (IsWithin limit)) (items_after-append d ts vs) p))
    (rw (← unfinished_after-append d ts vs) h)

module _ (limit : ℕ) (from : Rest) (bytes : List ℕ) (tokens : List Token) (to : Rest) (reads : Reads limit from bytes tokens to)
    (byte : ℕ) (is : to.partial ≡ escaped byte) (full : length to.unfinished ≡ limit) where
  -- one byte of data more
  longer : List Token
  longer = tokens ++ Data byte ∷ []

  longer-encoded : from.partial ++ bytes ≡ text longer
  unfolding longer
  longer-encoded = reads.encoded ∙ ap (λ z. text tokens ++ z) (is ∙ sym (append-nil (escaped byte))) ∙ sym (flat_map-append spelling tokens (Data byte ∷ []))

  longer-each : AllByRecursion IsToken longer
  unfolding longer
  longer-each = all-append _ tokens _ reads.each (tt, tt)

  longer-short : AllByRecursion IsShort longer
  unfolding longer
  longer-short = all-append _ tokens _ reads.short (tt, tt)

  longer-over : limit < length (unfinished_after from.unfinished longer)
  unfolding longer
  longer-over = rw (unfinished_after-append from.unfinished tokens (Data byte ∷ []), ← reads.unfinished)
      (omega (arith, full, length_push to.unfinished byte))

pub wrong_is_final : WrongIsFinal
unfolding longer
wrong_is_final limit from bytes more fault tokens to wrong reads rest =
    ⊎_elim
    (λ d.
    let split = text-split (longer limit from bytes wrong.tokens wrong.to wrong.reads d.0 d.1 d.2) tokens more to.partial
    (longer-each limit from bytes wrong.tokens wrong.to wrong.reads d.0 d.1 d.2) reads.each (BeginsWithNone-partial to.partial rest.partial)
    (ap (λ z. z ++ more) (sym (longer-encoded limit from bytes wrong.tokens wrong.to wrong.reads d.0 d.1 d.2)) ∙ append_assoc from.partial bytes more ∙ reads.encoded) in
    let within = never_over limit from.unfinished (longer limit from bytes wrong.tokens wrong.to wrong.reads d.0 d.1 d.2) split.0
    (subst (λ z. AllByRecursion (IsWithin limit) (items_after from.unfinished z)) split.1 reads.records)
    (subst (λ z. length (unfinished_after from.unfinished z) ≤ limit) split.1 (subst (λ z. length z ≤ limit) reads.unfinished rest.unfinished)) in
    omega (arith, within, longer-over limit from bytes wrong.tokens wrong.to wrong.reads d.0 d.1 d.2))
    (λ s.
    let split = text-split wrong.tokens tokens (wrong.to.partial ++ more) to.partial wrong.reads.each reads.each (BeginsWithNone-partial to.partial rest.partial)
    (sym (append_assoc (text wrong.tokens) wrong.to.partial more) ∙ ap (λ z. z ++ more) (sym wrong.reads.encoded) ∙ append_assoc from.partial bytes more ∙ reads.encoded) in
    no_stream fault wrong.to.partial s.0 split.0 more to.partial
    (all-right _ wrong.tokens split.0 (subst (AllByRecursion IsToken) split.1 reads.each))
    (all-right _ wrong.tokens split.0 (subst (AllByRecursion IsShort) split.1 reads.short)) rest.partial split.2)
    (wrong_cases limit wrong.to fault wrong.is_wrong)

nil_partial : IsPartial []
nil_partial = record { token = End; missing = 255 ∷ 239 ∷ []; proper = λ e. cc; is_token = tt; is_short = tt; encoded = refl }

-- a list with one more element begins with another list: that is all of it, or begins the list
last_or : {A : Type 0} (xs ys vs : List A) (z : A) → xs ++ z ∷ [] ≡ ys ++ vs → (vs ≡ []) ⊎ ((ws : List A) × (xs ≡ ys ++ ws))
last_or xs [] vs z e = inr (xs, refl)
last_or {A = A} [] (y ∷ ys) vs z e = inl (right_nil ys vs cc)
  where
    right_nil : (ps qs : List A) → ps ++ qs ≡ [] → qs ≡ []
    right_nil [] qs h = h
    right_nil (p ∷ ps) qs h = absurd (cc)
last_or (x ∷ xs) (y ∷ ys) vs z e =
    let tail : xs ++ z ∷ [] ≡ ys ++ vs = cc in
    let head : x ≡ y = cc in
    ⊎_elim inl (λ r. inr (r.0, cc)) (last_or xs ys vs z tail)

-- one byte of data more: the tokens, what they spell, and that the record is too long
record Over (limit : ℕ) (from : Rest) (bytes : List ℕ) : Type 0 where
  before : List Token
  byte : ℕ
  encoded : from.partial ++ bytes ≡ text (before ++ Data byte ∷ [])
  each : AllByRecursion IsToken (before ++ Data byte ∷ [])
  short : AllByRecursion IsShort (before ++ Data byte ∷ [])
  over : limit < length (unfinished_after from.unfinished (before ++ Data byte ∷ []))
  records : AllByRecursion (IsWithin limit) (items_after from.unfinished before)
  full : length (unfinished_after from.unfinished before) ≤ limit

over_from : (limit : ℕ) (from : Rest) (bytes : List ℕ) (fault : WireFault) (w : GoesWrong limit from bytes fault) (byte : ℕ)
    → w.to.partial ≡ escaped byte → length w.to.unfinished ≡ limit → Over limit from bytes
unfolding longer
over_from limit from bytes fault w byte is full = record {
  before = w.tokens;
  byte = byte;
  encoded = longer-encoded limit from bytes w.tokens w.to w.reads byte is full;
  each = longer-each limit from bytes w.tokens w.to w.reads byte is full;
  short = longer-short limit from bytes w.tokens w.to w.reads byte is full;
  over = longer-over limit from bytes w.tokens w.to w.reads byte is full;
  records = w.reads.records;
  full = omega (arith, full, ap length w.reads.unfinished);
}

pub one_fault : OneFault
one_fault limit from bytes more fault other w v =
    ⊎_elim
    (λ d. let over = over_from limit from bytes fault w d.0 d.1 d.2 in ⊎_elim
    (λ k. let again = over_from limit from (bytes ++ more) other v k.0 k.1 k.2 in
    let split = text-split (over.before ++ Data over.byte ∷ []) (again.before ++ Data again.byte ∷ []) more [] over.each again.each none_of_nil
    (ap (λ z. z ++ more) (sym over.encoded) ∙ append_assoc from.partial bytes more ∙ again.encoded ∙ sym (append-nil (text (again.before ++ Data again.byte ∷ [])))) in
    ⊎_elim
    (λ none. (split.2 ∙ append-nil (text split.0) ∙ ap text none, d.3 ∙ sym k.3))
    (λ r. absurd (omega (
      arith,
      over.over,
      never_over limit from.unfinished (over.before ++ Data over.byte ∷ []) r.0
          (subst (λ z. AllByRecursion (IsWithin limit) (items_after from.unfinished z)) r.1 again.records)
          (subst (λ z. length (unfinished_after from.unfinished z) ≤ limit) r.1 again.full),
    )))
    (last_or again.before (over.before ++ Data over.byte ∷ []) split.0 (Data again.byte) split.1))
    (λ s.
    let split = text-split (over.before ++ Data over.byte ∷ []) v.tokens more v.to.partial over.each v.reads.each (begins_with_none other v.to.partial s.0)
    (ap (λ z. z ++ more) (sym over.encoded) ∙ append_assoc from.partial bytes more ∙ v.reads.encoded) in
    absurd (omega (
      arith,
      over.over,
      never_over limit from.unfinished (over.before ++ Data over.byte ∷ []) split.0
          (subst (λ z. AllByRecursion (IsWithin limit) (items_after from.unfinished z)) split.1 v.reads.records)
          (subst (λ z. length (unfinished_after from.unfinished z) ≤ limit) split.1 (subst (λ z. length z ≤ limit) v.reads.unfinished s.1)),
    )))
    (wrong_cases limit v.to other v.is_wrong))
    (λ s.
    let start = sym (append_assoc (text w.tokens) w.to.partial more) ∙ ap (λ z. z ++ more) (sym w.reads.encoded) ∙ append_assoc from.partial bytes more in ⊎_elim
    (λ k. let again = over_from limit from (bytes ++ more) other v k.0 k.1 k.2 in
    let split = text-split w.tokens (again.before ++ Data again.byte ∷ []) (w.to.partial ++ more) [] w.reads.each again.each none_of_nil
    (start ∙ again.encoded ∙ sym (append-nil (text (again.before ++ Data again.byte ∷ [])))) in
    absurd (no_stream fault w.to.partial s.0 split.0 more []
    (all-right _ w.tokens split.0 (subst (AllByRecursion IsToken) split.1 again.each))
    (all-right _ w.tokens split.0 (subst (AllByRecursion IsShort) split.1 again.short)) nil_partial split.2))
    (λ t.
    let split = text-split w.tokens v.tokens (w.to.partial ++ more) v.to.partial w.reads.each v.reads.each (begins_with_none other v.to.partial t.0)
    (start ∙ v.reads.encoded) in
    two_subs fault other w.to.partial v.to.partial more split.0 s.0 t.0
    (all-right _ w.tokens split.0 (subst (AllByRecursion IsToken) split.1 v.reads.each))
    (all-right _ w.tokens split.0 (subst (AllByRecursion IsShort) split.1 v.reads.short)) split.2)
    (wrong_cases limit v.to other v.is_wrong))
    (wrong_cases limit w.to fault w.is_wrong)
  where
    two_subs : (f g : WireFault) (p q more : List ℕ) (vs : List Token) → SubWrong f p → SubWrong g q
        → AllByRecursion IsToken vs → AllByRecursion IsShort vs → p ++ more ≡ text vs ++ q → (more ≡ []) × (f ≡ g)
    two_subs f g p q more [] h k each short e = one_wrong f g p q more h k e
    two_subs f g p q more (u ∷ us) h k each short e =
        absurd (not_token f p h u (text us ++ q) more each.0 short.0 (sym (append_assoc (spelling u) (text us) q) ∙ sym e))

pub reading_goes_on : ReadingGoesOn
reading_goes_on limit from first more begun tokens mid to a b rest =
    let split = text-split begun tokens (mid.partial ++ more) to.partial a.each b.each (BeginsWithNone-partial to.partial rest.partial)
    (sym (append_assoc (text begun) mid.partial more) ∙ ap (λ z. z ++ more) (sym a.encoded) ∙ append_assoc from.partial first more ∙ b.encoded) in (
      split.0,
      split.1,
      record {
        encoded = split.2;
        unfinished = b.unfinished ∙ ap (unfinished_after from.unfinished) split.1 ∙ unfinished_after-append from.unfinished begun split.0
            ∙ ap (λ z. unfinished_after z split.0) (sym a.unfinished);
        each = all-right _ begun split.0 (subst (AllByRecursion IsToken) split.1 b.each);
        short = all-right _ begun split.0 (subst (AllByRecursion IsShort) split.1 b.short);
        records = subst (λ z. AllByRecursion (IsWithin limit) (items_after z split.0)) (sym a.unfinished)
            (all-right _ (items_after from.unfinished begun) _
            (subst (AllByRecursion (IsWithin limit)) (ap (items_after from.unfinished) split.1 ∙ items_after-append from.unfinished begun split.0) b.records));
      },
    )

pub delivery_goes_on : DeliveryGoesOn
delivery_goes_on limit from mid to first more begun items a b =
    let r = reading_goes_on limit from first more a.tokens b.tokens mid to a.reads b.reads b.is_rest in (
      items_after mid.unfinished r.0,
      b.said ∙ ap (items_after from.unfinished) r.1 ∙ items_after-append from.unfinished a.tokens r.0
          ∙ ap (λ z. z ++ items_after (unfinished_after from.unfinished a.tokens) r.0) (sym a.said)
          ∙ ap (λ u. begun ++ items_after u r.0) (sym a.reads.unfinished),
      record { tokens = r.0; reads = r.2; is_rest = b.is_rest; said = refl },
    )

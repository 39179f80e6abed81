-- One writing after another.
use Rattle.std.proofs.Common.{◌≡◌, ℕ, ◌+◌, ◌≤◌, List, [], ◌∷◌, ◌++◌, length, take, drop, get_or, ◌<◌, Result, Ok, Err, Vec, vec_len, refl, sym, ◌∙◌, ap, arith, append_assoc, length-append}
use Rattle.std.specs.Result.{OnOk}
use Rattle.std.specs.Borrow.{Bor}
use Rattle.std.specs.Vec.{vec_capacity}
use Rattle.std.specs.declared.alloc.Global.{Global}
use Rattle.std.proofs.lemmas.List.{take_all, take_at, take-take, take-append-drop, drop_more}
use Rattle.std.specs.List.{flat_map}
use Rattle.std.proofs.lemmas.Grind.{flat_map-append}
use Rattle.telnet_wire.specs.Token.{escaped, text}
use Rattle.telnet_wire.specs.Items.{record_tokens}
use Rattle.telnet_wire.specs.Writing.{Appends, Tries, joined}

-- the bytes were added
pub record Added (old : Vec ℕ Global) (bytes : List ℕ) (new : Vec ℕ Global) : Type 0 where
  pub items : new.items ≡ old.items ++ bytes
  pub capacity : vec_capacity old ≤ vec_capacity new

pub tries_from_appends : {E : Type 0} (old : Vec ℕ Global) (bytes : List ℕ) (result : Result (Unit {0}) E) (new : Vec ℕ Global)
    → Appends old bytes result new → Tries old bytes result new
tries_from_appends old bytes (Ok x) new a = record {
  appended = a.appended;
  kept = rw a.appended (take_at old.items bytes (vec_len old) (omega (arith, old.ok.0)));
  longer = omega (arith, old.ok.0, new.ok.0, ap length a.appended, length-append old.items bytes);
  room = a.room;
  capacity = a.capacity;
}
tries_from_appends old bytes (Err e) new a = record {
  appended = tt;
  kept = rw a.unchanged (take_all (vec_len old) old.items (omega (arith, old.ok.0)));
  longer = omega (arith, old.ok.0, new.ok.0, ap length a.unchanged);
  room = a.room;
  capacity = a.capacity;
}

-- what fails at the first part fails at the whole
pub tries_whole : {E : Type 0} (old : Vec ℕ Global) (first second : List ℕ) (e : E) (new : Vec ℕ Global)
    → Tries old first (Err e) new → Tries old (first ++ second) (Err e) new
tries_whole old first second e new t = record {
  appended = tt;
  kept = t.kept;
  longer = t.longer;
  room = λ h. t.room (omega (arith, length-append first second));
  capacity = t.capacity;
}

-- the second part, after the first was added
pub tries_then : {E : Type 0} (old : Vec ℕ Global) (first : List ℕ) (middle : Vec ℕ Global) (second : List ℕ) (result : Result (Unit {0}) E) (new : Vec ℕ Global)
    → Added old first middle → Tries middle second result new → Tries old (first ++ second) result new
tries_then {E = E} old first middle second result new a t = record {
  appended = ends result t.appended;
  kept = sym (take-take (vec_len old) (vec_len middle) new.items longer_first) ∙ ap (take (vec_len old)) t.kept
      ∙ rw a.items (take_at old.items first (vec_len old) (omega (arith, old.ok.0)));
  longer = omega (arith, longer_first, t.longer);
  room = λ h. t.room (omega (arith, a.capacity, length-append first second, len_is));
  capacity = omega (arith, a.capacity, t.capacity);
}
  where
    len_is : vec_len middle ≡ vec_len old + length first
    len_is = omega (arith, old.ok.0, middle.ok.0, ap length a.items, length-append old.items first)

    longer_first : vec_len old ≤ vec_len middle
    longer_first = omega (arith, len_is)

    ends : (r : Result (Unit {0}) E) → OnOk r (new.items ≡ middle.items ++ second) → OnOk r (new.items ≡ old.items ++ (first ++ second))
    ends (Ok x) h = h ∙ ap (λ z. z ++ second) a.items ∙ append_assoc old.items first second
    ends (Err e) h = tt

pub added_then : (old : Vec ℕ Global) (first : List ℕ) (middle : Vec ℕ Global) (second : List ℕ) (new : Vec ℕ Global)
    → Added old first middle → Added middle second new → Added old (first ++ second) new
added_then old first middle second new a b = record {
  items = b.items ∙ ap (λ z. z ++ second) a.items ∙ append_assoc old.items first second;
  capacity = omega (arith, a.capacity, b.capacity);
}

-- the bytes before a byte, that byte, and those behind it
pub escaped-split : (bytes : List ℕ) (i : ℕ) → i < length bytes
    → flat_map escaped bytes ≡ (flat_map escaped (take i bytes) ++ escaped (get_or bytes i 0)) ++ flat_map escaped (drop (i + 1) bytes)
escaped-split bytes i h =
    ap (flat_map escaped) (sym (take-append-drop i bytes) ∙ ap (λ z. take i bytes ++ z) (drop_more bytes i 0 h))
    ∙ flat_map-append escaped (take i bytes) (get_or bytes i 0 ∷ drop (i + 1) bytes)
    ∙ sym (append_assoc (flat_map escaped (take i bytes)) (escaped (get_or bytes i 0)) (flat_map escaped (drop (i + 1) bytes)))

-- the bytes of the parts before a part, of that part, and of those behind it
pub escaped-joined-split : (parts : List (Bor (List ℕ))) (i : ℕ) (d : Bor (List ℕ)) → i < length parts
    → flat_map escaped (joined parts) ≡ (flat_map escaped (joined (take i parts)) ++ flat_map escaped (get_or parts i d).now) ++ flat_map escaped (joined (drop (i + 1) parts))
escaped-joined-split parts i d h =
    let part : Bor (List ℕ) = get_or parts i d in
    let split : joined parts ≡ joined (take i parts) ++ (part.now ++ joined (drop (i + 1) parts)) =
    ap joined (sym (take-append-drop i parts) ∙ ap (λ z. take i parts ++ z) (drop_more parts i d h))
    ∙ flat_map-append (λ p. p.now) (take i parts) (part ∷ drop (i + 1) parts) in
    ap (flat_map escaped) split
    ∙ flat_map-append escaped (joined (take i parts)) (part.now ++ joined (drop (i + 1) parts))
    ∙ ap (λ z. flat_map escaped (joined (take i parts)) ++ z) (flat_map-append escaped part.now (joined (drop (i + 1) parts)))
    ∙ sym (append_assoc (flat_map escaped (joined (take i parts))) (flat_map escaped part.now) (flat_map escaped (joined (drop (i + 1) parts))))

-- what spells a record
pub text-record_tokens : (bytes : List ℕ) → text (record_tokens bytes) ≡ flat_map escaped bytes ++ 255 ∷ 239 ∷ []
text-record_tokens [] = refl
text-record_tokens (b ∷ bytes) = ap (λ z. escaped b ++ z) (text-record_tokens bytes) ∙ sym (append_assoc (escaped b) (flat_map escaped bytes) (255 ∷ 239 ∷ []))

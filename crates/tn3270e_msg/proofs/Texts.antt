-- Texts at the front of bytes.
use Rattle.std.proofs.Common.{◌≡◌, ℕ, suc, ◌+◌, ◌<◌, ◌≤◌, Bool, true, false, not, cond, ltb, eqb, List, [], ◌∷◌, ◌++◌, length, take, drop, get_or, refl, sym, ap, subst, ◌∙◌, arith, Option, None, Some, Result, Ok, Err}
use Rattle.std.specs.Prelude.{IfOk, IfErr, IsOkAnd}
use Rattle.std.specs.Option.{unwrap_or, IfNone}
use Rattle.std.specs.List.{list_all, position_or_len}
use Rattle.std.specs.Char.{is_ascii_graphic, is_ascii_digit}
use Rattle.std.proofs.lemmas.Bool.{false≢true, ltb-false, and_parts, and_from}
use Rattle.std.proofs.lemmas.List.{take-append-drop}
use Rattle.std.proofs.lemmas.List.Sums.{prefix_len-le-length}
use Rattle.std.proofs.lemmas.Bool.{le-leb}
use Rattle.std.proofs.lemmas.Bool.Decides.{nat_tests}
use Rattle.std.proofs.Math.Bool.{and-true}
use Rattle.tn3270e_msg.specs.declared.device.Device.{Device}
use Rattle.tn3270e_msg.specs.declared.device.Device.TheVariants.{Model2, Model2E, Model3, Model3E, Model4, Model4E, Model5, Model5E}
use Rattle.tn3270e_msg.specs.Device.{device_text}
use Rattle.tn3270e_msg.specs.Text.{is_text, IsEnd, IsFront}
use Rattle.tn3270e_msg.specs.Functions.{functions_of}
use Rattle.tn3270e_msg.specs.declared.message.SubMessage.{SubMessage}
use Rattle.tn3270e_msg.specs.declared.message.SubMessage.TheVariants as lent
use Rattle.tn3270e_msg.specs.declared.message.SubFault.{SubFault}
use Rattle.tn3270e_msg.specs.declared.message.SubFault.TheVariants.{NotOurs, Malformed}
use Rattle.tn3270e_msg.specs.Laws.{OneMessage, FaultIsNoMessage, OneSubFault}
use Rattle.tn3270e_msg.specs.Lent.{LiesIn, message_of}
use Rattle.tn3270e_msg.specs.Lu.{is_lu, is_lu_letter}
use Rattle.tn3270e_msg.specs.Message.{Message, SendType, TypeRequest, TypeIs, TypeReject, FunRequest, FunIs, Name, Connect, Associate, Says, Spells, HasFault, IsName, name_part}

abbrev IsEndBy : (ℕ → Bool) → List ℕ → Type 0
IsEndBy g [] = Unit {0}
IsEndBy g (byte ∷ bytes) = g byte ≡ false

front_at : (g : ℕ → Bool) (x : ℕ) (xs : List ℕ) (b : Bool) → g x ≡ b
    → (list_all g (take (position_or_len (λ y. not (g y)) xs) xs) ≡ true) × IsEndBy g (drop (position_or_len (λ y. not (g y)) xs) xs)
    → (list_all g (take (position_or_len (λ y. not (g y)) (x ∷ xs)) (x ∷ xs)) ≡ true) × IsEndBy g (drop (position_or_len (λ y. not (g y)) (x ∷ xs)) (x ∷ xs))
front_at g x xs true e rest =
    let n : ℕ = position_or_len (λ y. not (g y)) xs in
    let one : 1 + n ≡ suc n = omega arith in
    let len : position_or_len (λ y. not (g y)) (x ∷ xs) ≡ suc n = rw e one in
    (rw len (rw e rest.0), rw len rest.1)
front_at g x xs false e rest =
    let len : position_or_len (λ y. not (g y)) (x ∷ xs) ≡ 0 = rw e refl in
    (rw len refl, rw len e)

front : (g : ℕ → Bool) (bytes : List ℕ)
    → (list_all g (take (position_or_len (λ y. not (g y)) bytes) bytes) ≡ true) × IsEndBy g (drop (position_or_len (λ y. not (g y)) bytes) bytes)
front g [] = (refl, tt)
front g (x ∷ xs) = front_at g x xs (g x) refl (front g xs)

end_is : (bytes : List ℕ) → IsEndBy is_ascii_graphic bytes → IsEnd bytes
end_is [] h = tt
end_is (byte ∷ bytes) h = h

place_by : (n m : ℕ) (b : Bool) → ltb n m ≡ b → n ≤ m → unwrap_or (cond (ltb n m) (Some n) None) m ≡ n
place_by n m true e h = rw e refl
place_by n m false e h = let k = ltb-false n m e in rw e (omega arith)

-- the place that `position` found, or the end
pub place_is : (p : ℕ → Bool) (xs : List ℕ) (r : Option ℕ) → r ≡ cond (ltb (position_or_len p xs) (length xs)) (Some (position_or_len p xs)) None
    → unwrap_or r (length xs) ≡ position_or_len p xs
place_is p xs r e = rw e (place_by (position_or_len p xs) (length xs) _ refl (prefix_len-le-length _ xs))

pub text_from_all : (text : List ℕ) → 0 < length text → list_all is_ascii_graphic text ≡ true → is_text text ≡ true
text_from_all [] h all = absurd (omega (arith, h))
text_from_all (byte ∷ bytes) h all = all

pub all_from_text : (text : List ℕ) → is_text text ≡ true → list_all is_ascii_graphic text ≡ true
all_from_text [] h = refl
all_from_text (byte ∷ bytes) h = h

pub is_text_by : (text : List ℕ) → eqb (length text) 0 ≡ false → list_all is_ascii_graphic text ≡ is_text text
is_text_by [] h = absurd (false≢true (sym h))
is_text_by (byte ∷ bytes) h = refl

-- the text at the front, split at the first byte that isn't graphic
pub front_is : (bytes : List ℕ) (n : ℕ) → n ≡ position_or_len (λ byte. not (is_ascii_graphic byte)) bytes → 0 < length (take n bytes) → IsFront bytes (take n bytes) (drop n bytes)
front_is bytes n e some = record {
  encoded = sym (take-append-drop n bytes);
  is_text = text_from_all (take n bytes) some (rw e (front is_ascii_graphic bytes).0);
  ends = rw e (end_is _ (front is_ascii_graphic bytes).1);
}

-- a text ends at one place
pub one_front : (a x b y : List ℕ) → list_all is_ascii_graphic a ≡ true → IsEnd x → list_all is_ascii_graphic b ≡ true → IsEnd y → a ++ x ≡ b ++ y → (a ≡ b) × (x ≡ y)
one_front [] x [] y h i j k e = (refl, e)
one_front [] x (c ∷ b) y h i j k e =
    let stop : is_ascii_graphic c ≡ false = subst IsEnd e i in
    absurd (false≢true (sym stop ∙ (and_parts (is_ascii_graphic c) _ j).0))
one_front (c ∷ a) x [] y h i j k e =
    let stop : is_ascii_graphic c ≡ false = subst IsEnd (sym e) k in
    absurd (false≢true (sym stop ∙ (and_parts (is_ascii_graphic c) _ h).0))
one_front (c ∷ a) x (d ∷ b) y h i j k e =
    let heads : c ≡ d = cc in
    let tails : a ++ x ≡ b ++ y = cc in
    let rest = one_front a x b y (and_parts (is_ascii_graphic c) _ h).1 i (and_parts (is_ascii_graphic d) _ j).1 k tails in
    let texts : c ∷ a ≡ d ∷ b = rw (heads, rest.0) refl in
    (texts, rest.1)

end_of_name : (name : Option Name) → IsEnd (name_part name)
end_of_name None = tt
end_of_name (Some (Connect name)) = refl
end_of_name (Some (Associate name)) = refl

-- a device request is none where what comes behind its text is no name
pub no_request : (bytes text rest : List ℕ) → IsFront bytes text rest → ((name : Option Name) → IsName name → rest ≡ name_part name → ⊥)
    → (message : Message) → Says (40 ∷ 2 ∷ 7 ∷ bytes) message → ⊥
no_request bytes text rest f none SendType s = let e = s.encoded in absurd (cc)
no_request bytes text rest f none (TypeRequest device name) s =
    let e : bytes ≡ device ++ name_part name = let h = s.encoded in cc in
    let one = one_front text rest device (name_part name) (all_from_text text f.is_text) f.ends (all_from_text device s.is_message.0) (end_of_name name) (sym f.encoded ∙ e) in
    none name s.is_message.1 one.1
no_request bytes text rest f none (TypeIs device name) s = let e = s.encoded in absurd (cc)
no_request bytes text rest f none (TypeReject reason) s = let e = s.encoded in absurd (cc)
no_request bytes text rest f none (FunRequest functions) s = let e = s.encoded.2 in absurd (cc)
no_request bytes text rest f none (FunIs functions) s = let e = s.encoded.2 in absurd (cc)

-- a grant is none where what comes behind its text is no name
pub no_grant : (bytes text rest : List ℕ) → IsFront bytes text rest → ((name : List ℕ) → is_text name ≡ true → rest ≡ 1 ∷ name → ⊥)
    → (message : Message) → Says (40 ∷ 2 ∷ 4 ∷ bytes) message → ⊥
no_grant bytes text rest f none SendType s = let e = s.encoded in absurd (cc)
no_grant bytes text rest f none (TypeRequest device name) s = let e = s.encoded in absurd (cc)
no_grant bytes text rest f none (TypeIs device name) s =
    let e : bytes ≡ device ++ 1 ∷ name = let h = s.encoded in cc in
    let one = one_front text rest device (1 ∷ name) (all_from_text text f.is_text) f.ends (all_from_text device s.is_message.0) refl (sym f.encoded ∙ e) in
    none name s.is_message.1 one.1
no_grant bytes text rest f none (TypeReject reason) s = let e = s.encoded in absurd (cc)
no_grant bytes text rest f none (FunRequest functions) s = let e = s.encoded.2 in absurd (cc)
no_grant bytes text rest f none (FunIs functions) s = let e = s.encoded.2 in absurd (cc)

-- a name of an LU is a text
letter_is_graphic : (letter : ℕ) → is_lu_letter letter ≡ true → is_ascii_graphic letter ≡ true
letter_is_graphic letter h = grind (arith, nat_tests, h)

all_graphic : (name : List ℕ) → list_all is_lu_letter name ≡ true → list_all is_ascii_graphic name ≡ true
all_graphic [] h = refl
all_graphic (x ∷ xs) h =
    let parts = and_parts (is_lu_letter x) _ h in
    and_from (is_ascii_graphic x) _ (letter_is_graphic x parts.0) (all_graphic xs parts.1)

pub lu_is_text : (name : List ℕ) → is_lu name ≡ true → is_text name ≡ true
lu_is_text [] h = absurd (false≢true h)
lu_is_text (x ∷ xs) h =
    let parts = and_parts (not (is_ascii_digit x)) _ h in
    all_graphic (x ∷ xs) (and_parts (list_all is_lu_letter (x ∷ xs)) _ parts.1).0

pub is_lu_by : (name : List ℕ) → 1 ≤ length name → is_ascii_digit (get_or name 0 0) ≡ false → length name ≤ 8 → list_all is_lu_letter name ≡ is_lu name
is_lu_by [] some digit fits = absurd (omega (arith, some))
is_lu_by (x ∷ xs) some digit fits = rw (digit, le-leb (length (x ∷ xs)) 8 fits) (sym (and-true _))

pub device_is_text : (device : Device) → is_text (device_text device) ≡ true
device_is_text Model2 = refl
device_is_text Model2E = refl
device_is_text Model3 = refl
device_is_text Model3E = refl
device_is_text Model4 = refl
device_is_text Model4E = refl
device_is_text Model5 = refl
device_is_text Model5E = refl

pub none_by : {X : Type 0} (r : Option X) (P : Type 0) → P → IfNone r P
none_by None P p = p
none_by (Some x) P p = tt

one_name : (name other : Option Name) → name_part name ≡ name_part other → name ≡ other
one_name None None e = refl
one_name None (Some (Connect b)) e = absurd (cc)
one_name None (Some (Associate b)) e = absurd (cc)
one_name (Some (Connect a)) None e = absurd (cc)
one_name (Some (Connect a)) (Some (Connect b)) e = cc
one_name (Some (Connect a)) (Some (Associate b)) e = absurd (cc)
one_name (Some (Associate a)) None e = absurd (cc)
one_name (Some (Associate a)) (Some (Connect b)) e = absurd (cc)
one_name (Some (Associate a)) (Some (Associate b)) e = cc

-- bytes are one message at most
pub one_message : OneMessage
one_message bytes SendType SendType s t = refl
one_message bytes (TypeRequest device name) (TypeRequest device' name') s t =
    let same : device ++ name_part name ≡ device' ++ name_part name' = let a = s.encoded in let b = t.encoded in cc in
    let one = one_front device (name_part name) device' (name_part name') (all_from_text device s.is_message.0) (end_of_name name) (all_from_text device' t.is_message.0) (end_of_name name') same in
    let names = one_name name name' one.1 in
    rw (one.0, names) refl
one_message bytes (TypeIs device name) (TypeIs device' name') s t =
    let same : device ++ 1 ∷ name ≡ device' ++ 1 ∷ name' = let a = s.encoded in let b = t.encoded in cc in
    let one = one_front device (1 ∷ name) device' (1 ∷ name') (all_from_text device s.is_message.0) refl (all_from_text device' t.is_message.0) refl same in
    let names : name ≡ name' = let e = one.1 in cc in
    rw (one.0, names) refl
one_message bytes (TypeReject reason) (TypeReject reason') s t =
    let codes : reason.0 ≡ reason'.0 = let a = s.encoded in let b = t.encoded in cc in
    ap (λ (n : ℕ). TypeReject (record { 0 = n })) codes
one_message bytes (FunRequest functions) (FunRequest functions') s t =
    let lists : s.encoded.0 ≡ t.encoded.0 = let a = s.encoded.2 in let b = t.encoded.2 in cc in
    ap FunRequest (sym s.encoded.1 ∙ ap functions_of lists ∙ t.encoded.1)
one_message bytes (FunIs functions) (FunIs functions') s t =
    let lists : s.encoded.0 ≡ t.encoded.0 = let a = s.encoded.2 in let b = t.encoded.2 in cc in
    ap FunIs (sym s.encoded.1 ∙ ap functions_of lists ∙ t.encoded.1)
one_message bytes SendType (TypeRequest d n) s t = absurd (let a = s.encoded in let b = t.encoded in cc)
one_message bytes SendType (TypeIs d n) s t = absurd (let a = s.encoded in let b = t.encoded in cc)
one_message bytes SendType (TypeReject r) s t = absurd (let a = s.encoded in let b = t.encoded in cc)
one_message bytes SendType (FunRequest f) s t = absurd (let a = s.encoded in let b = t.encoded.2 in cc)
one_message bytes SendType (FunIs f) s t = absurd (let a = s.encoded in let b = t.encoded.2 in cc)
one_message bytes (TypeRequest d n) SendType s t = absurd (let a = s.encoded in let b = t.encoded in cc)
one_message bytes (TypeRequest d n) (TypeIs d' n') s t = absurd (let a = s.encoded in let b = t.encoded in cc)
one_message bytes (TypeRequest d n) (TypeReject r) s t = absurd (let a = s.encoded in let b = t.encoded in cc)
one_message bytes (TypeRequest d n) (FunRequest f) s t = absurd (let a = s.encoded in let b = t.encoded.2 in cc)
one_message bytes (TypeRequest d n) (FunIs f) s t = absurd (let a = s.encoded in let b = t.encoded.2 in cc)
one_message bytes (TypeIs d n) SendType s t = absurd (let a = s.encoded in let b = t.encoded in cc)
one_message bytes (TypeIs d n) (TypeRequest d' n') s t = absurd (let a = s.encoded in let b = t.encoded in cc)
one_message bytes (TypeIs d n) (TypeReject r) s t = absurd (let a = s.encoded in let b = t.encoded in cc)
one_message bytes (TypeIs d n) (FunRequest f) s t = absurd (let a = s.encoded in let b = t.encoded.2 in cc)
one_message bytes (TypeIs d n) (FunIs f) s t = absurd (let a = s.encoded in let b = t.encoded.2 in cc)
one_message bytes (TypeReject r) SendType s t = absurd (let a = s.encoded in let b = t.encoded in cc)
one_message bytes (TypeReject r) (TypeRequest d' n') s t = absurd (let a = s.encoded in let b = t.encoded in cc)
one_message bytes (TypeReject r) (TypeIs d' n') s t = absurd (let a = s.encoded in let b = t.encoded in cc)
one_message bytes (TypeReject r) (FunRequest f) s t = absurd (let a = s.encoded in let b = t.encoded.2 in cc)
one_message bytes (TypeReject r) (FunIs f) s t = absurd (let a = s.encoded in let b = t.encoded.2 in cc)
one_message bytes (FunRequest f) SendType s t = absurd (let a = s.encoded.2 in let b = t.encoded in cc)
one_message bytes (FunRequest f) (TypeRequest d' n') s t = absurd (let a = s.encoded.2 in let b = t.encoded in cc)
one_message bytes (FunRequest f) (TypeIs d' n') s t = absurd (let a = s.encoded.2 in let b = t.encoded in cc)
one_message bytes (FunRequest f) (TypeReject r) s t = absurd (let a = s.encoded.2 in let b = t.encoded in cc)
one_message bytes (FunRequest f) (FunIs f') s t = absurd (let a = s.encoded.2 in let b = t.encoded.2 in cc)
one_message bytes (FunIs f) SendType s t = absurd (let a = s.encoded.2 in let b = t.encoded in cc)
one_message bytes (FunIs f) (TypeRequest d' n') s t = absurd (let a = s.encoded.2 in let b = t.encoded in cc)
one_message bytes (FunIs f) (TypeIs d' n') s t = absurd (let a = s.encoded.2 in let b = t.encoded in cc)
one_message bytes (FunIs f) (TypeReject r) s t = absurd (let a = s.encoded.2 in let b = t.encoded in cc)
one_message bytes (FunIs f) (FunRequest f') s t = absurd (let a = s.encoded.2 in let b = t.encoded.2 in cc)

-- a message begins with the option's code
ours : (bytes : List ℕ) (message : Message) → Spells message bytes → (rest : List ℕ) × (bytes ≡ 0x28 ∷ rest)
ours bytes SendType s = (_, s)
ours bytes (TypeRequest d n) s = (_, s)
ours bytes (TypeIs d n) s = (_, s)
ours bytes (TypeReject r) s = (_, s)
ours bytes (FunRequest f) s = (_, s.2)
ours bytes (FunIs f) s = (_, s.2)

pub fault_is_no_message : FaultIsNoMessage
fault_is_no_message bytes NotOurs message h s = let o = ours bytes message s.encoded in h o.0 o.1
fault_is_no_message bytes Malformed message h s = h.1 message s

pub one_sub_fault : OneSubFault
one_sub_fault bytes NotOurs NotOurs h k = refl
one_sub_fault bytes Malformed Malformed h k = refl
one_sub_fault bytes NotOurs Malformed h k = absurd (h k.0.0 k.0.1)
one_sub_fault bytes Malformed NotOurs h k = absurd (k h.0.0 h.0.1)

-- a message that lies in bytes is said by them
pub said : (bytes : List ℕ) (message : SubMessage) → LiesIn bytes message → Says bytes (message_of message)
said bytes lent.SendType l = record { is_message = l.is_message; encoded = l.encoded }
said bytes (lent.TypeRequest device name) l = record { is_message = l.is_message; encoded = l.encoded }
said bytes (lent.TypeIs device name) l = record { is_message = l.is_message; encoded = l.encoded }
said bytes (lent.TypeReject reason) l = record { is_message = l.is_message; encoded = l.encoded }
said bytes (lent.FunRequest list) l = record { is_message = l.is_message; encoded = (list.now, refl, l.encoded) }
said bytes (lent.FunIs list) l = record { is_message = l.is_message; encoded = (list.now, refl, l.encoded) }

-- whatever message bytes spell is found, where what is found is right
pub all_found : (bytes : List ℕ) (r : Result SubMessage SubFault) → IfOk r (LiesIn bytes) → IfErr r (HasFault bytes)
    → (message : Message) → Says bytes message → IsOkAnd r (λ found. message_of found ≡ message)
all_found bytes (Ok found) ok err message s = one_message bytes (message_of found) message (said bytes found ok) s
all_found bytes (Err fault) ok err message s = absurd (fault_is_no_message bytes fault message err s)

-- and whatever fault they have is answered
pub each_refused : (bytes : List ℕ) (r : Result SubMessage SubFault) → IfOk r (LiesIn bytes) → IfErr r (HasFault bytes)
    → (fault : SubFault) → HasFault bytes fault → r ≡ Err fault
each_refused bytes (Ok found) ok err fault h = absurd (fault_is_no_message bytes fault (message_of found) h (said bytes found ok))
each_refused bytes (Err other) ok err fault h = ap Err (one_sub_fault bytes other fault err h)

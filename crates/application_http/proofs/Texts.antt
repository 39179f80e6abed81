-- A question has no number with a fraction.
use Rattle.std.proofs.Common.{◌≡◌, ℕ, List, [], ◌∷◌, Bool, true, false, ◌||◌, Ordering, Less, Equal, Greater, refl, string_bytes, nat_cmp, Option, Some, None, codes, option_map}
use Rattle.std.specs.Prelude.{bytes_eq, if◌then◌else◌}
use Rattle.std.specs.Cmp.Lexicographic.{slice_cmp}
use Rattle.std.specs.Ordering.{match_ordering}
use Rattle.serde_json.specs.Data.{Data, string, Members, no_members, member, put}
use Rattle.serde_json.specs.Written.{has_float, members_have_float}
use Rattle.application_http.specs.Requests.{copies_of, copy_name, question_data, strings, with_client, with_field, with_named, with_texts}
use Rattle.application_http.specs.declared.request.FieldText.{FieldText}
use Rattle.application_http.specs.declared.request.Request.{Request}

or_false : (a b : Bool) → a ≡ false → b ≡ false → (a || b) ≡ false
or_false true b p q = p
or_false false b p q = q

first_false : (a b : Bool) → (a || b) ≡ false → a ≡ false
first_false true b p = p
first_false false b p = refl

second_false : (a b : Bool) → (a || b) ≡ false → b ≡ false
second_false true true p = p
second_false true false p = refl
second_false false b p = p

put_at : (o : Ordering) (k l : List ℕ) (d e : Data) (ms : Members) → has_float d ≡ false → members_have_float (member l e ms) ≡ false
    → members_have_float (put k d ms) ≡ false
    → members_have_float (match_ordering o (member k d (member l e ms)) (member l d ms) (member l e (put k d ms))) ≡ false
put_at Less k l d e ms p q r = or_false _ _ p q
put_at Equal k l d e ms p q r = or_false _ _ p (second_false (has_float e) _ q)
put_at Greater k l d e ms p q r = or_false _ _ (first_false (has_float e) _ q) r

put_plain : (k : List ℕ) (d : Data) (ms : Members) → has_float d ≡ false → members_have_float ms ≡ false → members_have_float (put k d ms) ≡ false
put_plain k d no_members p q = or_false _ _ p refl
put_plain k d (member l e ms) p q =
    put_at (slice_cmp nat_cmp k l) k l d e ms p q (put_plain k d ms p (second_false (has_float e) _ q))

strings_plain : (texts : List (List ℕ)) → has_float (strings texts) ≡ false
strings_plain [] = refl
strings_plain (text ∷ texts) = strings_plain texts

chosen_plain : (first : Bool) (some other : Members) → members_have_float some ≡ false → members_have_float other ≡ false → members_have_float (if first then some else other) ≡ false
chosen_plain true some other p q = p
chosen_plain false some other p q = q

named_plain : (all : List FieldText) (field : FieldText) (name : Option (List ℕ × List ℕ)) (ms : Members) → members_have_float ms ≡ false → members_have_float (with_named all field name ms) ≡ false
named_plain all field None ms p = put_plain (string_bytes field.name) (string (string_bytes field.text)) ms refl p
named_plain all field (Some (stem, place)) ms p =
    chosen_plain (bytes_eq place (codes "1")) _ ms (put_plain stem (strings (copies_of stem all)) ms (strings_plain (copies_of stem all)) p) p

pub texts_plain : (all fields : List FieldText) (ms : Members) → members_have_float ms ≡ false → members_have_float (with_texts all ms fields) ≡ false
texts_plain all [] ms p = p
texts_plain all (field ∷ fields) ms p =
    texts_plain all fields (with_field all field ms) (named_plain all field (copy_name (string_bytes field.name)) ms p)

client_plain : (client : Option (List ℕ)) (ms : Members) → members_have_float ms ≡ false
    → members_have_float (with_client client ms) ≡ false
client_plain None ms p = p
client_plain (Some client) ms p = put_plain (codes "client") (string client) ms refl p

pub question_plain : (request : Request) → has_float (question_data request) ≡ false
question_plain request =
    client_plain (option_map (λ it. it.now) request.client) _ (or_false _ _ (texts_plain request.fields.now request.fields.now no_members refl) refl)

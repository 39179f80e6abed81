-- The values of fields once one is set: that of the field, of the others, and what setting it again gives.
use Rattle.std.proofs.Common.{◌≡◌, ◌≢◌, ◌<◌, ℕ, Bool, false, List, [], ◌∷◌, Option, Some, None, refl, ap, sym, ◌∙◌}
use Rattle.std.specs.BTreeMap.{insert_entry, is_at}
use Rattle.std.specs.List.{AllByRecursion}
use Rattle.std.specs.List.Sorted.{IsStrictlySortedBy}
use Rattle.std.specs.Cmp.{ranks, nat_cmp_is}
use Rattle.std.specs.Map.{lookup, keys_of}
use Rattle.std.specs.Ordering.{MatchOrdering, match_ordering, is_eq, nat_cmp}
use Rattle.std.specs.Prelude.{cond}
use Rattle.std.specs.declared.cmp.Ordering.{Ordering}
use Rattle.std.specs.declared.cmp.Ordering.TheVariants.{Less, Equal, Greater}
use Rattle.std.proofs.lemmas.Cmp.{nat_cmp_total}
use Rattle.panels.specs.Values.{value_of}

abbrev pub Entries : Type 0
Entries = List (ℕ × List ℕ)

-- ---- a value that is set is what it was

all_above : (first field : ℕ) (keys : List ℕ) → nat_cmp field first ≡ Less → AllByRecursion (λ key. nat_cmp first key ≡ Less) keys → AllByRecursion (λ key. nat_cmp field key ≡ Less) keys
all_above first field [] below above = tt
all_above first field (key ∷ keys) below above = (nat_cmp_total.trans field first key below above.0, all_above first field keys below above.1)

none_above : (entries : Entries) (field : ℕ) → AllByRecursion (λ key. nat_cmp field key ≡ Less) (keys_of entries) → lookup (is_at (nat_cmp field)) entries ≡ None
none_above [] field above = refl
none_above (entry ∷ entries) field above =
    ap (λ (order : Ordering). cond (is_eq order) (Some entry.1) (lookup (is_at (nat_cmp field)) entries)) above.0 ∙ none_above entries field above.1

put_back : (order : Ordering) (entry : ℕ × List ℕ) (entries : Entries) (field : ℕ) (value : List ℕ) → nat_cmp field entry.0 ≡ order
    → AllByRecursion (λ key. nat_cmp entry.0 key ≡ Less) (keys_of entries) → cond (is_eq order) (Some entry.1) (lookup (is_at (nat_cmp field)) entries) ≡ Some value
    → (lookup (is_at (nat_cmp field)) entries ≡ Some value → insert_entry nat_cmp entries field value ≡ entries)
    → match_ordering order ((field, value) ∷ entry ∷ entries) ((entry.0, value) ∷ entries) (entry ∷ insert_entry nat_cmp entries field value) ≡ entry ∷ entries
put_back Less entry entries field value is above there rest =
    let none = none_above entries field (all_above entry.0 field (keys_of entries) is above) in
    absurd (cc)
put_back Equal entry entries field value is above there rest =
    let same : value ≡ entry.1 = cc in
    ap (λ (v : List ℕ). (entry.0, v) ∷ entries) same
put_back Greater entry entries field value is above there rest = ap (λ (more : Entries). entry ∷ more) (rest there)

pub set_again : (entries : Entries) (field : ℕ) (value : List ℕ) → IsStrictlySortedBy nat_cmp (keys_of entries) → lookup (is_at (nat_cmp field)) entries ≡ Some value
    → insert_entry nat_cmp entries field value ≡ entries
unfolding IsStrictlySortedBy
set_again [] field value sorted there = absurd (cc)
set_again (entry ∷ entries) field value sorted there =
    put_back (nat_cmp field entry.0) entry entries field value refl sorted.0 there (set_again entries field value sorted.1)

-- ---- the value of the field

at_itself : (n : ℕ) → nat_cmp n n ≡ Equal
at_itself n = sym (nat_cmp_is n n Equal refl)

here_by : (order : Ordering) (entry : ℕ × List ℕ) (values : Entries) (k : ℕ) (v : List ℕ) → nat_cmp k entry.0 ≡ order → value_of (insert_entry nat_cmp values k v) k ≡ Some v
    → value_of (match_ordering order ((k, v) ∷ entry ∷ values) ((entry.0, v) ∷ values) (entry ∷ insert_entry nat_cmp values k v)) k ≡ Some v
here_by Less entry values k v is rest = ap (λ (o : Ordering). cond (is_eq o) (Some v) (value_of (entry ∷ values) k)) (at_itself k)
here_by Equal entry values k v is rest = ap (λ (o : Ordering). cond (is_eq o) (Some v) (value_of values k)) is
here_by Greater entry values k v is rest = ap (λ (o : Ordering). cond (is_eq o) (Some entry.1) (value_of (insert_entry nat_cmp values k v) k)) is ∙ rest

pub put_here : (values : Entries) (k : ℕ) (v : List ℕ) → value_of (insert_entry nat_cmp values k v) k ≡ Some v
put_here [] k v = ap (λ (o : Ordering). cond (is_eq o) (Some v) None) (at_itself k)
put_here (entry ∷ values) k v = here_by (nat_cmp k entry.0) entry values k v refl (put_here values k v)

-- ---- the values of the others

other_order : (order : Ordering) (n k : ℕ) → MatchOrdering order (n < k) (n ≡ k) (k < n) → n ≢ k → is_eq order ≡ false
other_order Less n k is differ = refl
other_order Equal n k is differ = absurd (differ is)
other_order Greater n k is differ = refl

at_other : (n k : ℕ) → n ≢ k → is_eq (nat_cmp n k) ≡ false
at_other n k differ = other_order (nat_cmp n k) n k (ranks n k) differ

there_by : (order : Ordering) (entry : ℕ × List ℕ) (values : Entries) (k n : ℕ) (v : List ℕ) → MatchOrdering order (k < entry.0) (k ≡ entry.0) (entry.0 < k) → n ≢ k
    → value_of (insert_entry nat_cmp values k v) n ≡ value_of values n
    → value_of (match_ordering order ((k, v) ∷ entry ∷ values) ((entry.0, v) ∷ values) (entry ∷ insert_entry nat_cmp values k v)) n ≡ value_of (entry ∷ values) n
there_by Less entry values k n v is differ rest = ap (λ (b : Bool). cond b (Some v) (value_of (entry ∷ values) n)) (at_other n k differ)
there_by Equal entry values k n v is differ rest =
    let none = at_other n entry.0 (λ same. differ (same ∙ sym is)) in
    ap (λ (b : Bool). cond b (Some v) (value_of values n)) none ∙ sym (ap (λ (b : Bool). cond b (Some entry.1) (value_of values n)) none)
there_by Greater entry values k n v is differ rest = ap (λ (found : Option (List ℕ)). cond (is_eq (nat_cmp n entry.0)) (Some entry.1) found) rest

pub put_there : (values : Entries) (k n : ℕ) (v : List ℕ) → n ≢ k → value_of (insert_entry nat_cmp values k v) n ≡ value_of values n
put_there [] k n v differ = ap (λ (b : Bool). cond b (Some v) None) (at_other n k differ)
put_there (entry ∷ values) k n v differ = there_by (nat_cmp k entry.0) entry values k n v (ranks k entry.0) differ (put_there values k n v differ)

-- ---- a value that is set twice is the second

twice_by : (order : Ordering) (entry : ℕ × List ℕ) (values : Entries) (k : ℕ) (one other : List ℕ) → nat_cmp k entry.0 ≡ order
    → insert_entry nat_cmp (insert_entry nat_cmp values k one) k other ≡ insert_entry nat_cmp values k other
    → insert_entry nat_cmp (match_ordering order ((k, one) ∷ entry ∷ values) ((entry.0, one) ∷ values) (entry ∷ insert_entry nat_cmp values k one)) k other
    ≡ match_ordering order ((k, other) ∷ entry ∷ values) ((entry.0, other) ∷ values) (entry ∷ insert_entry nat_cmp values k other)
twice_by Less entry values k one other is rest =
    ap (λ (o : Ordering). match_ordering o ((k, other) ∷ (k, one) ∷ entry ∷ values) ((k, other) ∷ entry ∷ values) ((k, one) ∷ insert_entry nat_cmp (entry ∷ values) k other)) (at_itself k)
twice_by Equal entry values k one other is rest =
    ap (λ (o : Ordering). match_ordering o ((k, other) ∷ (entry.0, one) ∷ values) ((entry.0, other) ∷ values) ((entry.0, one) ∷ insert_entry nat_cmp values k other)) is
twice_by Greater entry values k one other is rest =
    let set_once = insert_entry nat_cmp values k one in
    ap (λ (o : Ordering). match_ordering o ((k, other) ∷ entry ∷ set_once) ((entry.0, other) ∷ set_once) (entry ∷ insert_entry nat_cmp set_once k other)) is
    ∙ ap (λ (more : Entries). entry ∷ more) rest

pub set_twice : (values : Entries) (k : ℕ) (one other : List ℕ) → insert_entry nat_cmp (insert_entry nat_cmp values k one) k other ≡ insert_entry nat_cmp values k other
set_twice [] k one other = ap (λ (o : Ordering). match_ordering o ((k, other) ∷ (k, one) ∷ []) ((k, other) ∷ []) ((k, one) ∷ insert_entry nat_cmp [] k other)) (at_itself k)
set_twice (entry ∷ values) k one other = twice_by (nat_cmp k entry.0) entry values k one other refl (set_twice values k one other)

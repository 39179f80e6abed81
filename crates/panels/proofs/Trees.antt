-- What a tree is, beside the values and entries that the code goes over.
use Rattle.std.proofs.Common.{◌≡◌, ◌==◌, IsSome, ℕ, Bool, true, false, cond, not, ◌&&◌, ◌||◌, List, [], ◌∷◌, length, map, Option, Some, None, String, Global, string_bytes, refl, ap, arith}
use Rattle.std.specs.List.{list_all, list_any}
use Rattle.std.proofs.lemmas.Bool.{false≢true}
use Rattle.std.proofs.lemmas.Bool.Decides.{nat_tests}
use Rattle.std.specs.Option.{option_and_then}
use Rattle.toml.specs.Data.{Data, array}
use Rattle.toml.specs.View.{view, items_view, members_view}
use Rattle.toml.specs.declared.value.Value.{Value}
use Rattle.panels.specs.Tree.{keys}
use Rattle.panels.specs.TableRules.{all_items, all_values, is_lacking, is_of_kind, is_table, is_text}
use Rattle.panels.specs.declared.rules.KeyKind.{KeyKind}
use Rattle.panels.specs.declared.rules.KeyKind.TheVariants.{Tables, Texts}

pub all_items_view : (test : Data → Bool) (values : List Value) → list_all (λ value. test (view value)) values ≡ all_items test (items_view values)
all_items_view test [] = refl
all_items_view test (value ∷ values) = ap (λ more. test (view value) && more) (all_items_view test values)

pub all_values_view : (test : Data → Bool) (entries : List (String Global × Value)) → list_all (λ value. test (view value)) (map (λ entry. entry.1) entries) ≡ all_values test (members_view entries)
all_values_view test [] = refl
all_values_view test (entry ∷ entries) = ap (λ more. test (view entry.1) && more) (all_values_view test entries)

pub any_key_view : (test : List ℕ → Bool) (entries : List (String Global × Value)) → list_any (λ key. test (string_bytes key)) (map (λ entry. entry.0) entries) ≡ list_any test (keys (members_view entries))
any_key_view test [] = refl
any_key_view test (entry ∷ entries) = ap (λ more. test (string_bytes entry.0) || more) (any_key_view test entries)

pub any_map : {X Y : Type 0} (test : Y → Bool) (f : X → Y) (xs : List X) → list_any (λ x. test (f x)) xs ≡ list_any test (map f xs)
any_map test f [] = refl
any_map test f (x ∷ xs) = ap (λ more. test (f x) || more) (any_map test f xs)

no_items_left : (values : List Value) → (length values == 0) ≡ is_lacking Tables (Some (array (items_view values)))
no_items_left [] = refl
no_items_left (value ∷ values) = grind (arith, nat_tests)

-- an array has no table where it has nothing
pub lacks_tables : (kind : KeyKind) (value : Option Data) (values : List Value) → kind ≡ Tables → value ≡ Some (array (items_view values)) → (length values == 0) ≡ is_lacking kind value
lacks_tables kind value values of_tables is = rw (of_tables, is) (no_items_left values)

-- the values tell whether an array is one of texts, or of tables
pub fits_texts : (kind : KeyKind) (value : Data) (values : List Value) → kind ≡ Texts → value ≡ array (items_view values) → list_all (λ value. is_text (view value)) values ≡ is_of_kind kind value
fits_texts kind value values of_texts is = rw (of_texts, is) (all_items_view is_text values)

pub fits_tables : (kind : KeyKind) (value : Data) (values : List Value) → kind ≡ Tables → value ≡ array (items_view values) → list_all (λ value. is_table (view value)) values ≡ is_of_kind kind value
fits_tables kind value values of_tables is = rw (of_tables, is) (all_items_view is_table values)

pub some_part : {X Y : Type 0} (f : X → Option Y) (o : Option X) → IsSome (option_and_then f o) → IsSome o
some_part f None stands = absurd (false≢true stands)
some_part f (Some x) stands = refl

pub unless_all : {X : Type 0} (b : Bool) (x : X) → cond (not b) (Some x) None ≡ cond b None (Some x)
unless_all true x = refl
unless_all false x = refl

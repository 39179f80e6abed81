-- What a report has, from the faults that are listed and those that are reported.
use Rattle.std.proofs.Common.{◌≡◌, ◌⊎◌, ◌++◌, ◌∙◌, ◌+◌, ◌<◌, ◌≤◌, length, slice_index_or, drop, inl, inr, map, ℕ, zero, suc, List, [], ◌∷◌, Bool, true, false, Option, None, Some, sym, subst, refl, ap, arith, cond}
use Rattle.std.specs.Prelude.{All, Contains, IsPermutation, filter}
use Rattle.std.proofs.lemmas.List.Elements.{All-append, All-cons, All-push, Contains-append_left, Contains-get_or, Contains-push}
use Rattle.std.proofs.lemmas.List.Sorted.{All-permutation, Contains-permutation}
use Rattle.std.proofs.lemmas.List.{append-nil, append_assoc, drop_all, get_or_default}
use Rattle.std.proofs.lemmas.Option.{same_Some}
use Rattle.toml.specs.Data.{Members}
use Rattle.toml.specs.Parse.{parse_document}
use Rattle.tn3270e_msg.specs.Lu.{lu_of}
use Rattle.lu_pool.specs.Pool.{IsCount}
use Rattle.lu_pool.specs.Reading.{AreFaultsOf as AreLuFaultsOf, HasFault, IsFaultOf as IsLuFault, IsFirstFault, IsRight}
use Rattle.lu_pool.specs.declared.fault.PoolFault.{PoolFault}
use Rattle.lu_pool.specs.declared.fault.PoolFault.TheVariants as pool_fault
use Rattle.panels.specs.Draft.{DraftText, draft_of}
use Rattle.panels.specs.Faults.{IsFaulty}
use Rattle.panels.specs.Listing.{AreFaultsOf, IsBefore}
use Rattle.panels.specs.Passes.{IsFaultless}
use Rattle.panels.specs.Turns.{IsClearTo, turn_of}
use Rattle.panels.specs.declared.fault.LocatedFault.{LocatedFault}
use Rattle.panels.specs.declared.fault.Location.{Location}
use Rattle.panels.specs.declared.fault.TreeFault.{TreeFault}
use Rattle.panel_check.specs.declared.report.Cause.{Cause}
use Rattle.panel_check.specs.declared.report.Cause.TheVariants as cause
use Rattle.panel_check.specs.declared.report.Finding.{Finding}
use Rattle.panel_check.specs.Causes.{IsFaultIn, IsFaultOf, IsOfText, IsStated, IsStatedFaultIn, IsStatedFaultOf, in_table}
use Rattle.panel_check.specs.Listed.{AddsOf, AreCausesOf, AreReported, cause_of, causes_of, warnings}
use Rattle.panel_check.specs.Report.{AreInOrder, HasCause, IsReportOn, fault_count, is_fault}
use Rattle.panel_check.specs.Verdict.{IsAccepted, IsFirstCause, IsFirstIn}

-- ---- finding by finding

pub adds_one : (given : Cause) (findings mid : List Finding) (one : Finding) → one.cause ≡ given → AddsOf given findings mid → AddsOf given findings (mid ++ one ∷ [])
adds_one given findings mid one is (added, same, are) =
    (added ++ one ∷ [], ap (λ xs. xs ++ one ∷ []) same ∙ append_assoc findings added (one ∷ []), All-push (λ (f : Finding). f.cause ≡ given) added one are is)

pub has_pushed : (given : Cause) (findings : List Finding) (one : Finding) → one.cause ≡ given → HasCause given (findings ++ one ∷ [])
has_pushed given findings one is = (one, Contains-push findings one, is)

pub has_at : (given : Cause) (findings : List Finding) (k : ℕ) (d : Finding) → k < length findings → (slice_index_or findings k d).cause ≡ given → HasCause given findings
has_at given findings k d below is = (slice_index_or findings k d, Contains-get_or findings k d below, is)

pub adds_none : (given : Cause) (findings : List Finding) → AddsOf given findings findings
adds_none given findings = ([], sym (append-nil findings), λ k d below. absurd (omega arith))

has_behind : (fault : Cause) (findings added : List Finding) → HasCause fault findings → HasCause fault (findings ++ added)
has_behind fault findings added (finding, has, is) = (finding, Contains-append_left findings added finding has, is)

still_has : (fault : Cause) (findings added all : List Finding) → all ≡ findings ++ added → HasCause fault findings → HasCause fault all
still_has fault findings added all same has = subst (HasCause fault) (sym same) (has_behind fault findings added has)

-- ---- fault by fault

at_or_under : (j n : ℕ) → j < n + 1 → (j < n) ⊎ (j ≡ n)
at_or_under j n less = grind arith

pub none_reported : (draft : DraftText) (causes : List Cause) → AreReported 0 draft causes []
none_reported draft causes = record { each = λ j d less fault. absurd (omega (arith, less)); nothing_else = λ k d below. absurd (omega (arith, below)) }

-- a finding is for one of the causes
abbrev IsFor : DraftText → List Cause → Finding → Type 0
IsFor draft causes finding = (fault : Cause) × Contains causes fault × (finding.cause ≡ in_table draft fault)

module _ (draft : DraftText) (causes : List Cause) (findings all : List Finding) (n : ℕ) (d : Cause) (below : n < length causes) (added : AddsOf (in_table draft (slice_index_or causes n d)) findings all)
    (told : is_fault (slice_index_or causes n d) ≡ true → (findings ≡ []) ⊎ IsStated draft (slice_index_or causes n d) → HasCause (in_table draft (slice_index_or causes n d)) all) (before : AreReported n draft causes findings) (begins : n ≡ 0 → findings ≡ []) where
  wanted : (j : ℕ) → j ≡ n → (j ≡ 0) ⊎ IsStated draft (slice_index_or causes n d) → (findings ≡ []) ⊎ IsStated draft (slice_index_or causes n d)
  wanted j same (inl first) = inl (begins (sym same ∙ first))
  wanted j same (inr stated) = inr stated

  here : (j : ℕ) (e : Cause) → j ≡ n → is_fault (slice_index_or causes j e) ≡ true → (j ≡ 0) ⊎ IsStated draft (slice_index_or causes j e) → HasCause (in_table draft (slice_index_or causes j e)) all
  here j e same fault is =
      let at : slice_index_or causes j e ≡ slice_index_or causes n d = ap (λ k. slice_index_or causes k e) same ∙ get_or_default causes n e d below in
      subst (λ c. HasCause (in_table draft c) all) (sym at) (told (sym (ap is_fault at) ∙ fault) (wanted j same (subst (λ c. (j ≡ 0) ⊎ IsStated draft c) at is)))

  earlier : (j : ℕ) (e : Cause) → (j < n) ⊎ (j ≡ n) → is_fault (slice_index_or causes j e) ≡ true → (j ≡ 0) ⊎ IsStated draft (slice_index_or causes j e) → HasCause (in_table draft (slice_index_or causes j e)) all
  earlier j e (inl less) fault is = still_has (in_table draft (slice_index_or causes j e)) findings added.0 all added.1 (before.each j e less fault is)
  earlier j e (inr same) fault is = here j e same fault is

  pub reported_next : AreReported (n + 1) draft causes all
  reported_next = record {
    each = λ j e less. earlier j e (at_or_under j n less);
    nothing_else = subst (All (IsFor draft causes)) (sym added.1)
        (All-append (IsFor draft causes) findings added.0 before.nothing_else (λ k e less. (slice_index_or causes n d, Contains-get_or causes n d below, added.2 k e less)));
  }

pub all_reported : (draft : DraftText) (causes : List Cause) (findings : List Finding) (n : ℕ) → length causes ≤ n → AreReported n draft causes findings → AreReported (length causes) draft causes findings
all_reported draft causes findings n end reported = record {
  each = λ j d less. reported.each j d (omega (arith, less, end));
  nothing_else = reported.nothing_else;
}

-- ---- the list of causes

none_in : {X : Type 0} (x : X) → Contains [] x → ⊥
none_in x (k, below, at) = omega (arith, below)

listed_too : {X : Type 0} (f : X → Cause) (found : List X) (x : X) → Contains found x → Contains (map f found) (f x)
listed_too f [] x has = absurd (none_in x has)
listed_too f (first ∷ more) x (zero, below, is) = (0, omega arith, ap f is)
listed_too f (first ∷ more) x (suc k, below, is) = let (j, less, same) = listed_too f more x (k, omega (arith, below), is) in (suc j, omega (arith, less), same)

listed_for : {X : Type 0} (f : X → Cause) (found : List X) (given : Cause) → Contains (map f found) given → (x : X) × Contains found x × (f x ≡ given)
listed_for f [] given has = absurd (none_in given has)
listed_for f (first ∷ more) given (zero, below, is) = (first, (0, omega arith, refl), is)
listed_for f (first ∷ more) given (suc k, below, is) =
    let (x, (j, less, there), same) = listed_for f more given (k, omega (arith, below), is) in (x, (suc j, omega (arith, less), there), same)

right_too : (some more : List Cause) (given : Cause) → Contains more given → Contains (some ++ more) given
right_too [] more given has = has
right_too (first ∷ some) more given has = let (k, below, at) = right_too some more given has in (suc k, omega (arith, below), at)

either : (some more : List Cause) (given : Cause) → Contains (some ++ more) given → Contains some given ⊎ Contains more given
either [] more given has = inr has
either (first ∷ some) more given (zero, below, at) = inl (0, omega arith, at)
either (first ∷ some) more given (suc k, below, at) = elim (either some more given (k, omega (arith, below), at)) [
  | inl (j, less, same) ↦ inl (suc j, omega (arith, less), same)
  | inr has ↦ inr has
]

-- a warning is no fault
no_warning : (given : Cause) → Contains warnings given → is_fault given ≡ true → ⊥
no_warning given (zero, below, is) faulty = let wrong : false ≡ true = ap is_fault is ∙ faulty in cc
no_warning given (suc zero, below, is) faulty = let wrong : false ≡ true = ap is_fault is ∙ faulty in cc
no_warning given (suc (suc zero), below, is) faulty = let wrong : false ≡ true = ap is_fault is ∙ faulty in cc
no_warning given (suc (suc (suc k)), below, is) faulty = omega (arith, below)

module _ (draft : DraftText) (causes : List Cause) (are : AreCausesOf draft causes) where
  abbrev tables_in : List Cause
  tables_in = map cause_of are.tables

  abbrev lus_in : List Cause
  lus_in = map cause.Lus are.lus

  of_lus_or : (given : Cause) → Contains lus_in given ⊎ Contains warnings given → is_fault given ≡ true → IsFaultIn draft given
  of_lus_or given (inl has) faulty =
      let (fault, there, same) = listed_for cause.Lus are.lus given has in
      subst (IsFaultIn draft) same ((are.of_lus fault).0 there)
  of_lus_or given (inr has) faulty = absurd (no_warning given has faulty)

  of_either : (given : Cause) → Contains tables_in given ⊎ Contains (lus_in ++ warnings) given → is_fault given ≡ true → IsFaultIn draft given
  of_either given (inl has) faulty =
      let (at, (k, below, there), same) = listed_for cause_of are.tables given has in
      subst (IsFaultIn draft) same (subst (λ (x : LocatedFault). IsFaulty x.fault x.part draft) there (are.of_tables.stand k at below))
  of_either given (inr has) faulty = of_lus_or given (either lus_in warnings given has) faulty

  is_fault_in : (given : Cause) → Contains causes given → is_fault given ≡ true → IsFaultIn draft given
  is_fault_in given has = of_either given (either tables_in (lus_in ++ warnings) given (subst (λ them. Contains them given) are.all has))

  in_causes : (given : Cause) → Contains (tables_in ++ (lus_in ++ warnings)) given → Contains causes given
  in_causes given has = subst (λ them. Contains them given) (sym are.all) has

  is_listed : (given : Cause) → IsFaultIn draft given → Contains causes given
  is_listed cause.NotToml none = absurd none
  is_listed (cause.Tree fault part) stands =
      in_causes (cause.Tree fault part)
      (Contains-append_left tables_in (lus_in ++ warnings) (cause.Tree fault part) (listed_too cause_of are.tables (record { fault = fault; part = part }) (are.of_tables.each fault part stands)))
  is_listed (cause.Lus fault) is =
      in_causes (cause.Lus fault)
      (right_too tables_in (lus_in ++ warnings) (cause.Lus fault) (Contains-append_left lus_in warnings (cause.Lus fault) (listed_too cause.Lus are.lus fault ((are.of_lus fault).1 is))))
  is_listed cause.TextWraps none = absurd none
  is_listed cause.FillNotNumeric none = absurd none
  is_listed cause.NoKeyLeads none = absurd none

pub all_listed : (tables : List LocatedFault) (lus : List PoolFault) (first both all : List Cause) (i j : ℕ) → map cause_of tables ≡ first ++ map cause_of (drop i tables) → length tables ≤ i
    → first ++ map cause.Lus lus ≡ both ++ map cause.Lus (drop j lus) → length lus ≤ j → all ≡ both ++ warnings → all ≡ causes_of tables lus
all_listed tables lus first both all i j begun i_end more j_end is =
    let tables_are : map cause_of tables ≡ first = begun ∙ (ap (λ xs. first ++ map cause_of xs) (drop_all i tables i_end) ∙ append-nil first) in
    let both_are : first ++ map cause.Lus lus ≡ both = more ∙ (ap (λ xs. both ++ map cause.Lus xs) (drop_all j lus j_end) ∙ append-nil both) in
    is ∙ (ap (λ xs. xs ++ warnings) (sym both_are) ∙ (append_assoc first (map cause.Lus lus) warnings ∙ ap (λ xs. xs ++ (map cause.Lus lus ++ warnings)) (sym tables_are)))

pub are_causes : (draft : DraftText) (found tables : List LocatedFault) (lus_found lus : List PoolFault) (names : List (List ℕ)) (causes : List Cause) → AreFaultsOf draft found → AreLuFaultsOf (map lu_of names) lus_found
    → names ≡ draft.lus → tables ≡ found → lus ≡ lus_found → causes ≡ causes_of tables lus → AreCausesOf draft causes
are_causes draft found tables lus_found lus names causes of_tables of_lus named same_tables same_lus is = record {
  tables = found;
  lus = lus_found;
  of_tables = of_tables;
  of_lus = subst (λ them. AreLuFaultsOf (map lu_of them) lus_found) named of_lus;
  all = is ∙ (ap (λ xs. causes_of xs lus) same_tables ∙ ap (causes_of found) same_lus);
}

-- ---- the count of faults

abbrev HasNoFault : List Finding → Type 0
HasNoFault findings = All (λ finding. is_fault finding.cause ≡ false) findings

abbrev counted : Bool → Finding → List Finding → ℕ
counted first finding findings = length (cond first (finding ∷ filter (λ (f : Finding). is_fault f.cause) findings) (filter (λ (f : Finding). is_fault f.cause) findings))

first_is : (first : Bool) (finding : Finding) (findings : List Finding) → is_fault finding.cause ≡ first → (fault_count findings ≡ 0 → HasNoFault findings)
    → counted first finding findings ≡ 0 → HasNoFault (finding ∷ findings)
first_is true finding findings is rest none = absurd (omega (arith, none))
first_is false finding findings is rest none = All-cons (λ (f : Finding). is_fault f.cause ≡ false) finding findings is (rest none)

no_fault : (findings : List Finding) → fault_count findings ≡ 0 → HasNoFault findings
no_fault [] none = λ k d lt. absurd (omega arith)
no_fault (finding ∷ findings) none = first_is (is_fault finding.cause) finding findings refl (no_fault findings) none

none_counted : (findings : List Finding) → HasNoFault findings → fault_count findings ≡ 0
none_counted [] clean = refl
none_counted (finding ∷ findings) clean =
    subst (λ first. counted first finding findings ≡ 0) (sym (clean 0 finding (omega arith))) (none_counted findings (λ k d below. clean (suc k) d (omega (arith, below))))

is_clean : (Is : Cause → Type 0) → ((cause : Cause) → Is cause → ⊥) → (cause : Cause) (faulty : Bool) → is_fault cause ≡ faulty → (is_fault cause ≡ true → Is cause) → is_fault cause ≡ false
is_clean Is none cause true is backed = absurd (none cause (backed is))
is_clean Is none cause false is backed = is

some_counted : (findings : List Finding) (cause : Cause) → is_fault cause ≡ true → HasCause cause findings → fault_count findings ≡ 0 → ⊥
some_counted findings cause fault (finding, (k, below, at), is) none =
    let warning = no_fault findings none k finding below in
    absurd (let wrong : true ≡ false = sym fault ∙ sym (ap is_fault is) ∙ sym (ap (λ (f : Finding). is_fault f.cause) at) ∙ warning in cc)

-- ---- LUs without fault

under_or : (a b : ℕ) → (a ≤ b) ⊎ (b < a)
under_or a b = grind arith

count_of : (n : ℕ) → ((IsCount n → ⊥) → ⊥) → IsCount n
count_of n right = elim (under_or 1 n) [
  | inl some ↦ elim (under_or n 64) [
    | inl few ↦ record { some = some; few = few }
    | inr many ↦ absurd (right (λ count. let few = count.few in omega (arith, few, many)))
  ]
  | inr none ↦ absurd (right (λ count. let some = count.some in omega (arith, some, none)))
]

are_right : (lus : List (Option (List ℕ))) → ((fault : PoolFault) → IsLuFault lus fault → ⊥) → IsRight lus
are_right lus none pool_fault.BadCount is = none pool_fault.BadCount is
are_right lus none (pool_fault.BadName place) is = none (pool_fault.BadName place) (count_of (length lus) (λ wrong. none pool_fault.BadCount wrong), is)
are_right lus none (pool_fault.Twice place) is = none (pool_fault.Twice place) (count_of (length lus) (λ wrong. none pool_fault.BadCount wrong), is)
are_right lus none pool_fault.Memory is = is

has_lu_fault : (lus : List (Option (List ℕ))) (fault : PoolFault) → IsLuFault lus fault → HasFault lus fault
has_lu_fault lus pool_fault.BadCount is = is
has_lu_fault lus (pool_fault.BadName place) (count, is) = is
has_lu_fault lus (pool_fault.Twice place) (count, is) = is
has_lu_fault lus pool_fault.Memory (count, is) = is

of_first : (lus : List (Option (List ℕ))) (fault : PoolFault) → HasFault lus fault → IsFirstFault lus fault → IsLuFault lus fault
of_first lus pool_fault.BadCount has first = has
of_first lus (pool_fault.BadName place) has (count, is, before) = (count, is)
of_first lus (pool_fault.Twice place) has (count, is, before) = (count, is)
of_first lus pool_fault.Memory has first = absurd has

-- the number of LUs is wrong: no other fault is listed
alone : (lus : List (Option (List ℕ))) (fault : PoolFault) → (IsCount (length lus) → ⊥) → IsLuFault lus fault → fault ≡ pool_fault.BadCount
alone lus pool_fault.BadCount wrong is = refl
alone lus (pool_fault.BadName place) wrong (count, is) = absurd (wrong count)
alone lus (pool_fault.Twice place) wrong (count, is) = absurd (wrong count)
alone lus pool_fault.Memory wrong (count, is) = absurd (wrong count)

-- ---- the first of the causes

is_faulty : (draft : DraftText) (given : Cause) → IsFaultIn draft given → is_fault given ≡ true
is_faulty draft cause.NotToml none = absurd none
is_faulty draft (cause.Tree fault part) is = refl
is_faulty draft (cause.Lus fault) is = refl
is_faulty draft cause.TextWraps none = absurd none
is_faulty draft cause.FillNotNumeric none = absurd none
is_faulty draft cause.NoKeyLeads none = absurd none

same_kind : (draft : DraftText) (given : Cause) → is_fault (in_table draft given) ≡ is_fault given
same_kind draft cause.NotToml = refl
same_kind draft (cause.Tree fault part) = refl
same_kind draft (cause.Lus fault) = refl
same_kind draft cause.TextWraps = refl
same_kind draft cause.FillNotNumeric = refl
same_kind draft cause.NoKeyLeads = refl

-- if a fault is listed, the first of the list is a fault
head_faulty : (tables : List LocatedFault) (lus : List PoolFault) (given d : Cause) → Contains (causes_of tables lus) given → is_fault given ≡ true
    → (0 < length (causes_of tables lus)) × (is_fault (slice_index_or (causes_of tables lus) 0 d) ≡ true)
head_faulty (first ∷ tables) lus given d has faulty = (omega arith, refl)
head_faulty [] (first ∷ lus) given d has faulty = (omega arith, refl)
head_faulty [] [] given d has faulty = absurd (no_warning given has faulty)

head_is : (draft : DraftText) (first : LocatedFault) (more : List LocatedFault) (at : LocatedFault) → AreFaultsOf draft (first ∷ more) → IsClearTo (turn_of at.fault at.part) draft → Contains (first ∷ more) at → first ≡ at
head_is draft first more at are clear (zero, below, is) = is
head_is draft first more at are clear (suc k, below, is) =
    let before : IsBefore first at = subst (λ (x : LocatedFault). IsBefore first x) is (are.in_order 0 (suc k) at (omega arith) below) in
    absurd (clear first.fault first.part before (are.stand 0 first (omega arith)))

table_head : (draft : DraftText) (tables : List LocatedFault) (lus : List PoolFault) (at : LocatedFault) → AreFaultsOf draft tables → IsClearTo (turn_of at.fault at.part) draft → Contains tables at
    → (0 < length (causes_of tables lus)) × (slice_index_or (causes_of tables lus) 0 (cause_of at) ≡ cause_of at)
table_head draft [] lus at are clear has = absurd (none_in at has)
table_head draft (first ∷ tables) lus at are clear has = (omega arith, ap cause_of (head_is draft first tables at are clear has))

lu_head : (draft : DraftText) (tables : List LocatedFault) (lus : List PoolFault) → AreFaultsOf draft tables → AreLuFaultsOf (map lu_of draft.lus) lus → IsFaultless draft
    → (IsCount (length (map lu_of draft.lus)) → ⊥)
    → (0 < length (causes_of tables lus)) × (slice_index_or (causes_of tables lus) 0 (cause.Lus pool_fault.BadCount) ≡ cause.Lus pool_fault.BadCount)
lu_head draft (first ∷ tables) lus of_tables of_lus clean wrong = absurd (clean first.fault first.part (of_tables.stand 0 first (omega arith)))
lu_head draft [] [] of_tables of_lus clean wrong = absurd (none_in pool_fault.BadCount ((of_lus pool_fault.BadCount).1 wrong))
lu_head draft [] (fault ∷ lus) of_tables of_lus clean wrong = (omega arith, ap cause.Lus (alone (map lu_of draft.lus) fault wrong ((of_lus fault).0 (0, omega arith, refl))))

-- ---- the faults of a text, and those of its draft

module _ (text : List ℕ) (top : Members) (parsed : parse_document text ≡ Some top) (IsIn : DraftText → Cause → Type 0) where
  moved : (reported : Cause) (other : Members) (fault : Cause) → parse_document text ≡ Some other → reported ≡ in_table (draft_of other) fault → IsIn (draft_of other) fault
      → (given : Cause) × (reported ≡ in_table (draft_of top) given) × IsIn (draft_of top) given
  moved reported other fault read at is =
      let same : other ≡ top = same_Some _ _ (sym read ∙ parsed) in
      (fault, subst (λ tree. reported ≡ in_table (draft_of tree) fault) same at, subst (λ tree. IsIn (draft_of tree) fault) same is)

  of_text : (reported : Cause) → IsOfText IsIn text reported → (given : Cause) × (reported ≡ in_table (draft_of top) given) × IsIn (draft_of top) given
  of_text cause.NotToml none = absurd (let wrong = sym none ∙ parsed in cc)
  of_text (cause.Tree fault part) (other, given, read, at, is) = moved (cause.Tree fault part) other given read at is
  of_text (cause.Lus fault) (other, given, read, at, is) = moved (cause.Lus fault) other given read at is
  of_text cause.TextWraps (other, given, read, at, is) = moved cause.TextWraps other given read at is
  of_text cause.FillNotNumeric (other, given, read, at, is) = moved cause.FillNotNumeric other given read at is
  of_text cause.NoKeyLeads (other, given, read, at, is) = moved cause.NoKeyLeads other given read at is

is_toml : (draft : DraftText) (given : Cause) → cause.NotToml ≡ in_table draft given → IsFaultIn draft given → ⊥
is_toml draft cause.NotToml same none = none
is_toml draft (cause.Tree fault part) same is = absurd (let wrong = same in cc)
is_toml draft (cause.Lus fault) same is = absurd (let wrong = same in cc)
is_toml draft cause.TextWraps same none = none
is_toml draft cause.FillNotNumeric same none = none
is_toml draft cause.NoKeyLeads same none = none

to_text : (text : List ℕ) (top : Members) → parse_document text ≡ Some top → (reported given : Cause) → reported ≡ in_table (draft_of top) given → IsFaultIn (draft_of top) given → IsFaultOf text reported
to_text text top parsed cause.NotToml given at is = absurd (is_toml (draft_of top) given at is)
to_text text top parsed (cause.Tree fault part) given at is = (top, given, parsed, at, is)
to_text text top parsed (cause.Lus fault) given at is = (top, given, parsed, at, is)
to_text text top parsed cause.TextWraps given at is = (top, given, parsed, at, is)
to_text text top parsed cause.FillNotNumeric given at is = (top, given, parsed, at, is)
to_text text top parsed cause.NoKeyLeads given at is = (top, given, parsed, at, is)

none_of_draft : (draft : DraftText) → IsFaultless draft → IsRight (map lu_of draft.lus) → (given : Cause) → IsFaultIn draft given → ⊥
none_of_draft draft clean right cause.NotToml none = none
none_of_draft draft clean right (cause.Tree fault part) is = clean fault part is
none_of_draft draft clean right (cause.Lus fault) is = right fault (has_lu_fault (map lu_of draft.lus) fault is)
none_of_draft draft clean right cause.TextWraps none = none
none_of_draft draft clean right cause.FillNotNumeric none = none
none_of_draft draft clean right cause.NoKeyLeads none = none

accepted_has_none : (text : List ℕ) → IsAccepted text → (reported : Cause) → IsFaultOf text reported → ⊥
accepted_has_none text accepted reported is =
    let (given, at, faulty) = of_text text accepted.top accepted.parsed IsFaultIn reported is in
    none_of_draft (draft_of accepted.top) accepted.faultless accepted.lus_right given faulty

-- ---- the report on a tree

module _ (text : List ℕ) (top : Members) (parsed : parse_document text ≡ Some top) (causes : List Cause) (are : AreCausesOf (draft_of top) causes) (findings all : List Finding)
    (reported : AreReported (length causes) (draft_of top) causes findings) (sorts : IsPermutation findings all) where
  in_report : (fault : Cause) → HasCause fault findings → HasCause fault all
  in_report fault (finding, there, is) = (finding, Contains-permutation findings all finding sorts there, is)

  -- a fault that is listed at a place, and is reported
  reports_at : (fault : Cause) (k : ℕ) → is_fault fault ≡ true → k < length causes → slice_index_or causes k fault ≡ fault → (k ≡ 0) ⊎ IsStated (draft_of top) fault → HasCause (in_table (draft_of top) fault) all
  reports_at fault k faulty below at is =
      in_report (in_table (draft_of top) fault)
      (subst (λ c. HasCause (in_table (draft_of top) c) findings) at (reported.each k fault below (ap is_fault at ∙ faulty) (subst (λ c. (k ≡ 0) ⊎ IsStated (draft_of top) c) (sym at) is)))

  reports_in : (fault : Cause) → IsFaultIn (draft_of top) fault → IsStated (draft_of top) fault → HasCause (in_table (draft_of top) fault) all
  reports_in fault is stated = let (k, below, at) = is_listed (draft_of top) causes are fault is in reports_at fault k (is_faulty (draft_of top) fault is) below at (inr stated)

  reports_stated : (fault : Cause) → IsStatedFaultOf text fault → HasCause fault all
  reports_stated fault is =
      let (given, at, (faulty, stated)) = of_text text top parsed IsStatedFaultIn fault is in
      subst (λ c. HasCause c all) (sym at) (reports_in given faulty stated)

  backed_by : (finding : Finding) → IsFor (draft_of top) causes finding → is_fault finding.cause ≡ true → IsFaultOf text finding.cause
  backed_by finding (given, listed, at) faulty =
      to_text text top parsed finding.cause given at
      (is_fault_in (draft_of top) causes are given listed (sym (same_kind (draft_of top) given) ∙ (ap is_fault (sym at) ∙ faulty)))

  backed : All (λ (f : Finding). is_fault f.cause ≡ true → IsFaultOf text f.cause) all
  backed =
      All-permutation (λ (f : Finding). is_fault f.cause ≡ true → IsFaultOf text f.cause) findings all sorts
      (λ k d below. backed_by (slice_index_or findings k d) (reported.nothing_else k d below))

  -- the first fault
  first_table : (fault : TreeFault) (here : Location) → IsFaulty fault here (draft_of top) → IsClearTo (turn_of fault here) (draft_of top) → HasCause (in_table (draft_of top) (cause.Tree fault here)) all
  first_table fault here stands clear =
      let at : LocatedFault = record { fault = fault; part = here } in
      let (below, is) = subst (λ them. (0 < length them) × (slice_index_or them 0 (cause.Tree fault here) ≡ cause.Tree fault here)) (sym are.all)
      (table_head (draft_of top) are.tables are.lus at are.of_tables clear (are.of_tables.each fault here stands)) in
      reports_at (cause.Tree fault here) 0 refl below is (inl refl)

  first_lu : (fault : PoolFault) → IsFaultless (draft_of top) → IsLuFault (map lu_of (draft_of top).lus) fault → HasCause (cause.Lus fault) all
  first_lu pool_fault.BadCount clean wrong =
      let (below, is) = subst (λ them. (0 < length them) × (slice_index_or them 0 (cause.Lus pool_fault.BadCount) ≡ cause.Lus pool_fault.BadCount)) (sym are.all)
      (lu_head (draft_of top) are.tables are.lus are.of_tables are.of_lus clean wrong) in
      reports_at (cause.Lus pool_fault.BadCount) 0 refl below is (inl refl)
  first_lu (pool_fault.BadName place) clean is = reports_in (cause.Lus (pool_fault.BadName place)) is tt
  first_lu (pool_fault.Twice place) clean is = reports_in (cause.Lus (pool_fault.Twice place)) is tt
  first_lu pool_fault.Memory clean is = reports_in (cause.Lus pool_fault.Memory) is tt

  first_in : (fault : Cause) → IsFirstIn (draft_of top) fault → HasCause (in_table (draft_of top) fault) all
  first_in cause.NotToml none = absurd none
  first_in (cause.Tree fault here) (stands, clear) = first_table fault here stands clear
  first_in (cause.Lus fault) (clean, has, first) = first_lu fault clean (of_first (map lu_of (draft_of top).lus) fault has first)
  first_in cause.TextWraps none = absurd none
  first_in cause.FillNotNumeric none = absurd none
  first_in cause.NoKeyLeads none = absurd none

  has_first : (fault : Cause) → IsFirstCause text fault → HasCause fault all
  has_first fault is =
      let (given, at, first) = of_text text top parsed IsFirstIn fault is in
      subst (λ c. HasCause c all) (sym at) (first_in given first)

  -- a report without a fault
  nothing_in : fault_count all ≡ 0 → (given : Cause) → IsFaultIn (draft_of top) given → ⊥
  nothing_in none given is =
      let (some, faulty) = subst (λ them. (0 < length them) × (is_fault (slice_index_or them 0 given) ≡ true)) (sym are.all)
      (head_faulty are.tables are.lus given given (subst (λ them. Contains them given) are.all (is_listed (draft_of top) causes are given is)) (is_faulty (draft_of top) given is)) in
      let first = slice_index_or causes 0 given in
      some_counted all (in_table (draft_of top) first) (same_kind (draft_of top) first ∙ faulty) (in_report (in_table (draft_of top) first) (reported.each 0 given some faulty (inl refl))) none

  accepts : fault_count all ≡ 0 → IsAccepted text
  accepts none = record {
    top = top;
    parsed = parsed;
    faultless = λ fault part is. nothing_in none (cause.Tree fault part) is;
    lus_right = are_right (map lu_of (draft_of top).lus) (λ fault is. nothing_in none (cause.Lus fault) is);
  }

  pub report_is : AreInOrder all → IsReportOn text all
  report_is ordered = record {
    faults = record { each = reports_stated; nothing_else = backed };
    faultless = (accepts, λ accepted. none_counted all (λ k d below. is_clean (IsFaultOf text) (accepted_has_none text accepted) _ _ refl (backed k d below)));
    reason = has_first;
    ordered = ordered;
  }

-- ---- the report on a text that isn't TOML

module _ (text : List ℕ) (none : parse_document text ≡ None) (finding : Finding) (is : finding.cause ≡ cause.NotToml) where
  has_it : HasCause cause.NotToml (finding ∷ [])
  has_it = (finding, (0, omega arith, refl), is)

  no_tree : (top : Members) → parse_document text ≡ Some top → ⊥
  no_tree top read = absurd (let wrong = sym none ∙ read in cc)

  only_this : (IsIn : DraftText → Cause → Type 0) (fault : Cause) → IsOfText IsIn text fault → HasCause fault (finding ∷ [])
  only_this IsIn cause.NotToml same = has_it
  only_this IsIn (cause.Tree fault part) (top, given, read, at, more) = absurd (no_tree top read)
  only_this IsIn (cause.Lus fault) (top, given, read, at, more) = absurd (no_tree top read)
  only_this IsIn cause.TextWraps (top, given, read, at, more) = absurd (no_tree top read)
  only_this IsIn cause.FillNotNumeric (top, given, read, at, more) = absurd (no_tree top read)
  only_this IsIn cause.NoKeyLeads (top, given, read, at, more) = absurd (no_tree top read)

  one_in_order : AreInOrder (finding ∷ [])
  one_in_order i j d up below = let (first, same) : (i ≡ 0) × (j ≡ 0) = (omega (arith, up, below), omega (arith, below)) in rw (first, same) (omega arith)

  pub no_toml_is : IsReportOn text (finding ∷ [])
  no_toml_is = record {
    faults = record {
      each = only_this IsStatedFaultIn;
      nothing_else = All-cons (λ (f : Finding). is_fault f.cause ≡ true → IsFaultOf text f.cause) finding [] (λ faulty. subst (IsFaultOf text) (sym is) none) (λ k d below. absurd (omega arith));
    };
    faultless = (λ count. absurd (some_counted (finding ∷ []) cause.NotToml refl has_it count), λ accepted. absurd (no_tree accepted.top accepted.parsed));
    reason = only_this IsFirstIn;
    ordered = one_in_order;
  }

pub no_toml_pushed : (text : List ℕ) (before all : List Finding) (finding : Finding) → all ≡ before ++ finding ∷ [] → before ≡ [] → finding.cause ≡ cause.NotToml → parse_document text ≡ None → IsReportOn text all
no_toml_pushed text before all finding same empty is none =
    subst (IsReportOn text) (sym (same ∙ ap (λ xs. xs ++ finding ∷ []) empty)) (no_toml_is text none finding is)

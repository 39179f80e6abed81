-- What is found in the front of the bytes, and in all of them.
use Rattle.std.proofs.Common.{◌≡◌, ◌++◌, ◌≤◌, ◌<◌, ◌+◌, ◌-◌, ℕ, List, Bool, length, take, ap, true, false, true≢false, Option, Some, None, sym, subst, ◌∙◌, inl, inr, arith, length-take}
use Rattle.std.proofs.Math.Seq.{take-append-add}
use Rattle.std.proofs.lemmas.Bool.Decides.{nat_tests}
use Rattle.std.proofs.lemmas.List.{take_all, length-append}
use Rattle.application_http.specs.declared.fault.ReplyFault.{ReplyFault}
use Rattle.application_http.specs.declared.fault.ReplyFault.TheVariants as fault
use Rattle.application_http.specs.Contents.{most_bytes, IsKept, IsUnfinished}
use Rattle.application_http.specs.Readings.{HasReply, IsBadReply, IsRefused, front}
use Rattle.application_http.specs.Replies.{answer_in}
use Rattle.application_http.specs.declared.reply.Reply.{Reply}
use Rattle.std.specs.Prelude.{MatchOption, nat_lt, ⊤, if◌then◌else◌}

-- what is taken of more bytes, if what is there is no more than may be taken
pub take_more_of : (most : ℕ) (old bytes : List ℕ) → length old ≤ most → take most (old ++ bytes) ≡ old ++ take (most - length old) bytes
take_more_of most old bytes fits =
    let e : most ≡ length old + (most - length old) = omega arith in
    ap (λ (n : ℕ). take n (old ++ bytes)) e ∙ take-append-add old bytes (most - length old)

pub still_fits : (old bytes : List ℕ) → length old ≤ most_bytes → length (old ++ take (most_bytes - length old) bytes) ≤ most_bytes
still_fits old bytes fits = omega (arith, length-append old (take (most_bytes - length old) bytes), length-take (most_bytes - length old) bytes)

not_long : (closed : Bool) (bytes : List ℕ) → ¬ (IsBadReply closed bytes fault.TooLong)
not_long closed bytes (inl h) = h
not_long closed bytes (inr (content, has, inl e)) = cc
not_long closed bytes (inr (content, has, inr (inl e))) = let f = e.0 in cc
not_long closed bytes (inr (content, has, inr (inr bad))) = bad.2

not_cut : (closed : Bool) (bytes : List ℕ) → ¬ (IsBadReply closed bytes fault.CutShort)
not_cut closed bytes (inl h) = h
not_cut closed bytes (inr (content, has, inl e)) = cc
not_cut closed bytes (inr (content, has, inr (inl e))) = let f = e.0 in cc
not_cut closed bytes (inr (content, has, inr (inr bad))) = bad.2

-- a bad reply is refused for what it is
pub refused_by : (closed : Bool) (bytes : List ℕ) (why : ReplyFault) → IsBadReply closed (front bytes) why → IsRefused closed bytes why
refused_by closed bytes fault.Memory h = h
refused_by closed bytes fault.TooLong h = absurd (not_long closed (front bytes) h)
refused_by closed bytes fault.CutShort h = absurd (not_cut closed (front bytes) h)
refused_by closed bytes fault.NotHttp h = h
refused_by closed bytes fault.TooManyFields h = h
refused_by closed bytes (fault.Status code) h = h
refused_by closed bytes fault.BadLength h = h
refused_by closed bytes fault.BadChunks h = h
refused_by closed bytes fault.NotJson h = h
refused_by closed bytes (fault.Key what key) h = h

-- the same where the front is known by another name
pub refused_at : (closed : Bool) (bytes kept : List ℕ) (why : ReplyFault) → kept ≡ front bytes → IsBadReply closed kept why → IsRefused closed bytes why
refused_at closed bytes kept why e h = refused_by closed bytes why (subst (λ b. IsBadReply closed b why) e h)

pub front_all : (bytes : List ℕ) → length bytes ≤ most_bytes → bytes ≡ front bytes
front_all bytes fits = sym (take_all most_bytes bytes fits)

-- ---- what a call found

abbrev pub Finds : (closed : Bool) → (bytes : List ℕ) → Option Reply → Type 0
Finds closed bytes found = MatchOption found (IsUnfinished closed bytes) (λ reply. HasReply closed bytes (answer_in reply))

pub some_found : (closed : Bool) (bytes kept : List ℕ) (found : Option Reply) (reply : Reply) → found ≡ Some reply → kept ≡ front bytes → Finds closed kept found → HasReply closed (front bytes) (answer_in reply)
some_found closed bytes kept found reply is all h = subst (λ b. HasReply closed b (answer_in reply)) all (subst (Finds closed kept) is h)

pub some_kept : (over later : Bool) (bytes kept : List ℕ) (found : Option Reply) (reply : Reply) → found ≡ Some reply → kept ≡ front bytes → over ≡ later
    → MatchOption found ⊤ (λ reply. IsKept over kept reply.kept) → IsKept later (front bytes) reply.kept
some_kept over later bytes kept found reply is all same h =
    subst (λ o. IsKept o (front bytes) reply.kept) same
    (subst (λ b. IsKept over b reply.kept) all (subst (λ it. MatchOption it ⊤ (λ reply. IsKept over kept reply.kept)) is h))

pub none_found : (closed : Bool) (bytes kept : List ℕ) (found : Option Reply) → found ≡ None → kept ≡ front bytes → Finds closed kept found → IsUnfinished closed (front bytes)
none_found closed bytes kept found is all h = subst (IsUnfinished closed) all (subst (Finds closed kept) is h)

-- whether more bytes follow those that are taken
pub same_more : (old bytes : List ℕ) → length old ≤ most_bytes → nat_lt (most_bytes - length old) (length bytes) ≡ nat_lt most_bytes (length (old ++ bytes))
same_more old bytes fits = grind (arith, nat_tests, length-append old bytes)

pub longer : (old bytes : List ℕ) → length old ≤ most_bytes → most_bytes - length old < length bytes → most_bytes < length (old ++ bytes)
longer old bytes fits more = omega (arith, length-append old bytes)

pub same_bytes : (over : Bool) (items so_far : List ℕ) (value : Option (List ℕ)) → over ≡ false → (if over then None else Some items) ≡ value → value ≡ Some so_far → items ≡ so_far
same_bytes true items so_far value going view is = absurd (true≢false going)
same_bytes false items so_far value going view is = let e = view ∙ is in cc

use Rattle.std.proofs.Common.{◌≡◌, ◌++◌, ◌-◌, ◌<◌, ℕ, List, ap, false, length, take, sym, ◌∙◌, inr, rules}
use Rattle.std.specs.Prelude.{nat_lt}
use Rattle.application_http.specs.Contents.{most_bytes}
use Rattle.application_http.proofs.Readings.{take_more_of, same_more, some_found, some_kept, none_found, refused_at, longer, still_fits}
use Rattle.application_http.proofs.reader.advance.Goals as goal

pub returns-in-Ok-Some-clause-found : goal.returns-in-Ok-Some-clause-found
returns-in-Ok-Some-clause-found c =
    let old = c.args.so_far.now.items in
    let added : c.extend_from_slice.new.self.items ≡ old ++ take (most_bytes - length old) c.args.bytes.now = search rules in
    let kept = c.as_slice-2.ensures.value ∙ added ∙ sym (take_more_of most_bytes old c.args.bytes.now c.requires) in
    let more = ap (λ (slice : List ℕ). nat_lt (most_bytes - length slice) (length c.args.bytes.now)) c.as_slice.ensures.value in (
      some_found false (old ++ c.args.bytes.now) c.as_slice-2.result.now c.in-Ok-Some.field-0 c.in-Ok-Some.reply c.in-Ok-Some.field-0-is kept c.in-Ok-Some.ensures.found,
      some_kept _ _ (old ++ c.args.bytes.now) c.as_slice-2.result.now c.in-Ok-Some.field-0 c.in-Ok-Some.reply c.in-Ok-Some.field-0-is kept (more ∙ same_more old c.args.bytes.now c.requires) c.in-Ok-Some.ensures.kept,
    )

pub returns-in-Ok-None-clause-refused : goal.returns-in-Ok-None-clause-refused
returns-in-Ok-None-clause-refused c =
    let old = c.args.so_far.now.items in
    let added : c.extend_from_slice.new.self.items ≡ old ++ take (most_bytes - length old) c.args.bytes.now = search rules in
    let kept = c.as_slice-2.ensures.value ∙ added ∙ sym (take_more_of most_bytes old c.args.bytes.now c.requires) in
    let more : most_bytes - length old < length c.args.bytes.now = search rules in
    inr (none_found false (old ++ c.args.bytes.now) c.as_slice-2.result.now c.in-Ok-None.field-0 c.in-Ok-None.field-0-is kept c.in-Ok-None.ensures.found, longer old c.args.bytes.now c.requires more)

pub returns-in-Err-clause-refused : goal.returns-in-Err-clause-refused
returns-in-Err-clause-refused c =
    let old = c.args.so_far.now.items in
    let added : c.extend_from_slice.new.self.items ≡ old ++ take (most_bytes - length old) c.args.bytes.now = search rules in
    let kept = c.as_slice-2.ensures.value ∙ added ∙ sym (take_more_of most_bytes old c.args.bytes.now c.requires) in
    inr (refused_at false (old ++ c.args.bytes.now) c.as_slice-2.result.now c.in-Err.why kept c.in-Err.ensures.bad)

pub returns-in-Ok-Some-clause-held : goal.returns-in-Ok-Some-clause-held
returns-in-Ok-Some-clause-held c =
    let old = c.args.so_far.now.items in
    let added : c.extend_from_slice.new.self.items ≡ old ++ take (most_bytes - length old) c.args.bytes.now = search rules in
    rw added (still_fits old c.args.bytes.now c.requires)

pub returns-in-Ok-None-clause-held : goal.returns-in-Ok-None-clause-held
returns-in-Ok-None-clause-held c =
    let old = c.args.so_far.now.items in
    let added : c.extend_from_slice.new.self.items ≡ old ++ take (most_bytes - length old) c.args.bytes.now = search rules in
    rw added (still_fits old c.args.bytes.now c.requires)

pub returns-in-Ok-None-2-clause-held : goal.returns-in-Ok-None-2-clause-held
returns-in-Ok-None-2-clause-held c =
    let old = c.args.so_far.now.items in
    let added : c.extend_from_slice.new.self.items ≡ old ++ take (most_bytes - length old) c.args.bytes.now = search rules in
    rw added (still_fits old c.args.bytes.now c.requires)

pub returns-in-Err-clause-held : goal.returns-in-Err-clause-held
returns-in-Err-clause-held c =
    let old = c.args.so_far.now.items in
    let added : c.extend_from_slice.new.self.items ≡ old ++ take (most_bytes - length old) c.args.bytes.now = search rules in
    rw added (still_fits old c.args.bytes.now c.requires)

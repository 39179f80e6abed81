-- A run of the decoder over a chunked body, piece by piece.
use Rattle.std.proofs.Common.{◌≡◌, ◌≢◌, ℕ, ◌<◌, ◌≤◌, ◌-◌, List, [], ◌++◌, length, drop, refl, sym, ap, ◌∙◌, subst, Bool, true, false, take, append_assoc, arith}
use Rattle.std.proofs.lemmas.List.{append-nil, take-append-drop, length-append, length-take-le}
use Rattle.std.proofs.lemmas.Bool.{false≢true}
use Rattle.httparse.specs.Spans.{span_bytes}
use Rattle.httparse.specs.declared.spans.HeaderSpan.{HeaderSpan}
use Rattle.httparse.specs.declared.spans.Span.{Span}
use Rattle.httparse.proofs.RunLemmas.{length-slice_range}
use Rattle.http1.specs.Body.{Body, body_of, ReadsTrailers}
use Rattle.http1.specs.ChunkedDecoder.{start, run, run_result, prepend, HasNotFailed}
use Rattle.http1.specs.declared.chunked.ChunkedDecoder.{ChunkedDecoder}
use Rattle.http1.specs.Decoder.{decoder_for, Completes, with_front, Continues, Starves, Ends, HasNoBody}
use Rattle.http1.specs.declared.decode.Decoder.{Decoder}
use Rattle.http1.specs.declared.decode.Decoder.TheVariants.{Chunked, UntilClose}
use Rattle.http1.specs.declared.framing.Framing.TheVariants as framed
use Rattle.http1.proofs.ChunksLive.{body_can_end}
use Rattle.http1.proofs.OneParse.{completes_from_body, body_from_completes}
use Rattle.http1.proofs.RunLemmas.{run-nil, run_after}
use Rattle.application_http.specs.Contents.{limits, most_fields, IsCompleteBody, IsIncompleteBody, NeverChunked, BeginsContent, StoresContent}

abbrev pub first : Decoder
first = decoder_for limits framed.Chunked

-- of the bytes behind the head these are left; the machine of chunks has read those before them without a failure, and given this content
pub record HasRun (after content : List ℕ) (decoder : Decoder) (left : List ℕ) : Type 0 where
  pub taken : List ℕ
  pub chunks : ChunkedDecoder
  pub decoder_is : decoder ≡ Chunked chunks limits.max_trailers_len
  pub split : after ≡ taken ++ left
  pub ran : run (start limits.max_extensions_len) taken ≡ run_result chunks content []
  pub good : HasNotFailed chunks

-- of the bytes behind the head these are left, and the content so far is this
pub record Reached (after content : List ℕ) (decoder : Decoder) (left : List ℕ) : Type 0 where
  pub run_is : HasRun after content decoder left
  pub back : (more : List ℕ) (body : Body) (rest : List ℕ) → Completes decoder (left ++ more) body rest → Completes first (after ++ more) (with_front content body) rest
  pub forth : (more : List ℕ) (whole : Body) (rest : List ℕ) → Completes first (after ++ more) whole rest → (body : Body) × (whole ≡ with_front content body) × Completes decoder (left ++ more) body rest

pub at_start : (after : List ℕ) → Reached after [] first after
at_start after = record {
  run_is = record {
    taken = [];
    chunks = start limits.max_extensions_len;
    decoder_is = refl;
    split = refl;
    ran = run-nil (start limits.max_extensions_len);
    good = λ e h. cc;
  };
  back = λ more body rest c. c;
  forth = λ more whole rest c. (whole, refl, c);
}

pub begins : (after content : List ℕ) (decoder : Decoder) → content ≡ [] → decoder ≡ first → Reached after content decoder after
begins after content decoder nothing fresh =
    subst (λ bytes. Reached after bytes decoder after) (sym nothing) (subst (λ d. Reached after [] d after) (sym fresh) (at_start after))

fronts : (content piece : List ℕ) (body : Body) → with_front content (with_front piece body) ≡ with_front (content ++ piece) body
fronts content piece body = ap (λ bytes. body_of bytes body.trailers) (sym (append_assoc content piece body.bytes))

runs_on : {after content left : List ℕ} {old : Decoder} (new : Decoder) (len : ℕ) (piece : List ℕ) → HasRun after content old left → Continues old left new len piece → HasRun after (content ++ piece) new (drop len left)
runs_on {after} {content} {left} {old} new len piece r step =
    let next = (subst (λ d. Continues d left new len piece) r.decoder_is step).runs in
    record {
      taken = r.taken ++ take len left;
      chunks = next.0;
      decoder_is = next.1;
      split = r.split ∙ ap (λ bytes. r.taken ++ bytes) (sym (take-append-drop len left)) ∙ sym (append_assoc r.taken (take len left) (drop len left));
      ran = run_after (start limits.max_extensions_len) r.chunks r.taken content (take len left) r.ran ∙ ap (prepend content) next.2;
      good = next.3;
    }

pub goes_on : {after content : List ℕ} {old : Decoder} {left : List ℕ} (new : Decoder) (len : ℕ) (piece : List ℕ) → Reached after content old left → Continues old left new len piece → Reached after (content ++ piece) new (drop len left)
goes_on {after} {content} {old} {left} new len piece r step = record {
  run_is = runs_on new len piece r.run_is step;
  back = λ more body rest c. subst (λ b. Completes first (after ++ more) b rest) (fronts content piece body) (r.back more (with_front piece body) rest (step.back more body rest c));
  forth = λ more whole rest c.
      let one = r.forth more whole rest c in
      let two = step.forth more one.0 rest one.2 in
      (two.0, one.1 ∙ ap (with_front content) two.1 ∙ fronts content piece two.0, two.2);
}

pub steps : {after content left : List ℕ} {old new : Decoder} (items rest piece : List ℕ) (len : ℕ) → Reached after content old left → Continues old left new len piece → items ≡ content ++ piece → rest ≡ drop len left → Reached after items new rest
steps {after} {content} {left} {old} {new} items rest piece len r step more behind =
    subst (λ bytes. Reached after bytes new rest) (sym more) (subst (λ bytes. Reached after (content ++ piece) new bytes) (sym behind) (goes_on new len piece r step))

pub ends : {after content : List ℕ} {decoder : Decoder} {left : List ℕ} (spans : List HeaderSpan) (len count : ℕ) → Reached after content decoder left → Ends decoder left spans len count → IsCompleteBody true framed.Chunked after content
ends {after} {content} {decoder} {left} spans len count r e =
    let done = r.back [] (body_of [] e.trailers) _ (e.completes []) in
    let same = subst (λ bytes. Completes first bytes (body_of (content ++ []) e.trailers) (drop len left ++ [])) (append-nil after) done in
    let whole = subst (λ bytes. Completes first after (body_of bytes e.trailers) (drop len left ++ [])) (append-nil content) same in
    (e.trailers, drop len left ++ [], body_from_completes limits framed.Chunked after _ _ whole)

not_until_close : (decoder : Decoder) (chunks : ChunkedDecoder) (max_len : ℕ) → decoder ≡ Chunked chunks max_len → decoder ≢ UntilClose
not_until_close decoder chunks max_len e = λ f. cc

pub starves : {after content : List ℕ} {decoder : Decoder} {left : List ℕ} (new : Decoder) (len : ℕ) → Reached after content decoder left → Starves decoder left new len → IsIncompleteBody true framed.Chunked after
starves {after} {content} {decoder} {left} new len r s = λ found whole.
    let complete = completes_from_body limits framed.Chunked after _ _ whole.2 in
    let again = r.forth [] _ _ (subst (λ bytes. Completes first bytes (body_of found whole.0) whole.1) (sym (append-nil after)) complete) in
    s.unfinished (not_until_close decoder r.run_is.chunks limits.max_trailers_len r.run_is.decoder_is) again.0 whole.1 (subst (λ bytes. Completes decoder bytes again.0 whole.1) (append-nil left) again.2)

pub fails : {after content : List ℕ} {decoder : Decoder} {left : List ℕ} → Reached after content decoder left → HasNoBody decoder left most_fields → NeverChunked after
fails {after} {content} {decoder} {left} r none = λ more body rest reads.
    let again = r.forth more body rest (completes_from_body limits framed.Chunked (after ++ more) body rest reads) in
    subst (λ trailers. most_fields < length trailers) (sym (ap (λ b. b.trailers) again.1)) (none more again.0 rest again.2)

-- ---- what must be stored

-- a run that goes on ends as a whole body does
completes_on : (chunks : ChunkedDecoder) (taken content more : List ℕ) (body : Body) (rest : List ℕ) → run (start limits.max_extensions_len) taken ≡ run_result chunks content []
    → Completes (Chunked chunks limits.max_trailers_len) more body rest → Completes first (taken ++ more) (with_front content body) rest
completes_on chunks taken content more body rest ran c =
    let whole = run_after (start limits.max_extensions_len) chunks taken content more ran in (
      ap (λ r. r.ends.state) whole ∙ c.0,
      ap (λ bytes. content ++ bytes) c.1 ∙ sym (ap (λ r. r.body) whole),
      subst (λ r. ReadsTrailers limits.max_trailers_len r.rest body.trailers rest) (sym whole) c.2,
    )

front_of : (chunks : ChunkedDecoder) (taken content more : List ℕ) (body : Body) (rest : List ℕ) → run (start limits.max_extensions_len) taken ≡ run_result chunks content []
    → Completes first (taken ++ more) body rest → (later : List ℕ) × (body.bytes ≡ content ++ later)
front_of chunks taken content more body rest ran c =
    let whole = run_after (start limits.max_extensions_len) chunks taken content more ran in
    ((run chunks more).body, c.1 ∙ ap (λ r. r.body) whole)

-- what was read so far may go on as a whole body, whose content begins with that so far
begins_content : {after content left : List ℕ} {decoder : Decoder} → HasRun after content decoder left → (taken : List ℕ) × (after ≡ taken ++ left) × BeginsContent taken content
begins_content {after} {content} {left} {decoder} r =
    let end = body_can_end r.chunks limits.max_trailers_len r.good (omega arith) in (
      r.taken,
      r.split,
      record {
        begins = (end.0, with_front content end.1, [], body_from_completes limits framed.Chunked _ _ [] (completes_on r.chunks r.taken content end.0 end.1 [] r.ran end.2));
        front_is = λ more body rest reads. front_of r.chunks r.taken content more body rest r.ran (completes_from_body limits framed.Chunked (r.taken ++ more) body rest reads);
      },
    )

pub span_some : (bytes : List ℕ) (s : Span) → s.start < s.end → s.end ≤ length bytes → 0 < length (span_bytes bytes s)
span_some bytes s ordered within = let n : length (span_bytes bytes s) ≡ s.end - s.start = length-slice_range bytes s.start s.end (omega (arith, ordered)) within in omega (arith, n)

pub longer_by : (content piece : List ℕ) → 0 < length piece → 0 < length (content ++ piece)
longer_by content piece some = omega (arith, length-append content piece)

-- a piece that must be stored is a byte of content
pub holds : {after content left : List ℕ} {old new : Decoder} (len : ℕ) (piece : List ℕ) → Reached after content old left → Continues old left new len piece → 0 < length (content ++ piece) → StoresContent true framed.Chunked after
holds {after} {content} {left} {old} {new} len piece r step some =
    let front = begins_content (goes_on new len piece r step).run_is in
    (front.0, drop len left, content ++ piece, front.1, some, front.2)

-- ---- other bodies

pub sized_whole : (len : ℕ) (after content : List ℕ) → len ≤ length after → content ≡ take len after → IsCompleteBody true (framed.Length len) after content
sized_whole len after content enough front =
    ([], drop len after, (ap length front ∙ length-take-le len after enough, sym (take-append-drop len after) ∙ ap (λ bytes. bytes ++ drop len after) (sym front), refl))

pub closed_whole : (closed : Bool) (after content : List ℕ) → closed ≡ true → content ≡ after → IsCompleteBody closed framed.UntilClose after content
closed_whole closed after content ended all = ([], [], (ended, (all, refl, refl)))

pub open_lacks : (closed : Bool) (after : List ℕ) → closed ≡ false → IsIncompleteBody closed framed.UntilClose after
open_lacks closed after goes_on = λ content whole. false≢true (sym goes_on ∙ whole.2.0)

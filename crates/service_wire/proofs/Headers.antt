-- Complete headers, from what follows their marks.
use Rattle.std.proofs.Common.{◌≡◌, ℕ, ◌+◌, ◌*◌, ◌<◌, ◌≤◌, Bool, true, false, ◌==◌, List, [], ◌∷◌, ◌++◌, length, take, drop, Option, Some, None, Result, Ok, Err, IfOk, IfSome, option_map, refl, sym, ap, ◌∙◌, subst, arith, inl, inr, append_assoc, length-append, take-append-drop}
use Rattle.std.proofs.lemmas.Bool.{and_parts, eqb-true}
use Rattle.std.proofs.lemmas.List.{length-take, length-take-le, take_all}
use Rattle.std.specs.declared.net.socket_addr.SocketAddr.{SocketAddr}
use Rattle.service_wire.proofs.HeaderLines.{not_here, here, line_in-nil}
use Rattle.service_wire.specs.HeaderLine.{line_mark, longest_line, crlf, begins_with_crlf, line_in, IsLine, IsOpenLine, IsWholeLine}
use Rattle.service_wire.specs.HeaderBlock.{signature, contents_at, CanHaveLength, IsBlock, IsWholeBlock, Completes}
use Rattle.service_wire.specs.Header.{HasHeader}
use Rattle.service_wire.specs.declared.header_block.Contents.{Contents}
use Rattle.service_wire.specs.declared.header_fault.HeaderFault.{HeaderFault}
use Rattle.service_wire.specs.declared.header.Header.{Header}

-- a line, CRLF and the rest
record Cut (bytes line : List ℕ) : Type 0 where
  rest : List ℕ
  split : bytes ≡ line ++ (13 ∷ 10 ∷ rest)
  alone : line_in (line ++ 13 ∷ 10 ∷ []) ≡ Some line

pub crlf_front : (byte : ℕ) (rest : List ℕ) → begins_with_crlf (byte ∷ rest) ≡ true → (byte ≡ 13) × ((more : List ℕ) × (rest ≡ 10 ∷ more))
crlf_front byte [] is = let no : 0 ≡ 10 = eqb-true 0 10 (and_parts (byte == 13) (0 == 10) is).1 in absurd (omega (arith, no))
crlf_front byte (next ∷ more) is = (eqb-true _ _ (and_parts _ _ is).0, (more, ap (λ b. b ∷ more) (eqb-true _ _ (and_parts _ _ is).1)))

same_line : (line other : List ℕ) → Some line ≡ Some other → line ≡ other
same_line line other e = cc

cut_here : (byte : ℕ) (rest line : List ℕ) → begins_with_crlf (byte ∷ rest) ≡ true → line_in (byte ∷ rest) ≡ Some line → Cut (byte ∷ rest) line
cut_here byte rest line is found =
    let (first, (more, next)) = crlf_front byte rest is in
    let empty : [] ≡ line = same_line [] line (sym (here (byte ∷ rest) is) ∙ found) in
    subst (λ (l : List ℕ). Cut (byte ∷ rest) l) empty (record { rest = more; split = ap (λ (b : ℕ). b ∷ rest) first ∙ ap (λ (r : List ℕ). 13 ∷ r) next; alone = here (13 ∷ 10 ∷ []) refl })

pub some_line : (byte : ℕ) (o : Option (List ℕ)) (line : List ℕ) → option_map (λ l. byte ∷ l) o ≡ Some line → (inner : List ℕ) × (o ≡ Some inner) × (line ≡ byte ∷ inner)
some_line byte None line e = absurd cc
some_line byte (Some inner) line e = (inner, refl, cc)

-- whether CRLF begins depends on one byte more
same_begin : (byte : ℕ) (line rest : List ℕ) → begins_with_crlf (byte ∷ (line ++ (13 ∷ 10 ∷ rest))) ≡ begins_with_crlf (byte ∷ (line ++ (13 ∷ 10 ∷ [])))
same_begin byte [] rest = refl
same_begin byte (next ∷ line) rest = refl

cut_later : (byte : ℕ) (rest line inner : List ℕ) → begins_with_crlf (byte ∷ rest) ≡ false → line ≡ byte ∷ inner → Cut rest inner → Cut (byte ∷ rest) line
cut_later byte rest line inner other is cut =
    let later = rw (cut.split, same_begin byte inner cut.rest) at other in
    let alone : line_in (byte ∷ (inner ++ 13 ∷ 10 ∷ [])) ≡ Some (byte ∷ inner) =
    not_here byte (inner ++ 13 ∷ 10 ∷ []) later ∙ ap (option_map (λ line. byte ∷ line)) cut.alone in
    rw is (record { rest = cut.rest; split = ap (λ l. byte ∷ l) cut.split; alone = alone })

cut_case : (byte : ℕ) (rest line : List ℕ) → line_in (byte ∷ rest) ≡ Some line → ((inner : List ℕ) → line_in rest ≡ Some inner → Cut rest inner) → (b : Bool) → begins_with_crlf (byte ∷ rest) ≡ b → Cut (byte ∷ rest) line
cut_case byte rest line found later true is = cut_here byte rest line is found
cut_case byte rest line found later false is =
    let (inner, e, are) = some_line byte (line_in rest) line (sym (not_here byte rest is) ∙ found) in
    cut_later byte rest line inner is are (later inner e)

cut_at_line : (bytes line : List ℕ) → line_in bytes ≡ Some line → Cut bytes line
cut_at_line [] line found = absurd (let none = line_in-nil in cc)
cut_at_line (byte ∷ rest) line found =
    cut_case byte rest line found (λ inner e. cut_at_line rest inner e) (begins_with_crlf (byte ∷ rest)) refl

pub line_awaited : (bytes : List ℕ) → line_in (take longest_line bytes) ≡ None → length bytes < longest_line → IsOpenLine bytes
line_awaited bytes none short = record {
  open_line = sym (ap line_in (take_all longest_line bytes (omega arith))) ∙ none;
  short = short;
}

pub line_found : (bytes line : List ℕ) (size : ℕ) (client : Option SocketAddr) → line_in (take longest_line bytes) ≡ Some line → IsLine line client → size ≡ 6 + length line + 2 → HasHeader (line_mark ++ bytes) (record { size = size; client = client })
line_found bytes line size client found says counted =
    let cut = cut_at_line (take longest_line bytes) line found in
    let room : length line + 2 ≤ longest_line = omega (arith, ap length cut.split, length-append line (13 ∷ 10 ∷ cut.rest), length-take longest_line bytes) in
    let whole : IsWholeLine (line ++ crlf) client = record {
      line = line;
      spelled = refl;
      first = cut.alone;
      short = omega (arith, length-append line crlf);
      says = says;
    } in
    let apart : bytes ≡ (line ++ crlf) ++ (cut.rest ++ drop longest_line bytes) =
    sym (take-append-drop longest_line bytes) ∙ ap (λ front. front ++ drop longest_line bytes) cut.split ∙ simp append_assoc in
    record {
      front = line_mark ++ (line ++ crlf);
      rest = cut.rest ++ drop longest_line bytes;
      split = ap (λ rest. line_mark ++ rest) apart;
      counted = omega (arith, length-append line crlf);
      is_whole = inl (line ++ crlf, refl, whole);
    }

block_found : (version family high low : ℕ) (rest : List ℕ) (contents : Contents) (size : ℕ) (client : Option SocketAddr) → contents_at version family ≡ Ok contents → CanHaveLength contents (high * 256 + low) → high * 256 + low ≤ length rest → IsBlock contents (take (high * 256 + low) rest) client → size ≡ 16 + (high * 256 + low) → HasHeader (signature ++ version ∷ family ∷ high ∷ low ∷ rest) (record { size = size; client = client })
block_found version family high low rest contents size client are fits enough says counted =
    let count = high * 256 + low in
    let block = take count rest in
    let whole : IsWholeBlock (version ∷ family ∷ high ∷ low ∷ block) client = record {
      version = version;
      family = family;
      high = high;
      low = low;
      block = block;
      contents = contents;
      spelled = refl;
      contents_are = are;
      counted = length-take-le count rest enough;
      fits = fits;
      says = says;
    } in
    record {
      front = signature ++ version ∷ family ∷ high ∷ low ∷ block;
      rest = drop count rest;
      split = ap (λ r. signature ++ version ∷ family ∷ high ∷ low ∷ r) (sym (take-append-drop count rest));
      counted = omega (arith, length-take-le count rest enough);
      is_whole = inr (version ∷ family ∷ high ∷ low ∷ block, refl, whole);
    }

block_completed : (bytes : List ℕ) (header : Header) → Completes bytes header → HasHeader (signature ++ bytes) header
block_completed [] header is = absurd is
block_completed (version ∷ []) header is = absurd is
block_completed (version ∷ family ∷ []) header is = absurd is
block_completed (version ∷ family ∷ high ∷ []) header is = absurd is
block_completed (version ∷ family ∷ high ∷ low ∷ rest) header is =
    block_found version family high low rest is.0 header.size header.client is.1 is.2 is.3 is.4 is.5

block_read : (bytes : List ℕ) (result : Result (Option Header) HeaderFault) → IfOk result (λ found. IfSome found (Completes bytes)) → IfOk result (λ found. IfSome found (HasHeader (signature ++ bytes)))
block_read bytes (Ok None) is = is
block_read bytes (Ok (Some header)) is = block_completed bytes header is
block_read bytes (Err why) is = is

pub block_behind : (bytes rest : List ℕ) (result : Result (Option Header) HeaderFault) → bytes ≡ signature ++ rest → IfOk result (λ found. IfSome found (Completes rest)) → IfOk result (λ found. IfSome found (HasHeader bytes))
block_behind bytes rest result split is = rw split (block_read rest result is)

-- One read more.
use Rattle.std.proofs.Common.{◌≡◌, ◌<◌, ◌+◌, ℕ, suc, List, [], ◌++◌, Result, Ok, Err, IfOk, OnErr, sym, subst, arith}
use Rattle.std.proofs.lemmas.List.{append-nil}
use Rattle.jobs.specs.Counting.{Reads, chunk_size}
use Rattle.jobs.specs.Runs.{InPieces, most_reads}
use Rattle.jobs.specs.declared.streams.Answer.{Answer}

module _ {I : Type 0} (gave : I → ℕ → List ℕ → Answer → I → Type 0) where
  pub reads_on : (room count : ℕ) (first old new : I) (front back all : List ℕ) (answer : Answer) → Reads gave room count first front old
      → gave old room back answer new → all ≡ front ++ back → Reads gave room (count + 1) first all new
  reads_on room count first old new front back all answer before now is =
      let next : suc count ≡ count + 1 = omega arith in
      subst (λ n. Reads gave room n first all new) next (old, front, back, answer, before, now, is)

  -- a read that gave no bytes
  pub reads_nothing : (room count : ℕ) (first old new : I) (front : List ℕ) (answer : Answer) → Reads gave room count first front old
      → gave old room [] answer new → Reads gave room (count + 1) first front new
  reads_nothing room count first old new front answer before now = reads_on room count first old new front [] front answer before now (sym (append-nil front))

  pub in_pieces : (count : ℕ) (first old new : I) (front back all : List ℕ) (answer : Answer) → count < most_reads → Reads gave chunk_size count first front old
      → gave old chunk_size back answer new → all ≡ front ++ back → InPieces gave first new all
  in_pieces count first old new front back all answer few before now is = record {
    count = count + 1;
    few = omega arith;
    reads = reads_on chunk_size count first old new front back all answer before now is;
  }

  -- the pieces of an input that is a text, or is no text
  pub text_in_pieces : {T E : Type 0} (bytes_of : T → List ℕ) (text : Result T E) (old new : I) (bytes : List ℕ) → IfOk text (λ it. bytes_of it ≡ bytes)
      → InPieces gave old new bytes → IfOk text (λ it. InPieces gave old new (bytes_of it))
  text_in_pieces bytes_of (Ok it) old new bytes is pieces = subst (InPieces gave old new) (sym is) pieces
  text_in_pieces bytes_of (Err fault) old new bytes is pieces = tt

  pub refused_in_pieces : {T E : Type 0} (text : Result T E) (old new : I) (bytes : List ℕ) → InPieces gave old new bytes
      → OnErr text ((some : List ℕ) × InPieces gave old new some)
  refused_in_pieces (Ok it) old new bytes pieces = tt
  refused_in_pieces (Err fault) old new bytes pieces = (bytes, pieces)

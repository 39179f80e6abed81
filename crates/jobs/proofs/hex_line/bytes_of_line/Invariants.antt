use Rattle.std.proofs.Common.{◌≡◌, Some}
use Rattle.std.specs.Str.Iter.{split_pattern}
use Rattle.jobs.specs.HexLines.{joined, bytes_of_words, bytes_of_line}
use Rattle.jobs.proofs.Pieces.{words_left}
use Rattle.jobs.proofs.hex_line.bytes_of_line.Given as goal

abbrev pub invariant-loop-word : goal.invariant-loop-word
invariant-loop-word l = record {
  can_next : (goal.iterator-loop-word).can_next l.word-iterator;
  is_finite : (goal.iterator-loop-word).is_finite l.word-iterator;
  pattern : split_pattern l.word-iterator ≡ 32;
  so_far : bytes_of_line l.line ≡ joined (Some l.bytes.items) (bytes_of_words (words_left l.word-iterator));
}

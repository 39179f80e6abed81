use Rattle.std.proofs.Common.{◌≡◌, ◌+◌, ◌++◌, ℕ, List, Option, string_bytes}
use Rattle.std.specs.Iterator.Adapters.{enumerate_source, enumerate_count}
use Rattle.std.specs.Str.Iter.{split_terminator_pattern}
use Rattle.scripts.specs.Pages.{Prints, IsPage}
use Rattle.jobs.proofs.Pieces.{lines_left}
use Rattle.scripts.proofs.page.page_of.Given as goal

abbrev pub invariant-loop-index : goal.invariant-loop-index
invariant-loop-index l = record {
  can_next : (goal.iterator-loop-index).can_next l.index-iterator;
  is_finite : (goal.iterator-loop-index).is_finite l.index-iterator;
  pattern : split_terminator_pattern (enumerate_source l.index-iterator) ≡ 10;
  so_far : (printed : List ℕ) (not_hex : Option ℕ)
      → Prints (enumerate_count l.index-iterator + 1) (lines_left (enumerate_source l.index-iterator)) l.screen printed not_hex
      → IsPage l.fn.model l.input (string_bytes l.text ++ printed) not_hex;
}

use Rattle.std.proofs.Common.{◌≡◌, ◌≤◌, ◌<◌, ℕ, true, length, get_or}
use Rattle.datastream.specs.InboundReading.{PassesText}
use Rattle.datastream.specs.InboundText.{is_text_char}
use Rattle.datastream.proofs.characters.behind_words.Given as goal

abbrev pub invariant-loop-count : goal.invariant-loop-count
invariant-loop-count l = record {
  so_far : PassesText l.fn.text l.rest;
  bound : l.count ≤ length l.rest;
  text : (place : ℕ) → place < l.count → is_text_char (get_or l.rest place 0) ≡ true;
}

abbrev pub decreases-loop-count : goal.decreases-loop-count
decreases-loop-count l = length l.rest

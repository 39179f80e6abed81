use Rattle.std.proofs.Common.{rules, ◌≡◌, ◌<◌, ◌+◌, ◌-◌, ◌^◌, ◌∙◌, ◌++◌, [], ap, refl, subst, sym, string_bytes, ℕ, List, min, length, take, arith}
use Rattle.std.proofs.KnownBytes.{Consumes-kept, Consumes-trans}
use Rattle.std.specs.Io.KnownBytes.{Consumes}
use Rattle.jobs.specs.Counting.{Reads, chunk_size, more}
use Rattle.jobs.specs.Runs.{read_failed}
use Rattle.jobs.proofs.InputEnds.{accepted, reads_more, refused, too_many}
use Rattle.jobs.proofs.ReadsOn.{in_pieces, reads_nothing, reads_on, refused_in_pieces, text_in_pieces}
use Rattle.std.proofs.lemmas.List.{append-nil}
use Rattle.jobs.specs.declared.streams.Answer.TheVariants.{Gave, Ended, Interrupted, Failed}
use Rattle.jobs.proofs.input.read_whole.Goals.{in-Gave+else-saturating_add-gt-MOST_BYTES+else-is_err, in-Interrupted}
use Rattle.jobs.proofs.input.read_whole.Goals as goal

pub returns-in-Ended-clause-fault : goal.returns-in-Ended-clause-fault
returns-in-Ended-clause-fault g c =
    let before = c.loop.invariant in
    let counts = c.in-Ended.ensures.counts in
    refused c.text_of.result (g.I.Source.seen c.args.input.now) (g.I.Source.seen c.read_chunk.new.source) c.loop.bytes.items
    (record {
      consumed = Consumes-kept (g.I.Source.seen c.args.input.now).left (g.I.Source.seen c.loop.input).left (g.I.Source.seen c.read_chunk.new.source).left c.loop.bytes.items
          before.consumed c.in-Ended.ensures.bytes.0;
      at_end = c.in-Ended.ensures.bytes.1;
      ended = rw (← before.ends) counts.ends;
      sound = counts.failures ∙ before.failures;
    })
    c.text_of.ensures.fault c.text_of.ensures.no_text

long : (had count all sum : ℕ) → all ≡ had → sum ≡ min (all + count) (2 ^ 64 - 1) → 1048576 < sum → 1048576 < had + count
long had count all sum is sums more = omega arith

pub returns-then-saturating_add-gt-MOST_BYTES-clause-fault : goal.returns-then-saturating_add-gt-MOST_BYTES-clause-fault
returns-then-saturating_add-gt-MOST_BYTES-clause-fault g c =
    too_many (g.I.Source.seen c.args.input.now) (g.I.Source.seen c.loop.input) (g.I.Source.seen c.read_chunk.new.source) c.loop.bytes.items c.read_chunk.new.chunk c.in-Gave.count
    c.loop.invariant.consumed c.in-Gave.ensures.bytes c.in-Gave.ensures.within.1
    (long (length c.loop.bytes.items) c.in-Gave.count c.len.result c.saturating_add.result (c.len.ensures ∙ search rules) c.saturating_add.ensures c.if-saturating_add-gt-MOST_BYTES.true)

pub returns-in-Failed-clause-fault : goal.returns-in-Failed-clause-fault
returns-in-Failed-clause-fault g c = read_failed (c.in-Failed.ensures.counts.failures ∙ ap (λ (n : ℕ). more n 1) c.loop.invariant.failures)

pub loop-preserved : goal.loop-preserved
loop-preserved g c =
    let before = c.loop.invariant in
    let first = g.I.Source.seen c.args.input.now in
    let new = g.I.Source.seen c.read_chunk.new.source in
    elim c.match-read_chunk.branch [
      | in-Gave+else-saturating_add-gt-MOST_BYTES+else-is_err w ↦
          let came = take w.in-Gave.count c.read_chunk.new.chunk in
          let items : c.match-read_chunk.bytes.items ≡ c.loop.bytes.items ++ came = search rules in
          record {
            consumed = subst (λ (bytes : List ℕ). Consumes first.left new.left bytes) (sym items)
                (Consumes-trans first.left (g.I.Source.seen c.loop.input).left new.left c.loop.bytes.items came before.consumed w.in-Gave.ensures.bytes);
            within = search rules;
            pieces = reads_on g.I.Source.gave chunk_size c.loop.counter c.args.input.now c.loop.input c.read_chunk.new.source c.loop.bytes.items came _ (Gave w.in-Gave.count)
                before.pieces w.in-Gave.ensures.gave items;
            not_read = λ none. absurd (omega arith);
            read = λ some. reads_more _ _ _ c.loop.counter before.not_read before.read c.read_chunk.ensures.counts.reads;
            ends = w.in-Gave.ensures.counts.ends ∙ before.ends;
            failures = w.in-Gave.ensures.counts.failures ∙ before.failures;
          }
      | in-Interrupted w ↦ let items : c.match-read_chunk.bytes.items ≡ c.loop.bytes.items = search rules in record {
        consumed = search rules;
        within = search rules;
        pieces = subst (λ (all : List ℕ). Reads g.I.Source.gave chunk_size (c.loop.counter + 1) c.args.input.now all c.read_chunk.new.source) (sym items)
            (reads_nothing g.I.Source.gave chunk_size c.loop.counter c.args.input.now c.loop.input c.read_chunk.new.source c.loop.bytes.items Interrupted
            before.pieces w.in-Interrupted.ensures.gave);
        not_read = λ none. absurd (omega arith);
        read = λ some. reads_more _ _ _ c.loop.counter before.not_read before.read c.read_chunk.ensures.counts.reads;
        ends = w.in-Interrupted.ensures.counts.ends ∙ before.ends;
        failures = w.in-Interrupted.ensures.counts.failures ∙ before.failures;
      }
    ]

pub returns-in-Ended-clause-pieces : goal.returns-in-Ended-clause-pieces
returns-in-Ended-clause-pieces g c =
    text_in_pieces g.I.Source.gave string_bytes c.text_of.result c.args.input.now c.read_chunk.new.source c.loop.bytes.items c.text_of.ensures.text
    (in_pieces g.I.Source.gave c.loop.counter c.args.input.now c.loop.input c.read_chunk.new.source c.loop.bytes.items [] c.loop.bytes.items Ended c.loop-test.true
    c.loop.invariant.pieces c.in-Ended.ensures.gave (sym (append-nil c.loop.bytes.items)))

pub returns-in-Ended-clause-refused_in_pieces : goal.returns-in-Ended-clause-refused_in_pieces
returns-in-Ended-clause-refused_in_pieces g c =
    refused_in_pieces g.I.Source.gave c.text_of.result c.args.input.now c.read_chunk.new.source c.loop.bytes.items
    (in_pieces g.I.Source.gave c.loop.counter c.args.input.now c.loop.input c.read_chunk.new.source c.loop.bytes.items [] c.loop.bytes.items Ended c.loop-test.true
    c.loop.invariant.pieces c.in-Ended.ensures.gave (sym (append-nil c.loop.bytes.items)))

pub returns-then-saturating_add-gt-MOST_BYTES-clause-refused_in_pieces : goal.returns-then-saturating_add-gt-MOST_BYTES-clause-refused_in_pieces
returns-then-saturating_add-gt-MOST_BYTES-clause-refused_in_pieces g c =
    let came = take c.in-Gave.count c.read_chunk.new.chunk in (
      c.loop.bytes.items ++ came,
      in_pieces g.I.Source.gave c.loop.counter c.args.input.now c.loop.input c.read_chunk.new.source c.loop.bytes.items came _ (Gave c.in-Gave.count) c.loop-test.true
          c.loop.invariant.pieces c.in-Gave.ensures.gave refl,
    )

pub returns-in-Failed-clause-refused_in_pieces : goal.returns-in-Failed-clause-refused_in_pieces
returns-in-Failed-clause-refused_in_pieces g c = (
  c.loop.bytes.items,
  in_pieces g.I.Source.gave c.loop.counter c.args.input.now c.loop.input c.read_chunk.new.source c.loop.bytes.items [] c.loop.bytes.items Failed c.loop-test.true
      c.loop.invariant.pieces c.in-Failed.ensures.gave (sym (append-nil c.loop.bytes.items)),
)

pub returns-in-Ended-clause-whole : goal.returns-in-Ended-clause-whole
returns-in-Ended-clause-whole g c =
    let before = c.loop.invariant in
    let counts = c.in-Ended.ensures.counts in
    accepted string_bytes c.text_of.result (g.I.Source.seen c.args.input.now) (g.I.Source.seen c.read_chunk.new.source) c.loop.bytes.items
    (record {
      consumed = Consumes-kept (g.I.Source.seen c.args.input.now).left (g.I.Source.seen c.loop.input).left (g.I.Source.seen c.read_chunk.new.source).left c.loop.bytes.items
          before.consumed c.in-Ended.ensures.bytes.0;
      at_end = c.in-Ended.ensures.bytes.1;
      ended = rw (← before.ends) counts.ends;
      sound = counts.failures ∙ before.failures;
    })
    before.within c.text_of.ensures.text c.text_of.ensures.utf8

pub returns-then-is_err-clause-refused_in_pieces : goal.returns-then-is_err-clause-refused_in_pieces
returns-then-is_err-clause-refused_in_pieces g c =
    let came = take c.in-Gave.count c.read_chunk.new.chunk in (
      c.loop.bytes.items ++ came,
      in_pieces g.I.Source.gave c.loop.counter c.args.input.now c.loop.input c.read_chunk.new.source c.loop.bytes.items came _ (Gave c.in-Gave.count) c.loop-test.true
          c.loop.invariant.pieces c.in-Gave.ensures.gave refl,
    )

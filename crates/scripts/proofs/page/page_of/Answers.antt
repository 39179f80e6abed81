use Rattle.std.proofs.Common.{◌∙◌, ◌+◌, ap, ℕ, string_bytes, Some, None}
use Rattle.std.specs.Iterator.Adapters.{enumerate_source, enumerate_count}
use Rattle.jobs.proofs.Pieces.{lines_left, lines_left_some, lines_left_none}
use Rattle.scripts.proofs.Commands.{is_no_line, line_more, ends}
use Rattle.scripts.proofs.OnePage.{one_page}
use Rattle.scripts.proofs.page.page_of.Goals as goal

pub returns-in_default-clause-found : goal.returns-in_default-clause-found
returns-in_default-clause-found c =
    let before = c.loop-index.invariant in
    let step = c.in-Some.ensures.steps in
    let it = enumerate_source c.loop-index.index-iterator in
    let next = enumerate_source c.next.new.self in
    let is = lines_left_some it next before.pattern c.in-Some.line step.0 in
    rw step.1 (is_no_line c.args.model c.args.input.now (string_bytes c.loop-index.text) (enumerate_count c.loop-index.index-iterator + 1) (lines_left it) c.loop-index.screen before.so_far
    c.in-Some.line.now (lines_left next) is (rw c.in_default.is at c.in_ok-bytes.ensures))

pub loop-index-preserved : goal.loop-index-preserved
loop-index-preserved c =
    let before = c.loop-index.invariant in
    let step = c.in-Some.ensures.steps in
    let it = enumerate_source c.loop-index.index-iterator in
    let next = enumerate_source c.next.new.self in
    let is = lines_left_some it next before.pattern c.in-Some.line step.0 in
    let taken = c.in_ok-take_command.ensures in
    record {
      can_next = c.in-Some.ensures.goes.keeps;
      is_finite = tt;
      pattern = step.0.1 ∙ before.pattern;
      so_far = line_more c.args.model c.args.input.now (string_bytes c.loop-index.text) (enumerate_count c.loop-index.index-iterator + 1) (lines_left it) c.loop-index.screen before.so_far
          c.in-Some.line.now c.in-Some-2.bytes.items taken.0 (string_bytes c.take_command.new.text) (lines_left next) c.take_command.new.screen (enumerate_count c.next.new.self + 1)
          is (rw c.in-Some-2.is at c.in_ok-bytes.ensures) (rw c.as_slice.ensures.value at taken.1) taken.2 (ap (λ (n : ℕ). n + 1) step.2);
    }

pub returns-in_default-clause-only : goal.returns-in_default-clause-only
returns-in_default-clause-only c = λ printed not_hex page.
    one_page c.args.model c.args.input.now (string_bytes c.loop-index.text) printed (Some (c.in-Some.index + 1)) not_hex (returns-in_default-clause-found c) page

pub returns-clause-found : goal.returns-clause-found
returns-clause-found c =
    let before = c.loop-index.invariant in
    let it = enumerate_source c.loop-index.index-iterator in
    let none = lines_left_none it (enumerate_source c.next.new.self) before.pattern c.in-None.ensures.steps.0 in
    ends c.args.model c.args.input.now (string_bytes c.loop-index.text) (enumerate_count c.loop-index.index-iterator + 1) (lines_left it) c.loop-index.screen before.so_far
    (string_bytes c.put_screen.new.text) none c.in_ok-put_screen.ensures

pub returns-clause-only : goal.returns-clause-only
returns-clause-only c = λ printed not_hex page.
    one_page c.args.model c.args.input.now (string_bytes c.put_screen.new.text) printed None not_hex (returns-clause-found c) page

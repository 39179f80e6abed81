use Rattle.std.proofs.Common.{rules, ◌≡◌, ◌∙◌, ◌+◌, ap, sym, ℕ, string_bytes}
use Rattle.std.specs.Iterator.Adapters.{enumerate_source, enumerate_count}
use Rattle.jobs.specs.HexLines.{lines_of}
use Rattle.jobs.proofs.Pieces.{lines_left, lines_left_some, lines_left_none}
use Rattle.scripts.proofs.Playing.{all_played, is_no_command, is_not_understood, nothing_played, played_more}
use Rattle.scripts.proofs.player.play.Goals as goal

pub loop-index-init : goal.loop-index-init
loop-index-init c =
    let it = c.into_iter-index-iterator.result in
    let first : enumerate_count it + 1 ≡ 1 = search rules in
    let whole : lines_left (enumerate_source it) ≡ lines_of c.args.script.now = search rules in
    record {
      can_next = search rules;
      is_finite = tt;
      pattern = search rules;
      so_far = nothing_played c.args.script.now (enumerate_count it + 1) (lines_left (enumerate_source it)) c.args.world.now (string_bytes c.args.text.now) first whole c.requires;
    }

pub returns-in_default : goal.returns-in_default
returns-in_default c =
    let before = c.loop-index.invariant in
    let step = c.in-Some.ensures.steps in
    let it = enumerate_source c.loop-index.index-iterator in
    let next = enumerate_source c.next.new.self in
    let is = lines_left_some it next before.pattern c.in-Some.line step.0 in
    rw step.1 (is_no_command c.args.script.now (enumerate_count c.loop-index.index-iterator + 1) (lines_left it) c.args.world.now c.loop-index.world
    (string_bytes c.args.text.now) (string_bytes c.loop-index.text) before.so_far c.in-Some.line.now (lines_left next) is (sym c.command_in_range.ensures ∙ c.in_default.is))

pub returns-then-not-branch : goal.returns-then-not-branch
returns-then-not-branch c =
    let before = c.loop-index.invariant in
    let step = c.in-Some.ensures.steps in
    let it = enumerate_source c.loop-index.index-iterator in
    let next = enumerate_source c.next.new.self in
    let is = lines_left_some it next before.pattern c.in-Some.line step.0 in
    rw step.1 (is_not_understood c.args.script.now (enumerate_count c.loop-index.index-iterator + 1) (lines_left it) c.args.world.now c.loop-index.world
    (string_bytes c.args.text.now) (string_bytes c.loop-index.text) before.so_far c.in-Some.line.now (lines_left next) is c.in_ok-play_line.field-0
    c.in-Some-command_in_range.command c.play_line.new.world (string_bytes c.play_line.new.text)
    (sym c.command_in_range.ensures ∙ c.in-Some-command_in_range.is) c.in_ok-play_line.ensures c.if-not-branch.true)

pub loop-index-preserved : goal.loop-index-preserved
loop-index-preserved c =
    let before = c.loop-index.invariant in
    let step = c.in-Some.ensures.steps in
    let it = enumerate_source c.loop-index.index-iterator in
    let next = enumerate_source c.next.new.self in
    let is = lines_left_some it next before.pattern c.in-Some.line step.0 in
    record {
      can_next = c.in-Some.ensures.goes.keeps;
      is_finite = tt;
      pattern = step.0.1 ∙ before.pattern;
      so_far = played_more c.args.script.now (enumerate_count c.loop-index.index-iterator + 1) (lines_left it) c.args.world.now c.loop-index.world
          (string_bytes c.args.text.now) (string_bytes c.loop-index.text) before.so_far c.in-Some.line.now (lines_left next) is c.in_ok-play_line.field-0 c.in-Some-command_in_range.command
          c.play_line.new.world (string_bytes c.play_line.new.text) (enumerate_count c.next.new.self + 1) (sym c.command_in_range.ensures ∙ c.in-Some-command_in_range.is)
          c.in_ok-play_line.ensures c.if-not-branch.false (ap (λ (n : ℕ). n + 1) step.2);
    }

pub returns : goal.returns
returns c =
    let before = c.loop-index.invariant in
    let it = enumerate_source c.loop-index.index-iterator in
    let none = lines_left_none it (enumerate_source c.next.new.self) before.pattern c.in-None.ensures.steps.0 in
    all_played c.args.script.now (enumerate_count c.loop-index.index-iterator + 1) (lines_left it) c.args.world.now c.loop-index.world (string_bytes c.args.text.now)
    (string_bytes c.loop-index.text) before.so_far none

use Rattle.std.proofs.Common.{◌≡◌, ◌∙◌, ◌-◌, ℕ, true, ap, arith, drop, length, take}
use Rattle.std.proofs.lemmas.Bool.Decides.{nat_tests}
use Rattle.tty.specs.KeySequences.{is_report, reported}
use Rattle.tty.proofs.Reports.{reports}
use Rattle.tty.proofs.key_sequences.size_report.Goals as goal

pub returns-in-91 : goal.returns-in-91
returns-in-91 c =
    let sequence = c.args.sequence.now in
    let report : is_report sequence ≡ true = grind (arith, nat_tests) in
    let count : length sequence - 1 - 1 ≡ length sequence - 2 = omega arith in
    c.reported.ensures ∙ ap (λ (n : ℕ). reported (take n (drop 1 sequence))) count ∙ reports sequence report

use Rattle.std.proofs.Common.{◌≡◌, ◌∙◌, ◌<◌, ◌+◌, ◌*◌, ◌-◌, List, length, ℕ, ap, sym, subst, arith, inl, inr, get_or}
use Rattle.std.specs.Int.{bit_at}
use Rattle.std.proofs.lemmas.Bool.{cases_eq}
use Rattle.shadow.proofs.searching.marked_eight.Goals as goal

pub loop-place-preserved : goal.loop-place-preserved
loop-place-preserved c = record {
  here = λ place after before inside clear. elim (cases_eq place c.loop-place.place) [
    | inl same ↦
        let now : bit_at c.marked-marks.result c.loop-place.place ≡ 0 = subst (λ p. bit_at c.marked-marks.result p ≡ 0) same clear in
        let there : 64 * c.args.word + c.loop-place.place ≡ 64 * c.args.word + place = omega (arith, same) in
        subst (λ cell. get_or c.args.one.now cell 0 ≡ get_or c.args.other.now cell 0) there
        (c.differ.ensures (c.marked-marks.ensures.here now) (omega (arith, same)))
    | inr apart ↦ c.loop-place.invariant.here place after (omega (arith, apart)) inside (c.marked-marks.ensures.others place clear)
  ];
  others = λ place clear. c.loop-place.invariant.others place (c.marked-marks.ensures.others place clear);
}

pub returns-then-are_same-clause-here : goal.returns-then-are_same-clause-here
returns-then-are_same-clause-here c = λ place after before inside clear.
    let start : 64 * c.args.word + c.args.first < length c.args.one.now = omega (arith, after, inside) in
    let cell : c.min-cell.result ≡ 64 * c.args.word + c.args.first = omega (arith, start, c.min-cell.ensures) in
    let there : c.min-cell.result + (place - c.args.first) ≡ 64 * c.args.word + place = omega (arith, cell, after) in
    subst (λ at. get_or c.args.one.now at 0 ≡ get_or c.args.other.now at 0) there
    (sym (c.eight.ensures (place - c.args.first) (omega (arith, after, before)) (omega (arith, there, inside)))
    ∙ ap (λ (bytes : List ℕ). get_or bytes (place - c.args.first) 0) (c.are_same.ensures c.if-are_same.true)
    ∙ c.eight-2.ensures (place - c.args.first) (omega (arith, after, before)) (omega (arith, there, inside, c.requires.whole)))

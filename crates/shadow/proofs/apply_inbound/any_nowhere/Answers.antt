use Rattle.std.proofs.Common.{◌∙◌, ◌||◌, not, ap, sym, subst, length, ℕ, Bool, List, All}
use Rattle.std.specs.List.{list_any}
use Rattle.std.proofs.lemmas.List.Elements.{All-tail}
use Rattle.datastream.specs.InboundFields.{Returned, IsProperReturned}
use Rattle.datastream.specs.InboundReturned.{returned_of_field}
use Rattle.shadow.specs.Heard.{is_nowhere}
use Rattle.shadow.specs.InPlace.{beliefs_held}
use Rattle.shadow.proofs.apply_inbound.any_nowhere.Goals as goal

pub loop-field-preserved : goal.loop-field-preserved
loop-field-preserved c =
    let places = c.args.beliefs.now in
    let n : ℕ = length places in
    let nowhere = is_nowhere n (beliefs_held places 0 places) in
    let steps = c.in-Some.ensures.steps in
    record {
      same = c.loop-field.invariant.same ∙ ap (list_any nowhere) steps
          ∙ ap (λ (t : Bool). not t || list_any nowhere c.next.new.self) (sym c.begins_field.ensures ∙ c.if-not-begins_field.false);
      proper = All-tail (IsProperReturned n) (returned_of_field c.in-Some.field) c.next.new.self (subst (λ (rs : List Returned). All (IsProperReturned n) rs) steps c.loop-field.invariant.proper);
    }

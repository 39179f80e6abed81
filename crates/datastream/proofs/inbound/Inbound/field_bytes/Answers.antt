use Rattle.std.proofs.Common.{◌≡◌, ◌∙◌, ◌-◌, refl, ap, arith, length, take, drop, List, ℕ}
use Rattle.std.specs.List.{prefix_len}
use Rattle.std.proofs.lemmas.List.{length-drop, take_all}
use Rattle.codes3270.specs.Size.{cells_in}
use Rattle.codes3270.specs.Storable.{is_storable}
use Rattle.datastream.proofs.InboundSlices.{all_fields, buffer_fields, no_bytes_are_fields, fields_behind, none_before}
use Rattle.datastream.proofs.inbound.Inbound.field_bytes.Goals as goal

-- the bytes behind the first characters
behind : (text : List ℕ) (n : ℕ) → n ≡ prefix_len is_storable text → take (length text - n) (drop n text) ≡ drop (prefix_len is_storable text) text
behind text n is = take_all (length text - n) (drop n text) (omega (arith, length-drop n text)) ∙ ap (λ (k : ℕ). drop k text) is

starts : (text : List ℕ) (n : ℕ) → n ≡ prefix_len is_storable text → prefix_len is_storable (take (length text - n) (drop n text)) ≡ 0
starts text n is = ap (prefix_len is_storable) (behind text n is) ∙ none_before text

pub returns-in-Modified-clause-parts : goal.returns-in-Modified-clause-parts
returns-in-Modified-clause-parts c =
    rw (← c.self.view_is) (fields_behind _ _ _ (rw c.in-Modified.is at c.self.invariant.1) (behind c.self.inside.text.now _ c.self.invariant.2)).0

pub returns-in-Modified-clause-start : goal.returns-in-Modified-clause-start
returns-in-Modified-clause-start c = starts c.self.inside.text.now _ c.self.invariant.2

pub returns-in-Modified-clause-fields : goal.returns-in-Modified-clause-fields
returns-in-Modified-clause-fields c =
    rw (← c.self.view_is)
    ((fields_behind _ _ _ (rw c.in-Modified.is at c.self.invariant.1) (behind c.self.inside.text.now _ c.self.invariant.2)).1 ∙ rw c.in-Modified.is refl)

pub returns-in-All-clause-parts : goal.returns-in-All-clause-parts
returns-in-All-clause-parts c =
    rw (← c.self.view_is) (fields_behind _ _ _ (all_fields _ _ _ c.in-All.is c.self.invariant.1).0 (behind c.self.inside.text.now _ c.self.invariant.2)).0

pub returns-in-All-clause-start : goal.returns-in-All-clause-start
returns-in-All-clause-start c = starts c.self.inside.text.now _ c.self.invariant.2

pub returns-in-All-clause-fields : goal.returns-in-All-clause-fields
returns-in-All-clause-fields c =
    let all = all_fields _ _ _ c.in-All.is c.self.invariant.1 in
    rw (← c.self.view_is) ((fields_behind _ _ _ all.0 (behind c.self.inside.text.now _ c.self.invariant.2)).1 ∙ all.1)

pub returns-in-Buffer-clause-parts : goal.returns-in-Buffer-clause-parts
returns-in-Buffer-clause-parts c = no_bytes_are_fields (cells_in c.args.self.now.size)

pub returns-in-Buffer-clause-fields : goal.returns-in-Buffer-clause-fields
returns-in-Buffer-clause-fields c = rw (← c.self.view_is) (buffer_fields _ _ _ c.in-Buffer.is c.self.invariant.1)

use Rattle.std.proofs.Common.{sym, ◌∙◌, refl}
use Rattle.std.specs.Str.{bytes_eq}
use Rattle.lu_pool.specs.declared.entry.Entry.{Entry}
use Rattle.lu_pool.specs.Reading.{named_before}
use Rattle.lu_pool.proofs.Finding.{finds, finds_none}
use Rattle.lu_pool.proofs.Listing.{passes_lu, fails_lu}
use Rattle.lu_pool.proofs.pool.new_lu.Goals as goal

pub returns-in-Some-place_of-clause-fault : goal.returns-in-Some-place_of-clause-fault
returns-in-Some-place_of-clause-fault c =
    let f = finds (λ (at : Entry). bytes_eq at.lu c.in-Some.lu) c.args.entries.now c.in-Some-place_of.field-0 (sym c.place_of.ensures ∙ c.in-Some-place_of.is) in
    named_before c.in-Some.lu c.in-Some-place_of.field-0 f.item (sym c.read.ensures.value ∙ c.in-Some.is) f.at (passes_lu f.item.lu c.in-Some.lu f.passes) refl

pub returns-in-None-place_of-clause-new : goal.returns-in-None-place_of-clause-new
returns-in-None-place_of-clause-new c =
    let f = finds_none (λ (at : Entry). bytes_eq at.lu c.in-Some.lu) c.args.entries.now (sym c.place_of.ensures ∙ c.in-None-place_of.is) in
    record {
      read_as = sym c.read.ensures.value ∙ c.in-Some.is;
      is_lu = c.in-Some.ensures.is_lu;
      absent = λ place at h e. fails_lu at.lu c.in-Some.lu (f.each place at h) e;
    }

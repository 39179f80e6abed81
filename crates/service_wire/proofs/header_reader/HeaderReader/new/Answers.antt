use Rattle.std.proofs.Common.{ℕ, codes, refl, inl, arith}
use Rattle.std.proofs.lemmas.List.{length-replicate}
use Rattle.service_wire.proofs.header_reader.HeaderReader.new.Goals as goal

pub invariant_of-result : goal.invariant_of-result
invariant_of-result c = record {
  all = length-replicate {A = ℕ} 536 0;
  within = omega arith;
  awaited = inl (inl (record { next = 80; rest = codes "ROXY "; spelled = refl }));
}

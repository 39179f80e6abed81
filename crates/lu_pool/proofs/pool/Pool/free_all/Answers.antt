use Rattle.lu_pool.proofs.Freeing.{after_all}
use Rattle.lu_pool.proofs.pool.Pool.free_all.Goals as goal

pub invariant_of-self : goal.invariant_of-self
invariant_of-self c = (after_all c.self.inside.entries.items c.deref_mut.result.now _ _ c.self.invariant c.deref_mut.ensures.value c.deref_mut.ensures.len c.free_each.ensures).pool

pub returns-clause-nobody : goal.returns-clause-nobody
returns-clause-nobody c = (after_all c.self.inside.entries.items c.deref_mut.result.now _ _ c.self.invariant c.deref_mut.ensures.value c.deref_mut.ensures.len c.free_each.ensures).nobody

pub returns-clause-is_pool : goal.returns-clause-is_pool
returns-clause-is_pool c = (after_all c.self.inside.entries.items c.deref_mut.result.now _ _ c.self.invariant c.deref_mut.ensures.value c.deref_mut.ensures.len c.free_each.ensures).pool

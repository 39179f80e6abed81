use Rattle.std.proofs.Common.{sym, rules, arith}
use Rattle.std.proofs.lemmas.Option.{slice_get_within}
use Rattle.lu_pool.proofs.Changes.{after_grant, refused_held, one_holder, one_lu}
use Rattle.lu_pool.proofs.Holding.{grant_makes_pool}
use Rattle.lu_pool.proofs.pool.Pool.ask.Goals as goal

pub set_holder-requires : goal.set_holder-requires
set_holder-requires c =
    omega (arith, slice_get_within c.deref.result.now c.in-Ok.place _ c.in-Ok.ensures.granted.free, c.deref.ensures.len)

pub invariant_of-self : goal.invariant_of-self
invariant_of-self c =
    let free = (rw c.deref.ensures.value at c.in-Ok.ensures.granted) in
    (after_grant c.self.inside.entries.items c.in-Ok.place c.args.conn c.set_holder.result _ c.set_holder.new.entries.items c.self.invariant (rw c.self.view_is c.requires) free c.set_holder.ensures.lu c.set_holder.ensures.changed).pool

pub returns-in-Ok : goal.returns-in-Ok
returns-in-Ok c =
    let free = (rw c.deref.ensures.value at c.in-Ok.ensures.granted) in
    let all = after_grant c.self.inside.entries.items c.in-Ok.place c.args.conn c.set_holder.result _ c.set_holder.new.entries.items c.self.invariant (rw c.self.view_is c.requires) free c.set_holder.ensures.lu c.set_holder.ensures.changed in
    rw (← c.self.view_is) (record {
      answer = all.is_answer;
      granted = all.grants;
      becomes = grant_makes_pool c.self.inside.entries.items c.set_holder.new.entries.items c.args.conn c.set_holder.result c.self.invariant.listed_once all.grants;
      refused = tt;
      held = all.held;
      is_lu = all.is_lu;
      one_holder = all.one_holder;
      one_lu = all.one_lu;
      is_pool = all.pool;
    })

pub returns-in-Err : goal.returns-in-Err
returns-in-Err c =
    let pool = c.self.invariant in
    let refused = (rw c.deref.ensures.value at c.in-Err.ensures.refused) in
    rw (← c.self.view_is) (record {
      answer = sym refused;
      granted = tt;
      becomes = tt;
      refused = search rules;
      held = refused_held c.self.inside.entries.items c.args.conn c.in-Err.reason _ (search rules);
      is_lu = tt;
      one_holder = one_holder c.self.inside.entries.items pool;
      one_lu = one_lu c.self.inside.entries.items pool;
      is_pool = pool;
    })

use mathlib.Core.Path.{refl}
use native.Mathlib.Omega.{arith}
use borrow.Author.Rules.{rules}
use Rattle.steps.proofs.Laws.{freed_none, freed_more, freed_below, freed_end}
use Rattle.steps.proofs.free_names.Goals as goal

pub loop-n-init : goal.loop-n-init
loop-n-init c = (omega arith, refl, search freed_none)

pub lock_at-requires-clause-n_bound : goal.lock_at-requires-clause-n_bound
lock_at-requires-clause-n_bound c =
    search freed_below

pub put_lock_at-requires-clause-n_bound : goal.put_lock_at-requires-clause-n_bound
put_lock_at-requires-clause-n_bound c =
    search freed_below

pub loop-n-preserved : goal.loop-n-preserved
loop-n-preserved c =
    let inv = c.loop-n.invariant in
    (omega arith, search rules, freed_more _ _ _ _ _ _ _ inv.2 c.at-at.ensures c.lock_at.ensures c.freed_lock-lock.ensures c.put_lock_at.ensures)

pub returns : goal.returns
returns c = search freed_end

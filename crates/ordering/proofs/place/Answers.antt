use Prim.Native.Nat.{◌+◌, ◌-◌, ◌/◌}
use native.Mathlib.Omega.{arith}
use borrow.Author.Rules.{rules}
use Rattle.ordering.proofs.Places.{narrow_start, narrow_down, narrow_up, narrow_end}
use Rattle.ordering.proofs.place.Goals as goal

pub loop-low-init : goal.loop-low-init
loop-low-init c = search narrow_start

pub overflow_cast-numbers : goal.overflow_cast-numbers
overflow_cast-numbers c =
    let loop = c.loop-low in
    omega (arith, c.shared_slice_known-in-loop-low-1.given (loop.low + (loop.high - loop.low) / 2))

pub at-other-requires : goal.at-other-requires
at-other-requires c =
    let loop = c.loop-low in
    omega (arith, c.shared_slice_known-in-loop-low-1.given (loop.low + (loop.high - loop.low) / 2))

pub loop-low-preserved-then-first : goal.loop-low-preserved-then-first
loop-low-preserved-then-first c =
    narrow_down _ _ _ c.requires.held_in_bounds c.requires.numbers_value c.loop-low.low c.loop-low.high (search rules) _ _ _ _ _
    c.loop-low.invariant c.at-other.ensures c.bytes_of.ensures c.bytes_of-in-loop-low.ensures c.is_before-first.ensures (search rules)

pub loop-low-preserved : goal.loop-low-preserved
loop-low-preserved c = search narrow_up

pub returns : goal.returns
returns c = search narrow_end

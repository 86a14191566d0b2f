use Rattle.std.proofs.Common.{arith, ◌<◌}
use Rattle.endian.proofs.Sums.{summed_none, summed_more, summed_room, summed_all}
use Rattle.endian.proofs.little_endian.Goals as goal
use Rattle.endian.proofs.little_endian.Goals.{After-from}

pub loop-byte-init : goal.loop-byte-init
loop-byte-init c = summed_none (simp (c.into_iter-byte-iterator.ensures.into_iter_gives, c.rev-byte-items.ensures.source, c.iter.ensures.rest))

-- the sum so far leaves room for a byte
room : (c : After-from) → c.loop-byte.number < 16777216
room c = summed_room c.loop-byte.invariant c.requires _ _ c.in-Some.ensures.steps

pub overflow_mul-number : goal.overflow_mul-number
overflow_mul-number c = omega (arith, room (goal.at.overflow_mul-number c).After-from)

pub overflow_add-number : goal.overflow_add-number
overflow_add-number c = omega (arith, room (goal.at.overflow_add-number c).After-from)

pub loop-byte-preserved : goal.loop-byte-preserved
loop-byte-preserved c = rw c.from.ensures (summed_more c.loop-byte.invariant _ _ c.in-Some.ensures.steps (omega arith))

pub returns : goal.returns
returns c = summed_all c.loop-byte.invariant c.in-None.ensures.steps.0

-- `table::further` meets its contract. The loop's invariant: a row with the mark sought that is on the chain after the first row is on the chain that
-- is left, so that where this chain ends, or is at an earlier position, there is none.
use Rattle.table.proofs.Walking.{Walking}
use Rattle.table.proofs.further.Given as goal

abbrev pub invariant-loop : goal.invariant-loop
invariant-loop l = Walking l.area l.lane l.sought l.initial.top l.top

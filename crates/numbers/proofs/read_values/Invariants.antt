-- `numbers::read_values` meets its contract: the first i of the list are the first i values that stand in the bytes.
use Rattle.std.proofs.Common.{◌≡◌, take}
use Rattle.numbers.specs.FourBytes.{values_from}
use Rattle.numbers.proofs.read_values.Given as goal

abbrev pub invariant-loop-i : goal.invariant-loop-i
invariant-loop-i l = take l.i l.values ≡ values_from l.i l.at l.bytes

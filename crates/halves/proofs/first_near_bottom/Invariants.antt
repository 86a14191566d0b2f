-- `halves::first_near_bottom` meets its contract. The test does not hold of the number that was asked about last; what is left after the looks is searched by halves.
use Rattle.std.proofs.Common.{◌≡◌, ℕ, ◌+◌, ◌≤◌, false}
use Rattle.halves.proofs.first_near_bottom.Given as goal

abbrev pub invariant-loop-k : goal.invariant-loop-k
invariant-loop-k g l = record {
  within : l.k ≤ l.count;
  before : (k : ℕ) → k + 1 ≡ l.k → goal.F-post g l.test k false;
}

-- `halves::first_between` meets its contract. The sought number is one of those from `low` to `high`, of which the test holds; of the one before `low` it does not hold.
use Rattle.std.proofs.Common.{◌≡◌, ℕ, ◌+◌, ◌-◌, ◌<◌, ◌≤◌, true, false}
use Rattle.halves.proofs.first_between.Given as goal

abbrev pub invariant-loop-low : goal.invariant-loop-low
invariant-loop-low g l = record {
  from : l.from ≤ l.low;
  order : l.low ≤ l.high;
  to : l.high ≤ l.to;
  here : l.high < l.to → goal.F-post g l.test l.high true;
  before : (k : ℕ) → l.from ≤ k → k + 1 ≡ l.low → goal.F-post g l.test k false;
}

abbrev pub decreases-loop-low : goal.decreases-loop-low
decreases-loop-low g l = l.high - l.low

-- `compare::fill` meets its contract. The loop's invariant: the words passed hold the pattern.
use mathlib.Core.Path.{◌≡◌}
use Prim.Native.Nat.{ℕ, ◌<◌}
use lib.ListN.{length, get_or}
use Rattle.compare.specs.Words.{pattern_at}
use Rattle.compare.proofs.fill.Given as goal

abbrev pub invariant-loop-i : goal.invariant-loop-i
invariant-loop-i l = (length l.area ≡ length l.initial.area) × ((k : ℕ) → k < l.i → get_or l.area k 0 ≡ pattern_at k)

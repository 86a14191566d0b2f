-- The contracts of the private functions.
use Rattle.std.specs.Prelude.{◌≡◌, cond, List, ◌++◌, ℕ, ◌+◌, ◌*◌, ◌-◌, ◌/◌, ◌≤◌, min, max, ltb, ℤ, negsuc, length, take}
use Rattle.std.specs.Prelude.{Option, None, Some}
use Rattle.history.specs.Minima.{takes_over}
use Rattle.blocks.specs.Takes.{least_of, block_count, blocks_before}
use Rattle.rough.specs.declared.Seen.{Seen}
use Rattle.rough.specs.declared.Entries.{Entries}
use Rattle.rough.specs.declared.Cuts.{Cuts}

-- `lower`: of the least of some values and that of others behind them, where there are any
abbrev pub lower_of : Option ℤ → Option ℤ → Option ℤ
lower_of earlier None = earlier
lower_of None (Some later) = Some later
lower_of (Some earlier) (Some later) = Some (cond (takes_over later earlier) later earlier)

-- `look`: at some values, as far as the budget goes. What is left of it, and the least that is seen
pub record Sees (values : List ℤ) (budget : ℕ) (r : Seen) : Type 0 where
  pub rest : r.rest ≡ budget - length values
  pub least : r.least ≡ least_of (take budget values)

-- `look_at_entries`: at those before the blocks wholly inside, at theirs, and at those behind, as far as the budget goes; of all, and of the blocks wholly inside
pub record SeesEntries (before inside behind : List ℤ) (budget : ℕ) (r : Entries) : Type 0 where
  pub rest : r.rest ≡ budget - length (before ++ inside ++ behind)
  pub all : r.all ≡ least_of (take budget (before ++ inside ++ behind))
  pub whole : r.whole ≡ least_of (take (budget - length before) inside)

-- `look_at_values`: at those before the blocks wholly inside, and then at those behind, as far as the budget goes
pub record SeesValues (before behind : List ℤ) (budget : ℕ) (r : Seen) : Type 0 where
  pub rest : r.rest ≡ budget - length (before ++ behind)
  pub least : r.least ≡ least_of (take budget (before ++ behind))

-- `low_figure`, of the least entry and the high figure: `entries` looks read all entries, and `full` are all looks
abbrev pub low_by : (budget entries full : ℕ) → (least high : Option ℤ) → Option ℤ
low_by budget entries full least high = cond (ltb budget entries) (Some (negsuc 2147483647)) (cond (ltb budget full) least high)

-- `cut`: of the range from i to j of n values. The first block that begins in the range or behind it, and the first behind the blocks wholly inside; where the range's values before those
-- end, and where those behind begin
pub record CutsAt (n i j : ℕ) (r : Cuts) : Type 0 where
  pub inner : r.inner ≡ block_count i
  pub outer : r.outer ≡ max (block_count i) (blocks_before n (j + 1))
  pub left_end : r.left ≡ min (64 * r.inner) (j + 1)
  pub right_start : r.right ≡ min (64 * r.outer) (j + 1)
  -- they stand in this order
  pub blocks : (i / 64 ≤ r.inner) × (r.inner ≤ r.outer) × (r.outer ≤ j / 64 + 1)
  pub values : (i ≤ r.left) × (r.left ≤ r.right) × (r.right ≤ j + 1)

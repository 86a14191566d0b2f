-- The suffix minima of a list of values: what a monotone deque holds.
use Rattle.std.specs.Prelude.{◌≡◌, List, ℕ, zero, suc, ◌+◌, ◌<◌, ◌≤◌, ℤ, length}
use Rattle.history.specs.declared.Position.{Position}
use Rattle.history.specs.Minimum.{Minimum}
use Rattle.history.specs.Minima.{next, minimum}

-- where the values of entry k start: the first's at position i, and each further one's behind the place of the entry before it
abbrev pub start_of : Position → (ℕ → Minimum) → ℕ → Position
start_of i entry zero = i
start_of i entry (suc k) = next (entry k).place

-- Each entry is the minimum of the values from where it starts; behind the last one no value is left
pub record SuffixMinima (values : List ℤ) (i : Position) (count : ℕ) (entry : ℕ → Minimum) : Type 0 where
  pub some : 1 ≤ i.0
  pub starts : (k : ℕ) → k < count → (start_of i entry k).0 ≤ length values
  pub minima : (k : ℕ) → k < count → entry k ≡ minimum values (start_of i entry k)
  pub ends : (start_of i entry count).0 ≡ length values + 1

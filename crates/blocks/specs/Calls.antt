-- The contracts of the public calls: `Builds` of `build`, `Searches` of `search`, `Stretches` of `stretch`. They hold of every take and every index. A take, and the index of a search, are lent
-- for reading only, so that no call can alter them. That a call stays in bounds and ends, whatever the index holds, is what the checker shows of every function.
use Rattle.std.specs.Prelude.{◌≡◌, cond, List, ℕ, ◌+◌, ◌*◌, ◌≤◌, eqb, ℤ, length, Result}
use Rattle.history.specs.declared.Refusal.{Refusal}
use Rattle.history.specs.Replies.{numbered}
use Rattle.blocks.specs.Found.{Found}
use Rattle.blocks.specs.Takes.{range_minimum, block_minima, range_refusal, build_refusal, search_refusal, built, stretch_of, told, told_building, answering}

-- "Building writes every index entry and nothing else": the index is then the take's, whatever it held. "15 .. also when building, which then writes nothing"
pub record Builds (values before after : List ℤ) (r : Result (Unit {0}) Refusal) : Type 0 where
  pub tells : told_building r ≡ numbered (build_refusal (length values) (length before))
  pub writes : after ≡ built values before

-- what a search may show. Over an index built from that take it is the definition's; "otherwise the search stays in bounds, and the value and place shown are its own choice": the value is
-- free, and every choice has in common that the place is one of the range
pub record Choice (values index : List ℤ) (i j : ℕ) (f : Found) : Type 0 where
  pub inside : search_refusal (length values) (length index) i j ≡ 0 → (i ≤ f.place.0) × (f.place.0 ≤ j)
  pub correct : index ≡ block_minima values → f ≡ range_minimum values i j

-- the number is determined, whatever the index holds; so is that a refusal shows nothing, and that an accepted search shows a value and a place. Where it is refused, `shows` is not shown
pub record Searches (values index : List ℤ) (i j : ℕ) (r : Result Found Refusal) : Type 0 where
  pub shows : Found
  pub choice : Choice values index i j shows
  pub tells : told r ≡ answering (search_refusal (length values) (length index) i j) shows

-- where a value lies, as a block of memory and a byte in it: that of offset a, of values that start at `at` and have four bytes each
abbrev pub lies_at : ℕ × ℕ → ℕ → ℕ × ℕ
lies_at at a = (at.0, a * 4 + at.1)

-- "hands back the stretch from i to j as part of the player's own take": of a take that starts at `at`, the part has the stretch's values, and starts where the take's value i lies. The empty
-- part starts where the take does
pub record Stretches (at : ℕ × ℕ) (values : List ℤ) (i j : ℕ) (start : ℕ × ℕ) (part : List ℤ) : Type 0 where
  pub has : part ≡ stretch_of values i j
  pub own : start ≡ lies_at at (cond (eqb (range_refusal (length values) i j) 0) i 0)

-- The contracts of the private functions: what is found in a part of a take, and how the parts of a range come together.
use Rattle.std.specs.Prelude.{◌≡◌, cond, List, ℕ, ◌+◌, ◌*◌, ◌<◌, ◌≤◌, ℤ, length, take}
use Rattle.history.specs.Minima.{takes_over}
use Rattle.blocks.specs.declared.Offset.{Offset}
use Rattle.blocks.specs.Found.{Found}
use Rattle.blocks.specs.Takes.{minimum_from, block_minima}

-- `place_of`: an offset of the values; where v is the least of them, the earliest where it stands
pub record PlaceOf (values : List ℤ) (v : ℤ) (r : Offset) : Type 0 where
  pub inside : r.0 < length values
  pub stands : v ≡ (minimum_from values 0).value → r.0 ≡ (minimum_from values 0).place.0

-- `lower`: of what is found in a range and in one that follows it, by the same choice among equal values
abbrev pub lower_of : Found → Found → Found
lower_of earlier later = cond (takes_over later.value earlier.value) later earlier

-- `least_from`: what is found in a part that starts at a, as it is counted in the whole
abbrev pub shifted : ℕ → Found → Found
shifted a f = record { value = f.value; place = record { 0 = a + f.place.0 } }

-- what is found in the range from a to before e: an offset of it, whatever the index holds; over an index built from the take, its least
pub record Covers (values index : List ℤ) (a e : ℕ) (f : Found) : Type 0 where
  pub from : a ≤ f.place.0
  pub to : f.place.0 < e
  pub correct : index ≡ block_minima values → f ≡ minimum_from (take e values) a

-- `least_of_blocks`: the same of whole blocks, the last of which ends where the take does, if not before
pub record OfBlocks (values index : List ℤ) (first end : ℕ) (f : Found) : Type 0 where
  pub from : 64 * first ≤ f.place.0
  pub to : f.place.0 < 64 * end
  pub some : f.place.0 < length values
  pub correct : index ≡ block_minima values → f ≡ minimum_from (take (64 * end) values) (64 * first)

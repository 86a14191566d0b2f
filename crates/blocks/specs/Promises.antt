-- POINT 3 of document 02, in other words than the definitions': what holds of building, of searching and of a stretch, for every take, every index and every range. The theorem is `point_3` of
-- proofs/Tied, of the functions as they stand in the source.
use Rattle.std.specs.Prelude.{◌≡◌, List, [], ◌⊎◌, ℕ, ◌+◌, ◌*◌, ◌-◌, ◌/◌, ◌%◌, ◌<◌, ◌≤◌, ℤ, pos, length, get_or, take, Result}
use Rattle.history.specs.Minimum.{Minimum}
use Rattle.history.specs.declared.Refusal.{Refusal}
use Rattle.history.specs.Minima.{Least}
use Rattle.history.specs.Replies.{numbered, showing}
use Rattle.blocks.specs.Found.{Found}
use Rattle.blocks.specs.Takes.{from_zero, block_of, block_count, block_minima, told, told_building}
use Rattle.blocks.specs.Calls.{lies_at}

-- what is known of `build`: the take, the index before and after, and the reply; of `search`: the take, the index, i, j and the reply; and of `stretch`: where the take lies, its values, i, j,
-- where the part lies, and its values
abbrev pub BuildSays : Type 1
BuildSays = List ℤ → List ℤ → List ℤ → Result (Unit {0}) Refusal → Type 0

abbrev pub SearchSays : Type 1
SearchSays = List ℤ → List ℤ → ℕ → ℕ → Result Found Refusal → Type 0

abbrev pub StretchSays : Type 1
StretchSays = ℕ × ℕ → List ℤ → ℕ → ℕ → ℕ × ℕ → List ℤ → Type 0

-- "the index length is .. the number of blocks"
abbrev pub Fitting : List ℤ → List ℤ → Type 0
Fitting values index = length index ≡ block_count (length values)

-- "i exceeds j or j is not below the take's length"
abbrev pub Outside : List ℤ → ℕ → ℕ → Type 0
Outside values i j = (j < i) ⊎ (length values ≤ j)

-- "the least value from i to j" is told, with its earliest place (point 5): m is the least of the first j + 1 values from position i + 1 on, as the engine's `Least` has it, and its place is counted from 0
abbrev pub TellsLeast : List ℤ → ℕ → ℕ → Result Found Refusal → Type 0
TellsLeast values i j r = (m : Minimum) × Least (take (j + 1) values) (record { 0 = i + 1 }) m × (told r ≡ showing (from_zero m))

-- THE INDEX of a take. "Beside it stands an index: the least of each block of 64 values, the last block perhaps shorter"
pub record EveryIndex (values : List ℤ) : Type 0 where
  pub fitting : Fitting values (block_minima values)
  pub entries : (b : ℕ) → b < block_count (length values) → (m : Minimum) × Least (block_of values b) (record { 0 = 1 }) m × (get_or (block_minima values) b (pos 0) ≡ m.value)
  -- every value of the take stands in one block, at one place, and a block has no others
  pub blocks : (k : ℕ) → k < length values → (k / 64 < block_count (length values)) × (get_or (block_of values (k / 64)) (k % 64) (pos 0) ≡ get_or values k (pos 0))
  pub whole : (b : ℕ) → 64 * b + 64 ≤ length values → length (block_of values b) ≡ 64
  pub shorter : (b : ℕ) → 64 * b < length values → length values < 64 * b + 64 → length (block_of values b) ≡ length values - 64 * b

-- BUILDING. "Building writes every index entry and nothing else"; "15 .. also when building, which then writes nothing"
pub record EveryBuild (values before after : List ℤ) (r : Result (Unit {0}) Refusal) : Type 0 where
  pub writes : Fitting values before → (told_building r ≡ numbered 0) × (after ≡ block_minima values)
  pub refused : (Fitting values before → ⊥) → (told_building r ≡ numbered 15) × (after ≡ before)

-- SEARCHING, over any index, built or not
pub record EverySearch (values index : List ℤ) (i j : ℕ) (r : Result Found Refusal) : Type 0 where
  -- "before it, 15 when the index length is not the number of blocks", for any i and j; "14 when i exceeds j or j is not below the take's length"
  pub other_index : (Fitting values index → ⊥) → told r ≡ numbered 15
  pub outside : Fitting values index → Outside values i j → told r ≡ numbered 14
  -- and else it is accepted, and shows a value and a place in the range
  pub shows : Fitting values index → i ≤ j → j < length values → (f : Found) × (told r ≡ showing f) × (i ≤ f.place.0) × (f.place.0 ≤ j)
  -- "Correct replies presuppose an index built from that take"
  pub least : index ≡ block_minima values → i ≤ j → j < length values → TellsLeast values i j r

-- A STRETCH. "hands back the stretch from i to j as part of the player's own take"; "for an i and j that get 14, the stretch is empty"
pub record EveryStretch (at : ℕ × ℕ) (values : List ℤ) (i j : ℕ) (start : ℕ × ℕ) (part : List ℤ) : Type 0 where
  pub long : i ≤ j → j < length values → length part ≡ j - i + 1
  pub same : i ≤ j → j < length values → (k : ℕ) → i + k ≤ j → get_or part k (pos 0) ≡ get_or values (i + k) (pos 0)
  pub own : i ≤ j → j < length values → start ≡ lies_at at i
  pub empty : Outside values i j → part ≡ []
  -- and the empty part starts where the take does
  pub nothing : Outside values i j → start ≡ at

-- ALL OF IT, where `builds`, `searches` and `stretches` are known of the functions
pub record Point3 (builds : BuildSays) (searches : SearchSays) (stretches : StretchSays) : Type 0 where
  pub index : (values : List ℤ) → EveryIndex values
  pub building : (values before after : List ℤ) (r : Result (Unit {0}) Refusal) → builds values before after r → EveryBuild values before after r
  pub searching : (values index : List ℤ) (i j : ℕ) (r : Result Found Refusal) → searches values index i j r → EverySearch values index i j r
  -- a search over the index that a building left, whatever it held before
  pub built : (values before after : List ℤ) (b : Result (Unit {0}) Refusal) (s : Result Found Refusal) (i j : ℕ) → builds values before after b → searches values after i j s
      → Fitting values before → i ≤ j → j < length values → TellsLeast values i j s
  pub stretching : (at : ℕ × ℕ) (values : List ℤ) (i j : ℕ) (start : ℕ × ℕ) (part : List ℤ) → stretches at values i j start part → EveryStretch at values i j start part

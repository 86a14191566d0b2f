-- POINT 6 of document 02, in other words than the definitions': what holds of every rough reading, of one over an index built from that take, of two budgets, and of two takes. The theorem is `point_6` of
-- proofs/Tied, of the function as it stands in the source.
use Rattle.std.specs.Prelude.{◌≡◌, true, List, [], ◌∷◌, map, ◌⊎◌, ℕ, ◌+◌, ◌-◌, ◌/◌, ◌<◌, ◌≤◌, min, ℤ, pos, negsuc, length, get_or}
use Rattle.std.specs.Prelude.{None, Some}
use Rattle.std.specs.Int.Signed.{le_z}
use Rattle.blocks.specs.Takes.{range_minimum, block_minima}
use Rattle.blocks.specs.Promises.{Fitting, Outside}
use Rattle.std.specs.Prelude.{Result}
use Rattle.history.specs.declared.Refusal.{Refusal}
use Rattle.rough.specs.declared.Figures.{Figures}
use Rattle.rough.specs.Looks.{Look, Entry, Value, looks, looks_used, told}

-- what is known of `read`: the take, the index, i, j, the budget B and the reading
abbrev pub ReadSays : Type 1
ReadSays = List ℤ → List ℤ → ℕ → ℕ → ℕ → Result Figures Refusal → Type 0

-- "−2,147,483,648", which no value of 32 bits is below
abbrev pub bottom : ℤ
bottom = negsuc 2147483647

-- no value of a take is; what is said of low presupposes it
abbrev pub NoneBelow : List ℤ → Type 0
NoneBelow values = (k : ℕ) → k < length values → le_z bottom (get_or values k (pos 0)) ≡ true

-- "A look reads one index entry or one take value.": what it reads
abbrev pub read_by : (values index : List ℤ) → Look → ℤ
read_by values index (Entry b) = get_or index b (pos 0)
read_by values index (Value k) = get_or values k (pos 0)

-- block b "meets the range": a value of the range stands in it. It is "only partly inside" where a value of the take that is outside the range stands in it, too
abbrev pub Meets : (i j b : ℕ) → Type 0
Meets i j b = (k : ℕ) × (i ≤ k) × (k ≤ j) × (k / 64 ≡ b)

abbrev pub Partly : (n i j b : ℕ) → Type 0
Partly n i j b = (k : ℕ) × (k < n) × (k / 64 ≡ b) × ((k < i) ⊎ (j < k))

-- a look is among others; and looks stand in the fixed order, so that none comes twice: entries before values, and either "left to right"
abbrev pub Among : Look → List Look → Type 0
Among look [] = ⊥
Among look (l ∷ ls) = (look ≡ l) ⊎ Among look ls

abbrev pub Before : Look → Look → Type 0
Before (Entry a) (Entry b) = a < b
Before (Entry a) (Value k) = Unit {0}
Before (Value k) (Entry a) = ⊥
Before (Value k) (Value m) = k < m

abbrev pub InOrder : List Look → Type 0
InOrder [] = Unit {0}
InOrder (l ∷ ls) = ((look : Look) → Among look ls → Before l look) × InOrder ls

-- EVERY LOOK, of a range that the take has
pub record EveryLook (n i j : ℕ) : Type 0 where
  -- "the index entry of every block that meets the range", and of no other
  pub entry : (b : ℕ) → Meets i j b → Among (Entry b) (looks n i j)
  pub only_met : (b : ℕ) → Among (Entry b) (looks n i j) → Meets i j b
  -- "the range's values in blocks only partly inside", and no others
  pub value : (k : ℕ) → i ≤ k → k ≤ j → Partly n i j (k / 64) → Among (Value k) (looks n i j)
  pub only_partly : (k : ℕ) → Among (Value k) (looks n i j) → (i ≤ k) × (k ≤ j) × Partly n i j (k / 64)
  -- "The order is fixed"
  pub order : InOrder (looks n i j)

-- a look that makes a value of the range known: "entries of wholly inside blocks and edge values looked at"
abbrev pub MakesKnown : (n i j : ℕ) → Look → Type 0
MakesKnown n i j (Entry b) = Partly n i j b → ⊥
MakesKnown n i j (Value k) = Unit {0}

-- EVERY READING, over any index, built or not
pub record EveryReading (values index : List ℤ) (i j B : ℕ) (r : Result Figures Refusal) : Type 0 where
  -- "Replies 14 and 15 hold here too, for B = 0 as well, with 0 looks used and neither figure shown", 15 before 14
  pub other_index : (Fitting values index → ⊥) → told r ≡ record { number = 15; looks = 0; high = None; low = None }
  pub outside : Fitting values index → Outside values i j → told r ≡ record { number = 14; looks = 0; high = None; low = None }
  -- and else it is accepted
  pub accepted : Fitting values index → i ≤ j → j < length values → (told r).number ≡ 0
  -- "the looks used (the smaller of B and the full count)"
  pub count : Fitting values index → i ≤ j → j < length values → (told r).looks ≡ min B (length (looks (length values) i j))
  -- a low figure is shown always, and before the first look no high one
  pub low : Fitting values index → i ≤ j → j < length values → (v : ℤ) × ((told r).low ≡ Some v)
  pub nothing : Fitting values index → i ≤ j → j < length values → B ≡ 0 → told r ≡ record { number = 0; looks = 0; high = None; low = Some bottom }
  -- "until all entries are read": of the blocks from that of i to that of j
  pub early : Fitting values index → i ≤ j → j < length values → B < j / 64 + 1 - i / 64 → (told r).low ≡ Some bottom
  -- "then the least entry": one of these blocks', and at most each of theirs
  pub between : Fitting values index → i ≤ j → j < length values → j / 64 + 1 - i / 64 ≤ B → B < length (looks (length values) i j) → (v : ℤ) → (told r).low ≡ Some v
      → ((b : ℕ) × (i / 64 ≤ b) × (b ≤ j / 64) × (get_or index b (pos 0) ≡ v)) × ((b : ℕ) → i / 64 ≤ b → b ≤ j / 64 → le_z v (get_or index b (pos 0)) ≡ true)
  -- "and at the full count the high figure"
  pub full : Fitting values index → i ≤ j → j < length values → length (looks (length values) i j) ≤ B → (told r).low ≡ (told r).high
  -- "High is the least known value": one that a look made known, and at most each such; where none is shown, no look made one known
  pub high : Fitting values index → i ≤ j → j < length values → (v : ℤ) → (told r).high ≡ Some v
      → ((look : Look) × Among look (looks_used (length values) i j B) × MakesKnown (length values) i j look × (read_by values index look ≡ v))
      × ((look : Look) → Among look (looks_used (length values) i j B) → MakesKnown (length values) i j look → le_z v (read_by values index look) ≡ true)
  pub unknown : Fitting values index → i ≤ j → j < length values → (told r).high ≡ None → (look : Look) → Among look (looks_used (length values) i j B) → MakesKnown (length values) i j look → ⊥

-- "OVER AN INDEX BUILT FROM THAT TAKE", where "the true one" is the least value of point 3
pub record EveryBuilt (values : List ℤ) (i j B : ℕ) (r : Result Figures Refusal) : Type 0 where
  -- "both equal the exact least value once the full count is used"
  pub exact : length (looks (length values) i j) ≤ B → ((told r).high ≡ Some (range_minimum values i j).value) × ((told r).low ≡ Some (range_minimum values i j).value)
  -- "low is never above the true one"
  pub below : NoneBelow values → (v : ℤ) → (told r).low ≡ Some v → le_z v (range_minimum values i j).value ≡ true
  -- "nor a shown high below it"
  pub above : (v : ℤ) → (told r).high ≡ Some v → le_z (range_minimum values i j).value v ≡ true

-- "A BIGGER BUDGET never lowers low, raises a shown high or takes one away": readings r with a budget and s with one that is not smaller. What is said of high holds over any index
pub record EveryBigger (values index : List ℤ) (r s : Result Figures Refusal) : Type 0 where
  pub low : index ≡ block_minima values → NoneBelow values → (v w : ℤ) → (told r).low ≡ Some v → (told s).low ≡ Some w → le_z v w ≡ true
  pub high : (v : ℤ) → (told r).high ≡ Some v → (w : ℤ) × ((told s).high ≡ Some w) × (le_z w v ≡ true)

-- ALL OF IT, where `reads` is known of the function
pub record Point6 (reads : ReadSays) : Type 0 where
  pub looked : (n i j : ℕ) → i ≤ j → j < n → EveryLook n i j
  pub reading : (values index : List ℤ) (i j B : ℕ) (r : Result Figures Refusal) → reads values index i j B r → EveryReading values index i j B r
  pub built : (values index : List ℤ) (i j B : ℕ) (r : Result Figures Refusal) → reads values index i j B r → index ≡ block_minima values → i ≤ j → j < length values → EveryBuilt values i j B r
  pub bigger : (values index : List ℤ) (i j B C : ℕ) (r s : Result Figures Refusal) → reads values index i j B r → reads values index i j C s → Fitting values index → i ≤ j → j < length values → B ≤ C
      → EveryBigger values index r s
  -- "A look reads one index entry or one take value", and nothing else is looked at: the answer is equal for any two takes and indices of the same lengths for which the looks that are used read the same
  pub agreed : (values index others entries : List ℤ) (i j B : ℕ) (r s : Result Figures Refusal) → reads values index i j B r → reads others entries i j B s → length values ≡ length others
      → length index ≡ length entries → map (read_by values index) (looks_used (length values) i j B) ≡ map (read_by others entries) (looks_used (length values) i j B) → told r ≡ told s

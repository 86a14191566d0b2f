-- POINT 3 of document 02. Its theorem and its worked examples are cited under their statements; and each clause is used, in plain numbers, of the functions as they stand in the source. So a clause
-- that is dropped, or that gains a hypothesis or an alternative, no longer proves what stands here.
use mathlib.Core.Path.{◌≡◌, refl, ap, ◌∙◌}
use mathlib.Core.Bool.{true, false}
use mathlib.Core.List.{List, [], ◌∷◌, map}
use mathlib.Core.Logic.{inl, inr}
use Prim.Native.Nat.{ℕ, ◌+◌, ◌*◌, ◌-◌, ◌/◌, ◌%◌, ◌<◌, ◌≤◌}
use native.Mathlib.Omega.{arith}
use lib.IntN.{ℤ, pos}
use lib.Signed.{le_z}
use lib.ListN.{length, get_or, take}
use lib.Seq.{length-take-le, get_or-take}
use contract.Lifetimes.{Lfts}
use denote.Ref.{Bor, MutBor}
use denote.Signature.{plain}
use denote.Builtin.{SliceRefOf, usize, i32}
use Rattle.std.specs.Prelude.{Result}
use Rattle.history.specs.declared.Refusal.{Refusal}
use Rattle.history.specs.Minimum.{Minimum}
use Rattle.history.specs.Minima.{lowest, Least}
use Rattle.history.specs.Replies.{numbered, showing}
use Rattle.history.proofs.Lowest.{least_only}
use Rattle.blocks.specs.Found.{Found}
use Rattle.blocks.specs.Takes.{from_zero, block_of, block_minima_from, block_minima, told, told_building}
use Rattle.blocks.specs.Calls.{Builds, Searches, Stretches}
use Rattle.blocks.specs.Promises.{Point3, TellsLeast}
use Rattle.blocks.specs.Examples.{searched, searches, indexed, indexes, stretched, stretches, SearchGives, BuildGives, StretchGives, Each}
use Rattle.blocks.proofs.Functions as functions
use Rattle.blocks.proofs.Tied.{Built, Searched, Stretched, built_of, searched_of, stretched_of}
use Rattle.blocks.proofs.Examples as worked
use Rattle.blocks.proofs.build.Reads as build-reads
use Rattle.blocks.proofs.search.Reads as search-reads
use Rattle.blocks.specs.contracts.stretch as stretch-function
use Rattle.blocks.proofs.stretch.Reads as stretch-reads

point_3 : Point3 Built Searched Stretched
point_3 = functions.point_3

searches_worked : map searched searches ≡ searches
searches_worked = worked.searches_worked

indexes_worked : map indexed indexes ≡ indexes
indexes_worked = worked.indexes_worked

stretches_worked : map stretched stretches ≡ stretches
stretches_worked = worked.stretches_worked

examples_count : (length searches ≡ 36) × (length indexes ≡ 8) × (length stretches ≡ 8)
examples_count = (refl, refl, refl)

searches_given : Each (SearchGives Searched) searches
searches_given = worked.searches_given

indexes_given : Each (BuildGives Built) indexes
indexes_given = worked.indexes_given

stretches_given : Each (StretchGives Stretched) stretches
stretches_given = worked.stretches_given

-- each function promises its contract, of all that it is given, and no more is learnt of it
builds_as_promised : (values before after : List ℤ) (r : Result (Unit {0}) Refusal) → Built values before after r → Builds values before after r
builds_as_promised values before after r (κs, x, y, d) = d

searches_as_promised : (values index : List ℤ) (i j : ℕ) (r : Result Found Refusal) → Searched values index i j r → Searches values index i j r
searches_as_promised values index i j r (κs, x, y, d) = d

stretches_as_promised : (at : ℕ × ℕ) (values : List ℤ) (i j : ℕ) (start : ℕ × ℕ) (part : List ℤ) → Stretched at values i j start part → Stretches at values i j start part
stretches_as_promised at values i j start part (κs, d) = d

builds_no_more : (values before after : List ℤ) (r : Result (Unit {0}) Refusal) → Builds values before after r → Built values before after r
builds_no_more = built_of

searches_no_more : (values index : List ℤ) (i j : ℕ) (r : Result Found Refusal) → Searches values index i j r → Searched values index i j r
searches_no_more = searched_of

stretches_no_more : (at : ℕ × ℕ) (values : List ℤ) (i j : ℕ) (start : ℕ × ℕ) (part : List ℤ) → Stretches at values i j start part → Stretched at values i j start part
stretches_no_more = stretched_of

-- no function asks for anything
build_asks_nothing : (κs : Lfts 2) (x : Bor (List ℤ)) (y : MutBor (List ℤ)) → build-reads.Asked κs (x, (y, tt))
build_asks_nothing κs x y = tt

search_asks_nothing : (κs : Lfts 2) (x y : Bor (List ℤ)) (i j : ℕ) → search-reads.Asked κs (x, (y, (i, (j, tt))))
search_asks_nothing κs x y i j = tt

stretch_asks_nothing : (κs : Lfts 1) (x : Bor (List ℤ)) (i j : ℕ) → stretch-reads.Asked κs (x, (i, (j, tt)))
stretch_asks_nothing κs x i j = tt

-- `stretch` takes a slice of signed values and two numbers of 64 bits, and gives a slice of the same lifetime
stretch_takes : (stretch-function.signature).params ≡ SliceRefOf (0 ∷ []) tt (plain (λ κs. i32)) (λ κs. tt) ∷ plain (λ κs. usize) ∷ plain (λ κs. usize) ∷ []
stretch_takes = refl

stretch_gives : (stretch-function.signature).result ≡ SliceRefOf (0 ∷ []) tt (plain (λ κs. i32)) (λ κs. tt)
stretch_gives = refl

-- the first worked examples, of any call: a search of 3, 1, 2, 1; building for no values; and the stretch of the two in the middle
first_search : (r : Result Found Refusal) → Searched (pos 3 ∷ pos 1 ∷ pos 2 ∷ pos 1 ∷ []) (pos 1 ∷ []) 0 3 r → told r ≡ showing (record { value = pos 1; place = record { 0 = 1 } })
unfolding lowest block_minima_from
first_search r q = worked.searches_given.0 (pos 1 ∷ []) r q refl (λ n. refl)

first_index : (before after : List ℤ) (r : Result (Unit {0}) Refusal) → Built [] before after r → length before ≡ 0 → (told_building r ≡ numbered 0) × (after ≡ [])
first_index before after r q n = worked.indexes_given.0 before after r q n

second_stretch : (at start : ℕ × ℕ) (part : List ℤ) → Stretched at (pos 3 ∷ pos 1 ∷ pos 2 ∷ pos 1 ∷ []) 1 2 start part → part ≡ pos 1 ∷ pos 2 ∷ []
second_stretch at start part q = worked.stretches_given.1.0 at start part q

-- BUILDING, of any take and any index. "Building writes every index entry and nothing else"; an index of another length gets 15, and is not written
module _ (values before after : List ℤ) (r : Result (Unit {0}) Refusal) (q : Built values before after r) where
  pub index_built : length before ≡ (length values + 63) / 64 → (told_building r ≡ numbered 0) × (after ≡ block_minima values)
  index_built n = (functions.point_3.building values before after r q).writes n

  pub index_refused : (length before ≡ (length values + 63) / 64 → ⊥) → (told_building r ≡ numbered 15) × (after ≡ before)
  index_refused n = (functions.point_3.building values before after r q).refused n

-- "An empty take has an empty index"
empty_index : block_minima [] ≡ []
unfolding block_minima_from
empty_index = refl

-- "the least of each block of 64 values, the last block perhaps shorter": entry b is a value of block b, at an offset from 64 × b to before 64 × b + 64 or the take's end, and no value there is lower
module _ (values : List ℤ) where
  pub index_long : length (block_minima values) ≡ (length values + 63) / 64
  index_long = (functions.point_3.index values).fitting

  pub in_block : (k : ℕ) → k < length values → (k / 64 < (length values + 63) / 64) × (get_or (block_of values (k / 64)) (k % 64) (pos 0) ≡ get_or values k (pos 0))
  in_block k h = (functions.point_3.index values).blocks k h

  pub block_long : (b : ℕ) → 64 * b + 64 ≤ length values → length (block_of values b) ≡ 64
  block_long b h = (functions.point_3.index values).whole b h

  pub last_block : (b : ℕ) → 64 * b < length values → length values < 64 * b + 64 → length (block_of values b) ≡ length values - 64 * b
  last_block b h l = (functions.point_3.index values).shorter b h l

  -- a value of a block, counted from 0, is at least the entry
  pub entry_lowest : (b k : ℕ) → b < (length values + 63) / 64 → k < length (block_of values b) → le_z (get_or (block_minima values) b (pos 0)) (get_or (block_of values b) k (pos 0)) ≡ true
  entry_lowest b k h l =
      let e = (functions.point_3.index values).entries b h in
      let back : k + 1 - 1 ≡ k = omega arith in
      rw e.2 (rw back at (e.1.least (record { 0 = k + 1 }) (omega arith) (omega arith)))

  -- and one of them is the entry
  pub entry_stands : (b : ℕ) → b < (length values + 63) / 64 → (k : ℕ) × (k < length (block_of values b)) × (get_or (block_of values b) k (pos 0) ≡ get_or (block_minima values) b (pos 0))
  entry_stands b h =
      let e = (functions.point_3.index values).entries b h in
      (e.0.place.0 - 1, omega (arith, e.1.from, e.1.to), rw e.2 e.1.stands)

-- WHAT IS TOLD OF A LEAST, in offsets: it stands in the range, no value there is lower, and each earlier one there is higher
module _ (values : List ℤ) (i j : ℕ) (s : Result Found Refusal) (l : i ≤ j) (h : j < length values) (t : TellsLeast values i j s) where
  abbrev m : Minimum
  m = t.0

  long : length (take (j + 1) values) ≡ j + 1
  long = length-take-le (j + 1) values (omega arith)

  abbrev pub found : Found
  found = from_zero m

  pub found-told : told s ≡ showing found
  found-told = t.2

  pub found_inside : (i ≤ found.place.0) × (found.place.0 ≤ j)
  found_inside =
      let n = length-take-le (j + 1) values (omega arith) in
      (omega (arith, t.1.from), omega (arith, t.1.from, t.1.to, n))

  pub found_stands : get_or values found.place.0 (pos 0) ≡ found.value
  found_stands =
      let n = length-take-le (j + 1) values (omega arith) in
      rw (get_or-take (j + 1) values found.place.0 (pos 0) (omega (arith, t.1.from, t.1.to, n))) at t.1.stands

  pub found_least : (k : ℕ) → i ≤ k → k ≤ j → le_z found.value (get_or values k (pos 0)) ≡ true
  found_least k a e =
      let back : k + 1 - 1 ≡ k = omega arith in
      let n = length-take-le (j + 1) values (omega arith) in
      let r = t.1.least (record { 0 = k + 1 }) (omega arith) (omega (arith, n)) in
      rw (back, get_or-take (j + 1) values k (pos 0) (omega arith)) at r

  -- "The window and stored takes follow the same rule" (point 5)
  pub found_earliest : (k : ℕ) → i ≤ k → k < found.place.0 → le_z (get_or values k (pos 0)) found.value ≡ false
  found_earliest k a e =
      let back : k + 1 - 1 ≡ k = omega arith in
      let n = length-take-le (j + 1) values (omega arith) in
      let r = t.1.earliest (record { 0 = k + 1 }) (omega arith) (omega (arith, t.1.from)) in
      rw (back, get_or-take (j + 1) values k (pos 0) (omega (arith, t.1.from, t.1.to, n))) at r

  -- and nothing else is: whatever stands in the range, with no value there lower and each earlier one there higher, is what is told
  pub found_only : (f : Found) → i ≤ f.place.0 → f.place.0 ≤ j → get_or values f.place.0 (pos 0) ≡ f.value
      → ((k : ℕ) → i ≤ k → k ≤ j → le_z f.value (get_or values k (pos 0)) ≡ true)
      → ((k : ℕ) → i ≤ k → k < f.place.0 → le_z (get_or values k (pos 0)) f.value ≡ false)
      → told s ≡ showing f
  found_only f a e v low early =
      let at : (k : ℕ) → k ≤ j → get_or (take (j + 1) values) k (pos 0) ≡ get_or values k (pos 0) = λ k b. get_or-take (j + 1) values k (pos 0) (omega arith) in
      let back : f.place.0 + 1 - 1 ≡ f.place.0 = omega arith in
      let n = length-take-le (j + 1) values (omega arith) in
      let other : Minimum = record { value = f.value; place = record { 0 = f.place.0 + 1 } } in
      let is : Least (take (j + 1) values) (record { 0 = i + 1 }) other = record {
        some = omega arith;
        from = omega arith;
        to = omega (arith, n);
        stands = rw (back, at f.place.0 e) v;
        least = λ k b t. rw (at (k.0 - 1) (omega (arith, n))) (low (k.0 - 1) (omega arith) (omega (arith, n)));
        earliest = λ k b t. rw (at (k.0 - 1) (omega arith)) (early (k.0 - 1) (omega arith) (omega arith));
      } in
      found-told ∙ ap (λ (x : Minimum). showing (from_zero x)) (least_only (take (j + 1) values) (record { 0 = i + 1 }) m other t.1 is)
      ∙ ap (λ (k : ℕ). showing (record { value = f.value; place = record { 0 = k } })) back

-- SEARCHING, over any index
module _ (values index : List ℤ) (i j : ℕ) (r : Result Found Refusal) (q : Searched values index i j r) where
  -- "before it, 15 when the index length is not the number of blocks", whatever i and j are
  pub fifteen : (length index ≡ (length values + 63) / 64 → ⊥) → told r ≡ numbered 15
  fifteen n = (functions.point_3.searching values index i j r q).other_index n

  -- "14 when i exceeds j or j is not below the take's length"
  pub fourteen_exceeds : length index ≡ (length values + 63) / 64 → j < i → told r ≡ numbered 14
  fourteen_exceeds n l = (functions.point_3.searching values index i j r q).outside n (inl l)

  pub fourteen_beyond : length index ≡ (length values + 63) / 64 → length values ≤ j → told r ≡ numbered 14
  fourteen_beyond n l = (functions.point_3.searching values index i j r q).outside n (inr l)

  -- and else a value and a place in the range are shown
  pub shown_inside : length index ≡ (length values + 63) / 64 → i ≤ j → j < length values → (f : Found) × (told r ≡ showing f) × (i ≤ f.place.0) × (f.place.0 ≤ j)
  shown_inside n l h = (functions.point_3.searching values index i j r q).shows n l h

  -- "Correct replies presuppose an index built from that take"
  pub shown_least : index ≡ block_minima values → i ≤ j → j < length values → TellsLeast values i j r
  shown_least e l h = (functions.point_3.searching values index i j r q).least e l h

-- a search over the index that was built
searched_built : (values before after : List ℤ) (b : Result (Unit {0}) Refusal) (s : Result Found Refusal) (i j : ℕ) → Built values before after b → Searched values after i j s
    → length before ≡ (length values + 63) / 64 → i ≤ j → j < length values → TellsLeast values i j s
searched_built values before after b s i j p q n l h = functions.point_3.built values before after b s i j p q n l h

-- A STRETCH, of any take, which starts at `at`. "as part of the player's own take": the part starts where the take's value i lies, four bytes a value
module _ (at : ℕ × ℕ) (values : List ℤ) (i j : ℕ) (start : ℕ × ℕ) (part : List ℤ) (q : Stretched at values i j start part) where
  pub stretch_long : i ≤ j → j < length values → length part ≡ j - i + 1
  stretch_long l h = (functions.point_3.stretching at values i j start part q).long l h

  pub stretch_same : i ≤ j → j < length values → (k : ℕ) → i + k ≤ j → get_or part k (pos 0) ≡ get_or values (i + k) (pos 0)
  stretch_same l h k m = (functions.point_3.stretching at values i j start part q).same l h k m

  pub stretch_own : i ≤ j → j < length values → start ≡ (at.0, i * 4 + at.1)
  stretch_own l h = (functions.point_3.stretching at values i j start part q).own l h

  -- "for an i and j that get 14, the stretch is empty"
  pub stretch_exceeds : j < i → part ≡ []
  stretch_exceeds l = (functions.point_3.stretching at values i j start part q).empty (inl l)

  pub stretch_beyond : length values ≤ j → part ≡ []
  stretch_beyond l = (functions.point_3.stretching at values i j start part q).empty (inr l)

  -- and starts where the take does
  pub nothing_exceeds : j < i → start ≡ at
  nothing_exceeds l = (functions.point_3.stretching at values i j start part q).nothing (inl l)

  pub nothing_beyond : length values ≤ j → start ≡ at
  nothing_beyond l = (functions.point_3.stretching at values i j start part q).nothing (inr l)

-- POINT 3 of document 02, of the two functions that C calls. What C is told by each is `Learnt`, the reading that the checker makes of the `ensures` as it stands in the source. It is used in the
-- numbers that C sees and the places of its own arrays, clause by clause, for any take, any index and any range. So a clause that is dropped, or that gains a hypothesis or an alternative, no
-- longer proves what stands here.
use mathlib.Core.Path.{◌≡◌, refl}
use mathlib.Core.Bool.{true, false}
use mathlib.Core.List.{List, [], ◌∷◌}
use mathlib.Core.Logic.{◌⊎◌}
use Prim.Native.Nat.{ℕ, ◌+◌, ◌/◌, ◌<◌, ◌≤◌}
use native.Mathlib.Omega.{arith}
use lib.IntN.{ℤ, pos}
use lib.Signed.{le_z}
use lib.ListN.{length, get_or}
use contract.Lifetimes.{Lfts}
use denote.Ref.{Bor, MutBor, at_last}
use denote.Signature.{plain}
use denote.Builtin.{SliceRefOf, SliceRefMutOf, usize, u32, i32}
use denote.Struct.Field.{usize-field, u32-field, i32-field}
use Rattle.blocks.specs.Found.{Found}
use Rattle.std.specs.Prelude.{Result}
use Rattle.history.specs.declared.Refusal.{Refusal}
use Rattle.blocks.specs.Takes.{block_minima, told, told_building}
use Rattle.blocks.specs.Calls.{Builds, Searches, Stretches}
use Rattle.blocks.specs.Promises.{TellsLeast, Point3}
use Rattle.blocks.proofs.Point as point
use Rattle.firmware.specs.declared.takes.FoundNumbers.{FoundNumbers}
use Rattle.firmware.specs.Takes.{in_numbers}
use Rattle.firmware.specs.contracts.takes.FoundNumbers as found_type
use Rattle.firmware.specs.contracts.filkotar_build as build-function
use Rattle.firmware.proofs.filkotar_build.Reads as build-reads
use Rattle.firmware.specs.contracts.filkotar_search as search-function
use Rattle.firmware.proofs.filkotar_search.Reads as search-reads
use Rattle.requests.proofs.TakesInCSteps as steps
use Rattle.requests.proofs.Takes.{found-told, found_inside, found_stands, found_least, found_earliest}

-- THE TYPES are those of include/filkotar.h, where a slice is a pointer and a length: the numbers of what is found, in this order, and what each function takes and gives
found_numbers : (found_type.struct).parts ≡ u32-field ∷ i32-field ∷ usize-field ∷ []
found_numbers = refl

found_order : (r : FoundNumbers) → (found_type.struct).as_values r ≡ (r.number, (r.value, (r.place, tt)))
found_order r = refl

build_takes : (build-function.signature).params ≡ SliceRefOf (0 ∷ []) tt (plain (λ κs. i32)) (λ κs. tt) ∷ SliceRefMutOf (1 ∷ []) tt (plain (λ κs. i32)) (λ κs. tt) ∷ []
build_takes = refl

build_gives : (build-function.signature).result ≡ plain (λ κs. u32)
build_gives = refl

search_takes : (search-function.signature).params
    ≡ SliceRefOf (0 ∷ []) tt (plain (λ κs. i32)) (λ κs. tt) ∷ SliceRefOf (1 ∷ []) tt (plain (λ κs. i32)) (λ κs. tt) ∷ plain (λ κs. usize) ∷ plain (λ κs. usize) ∷ []
search_takes = refl

search_gives : (search-function.signature).result ≡ plain (λ κs. found_type.the_row)
search_gives = refl

-- neither function asks for anything
build_asks_nothing : (κs : Lfts 2) (x : Bor (List ℤ)) (y : MutBor (List ℤ)) → build-reads.Asked κs (x, (y, tt))
build_asks_nothing κs x y = tt

search_asks_nothing : (κs : Lfts 2) (x y : Bor (List ℤ)) (i j : ℕ) → search-reads.Asked κs (x, (y, (i, (j, tt))))
search_asks_nothing κs x y i j = tt

-- WHAT C IS TOLD: by `filkotar_build` of a take and of an index that was `before` and is `after`; by `filkotar_search` of a take, an index and a range
abbrev pub BuildTold : List ℤ → List ℤ → List ℤ → ℕ → Type 0
BuildTold values before after r =
    (κs : Lfts 2) × (x : ℕ × ℕ) × (y : MutBor (List ℤ))
    × build-reads.Learnt κs (record { ref_ptr = x; now = values }, (at_last y before, tt)) r (record { ref_ptr = x; now = values }, (at_last y after, tt))

abbrev SearchTold : List ℤ → List ℤ → (i j : ℕ) → FoundNumbers → Type 0
SearchTold values index i j r =
    (κs : Lfts 2) × (x y : ℕ × ℕ)
    × search-reads.Learnt κs (record { ref_ptr = x; now = values }, (record { ref_ptr = y; now = index }, (i, (j, tt)))) r (record { ref_ptr = x; now = values }, (record { ref_ptr = y; now = index }, (i, (j, tt))))

-- an answer that shows nothing: value and place are 0
abbrev plainly : ℕ → FoundNumbers
plainly number = record { number = number; value = pos 0; place = 0 }

-- the point's theorem, of the contracts themselves
point_3 : Point3 Builds Searches Stretches
point_3 = point.point_3 Builds Searches Stretches (λ values before after r d. d) (λ values index i j r d. d) (λ at values i j start part d. d)

-- BUILDING. "Building writes every index entry and nothing else"; "15 .. also when building, which then writes nothing"
module _ (values before after : List ℤ) (r : ℕ) (t : BuildTold values before after r) where
  build_0 : length before ≡ (length values + 63) / 64 → (r ≡ 0) × (after ≡ block_minima values)
  build_0 = steps.build_0 values before after r t

  build_15 : (length before ≡ (length values + 63) / 64 → ⊥) → (r ≡ 15) × (after ≡ before)
  build_15 = steps.build_15 values before after r t

  -- so 0 says that the index is the take's
  pub built : r ≡ 0 → after ≡ block_minima values
  built = steps.built values before after r t

-- THE LEAST VALUE from take[i] to take[j] is what r shows, at the earliest of its places (points 3 and 5)
pub record Shows (values : List ℤ) (i j : ℕ) (r : FoundNumbers) : Type 0 where
  pub accepted : r.number ≡ 0
  pub from : i ≤ r.place
  pub to : r.place ≤ j
  pub stands : get_or values r.place (pos 0) ≡ r.value
  pub least : (k : ℕ) → i ≤ k → k ≤ j → le_z r.value (get_or values k (pos 0)) ≡ true
  pub earliest : (k : ℕ) → i ≤ k → k < r.place → le_z (get_or values k (pos 0)) r.value ≡ false

tells : (values : List ℤ) (i j : ℕ) (a : Result Found Refusal) (r : FoundNumbers) → r ≡ in_numbers (told a) → i ≤ j → j < length values → TellsLeast values i j a → Shows values i j r
tells values i j a r e l h t =
    let inside = found_inside values i j a l h t in
    rw (e, found-told values i j a l h t) (record {
      accepted = refl;
      from = inside.0;
      to = inside.1;
      stands = found_stands values i j a l h t;
      least = found_least values i j a l h t;
      earliest = found_earliest values i j a l h t;
    })

-- SEARCHING
module _ (values index : List ℤ) (i j : ℕ) (r : FoundNumbers) (t : SearchTold values index i j r) where
  -- "14 when i exceeds j or j is not below the take's length; before it, 15 when the index length is not the number of blocks": for any i and j
  search_15 : (length index ≡ (length values + 63) / 64 → ⊥) → r ≡ plainly 15
  search_15 = steps.search_15 values index i j r t

  search_14 : length index ≡ (length values + 63) / 64 → (j < i) ⊎ (length values ≤ j) → r ≡ plainly 14
  search_14 = steps.search_14 values index i j r t

  -- else it is accepted, and "the value and place shown are its own choice", with the place in the range
  search_0 : length index ≡ (length values + 63) / 64 → i ≤ j → j < length values → (r.number ≡ 0) × (i ≤ r.place) × (r.place ≤ j)
  search_0 = steps.search_0 values index i j r t

  -- where all of the range lies above 2^32 − 1, so does the place
  search_far : length index ≡ (length values + 63) / 64 → 4294967296 ≤ i → i ≤ j → j < length values → (r.number ≡ 0) × (4294967296 ≤ r.place)
  search_far n f l h = let a = steps.search_0 values index i j r t n l h in (a.0, omega (arith, a.1))

  -- "Correct replies presuppose an index built from that take": then it is the least value, with its earliest place
  search_least : index ≡ block_minima values → i ≤ j → j < length values → Shows values i j r
  search_least e l h =
      let s = steps.search_least values index i j r t e l h in
      record { accepted = s.accepted; from = s.from; to = s.to; stands = s.stands; least = s.least; earliest = s.earliest }

-- as C uses it: an index is built with reply 0, whatever it held, and then searched
built_and_searched : (values before after : List ℤ) (i j : ℕ) (r : FoundNumbers) → BuildTold values before after 0 → SearchTold values after i j r
    → i ≤ j → j < length values → Shows values i j r
built_and_searched values before after i j r b t l h =
    let s = steps.search_least values after i j r t (steps.built values before after 0 b refl) l h in
    record { accepted = s.accepted; from = s.from; to = s.to; stands = s.stands; least = s.least; earliest = s.earliest }

-- THE CONVERSES: no more is learnt of the functions that C calls than their contracts say, so that what stands above is of all that these allow
build_told_of : (values before after : List ℤ) (a : Result (Unit {0}) Refusal) → Builds values before after a → BuildTold values before after (told_building a).number
build_told_of = steps.build_learnt_of

search_told_of : (values index : List ℤ) (i j : ℕ) (a : Result Found Refusal) → Searches values index i j a → SearchTold values index i j (in_numbers (told a))
search_told_of = steps.search_learnt_of

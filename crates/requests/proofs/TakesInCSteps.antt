-- The lemmas behind TakesInC, in the words of its statements. There each statement is proved of these, and none of another that stands there: so one that is wrong is refused by itself.
use mathlib.Core.Path.{◌≡◌, refl, ap, ◌∙◌}
use mathlib.Core.Bool.{true, false}
use mathlib.Core.List.{List, []}
use mathlib.Core.Logic.{◌⊎◌}
use Prim.Native.Nat.{ℕ, ◌+◌, ◌/◌, ◌<◌, ◌≤◌}
use native.Mathlib.Decide.{ℕ_discrete}
use native.Mathlib.Omega.{arith}
use lib.IntN.{ℤ, pos}
use lib.Signed.{le_z}
use lib.ListN.{length, get_or}
use contract.Lifetimes.{Lfts}
use denote.Ref.{MutBor, at_last}
use Rattle.blocks.specs.Found.{Found}
use Rattle.std.specs.Prelude.{Result}
use Rattle.history.specs.declared.Refusal.{Refusal}
use Rattle.history.specs.Replies.{showing}
use Rattle.blocks.specs.Takes.{Told, block_count, block_minima, told, told_building}
use Rattle.blocks.specs.Calls.{Builds, Searches, Stretches}
use Rattle.blocks.specs.Promises.{TellsLeast, Point3}
use Rattle.blocks.proofs.Point as point
use Rattle.firmware.specs.declared.takes.FoundNumbers.{FoundNumbers}
use Rattle.firmware.specs.Takes.{in_numbers}
use Rattle.firmware.proofs.filkotar_build.Reads as build-reads
use Rattle.firmware.proofs.filkotar_search.Reads as search-reads
use Rattle.requests.proofs.Takes.{found-told, found_inside, found_stands, found_least, found_earliest}

-- what C is told by `filkotar_build`, and by `filkotar_search`
abbrev pub BuildLearnt : List ℤ → List ℤ → List ℤ → ℕ → Type 0
BuildLearnt values before after r =
    (κs : Lfts 2) × (x : ℕ × ℕ) × (y : MutBor (List ℤ))
    × build-reads.Learnt κs (record { ref_ptr = x; now = values }, (at_last y before, tt)) r (record { ref_ptr = x; now = values }, (at_last y after, tt))

abbrev pub SearchLearnt : List ℤ → List ℤ → (i j : ℕ) → FoundNumbers → Type 0
SearchLearnt values index i j r =
    (κs : Lfts 2) × (x y : ℕ × ℕ)
    × search-reads.Learnt κs (record { ref_ptr = x; now = values }, (record { ref_ptr = y; now = index }, (i, (j, tt)))) r (record { ref_ptr = x; now = values }, (record { ref_ptr = y; now = index }, (i, (j, tt))))

abbrev plainly : ℕ → FoundNumbers
plainly number = record { number = number; value = pos 0; place = 0 }

point_3 : Point3 Builds Searches Stretches
point_3 = point.point_3 Builds Searches Stretches (λ values before after r d. d) (λ values index i j r d. d) (λ at values i j start part d. d)

module _ (values before after : List ℤ) (r : ℕ) (t : BuildLearnt values before after r) where
  pub build_0 : length before ≡ (length values + 63) / 64 → (r ≡ 0) × (after ≡ block_minima values)
  build_0 n =
      let w = (point_3.building values before after t.3.reply t.3.builds).writes n in
      (t.3.number ∙ ap (λ (x : Told). x.number) w.0, w.1)

  pub build_15 : (length before ≡ (length values + 63) / 64 → ⊥) → (r ≡ 15) × (after ≡ before)
  build_15 n =
      let w = (point_3.building values before after t.3.reply t.3.builds).refused n in
      (t.3.number ∙ ap (λ (x : Told). x.number) w.0, w.1)

  pub built : r ≡ 0 → after ≡ block_minima values
  built z = elim (ℕ_discrete (length before) (block_count (length values))) [ yes n ↦ (build_0 n).1 | no n ↦ absurd (omega (arith, (build_15 n).0)) ]

-- the clauses of `Shows`
pub record Shown (values : List ℤ) (i j : ℕ) (r : FoundNumbers) : Type 0 where
  pub accepted : r.number ≡ 0
  pub from : i ≤ r.place
  pub to : r.place ≤ j
  pub stands : get_or values r.place (pos 0) ≡ r.value
  pub least : (k : ℕ) → i ≤ k → k ≤ j → le_z r.value (get_or values k (pos 0)) ≡ true
  pub earliest : (k : ℕ) → i ≤ k → k < r.place → le_z (get_or values k (pos 0)) r.value ≡ false

tells : (values : List ℤ) (i j : ℕ) (a : Result Found Refusal) (r : FoundNumbers) → r ≡ in_numbers (told a) → i ≤ j → j < length values → TellsLeast values i j a → Shown values i j r
tells values i j a r e l h t =
    let inside = found_inside values i j a l h t in
    rw (e, found-told values i j a l h t) (record {
      accepted = refl;
      from = inside.0;
      to = inside.1;
      stands = found_stands values i j a l h t;
      least = found_least values i j a l h t;
      earliest = found_earliest values i j a l h t;
    })

module _ (values index : List ℤ) (i j : ℕ) (r : FoundNumbers) (t : SearchLearnt values index i j r) where
  pub search_15 : (length index ≡ (length values + 63) / 64 → ⊥) → r ≡ plainly 15
  search_15 n = t.3.numbers ∙ ap in_numbers ((point_3.searching values index i j t.3.reply t.3.searches).other_index n)

  pub search_14 : length index ≡ (length values + 63) / 64 → (j < i) ⊎ (length values ≤ j) → r ≡ plainly 14
  search_14 n o = t.3.numbers ∙ ap in_numbers ((point_3.searching values index i j t.3.reply t.3.searches).outside n o)

  pub search_0 : length index ≡ (length values + 63) / 64 → i ≤ j → j < length values → (r.number ≡ 0) × (i ≤ r.place) × (r.place ≤ j)
  search_0 n l h =
      let (f, s, a, b) = (point_3.searching values index i j t.3.reply t.3.searches).shows n l h in
      let e : r ≡ in_numbers (showing f) = t.3.numbers ∙ ap in_numbers s in
      rw e (refl, a, b)

  pub search_least : index ≡ block_minima values → i ≤ j → j < length values → Shown values i j r
  search_least e l h = tells values i j t.3.reply r t.3.numbers l h ((point_3.searching values index i j t.3.reply t.3.searches).least e l h)

any : MutBor (List ℤ)
any = record { ref_ptr = (0, 0); ghost_name = 0; now = [] }

pub build_learnt_of : (values before after : List ℤ) (a : Result (Unit {0}) Refusal) → Builds values before after a → BuildLearnt values before after (told_building a).number
build_learnt_of values before after a d = (([], ([], tt)), (0, 0), any, record { reply = a; builds = d; number = refl })

pub search_learnt_of : (values index : List ℤ) (i j : ℕ) (a : Result Found Refusal) → Searches values index i j a → SearchLearnt values index i j (in_numbers (told a))
search_learnt_of values index i j a d = (([], ([], tt)), (0, 0), (0, 0), record { reply = a; searches = d; numbers = refl })

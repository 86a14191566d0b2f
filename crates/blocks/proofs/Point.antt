-- POINT 3, from the contracts.
use mathlib.Core.Path.{◌≡◌, ap, ◌∙◌}
use mathlib.Core.List.{List}
use mathlib.Core.Logic.{inl, inr}
use Prim.Native.Nat.{ℕ, ◌+◌, ◌*◌, ◌-◌, ◌/◌, ◌%◌, ◌<◌, ◌≤◌}
use native.Mathlib.Omega.{arith}
use lib.IntN.{ℤ, pos}
use lib.ListN.{length, get_or, take, drop, length-take, length-drop}
use lib.Seq.{length-take-le, get_or-take, get_or-drop}
use borrow.Author.Tests.{eq-eqb, ne_eqb}
use Rattle.laws.proofs.Tests.{lt_or_ge}
use Rattle.history.specs.Minima.{minimum}
use Rattle.history.proofs.Lowest.{minimum_least}
use Rattle.std.specs.Prelude.{Result}
use Rattle.history.specs.declared.Refusal.{Refusal}
use Rattle.blocks.specs.Found.{Found}
use Rattle.blocks.specs.Takes.{block_of, block_count, range_refusal, search_refusal}
use Rattle.blocks.specs.Calls.{Builds, Searches, Stretches}
use Rattle.blocks.specs.Promises.{BuildSays, SearchSays, StretchSays, Fitting, Outside, EveryIndex, EveryBuild, EverySearch, EveryStretch, Point3}
use Rattle.blocks.proofs.Refusals.{exceeds, not_below, in_range}
use Rattle.blocks.proofs.Indexes.{length_index, entry}
use Rattle.blocks.proofs.Covering.{length_block}

every_index : (values : List ℤ) → EveryIndex values
every_index values = record {
  fitting = length_index values;
  entries = λ b h. (minimum (block_of values b) (record { 0 = 1 }), minimum_least (block_of values b) (record { 0 = 1 }) (omega arith) (length_block values b h).0, entry values b h);
  blocks = λ k h.
      let there : 64 * (k / 64) + k % 64 ≡ k = omega arith in
      (omega arith, get_or-take 64 (drop (64 * (k / 64)) values) (k % 64) (pos 0) (omega arith) ∙ get_or-drop (64 * (k / 64)) values (k % 64) (pos 0) ∙ ap (λ (i : ℕ). get_or values i (pos 0)) there);
  whole = λ b h. omega (arith, length-take 64 (drop (64 * b) values), length-drop (64 * b) values);
  shorter = λ b h l. omega (arith, length-take 64 (drop (64 * b) values), length-drop (64 * b) values);
}

every_build : (values before after : List ℤ) (r : Result (Unit {0}) Refusal) → Builds values before after r → EveryBuild values before after r
every_build values before after r d = record {
  writes = λ n. let e = eq-eqb (length before) (block_count (length values)) n in (simp e at d.tells, simp e at d.writes);
  refused = λ n. let e = ne_eqb (length before) (block_count (length values)) n in (simp e at d.tells, simp e at d.writes);
}

-- a range that is outside the take gets 14
pub outside_range : (values : List ℤ) (i j : ℕ) → Outside values i j → range_refusal (length values) i j ≡ 14
outside_range values i j (inl l) = exceeds (length values) i j l
outside_range values i j (inr l) = elim (lt_or_ge j i) [ inl m ↦ exceeds (length values) i j m | inr m ↦ not_below (length values) i j m l ]

module _ (values index : List ℤ) (i j : ℕ) (r : Result Found Refusal) (d : Searches values index i j r) where
  accepted_search : Fitting values index → i ≤ j → j < length values → search_refusal (length values) (length index) i j ≡ 0
  accepted_search n l h = simp (eq-eqb (length index) (block_count (length values)) n, in_range (length values) i j l h)

  every_search : EverySearch values index i j r
  every_search = record {
    other_index = λ n. simp (ne_eqb (length index) (block_count (length values)) n) at d.tells;
    outside = λ n o. simp (eq-eqb (length index) (block_count (length values)) n, outside_range values i j o) at d.tells;
    shows = λ n l h. let z = accepted_search n l h in (d.shows, (simp z at d.tells), (d.choice.inside z).0, (d.choice.inside z).1);
    least = λ e l h.
        let z = accepted_search (ap length e ∙ length_index values) l h in
        let n = length-take-le (j + 1) values (omega arith) in (
          minimum (take (j + 1) values) (record { 0 = i + 1 }),
          minimum_least (take (j + 1) values) (record { 0 = i + 1 }) (omega arith) (omega (arith, n)),
          rw (d.choice.correct e) at (simp z at d.tells),
        );
  }

every_stretch : (at : ℕ × ℕ) (values : List ℤ) (i j : ℕ) (start : ℕ × ℕ) (part : List ℤ) → Stretches at values i j start part → EveryStretch at values i j start part
every_stretch at values i j start part d = record {
  long = λ l h.
      let e = in_range (length values) i j l h in
      let has : part ≡ take (j + 1 - i) (drop i values) = simp e at d.has in
      ap length has ∙ omega (arith, length-take (j + 1 - i) (drop i values), length-drop i values);
  same = λ l h k m.
      let e = in_range (length values) i j l h in
      let has : part ≡ take (j + 1 - i) (drop i values) = simp e at d.has in
      ap (λ (vs : List ℤ). get_or vs k (pos 0)) has ∙ get_or-take (j + 1 - i) (drop i values) k (pos 0) (omega arith) ∙ get_or-drop i values k (pos 0);
  own = λ l h. simp (in_range (length values) i j l h) at d.own;
  empty = λ o. simp (outside_range values i j o) at d.has;
  nothing = λ o.
      let first : 0 * 4 + at.1 ≡ at.1 = omega arith in
      let there : start ≡ (at.0, 0 * 4 + at.1) = simp (outside_range values i j o) at d.own in
      there ∙ ap (λ (k : ℕ). (at.0, k)) first;
}

-- of functions of which at least the contracts are known
pub point_3 : (builds : BuildSays) (searches : SearchSays) (stretches : StretchSays)
    → ((values before after : List ℤ) (r : Result (Unit {0}) Refusal) → builds values before after r → Builds values before after r)
    → ((values index : List ℤ) (i j : ℕ) (r : Result Found Refusal) → searches values index i j r → Searches values index i j r)
    → ((at : ℕ × ℕ) (values : List ℤ) (i j : ℕ) (start : ℕ × ℕ) (part : List ℤ) → stretches at values i j start part → Stretches at values i j start part)
    → Point3 builds searches stretches
point_3 builds searches stretches b s t = record {
  index = every_index;
  building = λ values before after r d. every_build values before after r (b values before after r d);
  searching = λ values index i j r d. every_search values index i j r (s values index i j r d);
  built = λ values before after r q i j d e n.
      (every_search values after i j q (s values after i j q e)).least ((every_build values before after r (b values before after r d)).writes n).1;
  stretching = λ at values i j start part d. every_stretch at values i j start part (t at values i j start part d);
}

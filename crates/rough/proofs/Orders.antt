-- The looks, part by part. The blocks that meet the range are first those before the first that begins in it, then those wholly inside, then those behind; and the range's values are those
-- before the blocks wholly inside, those in them, and those behind.
use mathlib.Core.Path.{◌≡◌, refl, sym, ap, ◌∙◌}
use mathlib.Core.Bool.{Bool, true, false, ◌&&◌}
use mathlib.Core.List.{List, ◌++◌, map}
use Rattle.std.specs.List.{filter_map}
use Rattle.std.proofs.lemmas.List.Elements.{filter_map-append}
use mathlib.Core.Logic.{◌⊎◌, inl, inr}
use Rattle.std.specs.Prelude.{None, Some}
use Prim.Native.Nat.{ℕ, ◌+◌, ◌*◌, ◌-◌, ◌/◌, ◌<◌, ◌≤◌, min, max}
use native.Mathlib.Decide.{ℕ_discrete}
use native.Mathlib.Omega.{arith}
use lib.Dec.{leb}
use borrow.Author.Tests.{leb-true, le-leb, lt-leb}
use Rattle.laws.proofs.Tests.{clash, lt_or_ge}
use Rattle.blocks.specs.Takes.{block_count, blocks_before}
use Rattle.blocks.proofs.Covering.{before_end, before_inside}
use Rattle.rough.specs.Looks.{Look, Value, up_from, wholly_inside, edge_look, value_looks}
use Rattle.rough.proofs.Sequences.{up_from_parts, none_kept, all_kept}

-- whether a block is wholly inside
pub inside : (n i j b : ℕ) → i ≤ 64 * b → min (64 * b + 64) n ≤ j + 1 → wholly_inside n i j b ≡ true
inside n i j b l m = simp (le-leb i (64 * b) l, le-leb (min (64 * b + 64) n) (j + 1) m)

pub begins_before : (n i j b : ℕ) → 64 * b < i → wholly_inside n i j b ≡ false
begins_before n i j b l = simp (lt-leb i (64 * b) l)

pub ends_behind : (n i j b : ℕ) → i ≤ 64 * b → j + 1 < min (64 * b + 64) n → wholly_inside n i j b ≡ false
ends_behind n i j b l m = simp (le-leb i (64 * b) l, lt-leb (min (64 * b + 64) n) (j + 1) m)

pub inside_is : (n i j b : ℕ) → wholly_inside n i j b ≡ true → (i ≤ 64 * b) × (min (64 * b + 64) n ≤ j + 1)
inside_is n i j b e = go (leb i (64 * b)) (leb (min (64 * b + 64) n) (j + 1)) refl refl e
  where
    go : (s t : Bool) → leb i (64 * b) ≡ s → leb (min (64 * b + 64) n) (j + 1) ≡ t → s && t ≡ true → (i ≤ 64 * b) × (min (64 * b + 64) n ≤ j + 1)
    go true true p q e = (leb-true i (64 * b) p, leb-true (min (64 * b + 64) n) (j + 1) q)
    go true false p q e = clash refl (sym e)
    go false t p q e = clash refl (sym e)

-- the first block that begins in the range or behind it, and the first behind the blocks wholly inside; and where the values of these begin
abbrev pub inner_of : (i : ℕ) → ℕ
inner_of i = block_count i

abbrev pub outer_of : (n i j : ℕ) → ℕ
outer_of n i j = max (block_count i) (blocks_before n (j + 1))

module _ (n i j : ℕ) (l : i ≤ j) (h : j < n) where
  abbrev first : ℕ
  first = i / 64

  abbrev inner : ℕ
  inner = inner_of i

  abbrev outer : ℕ
  outer = outer_of n i j

  abbrev end : ℕ
  end = j / 64 + 1

  -- the range ends where the take does, or before it
  outer_is : ((j + 1 ≡ n) × (outer ≡ max inner (block_count n))) ⊎ ((j + 1 < n) × (outer ≡ max inner ((j + 1) / 64)))
  outer_is = elim (ℕ_discrete (j + 1) n) [
    | yes q ↦ inl (q, ap (max inner) (before_end n (j + 1) q))
    | no q ↦ inr (omega arith, ap (max inner) (before_inside n (j + 1) q))
  ]

  pub cuts : (first ≤ inner) × (inner ≤ outer) × (outer ≤ end)
  cuts = elim outer_is [
    | inl o ↦ (omega arith, omega (arith, o.1), omega (arith, o.0, o.1))
    | inr o ↦ (omega arith, omega (arith, o.1), omega (arith, o.0, o.1))
  ]

  -- which blocks are wholly inside
  pub left_block : (b : ℕ) → b < inner → wholly_inside n i j b ≡ false
  left_block b m = begins_before n i j b (omega arith)

  pub whole_block : (b : ℕ) → inner ≤ b → b < outer → wholly_inside n i j b ≡ true
  whole_block b m k = elim outer_is [
    | inl o ↦ inside n i j b (omega arith) (omega (arith, o.0))
    | inr o ↦ inside n i j b (omega arith) (omega (arith, o.0, o.1))
  ]

  pub right_block : (b : ℕ) → outer ≤ b → b < end → wholly_inside n i j b ≡ false
  right_block b m k = elim (lt_or_ge (64 * b) i) [
    | inl s ↦ begins_before n i j b s
    | inr s ↦ elim outer_is [
      | inl o ↦ absurd (omega (arith, o.0, o.1))
      | inr o ↦ ends_behind n i j b s (omega (arith, o.0, o.1))
    ]
  ]

  -- where the values before the blocks wholly inside end, and where those behind begin
  abbrev pub left_end : ℕ
  left_end = min (64 * inner) (j + 1)

  abbrev pub right_start : ℕ
  right_start = min (64 * outer) (j + 1)

  pub edges : (i ≤ left_end) × (left_end ≤ right_start) × (right_start ≤ j + 1)
  edges = (omega arith, omega (arith, cuts.1), omega arith)

  left_value : (k : ℕ) → k < left_end → edge_look n i j k ≡ Some (Value k)
  left_value k m = simp (left_block (k / 64) (omega arith))

  whole_value : (k : ℕ) → left_end ≤ k → k < right_start → edge_look n i j k ≡ None
  whole_value k m s = simp (whole_block (k / 64) (omega arith) (omega arith))

  right_value : (k : ℕ) → right_start ≤ k → k < j + 1 → edge_look n i j k ≡ Some (Value k)
  right_value k m s = simp (right_block (k / 64) (omega arith) (omega arith))

  -- THE VALUES, left edge before right edge
  pub values_parts : value_looks n i j ≡ map Value (up_from i (left_end - i)) ++ map Value (up_from right_start (j + 1 - right_start))
  values_parts =
      let e = edges in
      ap (filter_map (edge_look n i j)) (up_from_parts i left_end right_start (j + 1) e.0 e.1 e.2)
      ∙ filter_map-append (edge_look n i j) (up_from i (left_end - i)) (up_from left_end (right_start - left_end) ++ up_from right_start (j + 1 - right_start))
      ∙ ap (λ (xs : List Look). xs ++ filter_map (edge_look n i j) (up_from left_end (right_start - left_end) ++ up_from right_start (j + 1 - right_start)))
      (all_kept (edge_look n i j) Value i (left_end - i) (λ k p q. left_value k (omega (arith, q, e))))
      ∙ ap (λ (xs : List Look). map Value (up_from i (left_end - i)) ++ xs)
      (filter_map-append (edge_look n i j) (up_from left_end (right_start - left_end)) (up_from right_start (j + 1 - right_start))
      ∙ ap (λ (xs : List Look). xs ++ filter_map (edge_look n i j) (up_from right_start (j + 1 - right_start)))
      (none_kept (edge_look n i j) left_end (right_start - left_end) (λ k p q. whole_value k p (omega (arith, q, e))))
      ∙ all_kept (edge_look n i j) Value right_start (j + 1 - right_start) (λ k p q. right_value k p (omega (arith, q, e))))

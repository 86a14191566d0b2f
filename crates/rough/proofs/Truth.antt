-- The least value of a range, and the entries of an index built from that take: how each stands to the values.
use mathlib.Core.Path.{◌≡◌, sym, ◌∙◌}
use mathlib.Core.Bool.{true}
use mathlib.Core.List.{List}
use Prim.Native.Nat.{ℕ, ◌+◌, ◌*◌, ◌-◌, ◌/◌, ◌<◌, ◌≤◌}
use native.Mathlib.Omega.{arith}
use lib.IntN.{ℤ, pos}
use lib.Signed.{le_z}
use lib.ListN.{length, get_or, take, drop, length-take, length-drop}
use lib.Seq.{length-take-le, get_or-take, get_or-drop}
use Rattle.history.specs.Minima.{minimum}
use Rattle.history.proofs.Lowest.{minimum_least}
use Rattle.blocks.specs.Takes.{range_minimum, block_of, block_count, block_minima}
use Rattle.blocks.proofs.Indexes.{entry}
use Rattle.blocks.proofs.Covering.{length_block}

-- the least of a range stands in it, and is at most each of its values
module _ (values : List ℤ) (i j : ℕ) (l : i ≤ j) (h : j < length values) where
  abbrev pub true_one : ℤ
  true_one = (range_minimum values i j).value

  abbrev place : ℕ
  place = (minimum (take (j + 1) values) (record { 0 = i + 1 })).place.0

  long : length (take (j + 1) values) ≡ j + 1
  long = length-take-le (j + 1) values (omega arith)

  pub true_stands : (p : ℕ) × (i ≤ p) × (p ≤ j) × (get_or values p (pos 0) ≡ true_one)
  true_stands =
      let least = minimum_least (take (j + 1) values) (record { 0 = i + 1 }) (omega arith) (omega (arith, long)) in
      let inside : place ≤ j + 1 = omega (arith, least.to, long) in
      (place - 1, omega (arith, least.from), omega (arith, inside), sym (get_or-take (j + 1) values (place - 1) (pos 0) (omega (arith, inside, least.from))) ∙ least.stands)

  pub true_under : (k : ℕ) → i ≤ k → k ≤ j → le_z true_one (get_or values k (pos 0)) ≡ true
  true_under k f t =
      let least = minimum_least (take (j + 1) values) (record { 0 = i + 1 }) (omega arith) (omega (arith, long)) in
      let back : k + 1 - 1 ≡ k = omega arith in
      rw (get_or-take (j + 1) values k (pos 0) (omega arith)) at (rw back at (least.least (record { 0 = k + 1 }) (omega arith) (omega (arith, long))))

-- so it is of a block and its entry
module _ (values : List ℤ) (b : ℕ) (h : b < block_count (length values)) where
  in_block : (t : ℕ) → t < 64 → get_or (block_of values b) t (pos 0) ≡ get_or values (64 * b + t) (pos 0)
  in_block t l = get_or-take 64 (drop (64 * b) values) t (pos 0) l ∙ get_or-drop (64 * b) values t (pos 0)

  pub entry_stands : (k : ℕ) × (64 * b ≤ k) × (k < 64 * b + 64) × (k < length values) × (get_or values k (pos 0) ≡ get_or (block_minima values) b (pos 0))
  entry_stands =
      let n = length_block values b h in
      let least = minimum_least (block_of values b) (record { 0 = 1 }) (omega arith) n.0 in
      let p : ℕ = (minimum (block_of values b) (record { 0 = 1 })).place.0 in
      let to : p ≤ length (block_of values b) = least.to in
      let from : 1 ≤ p = least.from in
      (64 * b + (p - 1), omega arith, omega (arith, n, to, from), omega (arith, n, to, from), sym (in_block (p - 1) (omega (arith, n, to, from))) ∙ least.stands ∙ sym (entry values b h))

  pub entry_under : (k : ℕ) → k < length values → k / 64 ≡ b → le_z (get_or (block_minima values) b (pos 0)) (get_or values k (pos 0)) ≡ true
  entry_under k s e =
      let n = length_block values b h in
      let least = minimum_least (block_of values b) (record { 0 = 1 }) (omega arith) n.0 in
      let long : k - 64 * b < length (block_of values b) = omega (arith, length-take 64 (drop (64 * b) values), length-drop (64 * b) values, e) in
      let back : k - 64 * b + 1 - 1 ≡ k - 64 * b = omega arith in
      let there : 64 * b + (k - 64 * b) ≡ k = omega (arith, e) in
      rw (sym (entry values b h), in_block (k - 64 * b) (omega (arith, e)), there) at (rw back at (least.least (record { 0 = k - 64 * b + 1 }) (omega arith) (omega (arith, long))))

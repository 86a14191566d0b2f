-- The range minimum in two parts that meet at a position: up to it, and from it on.
use mathlib.Core.Path.{◌≡◌, refl, sym, ap, ◌∙◌}
use mathlib.Core.Bool.{Bool, true, false, cond}
use mathlib.Core.List.{List}
use Prim.Native.Nat.{ℕ, ◌-◌, ◌<◌, ◌≤◌}
use native.Mathlib.Decide.{dec_lt}
use native.Mathlib.Omega.{arith}
use lib.IntN.{ℤ, pos}
use lib.Signed.{le_z}
use lib.ListN.{length, take}
use lib.Seq.{length-take-le, get_or-take}
use Rattle.laws.proofs.Tests.{clash, refuted}
use Rattle.laws.proofs.Order.{le_z_trans}
use Rattle.history.specs.declared.Position.{Position}
use Rattle.history.specs.Minima.{takes_over, lower, value_at, minimum, Least}
use Rattle.history.proofs.Choice.{is_lower, no_larger, no_smaller}
use Rattle.history.proofs.Lowest.{minimum_least, least_only}

-- of the least from position i on, where u is at i or behind it
module _ (vs : List ℤ) (i u : Position) (z : 0 < i.0) (o : i.0 ≤ u.0) (h : u.0 ≤ length vs) where
  part : List ℤ
  part = take u.0 vs

  part_long : length part ≡ u.0
  unfolding part
  part_long = length-take-le u.0 vs h

  part_value : (k : Position) → 0 < k.0 → k.0 ≤ u.0 → value_at part k ≡ value_at vs k
  unfolding part
  part_value k a b = get_or-take u.0 vs (k.0 - 1) (pos 0) (omega arith)

  pub part_least : Least (take u.0 vs) i (minimum (take u.0 vs) i)
  unfolding part
  part_least = minimum_least (take u.0 vs) i z (omega (arith, part_long))

  rest_least : Least vs u (minimum vs u)
  rest_least = minimum_least vs u (omega arith) h

  -- the one stands no later than u
  pub part_place : (minimum (take u.0 vs) i).place.0 ≤ u.0
  unfolding part
  part_place = omega (arith, part_least.to, part_long)

  -- and the other no earlier, so that where they stand at one place they are one
  pub rest_place : u.0 ≤ (minimum vs u).place.0
  rest_place = rest_least.from

  pub parts_meet : (minimum (take u.0 vs) i).place.0 ≡ (minimum vs u).place.0 → minimum (take u.0 vs) i ≡ minimum vs u
  unfolding part
  parts_meet e =
      let m = part_least in
      let q : (minimum (take u.0 vs) i).value ≡ (minimum vs u).value =
      sym m.stands ∙ part_value (minimum (take u.0 vs) i).place (omega (arith, m.from)) part_place
      ∙ ap (λ (k : ℕ). value_at vs (record { 0 = k })) e ∙ rest_least.stands in
      λ n. record { value = q n; place = record { 0 = e n } }

  -- by a choice that is made
  choose : (b : Bool) → takes_over (minimum vs u).value (minimum part i).value ≡ b → Least vs i (cond b (minimum vs u) (minimum part i))
  unfolding part
  choose true e =
      let m = part_least in
      let n = rest_least in
      record {
        some = z;
        from = omega (arith, n.from);
        to = n.to;
        stands = n.stands;
        least = λ k f t. elim (dec_lt u.0 k.0) [
          | yes l ↦ n.least k (omega arith) t
          | no l ↦ le_z_trans (minimum vs u).value (minimum part i).value (value_at vs k) (no_larger (minimum vs u).value (minimum part i).value e)
              (rw (part_value k (omega arith) (omega (arith, l))) at (m.least k f (omega (arith, l, part_long))))
        ];
        earliest = λ k f t. elim (dec_lt u.0 k.0) [
          | yes l ↦ n.earliest k (omega arith) t
          | no l ↦ refuted (le_z (value_at vs k) (minimum vs u).value) (λ g.
              clash (le_z_trans (minimum part i).value (value_at vs k) (minimum vs u).value
              (rw (part_value k (omega arith) (omega (arith, l))) at (m.least k f (omega (arith, l, part_long)))) g)
              (is_lower (minimum vs u).value (minimum part i).value e))
        ];
      }
  choose false e =
      let m = part_least in
      let n = rest_least in
      let here = part_value (minimum part i).place (omega (arith, m.from)) part_place in
      record {
        some = z;
        from = m.from;
        to = omega (arith, part_place);
        stands = sym here ∙ m.stands;
        least = λ k f t. elim (dec_lt u.0 k.0) [
          | yes l ↦ le_z_trans (minimum part i).value (minimum vs u).value (value_at vs k) (no_smaller (minimum vs u).value (minimum part i).value e) (n.least k (omega arith) t)
          | no l ↦ rw (part_value k (omega arith) (omega (arith, l))) at (m.least k f (omega (arith, l, part_long)))
        ];
        earliest = λ k f t. rw (part_value k (omega arith) (omega (arith, part_place))) at (m.earliest k f t);
      }

  pub minimum_parts : minimum vs i ≡ lower (minimum (take u.0 vs) i) (minimum vs u)
  unfolding part
  minimum_parts =
      least_only vs i (minimum vs i) (lower (minimum part i) (minimum vs u)) (minimum_least vs i z (omega arith))
      (choose (takes_over (minimum vs u).value (minimum part i).value) refl)

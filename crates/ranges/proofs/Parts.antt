-- The minimum of a row in two parts: that of its own lane and that of the lanes after it.
use mathlib.Core.Path.{◌≡◌, refl, sym, ap, subst, ◌∙◌}
use mathlib.Core.Bool.{Bool, true, false, cond}
use mathlib.Core.List.{List}
use native.Mathlib.Decide.{ℕ_discrete}
use Prim.Native.Nat.{ℕ, ◌<◌, ◌≤◌, min}
use native.Mathlib.Omega.{arith}
use lib.IntN.{ℤ}
use lib.ListN.{length, take}
use Rattle.history.specs.declared.Position.{Position}
use Rattle.history.specs.Minimum.{Minimum}
use Rattle.history.specs.Minima.{takes_over, lower, minimum}
use Rattle.history.proofs.TwoParts.{part_place, rest_place, parts_meet, minimum_parts}
use Rattle.layout.specs.declared.Extent.{Extent}
use Rattle.layout.specs.Words.{Lower, row₀, bottom, position, least_word}
use Rattle.packing.specs.Packing.{packed, Faithful}
use Rattle.packing.proofs.Words.{packed-lower, faithful_lower}
use Rattle.stack.proofs.Runs.{rests_unique, covers_rests, first_covers}
use Rattle.ranges.specs.Holding.{LaneHolds}

-- the lower of two that are one
one : (b : Bool) (d : Minimum) → cond b d d ≡ d
one true d = refl
one false d = refl

lower_one : (d m : Minimum) → d ≡ m → lower d m ≡ d
lower_one d m e = subst (λ (y : Minimum). lower d y ≡ d) e (one (takes_over d.value d.value) d)

module _ (vs : List ℤ) (i u : Position) (z : 0 < i.0) (o : i.0 ≤ u.0) (h : u.0 ≤ length vs) (f : Faithful (minimum (take u.0 vs) i)) (g : Faithful (minimum vs u)) where
  abbrev d : Minimum
  d = minimum (take u.0 vs) i

  abbrev m : Minimum
  m = minimum vs u

  pub packed_parts : min (packed d) (packed m) ≡ packed (minimum vs i)
  packed_parts = elim (ℕ_discrete d.place.0 m.place.0) [
    | yes e ↦
        let q = parts_meet vs i u z o h e in
        let r : packed d ≡ packed m = ap packed q in
        let s : min (packed d) (packed m) ≡ packed d = omega (arith, r) in
        s ∙ ap packed (sym (lower_one d m q) ∙ sym (minimum_parts vs i u z o h))
    | no e ↦
        sym (packed-lower d m f g (omega (arith, e, part_place vs i u z o h, rest_place vs i u z o h))) ∙ ap packed (sym (minimum_parts vs i u z o h))
  ]

  pub faithful_parts : Faithful (minimum vs i)
  faithful_parts = subst Faithful (sym (minimum_parts vs i u z o h)) (faithful_lower d m f g)

-- the lowest entry of a lane is its first row's minimum
pub lowest_entry : {w : List ℕ} {e : Extent} {values : List ℤ} → LaneHolds w e values → Lower row₀ e.rows
    → least_word w e.lane bottom ≡ packed (minimum values (position w e.lane row₀))
lowest_entry a l = rests_unique a.stacked (covers_rests (first_covers a.stacked l)) (a.row row₀ l).rests

-- A scan of some values for the least of them, and one for its place.
use mathlib.Core.Path.{◌≡◌, refl, sym, ap, ◌∙◌}
use mathlib.Core.Bool.{Bool, true, false, cond}
use mathlib.Core.List.{List, [], ◌∷◌}
use mathlib.Core.Logic.{inl, inr}
use Rattle.std.specs.Prelude.{Some}
use Prim.Native.Nat.{ℕ, zero, suc, ◌+◌, ◌-◌, ◌<◌, ◌≤◌, max}
use native.Mathlib.Omega.{arith}
use lib.IntN.{ℤ, pos}
use lib.ListN.{length, get_or, take}
use lib.Seq.{take-suc, take_all, length-take-le}
use Rattle.std.specs.List.{fold}
use Rattle.std.proofs.lemmas.List.Sums.{fold_more}
use Rattle.laws.proofs.Tests.{clash, lt_or_ge}
use Rattle.laws.proofs.Order.{le_z_refl}
use Rattle.history.specs.declared.Position.{Position}
use Rattle.history.specs.Minimum.{Minimum}
use Rattle.history.specs.Minima.{takes_over, lower, stands_at, next, lowest, present_at, minimum, Least}
use Rattle.history.proofs.Lowest.{minimum_more, minimum_least}
use Rattle.blocks.specs.Takes.{minimum_from, least_of}
use Rattle.blocks.proofs.Founds.{chosen}

abbrev first : Position
first = record { 0 = 1 }

-- the least of the first k values, or of the first one at the start
abbrev pub LeastSoFar : List ℤ → ℕ → ℤ → Type 0
LeastSoFar vs k m = m ≡ (minimum_from (take (max k 1) vs) 0).value

alone : (vs : List ℤ) → 0 < length vs → (minimum_from (take 1 vs) 0).value ≡ get_or vs 0 (pos 0)
unfolding lowest
alone [] h = absurd (omega arith)
alone (v ∷ vs) h = refl

pub so_far_first : (vs : List ℤ) → 0 < length vs → LeastSoFar vs 0 (get_or vs 0 (pos 0))
so_far_first vs h = sym (alone vs h)

-- one value more
pub so_far_more : (vs : List ℤ) (k : ℕ) (m : ℤ) → k < length vs → LeastSoFar vs k m
    → LeastSoFar vs (k + 1) (cond (takes_over (get_or vs k (pos 0)) m) (get_or vs k (pos 0)) m)
so_far_more vs zero m h e = both (takes_over (get_or vs 0 (pos 0)) m)
  where
    both : (b : Bool) → cond b (get_or vs 0 (pos 0)) m ≡ (minimum_from (take 1 vs) 0).value
    both true = sym (alone vs h)
    both false = e
so_far_more vs (suc k) m h e =
    let v : ℤ = get_or vs (suc k) (pos 0) in
    let now : max (suc k) 1 ≡ suc k = omega arith in
    let later : max (suc k + 1) 1 ≡ suc (suc k) = omega arith in
    let d : Minimum = minimum (take (suc k) vs) first in
    let n = length-take-le (suc k) vs (omega arith) in
    let more : minimum (take (suc (suc k)) vs) first ≡ lower d (stands_at v (next (present_at (take (suc k) vs)))) =
    rw (take-suc vs (suc k) (pos 0) h) (minimum_more (take (suc k) vs) v first (omega arith) (omega (arith, n))) in
    let q : m ≡ d.value = rw now at e in
    rw (later, q)
    (sym (ap (λ (x : Minimum). x.value) more ∙ chosen (λ (x : Minimum). x.value) (takes_over v d.value) (stands_at v (next (present_at (take (suc k) vs)))) d))

-- the least so far, and one value more
abbrev pub step : ℤ → ℤ → ℤ
step least v = cond (takes_over v least) v least

so_far : (vs : List ℤ) (k : ℕ) → 0 < length vs → k ≤ length vs → LeastSoFar vs k (fold step (get_or vs 0 (pos 0)) (take k vs))
so_far vs zero h l = so_far_first vs h
so_far vs (suc k) h l =
    let one : k + 1 ≡ suc k = omega arith in
    rw (← one, fold_more step (get_or vs 0 (pos 0)) vs k (pos 0) (omega arith)) (so_far_more vs k _ (omega arith) (so_far vs k h (omega arith)))

-- so the least of some values is what all of them come to, from the first on
pub folded : (vs : List ℤ) → 0 < length vs → fold step (get_or vs 0 (pos 0)) vs ≡ (minimum_from vs 0).value
folded vs h =
    let all : take (length vs) vs ≡ vs = take_all (length vs) vs (omega arith) in
    let one : max (length vs) 1 ≡ length vs = omega arith in
    rw (one, all) at (so_far vs (length vs) h (omega arith))

-- the least stands where it is found, and every value before it is higher
module _ (vs : List ℤ) (h : 0 < length vs) where
  abbrev m : Minimum
  m = minimum vs first

  least : Least vs first m
  least = minimum_least vs first (omega arith) h

  pub stands : get_or vs (minimum_from vs 0).place.0 (pos 0) ≡ (minimum_from vs 0).value
  stands = least.stands

  pub none_before : (k : ℕ) → get_or vs k (pos 0) ≡ (minimum_from vs 0).value → (minimum_from vs 0).place.0 ≤ k
  none_before k e = elim (lt_or_ge k (minimum_from vs 0).place.0) [
    | inr g ↦ g
    | inl g ↦
        let back : k + 1 - 1 ≡ k = omega arith in
        let higher = least.earliest (record { 0 = k + 1 }) (omega arith) (omega (arith, least.from)) in
        clash (le_z_refl m.value) (rw (back, e) at higher)
  ]

-- of some values there is a least
pub least_some : (vs : List ℤ) → 0 < length vs → least_of vs ≡ Some (minimum_from vs 0).value
least_some [] h = absurd (omega (arith, h))
least_some (v ∷ vs) h = refl

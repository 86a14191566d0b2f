-- The window's oldest position: it is the first whose value has not left, and with each value it stays or moves on by one.
use mathlib.Core.Path.{◌≡◌, ap}
use mathlib.Core.Logic.{◌⊎◌, inl, inr, ⊎_elim}
use Prim.Native.Nat.{ℕ, ◌+◌, ◌<◌, ◌≤◌}
use native.Mathlib.Omega.{arith}
use Rattle.laws.proofs.Tests.{lt_or_ge}
use Rattle.history.specs.declared.Position.{Position}
use Rattle.history.specs.Minima.{next}
use Rattle.window.specs.Windows.{oldest}
use Rattle.window.specs.Claim.{OldestInside}

-- THE OLDEST IS THE FIRST INSIDE
pub oldest_inside : OldestInside
oldest_inside width present w = record { some = omega arith; stays = λ k a b c. omega arith; leaves = λ k a. omega arith }

-- before the first value it is position 1
pub first_oldest : (width : ℕ) → oldest (record { 0 = 0 }) width ≡ record { 0 = 1 }
first_oldest width = ap (λ (n : ℕ). record { 0 = n }) (omega arith)

module _ (p : Position) (width : ℕ) (w : 1 ≤ width) where
  -- the value that comes is in the window, which has no more values than its width
  pub newest_inside : (oldest (next p) width).0 ≤ (next p).0
  newest_inside = omega arith

  pub as_wide : (next p).0 < (oldest (next p) width).0 + width
  as_wide = omega arith

  -- and just as many, where any has left
  pub as_many : ((oldest (next p) width).0 ≡ 1) ⊎ ((oldest (next p) width).0 + width ≡ (next p).0 + 1)
  as_many = ⊎_elim (λ (l : p.0 < width). inl (omega arith)) (λ (l : width ≤ p.0). inr (omega arith)) (lt_or_ge p.0 width)

  -- with a value more the oldest position stays, or is the next one
  pub moves_on : (oldest (next p) width ≡ oldest p width) ⊎ (oldest (next p) width ≡ next (oldest p width))
  moves_on =
      ⊎_elim
      (λ (l : p.0 < width). inl (ap (λ (n : ℕ). record { 0 = n }) (omega arith)))
      (λ (l : width ≤ p.0). inr (ap (λ (n : ℕ). record { 0 = n }) (omega arith)))
      (lt_or_ge p.0 width)

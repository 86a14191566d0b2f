-- There is room for so many rows or there is not; and where there is, there is for fewer.
use mathlib.Core.List.{List}
use mathlib.Core.Logic.{◌⊎◌, inl, inr, ⊎_elim}
use Prim.Native.Nat.{ℕ, ◌+◌, ◌*◌, ◌<◌, ◌≤◌}
use native.Mathlib.Omega.{arith}
use lib.ListN.{length}
use Rattle.laws.proofs.Tests.{lt_or_ge}
use Rattle.layout.specs.Words.{Room}

-- there is room or not
pub room_or_not : (w : List ℕ) (n : ℕ) → Room w n ⊎ (Room w n → ⊥)
room_or_not w n =
    ⊎_elim (λ (l : 8207 < n). inr (λ r. omega (arith, r.few)))
    (λ (l : n ≤ 8207).
    ⊎_elim (λ (m : length w < 32 + 32 * n). inr (λ r. omega (arith, r.wide))) (λ (m : 32 + 32 * n ≤ length w). inl (record { few = l; wide = m }))
    (lt_or_ge (length w) (32 + 32 * n)))
    (lt_or_ge 8207 n)

-- there is room for fewer
pub room_below : {w : List ℕ} {m n : ℕ} → Room w n → m ≤ n → Room w m
room_below r l = record { few = omega (arith, r.few); wide = omega (arith, r.wide) }

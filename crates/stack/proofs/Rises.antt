-- A sequence of numbers that does not fall from one place to the next does not fall over any number of places.
use mathlib.Core.Path.{◌≡◌, ap}
use mathlib.Core.Logic.{⊎_elim}
use Prim.Native.Nat.{ℕ, zero, suc, ◌+◌, ◌<◌, ◌≤◌}
use native.Mathlib.Nat.{eq-or-lt_of_le}
use native.Mathlib.Numerals.{add-one}
use native.Mathlib.Omega.{arith}

-- below `top`, no number is above the next
abbrev pub Rises : (ℕ → ℕ) → ℕ → Type 0
Rises a top = (n : ℕ) → n + 1 < top → a n ≤ a (n + 1)

-- below `top`, no number is above a later one
pub rises : {a : ℕ → ℕ} {top : ℕ} → Rises a top → (i j : ℕ) → i ≤ j → j < top → a i ≤ a j
rises {a} r i zero l h = let e : i ≡ 0 = omega arith in omega (arith, ap a e)
rises {a} r i (suc j) l h =
    ⊎_elim (λ (e : i ≡ suc j). omega (arith, ap a e))
    (λ (m : i < suc j). omega (arith, rises r i j (omega arith) (omega arith), r j (omega arith), ap a (add-one j)))
    (eq-or-lt_of_le l)

-- Tests that are true or false, and two natural numbers compared: the cases that there are, and those that there cannot be.
use mathlib.Core.Path.{◌≡◌, refl, sym, ◌∙◌}
use mathlib.Core.Bool.{Bool, true, false, ◌||◌, true≢false}
use mathlib.Core.Logic.{◌⊎◌, inl, inr}
use Prim.Native.Nat.{ℕ, ◌<◌, ◌≤◌}
use native.Mathlib.Decide.{dec_lt}
use native.Mathlib.Omega.{arith}

-- no test is both true and false
pub clash : {C : Type 0} {b : Bool} → b ≡ true → b ≡ false → C
clash p q = absurd (true≢false (sym p ∙ q))

-- a test that cannot hold fails
pub refuted : (t : Bool) → (t ≡ true → ⊥) → t ≡ false
refuted true n = absurd (n refl)
refuted false n = refl

-- where one test or the other holds, the one holds or the other
pub either : (a b : Bool) → a || b ≡ true → (a ≡ true) ⊎ (b ≡ true)
either true b e = inl e
either false b e = inr e

-- a number is below another or not
pub lt_or_ge : (a b : ℕ) → (a < b) ⊎ (b ≤ a)
lt_or_ge a b = elim (dec_lt a b) [ yes l ↦ inl l | no f ↦ inr (omega arith) ]

-- two numbers are equal where neither is below the other
pub neither_below : {a b : ℕ} → (a < b → ⊥) → (b < a → ⊥) → a ≡ b
neither_below {a} {b} l m = elim (dec_lt a b) [
  | yes p ↦ absurd (l p)
  | no p ↦ elim (dec_lt b a) [ yes q ↦ absurd (m q) | no q ↦ omega arith ]
]

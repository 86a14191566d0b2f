-- The words of values are ordered as the values are.
use mathlib.Core.Path.{◌≡◌, sym, ◌∙◌}
use mathlib.Core.Logic.{⊎_elim}
use Prim.Native.Nat.{ℕ, suc, ◌+◌, ◌-◌, ◌<◌, ◌≤◌}
use native.Mathlib.Omega.{arith}
use lib.Dec.{ltb}
use lib.IntN.{ℤ, pos, negsuc, ◌-ℤ◌}
use lib.Signed.{lt_z}
use borrow.Author.Tests.{le-ltb, lt-ltb}
use mir.Syntax.{w32}
use mir.Val.{SFits}
use Rattle.laws.proofs.Tests.{lt_or_ge}
use Rattle.signed.specs.Word.{word_of, lower_half, value_of}

-- two tests with the same cases are the same
same_test : (a b c d : ℕ) → (a < b → c < d) → (b ≤ a → d ≤ c) → ltb a b ≡ ltb c d
same_test a b c d f g =
    ⊎_elim
    (λ (l : a < b). lt-ltb a b l ∙ sym (lt-ltb c d (f l)))
    (λ (l : b ≤ a). le-ltb a b l ∙ sym (le-ltb c d (g l)))
    (lt_or_ge a b)

-- a value is below that of a number of 32 bits where its word is below the number
below : (v : ℤ) (x : ℕ) → SFits w32 v → x < 4294967296 → lt_z v (pos x -ℤ pos 2147483648) ≡ ltb (word_of v) x
below (pos n) x f h =
    ⊎_elim
    (λ (l : x < 2147483648). simp (lt-ltb x 2147483648 l) (sym (le-ltb (n + 2147483648) x (omega arith))))
    (λ (l : 2147483648 ≤ x). simp (le-ltb x 2147483648 l) (same_test n (x - 2147483648) (n + 2147483648) x (λ m. omega arith) (λ m. omega arith)))
    (lt_or_ge x 2147483648)
below (negsuc n) x f h =
    let k : suc n ≤ 2147483648 = omega (arith, f.sfits) in
    ⊎_elim
    (λ (l : x < 2147483648). simp (le-ltb 2147483648 (suc n) k, lt-ltb x 2147483648 l) (same_test (2147483648 - suc x) n (2147483648 - suc n) x (λ m. omega arith) (λ m. omega arith)))
    (λ (l : 2147483648 ≤ x). simp (le-ltb 2147483648 (suc n) k, le-ltb x 2147483648 l) (sym (lt-ltb (2147483648 - suc n) x (omega arith))))
    (lt_or_ge x 2147483648)

pub ordered : (v : ℤ) (x : ℕ) → SFits w32 v → x < 4294967296 → lt_z v (value_of x) ≡ ltb (word_of v) x
ordered v x f h = let e : lower_half x ≡ x = omega arith in rw e (below v x f h)

-- A rule that every entry of a table obeys: one test, computed over the whole table, and the law that carries it to each entry.
use mathlib.Core.Path.{◌≡◌}
use mathlib.Core.Bool.{Bool, true, ◌&&◌, and-eq-true_iff}
use mathlib.Core.List.{List, [], ◌∷◌}
use Prim.Native.Nat.{ℕ, zero, suc, ◌+◌, ◌<◌}
use native.Mathlib.Omega.{arith}
use lib.ListN.{length, get_or}

-- a test of an entry's number and the entry holds of each entry of a table, numbered from i on
abbrev pub every : (ℕ → ℕ → Bool) → ℕ → List ℕ → Bool
every test i [] = true
every test i (x ∷ xs) = test i x && every test (suc i) xs

-- so it holds of entry n, counted from 0
pub every_entry : (test : ℕ → ℕ → Bool) (i : ℕ) (xs : List ℕ) → every test i xs ≡ true → (n : ℕ) → n < length xs → test (i + n) (get_or xs n 0) ≡ true
every_entry test i [] e n h = absurd (omega arith)
every_entry test i (x ∷ xs) e zero h = let q : i + 0 ≡ i = omega arith in rw q ((and-eq-true_iff (test i x) (every test (suc i) xs)).0 e).0
every_entry test i (x ∷ xs) e (suc n) h =
    let q : i + suc n ≡ suc i + n = omega arith in
    rw q (every_entry test (suc i) xs ((and-eq-true_iff (test i x) (every test (suc i) xs)).0 e).1 n (omega arith))

-- Values that are read one after the other: one value more, behind the others, and how many there are.
use mathlib.Core.Path.{◌≡◌, refl, sym, ap, ◌∙◌}
use mathlib.Core.List.{List, [], ◌∷◌, ◌++◌}
use Prim.Native.Nat.{ℕ, zero, suc, ◌+◌, ◌*◌, ◌<◌}
use native.Mathlib.Nat.{add-zero}
use native.Mathlib.Numerals.{add-one}
use native.Mathlib.Omega.{arith}
use lib.ListN.{length, take, set}
use lib.Seq.{take_all, take-suc-set}
use lib.IntN.{ℤ}
use Rattle.numbers.specs.FourBytes.{value_at, values_from}

-- one value more, behind n
pub values_more : (n at : ℕ) (bytes : List ℕ) → values_from (suc n) at bytes ≡ values_from n at bytes ++ (value_at bytes (at + 4 * n) ∷ [])
unfolding values_from
values_more zero at bytes = rw (add-zero at)
values_more (suc n) at bytes =
    let k : at + 4 + 4 * n ≡ at + 4 * suc n = omega arith in
    ap (λ (x : List ℤ). value_at bytes at ∷ x) (values_more n (at + 4) bytes ∙ ap (λ (x : ℕ). values_from n (at + 4) bytes ++ (value_at bytes x ∷ [])) k)

-- there are as many as were asked for
pub values_length : (n at : ℕ) (bytes : List ℕ) → length (values_from n at bytes) ≡ n
unfolding values_from
values_length zero at bytes = refl
values_length (suc n) at bytes = ap suc (values_length n (at + 4) bytes)

-- a list whose first i are the first i values: none at first
pub values_none : (at : ℕ) (bytes : List ℕ) → [] ≡ values_from 0 at bytes
unfolding values_from
values_none at bytes = refl

-- with the next one written behind them
pub values_set : (xs : List ℤ) (i at : ℕ) (bytes : List ℕ) → i < length xs → take i xs ≡ values_from i at bytes
    → take (i + 1) (set xs i (value_at bytes (at + 4 * i))) ≡ values_from (i + 1) at bytes
values_set xs i at bytes l e = rw (add-one i, take-suc-set xs i (value_at bytes (at + 4 * i)) l, values_more i at bytes, e) refl

-- and all of it in the end
pub values_all : (xs : List ℤ) (i at : ℕ) (bytes : List ℕ) → take i xs ≡ values_from i at bytes → i ≡ length xs → xs ≡ values_from (length xs) at bytes
values_all xs i at bytes e l = sym (take_all i xs (omega arith)) ∙ e ∙ ap (λ (n : ℕ). values_from n at bytes) l

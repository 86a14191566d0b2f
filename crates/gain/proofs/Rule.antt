-- The rule of an entry. The product g ^ 80 * 10 ^ n never falls as g or n grows, so where a number fits, every smaller one does, with every smaller n too. Hence
-- what fits is at most the largest, there is one largest only, and with a larger n it is no larger. Going down from a number above which nothing fits finds it.
use mathlib.Core.Path.{◌≡◌, refl}
use mathlib.Core.Bool.{Bool, true, false, not, ◌&&◌, cond, and-eq-true_iff}
use mathlib.Core.Logic.{inl, inr}
use mathlib.Core.List.{List}
use Prim.Native.Nat.{ℕ, zero, suc, ◌+◌, ◌*◌, ◌^◌, ◌≤◌, zero-le}
use native.Mathlib.Nat.{le_refl, le_trans, le_antisymm, mul-le-mul, pow-le-pow_left, pow-le-pow_right, zero-mul}
use native.Mathlib.Omega.{arith}
use lib.Dec.{lit<}
use lib.ListN.{length, get_or}
use borrow.Author.Tests.{leb-true, le-leb, not-true}
use Rattle.laws.proofs.Tests.{clash, refuted, lt_or_ge}
use Rattle.laws.proofs.Tables.{every, every_entry}
use Rattle.gain.specs.Gains.{fits, Largest, largest_to, entry_of}

-- where a number fits, every smaller one does, with every smaller n too
smaller_fits : {g h n m : ℕ} → g ≤ h → n ≤ m → fits m h ≡ true → fits n g ≡ true
smaller_fits {g} {h} {n} {m} l k f =
    le-leb (g ^ 80 * 10 ^ n) (32768 ^ 80)
    (le_trans (mul-le-mul (pow-le-pow_left l 80) (pow-le-pow_right (lit< tt) k)) (leb-true (h ^ 80 * 10 ^ m) (32768 ^ 80) f))

-- what fits is at most the largest
pub largest_of : (n g h : ℕ) → Largest n g → fits n h ≡ true → h ≤ g
largest_of n g h l f = elim (lt_or_ge g h) [ inl k ↦ clash (smaller_fits k (le_refl n) f) l.next | inr k ↦ k ]

-- there is one largest only
pub largest_only : (n g h : ℕ) → Largest n g → Largest n h → g ≡ h
largest_only n g h l m = le_antisymm (largest_of n h g m l.this) (largest_of n g h l m.this)

-- one step down, where the test of a number is known
step_down : (n b : ℕ) (t : Bool) → fits n (suc b) ≡ t → fits n (suc (suc b)) ≡ false → (fits n (suc b) ≡ false → Largest n (largest_to n b))
    → Largest n (cond t (suc b) (largest_to n b))
step_down n b true e h further = record { this = e; next = h }
step_down n b false e h further = further e

-- going down from a number whose next does not fit ends at the largest
found : (n b : ℕ) → fits n (suc b) ≡ false → Largest n (largest_to n b)
unfolding largest_to
found n zero h = record { this = le-leb (0 * 10 ^ n) (32768 ^ 80) (rw (zero-mul (10 ^ n)) zero-le); next = h }
found n (suc b) h = step_down n b (fits n (suc b)) refl h (found n b)

-- an entry is the largest: 32,769 does not fit with 0, and so with no n
pub entry_largest : (n : ℕ) → Largest n (entry_of n)
unfolding entry_of
entry_largest n = found n 32768 (refuted (fits n 32769) (λ f. clash (smaller_fits {n = 0} {m = n} (le_refl 32769) zero-le f) refl))

-- the entries never rise
pub entries_never_rise : (n m : ℕ) → n ≤ m → entry_of m ≤ entry_of n
entries_never_rise n m k = largest_of n (entry_of n) (entry_of m) (entry_largest n) (smaller_fits (le_refl (entry_of m)) k (entry_largest m).this)

-- the rule as a test of an entry's number and the entry
abbrev pub obeys : ℕ → ℕ → Bool
obeys n g = fits n g && not (fits n (suc g))

pub largest_tested : (n g : ℕ) → obeys n g ≡ true → Largest n g
largest_tested n g e =
    let both = (and-eq-true_iff (fits n g) (not (fits n (suc g)))).0 e in
    record { this = both.0; next = not-true (fits n (suc g)) both.1 }

-- the number that passes the test with n is entry n
pub entry_is : (n g : ℕ) → obeys n g ≡ true → entry_of n ≡ g
entry_is n g e = largest_only n (entry_of n) g (entry_largest n) (largest_tested n g e)

-- no entry is above 32,768, which is entry 0
pub entry_at_most : (n : ℕ) → entry_of n ≤ 32768
entry_at_most n = rw (entry_is 0 32768 refl) at (entries_never_rise 0 n zero-le)

-- a table of 241 entries that passes the test has at n the largest number that fits
pub table_obeys : (table : List ℕ) → every obeys 0 table ≡ true → length table ≡ 241 → (n : ℕ) → n ≤ 240 → Largest n (get_or table n 0)
table_obeys table e long n k =
    let q : 0 + n ≡ n = omega arith in
    largest_tested n (get_or table n 0) (rw q at (every_entry obeys 0 table e n (omega arith)))

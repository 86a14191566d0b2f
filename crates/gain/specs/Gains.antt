-- Document 02, point 1, "Layer gain from the dip": "The mixer wants a gain from 0 to 32,768."
use Rattle.std.specs.Prelude.{◌≡◌, Bool, true, false, cond, ℕ, zero, suc, ◌*◌, ◌^◌, leb, ℤ, pos, negsuc}

-- "g^80 × 10^n at most 32,768^80"
abbrev pub fits : ℕ → ℕ → Bool
fits n g = leb (g ^ 80 * 10 ^ n) (32768 ^ 80)

-- "the largest whole g with" that: g fits, and g + 1 does not
pub record Largest (n g : ℕ) : Type 0 where
  pub this : fits n g ≡ true
  pub next : fits n (suc g) ≡ false

-- the largest number up to b that fits, looked for from b down; 0 fits always
unfoldable pub largest_to : ℕ → ℕ → ℕ
largest_to n zero = zero
largest_to n (suc b) = cond (fits n (suc b)) (suc b) (largest_to n b)

-- "Entry n of a constant list of 241 gains, n from 0 to 240, is the largest whole g with g^80 × 10^n at most 32,768^80." Nothing above 32,768 fits, whatever n
-- is, so the search misses nothing: the entry is `Largest`, and no other number is (`Promises.Point1`, `rule` and `only`).
unfoldable pub entry_of : ℕ → ℕ
entry_of n = largest_to n 32768

-- "A dip value of 0 or more gets 32,768; a value −n down to −240 gets entry n; anything lower gets 0." `pos n` is n, and `negsuc k` is −n with n = k + 1.
abbrev pub gain_of : ℤ → ℕ
gain_of (pos n) = 32768
gain_of (negsuc k) = cond (leb (suc k) 240) (entry_of (suc k)) 0

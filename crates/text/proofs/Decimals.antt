-- The fewest digits that hold a number are its decimal digits, and how many there are at most.
use mathlib.Core.Path.{◌≡◌, ◌∙◌}
use mathlib.Core.List.{List, [], ◌∷◌, ◌++◌}
use Prim.Native.Nat.{ℕ, zero, suc, ◌+◌, ◌*◌, ◌-◌, ◌/◌, ◌%◌, ◌<◌, ◌≤◌, ◌^◌}
use native.Mathlib.Nat.{pow-succ', one-le-pow, pow-le-pow_right, mod-eq_of_lt, le-div_iff_mul-le, div-lt_iff_lt-mul}
use native.Mathlib.Numerals.{sub-one}
use native.Mathlib.Decide.{dec_lt}
use native.Mathlib.Omega.{arith}
use lib.ListN.{length, take, length-append}
use borrow.Author.Tests.{lt-ltb, le-ltb}
use Rattle.io.specs.Digits.{hex_digit_ascii, last_digits, IsDigitCount}
use Rattle.text.specs.Writing.{digits_within, decimal_of}

-- a number of two digits or more is no less than the least of that many
least : (k n : ℕ) → IsDigitCount 10 1 n (suc (suc k)) → 10 * 10 ^ k ≤ n
least k n f = simp (sub-one, pow-succ') at (f.2 (omega arith))

-- one digit less for a tenth of the number
tenth : (k n : ℕ) → IsDigitCount 10 1 n (suc (suc k)) → IsDigitCount 10 1 (n / 10) (suc k)
tenth k n f = (
  omega arith,
  (div-lt_iff_lt-mul {k = 10} {x = n} {y = 10 ^ suc k} (omega arith)).1 (omega (arith, f.1, pow-succ' 10 (suc k))),
  λ h. simp sub-one ((le-div_iff_mul-le {k = 10} {x = 10 ^ k} {y = n} (omega arith)).1 (omega (arith, least k n f))),
)

-- the fewest digits that hold n, where they are no more than `most`
pub spelled : (most k n : ℕ) → k ≤ most → IsDigitCount 10 1 n k → last_digits 10 k n ≡ digits_within most n
unfolding digits_within
spelled zero k n l f = absurd (omega (arith, f.0))
spelled (suc most) zero n l f = absurd (omega (arith, f.0))
spelled (suc most) (suc zero) n l f = simp (lt-ltb n 10 f.1, mod-eq_of_lt {n = n} {m = 10} f.1)
spelled (suc most) (suc (suc k)) n l f =
    simp (le-ltb n 10 (omega (arith, least k n f, one-le-pow k 10 (omega arith))), spelled most (suc k) (n / 10) (omega arith) (tenth k n f))

-- a number of 64 bits has no more than 20 digits
pub few : (k n : ℕ) → n < 18446744073709551616 → IsDigitCount 10 1 n k → k ≤ 20
few k n l f = elim (dec_lt 20 k) [
  | yes h ↦ absurd (omega (arith, f.2 (omega arith), pow-le-pow_right {n = 10} (omega arith) {i = 20} {j = k - 1} (omega arith)))
  | no h ↦ omega arith
]

-- so they are the decimal digits of a number of 64 bits
pub written : (k n : ℕ) (out : List ℕ) → n < 18446744073709551616 → IsDigitCount 10 1 n k → take k out ≡ last_digits 10 k n → take k out ≡ decimal_of n
written k n out l f e = e ∙ spelled 20 k n (few k n l f) f

-- a number below 10 ^ (k + 1) has no more than k + 1 digits
pub within : (most k n : ℕ) → n < 10 ^ suc k → length (digits_within most n) ≤ suc k
unfolding digits_within
within zero k n l = omega arith
within (suc most) zero n l = simp (lt-ltb n 10 l) (omega arith)
within (suc most) (suc k) n l = elim (dec_lt n 10) [
  | yes h ↦ simp (lt-ltb n 10 h) (omega arith)
  | no h ↦
      let tenths = within most k (n / 10) ((div-lt_iff_lt-mul {k = 10} {x = n} {y = 10 ^ suc k} (omega arith)).1 (omega (arith, l, pow-succ' 10 (suc k)))) in
      simp (le-ltb n 10 (omega arith)) (omega (arith, tenths, length-append (digits_within most (n / 10)) (hex_digit_ascii (n % 10) ∷ [])))
]

-- no number has more digits than there may be
pub capped : (most n : ℕ) → length (digits_within most n) ≤ most
unfolding digits_within
capped zero n = omega arith
capped (suc most) n = elim (dec_lt n 10) [
  | yes h ↦ simp (lt-ltb n 10 h) (omega arith)
  | no h ↦ simp (le-ltb n 10 (omega arith)) (omega (arith, capped most (n / 10), length-append (digits_within most (n / 10)) (hex_digit_ascii (n % 10) ∷ [])))
]

-- so one of 8 bits has no more than three, a running number no more than five, a number of 32 bits no more than ten, and one of 64 bits no more than twenty
pub byte_few : (n : ℕ) → n < 256 → length (decimal_of n) ≤ 3
byte_few n l = within 20 2 n (omega arith)

pub ordinal_few : (n : ℕ) → n < 100000 → length (decimal_of n) ≤ 5
ordinal_few n l = within 20 4 n (omega arith)

pub place_few : (n : ℕ) → n < 4294967296 → length (decimal_of n) ≤ 10
place_few n l = within 20 9 n (omega arith)

pub word_few : (n : ℕ) → length (decimal_of n) ≤ 20
word_few n = capped 20 n

-- and as many more behind a text
pub behind_few : (text : List ℕ) (n : ℕ) → length (text ++ decimal_of n) ≤ length text + 20
behind_few text n = omega (arith, length-append text (decimal_of n), word_few n)

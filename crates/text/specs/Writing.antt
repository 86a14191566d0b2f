-- What is written into bytes that are lent, and numbers as text: decimal digits, with a minus sign before a negative number.
use Rattle.std.specs.Prelude.{◌≡◌, cond, List, [], ◌∷◌, ◌++◌, ℕ, zero, suc, ◌+◌, ◌/◌, ◌%◌, ℤ, pos, negsuc, ltb, length, take}
use Rattle.io.specs.Digits.{hex_digit_ascii}

-- a text is written behind the first `used` bytes: `after` starts with those of `before` and then the text, r bytes together, and its length is that of `before`
pub record Adds (before : List ℕ) (used : ℕ) (text after : List ℕ) (r : ℕ) : Type 0 where
  pub says : take r after ≡ take used before ++ text
  pub counts : r ≡ used + length text
  pub long : length after ≡ length before

-- the decimal digits of a number that has no more than so many, the most significant first. For d below 10 `hex_digit_ascii d` is the byte of the digit d, 48 + d
unfoldable pub digits_within : ℕ → ℕ → List ℕ
digits_within zero n = []
digits_within (suc most) n = cond (ltb n 10) (hex_digit_ascii n ∷ []) (digits_within most (n / 10) ++ (hex_digit_ascii (n % 10) ∷ []))

-- of a number of 64 bits
abbrev pub decimal_of : ℕ → List ℕ
decimal_of n = digits_within 20 n

-- the value −n − 1 is `negsuc n`
abbrev pub signed_text : ℤ → List ℕ
signed_text (pos n) = decimal_of n
signed_text (negsuc n) = 45 ∷ decimal_of (suc n)

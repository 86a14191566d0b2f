-- The numbers and the values that stand in the bytes of a program's input, four bytes each, least significant first. What a program takes them for is its own affair.
use Rattle.std.specs.Prelude.{List, [], ◌∷◌, ℕ, zero, suc, ◌+◌, ℤ, take, drop}
use Rattle.endian.specs.Numbers.{little_endian}
use Rattle.signed.specs.TwosComplement.{signed_of}

-- the unsigned number of the four bytes from an offset on
abbrev pub number_at : List ℕ → ℕ → ℕ
number_at bytes at = little_endian (take 4 (drop at bytes))

-- the value whose two's complement stands there
abbrev pub value_at : List ℕ → ℕ → ℤ
value_at bytes at = signed_of (number_at bytes at)

-- n values, from an offset on
unfoldable pub values_from : (n at : ℕ) → List ℕ → List ℤ
values_from zero at bytes = []
values_from (suc n) at bytes = value_at bytes at ∷ values_from n (at + 4) bytes

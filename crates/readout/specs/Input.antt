-- The limiter's input: W, the number of words to lend, and values. The quotes are from its description, at the head of Output.
use Rattle.std.specs.Prelude.{List, ℕ, ◌+◌, ◌*◌, ◌-◌, ◌/◌, ◌%◌, min, ℤ, length}
use Rattle.numbers.specs.FourBytes.{number_at, values_from}

-- "bytes 0 to 3 are W"
abbrev pub width_of : List ℕ → ℕ
width_of bytes = number_at bytes 0

-- "and bytes 4 to 7 the number of words to lend (more than 8,192 counts as 8,192)"
abbrev pub words_of : List ℕ → ℕ
words_of bytes = min (number_at bytes 4) 8192

-- "then values, four bytes each, two's complement": how many have all their four bytes
abbrev pub count_of : List ℕ → ℕ
count_of bytes = (length bytes - 8) / 4

abbrev pub values_of : List ℕ → List ℤ
values_of bytes = values_from (count_of bytes) 8 bytes

-- how many bytes are left behind them, and "their byte offset"
abbrev pub left_of : List ℕ → ℕ
left_of bytes = (length bytes - 8) % 4

abbrev pub end_of : List ℕ → ℕ
end_of bytes = 8 + 4 * count_of bytes

-- Document 01, "Command bytes": "Value's is two's complement". The signed value that an unsigned number of 32 bits stands for.
use Rattle.std.specs.Prelude.{cond, ℕ, ℤ, pos, ◌-ℤ◌, ltb}

-- "two's complement", of 32 bits: from 2 ^ 31 on, an unsigned number stands for itself less 2 ^ 32
abbrev pub signed_of : ℕ → ℤ
signed_of n = cond (ltb n 2147483648) (pos n) (pos n -ℤ pos 4294967296)

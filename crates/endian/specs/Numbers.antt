-- Document 01, "Command bytes": "Arguments are four bytes, least significant first". The number that bytes in this order make, of as many as there are.
use Rattle.std.specs.Prelude.{List, [], ◌∷◌, ℕ, ◌+◌, ◌*◌}

-- the unsigned number of any number of bytes, "least significant first"
abbrev pub little_endian : List ℕ → ℕ
little_endian [] = 0
little_endian (byte ∷ more) = byte + 256 * little_endian more

-- The line that says where a program reads no more of its bytes, as the limiter and `lookup` have it.
use Rattle.std.specs.Prelude.{List, [], ◌∷◌, ◌++◌, ℕ, zero, suc}
use Rattle.text.specs.Writing.{decimal_of}
use Rattle.text.specs.Parts.{spaced, newline}

-- `stop` and a byte offset
abbrev pub stop_line : ℕ → List ℕ
stop_line offset = 115 ∷ 116 ∷ 111 ∷ 112 ∷ spaced (decimal_of offset ++ newline)

-- where bytes are left at that offset
abbrev pub stop_lines : (left offset : ℕ) → List ℕ
stop_lines zero offset = []
stop_lines (suc more) offset = stop_line offset

-- Document 01, "Played examples": lines with running numbers, "per command its running number from 1", whatever else stands in them.
use Rattle.std.specs.Prelude.{List, [], ◌∷◌, ◌++◌, ℕ, ◌+◌}

-- a line for each command and what it is told, numbered from n on
abbrev pub lines_from : {Command Told : Type 0} → (line : ℕ → Command → Told → List ℕ) → ℕ → List Command → List Told → List ℕ
lines_from line n [] told = []
lines_from line n (c ∷ cs) [] = []
lines_from line n (c ∷ cs) (t ∷ ts) = line n c t ++ lines_from line (n + 1) cs ts

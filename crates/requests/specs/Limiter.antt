-- An example of the limiter's whole output, for W = 2 on 4 words and the values 3, 1, 2, 2. A line of it is a line here.
use Rattle.std.specs.Prelude.{List, [], ◌∷◌, ℕ}

-- open 0, 1 0 3 1, 2 0 1 2, 3 0 1 2, 4 0 2 3, end 4 4
abbrev pub output : List ℕ
output =
    111 ∷ 112 ∷ 101 ∷ 110 ∷ 32 ∷ 48 ∷ 10
    ∷ 49 ∷ 32 ∷ 48 ∷ 32 ∷ 51 ∷ 32 ∷ 49 ∷ 10
    ∷ 50 ∷ 32 ∷ 48 ∷ 32 ∷ 49 ∷ 32 ∷ 50 ∷ 10
    ∷ 51 ∷ 32 ∷ 48 ∷ 32 ∷ 49 ∷ 32 ∷ 50 ∷ 10
    ∷ 52 ∷ 32 ∷ 48 ∷ 32 ∷ 50 ∷ 32 ∷ 51 ∷ 10
    ∷ 101 ∷ 110 ∷ 100 ∷ 32 ∷ 52 ∷ 32 ∷ 52 ∷ 10
    ∷ []

-- An example of the whole output of `lookup`, for the values 5 and −3, an index of one entry and a search of both. A line of it is a line here.
use Rattle.std.specs.Prelude.{List, [], ◌∷◌, ℕ}

-- build 0, index -3, 1 search 0 -3 1, end 1
abbrev pub found : List ℕ
found =
    98 ∷ 117 ∷ 105 ∷ 108 ∷ 100 ∷ 32 ∷ 48 ∷ 10
    ∷ 105 ∷ 110 ∷ 100 ∷ 101 ∷ 120 ∷ 32 ∷ 45 ∷ 51 ∷ 10
    ∷ 49 ∷ 32 ∷ 115 ∷ 101 ∷ 97 ∷ 114 ∷ 99 ∷ 104 ∷ 32 ∷ 48 ∷ 32 ∷ 45 ∷ 51 ∷ 32 ∷ 49 ∷ 10
    ∷ 101 ∷ 110 ∷ 100 ∷ 32 ∷ 49 ∷ 10
    ∷ []

-- Document 02, point 1: its worked numbers, and those around 0 and at both ends of the values. The theorem is `examples_worked` of proofs/Examples.
use Rattle.std.specs.Prelude.{◌≡◌, List, [], ◌∷◌, map, ℕ, ℤ, pos, neg_ℤ}
use Rattle.gain.specs.Gains.{gain_of}

-- a value and its gain
pub record Example : Type 0 where
  pub value : ℤ
  pub gain : ℕ

-- an example's value with the gain that the definition gives it
abbrev pub worked : Example → Example
worked e = record { value = e.value; gain = gain_of e.value }

-- each example of a list has the gain that the definition gives
abbrev pub AllWorked : List Example → Type 0
AllWorked es = map worked es ≡ es

-- a value of n, and of -n
abbrev plus : ℕ → ℕ → Example
plus n g = record { value = pos n; gain = g }

abbrev minus : ℕ → ℕ → Example
minus n g = record { value = neg_ℤ (pos n); gain = g }

abbrev pub examples : List Example
examples =
    -- "So −80 gives 3,276, −240 gives 32 and −241 gives 0."
    minus 80 3276
    ∷ minus 240 32
    ∷ minus 241 0
    -- where "0 or more" ends
    ∷ plus 1 32768
    ∷ plus 0 32768
    ∷ minus 1 31838
    -- both ends of the values, "a signed 32-bit number"
    ∷ plus 2147483647 32768
    ∷ minus 2147483648 0
    ∷ []

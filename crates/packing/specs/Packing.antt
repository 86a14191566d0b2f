-- A minimum as one word: its value, offset by 2 ^ 31, in the upper half and its place in the lower. A lower word is a lower value or, of equal values, an earlier place:
-- "Among equal least values the place is the earliest" (document 02, point 5).
use Rattle.std.specs.Prelude.{◌≡◌, ℕ, ◌+◌, ◌*◌, ◌/◌, ◌%◌, ℤ}
use Rattle.history.specs.declared.Position.{Position}
use Rattle.history.specs.Minimum.{Minimum}
use Rattle.history.specs.Minima.{stands_at}
use Rattle.signed.specs.Word.{word_of, value_of}

abbrev pub packed : Minimum → ℕ
packed m = word_of m.value * 4294967296 + m.place.0

-- the value and the place of any word, and its minimum, so that every word has one
abbrev pub value_in : ℕ → ℤ
value_in x = value_of (x / 4294967296)

abbrev pub place_in : ℕ → Position
place_in x = record { 0 = x % 4294967296 }

abbrev pub unpacked : ℕ → Minimum
unpacked x = stands_at (value_in x) (place_in x)

-- the minimum has a word of its own: its value has 32 bits, and so has its place
abbrev pub Faithful : Minimum → Type 0
Faithful m = unpacked (packed m) ≡ m
